use Rattle.std.proofs.Common.{◌≡◌, arith, lit<}
use Rattle.std.proofs.lemmas.Fmt.{length-decimal-le}
use Rattle.fix_fields.proofs.writer.push_long_tag.Goals as goal

pub write_digits-start-requires : goal.write_digits-start-requires
write_digits-start-requires c =
    let tag_is : c.from.result ≡ c.args.tag = c.from.ensures in
    let tag_fits = c.ranges.tag.fits in
    (length-decimal-le 10 c.from.result (lit< tt) (omega arith) (omega arith), omega arith)
