use Rattle.std.proofs.Common.{◌≡◌, decimal, sym, ◌∙◌}
use Rattle.fix_sessions.proofs.writing.put_numbered.Goals as goal

pub returns : goal.returns
returns c =
    let digits : c.as_bytes-digits.result.now ≡ decimal c.args.number = c.as_bytes-digits.ensures.value ∙ c.format.ensures.text in
    rw (sym digits) c.put_pair.ensures
