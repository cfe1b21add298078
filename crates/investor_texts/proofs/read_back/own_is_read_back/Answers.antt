use Rattle.std.proofs.Common.{arith}
use Rattle.hex.specs.Hex.{IsBytes}
use Rattle.hex.proofs.HexLemmas.{decode_of-encode_lower}
use Rattle.investor_texts.proofs.ReadBackMessages.{own_back}
use Rattle.investor_texts.proofs.read_back.own_is_read_back.Goals as goal

pub returns : goal.returns
returns c some =
    let fits : IsBytes c.args.message.now = λ i. let f = c.type_inv.message i in omega arith in
    own_back c.args.date.now c.args.moment c.args.message.now some
    (decode_of-encode_lower c.args.message.now fits) c.time_is_read_back.ensures
