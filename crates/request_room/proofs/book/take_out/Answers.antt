use Rattle.std.proofs.Common.{not, rules, tests}
use Rattle.std.proofs.lemmas.Fn.{filter_same}
use Rattle.request_room.specs.Kept.{is_kept_of}
use Rattle.request_room.proofs.book.take_out.Goals as goal

pub returns : goal.returns
returns c =
    filter_same _ (λ one. not (is_kept_of c.args.dealer c.args.w one)) _
    (λ x b f k. search (rules, tests)) _ _ c.retain.ensures.filtered
