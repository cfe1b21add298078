use Rattle.std.proofs.Common.{not, ◌==◌, rules, tests}
use Rattle.std.proofs.lemmas.Fn.{filter_same}
use Rattle.request_room.proofs.book.leave_others.Goals as goal

pub returns-clause-items : goal.returns-clause-items
returns-clause-items c =
    filter_same _ (λ one. not (one.quote.dealer == c.args.dealer)) _
    (λ x b f k. search (rules, tests)) _ _ c.retain.ensures.filtered
