use Rattle.std.proofs.Common.{◌≤◌, Option, IfSome, option_map, sym, subst}
use Rattle.dealer_desk.specs.declared.standing.StandingQuote.{StandingQuote}
use Rattle.dealer_desk.proofs.KeptLemmas.{asked_drop}
use Rattle.dealer_desk.proofs.desks.DealerDesk.question_drop.Goals as goal

pub returns-clause-own : goal.returns-clause-own
returns-clause-own c =
    let desk = c.self.inside in
    rw (← c.self.view_is)
    (subst
    (λ (found : Option StandingQuote).
    IfSome (option_map (λ (own : StandingQuote). own.quote.number) found)
    (λ quote. (1 ≤ quote) × (quote ≤ desk.row.quotes)))
    (sym c.in_ok-own.ensures)
    (asked_drop desk.date desk.row desk.events.items desk.sent.items desk.notes.items desk.index c.args.last c.self.invariant))
