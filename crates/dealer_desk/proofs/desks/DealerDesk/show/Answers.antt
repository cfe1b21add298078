use Rattle.std.proofs.Common.{◌≡◌, ap, ◌∙◌}
use Rattle.market_terms.specs.declared.asks.Ask.{Ask}
use Rattle.dealer_desk.specs.DealerFacts.{Shown}
use Rattle.dealer_desk.specs.DealerTable.{with_request}
use Rattle.dealer_desk.proofs.KeptLemmas.{kept_shown}
use Rattle.dealer_desk.proofs.desks.DealerDesk.show.Goals as goal

pub invariant_of-self-2 : goal.invariant_of-self-2
invariant_of-self-2 c =
    let desk = c.self.inside in
    let changed : c.show.new.self ≡ with_request desk.index c.args.room (Shown c.args.ask c.args.moment) =
    c.in_ok-show.ensures.ok c.args.moment
    ∙ ap (λ (ask : Ask). with_request desk.index c.args.room (Shown ask c.args.moment)) c.copy-2.ensures in
    rw (c.in_ok-push.ensures.items, c.in_ok-reserve.ensures.items, c.in_ok-push-2.ensures.items, c.in_ok-reserve-2.ensures.items, c.in_ok-push-3.ensures.items, c.in_ok-reserve-3.ensures.items)
    (rw (c.in_ok-message.ensures, c.copy.ensures, c.requests_shown-number.ensures.value, c.deref.ensures.value)
    (kept_shown desk.date desk.row desk.events.items desk.sent.items desk.notes.items desk.index c.show.new.self
    c.args.room c.args.ask c.args.moment c.self.invariant changed))
