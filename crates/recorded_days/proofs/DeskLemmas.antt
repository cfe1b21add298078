-- A dealer's desk event by event, and the dealer view at such a desk.
use Rattle.std.proofs.Common.{◌≡◌, ℕ, List, ap, ◌∙◌}
use Rattle.venue_rows.specs.declared.dealer_rows.DealerRow.{DealerRow}
use Rattle.dealer_desk.specs.DealerFacts.{DealerFact}
use Rattle.dealer_desk.specs.DealerOutput.{DeskState}
use Rattle.dealer_desk.specs.declared.events.DealerEvent.{DealerEvent}
use Rattle.step_replay.specs.DealerView.{ViewState}

-- the view at a desk with these events, where these quotes are lifted
abbrev pub view_of : List ℕ → DealerRow → List DealerEvent → List ℕ → ViewState
view_of date row events lifted = record {
  desk = record { date = date; row = row; events = events };
  lifted = lifted;
}

-- a desk with these facts, whose dealer was sent these messages
abbrev desk_with : List DealerFact → List (List ℕ) → DeskState
desk_with facts sent = record { facts = facts; sent = sent }

pub both : (facts facts_too : List DealerFact) (sent sent_too : List (List ℕ))
    → facts ≡ facts_too → sent ≡ sent_too → desk_with facts sent ≡ desk_with facts_too sent_too
both facts facts_too sent sent_too one other =
    ap (λ f. desk_with f sent) one ∙ ap (λ s. desk_with facts_too s) other
