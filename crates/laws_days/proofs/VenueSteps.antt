-- What an effect has to bring for what stands in a venue to stand after it.
use Rattle.laws_days.proofs.Common.{List, None, Option, Some, ℕ, [], inl, inr, refl, subst, ◌++◌}
use Rattle.laws_days.proofs.Common.{◌≡◌, Duty, Configuration, dealer_numbered, DealerRow, Told}
use Rattle.laws_days.proofs.Common.{Actor, Effect, AuditTrail, AtDesk, DealerEntry, rooms_by, Each}
use Rattle.laws_days.proofs.Common.{Every, Stays, each_append, every_both, every_weaker}
use Rattle.laws_days.proofs.Common.{AreNumbered, in_left, seen_is_kept, dealer_grown, Seen, IsKept}
use Rattle.laws_days.proofs.Common.{Fact, of_dealer, IsOneOf, next_sent}
use Rattle.market_terms.specs.declared.closes.Close.TheVariants as closes
use Rattle.step_replay.specs.DealerTrail.{message_in}
use Rattle.step_replay.specs.EachLemmas.{each_weaker}
use Rattle.step_replay.specs.WordLemmas.{one_is_kept}
use Rattle.laws_days.proofs.ListLemmas.{first_grown}
use Rattle.laws_days.proofs.NoticeLemmas.{IsNoticed, noticed_is_kept}
use Rattle.laws_days.proofs.VenueInvariant.{DeskOk, DutyOk, FactOk, LeftOk, MarketOk, QueueOk}
use Rattle.laws_days.proofs.VenueInvariant.{VenueOk}
use Rattle.laws_days.proofs.VenueParts.{InOrder, Later, Mark, MarkOk, NamesLifted, OrderOk, Still}
use Rattle.laws_days.proofs.VenueParts.{did_in, duties_by, later_both, mark_of, marks, marks_both}
use Rattle.laws_days.proofs.VenueParts.{still_later}
use Rattle.laws_days.proofs.VenueTurns.{Doing, Grown, doing_now, grown, venue_with}

next_sent_stays : (message : List ℕ) (after more : List DealerEntry)
    → next_sent after ≡ Some message → next_sent (after ++ more) ≡ Some message
next_sent_stays message after more is =
    first_grown next_sent message_in (λ entry later. refl) refl message after more is

names_after : (date : List ℕ) (row : DealerRow) → Stays (NamesLifted date row)
names_after date row before (AtDesk (Told request closes.Hit moment)) after more holds = record {
  own = holds.own;
  notice = holds.notice;
  live = holds.live;
  lifted = holds.lifted;
  written = holds.written;
  named = holds.named;
  sent = next_sent_stays _ after more holds.sent;
}
names_after date row before other after more holds = tt

-- a venue in which an actor does something
pub record Here : Type 0 where
  pub config : Configuration
  pub venue : AuditTrail
  pub stood : VenueOk config venue
  pub by : Actor
  pub doing : Doing venue by

module _ (h : Here) where
  -- its queue, and the trail of a dealer
  abbrev pub queue : List Duty
  queue = duties_by h.by h.venue.caused

  abbrev pub trail_of : ℕ → List DealerEntry
  trail_of dealer = of_dealer dealer h.venue.facts

  -- what entries more keep at a desk: that the rooms that were shown are numbered, and what its
  -- notices name
  abbrev pub DeskAdds : ℕ → DealerRow → List DealerEntry → Type 0
  DeskAdds dealer row entries = AreNumbered (rooms_by (trail_of dealer ++ entries))
      × Each (NamesLifted h.config.date row) (trail_of dealer) entries

-- what is left goes on to stand in a queue
order_later : {was now : AuditTrail} → Later was now → (before : List Mark) (mark : Option Mark)
    → OrderOk was before mark → OrderOk now before mark
order_later later before None order = tt
order_later later before (Some mark) order =
    (order.0, still_later (InOrder before mark) later order.1)

module _ (h : Here) (effect : Effect) where
  -- the day then
  abbrev pub day : AuditTrail
  day = venue_with h.venue h.by effect h.doing

  abbrev pub FactThen : Fact → Type 0
  FactThen fact = Still (FactOk h.config fact) day

  abbrev pub DutyThen : Duty → Type 0
  DutyThen left = Still (DutyOk h.config h.by left) day

  abbrev pub LeftThen : List Duty → List Duty → Type 0
  LeftThen before duties = Each (LeftOk h.config day h.by) before duties

  -- what an effect has to bring
  pub record Brings : Type 0 where
    pub facts : Every FactThen effect.facts
    pub left : LeftThen (queue h) effect.duties
    pub adds : (dealer : ℕ) (row : DealerRow) → dealer_numbered h.config dealer ≡ Some row
        → DeskAdds h dealer row (of_dealer dealer effect.facts)
    pub markets : (investor : ℕ) → MarketOk h.config day.facts investor

  -- what stands as the duty is done
  abbrev pub DoneThen : List Duty → Type 0
  DoneThen left = Every (λ mark. Still (MarkOk mark) day) (marks left)

  grown_by : (other : Actor) → Grown h.venue h.by effect h.doing other
  grown_by other = grown h.venue h.by effect h.doing other (λ a. (h.stood.queues a).within)

  -- it is a later one
  pub since : Later h.venue day
  since = record {
    more = effect.facts;
    facts_are = refl;
    left = λ other one is. rw ((grown_by other).left) (in_left one _ _ is);
    did = λ other one is. rw ((grown_by other).did) (in_left one _ _ is);
  }

  pub to_now : {now : AuditTrail} → Later day now → Later h.venue now
  to_now later = later_both since later

  pub ok_then : ((dealer : ℕ) (row : DealerRow) → dealer_numbered h.config dealer ≡ Some row
      → (P : List DealerEntry → Type 0) → IsKept h.config.date row P → P (trail_of h dealer)
      → P (of_dealer dealer day.facts))
      → Brings → DoneThen (doing_now h.venue h.by h.doing) → VenueOk h.config day
  ok_then keeps brings done = record {
    facts = every_both FactThen h.venue.facts effect.facts
        (every_weaker (λ fact. Still (FactOk h.config fact) h.venue) FactThen
        (λ fact stands. still_later (FactOk h.config fact) since stands) h.venue.facts
        h.stood.facts)
        brings.facts;
    queues = queue_then;
    desks = desk_then;
    markets = brings.markets;
  }
    where
      added_ok : (other : Actor)
          → Each (LeftOk h.config day other) (duties_by other h.venue.caused)
          (grown_by other).added
          × Every (λ mark. Still (MarkOk mark) day) (marks (grown_by other).also)
      added_ok other = elim ((grown_by other).own) [
        | inl none ↦ rw (none.0, none.1) (tt, tt)
        | inr own ↦ subst (λ (a : Actor).
            Each (LeftOk h.config day a) (duties_by a h.venue.caused) (grown_by other).added
            × Every (λ mark. Still (MarkOk mark) day) (marks (grown_by other).also)) own.0
            (rw (own.1, own.2) (brings.left, done))
      ]

      queue_then : (other : Actor) → QueueOk h.config day other
      queue_then other = record {
        left = rw ((grown_by other).left)
            (each_append (LeftOk h.config day other) (λ before left after more ok. ok) []
            (duties_by other h.venue.caused) (grown_by other).added
            (each_weaker (LeftOk h.config h.venue other) (LeftOk h.config day other)
            (λ before left after ok. (
              still_later (DutyOk h.config other left) since ok.0,
              order_later since (marks before) (mark_of left) ok.1,
            )) [] _ (h.stood.queues other).left) (added_ok other).0);
        done = rw ((grown_by other).did, marks_both)
            (every_both (λ mark. Still (MarkOk mark) day) (marks (did_in h.venue other)) _
            (every_weaker (λ mark. Still (MarkOk mark) h.venue) (λ mark. Still (MarkOk mark) day)
            (λ mark stands. still_later (MarkOk mark) since stands) _ (h.stood.queues other).done)
            (added_ok other).1);
        within = (grown_by other).within;
      }

      desk_then : (dealer : ℕ) (row : DealerRow) → dealer_numbered h.config dealer ≡ Some row
          → DeskOk h.config day.facts dealer row
      desk_then dealer row is =
          let date = h.config.date in
          let stood = h.stood.desks dealer row is in
          let adds = brings.adds dealer row is in
          record {
            seen = keeps dealer row is (Seen date row) (seen_is_kept date row) stood.seen;
            one_of = keeps dealer row is IsOneOf (one_is_kept date row) stood.one_of;
            noticed = keeps dealer row is IsNoticed (noticed_is_kept date row) stood.noticed;
            numbered = rw (dealer_grown dealer h.venue.facts effect.facts) (adds.0);
            names = rw (dealer_grown dealer h.venue.facts effect.facts)
                (each_append (NamesLifted date row) (names_after date row) []
                (trail_of h dealer) (of_dealer dealer effect.facts) stood.names adds.1);
          }
