-- What an effect has to bring for what stands of trades to stand after it, and what each kind of
-- effect brings.
use Rattle.laws_days.proofs.Common.{Bool, List, None, Option, Some, ℕ, [], if◌then◌else◌, inl, inr}
use Rattle.laws_days.proofs.Common.{map, option_to_list, refl, subst, true, false, ◌++◌, ◌∷◌, ◌≡◌}
use Rattle.laws_days.proofs.Common.{Duty, RoomRef, DealerFact, AtDesk, ShownIn, Sent}
use Rattle.laws_days.proofs.Common.{Actor, Effect, Dealer, acting_dealer, dealer_of, done_by}
use Rattle.laws_days.proofs.Common.{nothing, Every, every_both, every_weaker}
use Rattle.laws_days.proofs.Common.{AtDealer, Fact, InRoom, RoomFact, fact_if, where_follows}
use Rattle.laws_days.proofs.VenueInvariant.{ByDealer}
use Rattle.laws_days.proofs.VenueParts.{Still, did_in, duties_by, still_later}
use Rattle.laws_days.proofs.VenueSteps.{Here, day, since}
use Rattle.laws_days.proofs.VenueTurns.{Grown, doing_now, grown}
use Rattle.laws_trades.proofs.TradeParts.{TradeDone, TradeDuty, TradeFact, TradeOk}

module _ (h : Here) (effect : Effect) where
  abbrev pub FactNow : Fact → Type 0
  FactNow fact = Still (TradeFact h.config fact) (day h effect)

  abbrev pub DutyNow : Duty → Type 0
  DutyNow left = Still (TradeDuty h.config h.by left) (day h effect)

  abbrev pub DoneNow : Duty → Type 0
  DoneNow left = Still (TradeDone left) (day h effect)

  -- what an effect has to bring
  pub record Makes : Type 0 where
    pub facts : Every FactNow effect.facts
    pub left : Every DutyNow effect.duties

  grown_by : (other : Actor) → Grown h.venue h.by effect h.doing other
  grown_by other = grown h.venue h.by effect h.doing other (λ a. (h.stood.queues a).within)

  pub ok_after : TradeOk h.config h.venue → Makes → Every DoneNow (doing_now h.venue h.by h.doing)
      → TradeOk h.config (day h effect)
  ok_after stood makes done = record {
    facts = every_both FactNow h.venue.facts effect.facts
        (every_weaker (λ fact. Still (TradeFact h.config fact) h.venue) FactNow
        (λ fact stands. still_later (TradeFact h.config fact) (since h effect) stands) h.venue.facts
        stood.facts)
        makes.facts;
    left = λ other. rw ((grown_by other).left) (every_both
        (λ left. Still (TradeDuty h.config other left) (day h effect))
        (duties_by other h.venue.caused) (grown_by other).added
        (every_weaker (λ left. Still (TradeDuty h.config other left) h.venue) _
        (λ left stands. still_later (TradeDuty h.config other left) (since h effect) stands)
        (duties_by other h.venue.caused) (stood.left other)) (added other).0);
    done = λ other. rw ((grown_by other).did) (every_both DoneNow
        (did_in h.venue other) (grown_by other).also
        (every_weaker (λ left. Still (TradeDone left) h.venue) DoneNow
        (λ left stands. still_later (TradeDone left) (since h effect) stands)
        (did_in h.venue other) (stood.done other)) (added other).1);
  }
    where
      added : (other : Actor)
          → Every (λ left. Still (TradeDuty h.config other left) (day h effect))
          (grown_by other).added
          × Every DoneNow (grown_by other).also
      added other = elim ((grown_by other).own) [
        | inl none ↦ rw (none.0, none.1) (tt, tt)
        | inr own ↦ subst (λ (a : Actor).
            Every (λ left. Still (TradeDuty h.config a left) (day h effect)) (grown_by other).added
            × Every DoneNow (grown_by other).also) own.0
            (rw (own.1, own.2) (makes.left, done))
      ]

module _ (h : Here) where
  pub idle_makes : Makes h nothing
  idle_makes = record { facts = tt; left = tt }

  pub when_makes : (b : Bool) (effect : Effect) → (b ≡ true → Makes h effect)
      → Makes h (if b then effect else nothing)
  when_makes true effect makes = makes refl
  when_makes false effect makes = idle_makes

  pub unless_makes : (b : Bool) (effect : Effect) → (b ≡ false → Makes h effect)
      → Makes h (if b then nothing else effect)
  unless_makes true effect makes = idle_makes
  unless_makes false effect makes = makes refl

  pub acting_makes : (who : ByDealer h.config h.by) (action : Dealer → Effect)
      → Makes h (action (dealer_of who.dealer who.row))
      → Makes h (done_by (acting_dealer h.config h.by) action)
  acting_makes who action makes = simp (who.by_is, who.row_is) makes

  -- what comes to stand at a dealer's desk: nothing of it is of a trade but the rooms that are shown
  pub desk_facts : (effect : Effect) (dealer : ℕ) (facts : List DealerFact) (rooms : List RoomRef)
      (messages : List (List ℕ))
      → Every (λ room. FactNow h effect (AtDealer dealer (ShownIn room))) rooms
      → Every (FactNow h effect)
      (map (AtDealer dealer) (map AtDesk facts ++ map ShownIn rooms ++ map Sent messages))
  desk_facts effect dealer (fact ∷ facts) rooms messages shown =
      (λ now later. tt, desk_facts effect dealer facts rooms messages shown)
  desk_facts effect dealer [] (room ∷ rooms) messages shown =
      (shown.0, desk_facts effect dealer [] rooms messages shown.1)
  desk_facts effect dealer [] [] (message ∷ messages) shown =
      (λ now later. tt, desk_facts effect dealer [] [] messages tt)
  desk_facts effect dealer [] [] [] shown = tt

  -- what comes to stand in a room where a test holds
  pub room_facts : (effect : Effect) (room : RoomRef) (b : Bool) (fact : RoomFact)
      → FactNow h effect (InRoom room fact)
      → Every (FactNow h effect) (map (InRoom room) (fact_if b fact))
  room_facts effect room true fact is = (is, tt)
  room_facts effect room false fact is = tt

  -- what is left where a test holds
  pub where_left : (effect : Effect) (b : Bool) (left : Duty) → DutyNow h effect left
      → Every (DutyNow h effect) (where_follows b left)
  where_left effect true left is = (is, tt)
  where_left effect false left is = tt

  pub if_left : (effect : Effect) (b : Bool) (duties : List Duty)
      → Every (DutyNow h effect) duties → Every (DutyNow h effect) (if b then duties else [])
  if_left effect true duties is = is
  if_left effect false duties is = tt

  pub some_left : (effect : Effect) (left : Option Duty)
      → ((one : Duty) → left ≡ Some one → DutyNow h effect one)
      → Every (DutyNow h effect) (option_to_list left)
  some_left effect None is = tt
  some_left effect (Some one) is = (is one refl, tt)
