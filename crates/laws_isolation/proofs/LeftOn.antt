-- What an action of one side leaves is on that side, with all that it names, where it asks nobody
-- across.
use Rattle.std.proofs.Common.{◌≡◌, ℕ, Bool, true, false, List, IfSome, Some, refl, sym, ◌∙◌, subst}
use Rattle.std.specs.List.{list_any}
use Rattle.market_terms.specs.declared.closes.Close.{Close}
use Rattle.market_terms.specs.declared.duties.Duty.{Duty}
use Rattle.market_terms.specs.declared.duties.Duty.TheVariants as duty
use Rattle.market_terms.specs.declared.rooms.RoomRef.{RoomRef}
use Rattle.venue_rows.specs.Rows.{Configuration, dealer_numbered}
use Rattle.venue_rows.specs.declared.dealer_rows.DealerRow.{DealerRow}
use Rattle.venue_rows.specs.declared.investor_rows.InvestorRow.{InvestorRow}
use Rattle.dealer_desk.specs.DealerOutput.{post_of}
use Rattle.dealer_desk.specs.declared.verdicts.DealerVerdict.{DealerVerdict}
use Rattle.dealer_desk.specs.declared.verdicts.DealerVerdict.TheVariants as verdict
use Rattle.investor_desk.specs.InvestorDesk.{market_of}
use Rattle.investor_desk.specs.InvestorOutput as investor_output
use Rattle.investor_desk.specs.InvestorRules.{investor_verdict}
use Rattle.investor_desk.specs.declared.verdicts.InvestorVerdict.{InvestorVerdict}
use Rattle.investor_desk.specs.declared.verdicts.InvestorVerdict.TheVariants as on_investor
use Rattle.request_room.specs.RoomFacts.{request_of}
use Rattle.venue_steps.specs.RoomSteps.{dealers_of}
use Rattle.venue_steps.specs.Table.{line_of}
use Rattle.venue_steps.specs.declared.actors.Actor.{Actor}
use Rattle.venue_steps.specs.declared.actors.Actor.TheVariants as actor
use Rattle.step_replay.specs.Actions.{dealer_of, verdict_on}
use Rattle.step_replay.specs.DealerTrail.{facts_of, rooms_by}
use Rattle.step_replay.specs.DutyEffects.{duty_effect, message_effect, sweep_effect}
use Rattle.step_replay.specs.EachLemmas.{every_weaker}
use Rattle.step_replay.specs.InvestorTrail as investor_trail
use Rattle.step_replay.specs.Lists.{Every}
use Rattle.step_replay.specs.VenueFacts.{Fact, of_dealer, of_investor, of_room}
use Rattle.laws_days.specs.AcceptedQuotes.{AcceptOk, verdict_accepts}
use Rattle.laws_days.specs.KeptItems.{every_all, every_met}
use Rattle.laws_days.specs.LeftDuties.{Leaves, duty_leaves, message_leaves, sweep_leaves}
use Rattle.laws_days.specs.MayLeave.{AreTold, InRooms, MayLeave, MaySay}
use Rattle.laws_isolation.specs.Apart.{are_parted, asks_across}
use Rattle.laws_isolation.proofs.ThereFacts.{AskedOn, FactsOn, HappenedOn, IsOn, OwnerOn, RoomWith}
use Rattle.laws_isolation.proofs.ThereFacts.{asked_on, room_on, rooms_on}
use Rattle.laws_isolation.proofs.Verdicts.{AsksFew, owner_is, verdict_few}

-- who is not parted is on one side
one_side : (own other : Bool) → are_parted own other ≡ false → other ≡ own
one_side true true is = refl
one_side true false is = cc
one_side false true is = cc
one_side false false is = refl

module _ (side : ℕ → Bool) (config : Configuration) (own : Bool) (facts : List Fact)
    (on : FactsOn side config facts) where
  -- whether a duty is on the side of who acts
  abbrev On : Actor → Duty → Type 0
  On by more = IsOn side config own by more

  -- the dealers that the request of a room names
  pub asked_there : (room : RoomRef) → side room.investor ≡ own
      → AskedOn side own (dealers_of (request_of (of_room room facts)))
  asked_there room here =
      asked_on side config own (of_room room facts)
      (subst (λ (b : Bool). Every (HappenedOn side config b) (of_room room facts)) here
      (room_on side config room facts on))

  told : (by : Actor) (room : RoomRef) (moment : ℕ) → side room.investor ≡ own
      → AreTold (On by) config facts room moment
  unfolding line_of
  told by room moment here =
      every_weaker (λ (number : ℕ). side number ≡ own)
      (λ (number : ℕ). (close : Close) → On by (duty.Tell number room close moment))
      (λ number there close. record { desk_on = there; room_on = tt; named_on = tt })
      (dealers_of (request_of (of_room room facts))) (asked_there room here).0

  -- the rooms that a dealer was shown are on its side
  in_rooms : (P : Duty → Type 0) (number : ℕ) → side number ≡ own → (does : RoomRef → Duty)
      → ((room : RoomRef) → side room.investor ≡ own → P (does room))
      → InRooms P config facts number does
  in_rooms P number here does each =
      every_weaker (RoomWith side config number) (λ (room : RoomRef). P (does room))
      (λ room there. each room (there ∙ here)) (rooms_by (of_dealer number facts))
      (rooms_on side config number facts on)

  -- Duties, and a sweep.

  on_may : (by : Actor) (d : Duty) → On by d → MayLeave (On by) config facts by d
  unfolding line_of
  on_may by (duty.Open room ask dealers moment) is = (
    every_weaker (λ (number : ℕ). side number ≡ own)
        (λ (number : ℕ). On by (duty.Show number room ask moment))
        (λ number there. record { desk_on = there; room_on = tt; named_on = is.room_on }) dealers
        is.named_on.0,
    record { desk_on = tt; room_on = is.room_on; named_on = tt },
  )
  on_may by (duty.Post room quote price valid_until moment) is =
      λ offer. record { desk_on = is.room_on; room_on = tt; named_on = tt }
  on_may by (duty.Unpost room quote moment) is =
      λ word. record { desk_on = is.room_on; room_on = tt; named_on = tt }
  on_may by (duty.Decline room moment) is =
      record { desk_on = is.room_on; room_on = tt; named_on = tt }
  on_may by (duty.Hit room response word moment) is = (
    λ reply. record { desk_on = is.room_on; room_on = tt; named_on = tt },
    told by room moment is.room_on,
  )
  on_may by (duty.Pass room response moment) is = (
    λ open_yet. record { desk_on = is.room_on; room_on = tt; named_on = tt },
    told by room moment is.room_on,
  )
  on_may (actor.Firm number) (duty.Drop last moment) is = (
    λ quote. in_rooms (On (actor.Firm number)) number is.desk_on
        (λ room. duty.Unpost room quote moment)
        (λ room there. record { desk_on = tt; room_on = there; named_on = tt }),
    record { desk_on = is.desk_on; room_on = tt; named_on = tt },
  )
  on_may by other is = tt

  pub duty_left : (by : Actor) (d : Duty) → On by d → Leaves (On by) (duty_effect config facts by d)
  duty_left by d is = duty_leaves (On by) config facts by d (on_may by d is)

  pub sweep_left : (room : RoomRef) (moment : ℕ) → side room.investor ≡ own
      → Leaves (On actor.Clock) (sweep_effect config facts room moment)
  unfolding line_of
  sweep_left room moment here =
      sweep_leaves (On actor.Clock) config facts room moment
      (record { desk_on = here; room_on = tt; named_on = tt }) (told actor.Clock room moment here)

  -- A message of a firm.

  module _ (firm moment : ℕ) (here : side firm ≡ own) where
    -- whether a duty is on its side, where it asks nobody across
    abbrev Unless : Duty → Type 0
    Unless more = asks_across side more ≡ false → On (actor.Firm firm) more

    dealer_may : (row : DealerRow) → dealer_numbered config firm ≡ Some row → (v : DealerVerdict)
        → AcceptOk row v → MaySay Unless config facts firm moment v
    unfolding line_of
    dealer_may row is (verdict.QuoteAccepted request id quote replaced) within =
        in_rooms Unless firm here (post_of quote) (λ room there none. record {
          desk_on = tt;
          room_on = there;
          named_on = subst (OwnerOn side own)
              (sym (owner_is config firm row quote.number is within.1)) here;
        })
    dealer_may row is (verdict.CancelAccepted id quote request) within =
        in_rooms Unless firm here (λ room. duty.Unpost room quote moment)
        (λ room there none. record { desk_on = tt; room_on = there; named_on = tt })
    dealer_may row is (verdict.DropsFollow last) within =
        λ none. record { desk_on = here; room_on = tt; named_on = tt }
    dealer_may row is (verdict.DeclineAccepted request number) within =
        in_rooms Unless firm here (λ room. duty.Decline room moment)
        (λ room there none. record { desk_on = tt; room_on = there; named_on = tt })
    dealer_may row is other within = tt

    asker_may : (row : InvestorRow) (v : InvestorVerdict) → AsksFew v
        → IfSome (investor_output.verdict_duty (market_of config firm row) moment v) Unless
    unfolding line_of
    asker_may row (on_investor.RequestAccepted id request) few = λ none. record {
      desk_on = tt;
      room_on = here;
      named_on = (
        every_met (λ (number : ℕ). are_parted (side firm) (side number))
            (λ (number : ℕ). side number ≡ own) request.dealers
            (every_all (λ (number : ℕ).
            are_parted (side firm) (side number) ≡ false → side number ≡ own)
            (λ number apart. one_side (side firm) (side number) apart ∙ here) request.dealers) none,
        few,
      );
    }
    asker_may row (on_investor.Hits request response word) few =
        λ none. record { desk_on = tt; room_on = here; named_on = tt }
    asker_may row (on_investor.Passes request response) few =
        λ none. record { desk_on = tt; room_on = here; named_on = tt }
    asker_may row other few = tt

    pub message_left : (bytes : List ℕ)
        → list_any (asks_across side) (message_effect config facts firm moment bytes).duties ≡ false
        → Leaves (On (actor.Firm firm)) (message_effect config facts firm moment bytes)
    message_left bytes none = record {
      each = every_met (asks_across side) (On (actor.Firm firm))
          (message_effect config facts firm moment bytes).duties
          (message_leaves Unless config facts firm moment bytes
          (λ row found. dealer_may row found
          (verdict_on config facts moment bytes (dealer_of firm row))
          (verdict_accepts row (facts_of (of_dealer firm facts)) moment config.date bytes))
          (λ row isnt. let market = market_of config firm row in
          let book = investor_trail.book_by (of_investor firm facts) in
          asker_may row (investor_verdict market book moment bytes)
          (verdict_few market book moment bytes))).each none;
    }
