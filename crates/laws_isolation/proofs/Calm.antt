-- Duties that are no hit award nothing, and no duty leaves a hit: so turns behind which no hit
-- waits award nothing.
use Rattle.std.proofs.Common.{◌≡◌, ℕ, ◌⊎◌, inl, inr, Bool, true, false, List, [], ◌∷◌, map}
use Rattle.std.proofs.Common.{filter_map, fold, zero, suc, Option, Some, None, refl, ap, ◌∙◌}
use Rattle.std.proofs.Common.{is_some, option_map}
use Rattle.std.specs.Prelude.{replicate}
use Rattle.std.specs.Option.{option_to_list}
use Rattle.std.proofs.lemmas.List.{append-nil}
use Rattle.std.proofs.lemmas.List.Elements.{filter_map-append}
use Rattle.market_terms.specs.declared.duties.Duty.{Duty}
use Rattle.market_terms.specs.declared.duties.Duty.TheVariants as duty
use Rattle.market_terms.specs.declared.rooms.RoomRef.{RoomRef}
use Rattle.venue_rows.specs.Rows.{Configuration, dealer_numbered}
use Rattle.dealer_desk.specs.DealerOutput.{verdict_duty, word_asked}
use Rattle.dealer_desk.specs.declared.events.DealerEvent.{DealerEvent}
use Rattle.dealer_desk.specs.declared.events.DealerEvent.TheVariants as at_desk
use Rattle.investor_desk.specs.InvestorDesk.{market_of}
use Rattle.investor_desk.specs.InvestorRules.{InvestorMarket, investor_verdict}
use Rattle.investor_desk.specs.declared.events.InvestorEvent.{InvestorEvent}
use Rattle.dealer_desk.specs.declared.verdicts.DealerVerdict.{DealerVerdict}
use Rattle.investor_desk.specs.InvestorOutput as investor_output
use Rattle.venue_steps.specs.Words.{has_word}
use Rattle.step_replay.specs.Actions.{dealer_receives, left_by, received_by_investor}
use Rattle.step_replay.specs.Actions.{settlement_of, verdict_on, word_for, words_of, Dealer}
use Rattle.step_replay.specs.Actions.{Effect, at_dealer, at_market, dealer_at}
use Rattle.step_replay.specs.Actions.{dealer_of, nothing}
use Rattle.request_room.specs.Book.{event_facts, fact_if}
use Rattle.request_room.specs.RoomFacts.{RoomFact}
use Rattle.request_room.specs.declared.events.RoomEvent.{RoomEvent}
use Rattle.request_room.specs.declared.events.RoomEvent.TheVariants as at_room
use Rattle.venue_steps.specs.declared.actors.Actor.{Actor}
use Rattle.venue_steps.specs.declared.actors.Actor.TheVariants as actor
use Rattle.step_replay.specs.AuditTrail.{AuditTrail, after_step, after_turn, pending}
use Rattle.step_replay.specs.DealerTrail.{entries_of, rooms_by}
use Rattle.step_replay.specs.DutyEffects.{duty_effect, message_effect, sweep_effect}
use Rattle.step_replay.specs.EachLemmas.{every_both}
use Rattle.step_replay.specs.InvestorTrail as investor_trail
use Rattle.step_replay.specs.Lists.{Every}
use Rattle.step_replay.specs.PlaceLemmas.{nothing_of}
use Rattle.step_replay.specs.QueueLemmas.{own_turned}
use Rattle.step_replay.specs.VenueFacts.{AtDealer, AtInvestor, Fact, InRoom, of_dealer}
use Rattle.step_replay.specs.VenueFacts.{of_investor, of_room}
use Rattle.step_replay.specs.declared.steps.Step.TheVariants as step
use Rattle.laws_days.specs.ActionCases.{by_does, if_does, invested_does, message_of}
use Rattle.laws_days.specs.DutyWalk.{AnyDealer, AnyInvestor, NoHitThere, RoomMay, Walks, any_dealer}
use Rattle.laws_days.specs.DutyWalk.{any_investor, duty_walks, sweep_walks}
use Rattle.laws_days.specs.LeftBehind.{LeftBy, duty_each, sweep_each}
use Rattle.laws_isolation.specs.Silence.{is_hit}
use Rattle.laws_isolation.specs.Presence.{award_in, awards}

-- a duty that is no hit
abbrev pub NoHit : Duty → Type 0
NoHit more = is_hit more ≡ false

-- No duty leaves a hit.

module _ (config : Configuration) (facts : List Fact) where
  none_left : (by : Actor) (more next : Duty) → LeftBy next more → NoHit next
  none_left by more (duty.Hit room response word moment) left = absurd left
  none_left by more next left = refl

  pub duty_no_hit : (by : Actor) (more : Duty) → Every NoHit
      (duty_effect config facts by more).duties
  duty_no_hit by more = duty_each NoHit config facts by more (none_left by more)

  pub sweep_no_hit : (room : RoomRef) (moment : ℕ)
      → Every NoHit (sweep_effect config facts room moment).duties
  sweep_no_hit room moment =
      sweep_each NoHit config facts room moment refl (λ dealer close. refl)

-- An action that awards nothing.
pub record IsCalm (effect : Effect) : Type 0 where
  pub no_awards : filter_map award_in effect.facts ≡ []

idle : IsCalm nothing
idle = record { no_awards = refl }

-- One duty at most, or none that is a hit.

abbrev pub Few : List Duty → Type 0
Few duties = Every NoHit duties ⊎ ((only : Duty) × (duties ≡ only ∷ []))

few_option : (found : Option Duty) → Few (option_to_list found)
few_option None = inl tt
few_option (Some more) = inr (more, refl)

pub record LeavesFew (effect : Effect) : Type 0 where
  pub few : Few effect.duties

few_idle : LeavesFew nothing
few_idle = record { few = inl tt }

module _ (config : Configuration) (facts : List Fact) where
  desk_calm : (dealer : Dealer) (more : DealerEvent) (duties : List Duty)
      → IsCalm (at_dealer config facts dealer more duties)
  desk_calm dealer more duties = record {
    no_awards = nothing_of award_in (AtDealer dealer.number) (λ entry. refl)
        (entries_of config.date dealer.row (of_dealer dealer.number facts) more);
  }

  market_calm : (market : InvestorMarket) (more : InvestorEvent) (duties : List Duty)
      → IsCalm (at_market facts market more duties)
  market_calm market more duties = record {
    no_awards = nothing_of award_in (AtInvestor market.firm) (λ entry. refl)
        (investor_trail.entries_of market (of_investor market.firm facts) more);
  }

  so_calm : (room : RoomRef) (b : Bool) (fact : RoomFact) → award_in (InRoom room fact) ≡ None
      → filter_map award_in (map (InRoom room) (fact_if b fact)) ≡ []
  so_calm room true fact none = rw none refl
  so_calm room false fact none = refl

  event_calm : (room : RoomRef) (known : List RoomFact) (more : RoomEvent)
      → NoHitThere more
      → filter_map award_in (map (InRoom room) (event_facts known more)) ≡ []
  unfolding event_facts
  event_calm room known (at_room.Hit word moment settlement) isnt = absurd isnt
  event_calm room known other isnt = so_calm room _ _ refl

  abbrev CalmThere : RoomRef → RoomEvent → List Duty → Type 0
  CalmThere room more left = NoHitThere more

  walks : Walks AnyDealer AnyInvestor CalmThere config facts IsCalm
  walks = record {
    idle = idle;
    at_a_dealer = λ number row found more left any. desk_calm (dealer_of number row) more left;
    at_an_investor = λ number row found more any. market_calm (market_of config number row) more [];
    in_a_room = λ room there more no_hit left isnt.
        record { no_awards = event_calm room (of_room room facts) more isnt };
    by_a_hit = λ room there response word moment isnt. absurd isnt;
  }

  in_rooms : (by : Actor) (more : Duty) → NoHit more → RoomMay CalmThere config facts by more
  in_rooms by (duty.Hit room response word moment) none = cc
  in_rooms (actor.Firm number) (duty.Post room quote price valid_until moment) none =
      λ row found. tt
  in_rooms (actor.Firm number) (duty.Unpost room quote moment) none = λ row found. tt
  in_rooms (actor.Firm number) (duty.Decline room moment) none = λ row found. tt
  in_rooms by other none = tt

  pub duty_calm : (by : Actor) (more : Duty) → NoHit more
      → IsCalm (duty_effect config facts by more)
  duty_calm by more none =
      duty_walks AnyDealer AnyInvestor CalmThere config facts IsCalm walks by more
      (any_dealer AnyDealer config facts by more (λ number row event left is. tt))
      (any_investor AnyInvestor config by more (λ number row event is. tt)) (in_rooms by more none)

  pub sweep_calm : (room : RoomRef) (moment : ℕ) → IsCalm (sweep_effect config facts room moment)
  sweep_calm room moment =
      sweep_walks AnyDealer AnyInvestor CalmThere config facts IsCalm walks room moment tt

  pub message_calm : (firm moment : ℕ) (bytes : List ℕ)
      → IsCalm (message_effect config facts firm moment bytes)
  unfolding message_effect
  message_calm firm moment bytes = either (is_some (dealer_numbered config firm))
    where
      either : (b : Bool) → IsCalm (message_of config facts firm moment bytes b)
      either true =
          by_does IsCalm idle (dealer_at config firm) _
          (λ d. if_does IsCalm idle _ _ (desk_calm d _ _))
      either false =
          invested_does IsCalm idle config firm _ (λ row. market_calm
          (market_of config firm row) _ _)

  receives_few : (dealer : Dealer) (moment : ℕ) (bytes : List ℕ) (v : DealerVerdict)
      → LeavesFew (dealer_receives config facts dealer moment bytes v)
  receives_few dealer moment bytes v =
      let trail = of_dealer dealer.number facts in
      if_does LeavesFew few_idle
      (has_word (words_of config) (option_map (word_for config dealer) (word_asked v)))
      (at_dealer config facts dealer
      (at_desk.Received moment bytes (settlement_of trail v)) (left_by trail moment v))
      (record {
        few = few_option (verdict_duty (rooms_by trail) moment v (settlement_of trail v));
      })

  pub message_few : (firm moment : ℕ) (bytes : List ℕ)
      → LeavesFew (message_effect config facts firm moment bytes)
  unfolding message_effect
  message_few firm moment bytes = either (is_some (dealer_numbered config firm))
    where
      either : (b : Bool) → LeavesFew (message_of config facts firm moment bytes b)
      either true =
          by_does LeavesFew few_idle (dealer_at config firm) _
          (λ d. receives_few d moment bytes (verdict_on config facts moment bytes d))
      either false =
          invested_does LeavesFew few_idle config firm (received_by_investor facts moment bytes)
          (λ row. record {
            few = few_option (investor_output.verdict_duty (market_of config firm row) moment
                (investor_verdict (market_of config firm row)
                (investor_trail.book_by (of_investor firm facts)) moment bytes));
          })

-- Turns.

module _ (config : Configuration) (by : Actor) where
  -- so many turns of an actor
  abbrev pub turns : ℕ → AuditTrail → AuditTrail
  turns n trail = fold (after_step config) trail (replicate n (step.Turn by))

  -- a turn by the duties that wait
  pub turn_is : (trail : AuditTrail) (duties : List Duty) → pending by trail ≡ duties
      → after_step config trail (step.Turn by) ≡ after_turn config by trail duties
  unfolding after_step
  turn_is trail duties now = ap (after_turn config by trail) now

  pub turn_calm : (trail : AuditTrail) (duties : List Duty) → pending by trail ≡ duties
      → Every NoHit duties
      → (awards (after_turn config by trail duties) ≡ awards trail)
      × Every NoHit (pending by (after_turn config by trail duties))
  turn_calm trail [] now none = (refl, rw now tt)
  turn_calm trail (more ∷ later) now none =
      let effect = duty_effect config trail.facts by more in (
        filter_map-append award_in trail.facts effect.facts
            ∙ rw ((duty_calm config trail.facts by more none.0).no_awards) (append-nil
            (awards trail)),
        rw (own_turned by trail effect more later now)
            (every_both NoHit later effect.duties none.1 (duty_no_hit config trail.facts by more)),
      )

  pub turns_calm : (n : ℕ) (trail : AuditTrail) → Every NoHit (pending by trail)
      → awards (turns n trail) ≡ awards trail
  turns_calm zero trail none = refl
  turns_calm (suc n) trail none =
      let turn = turn_calm trail (pending by trail) refl none in
      let is = turn_is trail (pending by trail) refl in
      turns_calm n (after_step config trail (step.Turn by)) (rw is (turn.1))
      ∙ ap awards is ∙ turn.0

  -- turns that find no duty do nothing
  pub turns_idle : (n : ℕ) (trail : AuditTrail) → pending by trail ≡ [] → turns n trail ≡ trail
  turns_idle zero trail none = refl
  turns_idle (suc n) trail none =
      let is = turn_is trail [] none in
      ap (turns n) is ∙ turns_idle n trail none
