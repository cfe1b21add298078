-- What leaves a duty that closes a request at its desk ends the room of the request.
use Rattle.std.proofs.Common.{◌≡◌, ◌&&◌, ◌||◌, ℕ, Bool, true, false, List, [], ◌∷◌, ◌++◌, map}
use Rattle.std.proofs.Common.{Option, IfSome, refl, sym, ap, ◌∙◌, subst, inl, inr}
use Rattle.std.proofs.Common.{if◌then◌else◌, Result, Ok, Err}
use Rattle.std.specs.List.{list_any}
use Rattle.std.proofs.lemmas.Bool.{cases_Bool, false≢true}
use Rattle.dealer_desk.specs.DealerOutput.{is_same_room}
use Rattle.dealer_desk.specs.declared.verdicts.DealerVerdict.{DealerVerdict}
use Rattle.dealer_desk.specs.declared.verdicts.DealerVerdict.TheVariants as said
use Rattle.market_terms.specs.declared.closes.HitRefusal.{HitRefusal}
use Rattle.market_terms.specs.declared.duties.Duty.{Duty}
use Rattle.market_terms.specs.declared.duties.Duty.TheVariants as duty
use Rattle.market_terms.specs.declared.rooms.ResponseRef.{ResponseRef}
use Rattle.market_terms.specs.declared.rooms.RoomRef.{RoomRef}
use Rattle.quote_word.specs.declared.settled.Settled.{Settled}
use Rattle.venue_rows.specs.Rows.{Configuration}
use Rattle.venue_steps.specs.Dealers.{quote_with_word}
use Rattle.venue_steps.specs.declared.actors.Actor.{Actor}
use Rattle.venue_steps.specs.RoomSteps.{hit_duties, reply_to_pass, told_in}
use Rattle.investor_desk.specs.InvestorDesk.{market_of}
use Rattle.investor_desk.specs.InvestorOutput as investor_output
use Rattle.investor_desk.specs.InvestorRules.{InvestorMarket, investor_verdict}
use Rattle.investor_desk.specs.declared.verdicts.InvestorVerdict.{InvestorVerdict}
use Rattle.investor_desk.specs.declared.verdicts.InvestorVerdict.TheVariants as asks
use Rattle.request_room.specs.Book.{end_by, event_facts, expired, hit_outcome, may_expire, passed, fact_if}
use Rattle.request_room.specs.RoomFacts.{Ended, RoomFact, is_ended, is_open}
use Rattle.request_room.specs.declared.ends.End.{End}
use Rattle.step_replay.specs.Actions.{Effect, hit_with, lifting, nothing, verdict_on}
use Rattle.step_replay.specs.DutyEffects.{duty_effect, message_effect, sweep_effect}
use Rattle.step_replay.specs.GrowthLemmas.{same_room}
use Rattle.step_replay.specs.Lists.{Every}
use Rattle.step_replay.specs.PlaceLemmas.{own_room, room_grown}
use Rattle.step_replay.specs.VenueFacts.{Fact, InRoom, of_room}
use Rattle.laws_days.specs.ActionCases.{if_does}
use Rattle.laws_days.specs.KeptItems.{every_all}
use Rattle.laws_days.specs.LeftBehind.{LeftBy, duty_each, sweep_each}
use Rattle.laws_days.specs.LeftDuties.{duty_leaves as all_left, message_leaves as message_left}
use Rattle.laws_days.specs.MayLeave.{MaySay}
use Rattle.laws_rooms.proofs.EndLemmas.{NoEnding, closes_it, settled}
use Rattle.laws_rooms.proofs.RoomWalk.{lifted_none}

none_closes : (room : RoomRef) (duties : List Duty) → Every (λ (d : Duty). closes_it room d ≡ false) duties
    → list_any (closes_it room) duties ≡ false
none_closes room [] every = refl
none_closes room (d ∷ duties) every = rw (every.0) (none_closes room duties every.1)

module _ (config : Configuration) (facts : List Fact) (room : RoomRef) where
  abbrev known : List RoomFact
  known = of_room room facts

  abbrev Passes : Duty → Type 0
  Passes d = closes_it room d ≡ false

  -- where a duty that closes the request is left the room ends
  pub record EndsToo (effect : Effect) : Type 0 where
    pub so : list_any (closes_it room) effect.duties ≡ true → is_ended (of_room room effect.facts) ≡ true

  idle : EndsToo nothing
  idle = record { so = λ is. absurd (false≢true is) }

  never : (effect : Effect) → Every Passes effect.duties → EndsToo effect
  never effect every = record {
    so = λ is. absurd (false≢true (sym (none_closes room effect.duties every) ∙ is));
  }

  -- of another room
  elsewhere : (at : RoomRef) (b : Bool) → is_same_room at room ≡ false → (is_same_room at room && b) ≡ false
  elsewhere at b differs = rw differs refl

  -- By a pass, a sweep and a hit.

  pass_here : (response : ResponseRef) (moment : ℕ) (open_yet : Bool) (told : List Duty)
      → EndsToo (record {
        facts = map (InRoom room) (fact_if open_yet (Ended passed moment));
        duties = duty.Answer room response (reply_to_pass open_yet) moment
            ∷ (if open_yet then told else []);
      })
  pass_here response moment true told =
      record { so = λ is. ap is_ended (own_room room (Ended passed moment ∷ [])) }
  pass_here response moment false told = record {
    so = λ is. absurd (false≢true (sym (none_here (is_same_room room room)) ∙ is));
  }
    where
      none_here : (b : Bool) → ((b && false) || false) ≡ false
      none_here true = refl
      none_here false = refl

  sweep_here : (moment : ℕ) (may : Bool) (told : List Duty)
      → EndsToo (record {
        facts = map (InRoom room) (fact_if may (Ended expired moment));
        duties = if may then duty.Close room moment ∷ told else [];
      })
  sweep_here moment true told =
      record { so = λ is. ap is_ended (own_room room (Ended expired moment ∷ [])) }
  sweep_here moment false told = record { so = λ is. absurd (false≢true is) }

  hit_here : (response : ResponseRef) (word moment : ℕ) (settlement : Option Settled)
      → EndsToo (hit_with config facts room response word moment settlement)
  unfolding event_facts
  hit_here response word moment settlement = by_outcome (hit_outcome known word moment settlement)
    where
      none_here : (b : Bool) → ((b && false) || false) ≡ false
      none_here true = refl
      none_here false = refl

      by_outcome : (outcome : Result End HitRefusal) → EndsToo (record {
        facts = lifting (quote_with_word config word) outcome ++ map (InRoom room) (end_by outcome moment);
        duties = hit_duties known room response moment outcome;
      })
      by_outcome (Ok award) = record {
        so = λ is. ap is_ended
            (room_grown room (lifting (quote_with_word config word) (Ok award))
            (map (InRoom room) (Ended award moment ∷ []))
            ∙ ap (λ (l : List RoomFact). l ++ of_room room (map (InRoom room) (Ended award moment ∷ [])))
            (lifted_none room (quote_with_word config word) (Ok award))
            ∙ own_room room (Ended award moment ∷ []));
      }
      by_outcome (Err why) = record {
        so = λ is. absurd (false≢true (sym (none_here (is_same_room room room)) ∙ is));
      }

  -- Duties that close nothing.

  passes : (more d : Duty) → NoEnding d → LeftBy more d → Passes more
  passes (duty.Answer at to reply when) (duty.Hit other response word moment) so left = absurd so
  passes (duty.Answer at to reply when) (duty.Pass other response moment) so left = absurd so
  passes (duty.Answer at to reply when) d so left = absurd left
  passes (duty.Close at when) d so left = absurd left
  passes more d so left = refl

  hit_ends : (by : Actor) (at : RoomRef) (response : ResponseRef) (word moment : ℕ)
      → EndsToo (duty_effect config facts by (duty.Hit at response word moment))
  unfolding duty_effect
  hit_ends by at response word moment = elim (cases_Bool (is_same_room at room)) [
    | inl same ↦ subst (λ (r : RoomRef). EndsToo (duty_effect config facts by (duty.Hit r response word moment)))
        (sym (same_room at room same))
        (if_does EndsToo idle _
        (hit_with config facts room response word moment (settled config facts room room word moment))
        (hit_here response word moment (settled config facts room room word moment)))
    | inr differs ↦ never _ (all_left Passes config facts by (duty.Hit at response word moment)
        (λ reply. elsewhere at _ differs, every_all _ (λ d close. refl) _)).each
  ]

  pass_ends : (by : Actor) (at : RoomRef) (response : ResponseRef) (moment : ℕ)
      → EndsToo (duty_effect config facts by (duty.Pass at response moment))
  unfolding duty_effect event_facts
  pass_ends by at response moment = elim (cases_Bool (is_same_room at room)) [
    | inl same ↦ subst (λ (r : RoomRef). EndsToo (duty_effect config facts by (duty.Pass r response moment)))
        (sym (same_room at room same))
        (if_does EndsToo idle _ _ (pass_here response moment (is_open known) (told_in known room passed moment)))
    | inr differs ↦ never _ (all_left Passes config facts by (duty.Pass at response moment)
        (λ open_yet. elsewhere at _ differs, every_all _ (λ d close. refl) _)).each
  ]

  pub duty_ends_too : (by : Actor) (d : Duty) → EndsToo (duty_effect config facts by d)
  duty_ends_too by (duty.Hit at response word moment) = hit_ends by at response word moment
  duty_ends_too by (duty.Pass at response moment) = pass_ends by at response moment
  duty_ends_too by other =
      never _ (duty_each Passes config facts by other (λ more left. passes more other tt left))

  pub sweep_ends_too : (at : RoomRef) (moment : ℕ) → EndsToo (sweep_effect config facts at moment)
  unfolding sweep_effect event_facts
  sweep_ends_too at moment = elim (cases_Bool (is_same_room at room)) [
    | inl same ↦ subst (λ (r : RoomRef). EndsToo (sweep_effect config facts r moment))
        (sym (same_room at room same))
        (if_does EndsToo idle _ _ (sweep_here moment (may_expire known moment) (told_in known room expired moment)))
    | inr differs ↦ never _ (sweep_each Passes config facts at moment differs (λ d close. refl))
  ]

  pub message_ends_too : (firm moment : ℕ) (bytes : List ℕ)
      → EndsToo (message_effect config facts firm moment bytes)
  message_ends_too firm moment bytes = never _ (message_left Passes config facts firm moment bytes
      (λ row found. says (verdict_on config facts moment bytes _))
      (λ row found. asks_none (market_of config firm row) (investor_verdict _ _ moment bytes))).each
    where
      says : (v : DealerVerdict) → MaySay Passes config facts firm moment v
      says (said.QuoteAccepted request id quote replaced) = every_all _ (λ r. refl) _
      says (said.CancelAccepted id quote request) = every_all _ (λ r. refl) _
      says (said.DropsFollow last) = refl
      says (said.DeclineAccepted request number) = every_all _ (λ r. refl) _
      says other = tt

      asks_none : (market : InvestorMarket) (v : InvestorVerdict)
          → IfSome (investor_output.verdict_duty market moment v) Passes
      asks_none market (asks.RequestAccepted id request) = refl
      asks_none market (asks.Hits request response word) = refl
      asks_none market (asks.Passes request response) = refl
      asks_none market other = tt
