-- Which duties tell an expiry, and which actions say one: the clock's, behind a sweep that ends a room.
use Rattle.std.proofs.Common.{◌≡◌, ◌==◌, ◌&&◌, ℕ, Bool, true, false, List, [], ◌∷◌, ◌++◌, map, filter_map}
use Rattle.std.proofs.Common.{Option, Some, None, IfSome, option_map, refl, ap}
use Rattle.std.proofs.Common.{if◌then◌else◌}
use Rattle.std.specs.List.{cons_option}
use Rattle.std.specs.Option.{option_to_list}
use Rattle.market_terms.specs.declared.closes.Reply.{Reply}
use Rattle.market_terms.specs.declared.duties.Duty.{Duty}
use Rattle.market_terms.specs.declared.duties.Duty.TheVariants as duty
use Rattle.market_terms.specs.declared.rooms.Offer.{Offer}
use Rattle.market_terms.specs.declared.rooms.ResponseRef.{ResponseRef}
use Rattle.market_terms.specs.declared.rooms.RoomRef.{RoomRef}
use Rattle.venue_rows.specs.Rows.{Configuration, has_room}
use Rattle.venue_steps.specs.declared.actors.Actor.{Actor}
use Rattle.venue_steps.specs.declared.actors.Actor.TheVariants as actor
use Rattle.venue_steps.specs.RoomSteps.{told_in}
use Rattle.dealer_desk.specs.declared.verdicts.DealerVerdict.{DealerVerdict}
use Rattle.dealer_desk.specs.declared.verdicts.DealerVerdict.TheVariants as said
use Rattle.investor_desk.specs.InvestorDesk.{market_of}
use Rattle.investor_desk.specs.InvestorFacts.{InvestorBook, StandingRequest}
use Rattle.investor_desk.specs.InvestorFacts.{offer_of_dealer, offer_with_word, open_request}
use Rattle.investor_desk.specs.InvestorFacts.{request_numbered}
use Rattle.investor_desk.specs.InvestorOutput as investor_output
use Rattle.investor_desk.specs.InvestorRules.{InvestorMarket, investor_verdict}
use Rattle.investor_desk.specs.declared.events.InvestorEvent.TheVariants as at_investor
use Rattle.investor_desk.specs.declared.standing.ShownOffer.{ShownOffer}
use Rattle.investor_desk.specs.declared.verdicts.InvestorVerdict.{InvestorVerdict}
use Rattle.investor_desk.specs.declared.verdicts.InvestorVerdict.TheVariants as asks
use Rattle.request_room.specs.Book.{event_facts, expired, may_expire, fact_if}
use Rattle.request_room.specs.RoomFacts.{Ended}
use Rattle.step_replay.specs.Actions.{nothing, verdict_on}
use Rattle.step_replay.specs.DutyEffects.{duty_effect, message_effect, sweep_effect}
use Rattle.step_replay.specs.EachLemmas.{every_weaker}
use Rattle.step_replay.specs.Lists.{Every}
use Rattle.step_replay.specs.VenueFacts.{Fact, InRoom, of_room}
use Rattle.laws_days.specs.KeptItems.{every_all}
use Rattle.laws_days.specs.LeftBehind.{LeftBy, duty_each, sweep_each}
use Rattle.laws_days.specs.LeftDuties.{message_leaves}
use Rattle.laws_days.specs.MayLeave.{MaySay, told_each}
use Rattle.laws_rooms.specs.Expiries.{ends_in, expires}
use Rattle.laws_rooms.proofs.ReplyDuties.{none_of}
use Rattle.laws_rooms.proofs.SaidLemmas.{IsHushed, IsSilent}

-- Events and duties that say nothing of an expiry.

offer_silent : (book : InvestorBook) (request moment : ℕ) (offer : Offer) (own : Option StandingRequest)
    → filter_map (expires moment) (investor_output.offer_messages book request offer own) ≡ []
offer_silent book request moment offer None = refl
offer_silent book request moment offer (Some own) = by_found (offer_of_dealer own offer.dealer)
  where
    by_found : (found : Option ShownOffer) → filter_map (expires moment)
        (option_to_list (option_map (investor_output.gone_message own) found)
        ++ investor_output.offer_message own (investor_output.next_offer book request offer) ∷ []) ≡ []
    by_found None = refl
    by_found (Some shown) = refl

withdrawal_silent : (word moment : ℕ) (own : Option StandingRequest)
    → filter_map (expires moment) (investor_output.withdrawal_messages word own) ≡ []
withdrawal_silent word moment None = refl
withdrawal_silent word moment (Some own) = by_found (offer_with_word own word)
  where
    by_found : (found : Option ShownOffer) → filter_map (expires moment)
        (option_to_list (option_map (investor_output.gone_message own) found)) ≡ []
    by_found None = refl
    by_found (Some shown) = refl

decline_silent : (dealer : List ℕ) (moment : ℕ) (own : Option StandingRequest)
    → filter_map (expires moment) (investor_output.decline_messages dealer own) ≡ []
decline_silent dealer moment None = refl
decline_silent dealer moment (Some own) = refl

answer_silent : (response : ResponseRef) (reply : Reply) (moment : ℕ) (own : Option StandingRequest)
    → filter_map (expires moment) (investor_output.answer_messages response reply own) ≡ []
answer_silent response reply moment None = refl
answer_silent response reply moment (Some own) = by_quote response.k
  where
    by_quote : (quote : Option ℕ) → filter_map (expires moment)
        (investor_output.response_message own response.id quote (investor_output.refusal_of reply) ∷ []) ≡ []
    by_quote None = refl
    by_quote (Some quote) = refl

verdict_silent : (moment : ℕ) (v : InvestorVerdict)
    → filter_map (expires moment) (option_to_list (investor_output.verdict_message v)) ≡ []
verdict_silent moment asks.Dropped = refl
verdict_silent moment other = refl

pub received_silent : (moment : ℕ) (bytes : List ℕ) → IsSilent expires (at_investor.Received moment bytes)
unfolding investor_output.event_messages
received_silent moment bytes market book = verdict_silent moment (investor_verdict market book moment bytes)

abbrev pub IsNoClose : Duty → Type 0
IsNoClose (duty.Close room moment) = ⊥
IsNoClose d = Unit {0}

pub hushed : (config : Configuration) (d : Duty) → IsNoClose d → IsHushed expires config d
unfolding investor_output.event_messages
hushed config (duty.Relay room offer moment) isnt = λ row found market book.
    offer_silent book room.n moment offer (open_request book room.n)
hushed config (duty.Gone room word moment) isnt = λ row found market book.
    withdrawal_silent word moment (open_request book room.n)
hushed config (duty.Declined room moment) isnt = λ number dealer is row found market book.
    decline_silent dealer.name moment (open_request book room.n)
hushed config (duty.Answer room response reply moment) isnt = λ fits row found market book.
    answer_silent response reply moment (request_numbered book room.n)
hushed config (duty.Close room moment) isnt = absurd isnt
hushed config other isnt = tt

-- Duties that are left.

-- the request of this investor whose expiry a duty tells
abbrev pub close_in : ℕ → Duty → Option ℕ
close_in investor (duty.Close room moment) = if room.investor == investor then Some room.n else None
close_in investor other = None

-- the clock tells each expiry
abbrev pub OwnClose : Actor → Duty → Type 0
OwnClose by (duty.Close room moment) = by ≡ actor.Clock
OwnClose by other = Unit {0}

pub own_of : (by : Actor) (duties : List Duty) → Every IsNoClose duties → Every (OwnClose by) duties
own_of by [] every = tt
own_of by (d ∷ duties) every = (each d every.0, own_of by duties every.1)
  where
    each : (one : Duty) → IsNoClose one → OwnClose by one
    each (duty.Close room moment) isnt = absurd isnt
    each other isnt = tt

pub no_closes : (investor : ℕ) (duties : List Duty) → Every IsNoClose duties
    → filter_map (close_in investor) duties ≡ []
no_closes investor duties every = none_of (close_in investor) duties
    (every_weaker IsNoClose (λ (d : Duty). close_in investor d ≡ None) each duties every)
  where
    each : (one : Duty) → IsNoClose one → close_in investor one ≡ None
    each (duty.Close room moment) isnt = absurd isnt
    each other isnt = refl

module _ (config : Configuration) (facts : List Fact) where
  pub leaves_none : (by : Actor) (d : Duty) → Every IsNoClose (duty_effect config facts by d).duties
  leaves_none by d = duty_each IsNoClose config facts by d each
    where
      each : (more : Duty) → LeftBy more d → IsNoClose more
      each (duty.Close room moment) left = absurd left
      each other left = tt

  pub message_none : (firm moment : ℕ) (bytes : List ℕ)
      → Every IsNoClose (message_effect config facts firm moment bytes).duties
  message_none firm moment bytes =
      (message_leaves IsNoClose config facts firm moment bytes
      (λ row found. says (verdict_on config facts moment bytes _))
      (λ row found. asks_none (market_of config firm row) (investor_verdict _ _ moment bytes))).each
    where
      says : (v : DealerVerdict) → MaySay IsNoClose config facts firm moment v
      says (said.QuoteAccepted request id quote replaced) = every_all _ (λ room. tt) _
      says (said.CancelAccepted id quote request) = every_all _ (λ room. tt) _
      says (said.DropsFollow last) = tt
      says (said.DeclineAccepted request number) = every_all _ (λ room. tt) _
      says other = tt

      asks_none : (market : InvestorMarket) (v : InvestorVerdict)
          → IfSome (investor_output.verdict_duty market moment v) IsNoClose
      asks_none market (asks.RequestAccepted id request) = tt
      asks_none market (asks.Hits request response word) = tt
      asks_none market (asks.Passes request response) = tt
      asks_none market other = tt

  -- a sweep leaves what it ends
  pub sweep_closes : (investor : ℕ) (room : RoomRef) (moment : ℕ)
      → filter_map (close_in investor) (sweep_effect config facts room moment).duties
      ≡ filter_map (ends_in investor) (sweep_effect config facts room moment).facts
  unfolding sweep_effect event_facts
  sweep_closes investor room moment =
      by_tests (told_in (of_room room facts) room expired moment)
      (told_each IsNoClose config facts room expired moment (every_all _ (λ dealer close. tt) _))
      (has_room config room.investor room.n) (may_expire (of_room room facts) moment)
    where
      by_tests : (told : List Duty) → Every IsNoClose told → (is_room may : Bool)
          → filter_map (close_in investor) (if is_room && true
          then record {
            facts = map (InRoom room) (fact_if may (Ended expired moment));
            duties = if may then duty.Close room moment ∷ told else [];
          } else nothing).duties
          ≡ filter_map (ends_in investor) (if is_room && true
          then record {
            facts = map (InRoom room) (fact_if may (Ended expired moment));
            duties = if may then duty.Close room moment ∷ told else [];
          } else nothing).facts
      by_tests told none true true =
          ap (λ (l : List ℕ). cons_option (if room.investor == investor then Some room.n else None) l)
          (no_closes investor told none)
      by_tests told none true false = refl
      by_tests told none false may = refl

  pub sweep_own : (room : RoomRef) (moment : ℕ)
      → Every (OwnClose actor.Clock) (sweep_effect config facts room moment).duties
  sweep_own room moment =
      sweep_each (OwnClose actor.Clock) config facts room moment refl (λ dealer close. tt)
