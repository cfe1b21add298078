-- What an action says to an investor of its hits and passes: only an answer to one says anything.
use Rattle.std.proofs.Common.{◌≡◌, ℕ, true, List, [], ◌∷◌, ◌++◌, filter_map}
use Rattle.std.proofs.Common.{Option, Some, None, is_some, option_map, refl, sym, ap, subst}
use Rattle.std.specs.List.{cons_option}
use Rattle.std.specs.Option.{option_to_list}
use Rattle.std.proofs.lemmas.Bool.{and_parts, false≢true}
use Rattle.market_terms.specs.declared.closes.HitRefusal.{HitRefusal}
use Rattle.market_terms.specs.declared.closes.Reply.{Reply}
use Rattle.market_terms.specs.declared.duties.Duty.{Duty}
use Rattle.market_terms.specs.declared.duties.Duty.TheVariants as duty
use Rattle.market_terms.specs.declared.rooms.Offer.{Offer}
use Rattle.market_terms.specs.declared.rooms.ResponseRef.{ResponseRef}
use Rattle.venue_rows.specs.Rows.{Configuration, investor_numbered}
use Rattle.venue_rows.specs.declared.investor_rows.InvestorRow.{InvestorRow}
use Rattle.venue_steps.specs.declared.actors.Actor.{Actor}
use Rattle.venue_steps.specs.InvestorSteps.{replies_to}
use Rattle.investor_desk.specs.InvestorDesk.{market_of}
use Rattle.investor_desk.specs.InvestorFacts.{InvestorBook, StandingRequest, offer_of_dealer}
use Rattle.investor_desk.specs.InvestorFacts.{open_request, request_numbered}
use Rattle.investor_desk.specs.InvestorOutput as investor_output
use Rattle.investor_desk.specs.InvestorRules.{InvestorMarket, investor_verdict}
use Rattle.investor_desk.specs.declared.events.InvestorEvent.{InvestorEvent}
use Rattle.investor_desk.specs.declared.events.InvestorEvent.TheVariants as at_investor
use Rattle.investor_desk.specs.declared.standing.ShownOffer.{ShownOffer}
use Rattle.investor_desk.specs.declared.verdicts.InvestorVerdict.{InvestorVerdict}
use Rattle.investor_desk.specs.declared.verdicts.InvestorVerdict.TheVariants as asks
use Rattle.step_replay.specs.Actions.{Effect, at_market}
use Rattle.step_replay.specs.DutyEffects.{duty_effect}
use Rattle.step_replay.specs.InvestorTrail as investor_trail
use Rattle.step_replay.specs.VenueFacts.{Fact, of_investor}
use Rattle.laws_days.specs.Conditions.{holds_for, is_known_to, is_met}
use Rattle.laws_rooms.specs.Responses.{Response, answers}
use Rattle.laws_days.proofs.NewsWalk.{IsNews, any_news, news_says, none_given}
use Rattle.laws_rooms.proofs.SaidLemmas.{IsHushed, IsSilent, Says, Silent, Silently, event_says}

-- what an answer that is due answers
abbrev pub reply_in : Duty → Option Response
reply_in (duty.Answer room response reply moment) =
    Some (record { id = response.id; moment = moment; quote = response.k })
reply_in other = None

-- a response as an answer names it
abbrev pub named : ResponseRef → ℕ → Response
named response moment = record { id = response.id; moment = moment; quote = response.k }

-- Events that answer no hit and no pass.

offer_silent : (book : InvestorBook) (request moment : ℕ) (offer : Offer) (own : Option StandingRequest)
    → filter_map (answers moment) (investor_output.offer_messages book request offer own) ≡ []
offer_silent book request moment offer None = refl
offer_silent book request moment offer (Some own) = by_found (offer_of_dealer own offer.dealer)
  where
    by_found : (found : Option ShownOffer) → filter_map (answers moment)
        (option_to_list (option_map (investor_output.gone_message own) found)
        ++ investor_output.offer_message own (investor_output.next_offer book request offer) ∷ []) ≡ []
    by_found None = refl
    by_found (Some shown) = refl

news_silent : (market : InvestorMarket) (book : InvestorBook) (event : InvestorEvent) → IsNews event
    → Silent answers market book event
news_silent market book event news =
    let moment = investor_output.moment_of event in
    none_given (answers moment) (investor_output.event_messages market book event)
    (news_says (λ message. answers moment message ≡ None) market book event news (λ request own stands. record {
      gone = λ its word when is shown. refl;
      declined = λ its dealer when is. refl;
      expired = refl;
    }))

verdict_silent : (moment : ℕ) (v : InvestorVerdict)
    → filter_map (answers moment) (option_to_list (investor_output.verdict_message v)) ≡ []
verdict_silent moment asks.Dropped = refl
verdict_silent moment other = refl

pub received_silent : (moment : ℕ) (bytes : List ℕ) → IsSilent answers (at_investor.Received moment bytes)
unfolding investor_output.event_messages
received_silent moment bytes market book = verdict_silent moment (investor_verdict market book moment bytes)

abbrev pub IsNoAnswer : Duty → Type 0
IsNoAnswer (duty.Answer room response reply moment) = ⊥
IsNoAnswer d = Unit {0}

pub hushed : (config : Configuration) (d : Duty) → IsNoAnswer d → IsHushed answers config d
unfolding investor_output.event_messages
hushed config (duty.Relay room offer moment) isnt = λ row found market book.
    offer_silent book room.n moment offer (open_request book room.n)
hushed config (duty.Answer room response reply moment) isnt = absurd isnt
hushed config other isnt = any_news (Silently answers) config other tt (λ number row found event news market book.
    news_silent market book event news)

-- An answer answers its response.

module _ (market : InvestorMarket) (book : InvestorBook) where
  by_quote : (own : StandingRequest) (response : ResponseRef) (moment : ℕ) (quote : Option ℕ)
      (refusal : Option HitRefusal) → response.k ≡ quote
      → answers moment (investor_output.response_message own response.id quote refusal)
      ≡ Some (named response moment)
  by_quote own response moment None None is =
      ap (λ (k : Option ℕ). Some (record { id = response.id; moment = moment; quote = k })) (sym is)
  by_quote own response moment None (Some why) is =
      ap (λ (k : Option ℕ). Some (record { id = response.id; moment = moment; quote = k })) (sym is)
  by_quote own response moment (Some quote) refusal is =
      ap (λ (k : Option ℕ). Some (record { id = response.id; moment = moment; quote = k })) (sym is)

  by_request : (response : ResponseRef) (reply : Reply) (moment : ℕ) (found : Option StandingRequest)
      → is_some found ≡ true
      → filter_map (answers moment) (investor_output.answer_messages response reply found)
      ≡ named response moment ∷ []
  by_request response reply moment None is = absurd (false≢true is)
  by_request response reply moment (Some own) is =
      ap (λ (o : Option Response). cons_option o [])
      (by_quote own response moment response.k (investor_output.refusal_of reply) refl)

  pub answer_said : (request : ℕ) (response : ResponseRef) (reply : Reply) (moment : ℕ)
      → is_some (request_numbered book request) ≡ true
      → filter_map (answers moment)
      (investor_output.event_messages market book (at_investor.Answered request response reply moment))
      ≡ named response moment ∷ []
  unfolding investor_output.event_messages
  answer_said request response reply moment is =
      by_request response reply moment (request_numbered book request) is

-- An answer to an investor.

module _ (config : Configuration) (facts : List Fact) (investor : ℕ) (row : InvestorRow)
    (is : investor_numbered config investor ≡ Some row) where
  abbrev own : InvestorMarket
  own = market_of config investor row

  abbrev its_book : InvestorBook
  its_book = investor_trail.book_by (of_investor investor facts)

  abbrev pub sends : Effect → List (List ℕ)
  sends effect = investor_trail.sent_by (of_investor investor effect.facts)

  pub answer_own : (by : Actor) (n : ℕ) (response : ResponseRef) (reply : Reply) (moment : ℕ)
      → is_met config facts by (duty.Answer (record { investor = investor; n = n }) response reply moment) ≡ true
      → Says answers own (sends (duty_effect config facts by
      (duty.Answer (record { investor = investor; n = n }) response reply moment)))
      (named response moment ∷ [])
  unfolding is_met duty_effect
  answer_own by n response reply moment met =
      let parts = and_parts (replies_to response.k reply)
      (holds_for (option_map (market_of config investor) (Some row)) (is_known_to facts n response.k))
      (rw is at met) in
      let known = and_parts (is_some (request_numbered its_book n)) _ parts.1 in
      rw (is, parts.0, parts.1)
      (subst (Says answers own (sends (at_market facts own (at_investor.Answered n response reply moment) [])))
      (answer_said own its_book n response reply moment known.0)
      (event_says answers config facts investor row is (at_investor.Answered n response reply moment) []))
