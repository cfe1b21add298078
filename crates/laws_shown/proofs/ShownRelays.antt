-- What a quote that comes to an investor's desk brings of what is shown.
use Rattle.std.proofs.Common.{◌≡◌, ℕ, ◌+◌, ◌==◌, List, [], ◌∷◌, ◌++◌, length}
use Rattle.std.proofs.Common.{false}
use Rattle.std.proofs.Common.{Option, Some, None, option_map, refl, sym, ap, ◌∙◌, inl, inr}
use Rattle.std.proofs.Common.{subst}
use Rattle.std.proofs.lemmas.Bool.{eqb-true}
use Rattle.std.proofs.lemmas.Option.{same_Some}
use Rattle.fix_fields.specs.Frame.{IsValue}
use Rattle.std.specs.Option.{option_to_list}
use Rattle.market_terms.specs.declared.rooms.Offer.{Offer}
use Rattle.venue_rows.specs.Rows.{Configuration, investor_numbered}
use Rattle.venue_rows.specs.declared.investor_rows.InvestorRow.{InvestorRow}
use Rattle.venue_steps.specs.declared.actors.Actor.{Actor}
use Rattle.investor_desk.specs.InvestorDesk.{market_of}
use Rattle.investor_desk.specs.InvestorFacts.{Asked, InvestorBook, InvestorFact, Offered}
use Rattle.investor_desk.specs.InvestorFacts.{StandingRequest, offer_of_dealer}
use Rattle.investor_desk.specs.InvestorFacts.{offers_of, open_request, request_numbered}
use Rattle.investor_desk.specs.InvestorFacts.{requests_of}
use Rattle.investor_desk.specs.InvestorOutput.{event_facts}
use Rattle.investor_desk.specs.InvestorOutput.{event_messages}
use Rattle.investor_desk.specs.InvestorOutput.{gone_facts, gone_message, head_of, next_offer}
use Rattle.investor_desk.specs.InvestorOutput.{offer_facts, offer_message, offer_messages}
use Rattle.investor_desk.specs.InvestorRules.{InvestorMarket}
use Rattle.investor_desk.specs.declared.events.InvestorEvent.{InvestorEvent}
use Rattle.investor_desk.specs.declared.events.InvestorEvent.TheVariants as event
use Rattle.investor_desk.specs.declared.standing.ShownOffer.{ShownOffer}
use Rattle.step_replay.specs.Actions.{at_market}
use Rattle.step_replay.specs.EachLemmas.{every_both}
use Rattle.step_replay.specs.GrowthLemmas.{in_right}
use Rattle.step_replay.specs.InvestorTrail.{AtDesk, book_by}
use Rattle.step_replay.specs.Lists.{Every, In}
use Rattle.step_replay.specs.VenueFacts.{Fact, of_investor}
use Rattle.quote_messages.specs.declared.out_messages.OutMessage.{OutMessage}
use Rattle.laws_days.proofs.NewsWalk.{gone_says, while_found}
use Rattle.laws_shown.specs.ShownQuotes.{IsShown}
use Rattle.laws_shown.specs.ShownRequests.{at_investor, room_of}
use Rattle.laws_shown.proofs.LawfulFields.{frame_value}
use Rattle.laws_shown.proofs.ListLemmas.{AreFrom, found_first, found_in, one_with}
use Rattle.laws_shown.proofs.ShownDesk.{Brings, Stood}
use Rattle.quote_messages.specs.Written.{written}
use Rattle.investor_desk.specs.InvestorOutput.{written_from}
use Rattle.laws_shown.specs.ShownQuotes.{AreShownInTurn, ShowsQuote, shown_to}
use Rattle.laws_shown.proofs.Messages.{plain_shows_none, shows}
use Rattle.laws_shown.proofs.ShownParts.{turn_none}
use Rattle.laws_shown.proofs.ShownTexts.{quote_beside}
use Rattle.laws_shown.proofs.ShownMarket.{first}
use Rattle.laws_shown.proofs.ShownMarket.{Says, effect, happened_now}
use Rattle.laws_shown.proofs.ShownMarket.{market_brings, plain_says, requests_in}
use Rattle.laws_shown.proofs.ShownParts.{InvestorOk, Relays, asked_in, asked_of, number_asked}
use Rattle.laws_shown.proofs.ShownParts.{quote_later, request_later, shown_later, written_later}
use Rattle.laws_shown.proofs.ShownTexts.{quote_text}

-- what was offered is one of the quotes that were shown
pub offered_in : (shown : ShownOffer) (facts : List InvestorFact) → In (Offered shown) facts
    → In shown (offers_of facts)
offered_in shown [] is = absurd is
offered_in shown (Offered other ∷ facts) (inl is) = inl (offer_same other shown is)
  where
    offer_of : InvestorFact → ShownOffer → ShownOffer
    offer_of (Offered found) none = found
    offer_of fact none = none

    offer_same : (one two : ShownOffer) → Offered one ≡ Offered two → one ≡ two
    offer_same one two same = ap (λ (fact : InvestorFact). offer_of fact one) same
offered_in shown (Offered other ∷ facts) (inr is) = inr (offered_in shown facts is)
offered_in shown (fact ∷ facts) (inl is) = cc
offered_in shown (fact ∷ facts) (inr is) = offered_in shown facts is

module _ (config : Configuration) (facts : List Fact) (by : Actor) (firm : ℕ) (row : InvestorRow)
  where
    abbrev market : InvestorMarket
    market = market_of config firm row

    abbrev desk : List InvestorFact
    desk = at_investor firm facts

    abbrev book : InvestorBook
    book = book_by (of_investor firm facts)

    -- A quote comes.

    module _ (stood : Stood config facts) (row_is : investor_numbered config firm ≡ Some row)
        (number : ℕ) (offer : Offer) (moment : ℕ)
        (relays : Relays config facts by (room_of firm number) offer) where
      abbrev more : InvestorEvent
      more = event.QuoteCame number offer moment

      abbrev now : List Fact
      now = facts ++ (effect config facts by firm row more []).facts

      abbrev shown : ShownOffer
      shown = next_offer book number offer

      -- the investor wrote its name in a frame
      named : IsValue row.name
      named =
          let asked = relays.is_quote.is_written.is_request in
          subst (λ (r : InvestorRow). IsValue r.name)
          (same_Some asked.row row (sym asked.is_investor ∙ row_is))
          (frame_value asked.came.bytes asked.asked 49 asked.row.name asked.came.frame
          asked.says.sender)

      -- it is an accepted quote
      is_shown : IsShown config facts firm shown relays.dealer relays.quote
      is_shown = record {
        is_written = relays.is_quote.is_written;
        offer = relays.offer_is;
      }

      stands : (found : Option StandingRequest)
          → Every (λ fact. InvestorOk config now firm (AtDesk fact))
          (offer_facts book number offer found)
      stands None = tt
      stands (Some own) =
          let Ok = λ (fact : InvestorFact). InvestorOk config now firm (AtDesk fact) in
          every_both (λ (fact : InvestorFact). InvestorOk config now firm (AtDesk fact))
          (gone_facts number (offer_of_dealer own offer.dealer)) (Offered shown ∷ [])
          (goes (offer_of_dealer own offer.dealer)) (
            record {
              dealer = relays.dealer;
              quote = relays.quote;
              is_shown = shown_later config facts (effect config facts by firm row more []).facts firm
                  shown relays.dealer relays.quote is_shown;
            },
            tt,
          )
        where
          goes : (gone : Option ShownOffer)
              → Every (λ (fact : InvestorFact). InvestorOk config now firm (AtDesk fact))
              (gone_facts number gone)
          goes None = tt
          goes (Some old) = (tt, tt)

      -- the request on which it comes is the one that it answers
      one_request : (own : StandingRequest) → open_request book number ≡ Some own
          → own.request ≡ relays.is_quote.is_written.request
      unfolding request_numbered
      one_request own found =
          let first = found_first (λ (r : StandingRequest). r.request.number == number)
          (requests_of desk) own (while_found (request_numbered book number) own found) in
          let request = relays.is_quote.is_written.request in
          one_with number_asked 1 (asked_of desk) (stood.numbered firm) own.request request
          (found_in asked_in (Asked own.request) own.request desk refl
          (requests_in desk own first.1))
          (found_in asked_in (Asked request) request desk refl
          relays.is_quote.is_written.is_request.accepted)
          (eqb-true own.request.number number first.0
          ∙ sym relays.is_quote.is_written.is_request.number)

      says : (found : Option StandingRequest) → open_request book number ≡ found
          → ((fact : InvestorFact) → In fact (offer_facts book number offer found)
          → In fact (at_investor firm now))
          → Every (Says config facts by firm row more []) (offer_messages book number offer found)
      unfolding is_shown shown_later written_later quote_later request_later
      says None is added = tt
      says (Some own) is added =
          every_both (Says config facts by firm row more [])
          (option_to_list (option_map (gone_message own) (offer_of_dealer own offer.dealer)))
          (offer_message own shown ∷ [])
          (plain_says config facts by firm row more [] _
          (gone_says (λ (m : OutMessage). shows m ≡ false) own (λ shown. refl)
          (offer_of_dealer own offer.dealer))) (
            (λ next when. quote_text config now (head_of market next when) refl named firm shown
                relays.dealer relays.quote (shown_later config facts (effect config facts by firm row more []).facts firm
                shown relays.dealer relays.quote is_shown)
                (offered_in shown (at_investor firm now)
                (added (Offered shown) (in_right (Offered shown)
                (gone_facts number (offer_of_dealer own offer.dealer)) (Offered shown ∷ []) (inl refl))))
                own.request (one_request own is)),
            tt,
          )

      numbered : (found : Option StandingRequest)
          → AreFrom number_asked (1 + length (asked_of desk))
          (asked_of (offer_facts book number offer found))
      numbered None = tt
      numbered (Some own) = by_gone (offer_of_dealer own offer.dealer)
        where
          by_gone : (gone : Option ShownOffer) → AreFrom number_asked (1 + length (asked_of desk))
              (asked_of (gone_facts number gone ++ Offered shown ∷ []))
          by_gone None = tt
          by_gone (Some old) = tt

      -- what is sent shows it in turn
      in_turn : (found : Option StandingRequest) → open_request book number ≡ found
          → ((fact : InvestorFact) → In fact (offer_facts book number offer found)
          → In fact (at_investor firm now))
          → AreShownInTurn config now firm
          (written_from market (first config facts by firm row more []) moment
          (offer_messages book number offer found))
          (offers_of (offer_facts book number offer found))
      unfolding is_shown shown_later written_later quote_later request_later
      in_turn None is added = turn_none config now firm
      in_turn (Some own) is added = by_gone (offer_of_dealer own offer.dealer) refl
        where
          text : (next when : ℕ) → In shown (shown_to firm now)
              → ShowsQuote config now firm (written (head_of market next when)
              (offer_message own shown)) shown
          text next when offered =
              quote_beside config now (head_of market next when) refl named firm shown
              relays.dealer relays.quote (shown_later config facts
              (effect config facts by firm row more []).facts firm shown relays.dealer relays.quote
              is_shown) offered own.request (one_request own is)

          there : (old : Option ShownOffer) → offer_of_dealer own offer.dealer ≡ old
              → In shown (shown_to firm now)
          there old same =
              offered_in shown (at_investor firm now)
              (added (Offered shown) (in_right (Offered shown)
              (gone_facts number (offer_of_dealer own offer.dealer)) (Offered shown ∷ [])
              (inl refl)))

          by_gone : (old : Option ShownOffer) → offer_of_dealer own offer.dealer ≡ old
              → AreShownInTurn config now firm
              (written_from market (first config facts by firm row more []) moment
              (option_to_list (option_map (gone_message own) old)
              ++ offer_message own shown ∷ []))
              (offers_of (gone_facts number old ++ Offered shown ∷ []))
          by_gone None same = record {
            beside = Some shown ∷ [];
            each = (text _ moment (there None same), tt);
            are_all = refl;
          }
          by_gone (Some old) same = record {
            beside = None ∷ Some shown ∷ [];
            each = (
              plain_shows_none (head_of market (first config facts by firm row more []) moment)
                  (gone_message own old) refl,
              (text _ moment (there (Some old) same), tt),
            );
            are_all = refl;
          }

      pub came_brings : Brings config facts by (at_market facts market more [])
      unfolding event_facts event_messages
      came_brings =
          market_brings config facts by firm row more [] (stands (open_request book number))
          (says (open_request book number) refl (happened_now config facts by firm row more []))
          (numbered (open_request book number))
          (in_turn (open_request book number) refl
          (happened_now config facts by firm row more [])) tt
