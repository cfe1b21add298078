-- Both sides of a trade agree, where what stands in a venue and of trades stands and no duty is
-- left.
use Rattle.laws_days.proofs.Common.{List, Some, ℕ, [], ap, arith}
use Rattle.laws_days.proofs.Common.{inl, inr, is_some, option_map, refl, subst, sym}
use Rattle.laws_days.proofs.Common.{true, ◌&&◌, ◌++◌, ◌+◌, ◌-◌, ◌==◌, ◌∙◌, ◌∷◌, ◌≡◌}
use Rattle.laws_days.proofs.Common.{and_parts, eqb-true, append-nil}
use Rattle.laws_days.proofs.Common.{take-append-drop, filter_map-append, same_Some, slice_get}
use Rattle.laws_days.proofs.Common.{Ask, Close, RoomRef, Configuration, dealer_numbered, DealerRow}
use Rattle.laws_days.proofs.Common.{DealerFact, Quoted, Told, request_numbered, closable}
use Rattle.laws_days.proofs.Common.{number_in, AcceptedQuote, StandingRequest}
use Rattle.laws_days.proofs.Common.{ShownOffer, InvestorFact, Offered}
use Rattle.laws_days.proofs.Common.{close_for}
use Rattle.laws_days.proofs.Common.{Actor, AuditTrail, dealer_of, word_for, QuoteRef}
use Rattle.laws_days.proofs.Common.{quote_with_word, AtDesk, DealerEntry, lifts}
use Rattle.laws_days.proofs.Common.{book_by, facts_of, rooms_by, was_lifted, each_of}
use Rattle.laws_days.proofs.Common.{In, all_in, any_left, in_left, AtDealer}
use Rattle.laws_days.proofs.Common.{of_dealer}
use Rattle.laws_days.proofs.Common.{NamesLiftedQuote}
use Rattle.market_terms.specs.declared.closes.Close.TheVariants as closes
use Rattle.market_terms.specs.declared.closes.Reply.TheVariants as reply
use Rattle.market_terms.specs.declared.duties.Duty.TheVariants as duty
use Rattle.market_terms.specs.declared.rooms.Offer.{Offer}
use Rattle.quote_messages.specs.declared.out_messages.OutMessage.{OutMessage}
use Rattle.dealer_desk.specs.DealerFacts.{is_live, is_live_on, live_quote_on, standings}
use Rattle.dealer_desk.specs.DealerOutput as dealer_output
use Rattle.dealer_desk.specs.DealerOutput.{event_message, next_message, quoted_price}
use Rattle.investor_desk.specs.InvestorFacts.{Closed, offer_numbered}
use Rattle.investor_desk.specs.declared.standing.RequestClose.TheVariants.{Awarded}
use Rattle.venue_steps.specs.declared.actors.Actor.TheVariants as actor
use Rattle.step_replay.specs.DealerTrail.{sent_by}
use Rattle.step_replay.specs.OwnerLemmas.{quote_at}
use Rattle.laws_days.proofs.ListLemmas.{cases_some, found_passes}
use Rattle.laws_days.proofs.PlainFacts.{at_dealer_all}
use Rattle.laws_days.proofs.ShownRequests.{in_facts, untold_is}
use Rattle.laws_days.proofs.ToldLemmas.{is_told_once}
use Rattle.laws_days.proofs.VenueInvariant.{ClosedIn, FactOk, VenueOk}
use Rattle.laws_days.proofs.VenueKnown.{told_did}
use Rattle.laws_days.proofs.VenueParts.{NamesLifted, Still, did_in, duties_by, investor_facts}
use Rattle.laws_days.proofs.VenueParts.{later_same, number_for}
use Rattle.laws_days.proofs.VenueTurns.{turns_of}
use Rattle.laws_days.specs.Notices.{IsToldOnce, notices_of}
use Rattle.laws_days.specs.LiveDuties.{NoDutyIsLeft}
use Rattle.laws_days.proofs.Common.{next_sent}
use Rattle.laws_trades.specs.Trades.{IsSentNotice, NoOtherIsLifted, NoOtherIsTold, Trade, answered}
use Rattle.laws_trades.specs.Trades.{at_investor, notice_of, room_of}
use Rattle.laws_trades.proofs.QuoteNumbers.{QuotesFit, asks_in, request_at}
use Rattle.laws_trades.proofs.TradeLists.{find_in, get_grown}
use Rattle.laws_trades.proofs.TradeParts.{AskOf, AwardLeft, ClosedBy, IsClosed}
use Rattle.laws_trades.proofs.TradeParts.{LiftedAt, OfferOf, TradeDone}
use Rattle.laws_trades.proofs.TradeParts.{TradeOk}
use Rattle.laws_trades.proofs.TradeFound.{asks_for, at_market, award_left, hit_kind}
use Rattle.laws_trades.proofs.TradeFound.{is_named_in, lifted_by, offer_in, one_lifting}
use Rattle.laws_trades.proofs.TradeFound.{one_number, one_winner, owner, standing_in, told_winner}
use Rattle.laws_trades.proofs.TradeFound.{winner_told}

module _ {config : Configuration} {venue : AuditTrail} (stood : VenueOk config venue)
    (trades : TradeOk config venue)
    (fits : (dealer : ℕ) (row : DealerRow) → dealer_numbered config dealer ≡ Some row
    → QuotesFit (facts_of (of_dealer dealer venue.facts))) where
  abbrev trail : ℕ → List DealerEntry
  trail dealer = of_dealer dealer venue.facts

  -- a quote on the request of a room whose word is lifted was lifted there
  lifted_on : (dealer : ℕ) (own : AcceptedQuote) (room : RoomRef)
      → In (Quoted own) (facts_of (trail dealer))
      → number_for venue.facts dealer room ≡ Some own.request
      → was_lifted (trail dealer) own.number ≡ true
      → LiftedAt config venue.facts dealer own.number room
  lifted_on dealer own room quoted there is =
      let by = lifted_by stood trades dealer own.number is in
      let at = by.1 in
      let same : at.quoted.own ≡ own =
      (fits dealer at.row at.row_is).alone at.quoted.own own at.quoted.quoted quoted
      at.quoted.number_is in
      let number : number_for venue.facts dealer by.0 ≡ Some own.request =
      at.quoted.request_is ∙ ap (λ (q : AcceptedQuote). Some q.request) same in
      let room_is : by.0 ≡ room =
      one_number (rooms_by (trail dealer)) by.0 room own.request number there in
      subst (λ (r : RoomRef). LiftedAt config venue.facts dealer own.number r) room_is at

  -- The notice.

  module _ (dealer : ℕ) (row : DealerRow) (is : dealer_numbered config dealer ≡ Some row)
      (room : RoomRef) (own : AcceptedQuote) (ask : Ask) (moment : ℕ)
      (quoted : In (Quoted own) (facts_of (trail dealer)))
      (there : number_for venue.facts dealer room ≡ Some own.request)
      (lifted : was_lifted (trail dealer) own.number ≡ true)
      (asks : slice_get (asks_in (facts_of (trail dealer))) (own.request - 1) ≡ Some ask)
      (front rest : List DealerEntry)
      (split : trail dealer ≡ front ++ AtDesk (Told own.request closes.Hit moment) ∷ rest)
      (names : NamesLiftedQuote config.date row front own.request moment rest) where
    -- what stood before stands
    stands_too : (fact : DealerFact) → In fact (facts_of front) → In fact (facts_of (trail dealer))
    stands_too fact before =
        rw (split, filter_map-append) (in_left fact (facts_of front) _ before)

    live_in : In names.own (standings (facts_of front))
    unfolding live_quote_on
    live_in = find_in (is_live_on own.request) (standings (facts_of front)) names.own names.live

    live_on : (is_live names.own && (names.own.quote.request == own.request)) ≡ true
    unfolding live_quote_on
    live_on =
        found_passes (is_live_on own.request) (standings (facts_of front)) names.own names.live

    -- the quote that it names is this one
    names_it : names.own.quote ≡ own
    names_it =
        let request : names.own.quote.request ≡ own.request =
        eqb-true names.own.quote.request own.request
        (and_parts (is_live names.own) (names.own.quote.request == own.request) live_on).1 in
        let here = stands_too (Quoted names.own.quote) (standing_in names.own (facts_of front) live_in) in
        let also = lifted_on dealer names.own.quote room here
        (there ∙ ap (λ (n : ℕ). Some n) (sym request))
        (rw split (any_left (lifts names.own.quote.number) front _ names.lifted)) in
        let same = one_lifting stood trades dealer names.own.quote.number dealer own.number room also
        (lifted_on dealer own room quoted there lifted) in
        (fits dealer row is).alone names.own.quote own here quoted same.1

    -- the request that it closes
    closing : (request : StandingRequest)
        × (closable (book_by front) own.request ≡ Some request)
    unfolding event_message
    closing = elim (cases_some (closable (book_by front) own.request)) [
      | inl none ↦ cc (rw none at names.written)
      | inr some ↦ some
    ]

    number_is : closing.0.number ≡ own.request
    unfolding closable request_numbered
    number_is =
        let untold = untold_is _ (ap is_some closing.1) in
        eqb-true closing.0.number own.request
        (found_passes (λ (other : StandingRequest). other.number == own.request)
        (book_by front).requests closing.0 (sym untold.0 ∙ closing.1))

    ask_is : closing.0.ask ≡ ask
    unfolding closable request_numbered
    ask_is =
        let untold = untold_is _ (ap is_some closing.1) in
        let at = request_at 1 (facts_of front) closing.0
        (find_in (λ (other : StandingRequest). other.number == own.request)
        (book_by front).requests closing.0 (sym untold.0 ∙ closing.1)) in
        let number = number_is in
        let place : at.0 ≡ own.request - 1 = omega (arith, at.1) in
        let grown : slice_get (asks_in (facts_of (trail dealer))) at.0 ≡ Some closing.0.ask =
        rw (split, filter_map-append, filter_map-append)
        (get_grown (asks_in (facts_of front)) _ at.0 closing.0.ask at.2) in
        same_Some closing.0.ask ask
        (sym grown ∙ ap (slice_get (asks_in (facts_of (trail dealer)))) place ∙ asks)

    notice_is : names.notice ≡ notice_of ((book_by front).notices + 1) ask own
    unfolding event_message
    notice_is =
        let written : Some (dealer_output.notice_of (book_by front) closes.Hit closing.0)
        ≡ Some names.notice =
        ap (option_map (dealer_output.notice_of (book_by front) closes.Hit)) (sym closing.1)
        ∙ names.written in
        let live : live_quote_on (book_by front) closing.0.number ≡ Some names.own =
        ap (live_quote_on (book_by front)) number_is ∙ names.live in
        sym (same_Some _ names.notice written)
        ∙ rw (live, number_is, ask_is, names_it) refl

    notice_of_it : (number : ℕ) × (next_sent rest
        ≡ Some (next_message config.date row (sent_by front) moment (notice_of number ask own)))
    notice_of_it = (
      (book_by front).notices + 1,
      names.sent
          ∙ ap (λ (m : OutMessage).
          Some (next_message config.date row (sent_by front) moment m)) notice_is,
    )

  -- The trade.

  module _ (idle : NoDutyIsLeft venue) where
    -- what an idle actor left is done
    all_done : (by : Actor) → did_in venue by ≡ duties_by by venue.caused
    all_done by =
        sym (append-nil (did_in venue by)) ∙ ap (λ l. did_in venue by ++ l) (sym (idle by))
        ∙ take-append-drop (turns_of by venue.done) (duties_by by venue.caused)

    module _ (investor request quote : ℕ) (name : List ℕ) (price : ℕ)
        (answer : In (answered request quote name price) (at_investor investor venue.facts)) where
      abbrev room : RoomRef
      room = room_of investor request

      closed : ClosedBy config venue.facts investor request quote name price
      closed = at_market stood trades investor (Closed request (Awarded quote name price)) answer

      shown_it : In (Offered closed.shown) (investor_facts venue.facts investor)
      unfolding offer_numbered
      shown_it =
          offer_in closed.shown (investor_facts venue.facts investor)
          (find_in (λ (s : ShownOffer). s.number == quote) _ closed.shown closed.found)

      number_shown : closed.shown.number ≡ quote
      unfolding offer_numbered
      number_shown =
          eqb-true closed.shown.number quote
          (found_passes (λ (s : ShownOffer). s.number == quote) _ closed.shown closed.found)

      offer : OfferOf config venue.facts room closed.shown.offer
      offer =
          subst (λ (n : ℕ). OfferOf config venue.facts (room_of investor n) closed.shown.offer)
          closed.request_is (at_market stood trades investor (Offered closed.shown) shown_it)

      left : AwardLeft config room venue
      left = award_left stood trades room closed.award.end closed.award.end_is closed.award.kind_is

      -- the quote that was lifted is the one that was shown
      same_quote : (left.dealer ≡ offer.dealer) × (left.quote ≡ offer.own.number)
      same_quote =
          let words : word_for config (dealer_of left.dealer left.lift.row) left.quote
          ≡ word_for config (dealer_of offer.dealer offer.row) offer.own.number =
          (one_winner left.lift.award closed.award).1
          ∙ ap (λ (o : Offer). o.word) offer.offer_is in
          let same = same_Some (quote_at left.dealer left.quote)
          (quote_at offer.dealer offer.own.number)
          (sym (owner config left.dealer left.lift.row left.quote left.lift.row_is left.lift.within)
          ∙ ap (quote_with_word config) words
          ∙ owner config offer.dealer offer.row offer.own.number offer.row_is offer.within) in
          (ap (λ (r : QuoteRef). r.dealer) same, ap (λ (r : QuoteRef). r.quote) same)

      lifted_it : was_lifted (trail offer.dealer) offer.own.number ≡ true
      lifted_it =
          subst (λ (d : ℕ). was_lifted (trail d) offer.own.number ≡ true) same_quote.0
          (subst (λ (q : ℕ). was_lifted (trail left.dealer) q ≡ true) same_quote.1 left.lifted)

      lifted_here : LiftedAt config venue.facts offer.dealer offer.own.number room
      lifted_here = lifted_on offer.dealer offer.own room offer.quoted offer.request_is lifted_it

      asks : (ask : Ask)
          × (slice_get (asks_in (facts_of (trail offer.dealer))) (offer.own.request - 1)
          ≡ Some ask) × AskOf venue.facts room ask
      asks = asks_for stood trades offer.dealer offer.row offer.row_is room offer.own.request offer.request_is

      told : IsToldOnce (trail offer.dealer) room (close_for lifted_here.award.end offer.dealer)
      told =
          is_told_once config venue stood idle room lifted_here.award.end offer.dealer
          lifted_here.award.end_is
          (is_named_in stood trades offer.dealer room offer.own.request offer.request_is)

      told_it : notices_of offer.own.request (trail offer.dealer)
          ≡ Told offer.own.request closes.Hit told.moment ∷ []
      told_it =
          let number : told.request ≡ offer.own.request =
          same_Some told.request offer.own.request (sym told.shown ∙ offer.request_is) in
          rw (← number) (told.told
          ∙ ap (λ (c : Close). Told told.request c told.moment ∷ []) (winner_told lifted_here.award))

      notice : IsSentNotice config.date offer.row (trail offer.dealer) asks.0 offer.own
      notice moment front rest split =
          notice_of_it offer.dealer offer.row offer.row_is room offer.own asks.0 moment
          offer.quoted offer.request_is lifted_it asks.1 front rest split
          (each_of (NamesLifted config.date offer.row) (trail offer.dealer) front
          (AtDesk (Told offer.own.request closes.Hit moment)) rest
          (stood.desks offer.dealer offer.row offer.row_is).names split)

      others_untold : NoOtherIsTold venue.facts room offer.dealer
      others_untold other number moment found is =
          let did = (told_did stood room other number closes.Hit moment found is).1 in
          told_winner lifted_here.award did.ok.end other did.ok.end_is (sym did.ok.close_is)

      others_unlifted : NoOtherIsLifted venue.facts room offer.dealer offer.own
      others_unlifted other own quoted found is =
          let same = one_lifting stood trades other own.number offer.dealer offer.own.number room
          (lifted_on other own room quoted found is) lifted_here in (
            same.0,
            (fits offer.dealer offer.row offer.row_is).alone own offer.own
                (subst (λ (d : ℕ). In (Quoted own) (facts_of (trail d))) same.0 quoted)
                offer.quoted same.1,
          )

      name_is : closed.shown.offer.dealer ≡ offer.row.name
      name_is = ap (λ (o : Offer). o.dealer) offer.offer_is

      price_is : closed.shown.offer.price ≡ offer.own.price
      price_is = ap (λ (o : Offer). o.price) offer.offer_is

      word_is : quote_with_word config closed.shown.offer.word
          ≡ Some (quote_at offer.dealer offer.own.number)
      word_is =
          ap (λ (o : Offer). quote_with_word config o.word) offer.offer_is
          ∙ owner config offer.dealer offer.row offer.own.number offer.row_is offer.within

      trade : Trade config venue.facts
      trade =
          let asked = asks.2.asked in
          let of = (fits offer.dealer offer.row offer.row_is).are_for offer.own offer.quoted in
          let ask : of.ask ≡ asked.ask =
          same_Some of.ask asks.0 (sym of.there ∙ asks.1) ∙ sym asks.2.ask_is in
          let number : asked.number ≡ request = asks.2.number_is in
          let names : name ≡ offer.row.name = sym closed.dealer_is ∙ name_is in
          let prices : price ≡ offer.own.price = sym closed.price_is ∙ price_is in
          let shown = number_shown in
          let same : answered request quote name price
          ≡ answered asked.number closed.shown.number offer.row.name offer.own.price = cc in
          let answered_it : In (answered asked.number closed.shown.number offer.row.name offer.own.price)
          (at_investor investor venue.facts) =
          subst (λ (f : InvestorFact). In f (at_investor investor venue.facts)) same answer in
          let noticed : IsSentNotice config.date offer.row (trail offer.dealer) asked.ask offer.own =
          subst (λ (a : Ask). IsSentNotice config.date offer.row (trail offer.dealer) a offer.own)
          (sym asks.2.ask_is) notice in
          let untold : NoOtherIsTold venue.facts (room_of investor asked.number) offer.dealer =
          subst (λ (n : ℕ). NoOtherIsTold venue.facts (room_of investor n) offer.dealer) (sym number)
          others_untold in
          let unlifted : NoOtherIsLifted venue.facts (room_of investor asked.number) offer.dealer offer.own =
          subst (λ (n : ℕ). NoOtherIsLifted venue.facts (room_of investor n) offer.dealer offer.own)
          (sym number) others_unlifted in
          record {
            deal = record {
              investor = investor;
              asked = asked;
              shown = closed.shown;
              dealer = offer.dealer;
              row = offer.row;
              quote = offer.own;
              was_asked = asks.2.was_asked;
              was_shown = shown_it;
              is_on = closed.request_is ∙ sym number;
              is_dealer = offer.row_is;
              is_named = name_is;
              was_quoted = offer.quoted;
              is_there = rw number (offer.request_is);
              bond = of.bond ∙ ap (λ (a : Ask). a.bond) ask;
              side = of.side ∙ ap (λ (a : Ask). a.side) ask;
              quantity = of.quantity ∙ ap (λ (a : Ask). a.quantity) ask;
              price = sym price_is;
              valid_until = sym (ap (λ (o : Offer). o.valid_until) offer.offer_is);
              word = word_is;
              lifted = lifted_it;
            };
            told = record {
              is_answered = answered_it;
              moment = told.moment;
              once = told_it;
              notice = noticed;
            };
            untold = record { told = untold; lifted = unlifted };
          }

      pub trade_of : (t : Trade config venue.facts) × (t.deal.investor ≡ investor)
          × (t.deal.asked.number ≡ request) × (t.deal.shown.number ≡ quote)
          × (t.deal.row.name ≡ name) × (t.deal.quote.price ≡ price)
      unfolding trade
      trade_of = (
        trade,
        refl,
        asks.2.number_is,
        number_shown,
        sym name_is ∙ closed.dealer_is,
        sym price_is ∙ closed.price_is,
      )

    -- The other way.

    pub trade_told : (dealer : ℕ) (row : DealerRow) (request moment : ℕ)
        → dealer_numbered config dealer ≡ Some row
        → In (Told request closes.Hit moment) (facts_of (trail dealer))
        → (t : Trade config venue.facts) × (t.deal.dealer ≡ dealer)
        × (t.deal.quote.request ≡ request)
    trade_told dealer row request moment is told =
        let closing : ClosedIn config dealer request closes.Hit venue =
        all_in (λ entry. Still (FactOk config (AtDealer dealer entry)) venue)
        (AtDesk (Told request closes.Hit moment)) (trail dealer)
        (at_dealer_all (λ fact. Still (FactOk config fact) venue) dealer venue.facts stood.facts)
        (in_facts (Told request closes.Hit moment) (trail dealer) told) venue (later_same venue) in
        let at = closing.room in
        let tells = closing.did.ok in
        let kind = hit_kind tells.end.kind tells.end dealer (sym tells.close_is) in
        let left = award_left stood trades at tells.end tells.end_is kind in
        let answer = duty.Answer at left.response reply.Awarded left.moment in
        let done : IsClosed venue.facts at =
        all_in (λ one. Still (TradeDone one) venue) answer
        (did_in venue (actor.Firm at.investor)) (trades.done (actor.Firm at.investor))
        (rw (all_done (actor.Firm at.investor)) (left.left)) venue (later_same venue) in
        let made = trade_of at.investor at.n done.quote done.dealer done.price done.closed in
        let t = made.0 in
        let number : number_in (rooms_by (trail dealer)) (room_of t.deal.investor t.deal.asked.number)
        ≡ Some request = rw (made.1, made.2) (closing.request_is) in
        let same : dealer ≡ t.deal.dealer = t.untold.told dealer request moment number told in (
          t,
          sym same,
          same_Some t.deal.quote.request request
              (sym t.deal.is_there ∙ rw (← same) number),
        )
