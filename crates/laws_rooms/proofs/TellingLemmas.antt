-- What an action tells an investor of one dealer's quotes, withdrawals and declines on one request.
use Rattle.std.proofs.Common.{◌≡◌, ◌==◌, ◌+◌, ℕ, Bool, true, false, List, [], ◌∷◌, ◌++◌, map}
use Rattle.std.proofs.Common.{Option, Some, None, is_none, is_some, length, option_to_list, refl, sym, ap, ◌∙◌}
use Rattle.std.proofs.Common.{subst, inl, inr, if◌then◌else◌}
use Rattle.std.proofs.lemmas.Bool.{and_parts, cases_Bool, eq-eqb, eqb-true, false≢true}
use Rattle.std.proofs.lemmas.List.{append-nil, append_assoc}
use Rattle.std.proofs.lemmas.List.Elements.{filter_map-append}
use Rattle.dealer_desk.specs.DealerOutput.{is_same_room}
use Rattle.market_terms.specs.declared.closes.Reply.{Reply}
use Rattle.market_terms.specs.declared.duties.Duty.{Duty}
use Rattle.market_terms.specs.declared.duties.Duty.TheVariants as duty
use Rattle.market_terms.specs.declared.rooms.Offer.{Offer}
use Rattle.market_terms.specs.declared.rooms.ResponseRef.{ResponseRef}
use Rattle.market_terms.specs.declared.rooms.RoomRef.{RoomRef}
use Rattle.quote_messages.specs.declared.out_messages.OutMessage.TheVariants as out
use Rattle.venue_rows.specs.Rows.{Configuration, KeepsLimits, dealer_numbered, investor_numbered}
use Rattle.venue_rows.specs.declared.dealer_rows.DealerRow.{DealerRow}
use Rattle.venue_rows.specs.declared.investor_rows.InvestorRow.{InvestorRow}
use Rattle.venue_steps.specs.Dealers.{QuoteRef, quote_with_word}
use Rattle.venue_steps.specs.declared.actors.Actor.{Actor}
use Rattle.venue_steps.specs.declared.actors.Actor.TheVariants as actor
use Rattle.investor_desk.specs.InvestorDesk.{market_of}
use Rattle.investor_desk.specs.InvestorFacts.{InvestorBook, InvestorFact, Offered, StandingRequest}
use Rattle.investor_desk.specs.InvestorFacts.{offer_of_dealer, offer_with_word, offers_of, open_request}
use Rattle.investor_desk.specs.InvestorFacts.{request_numbered, while_open}
use Rattle.investor_desk.specs.InvestorOutput as investor_output
use Rattle.investor_desk.specs.InvestorRules.{InvestorMarket}
use Rattle.investor_desk.specs.declared.events.InvestorEvent.{InvestorEvent}
use Rattle.investor_desk.specs.declared.events.InvestorEvent.TheVariants as at_investor
use Rattle.investor_desk.specs.declared.standing.RequestClose.{RequestClose}
use Rattle.investor_desk.specs.declared.standing.ShownOffer.{ShownOffer}
use Rattle.investor_desk.specs.declared.verdicts.InvestorVerdict.{InvestorVerdict}
use Rattle.investor_desk.specs.declared.verdicts.InvestorVerdict.TheVariants as asks
use Rattle.request_room.specs.Book.{quote_posted}
use Rattle.request_room.specs.declared.quotes.PostedQuote.{PostedQuote}
use Rattle.step_replay.specs.Actions.{at_market}
use Rattle.step_replay.specs.AuditTrail.{is_same_actor}
use Rattle.step_replay.specs.DutyEffects.{duty_effect, message_effect, sweep_effect}
use Rattle.step_replay.specs.GrowthLemmas.{same_room}
use Rattle.step_replay.specs.InvestorTrail as investor_trail
use Rattle.step_replay.specs.InvestorTrail.{Happened, InvestorEntry, Sent, facts_of}
use Rattle.step_replay.specs.Lists.{Every, In}
use Rattle.step_replay.specs.OwnerLemmas.{quote_at}
use Rattle.step_replay.specs.PlaceLemmas.{investor_grown, own_investor}
use Rattle.step_replay.specs.VenueFacts.{Fact, of_investor}
use Rattle.laws_shown.proofs.ListLemmas.{AreFrom}
use Rattle.laws_shown.proofs.ShownMarket.{entries_facts, requests_in}
use Rattle.laws_shown.proofs.ShownParts.{DutyOk as ShownOk, Relays}
use Rattle.laws_shown.specs.ShownRequests.{at_investor as market_facts}
use Rattle.laws_days.specs.Conditions.{is_known, is_met}
use Rattle.laws_days.proofs.VenueKnown.{room_self}
use Rattle.laws_rooms.specs.Answered.{Answer, Declines, Quotes, Withdraws}
use Rattle.laws_rooms.specs.Offers.{is_of, quotes_shown}
use Rattle.laws_rooms.specs.Responses.{Said, said_to}
use Rattle.laws_rooms.specs.Tellings.{IsDecline, SaysDecline, TellAll, TellQuotes, as_told}
use Rattle.laws_rooms.proofs.DeclineLemmas.{found_there}
use Rattle.laws_rooms.proofs.DeskWalk as desk_walk
use Rattle.laws_rooms.proofs.FollowLemmas.{tellings}
use Rattle.laws_rooms.proofs.GoneLemmas.{OfDealer, beside, comes, elsewhere_others, of_offer, withdrawn}
use Rattle.laws_rooms.proofs.GoneLemmas.{withdrawn_beside, word_of, words}
use Rattle.laws_rooms.proofs.OfferLemmas.{Tells, behind, calm, message_tells, relays, shown, shows, sweep_tells}
use Rattle.laws_rooms.proofs.OfferLemmas.{tells_mine, tells_other}
use Rattle.laws_rooms.proofs.ShutLemmas.{shut, shut_in, still_live}
use Rattle.laws_rooms.proofs.StandLemmas.{IsElsewhere, elsewhere_all, number_of}
use Rattle.laws_rooms.proofs.TellLemmas.{market_grown}
use Rattle.laws_rooms.proofs.TellingParts.{FactsSay, all_both, all_grown, facts_told, tell_both, tell_grown}
use Rattle.laws_rooms.proofs.TellingParts.{told_as}
use Rattle.laws_rooms.proofs.TurnLists.{Fit, after_both, fit_left, fit_right, plain, plains, stands_after, told_with}

-- a duty to tell a withdrawal is its dealer's own
pub record GoesBy (config : Configuration) (by : Actor) (word : ℕ) : Type 0 where
  pub whose : ℕ
  pub quote : ℕ
  pub by_is : by ≡ actor.Firm whose
  pub word_is : quote_with_word config word ≡ Some (quote_at whose quote)

abbrev pub GoneOk : Configuration → Actor → Duty → Type 0
GoneOk config by (duty.Gone at word moment) = GoesBy config by word
GoneOk config by other = Unit {0}

module _ (dealer : ℕ) (config : Configuration) (row : DealerRow)
    (is : dealer_numbered config dealer ≡ Some row) (room : RoomRef) (investor : InvestorRow)
    (is_investor : investor_numbered config room.investor ≡ Some investor) where
  abbrev market : InvestorMarket
  market = market_of config room.investor investor

  abbrev trail : List Fact → List InvestorEntry
  trail facts = of_investor room.investor facts

  abbrev at_desk : List Fact → List InvestorFact
  at_desk facts = market_facts room.investor facts

  abbrev is_shut : List Fact → Bool
  is_shut facts = shut_in room.n (at_desk facts)

  abbrev QuotesOf : List InvestorFact → List Answer → List InvestorEntry → Type 0
  QuotesOf known answers entries = TellQuotes config market dealer row.name room.n known answers entries

  abbrev AllOf : List InvestorFact → List Answer → List InvestorEntry → Type 0
  AllOf known answers entries = TellAll config market dealer row.name room.n known answers entries

  abbrev SayOf : List InvestorFact → List Answer → List InvestorFact → Type 0
  SayOf known answers some = FactsSay config market dealer row.name room.n known answers some

  abbrev words_at : List InvestorFact → List ℕ
  words_at known = words config dealer row is room known

  -- These facts tell this: its quotes and declines, and where the configuration keeps its limits all of it;
  -- and then the quote stands that stands behind it.
  pub record Heard (facts : List Fact) (told : List Answer) : Type 0 where
    pub quotes : QuotesOf (at_desk facts) (plains told) (trail facts)
    pub all : KeepsLimits config → AllOf (at_desk facts) (as_told None told) (trail facts)
        × (words_at (at_desk facts) ≡ option_to_list (stands_after None told))

  -- what is added behind them tells this, whichever quote stands
  pub record Hears (facts added : List Fact) (items : List Answer) : Type 0 where
    pub quotes : QuotesOf (at_desk facts) (plains items) (trail added)
    pub all : KeepsLimits config → (live : Option ℕ) → Fit live items
        → words_at (at_desk facts) ≡ option_to_list live
        → AllOf (at_desk facts) (as_told live items) (trail added)
        × (words_at (at_desk facts ++ at_desk added) ≡ option_to_list (stands_after live items))

  -- what an investor was told of what was done
  pub record Told (facts : List Fact) (done : List Answer) : Type 0 where
    pub told : List Answer
    pub rest : List Answer
    pub begins : done ≡ told ++ rest
    pub heard : Heard facts told
    pub whole : is_shut facts ≡ false → rest ≡ []

  -- what an action tells beside what was done: just that, while the request is not closed; or nothing,
  -- and nothing was done, or the request was closed
  pub data Brings (facts added : List Fact) (items : List Answer) : Type 0 where
    idly : Hears facts added [] → items ≡ [] → Brings facts added items
    duly : Hears facts added items → is_shut facts ≡ false → Brings facts added items
    vainly : Hears facts added [] → is_shut facts ≡ true → Brings facts added items

  module _ (facts added : List Fact) where
    abbrev then_facts : List Fact
    then_facts = facts ++ added

    live_before : is_shut then_facts ≡ false → is_shut facts ≡ false
    live_before live =
        still_live room.n (at_desk facts) (at_desk added)
        (subst (λ (l : List InvestorFact). shut_in room.n l ≡ false) (market_grown room.investor facts added) live)

    -- what is told by both
    quotes_then : (told items : List Answer) → QuotesOf (at_desk facts) told (trail facts)
        → QuotesOf (at_desk facts) items (trail added)
        → QuotesOf (at_desk then_facts) (told ++ items) (trail then_facts)
    quotes_then told items one other =
        subst (λ (l : List InvestorFact). QuotesOf l (told ++ items) (trail then_facts))
        (sym (market_grown room.investor facts added))
        (tell_grown config market dealer row.name room.n (at_desk facts) (at_desk added) (told ++ items)
        (trail then_facts)
        (subst (QuotesOf (at_desk facts) (told ++ items)) (sym (investor_grown room.investor facts added))
        (tell_both config market dealer row.name room.n (at_desk facts) told items (trail facts) (trail added)
        one other)))

    all_then : (told items : List Answer) → AllOf (at_desk facts) told (trail facts)
        → AllOf (at_desk facts) items (trail added)
        → AllOf (at_desk then_facts) (told ++ items) (trail then_facts)
    all_then told items one other =
        subst (λ (l : List InvestorFact). AllOf l (told ++ items) (trail then_facts))
        (sym (market_grown room.investor facts added))
        (all_grown config market dealer row.name room.n (at_desk facts) (at_desk added) (told ++ items)
        (trail then_facts)
        (subst (AllOf (at_desk facts) (told ++ items)) (sym (investor_grown room.investor facts added))
        (all_both config market dealer row.name room.n (at_desk facts) told items (trail facts) (trail added)
        one other)))

    pub heard_then : (told items : List Answer) → Fit None (told ++ items) → Heard facts told
        → Hears facts added items → Heard then_facts (told ++ items)
    heard_then told items fit was now = record {
      quotes = subst (λ (l : List Answer). QuotesOf (at_desk then_facts) l (trail then_facts))
          (sym (filter_map-append plain told items))
          (quotes_then (plains told) (plains items) was.quotes now.quotes);
      all = λ limits. (
          let one = was.all limits in
          let other = now.all limits (stands_after None told) (fit_right None told items fit) one.1 in (
            subst (λ (l : List Answer). AllOf (at_desk then_facts) l (trail then_facts))
                (sym (told_with None told items))
                (all_then (as_told None told) (as_told (stands_after None told) items) one.0 other.0),
            ap (λ (l : List InvestorFact). words_at l) (market_grown room.investor facts added) ∙ other.1
                ∙ ap (λ (o : Option ℕ). option_to_list o) (sym (after_both None told items)),
          ));
    }

    pub heard_still : (told : List Answer) → Fit None told → Heard facts told → Hears facts added []
        → Heard then_facts told
    heard_still told fit was now =
        subst (λ (l : List Answer). Heard then_facts l) (append-nil told)
        (heard_then told [] (subst (Fit None) (sym (append-nil told)) fit) was now)

    pub told_more : (before items : List Answer) → Fit None (before ++ items) → Told facts before
        → Brings facts added items → Told then_facts (before ++ items)
    told_more before items fit was brings =
        by_brings (fit_left None was.told was.rest (subst (Fit None) was.begins (fit_left None before items fit))) brings
      where
        by_brings : Fit None was.told → Brings facts added items → Told then_facts (before ++ items)
        by_brings fit_told (idly none none_done) = record {
          told = was.told;
          rest = was.rest;
          begins = ap (λ (l : List Answer). before ++ l) none_done ∙ append-nil before ∙ was.begins;
          heard = heard_still was.told fit_told was.heard none;
          whole = λ live. was.whole (live_before live);
        }
        by_brings fit_told (duly tell live) =
            let all_done : before ≡ was.told =
            was.begins ∙ ap (λ (l : List Answer). was.told ++ l) (was.whole live) ∙ append-nil was.told in
            record {
              told = was.told ++ items;
              rest = [];
              begins = ap (λ (l : List Answer). l ++ items) all_done ∙ sym (append-nil (was.told ++ items));
              heard = heard_then was.told items
                  (subst (λ (l : List Answer). Fit None (l ++ items)) all_done fit) was.heard tell;
              whole = λ still. refl;
            }
        by_brings fit_told (vainly none closed) = record {
          told = was.told;
          rest = was.rest ++ items;
          begins = ap (λ (l : List Answer). l ++ items) was.begins ∙ append_assoc was.told was.rest items;
          heard = heard_still was.told fit_told was.heard none;
          whole = λ live. absurd (false≢true (sym (live_before live) ∙ closed));
        }

  -- What was shown, by what is known of quotes alone.

  module _ (facts added : List Fact) where
    abbrev ShowsNone : Type 0
    ShowsNone = shown dealer config row is room added ≡ []

    shows_none : Tells dealer config row is room facts added [] → ShowsNone
    shows_none (calm none no_quotes) = none
    shows_none (shows says live) = says
    shows_none (behind none closed) = none

    shows_open : (quotes : List PostedQuote) → Tells dealer config row is room facts added quotes
        → is_shut facts ≡ false → shown dealer config row is room added ≡ quotes
    shows_open quotes (calm none no_quotes) live = none ∙ sym no_quotes
    shows_open quotes (shows says still) live = says
    shows_open quotes (behind none closed) live = absurd (false≢true (sym live ∙ closed))

    shows_shut : (quotes : List PostedQuote) → Tells dealer config row is room facts added quotes
        → is_shut facts ≡ true → ShowsNone
    shows_shut quotes (calm none no_quotes) closed = none
    shows_shut quotes (shows says live) closed = absurd (false≢true (sym live ∙ closed))
    shows_shut quotes (behind none still) closed = none

    -- what shows no quote of it, and changes nothing of the request
    none_hears : ShowsNone → Every (IsElsewhere room.n) (at_desk added) → Hears facts added []
    none_hears none every = record {
      quotes = none;
      all = λ limits live fit stands. (
        facts_told config market dealer row.name room.n (at_desk facts) [] (trail added)
            (elsewhere_others config dealer row is room market (at_desk facts) (at_desk added) every),
        elsewhere_all room.n (word_of config dealer row is room) (at_desk facts) (at_desk added) every ∙ stands,
      );
    }

  -- What changes nothing of the request.

  abbrev Elsewhere : InvestorFact → Type 0
  Elsewhere fact = IsElsewhere room.n fact

  gone_elsewhere : (number : ℕ) → (number == room.n) ≡ false → (found : Option ShownOffer)
      → Every Elsewhere (investor_output.gone_facts number found)
  gone_elsewhere number differs None = tt
  gone_elsewhere number differs (Some one) = (differs, tt)

  offer_elsewhere : (book : InvestorBook) (number : ℕ) → (number == room.n) ≡ false → (offer : Offer)
      (own : Option StandingRequest) → Every Elsewhere (investor_output.offer_facts book number offer own)
  offer_elsewhere book number differs offer None = tt
  offer_elsewhere book number differs offer (Some own) = by_old (offer_of_dealer own offer.dealer)
    where
      by_old : (old : Option ShownOffer) → Every Elsewhere (investor_output.gone_facts number old
          ++ Offered (investor_output.next_offer book number offer) ∷ [])
      by_old None = (differs, tt)
      by_old (Some one) = (differs, (differs, tt))

  withdrawal_elsewhere : (number : ℕ) → (number == room.n) ≡ false → (word : ℕ) (own : Option StandingRequest)
      → Every Elsewhere (investor_output.withdrawal_facts number word own)
  withdrawal_elsewhere number differs word None = tt
  withdrawal_elsewhere number differs word (Some own) =
      gone_elsewhere number differs (offer_with_word own word)

  closed_elsewhere : (number : ℕ) (close : Option RequestClose)
      → Every Elsewhere (investor_output.closed_facts number close)
  closed_elsewhere number None = tt
  closed_elsewhere number (Some close) = (tt, tt)

  answer_elsewhere : (book : InvestorBook) (number : ℕ) (response : ResponseRef) (reply : Reply)
      (own : Option StandingRequest) → Every Elsewhere (investor_output.answer_facts book number response reply own)
  answer_elsewhere book number response reply None = tt
  answer_elsewhere book number response reply (Some own) = closed_elsewhere number
      (investor_output.close_by_answer book response (investor_output.refusal_of reply))

  expiry_elsewhere : (number : ℕ) (own : Option StandingRequest)
      → Every Elsewhere (investor_output.expiry_facts number own)
  expiry_elsewhere number None = tt
  expiry_elsewhere number (Some own) = (tt, tt)

  verdict_elsewhere : (moment : ℕ) (bytes : List ℕ) (v : InvestorVerdict)
      → Every Elsewhere (investor_output.own_facts moment bytes v)
  verdict_elsewhere moment bytes (asks.RequestAccepted id request) = (tt, (tt, tt))
  verdict_elsewhere moment bytes other = (tt, tt)

  -- whether a duty tells of a quote on this request
  abbrev is_about : Duty → Bool
  is_about (duty.Relay at offer moment) = is_same_room at room
  is_about (duty.Gone at word moment) = is_same_room at room
  is_about other = false

  other_n : (at : RoomRef) → is_same_room at room ≡ false → (at.investor == room.investor) ≡ true
      → (at.n == room.n) ≡ false
  other_n at differs same = rw same at differs

  module _ (facts : List Fact) where
    abbrev book_at : ℕ → InvestorBook
    book_at number = investor_trail.book_by (of_investor number facts)

    may_bring : (d : Duty) → is_about d ≡ false → desk_walk.MayBring Elsewhere config facts room.investor d
    may_bring (duty.Relay at offer moment) isnt = λ same.
        offer_elsewhere (book_at at.investor) at.n (other_n at isnt same) offer (open_request (book_at at.investor) at.n)
    may_bring (duty.Gone at word moment) isnt = λ same.
        withdrawal_elsewhere at.n (other_n at isnt same) word (open_request (book_at at.investor) at.n)
    may_bring (duty.Answer at response reply moment) isnt = λ same.
        answer_elsewhere (book_at at.investor) at.n response reply (request_numbered (book_at at.investor) at.n)
    may_bring (duty.Close at moment) isnt = λ same.
        expiry_elsewhere at.n (request_numbered (book_at at.investor) at.n)
    may_bring other isnt = tt

    pub message_brings : (firm moment : ℕ) (bytes : List ℕ)
        → Brings facts (message_effect config facts firm moment bytes).facts []
    message_brings firm moment bytes =
        idly (none_hears facts _
        (shows_none facts _ (message_tells dealer config row is room facts firm moment bytes))
        (desk_walk.message_brings Elsewhere config facts room.investor verdict_elsewhere firm moment bytes).each) refl

    pub sweep_brings : (at : RoomRef) (moment : ℕ) → Brings facts (sweep_effect config facts at moment).facts []
    sweep_brings at moment =
        idly (none_hears facts _ (shows_none facts _ (sweep_tells dealer config row is room facts at moment))
        (desk_walk.sweep_brings Elsewhere config facts room.investor at moment).each) refl

    -- a duty that tells of no quote on this request
    duty_beside : (by : Actor) (d : Duty) → is_about d ≡ false
        → Tells dealer config row is room facts (duty_effect config facts by d).facts []
        → Hears facts (duty_effect config facts by d).facts []
    duty_beside by d isnt tells =
        none_hears facts _ (shows_none facts _ tells)
        (desk_walk.duty_brings Elsewhere config facts room.investor by d (may_bring d isnt)).each

    -- A decline.

    abbrev book : InvestorBook
    book = investor_trail.book_by (trail facts)

    abbrev declined : ℕ → InvestorEvent
    declined moment = at_investor.DealerDeclined room.n row.name moment

    -- what comes to the desk are these entries
    entries_are : (moment : ℕ) → trail (at_market facts market (declined moment) []).facts
        ≡ Happened (declined moment) ∷ map Sent (investor_output.written_from market (length (investor_trail.sent_by (trail facts)) + 1) moment
        (investor_output.decline_messages row.name (while_open (request_numbered book room.n))))
    unfolding investor_trail.entries_of investor_output.event_facts investor_output.event_messages
    entries_are moment =
        own_investor room.investor (investor_trail.entries_of market (trail facts) (declined moment))

    abbrev said_of : ℕ → StandingRequest → Said
    said_of moment own = record {
      number = length (investor_trail.sent_by (trail facts)) + 1;
      moment = moment;
      message = out.DealerDeclined own.request.id row.name;
    }

    is_decline : (moment : ℕ) (own : StandingRequest) → request_numbered book room.n ≡ Some own
        → IsDecline (at_desk facts) room.n row.name (out.DealerDeclined own.request.id row.name)
    unfolding request_numbered
    is_decline moment own found =
        let there = found_there (λ (r : StandingRequest). r.request.number == room.n) book.requests own found in
        record {
          own = own.request;
          accepted = requests_in (at_desk facts) own there.0;
          number_is = eqb-true own.request.number room.n there.1;
          says = refl;
        }

    no_facts_words : (added : List Fact) → at_desk added ≡ []
        → words_at (at_desk facts ++ at_desk added) ≡ words_at (at_desk facts)
    no_facts_words added none =
        ap (λ (l : List InvestorFact). words_at (at_desk facts ++ l)) none
        ∙ ap (λ (l : List InvestorFact). words_at l) (append-nil (at_desk facts))

    by_close : (moment : ℕ) (own : StandingRequest) → request_numbered book room.n ≡ Some own
        → (close : Option RequestClose) → own.close ≡ close → (added : List Fact)
        → trail added ≡ Happened (declined moment) ∷ map Sent (investor_output.written_from market
        (length (investor_trail.sent_by (trail facts)) + 1) moment
        (investor_output.decline_messages row.name (if is_none close then Some own else None)))
        → Brings facts added (Declines ∷ [])
    by_close moment own found None closed added are =
        let says : SaysDecline market (at_desk facts) room.n row.name (said_to market (said_of moment own)) =
        record { said = said_of moment own; bytes_are = refl; is_it = is_decline moment own found } in
        duly (record {
          quotes = record {
            before = Happened (declined moment) ∷ [];
            entry = Sent (said_to market (said_of moment own));
            after = [];
            are = are;
            none_before = refl;
            says = says;
            then_rest = refl;
          };
          all = λ limits live fit stands. (
            record {
              before = Happened (declined moment) ∷ [];
              entry = Sent (said_to market (said_of moment own));
              after = [];
              are = are;
              none_before = tt;
              says = says;
              then_rest = tt;
            },
            no_facts_words added (ap (λ (l : List InvestorEntry). facts_of l) are) ∙ stands,
          );
        }) (ap shut found ∙ ap (λ (c : Option RequestClose). is_some c) closed)
    by_close moment own found (Some how) closed added are =
        let none : at_desk added ≡ [] = ap (λ (l : List InvestorEntry). facts_of l) are in
        vainly (none_hears facts added
        (ap (λ (l : List InvestorFact). quotes_shown config dealer room.n l) none)
        (subst (Every Elsewhere) (sym none) tt))
        (ap shut found ∙ ap (λ (c : Option RequestClose). is_some c) closed)

    by_own : (moment : ℕ) (found : Option StandingRequest) → request_numbered book room.n ≡ found
        → is_some found ≡ true
        → Brings facts (at_market facts market (declined moment) []).facts (Declines ∷ [])
    by_own moment None at some = absurd (false≢true some)
    by_own moment (Some own) at some =
        by_close moment own at own.close refl (at_market facts market (declined moment) []).facts
        (entries_are moment
        ∙ ap (λ (r : Option StandingRequest). Happened (declined moment)
        ∷ map Sent (investor_output.written_from market
        (length (investor_trail.sent_by (trail facts)) + 1) moment
        (investor_output.decline_messages row.name (while_open r)))) at)

    decline_brings : (moment : ℕ)
        → is_met config facts (actor.Firm dealer) (duty.Declined room moment) ≡ true
        → Brings facts (duty_effect config facts (actor.Firm dealer) (duty.Declined room moment)).facts
        (Declines ∷ [])
    unfolding is_met duty_effect
    decline_brings moment fit =
        let knows = and_parts (is_some (request_numbered book room.n)) true (rw (is, is_investor) at fit) in
        rw (is, is_investor, knows.0) (by_own moment (request_numbered book room.n) refl knows.0)

    -- A quote that comes, or is gone, on this request.

    -- what stands at the desk: its quotes bear their numbers, and are each a dealer's
    pub record DeskFits : Type 0 where
      pub numbered : AreFrom number_of 1 (offers_of (at_desk facts))
      pub offers : (one : ShownOffer) → In one (offers_of (at_desk facts))
          → (whose : ℕ) × OfDealer config dealer row is room one.offer whose

    abbrev Request : StandingRequest → Type 0
    Request own = request_numbered book room.n ≡ Some own

    module _ (added : List Fact) (items : List Answer) (brought : Option StandingRequest → List InvestorFact)
        (none_is : brought None ≡ []) (desk_is : at_desk added ≡ brought (while_open (request_numbered book room.n)))
        (when_open : is_shut facts ≡ false → QuotesOf (at_desk facts) (plains items) (trail added))
        (when_shut : is_shut facts ≡ true → ShowsNone facts added) where
      -- what is to be so of it, while the request is open
      abbrev OpenSo : Type 0
      OpenSo = (own : StandingRequest) → Request own → KeepsLimits config → (live : Option ℕ) → Fit live items
          → words_at (at_desk facts) ≡ option_to_list live
          → SayOf (at_desk facts) (as_told live items) (brought (Some own))
          × (words_at (at_desk facts ++ brought (Some own)) ≡ option_to_list (stands_after live items))

      by_shut : OpenSo → (own : StandingRequest) → Request own → (close : Option RequestClose) → own.close ≡ close
          → at_desk added ≡ brought (if is_none close then Some own else None) → Brings facts added items
      by_shut open_so own found None closed are =
          let live_is : is_shut facts ≡ false = ap shut found ∙ ap (λ (c : Option RequestClose). is_some c) closed in
          duly (record {
            quotes = when_open live_is;
            all = λ limits live fit stands. (
                let so = open_so own found limits live fit stands in (
                  facts_told config market dealer row.name room.n (at_desk facts) (as_told live items) (trail added)
                      (subst (λ (l : List InvestorFact). SayOf (at_desk facts) (as_told live items) l) (sym are) so.0),
                  ap (λ (l : List InvestorFact). words_at (at_desk facts ++ l)) are ∙ so.1,
                ));
          }) live_is
      by_shut open_so own found (Some how) closed are =
          let shut_is : is_shut facts ≡ true = ap shut found ∙ ap (λ (c : Option RequestClose). is_some c) closed in
          vainly (none_hears facts added (when_shut shut_is) (subst (Every Elsewhere) (sym (are ∙ none_is)) tt)) shut_is

      by_found : OpenSo → (found : Option StandingRequest) → request_numbered book room.n ≡ found
          → is_some found ≡ true → Brings facts added items
      by_found open_so None at some = absurd (false≢true some)
      by_found open_so (Some own) at some =
          by_shut open_so own at own.close refl
          (desk_is ∙ ap (λ (r : Option StandingRequest). brought (while_open r)) at)

      by_request : OpenSo → is_some (request_numbered book room.n) ≡ true → Brings facts added items
      by_request open_so some = by_found open_so (request_numbered book room.n) refl some

    -- what comes to the desk
    came_facts : (event : InvestorEvent) → at_desk (at_market facts market event []).facts
        ≡ investor_output.event_facts market book event
    came_facts event =
        ap (λ (l : List InvestorEntry). facts_of l) (own_investor room.investor _)
        ∙ entries_facts config facts actor.Clock room.investor investor event []

    knows_it : is_known config facts room None ≡ true → is_some (request_numbered book room.n) ≡ true
    knows_it fit = (and_parts (is_some (request_numbered book room.n)) true (rw is_investor at fit)).0

    relay_facts : (by : Actor) (offer : Offer) (moment : ℕ) → is_known config facts room None ≡ true
        → at_desk (duty_effect config facts by (duty.Relay room offer moment)).facts
        ≡ investor_output.offer_facts book room.n offer (while_open (request_numbered book room.n))
    unfolding duty_effect investor_output.event_facts
    relay_facts by offer moment fit =
        let some = knows_it fit in
        rw (is_investor, some) (came_facts (at_investor.QuoteCame room.n offer moment))

    gone_facts : (by : Actor) (word moment : ℕ) → is_known config facts room None ≡ true
        → at_desk (duty_effect config facts by (duty.Gone room word moment)).facts
        ≡ investor_output.withdrawal_facts room.n word (while_open (request_numbered book room.n))
    unfolding duty_effect investor_output.event_facts
    gone_facts by word moment fit =
        let some = knows_it fit in
        rw (is_investor, some) (came_facts (at_investor.QuoteGone room.n word moment))

    of_relay : {by : Actor} {at : RoomRef} {offer : Offer} (it : Relays config facts by at offer)
        → OfDealer config dealer row is room offer it.dealer
    of_relay {by} {at} {offer} it =
        let own = it.is_quote.is_written.is_quote in
        of_offer config dealer row is room offer it.dealer own.row it.quote.number it.quote.price
        it.quote.valid_until own.is_dealer it.is_quote.within it.offer_is

    abbrev number_in : Actor → ℕ
    number_in (actor.Firm number) = number
    number_in actor.Clock = 0

    module _ (fits : DeskFits) where
      relay_open : (offer : Offer) → OfDealer config dealer row is room offer dealer → (own : StandingRequest)
          → Request own → KeepsLimits config → (live : Option ℕ)
          → Fit live (Quotes (quote_posted dealer offer.word offer.price offer.valid_until) ∷ [])
          → words_at (at_desk facts) ≡ option_to_list live
          → SayOf (at_desk facts)
          (as_told live (Quotes (quote_posted dealer offer.word offer.price offer.valid_until) ∷ []))
          (investor_output.offer_facts book room.n offer (Some own))
          × (words_at (at_desk facts ++ investor_output.offer_facts book room.n offer (Some own))
          ≡ offer.word ∷ [])
      relay_open offer its own found limits live fit stands =
          let c = comes config dealer row is room market (at_desk facts) limits fits.numbered fits.offers own found
          offer its live stands in
          (c.say, c.stand)

      -- its own
      relay_mine : (by : Actor) (offer : Offer) (moment : ℕ) → Relays config facts by room offer
          → is_known config facts room None ≡ true → by ≡ actor.Firm dealer
          → Brings facts (duty_effect config facts by (duty.Relay room offer moment)).facts
          (Quotes (quote_posted dealer offer.word offer.price offer.valid_until) ∷ [])
      unfolding is_met
      relay_mine by offer moment it fit one =
          let posted = quote_posted dealer offer.word offer.price offer.valid_until in
          let effect = duty_effect config facts by (duty.Relay room offer moment) in
          let whose : it.dealer ≡ dealer = ap number_in (sym it.by_is ∙ one) in
          let tells : Tells dealer config row is room facts effect.facts (posted ∷ []) =
          rw (room_self room) at (tells_mine dealer config row is room facts by (duty.Relay room offer moment) it
          fit one) in
          by_request effect.facts (Quotes posted ∷ [])
          (λ own. investor_output.offer_facts book room.n offer own) refl (relay_facts by offer moment fit)
          (λ live. told_as config market dealer row.name room.n (at_desk facts) (posted ∷ []) (trail effect.facts)
          (shows_open facts effect.facts (posted ∷ []) tells live))
          (λ closed. shows_shut facts effect.facts (posted ∷ []) tells closed)
          (relay_open offer (subst (λ (n : ℕ). OfDealer config dealer row is room offer n) whose (of_relay it)))
          (knows_it fit)

      -- another dealer's
      relay_beside : (by : Actor) (offer : Offer) (moment : ℕ) → Relays config facts by room offer
          → is_known config facts room None ≡ true → is_same_actor by (actor.Firm dealer) ≡ false
          → Brings facts (duty_effect config facts by (duty.Relay room offer moment)).facts []
      relay_beside by offer moment it fit differs =
          let effect = duty_effect config facts by (duty.Relay room offer moment) in
          let apart : (it.dealer == dealer) ≡ false =
          subst (λ (a : Actor). is_same_actor a (actor.Firm dealer) ≡ false) it.by_is differs in
          let none : ShowsNone facts effect.facts = shows_none facts effect.facts
          (tells_other dealer config row is room facts by (duty.Relay room offer moment) it differs) in
          by_request effect.facts [] (λ own. investor_output.offer_facts book room.n offer own) refl
          (relay_facts by offer moment fit) (λ live. none) (λ closed. none)
          (λ own found limits live fit_none stands.
          let b = beside config dealer row is room market (at_desk facts) limits fits.numbered fits.offers own found
          offer it.dealer (of_relay it) apart in
          (b.others, b.stay ∙ stands)) (knows_it fit)

      -- A withdrawal, its own.

      gone_mine : (by : Actor) (word moment : ℕ) → GoesBy config by word
          → is_known config facts room None ≡ true → by ≡ actor.Firm dealer
          → Tells dealer config row is room facts (duty_effect config facts by (duty.Gone room word moment)).facts []
          → Brings facts (duty_effect config facts by (duty.Gone room word moment)).facts (Withdraws word ∷ [])
      gone_mine by word moment it fit one tells =
          let effect = duty_effect config facts by (duty.Gone room word moment) in
          let whose : it.whose ≡ dealer = ap number_in (sym it.by_is ∙ one) in
          let mine : is_of dealer (quote_with_word config word) ≡ true =
          ap (λ (q : Option QuoteRef). is_of dealer q) it.word_is ∙ eq-eqb it.whose dealer whose in
          let none : ShowsNone facts effect.facts = shows_none facts effect.facts tells in
          by_request effect.facts (Withdraws word ∷ [])
          (λ own. investor_output.withdrawal_facts room.n word own) refl (gone_facts by word moment fit)
          (λ live. none) (λ closed. none)
          (λ own found limits live fit_it stands.
          let w = withdrawn config dealer row is room market (at_desk facts) limits fits.numbered fits.offers own found
          word (stands ∙ ap (λ (o : Option ℕ). option_to_list o) fit_it.0) mine in
          (w.say, w.none_left)) (knows_it fit)

      -- another dealer's
      gone_beside : (by : Actor) (word moment : ℕ) → GoesBy config by word
          → is_known config facts room None ≡ true → is_same_actor by (actor.Firm dealer) ≡ false
          → Tells dealer config row is room facts (duty_effect config facts by (duty.Gone room word moment)).facts []
          → Brings facts (duty_effect config facts by (duty.Gone room word moment)).facts []
      gone_beside by word moment it fit differs tells =
          let effect = duty_effect config facts by (duty.Gone room word moment) in
          let isnt : is_of dealer (quote_with_word config word) ≡ false =
          ap (λ (q : Option QuoteRef). is_of dealer q) it.word_is
          ∙ subst (λ (a : Actor). is_same_actor a (actor.Firm dealer) ≡ false) it.by_is differs in
          let none : ShowsNone facts effect.facts = shows_none facts effect.facts tells in
          by_request effect.facts [] (λ own. investor_output.withdrawal_facts room.n word own) refl
          (gone_facts by word moment fit) (λ live. none) (λ closed. none)
          (λ own found limits live fit_none stands.
          let w = withdrawn_beside config dealer row is room market (at_desk facts) limits fits.numbered fits.offers own
          found word isnt in
          (w.others, w.stay ∙ stands)) (knows_it fit)

      -- A duty of its own, and of another's.

      -- on another request nothing is told
      away : (d : Duty) (by : Actor) → is_about d ≡ false → tellings dealer config row is room (d ∷ []) ≡ []
          → Tells dealer config row is room facts (duty_effect config facts by d).facts
          (relays dealer config row is room (d ∷ []))
          → relays dealer config row is room (d ∷ []) ≡ []
          → Brings facts (duty_effect config facts by d).facts (tellings dealer config row is room (d ∷ []))
      away d by isnt untold tells none =
          idly (duty_beside by d isnt (subst (λ (l : List PostedQuote).
          Tells dealer config row is room facts (duty_effect config facts by d).facts l) none tells)) untold

      pub mine_brings : (by : Actor) (d : Duty) → ShownOk config facts by d → GoneOk config by d
          → is_met config facts by d ≡ true → by ≡ actor.Firm dealer
          → Brings facts (duty_effect config facts by d).facts (tellings dealer config row is room (d ∷ []))
      unfolding is_met
      mine_brings by (duty.Relay at offer moment) ok gone fit one = elim (cases_Bool (is_same_room at room)) [
        | inr differs ↦ away (duty.Relay at offer moment) by differs (rw differs refl)
            (tells_mine dealer config row is room facts by (duty.Relay at offer moment) ok fit one) (rw differs refl)
        | inl same ↦ rw same (subst (λ (r : RoomRef). Relays config facts by r offer
            → is_known config facts r None ≡ true
            → Brings facts (duty_effect config facts by (duty.Relay r offer moment)).facts
            (Quotes (quote_posted dealer offer.word offer.price offer.valid_until) ∷ []))
            (sym (same_room at room same)) (λ it fits_it. relay_mine by offer moment it fits_it one) ok fit)
      ]
      mine_brings by (duty.Gone at word moment) ok gone fit one = elim (cases_Bool (is_same_room at room)) [
        | inr differs ↦ away (duty.Gone at word moment) by differs (rw differs refl)
            (tells_mine dealer config row is room facts by (duty.Gone at word moment) ok fit one) refl
        | inl same ↦ rw same (subst (λ (r : RoomRef). is_known config facts r None ≡ true
            → Tells dealer config row is room facts (duty_effect config facts by (duty.Gone r word moment)).facts []
            → Brings facts (duty_effect config facts by (duty.Gone r word moment)).facts (Withdraws word ∷ []))
            (sym (same_room at room same)) (λ fits_it tells. gone_mine by word moment gone fits_it one tells) fit
            (tells_mine dealer config row is room facts by (duty.Gone at word moment) ok fit one))
      ]
      mine_brings by (duty.Declined at moment) ok gone fit one = elim (cases_Bool (is_same_room at room)) [
        | inr differs ↦ away (duty.Declined at moment) by refl (rw differs refl)
            (tells_mine dealer config row is room facts by (duty.Declined at moment) ok fit one) refl
        | inl same ↦ rw same (subst (λ (a : Actor).
            Brings facts (duty_effect config facts a (duty.Declined at moment)).facts (Declines ∷ [])) (sym one)
            (subst (λ (r : RoomRef). is_met config facts (actor.Firm dealer) (duty.Declined r moment) ≡ true
            → Brings facts (duty_effect config facts (actor.Firm dealer) (duty.Declined r moment)).facts
            (Declines ∷ [])) (sym (same_room at room same)) (decline_brings moment)
            (subst (λ (a : Actor). is_met config facts a (duty.Declined at moment) ≡ true) one fit)))
      ]
      mine_brings by other ok gone fit one =
          away other by refl refl (tells_mine dealer config row is room facts by other ok fit one) refl

      pub others_bring : (by : Actor) (d : Duty) → ShownOk config facts by d → GoneOk config by d
          → is_met config facts by d ≡ true → is_same_actor by (actor.Firm dealer) ≡ false
          → Brings facts (duty_effect config facts by d).facts []
      unfolding is_met
      others_bring by (duty.Relay at offer moment) ok gone fit differs = elim (cases_Bool (is_same_room at room)) [
        | inr apart ↦ idly (duty_beside by (duty.Relay at offer moment) apart
            (tells_other dealer config row is room facts by (duty.Relay at offer moment) ok differs)) refl
        | inl same ↦ subst (λ (r : RoomRef). Relays config facts by r offer → is_known config facts r None ≡ true
            → Brings facts (duty_effect config facts by (duty.Relay r offer moment)).facts [])
            (sym (same_room at room same)) (λ it fits_it. relay_beside by offer moment it fits_it differs) ok fit
      ]
      others_bring by (duty.Gone at word moment) ok gone fit differs = elim (cases_Bool (is_same_room at room)) [
        | inr apart ↦ idly (duty_beside by (duty.Gone at word moment) apart
            (tells_other dealer config row is room facts by (duty.Gone at word moment) ok differs)) refl
        | inl same ↦ subst (λ (r : RoomRef). is_known config facts r None ≡ true
            → Tells dealer config row is room facts (duty_effect config facts by (duty.Gone r word moment)).facts []
            → Brings facts (duty_effect config facts by (duty.Gone r word moment)).facts [])
            (sym (same_room at room same)) (λ fits_it tells. gone_beside by word moment gone fits_it differs tells) fit
            (tells_other dealer config row is room facts by (duty.Gone at word moment) ok differs)
      ]
      others_bring by other ok gone fit differs =
          idly (duty_beside by other refl (tells_other dealer config row is room facts by other ok differs)) refl
