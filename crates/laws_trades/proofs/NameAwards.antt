-- An award leaves one answer and one notice of a trade, where it is between a pair; the answer and
-- the notice each add one.
use Rattle.laws_days.proofs.Common.{Bool, List, None, Ok, Err, Option, Result, Some, ℕ, [], ap, arith}
use Rattle.laws_days.proofs.Common.{false, filter_map, if◌then◌else◌, inl, inr, is_some}
use Rattle.laws_days.proofs.Common.{length, map, not, option_to_list, refl, subst, sym, true, ◌&&◌}
use Rattle.laws_days.proofs.Common.{◌++◌, ◌==◌, ◌∙◌, ◌∷◌, ◌≡◌, and_parts, append-nil}
use Rattle.laws_days.proofs.Common.{both_ways, cases_Bool, eqb-true, not-true, or_parts}
use Rattle.laws_days.proofs.Common.{are_distinct, list_any, Close, Duty, HitRefusal, ResponseRef}
use Rattle.laws_days.proofs.Common.{RoomRef, Settled, dealer_numbered, DealerRow}
use Rattle.laws_days.proofs.Common.{investor_numbered, Told, closable, event_facts, hit_checks}
use Rattle.laws_days.proofs.Common.{hit_refusal, quote_meant, Ended, is_ended}
use Rattle.laws_days.proofs.Common.{is_ready, names, request_of, End, RoomRequest, close_for}
use Rattle.laws_days.proofs.Common.{replies_to, same_text, ShownOffer, Effect}
use Rattle.laws_days.proofs.Common.{QuoteRef, lifting, dealer_of, told_to, quote_with_word}
use Rattle.laws_days.proofs.Common.{AtDesk, Sent, ShownIn, book_by, entries_of, message_by, rooms_by, none_holds}
use Rattle.laws_days.proofs.Common.{Every, Fact, InRoom, InvestorFact, market_of, of_investor}
use Rattle.market_terms.specs.declared.closes.Close.TheVariants as closes
use Rattle.market_terms.specs.declared.closes.Reply.TheVariants as reply
use Rattle.market_terms.specs.declared.duties.Duty.TheVariants as duty
use Rattle.dealer_desk.specs.DealerOutput as dealer_output
use Rattle.dealer_desk.specs.declared.events.DealerEvent.TheVariants as event
use Rattle.investor_desk.specs.InvestorFacts.{Closed, offer_numbered}
use Rattle.investor_desk.specs.declared.events.InvestorEvent.TheVariants as at_investor
use Rattle.investor_desk.specs.declared.standing.RequestClose.TheVariants.{Awarded}
use Rattle.request_room.specs.Book.{award_of, book_of as quotes_of, end_by, hit_outcome, reply_of}
use Rattle.request_room.specs.Book.{event_facts as room_event_facts}
use Rattle.request_room.specs.declared.quotes.PostedQuote.{PostedQuote as BookQuote}
use Rattle.venue_rows.specs.Rows.{KeepsLimits}
use Rattle.venue_steps.specs.RoomSteps.{dealers_of, told_in, told_of_hit}
use Rattle.venue_steps.specs.declared.actors.Actor.TheVariants as actor
use Rattle.step_replay.specs.Actions.{hit_with, told_of}
use Rattle.step_replay.specs.InvestorTrail as investor_trail
use Rattle.step_replay.specs.OwnerLemmas.{quote_at}
use Rattle.laws_days.proofs.ListLemmas.{cases_some, every_map, some_of}
use Rattle.laws_days.proofs.VenueEnds.{none_lifted}
use Rattle.laws_days.proofs.VenueInvariant.{PostedIn}
use Rattle.laws_days.proofs.VenueKinds.{known}
use Rattle.laws_days.proofs.VenueKnown.{known_room, opened_in, posted_in, ready_opened}
use Rattle.laws_days.proofs.VenueParts.{KnownIn, Still, investor_facts, later_same, number_for}
use Rattle.laws_days.proofs.VenueSteps.{Here, day, trail_of}
use Rattle.laws_trades.specs.TradeNames.{hit_in, notice_in, was_asked_by}
use Rattle.laws_trades.specs.Trades.{room_of}
use Rattle.laws_trades.proofs.TradeFound.{is_named_in, offer_in, told_winner}
use Rattle.laws_days.proofs.FirmNames.{same_dealer}
use Rattle.laws_trades.proofs.NameLemmas.{ComesTo, end_comes, hit_only, shown_won, won_is}
use Rattle.laws_trades.proofs.NameParts.{IsBatch, Pair, answers, answers_in, has_won, is_hit}
use Rattle.laws_trades.proofs.NameParts.{last_trail, none_ordered, none_said, said, said_first}
use Rattle.laws_trades.proofs.NameParts.{still_batch, tells, tells_in, where_own, won_by}
use Rattle.laws_trades.proofs.NameSilent.{hits_at, hits_in, idle, lifting_silent, notices_at}
use Rattle.laws_trades.proofs.NameSilent.{notices_in, silent_both, silent_room}
use Rattle.laws_trades.proofs.NameTurns.{Adds, silent_adds}
use Rattle.laws_trades.proofs.TradeHits.{awarded_to, awarding, awards, end_then, open_before, owner_is}
use Rattle.laws_trades.proofs.TradeLists.{find_in}
use Rattle.laws_trades.proofs.TradeParts.{AnswerOf, AwardedTo, HitOf, TradeOk}
use Rattle.laws_trades.proofs.TradeReplies.{closes_it, effect_of}

-- What is left of an award.

module _ (p : Pair) (room : RoomRef) (end : End) (moment : ℕ) where
  -- a named dealer is told
  abbrev tell : ℕ → Duty
  tell dealer = duty.Tell dealer room (close_for end dealer) moment

  -- whether the dealer of the pair won
  abbrev won : Bool
  won = is_hit (close_for end p.dealer)

  other_tell : (dealer : ℕ) → (dealer == p.dealer) ≡ false → tells_in p (tell dealer) ≡ None
  other_tell dealer differs = rw differs (never (is_hit (close_for end dealer)))
    where
      never : (b : Bool)
          → (if (b && false) && (room.investor == p.investor) then Some room else None) ≡ None
      never true = refl
      never false = refl

  own_tell : (dealer : ℕ) → (dealer == p.dealer) ≡ true
      → tells_in p (tell dealer) ≡ where_own p room won
  own_tell dealer test =
      let same = eqb-true dealer p.dealer test in
      rw (test, same) (always won)
    where
      always : (b : Bool)
          → (if (b && true) && (room.investor == p.investor) then Some room else None)
          ≡ (if b && (room.investor == p.investor) then Some room else None)
      always true = refl
      always false = refl

  abbrev is_there : List ℕ → Bool
  is_there dealers = list_any (λ (named : ℕ). named == p.dealer) dealers

  absent : (dealers : List ℕ) → is_there dealers ≡ false → tells p (map tell dealers) ≡ []
  absent [] none = refl
  absent (dealer ∷ dealers) none =
      let parts = or_parts (dealer == p.dealer) (is_there dealers) none in
      said_first (tells_in p) (tell dealer) (map tell dealers)
      ∙ ap (λ (o : Option RoomRef). option_to_list o ++ tells p (map tell dealers))
      (other_tell dealer parts.0)
      ∙ absent dealers parts.1

  once : (dealers : List ℕ) → are_distinct dealers ≡ true → is_there dealers ≡ true
      → tells p (map tell dealers) ≡ option_to_list (where_own p room won)
  once [] distinct is = cc
  once (dealer ∷ dealers) distinct is =
      let parts = and_parts (not (list_any (λ (named : ℕ). named == dealer) dealers))
      (are_distinct dealers) distinct in
      elim (cases_Bool (dealer == p.dealer)) [
        | inl test ↦
            let same = eqb-true dealer p.dealer test in
            let gone : is_there dealers ≡ false =
            subst (λ (d : ℕ). list_any (λ (named : ℕ). named == d) dealers ≡ false) same
            (not-true (list_any (λ (named : ℕ). named == dealer) dealers) parts.0) in
            said_first (tells_in p) (tell dealer) (map tell dealers)
            ∙ ap (λ (o : Option RoomRef). option_to_list o ++ tells p (map tell dealers))
            (own_tell dealer test)
            ∙ ap (λ (l : List RoomRef). option_to_list (where_own p room won) ++ l)
            (absent dealers gone)
            ∙ append-nil (option_to_list (where_own p room won))
        | inr differs ↦
            said_first (tells_in p) (tell dealer) (map tell dealers)
            ∙ ap (λ (o : Option RoomRef). option_to_list o ++ tells p (map tell dealers))
            (other_tell dealer differs)
            ∙ once dealers parts.1 (rw differs at is)
      ]

  pub award_batch : (response : ResponseRef) (dealers : List ℕ) → are_distinct dealers ≡ true
      → (won ≡ true → is_there dealers ≡ true) → has_won p room ≡ won
      → IsBatch p (duty.Answer room response reply.Awarded moment ∷ map tell dealers)
  award_batch response dealers distinct named wins = record {
    same = same;
    ordered = (
      let equal : length (answers p (answer ∷ map tell dealers))
          ≡ length (tells p (answer ∷ map tell dealers)) = ap length same in
          omega arith,
      none_ordered p (map tell dealers) unanswered,
    );
  }
    where
      answer : Duty
      answer = duty.Answer room response reply.Awarded moment

      unanswered : Every (λ left. answers_in p left ≡ None) (map tell dealers)
      unanswered = every_map (λ left. answers_in p left ≡ None) tell dealers (λ dealer among. refl)

      told : tells p (map tell dealers) ≡ option_to_list (where_own p room won)
      told = elim (cases_Bool (is_there dealers)) [
        | inl there ↦ once dealers distinct there
        | inr gone ↦ elim (cases_Bool won) [
          | inl hit ↦ absurd (both_ways (is_there dealers) gone (named hit))
          | inr lost ↦ absent dealers gone ∙ rw lost refl
        ]
      ]

      same : answers p (answer ∷ map tell dealers) ≡ tells p (answer ∷ map tell dealers)
      same =
          said_first (answers_in p) answer (map tell dealers)
          ∙ ap (λ (l : List RoomRef). said (answers_in p) answer ++ l)
          (none_said (answers_in p) (map tell dealers) unanswered)
          ∙ append-nil (said (answers_in p) answer)
          ∙ ap (λ (b : Bool). option_to_list (where_own p room b)) wins ∙ sym told

-- A hit.

module _ (h : Here) (p : Pair) (trades : TradeOk h.config h.venue) (room : RoomRef)
    (response : ResponseRef) (word moment : ℕ) (by_is : h.by ≡ actor.Firm room.investor)
    (means : Still (λ now. HitOf now.facts room response word) h.venue) where
  abbrev facts_with : Effect → List Fact
  facts_with effect = h.venue.facts ++ effect.facts

  named_there : (request : Option RoomRequest) (dealer : ℕ) → names request dealer ≡ true
      → list_any (λ (named : ℕ). named == dealer) (dealers_of request) ≡ true
  named_there None dealer is = cc
  named_there (Some request) dealer is = is

  award_adds : (award : End) (award_is : award_of (known h room) word ≡ award)
      (refused : hit_refusal (known h room) word moment ≡ None) (quote : BookQuote)
      (found : quote_meant (quotes_of (known h room)) word ≡ Some quote)
      (word_is : quote.word ≡ word) (posted : PostedIn h.config room quote h.venue)
      → ComesTo (facts_with (awarding h room response word moment by_is means award award_is refused
      quote found word_is posted)) p.final
      → Adds p (awarding h room response word moment by_is means award award_is refused quote found
      word_is posted) [] []
  award_adds award award_is refused quote found word_is posted comes =
      let effect = awarding h room response word moment by_is means award award_is refused quote found
      word_is posted in
      let ends = end_then h room response word moment by_is means award award_is refused quote found
      word_is posted in
      let opens = open_before h room response word moment by_is means award award_is refused quote
      found word_is posted in
      let to = awarded_to h room response word moment by_is means award award_is refused quote found
      word_is posted quote.word refl (day h effect) (later_same (day h effect)) in
      let request = some_of (request_of (known h room)) (ready_opened h.stood room
      (and_parts (is_ready (known h room)) (not (is_ended (known h room))) opens).0) in
      let silent = silent_both p (lifting (Some (quote_at quote.dealer posted.quote)) (Ok award))
      (map (InRoom room) (Ended award moment ∷ []))
      (lifting_silent p h.config h.venue.facts (Some (quote_at quote.dealer posted.quote)) (Ok award))
      (silent_room p room (Ended award moment ∷ [])) in
      record {
        hit_is = silent.hit;
        told_is = silent.told;
        batch = award_batch p room award moment response (dealers_of (request_of (known h room)))
            (ap (λ (r : Option RoomRequest). are_distinct (dealers_of r)) request.1
            ∙ (opened_in h.stood room request.0 request.1).1.ok.distinct)
            (λ hit.
            let same : p.dealer ≡ quote.dealer =
            told_winner to award p.dealer ends (hit_only (close_for award p.dealer) hit) in
            rw same (named_there (request_of (known h room)) quote.dealer
            (is_named_in h.stood trades quote.dealer room posted.quoted.own.request
            posted.quoted.request_is)))
            (ap (won_by p) (end_comes (facts_with effect) p.final comes room award ends));
      }

  pub hit_adds : (settlement : Option Settled)
      → ComesTo (facts_with (hit_with h.config h.venue.facts room response word moment settlement))
      p.final
      → Adds p (hit_with h.config h.venue.facts room response word moment settlement) [] []
  unfolding room_event_facts hit_refusal
  hit_adds settlement = by_outcome (hit_outcome (known h room) word moment settlement) refl
    where
      by_outcome : (outcome : Result End HitRefusal)
          → hit_outcome (known h room) word moment settlement ≡ outcome
          → ComesTo (h.venue.facts ++ (lifting (quote_with_word h.config word) outcome
          ++ map (InRoom room) (end_by outcome moment))) p.final
          → Adds p (record {
            facts = lifting (quote_with_word h.config word) outcome
                ++ map (InRoom room) (end_by outcome moment);
            duties = duty.Answer room response (reply_of outcome) moment
                ∷ told_of_hit (known h room) room moment outcome;
          }) [] []
      by_outcome (Ok award) is =
          let so = awards (known h room) word moment settlement award is in
          elim (cases_some (quote_meant (quotes_of (known h room)) word)) [
            | inl none ↦
                cc (rw none at (none_holds (hit_checks (known h room) word moment) so.0).1.1.0)
            | inr some ↦
                let posted = posted_in h.stood room word some.0 some.1 in
                subst (λ (o : Option QuoteRef).
                ComesTo (h.venue.facts
                ++ (lifting o (Ok award) ++ map (InRoom room) (Ended award moment ∷ []))) p.final
                → Adds p (record {
                  facts = lifting o (Ok award) ++ map (InRoom room) (Ended award moment ∷ []);
                  duties = duty.Answer room response reply.Awarded moment
                      ∷ told_in (known h room) room award moment;
                }) [] [])
                (sym (owner_is h room response word moment by_is means award so.1 so.0 some.0 some.1
                posted.0 posted.1))
                (award_adds award so.1 so.0 some.0 some.1 posted.0 posted.1)
          ]
      by_outcome (Err why) is =
          rw (none_lifted (quote_with_word h.config word) why)
          (λ comes. silent_adds p _ (idle p) ((refl, refl), tt))

-- The answer to it.

module _ (h : Here) (p : Pair) (trades : TradeOk h.config h.venue) (limits : KeepsLimits h.config)
    (dealer_row : DealerRow) (is_dealer : dealer_numbered h.config p.dealer ≡ Some dealer_row)
    (name_is : p.dealer_name ≡ dealer_row.name) (comes : ComesTo h.venue.facts p.final) (room : RoomRef)
    (response : ResponseRef) (moment : ℕ) (answer : AnswerOf h.venue.facts room response) where
  -- the dealer of the quote won, where its name stands in the answer
  name_won : same_text answer.hit.shown.offer.dealer p.dealer_name ≡ has_won p room
  unfolding offer_numbered
  name_won =
      let shown = answer.hit.shown in
      let desk = investor_facts h.venue.facts room.investor in
      let award = subst (λ (w : ℕ). AwardedTo h.venue.facts room answer.winner w)
      (sym answer.hit.word_is) answer.award in
      let wins = shown_won h.stood trades room shown answer.winner
      (offer_in shown desk (find_in (λ (s : ShownOffer). s.number == shown.number) _ shown
      answer.hit.found)) answer.hit.request_is award in
      rw (name_is, wins.2)
      (same_dealer h.config limits answer.winner p.dealer wins.0 dealer_row wins.1 is_dealer
      ∙ sym (won_is p award comes))

  -- what closes the request
  abbrev closing : InvestorFact
  closing = Closed room.n (Awarded answer.hit.shown.number answer.hit.shown.offer.dealer
      answer.hit.shown.offer.price)

  answered : (if room.investor == p.investor
      then filter_map (hit_in p.investor p.dealer_name) (closing ∷ [])
      else [])
      ≡ said (answers_in p) (duty.Answer room response reply.Awarded moment)
  answered = elim (cases_Bool (room.investor == p.investor)) [
    | inl test ↦ elim (cases_Bool (has_won p room)) [
      | inl won ↦ rw (test, won, name_won ∙ won) (ap (λ (i : ℕ). room_of i room.n ∷ [])
          (sym (eqb-true room.investor p.investor test)))
      | inr lost ↦ rw (test, lost, name_won ∙ lost) refl
    ]
    | inr differs ↦ elim (cases_Bool (has_won p room)) [
      | inl won ↦ rw (differs, won) refl
      | inr lost ↦ rw (differs, lost) refl
    ]
  ]

  pub answer_adds : replies_to response.k reply.Awarded ≡ true
      → KnownIn room response.k h.venue.facts
      → Adds p (effect_of h room response moment reply.Awarded)
      (said (answers_in p) (duty.Answer room response reply.Awarded moment)) []
  unfolding investor_trail.entries_of
  answer_adds replies knows_it = elim (cases_some (investor_numbered h.config room.investor)) [
    | inl none ↦ cc (rw none at (known_room h.stood room response.k knows_it))
    | inr some ↦ rw (some.1, replies, knows_it) (record {
      hit_is = hits_in p room.investor _ _ _
          ∙ ap (λ (l : List InvestorFact). if room.investor == p.investor
          then filter_map (hit_in p.investor p.dealer_name) l else [])
          (closes_it h room response moment some.0 some.1 answer knows_it)
          ∙ answered;
      told_is = notices_in p room.investor (investor_trail.entries_of
          (market_of h.config room.investor some.0) (of_investor room.investor h.venue.facts)
          (at_investor.Answered room.n response reply.Awarded moment));
      batch = still_batch p [] tt;
    })
  ]

-- A notice.

module _ (h : Here) (p : Pair) (dealer : ℕ) (row : DealerRow)
    (is : dealer_numbered h.config dealer ≡ Some row) (room : RoomRef) (close : Close)
    (moment request : ℕ) (found : number_for h.venue.facts dealer room ≡ Some request)
    (may : is_some (closable (book_by (trail_of h dealer)) request) ≡ true)
    (asked : dealer ≡ p.dealer
    → was_asked_by p.investor_name (last_trail p) request ≡ (room.investor == p.investor))
    (there : dealer ≡ p.dealer
    → dealer_output.room_of (rooms_by (last_trail p)) request ≡ Some room) where
  told_one : (how : Close)
      → (if dealer == p.dealer
      then filter_map (notice_in p.investor_name (last_trail p)) (Told request how moment ∷ []) else [])
      ≡ said (tells_in p) (duty.Tell dealer room how moment)
  told_one closes.Hit = elim (cases_Bool (dealer == p.dealer)) [
    | inr differs ↦ rw differs refl
    | inl test ↦
        let same = eqb-true dealer p.dealer test in
        elim (cases_Bool (room.investor == p.investor)) [
          | inl own ↦ rw (test, asked same ∙ own, there same, own) refl
          | inr other ↦ rw (test, asked same ∙ other, other) refl
        ]
  ]
  told_one how = elim (cases_Bool (dealer == p.dealer)) [
    | inl test ↦ rw test refl
    | inr differs ↦ rw differs refl
  ]

  pub tell_adds : Adds p (told_to h.config h.venue.facts room close moment (dealer_of dealer row)) []
      (said (tells_in p) (duty.Tell dealer room close moment))
  unfolding entries_of event_facts
  tell_adds =
      let more = event.Told request close moment in
      subst (λ (o : Option ℕ). Adds p (told_of h.config h.venue.facts (dealer_of dealer row) close
      moment o) [] (said (tells_in p) (duty.Tell dealer room close moment))) (sym found)
      (rw may (record {
        hit_is = hits_at p dealer (map AtDesk (Told request close moment ∷ []) ++ map ShownIn []
            ++ map Sent (option_to_list (message_by h.config.date row (trail_of h dealer) more)));
        told_is = notices_at p dealer (Told request close moment ∷ []) []
            (option_to_list (message_by h.config.date row (trail_of h dealer) more))
            ∙ told_one close;
        batch = still_batch p [] tt;
      }))
