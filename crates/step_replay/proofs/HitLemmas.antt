-- A hit in a room of a replay does what it should: the word, the dealer's trail and the room.
use Rattle.step_replay.proofs.Common.{◌≡◌, ◌<◌, ◌≤◌, ℕ, ◌+◌, ◌-◌, nat_le, nat_lt, Bool, true, false}
use Rattle.step_replay.proofs.Common.{◌&&◌, if◌then◌else◌, List, [], ◌∷◌, ◌++◌, map, length, Option}
use Rattle.step_replay.proofs.Common.{Some, None, option_map, refl, sym, ap, ◌∙◌, subst, arith}
use Rattle.step_replay.proofs.Common.{with_item, nat_tests, append_assoc, entry_in, settlement_of}
use Rattle.step_replay.proofs.Common.{Exchanges, exchange_keeps_count, Settled, Configuration}
use Rattle.step_replay.proofs.Common.{has_room, HitRefusal, Duty, RoomRef, RoomFact, room_after}
use Rattle.step_replay.proofs.Common.{End, RoomEvent, where_done, AsksAtMost, SettlesSo}
use Rattle.step_replay.proofs.Common.{settlement_in, has_word, word_to_ask, DealerEntry, Lifted}
use Rattle.step_replay.proofs.Common.{was_lifted, was_withdrawn, room_at_dealer, room_stays, Fact}
use Rattle.step_replay.proofs.Common.{AtDealer, InRoom, of_dealer, of_room, Effect, QuoteRef}
use Rattle.step_replay.proofs.Common.{nothing, dealer_of, first_word, words_of, quote_with_word}
use Rattle.step_replay.proofs.Common.{lifting, hit_in, quote_at, Noted, NotedAt, WordsStand, Stands}
use Rattle.step_replay.proofs.Common.{Does, AreOneOf, InvestorPlace, Floor}
use Rattle.std.proofs.Common.{Result, Err}
use Rattle.quote_word.specs.declared.settled.Settled.TheVariants as settled
use Rattle.market_terms.specs.declared.closes.HitRefusal.TheVariants as refusal
use Rattle.market_terms.specs.declared.rooms.ResponseRef.{ResponseRef}
use Rattle.request_room.specs.Book.{event_facts, hit_refusal, hit_settled, award_of, word_or}
use Rattle.request_room.specs.Book.{end_by}
use Rattle.request_room.specs.declared.events.RoomEvent.TheVariants as at_room
use Rattle.venue_steps.specs.RoomSteps.{hit_word, word_asked_by, duties_of_hit, hit_duties}
use Rattle.step_replay.specs.DealerTrail.{answer_to_investor}
use Rattle.step_replay.specs.Actions.{quote_asked, answer_to_hit}
use Rattle.step_replay.specs.Liftings.{NotesWhere, awards}
use Rattle.step_replay.proofs.AskedWords.{WordOwner, word_owner}
use Rattle.step_replay.proofs.FloorLemmas.{at_dealer_stands, with_dealers}
use Rattle.step_replay.proofs.FoundDealers.{PlaceOf, place_of}
use Rattle.step_replay.proofs.LiftLemmas.{lift_answer, lift_stands, lifted_place, refused_stands}
use Rattle.step_replay.proofs.RoomActionLemmas.{pushed}
use Rattle.step_replay.proofs.RoomPlaceLemmas.{FoundRoom, RoomAt, floor_with, in_room_stands}
use Rattle.step_replay.proofs.RoomPlaceLemmas.{room_found}

-- nothing is lifted where a hit does not award
no_lifting : (found : Option QuoteRef) (why : HitRefusal) → lifting found (Err why) ≡ []
no_lifting found why = grind arith

module _ {config : Configuration} {facts : List Fact} {floor : Floor} {at : RoomRef}
    {investor index : ℕ} {old : InvestorPlace} {events : List RoomEvent}
    (before : Stands config facts floor) (one : AreOneOf config facts)
    (place : RoomAt config floor.investors.items at investor index old events)
    (response : ResponseRef) (word moment : ℕ) (words : List (Option Settled))
    (new : List RoomEvent) (after : Floor) where
  -- the facts of the room, and the floor with its new events, before a lifting is noted
  abbrev known : List RoomFact
  known = of_room at facts

  abbrev floor_hit : Floor
  floor_hit = floor_with (record floor { words = words }) investor index old new

  found : FoundRoom config facts at investor index old events
  found = room_found before place

  -- what a hit leaves and adds with this outcome, by the quote whose word it asks
  abbrev left_by : Result End HitRefusal → List Duty
  left_by outcome = hit_duties known at response moment outcome

  abbrev effect_of : Option QuoteRef → Result End HitRefusal → Effect
  effect_of quote outcome = record {
    facts = lifting quote outcome ++ map (InRoom at) (end_by outcome moment);
    duties = left_by outcome;
  }

  -- A hit that lifts nothing: the words stand as they did.
  quiet : (duties : List Duty) → WordsStand config facts words → length words ≡ length floor.words
      → room_after new ≡ known ++ [] → after ≡ floor_hit
      → Does config facts (record { facts = []; duties = duties }) after duties
  quiet duties stand count same is =
      let base : Stands config facts (record floor { words = words }) = record {
        config_is = before.config_is;
        dealers_are = before.dealers_are;
        investors_are = before.investors_are;
        word_count = count ∙ before.word_count;
        words_are = stand;
        owners_are = before.owners_are;
      } in
      record {
        stands = subst (Stands config (facts ++ [])) (sym is) (in_room_stands base found [] new same);
        leaves = refl;
      }

  -- the same where it asks no word
  unasked : (duties : List Duty) → words ≡ floor.words → room_after new ≡ known ++ []
      → after ≡ floor_hit → Does config facts (record { facts = []; duties = duties }) after duties
  unasked duties same =
      quiet duties (subst (WordsStand config facts) (sym same) before.words_are) (ap length same)

  -- A hit that asks a word, whose entry is this then.

  -- its outcome, where no check of the room refuses it
  abbrev by_word : Option Settled → Result End HitRefusal
  by_word entry = hit_settled None entry (award_of known word)

  pub record Asked (entry : Option Settled) : Type 0 where
    pub exchange : SettlesSo Exchanges floor.words word settled.Lifted entry words
    pub grown : room_after new ≡ known ++ end_by (by_word entry) moment
    pub notes : NotesWhere (awards (left_by (by_word entry))) word floor_hit after

  asked_does : nat_lt word (words_of config) ≡ true → (entry : Option Settled) → Asked entry
      → Does config facts (effect_of (quote_with_word config word)
      (by_word (option_map (answer_to_hit facts) (quote_with_word config word)))) after
      (left_by (by_word entry))
  asked_does inside None asked = absurd asked.exchange
  asked_does inside (Some settlement) asked =
      subst (λ (q : Option QuoteRef). Does config facts
      (effect_of q (by_word (option_map (answer_to_hit facts) q))) after
      (left_by (by_word (Some settlement)))) (sym owner.found)
      (subst (λ (s : Settled). Asked (Some s) → Does config facts
      (effect_of (Some (quote_at owner.number owner.quote))
      (by_word (Some (answer_to_investor trail owner.quote)))) after (left_by (by_word (Some s))))
      (sym answer_is) (by_answer (was_withdrawn trail owner.quote) refl) asked)
    where
      owner : WordOwner config word
      owner = word_owner config word inside

      trail : List DealerEntry
      trail = of_dealer owner.number facts

      both_not : (was_lifted trail owner.quote && was_withdrawn trail owner.quote) ≡ false
      both_not = one owner.number owner.row owner.quote owner.of.is

      in_row : word < length floor.words
      in_row =
          let count : length floor.words ≡ words_of config = before.word_count in
          grind (arith, nat_tests)

      answer_is : settlement ≡ answer_to_investor trail owner.quote
      answer_is =
          asked.exchange.answered
          ∙ ap (λ e. settlement_of e settled.Lifted)
          (ap (entry_in floor.words) owner.of.word_is
          ∙ before.words_are owner.number owner.row owner.quote owner.of.is owner.of.within)
          ∙ lift_answer (was_lifted trail owner.quote) (was_withdrawn trail owner.quote) both_not

      by_answer : (withdrawn : Bool) → was_withdrawn trail owner.quote ≡ withdrawn
          → Asked (Some (if withdrawn then settled.Withdrawn else settled.Lifted))
          → Does config facts (effect_of (Some (quote_at owner.number owner.quote))
          (by_word (Some (if withdrawn then settled.Withdrawn else settled.Lifted)))) after
          (left_by (by_word (Some (if withdrawn then settled.Withdrawn else settled.Lifted))))
      by_answer true test did =
          quiet (left_by (Err refusal.Withdrawn))
          (refused_stands facts floor.words owner.of before.words_are in_row did.exchange test both_not)
          (exchange_keeps_count floor.words words word settled.Lifted settled.Withdrawn did.exchange)
          did.grown did.notes
      by_answer false test did =
          let count = exchange_keeps_count floor.words words word settled.Lifted settled.Lifted
          did.exchange in
          let there : PlaceOf config facts floor owner.number owner.row =
          place_of config facts floor owner.number owner.row before owner.of.is in
          let noted : NotedAt owner.number (word - there.place.first_word + 1) there.place floor_hit
          after = did.notes owner.number there.place
          (subst (λ (n : ℕ). word < n) (sym count) in_row)
          (before.owners_are word ∙ ap (option_map (λ (q : QuoteRef). q.dealer)) owner.found)
          there.there in
          let first : there.place.first_word ≡ first_word config (dealer_of owner.number owner.row) =
          there.stands.first_is in
          let is_word : word ≡ first_word config (dealer_of owner.number owner.row)
          + (owner.quote - 1) = owner.of.word_is in
          let in_day : (nat_le 1 owner.quote && nat_le owner.quote owner.row.quotes) ≡ true =
          owner.of.within in
          let least : 1 ≤ owner.quote = grind (arith, nat_tests, in_day) in
          let quote_is : word - there.place.first_word + 1 ≡ owner.quote = omega arith in
          let now : List Fact = with_dealers facts owner.number (Lifted owner.quote ∷ []) in
          let ended : List RoomFact = end_by (by_word (Some settled.Lifted)) moment in
          let effect = effect_of (Some (quote_at owner.number owner.quote))
          (by_word (Some settled.Lifted)) in
          let base : Floor = record floor {
            dealers = with_item floor.dealers owner.number noted.now;
            words = words;
          } in
          let stands : Stands config now base = at_dealer_stands (Lifted owner.quote ∷ []) words before owner.of.is
          (lifted_place config owner.number owner.row trail owner.quote there.place noted.now
          there.stands
          (subst (λ (q : ℕ). Noted q there.place noted.now) quote_is noted.is_noted))
          count
          (lift_stands facts floor.words owner.of before.words_are in_row did.exchange) in
          record {
            stands = subst (Stands config (facts ++ effect.facts)) (sym noted.after_is)
                (subst (λ (l : List Fact). Stands config l (floor_with base investor index old new))
                (append_assoc facts (lifting (Some (quote_at owner.number owner.quote))
                (by_word (Some settled.Lifted))) (map (InRoom at) ended))
                (in_room_stands stands (room_found stands place) ended new
                (did.grown ∙ ap (λ l. l ++ ended)
                (sym (room_stays at facts (AtDealer owner.number (Lifted owner.quote) ∷ [])
                (room_at_dealer at owner.number (Lifted owner.quote ∷ [])))))));
            leaves = refl;
          }

  -- A hit, by the check of the room that refuses it, if one does.

  -- the word that is asked, whether the row has it, and what becomes of the hit then
  abbrev asks : Option HitRefusal → Option ℕ
  asks refused = word_asked_by (word_or word refused)

  abbrev has : Option HitRefusal → Bool
  has refused = has_word (length floor.words) (asks refused)

  abbrev outcome_by : Option HitRefusal → Result End HitRefusal
  outcome_by refused =
      hit_settled refused (settlement_in (entry_in words) (asks refused)) (award_of known word)

  abbrev left_after : Option HitRefusal → List Duty
  left_after refused = if has refused then left_by (outcome_by refused) else []

  -- a hit that no check refuses, by whether the row has the word
  unrefused : (b : Bool) → nat_lt word (length floor.words) ≡ b
      → AsksAtMost Exchanges entry_in floor.words (if b then Some word else None) settled.Lifted words
      → room_after new
      ≡ known ++ (if b then end_by (by_word (entry_in words word)) moment else [])
      → NotesWhere (awards (if b then left_by (by_word (entry_in words word)) else [])) word floor_hit
      after
      → Does config facts
      (if nat_lt word (words_of config) then effect_of (quote_with_word config word)
      (by_word (option_map (answer_to_hit facts) (quote_with_word config word))) else nothing) after
      (if b then left_by (by_word (entry_in words word)) else [])
  unrefused false test same grown notes =
      let none : nat_lt word (words_of config) ≡ false =
      ap (nat_lt word) (sym before.word_count) ∙ test in
      rw none (unasked [] same grown notes)
  unrefused true test exchange grown notes =
      let there : nat_lt word (words_of config) ≡ true =
      ap (nat_lt word) (sym before.word_count) ∙ test in
      rw there (asked_does there (entry_in words word)
      (record { exchange = exchange; grown = grown; notes = notes }))

  -- what the code has done in a room with these facts
  pub record Done (room : List RoomFact) (duties : List Duty) : Type 0 where
    pub exchange : AsksAtMost Exchanges entry_in floor.words
        (word_to_ask (length floor.words) (hit_word room word moment)) settled.Lifted words
    pub grown : new ≡ where_done (has_word (length floor.words) (hit_word room word moment)) events
        (at_room.Hit word moment (settlement_in (entry_in words) (hit_word room word moment)))
    pub leaves : duties ≡ duties_of_hit room at response word moment
        (has_word (length floor.words) (hit_word room word moment))
        (settlement_in (entry_in words) (hit_word room word moment))
    pub notes : NotesWhere (awards duties) word floor_hit after

  pub hit_does : (duties : List Duty) → Done (room_after events) duties
      → Does config facts (hit_in config facts at response word moment) after duties
  unfolding event_facts
  hit_does duties did =
      let done = subst (λ (room : List RoomFact). Done room duties) found.known did in
      subst (Does config facts _ after) (sym done.leaves)
      (by_check (hit_refusal known word moment) done.exchange
      (pushed events new _ _ done.grown
      ∙ ap (λ room. room ++ (if has (hit_refusal known word moment) then event_facts room
      (at_room.Hit word moment (settlement_in (entry_in words) (hit_word known word moment)))
      else [])) found.known)
      (subst (λ (d : List Duty). NotesWhere (awards d) word floor_hit after) done.leaves done.notes))
    where
      by_check : (refused : Option HitRefusal) → AsksAtMost Exchanges entry_in floor.words
          (word_to_ask (length floor.words) (asks refused)) settled.Lifted words
          → room_after new
          ≡ known ++ (if has refused then end_by (outcome_by refused) moment else [])
          → NotesWhere (awards (left_after refused)) word floor_hit after
          → Does config facts
          (if has_room config at.investor at.n && has_word (words_of config) (asks refused)
          then effect_of (quote_with_word config word) (hit_settled refused
          (option_map (answer_to_hit facts) (quote_asked config (asks refused)))
          (award_of known word)) else nothing)
          after (left_after refused)
      by_check (Some why) same grown notes =
          rw (found.has, no_lifting (quote_with_word config word) why)
          (unasked (left_by (Err why)) same grown notes)
      by_check None exchange grown notes =
          rw found.has (unrefused (nat_lt word (length floor.words)) refl exchange grown notes)
