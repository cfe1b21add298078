-- A message of a dealer of a replay, and the drop of its quote, do what they should.
use Rattle.step_replay.proofs.Common.{◌≡◌, ◌≤◌, ℕ, ◌==◌, if◌then◌else◌, List, [], ◌∷◌, ◌++◌, length}
use Rattle.step_replay.proofs.Common.{Option, Some, None, IfSome, option_map, refl, ap, ◌∙◌, subst}
use Rattle.step_replay.proofs.Common.{slice_get, option_to_list, list_any, with_item, or-false}
use Rattle.step_replay.proofs.Common.{entry_in, Exchanges, Settled, Configuration, DealerRow, Duty}
use Rattle.step_replay.proofs.Common.{RoomRef, DealerBook, number_to_drop, DeskEvents, book_at}
use Rattle.step_replay.proofs.Common.{verdict_at, with_event, word_asked, event_facts, withdraws}
use Rattle.step_replay.proofs.Common.{DealerEvent, AsksAtMost, settlement_in, has_word, word_to_ask}
use Rattle.step_replay.proofs.Common.{DealerEntry, book_by, rooms_by, entries_of, Fact, of_dealer}
use Rattle.step_replay.proofs.Common.{dealer_of, dealer_at, done_by, first_word, dropped_by}
use Rattle.step_replay.proofs.Common.{received_by_dealer, DealerStands, Stands, Does, DealerPlace}
use Rattle.step_replay.proofs.Common.{Floor}
use Rattle.quote_word.specs.declared.settled.Settled.TheVariants as settled
use Rattle.dealer_desk.specs.DealerFacts.{quote_to_drop}
use Rattle.dealer_desk.specs.DealerRules.{dealer_verdict}
use Rattle.dealer_desk.specs.DealerDesk.{rooms_at}
use Rattle.dealer_desk.specs.DealerOutput.{verdict_duty, verdict_facts, settled_facts}
use Rattle.dealer_desk.specs.DealerOutput.{unpost_dropped, further_drop}
use Rattle.dealer_desk.specs.declared.standing.Withdrawal.TheVariants as by
use Rattle.dealer_desk.specs.declared.verdicts.DealerVerdict.{DealerVerdict}
use Rattle.dealer_desk.specs.declared.verdicts.DealerVerdict.TheVariants as verdict
use Rattle.dealer_desk.specs.declared.events.DealerEvent.TheVariants as event
use Rattle.venue_steps.specs.Words.{word_of}
use Rattle.venue_steps.specs.DealerSteps.{own_word, desk_after_own, duties_of_own, drop_word}
use Rattle.venue_steps.specs.DealerSteps.{desk_after_drop, duties_of_drop}
use Rattle.step_replay.specs.DealerGrowth.{settled_undue, verdict_undue}
use Rattle.step_replay.specs.declared.dues.Due.TheVariants as due
use Rattle.step_replay.proofs.AskLemmas.{asks_does, effect_of, floor_with}
use Rattle.step_replay.proofs.AskedWords.{withdraws_by}
use Rattle.step_replay.proofs.FloorLemmas.{event_stands}
use Rattle.step_replay.proofs.FoundDealers.{Found, dealer_found, by_found, leaving, book_is}
use Rattle.step_replay.proofs.LiftingLemmas.{IsDueSo}

-- what a contract speaks of, at the desk and by the trail
pub record Seen : Type 0 where
  pub first : ℕ
  pub date : List ℕ
  pub row : DealerRow
  pub book : DealerBook
  pub rooms : List RoomRef

abbrev seen_by : ℕ → List ℕ → DealerRow → DealerBook → List RoomRef → Seen
seen_by first date row book rooms =
    record { first = first; date = date; row = row; book = book; rooms = rooms }

abbrev seen_at : DealerPlace → Seen
seen_at place = seen_by place.first_word place.desk.date place.desk.row (book_at place.desk)
    (rooms_at place.desk)

abbrev seen_of : Configuration → ℕ → DealerRow → List DealerEntry → Seen
seen_of config number row trail = seen_by (first_word config (dealer_of number row)) config.date row
    (book_by trail) (rooms_by trail)

same_seen : (config : Configuration) (number : ℕ) (row : DealerRow) (trail : List DealerEntry)
    (place : DealerPlace) → DealerStands config number row trail place
    → seen_at place ≡ seen_of config number row trail
same_seen config number row trail place stands =
    cc (book_is config number row trail place stands)

-- A step that asks at most the word of a quote, by what the code has done.
module _ (config : Configuration) (facts : List Fact) (floor : Floor) (number : ℕ)
    (place : DealerPlace) (before : Stands config facts floor)
    (found : Found config facts number place) (desk : DeskEvents) (words : List (Option Settled))
    (duties : List Duty) (asked : Seen → Option ℕ) (more : Option Settled → DealerEvent)
    (left : Seen → Option Settled → List Duty) where
  abbrev trail : List DealerEntry
  trail = of_dealer number facts

  -- the word that is asked
  abbrev word_by : Seen → Option ℕ
  word_by d = option_map (word_of d.first) (asked d)

  pub record Done (d : Seen) : Type 0 where
    pub inside : IfSome (asked d) (λ quote. (1 ≤ quote) × (quote ≤ d.row.quotes))
    pub exchange : AsksAtMost Exchanges entry_in floor.words
        (word_to_ask (length floor.words) (word_by d)) settled.Withdrawn words
    pub desk_is : desk ≡ (if has_word (length floor.words) (word_by d)
        then with_event place.desk (more (settlement_in (entry_in words) (word_by d)))
        else place.desk)
    pub duties_are : duties ≡ (if has_word (length floor.words) (word_by d)
        then left d (settlement_in (entry_in words) (word_by d)) else [])

  pub asking_does : ((settlement : Option Settled) (quote : ℕ) → list_any (withdraws quote)
      (event_facts config.date found.row (book_by trail) (more settlement))
      ≡ withdraws_by (asked (seen_of config number found.row trail)) settlement quote)
      → ((settlement : Option Settled) → IsDueSo config.date found.row trail (more settlement))
      → Done (seen_at place)
      → Does config facts (effect_of config facts floor number place before found more
      (left (seen_of config number found.row trail)) (asked (seen_of config number found.row trail)))
      (floor_with config facts floor number place before found more
      (left (seen_of config number found.row trail)) desk words) duties
  asking_does withdraws_so due_so at =
      let here : Seen = seen_of config number found.row trail in
      let done = subst Done (same_seen config number found.row trail place found.stands) at in
      leaving config facts _ _ duties _ done.duties_are
      (asks_does config facts floor number place before found more (left here) (asked here) desk
      words withdraws_so due_so done.inside done.exchange done.desk_is)

-- A message.

-- what a verdict withdraws, by the settlement of the word that it asks
said_withdraws : (v : DealerVerdict) (settlement : Option Settled) (quote : ℕ)
    → list_any (withdraws quote) (verdict_facts v settlement) ≡ withdraws_by (word_asked v) settlement quote
said_withdraws (verdict.QuoteAccepted request id own None) settlement quote = refl
said_withdraws (verdict.QuoteAccepted request id own (Some replaced)) None quote = refl
said_withdraws (verdict.QuoteAccepted request id own (Some replaced)) (Some settled.Withdrawn) quote =
    or-false (replaced == quote)
said_withdraws (verdict.QuoteAccepted request id own (Some replaced)) (Some settled.Lifted) quote = refl
said_withdraws (verdict.CancelAccepted id own request) None quote = refl
said_withdraws (verdict.CancelAccepted id own request) (Some settled.Withdrawn) quote =
    or-false (own == quote)
said_withdraws (verdict.CancelAccepted id own request) (Some settled.Lifted) quote = refl
said_withdraws (verdict.DeclineAccepted request number) settlement quote = refl
said_withdraws other settlement quote = refl

pub said_does : (config : Configuration) (facts : List Fact) (floor : Floor) (number : ℕ)
    (place : DealerPlace) (moment : ℕ) (bytes : List ℕ) (desk : DeskEvents)
    (words : List (Option Settled)) (duties : List Duty) → Stands config facts floor
    → slice_get floor.dealers.items number ≡ Some place
    → IfSome (word_asked (verdict_at place.desk moment bytes))
    (λ quote. (1 ≤ quote) × (quote ≤ place.desk.row.quotes))
    → AsksAtMost Exchanges entry_in floor.words
    (word_to_ask (length floor.words) (own_word place.first_word place.desk moment bytes))
    settled.Withdrawn words
    → desk ≡ desk_after_own place.desk moment bytes
    (has_word (length floor.words) (own_word place.first_word place.desk moment bytes))
    (settlement_in (entry_in words) (own_word place.first_word place.desk moment bytes))
    → duties ≡ duties_of_own place.desk moment bytes
    (has_word (length floor.words) (own_word place.first_word place.desk moment bytes))
    (settlement_in (entry_in words) (own_word place.first_word place.desk moment bytes))
    → Does config facts
    (done_by (dealer_at config number) (received_by_dealer config facts moment bytes))
    (record floor {
      dealers = with_item floor.dealers number (record place { desk = desk });
      words = words;
    }) duties
unfolding event_facts
said_does config facts floor number place moment bytes desk words duties before stood inside exchange
    desk_is duties_are =
    let found = dealer_found config facts floor number place before stood in
    let verdict_by : Seen → DealerVerdict = λ d. dealer_verdict d.date d.row d.book moment bytes in
    let v = verdict_by (seen_of config number found.row (of_dealer number facts)) in
    by_found config facts number place found (received_by_dealer config facts moment bytes) _ duties
    (asking_does config facts floor number place before found desk words duties
    (λ d. word_asked (verdict_by d)) (λ settlement. event.Received moment bytes settlement)
    (λ d settlement. option_to_list (verdict_duty d.rooms moment (verdict_by d) settlement))
    (λ settlement quote. said_withdraws v settlement quote)
    (λ settlement. ap (λ l. due.Own moment bytes ∷ l) (verdict_undue v settlement))
    (record {
      inside = inside;
      exchange = exchange;
      desk_is = desk_is;
      duties_are = duties_are;
    }))

-- A drop.

drop_withdraws : (asked : Option ℕ) (settlement : Option Settled) (quote : ℕ)
    → list_any (withdraws quote) (settled_facts asked by.Cancel settlement)
    ≡ withdraws_by asked settlement quote
drop_withdraws None settlement quote = refl
drop_withdraws (Some asked) None quote = refl
drop_withdraws (Some asked) (Some settled.Withdrawn) quote = or-false (asked == quote)
drop_withdraws (Some asked) (Some settled.Lifted) quote = refl

pub drop_does : (config : Configuration) (facts : List Fact) (floor : Floor) (number : ℕ)
    (place : DealerPlace) (last moment : ℕ) (desk : DeskEvents)
    (words : List (Option Settled)) (duties : List Duty) → Stands config facts floor
    → slice_get floor.dealers.items number ≡ Some place
    → IfSome (number_to_drop (book_at place.desk) last)
    (λ quote. (1 ≤ quote) × (quote ≤ place.desk.row.quotes))
    → AsksAtMost Exchanges entry_in floor.words
    (word_to_ask (length floor.words) (drop_word place.first_word place.desk last))
    settled.Withdrawn words
    → desk ≡ desk_after_drop place.desk last moment
    (has_word (length floor.words) (drop_word place.first_word place.desk last))
    (settlement_in (entry_in words) (drop_word place.first_word place.desk last))
    → duties ≡ duties_of_drop place.desk last moment
    (has_word (length floor.words) (drop_word place.first_word place.desk last))
    (settlement_in (entry_in words) (drop_word place.first_word place.desk last))
    → Does config facts
    (done_by (dealer_at config number) (dropped_by config facts last moment))
    (record floor {
      dealers = with_item floor.dealers number (record place { desk = desk });
      words = words;
    }) duties
unfolding event_facts
drop_does config facts floor number place last moment desk words duties before stood inside exchange
    desk_is duties_are =
    let found = dealer_found config facts floor number place before stood in
    let trail = of_dealer number facts in
    let row = found.row in
    let asked = drop_word place.first_word place.desk last in
    let due_so : (settlement : Option Settled)
    → IsDueSo config.date row trail (event.Drop last moment settlement) =
    λ settlement. ap (λ l. due.Drop last moment ∷ l)
    (settled_undue (number_to_drop (book_by trail) last) by.Cancel settlement) in
    let after : Option Settled → DealerBook = λ settlement.
    book_by (trail ++ entries_of config.date row trail (event.Drop last moment settlement)) in
    let after_is : (settlement : Option Settled)
    → book_at (with_event place.desk (event.Drop last moment settlement)) ≡ after settlement =
    λ settlement. book_is config number row _ (record place {
      desk = with_event place.desk (event.Drop last moment settlement);
    })
    (event_stands config number row trail place
    (with_event place.desk (event.Drop last moment settlement))
    (event.Drop last moment settlement) found.stands refl (due_so settlement)) in
    let left : Seen → Option Settled → List Duty = λ d settlement.
    option_to_list (unpost_dropped d.rooms moment settlement (quote_to_drop d.book last))
    ++ option_to_list (further_drop (after settlement) last moment) in
    by_found config facts number place found (dropped_by config facts last moment) _ duties
    (asking_does config facts floor number place before found desk words duties
    (λ d. number_to_drop d.book last) (λ settlement. event.Drop last moment settlement) left
    (λ settlement quote. drop_withdraws (number_to_drop (book_by trail) last) settlement quote)
    due_so
    (record {
      inside = inside;
      exchange = exchange;
      desk_is = desk_is;
      duties_are = duties_are
          ∙ ap (λ (b : DealerBook). if has_word (length floor.words) asked
          then option_to_list (unpost_dropped (rooms_at place.desk) moment
          (settlement_in (entry_in words) asked) (quote_to_drop (book_at place.desk) last))
          ++ option_to_list (further_drop b last moment)
          else []) (after_is (settlement_in (entry_in words) asked));
    }))
