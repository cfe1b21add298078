-- What the lock of a dealer's desk keeps through an action there.
use Rattle.std.proofs.Common.{◌≡◌, refl, ◌∙◌, sym, ap, subst, ℕ, Bool, true, false, List, [], ◌++◌}
use Rattle.std.proofs.Common.{map, Option, Some, None, All, if◌then◌else◌}
use Rattle.std.proofs.lemmas.List.{map-append}
use Rattle.std.proofs.lemmas.List.Elements.{All-append, All-nil}
use Rattle.dealer_desk.specs.DealerFacts.{number_to_drop}
use Rattle.dealer_desk.specs.DealerDesk.{DeskEvents, book_at, facts_at, may_close, verdict_at}
use Rattle.dealer_desk.specs.DealerDesk.{with_event, with_notice_in}
use Rattle.dealer_desk.specs.DealerOutput.{dealer_output, desk_after, word_asked}
use Rattle.dealer_desk.specs.SettledWords.{settled_words, asked_by}
use Rattle.dealer_desk.specs.declared.events.DealerEvent.{DealerEvent}
use Rattle.dealer_desk.specs.declared.events.DealerEvent.TheVariants as event
use Rattle.market_terms.specs.declared.asks.Ask.{Ask}
use Rattle.market_terms.specs.declared.closes.Close.{Close}
use Rattle.market_terms.specs.declared.rooms.RoomRef.{RoomRef}
use Rattle.quote_word.specs.Board.{BoardName, Front, SettlesOnBoard}
use Rattle.quote_word.specs.SettleLog.{entry_of}
use Rattle.quote_word.specs.declared.settled.Settled.{Settled}
use Rattle.quote_word.specs.declared.settled.Settled.TheVariants.{Withdrawn}
use Rattle.step_replay.specs.Actions.{dealer_of, first_word}
use Rattle.recorded_days.specs.DayDues.{AnswersAre, AreAnswered, IsSettledIfAsked, day_due_list}
use Rattle.step_replay.specs.DealerView.{dealer_view}
use Rattle.venue_rows.specs.Rows.{Configuration, dealer_numbered}
use Rattle.venue_rows.specs.declared.dealer_rows.DealerRow.{DealerRow}
use Rattle.venue_steps.specs.DealerSteps.{desk_after_drop, desk_after_own, drop_word, own_word}
use Rattle.venue_steps.specs.Words.{AsksAtMost, settlement_in, has_word, word_of, word_to_ask}
use Rattle.session_worker.specs.Locks.{KeepsDealer}
use Rattle.day_checks.specs.AskedWords.{StandsIn, answers_at, by_word}
use Rattle.session_worker.proofs.LockLemmas.{IsLater, as_late, asks_later, entry_seen}
use Rattle.day_checks.proofs.KeptLemmas.{answers_stay}
use Rattle.session_worker.proofs.DealerAnswers.{DeskLaws, SentTheirView, asked_stands}
use Rattle.session_worker.proofs.DealerAnswers.{asked_answers, answers_by_quote}

-- Events.

-- a desk that is as before, with a later token
pub keeps_later : (board : BoardName) (config : Configuration) (firm first : ℕ) (desk : DeskEvents)
    (seen later : Front) → KeepsDealer board config firm first desk seen → IsLater seen later
    → KeepsDealer board config firm first desk later
keeps_later board config firm first desk seen later keeps is = record {
  of_board = is.0 ∙ keeps.of_board;
  day_is = keeps.day_is;
  row_is = keeps.row_is;
  first_is = keeps.first_is;
  answered = keeps.answered;
  answers_stand = answers_stay seen.log later.log is.1 (answers_at first desk) keeps.answers_stand;
}

-- a desk with one event more, whose answer is there where it asks a word and stands in the log of a
-- later token
pub keeps_event : DeskLaws → (board : BoardName) (config : Configuration) (firm first : ℕ)
    (desk : DeskEvents) (seen later : Front) (more : DealerEvent)
    → KeepsDealer board config firm first desk seen → IsLater seen later → IsSettledIfAsked desk more
    → All (StandsIn later.log)
    (map (by_word first) (asked_by desk.date desk.row (book_at desk) more))
    → KeepsDealer board config firm first (with_event desk more) later
keeps_event laws board config firm first desk seen later more keeps is answered stands =
    let before : All (StandsIn later.log) (answers_at first desk) =
    answers_stay seen.log later.log is.1 (answers_at first desk) keeps.answers_stand in
    let both : All (StandsIn later.log) (answers_at first desk
    ++ map (by_word first) (asked_by desk.date desk.row (book_at desk) more)) =
    All-append (StandsIn later.log) (answers_at first desk)
    (map (by_word first) (asked_by desk.date desk.row (book_at desk) more)) before stands in
    let answers : answers_at first (with_event desk more)
    ≡ answers_at first desk ++ map (by_word first) (asked_by desk.date desk.row (book_at desk) more) =
    ap (map (by_word first)) (laws.asks desk.date desk.row desk.events more)
    ∙ map-append (by_word first) (settled_words (facts_at desk))
    (asked_by desk.date desk.row (book_at desk) more) in
    record {
      of_board = is.0 ∙ keeps.of_board;
      day_is = keeps.day_is;
      row_is = keeps.row_is;
      first_is = keeps.first_is;
      answered = laws.answered desk more keeps.answered answered;
      answers_stand = subst (All (StandsIn later.log)) (sym answers) both;
    }

-- the desk after a message, where its word was asked
pub own_keeps : DeskLaws → (board : BoardName) (config : Configuration) (firm first : ℕ)
    (desk : DeskEvents) (seen later : Front) (moment : ℕ) (bytes : List ℕ) (count : ℕ) (has : Bool)
    → has_word count (own_word first desk moment bytes) ≡ has
    → KeepsDealer board config firm first desk seen
    → AsksAtMost SettlesOnBoard entry_seen seen
    (word_to_ask count (own_word first desk moment bytes)) Withdrawn later
    → KeepsDealer board config firm first (desk_after_own desk moment bytes has
    (settlement_in (entry_seen later) (own_word first desk moment bytes))) later
own_keeps laws board config firm first desk seen later moment bytes count true has keeps asks =
    keeps_event laws board config firm first desk seen later
    (event.Received moment bytes (settlement_in (entry_seen later) (own_word first desk moment bytes))) keeps
    (asks_later seen (word_to_ask count (own_word first desk moment bytes)) Withdrawn later asks)
    (asked_answers first seen later count Withdrawn (word_asked (verdict_at desk moment bytes)) has
    asks)
    (asked_stands first later.log (word_asked (verdict_at desk moment bytes)))
own_keeps laws board config firm first desk seen later moment bytes count false has keeps asks =
    keeps_later board config firm first desk seen later keeps
    (asks_later seen (word_to_ask count (own_word first desk moment bytes)) Withdrawn later asks)

-- the desk after a drop, where its word was asked
pub drop_keeps : DeskLaws → (board : BoardName) (config : Configuration) (firm first : ℕ)
    (desk : DeskEvents) (seen later : Front) (last moment : ℕ) (count : ℕ) (has : Bool)
    → has_word count (drop_word first desk last) ≡ has
    → KeepsDealer board config firm first desk seen
    → AsksAtMost SettlesOnBoard entry_seen seen (word_to_ask count (drop_word first desk last))
    Withdrawn later
    → KeepsDealer board config firm first (desk_after_drop desk last moment has
    (settlement_in (entry_seen later) (drop_word first desk last))) later
drop_keeps laws board config firm first desk seen later last moment count true has keeps asks =
    keeps_event laws board config firm first desk seen later
    (event.Drop last moment (settlement_in (entry_seen later) (drop_word first desk last))) keeps
    (asks_later seen (word_to_ask count (drop_word first desk last)) Withdrawn later asks)
    (asked_answers first seen later count Withdrawn (number_to_drop (book_at desk) last) has asks)
    (asked_stands first later.log (number_to_drop (book_at desk) last))
drop_keeps laws board config firm first desk seen later last moment count false has keeps asks =
    keeps_later board config firm first desk seen later keeps
    (asks_later seen (word_to_ask count (drop_word first desk last)) Withdrawn later asks)

-- the desk after a request is shown
pub show_keeps_if : DeskLaws → (board : BoardName) (config : Configuration)
    (firm first : ℕ) (desk : DeskEvents) (seen : Front) (room : RoomRef) (ask : Ask) (moment : ℕ)
    (was : Bool) → KeepsDealer board config firm first desk seen
    → KeepsDealer board config firm first
    (if was then desk else with_event desk (event.Shown room ask moment)) seen
show_keeps_if laws board config firm first desk seen room ask moment true keeps = keeps
show_keeps_if laws board config firm first desk seen room ask moment false keeps =
    keeps_event laws board config firm first desk seen seen (event.Shown room ask moment) keeps
    (as_late seen) refl (All-nil (StandsIn seen.log))

-- the desk after a notice
pub notice_keeps_if : DeskLaws → (board : BoardName) (config : Configuration)
    (firm first : ℕ) (desk : DeskEvents) (seen : Front) (request : ℕ) (close : Close) (moment : ℕ)
    (may : Bool) → KeepsDealer board config firm first desk seen
    → KeepsDealer board config firm first
    (if may then with_event desk (event.Told request close moment) else desk) seen
notice_keeps_if laws board config firm first desk seen request close moment true keeps =
    keeps_event laws board config firm first desk seen seen (event.Told request close moment) keeps
    (as_late seen) refl (All-nil (StandsIn seen.log))
notice_keeps_if laws board config firm first desk seen request close moment false keeps = keeps

-- the same by the number that the request has there
pub notice_keeps : DeskLaws → (board : BoardName) (config : Configuration)
    (firm first : ℕ) (desk : DeskEvents) (seen : Front) (number : Option ℕ) (close : Close)
    (moment : ℕ) → KeepsDealer board config firm first desk seen
    → KeepsDealer board config firm first (with_notice_in desk number close moment) seen
notice_keeps laws board config firm first desk seen None close moment keeps = keeps
notice_keeps laws board config firm first desk seen (Some request) close moment keeps =
    notice_keeps_if laws board config firm first desk seen request close moment
    (may_close desk request) keeps

-- Locks.

-- a desk without an event
pub opening_keeps : (board : BoardName) (config given : Configuration) (firm first : ℕ)
    (desk : DeskEvents) (day : List ℕ) (row own : DealerRow) (seen : Front)
    → desk ≡ record { date = day; row = own; events = [] } → day ≡ given.date → own ≡ row
    → given ≡ config → dealer_numbered config firm ≡ Some row
    → first ≡ first_word config (dealer_of firm row) → seen.board ≡ board
    → KeepsDealer board config firm first desk seen
unfolding desk_after
opening_keeps board config given firm first desk day row own seen desk_is day_is own_is given_is is first_is ours =
    let keeps : KeepsDealer board config firm first
    (record { date = config.date; row = row; events = [] }) seen = record {
      of_board = ours;
      day_is = refl;
      row_is = is;
      first_is = first_is;
      answered = tt;
      answers_stand = All-nil (StandsIn seen.log);
    } in
    let same : desk ≡ record { date = config.date; row = row; events = [] } =
    rw (desk_is, day_is, own_is, given_is) refl in
    subst (λ d. KeepsDealer board config firm first d seen) (sym same) keeps

-- the desk and the token after a message
pub own_kept : DeskLaws → (board : BoardName) (config : Configuration) (firm first : ℕ)
    (desk after : DeskEvents) (held seen later : Front) (moment : ℕ) (bytes : List ℕ) (count : ℕ)
    → KeepsDealer board config firm first desk held → seen ≡ held
    → AsksAtMost SettlesOnBoard entry_seen seen
    (word_to_ask count (own_word first desk moment bytes)) Withdrawn later
    → after ≡ desk_after_own desk moment bytes (has_word count (own_word first desk moment bytes))
    (settlement_in (entry_seen later) (own_word first desk moment bytes))
    → KeepsDealer board config firm first after later
own_kept laws board config firm first desk after held seen later moment bytes count keeps same asks is =
    let kept : KeepsDealer board config firm first desk seen =
    subst (KeepsDealer board config firm first desk) (sym same) keeps in
    subst (λ d. KeepsDealer board config firm first d later) (sym is)
    (own_keeps laws board config firm first desk seen later moment bytes count
    (has_word count (own_word first desk moment bytes)) refl kept asks)

-- the desk and the token after a drop
pub drop_kept : DeskLaws → (board : BoardName) (config : Configuration) (firm first : ℕ)
    (desk after : DeskEvents) (held seen later : Front) (last moment : ℕ) (count : ℕ)
    → KeepsDealer board config firm first desk held → seen ≡ held
    → AsksAtMost SettlesOnBoard entry_seen seen (word_to_ask count (drop_word first desk last))
    Withdrawn later
    → after ≡ desk_after_drop desk last moment (has_word count (drop_word first desk last))
    (settlement_in (entry_seen later) (drop_word first desk last))
    → KeepsDealer board config firm first after later
drop_kept laws board config firm first desk after held seen later last moment count keeps same asks is =
    let kept : KeepsDealer board config firm first desk seen =
    subst (KeepsDealer board config firm first desk) (sym same) keeps in
    subst (λ d. KeepsDealer board config firm first d later) (sym is)
    (drop_keeps laws board config firm first desk seen later last moment count
    (has_word count (drop_word first desk last)) refl kept asks)

-- the desk as it was, and the token after a word was asked
pub refused_kept : (board : BoardName) (config : Configuration) (firm first : ℕ)
    (desk after : DeskEvents) (held seen later : Front) (word : Option ℕ) (wish : Settled)
    → KeepsDealer board config firm first desk held → seen ≡ held
    → AsksAtMost SettlesOnBoard entry_seen seen word wish later → after ≡ desk
    → KeepsDealer board config firm first after later
refused_kept board config firm first desk after held seen later word wish keeps same asks is =
    let kept : KeepsDealer board config firm first desk seen =
    subst (KeepsDealer board config firm first desk) (sym same) keeps in
    subst (λ d. KeepsDealer board config firm first d later) (sym is)
    (keeps_later board config firm first desk seen later kept (asks_later seen word wish later asks))

-- Days.

-- what the desk sent is the dealer view of what was due by its events
pub view_is_seen : SentTheirView → (board : BoardName) (config : Configuration) (firm first : ℕ)
    (desk : DeskEvents) (seen : Front) → KeepsDealer board config firm first desk seen
    → dealer_output config.date desk.row desk.events
    ≡ dealer_view config.date desk.row (day_due_list config.date desk.row desk.events)
view_is_seen law board config firm first desk seen keeps =
    let word_is : ℕ → Option Settled = λ quote. entry_of (word_of first quote) seen.log in
    law config.date desk.row desk.events word_is
    (subst (λ date. AreAnswered (record { date = date; row = desk.row; events = desk.events }))
    keeps.day_is keeps.answered)
    (subst (λ date. AnswersAre word_is (record { date = date; row = desk.row; events = desk.events }))
    keeps.day_is (answers_by_quote first seen.log (settled_words (facts_at desk))
    keeps.answers_stand))
