-- What a lock keeps through an action that asks a word at most.
use Rattle.std.proofs.Common.{◌≡◌, refl, ◌∙◌, sym, ap, subst, ℕ, Bool, true, false, List, [], ◌∷◌}
use Rattle.std.proofs.Common.{◌++◌, Option, Some, None, All}
use Rattle.std.proofs.lemmas.List.Elements.{All-append, All-cons, All-nil, filter_map-append}
use Rattle.std.specs.Option.{option_map, option_to_list}
use Rattle.std.proofs.lemmas.Option.{same_Some}
use Rattle.quote_word.specs.Board.{BoardName, Front, SettlesOnBoard}
use Rattle.quote_word.specs.BoardLaws.{board_keeps_entries}
use Rattle.quote_word.specs.SettleLog.{entry_of}
use Rattle.quote_word.specs.declared.settled.Settled.{Settled}
use Rattle.quote_word.specs.declared.settled.Settled.TheVariants.{Lifted}
use Rattle.quote_word.specs.declared.settled.Settlement.{Settlement}
use Rattle.venue_rows.specs.Rows.{Configuration, investor_numbered}
use Rattle.venue_steps.specs.Words.{AsksAtMost, SettlesSo, settlement_in}
use Rattle.venue_steps.specs.InvestorSteps.{desk_after_own, duties_of_own, with_event_if}
use Rattle.venue_steps.specs.RoomSteps.{hit_word, where_done, word_asked_by}
use Rattle.investor_desk.specs.InvestorDesk.{DeskEvents as InvestorEvents, market_for, market_of}
use Rattle.investor_desk.specs.InvestorDesk.{no_events, verdict_at}
use Rattle.investor_desk.specs.InvestorOutput.{verdict_duty}
use Rattle.investor_desk.specs.declared.events.InvestorEvent.{InvestorEvent}
use Rattle.investor_desk.specs.declared.events.InvestorEvent.TheVariants as at_investor
use Rattle.market_terms.specs.declared.closes.HitRefusal.{HitRefusal}
use Rattle.market_terms.specs.declared.duties.Duty.{Duty}
use Rattle.market_terms.specs.declared.rooms.RoomRef.{RoomRef}
use Rattle.request_room.specs.Book.{hit_refusal, room_after, word_or}
use Rattle.request_room.specs.declared.events.RoomEvent.{RoomEvent}
use Rattle.request_room.specs.declared.events.RoomEvent.TheVariants as in_room
use Rattle.venue_rows.specs.declared.investor_rows.InvestorRow.{InvestorRow}
use Rattle.session_worker.specs.Locks.{KeepsInvestor, KeepsRoom}
use Rattle.day_checks.specs.AskedWords.{StandsIn, answered_hit, answers_in}
use Rattle.day_checks.specs.LeftResponseWords.{response_in}
use Rattle.day_checks.specs.LeftResponses.{response_left, responses_left}
use Rattle.day_checks.specs.declared.left_responses.LeftResponse.{LeftResponse}
use Rattle.day_checks.proofs.LeftLemmas.{first_left, left_more, left_stays}
use Rattle.day_checks.proofs.KeptLemmas.{Stay, answers_stay, some_is_none}

-- what a word is, as a token has seen it
abbrev pub entry_seen : Front → ℕ → Option Settled
entry_seen front w = entry_of w front.log

-- a later token of the same board
abbrev pub IsLater : Front → Front → Type 0
IsLater seen later = (later.board ≡ seen.board) × Stay seen.log later.log

-- one exchange gives a later token
pub settles_later : (seen : Front) (word : ℕ) (wish : Settled) (settlement : Option Settled) (later : Front)
    → SettlesSo SettlesOnBoard seen word wish settlement later → IsLater seen later
settles_later seen word wish (Some settlement) later e =
    (e.board, λ w was stands. board_keeps_entries seen later word w wish settlement was e stands)
settles_later seen word wish None later e = elim e [ ]

-- a step that asks a word at most gives a later token
pub asks_later : (seen : Front) (word : Option ℕ) (wish : Settled) (later : Front)
    → AsksAtMost SettlesOnBoard entry_seen seen word wish later → IsLater seen later
asks_later seen None wish later e =
    (ap (λ (front : Front). front.board) e, λ w was stands. rw e stands)
asks_later seen (Some word) wish later e =
    settles_later seen word wish (entry_seen later word) later e

-- a token is as late as itself
pub as_late : (seen : Front) → IsLater seen seen
as_late seen = (refl, λ w was stands. stands)

-- An investor's desk.

-- the market of a desk that may have one event more
pub market_stays : (may : Bool) (desk : InvestorEvents) (more : InvestorEvent)
    → (with_event_if may desk more).market ≡ desk.market
market_stays true desk more = refl
market_stays false desk more = refl

-- the same desk, of the configuration
market_kept : (config : Configuration) (desk after : InvestorEvents)
    → after.market ≡ desk.market → market_for config desk.market.firm ≡ Some desk.market
    → market_for config after.market.firm ≡ Some after.market
market_kept config desk after same keeps =
    subst (λ m. market_for config m.firm ≡ Some m) (sym same) keeps

-- a desk that may have one event more, by which no response is left
pub told_kept : (config : Configuration) (desk after : InvestorEvents) (left : List LeftResponse)
    (may : Bool) (more : InvestorEvent) → response_left desk more ≡ None
    → KeepsInvestor config desk left → after ≡ with_event_if may desk more
    → KeepsInvestor config after left
told_kept config desk after left may more none keeps is = record {
  market_is = market_kept config desk after
      (ap (λ (d : InvestorEvents). d.market) is ∙ market_stays may desk more) keeps.market_is;
  left_is = keeps.left_is ∙ sym (ap responses_left is ∙ left_stays desk may more none);
}

-- a desk to which a message of the investor's own came, with the responses that it left
pub own_kept : (config : Configuration) (desk after : InvestorEvents) (left : List LeftResponse)
    (moment : ℕ) (bytes : List ℕ) (duties : List Duty) (one : Option LeftResponse)
    → KeepsInvestor config desk left → after ≡ desk_after_own desk moment bytes
    → duties ≡ duties_of_own desk moment bytes → one ≡ response_in duties
    → KeepsInvestor config after (left ++ option_to_list one)
own_kept config desk after left moment bytes duties one keeps is from found =
    let more = at_investor.Received moment bytes in
    let here : one ≡ response_left desk more = found ∙ ap response_in from
    ∙ first_left (verdict_duty desk.market moment (verdict_at desk moment bytes)) in
    record {
      market_is = market_kept config desk after (ap (λ (d : InvestorEvents). d.market) is)
          keeps.market_is;
      left_is = ap (λ own. own ++ option_to_list one) keeps.left_is
          ∙ ap (λ own. responses_left desk ++ option_to_list own) here
          ∙ sym (ap responses_left is ∙ left_more desk more);
    }

-- a desk of the investor with this number
pub opened_with : (config : Configuration) (firm : ℕ) (desk : InvestorEvents)
    (row : Option InvestorRow) → investor_numbered config firm ≡ row
    → Some desk ≡ option_map no_events (option_map (market_of config firm) row)
    → KeepsInvestor config desk []
opened_with config firm desk None found is = absurd (some_is_none desk is)
opened_with config firm desk (Some row) found is =
    let desk_is : desk ≡ no_events (market_of config firm row) = same_Some _ _ is in
    let keeps : KeepsInvestor config (no_events (market_of config firm row)) [] = record {
      market_is = ap (option_map (market_of config firm)) found;
      left_is = refl;
    } in
    subst (λ own. KeepsInvestor config own []) (sym desk_is) keeps

-- a desk without an event
pub opened_keeps : (config given : Configuration) (firm : ℕ) (desk : InvestorEvents)
    → given ≡ config → Some desk ≡ option_map no_events (market_for given firm)
    → KeepsInvestor config desk []
opened_keeps config given firm desk same is =
    let here : Some desk ≡ option_map no_events (market_for config firm) = rw (← same) is in
    opened_with config firm desk (investor_numbered config firm) refl here

-- A room.

-- the room as it was, with a later token
pub room_later : (board : BoardName) (config : Configuration) (at : RoomRef)
    (events : List RoomEvent) (seen later : Front) → KeepsRoom board config at events seen
    → IsLater seen later → KeepsRoom board config at events later
room_later board config at events seen later keeps is = record {
  of_board = is.0 ∙ keeps.of_board;
  room_is = keeps.room_is;
  answers_stand = answers_stay seen.log later.log is.1 (answers_in events) keeps.answers_stand;
}

-- the room with one event more, whose answer stands in the log of a later token
pub room_event : (board : BoardName) (config : Configuration) (at : RoomRef)
    (events : List RoomEvent) (seen later : Front) (more : RoomEvent)
    → KeepsRoom board config at events seen → IsLater seen later
    → All (StandsIn later.log) (answers_in (more ∷ []))
    → KeepsRoom board config at (events ++ more ∷ []) later
room_event board config at events seen later more keeps is stands = record {
  of_board = is.0 ∙ keeps.of_board;
  room_is = keeps.room_is;
  answers_stand = subst (All (StandsIn later.log))
      (sym (filter_map-append answered_hit events (more ∷ [])))
      (All-append (StandsIn later.log) (answers_in events) (answers_in (more ∷ []))
      (answers_stay seen.log later.log is.1 (answers_in events) keeps.answers_stand) stands);
}

-- the room after an event that asks no word, where it takes place
pub quiet_kept : (board : BoardName) (config : Configuration) (at : RoomRef)
    (events after : List RoomEvent) (seen : Front) (done : Bool) (more : RoomEvent)
    → KeepsRoom board config at events seen → answered_hit more ≡ None
    → after ≡ where_done done events more → KeepsRoom board config at after seen
quiet_kept board config at events after seen true more keeps quiet is =
    let none : answers_in (more ∷ []) ≡ [] = rw quiet refl in
    subst (λ e. KeepsRoom board config at e seen) (sym is)
    (room_event board config at events seen seen more keeps (as_late seen)
    (subst (All (StandsIn seen.log)) (sym none) (All-nil (StandsIn seen.log))))
quiet_kept board config at events after seen false more keeps quiet is =
    subst (λ e. KeepsRoom board config at e seen) (sym is) keeps

-- the answer of a hit stands in the log from which it is taken
pub hit_found : (log : List Settlement) (word moment : ℕ) (found : Option Settled)
    → entry_of word log ≡ found → All (StandsIn log) (answers_in (in_room.Hit word moment found ∷ []))
hit_found log word moment None is = All-nil (StandsIn log)
hit_found log word moment (Some settled) is =
    All-cons (StandsIn log) (word, settled) [] is (All-nil (StandsIn log))

-- the same where no check refuses the hit before, and where one does
pub hit_stands : (log : List Settlement) (word moment : ℕ) (refused : Option HitRefusal)
    → All (StandsIn log) (answers_in (in_room.Hit word moment
    (settlement_in (λ w. entry_of w log) (word_asked_by (word_or word refused))) ∷ []))
hit_stands log word moment None = hit_found log word moment (entry_of word log) refl
hit_stands log word moment (Some refused) = All-nil (StandsIn log)

-- the room and the token after a hit
pub hit_kept : (board : BoardName) (config : Configuration) (at : RoomRef)
    (events after : List RoomEvent) (held seen later : Front) (word moment : ℕ)
    (asked : Option ℕ) (has : Bool)
    → KeepsRoom board config at events held → seen ≡ held
    → AsksAtMost SettlesOnBoard entry_seen seen asked Lifted later
    → after ≡ where_done has events (in_room.Hit word moment
    (settlement_in (entry_seen later) (hit_word (room_after events) word moment)))
    → KeepsRoom board config at after later
hit_kept board config at events after held seen later word moment asked true keeps same asks is =
    let kept : KeepsRoom board config at events seen =
    subst (KeepsRoom board config at events) (sym same) keeps in
    subst (λ e. KeepsRoom board config at e later) (sym is)
    (room_event board config at events seen later (in_room.Hit word moment
    (settlement_in (entry_seen later) (hit_word (room_after events) word moment))) kept
    (asks_later seen asked Lifted later asks)
    (hit_stands later.log word moment (hit_refusal (room_after events) word moment)))
hit_kept board config at events after held seen later word moment asked false keeps same asks is =
    let kept : KeepsRoom board config at events seen =
    subst (KeepsRoom board config at events) (sym same) keeps in
    subst (λ e. KeepsRoom board config at e later) (sym is)
    (room_later board config at events seen later kept (asks_later seen asked Lifted later asks))

-- the room as it was, and the token after a hit
pub hit_refused_kept : (board : BoardName) (config : Configuration) (at : RoomRef)
    (events after : List RoomEvent) (held seen later : Front) (asked : Option ℕ)
    → KeepsRoom board config at events held → seen ≡ held
    → AsksAtMost SettlesOnBoard entry_seen seen asked Lifted later → after ≡ events
    → KeepsRoom board config at after later
hit_refused_kept board config at events after held seen later asked keeps same asks is =
    let kept : KeepsRoom board config at events seen =
    subst (KeepsRoom board config at events) (sym same) keeps in
    subst (λ e. KeepsRoom board config at e later) (sym is)
    (room_later board config at events seen later kept (asks_later seen asked Lifted later asks))
