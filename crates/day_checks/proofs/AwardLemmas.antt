-- The word of a quote that won in a room is lifted.
use Rattle.std.proofs.Common.{◌≡◌, ◌∙◌, sym, ap, subst, refl, ℕ, ◌==◌, Bool, true, false, List, []}
use Rattle.std.proofs.Common.{◌∷◌, ◌++◌, arith, All, Option, Some, None, slice_index_or, fold, find}
use Rattle.std.proofs.Common.{if◌then◌else◌}
use Rattle.std.specs.Prelude.{IfSome}
use Rattle.std.specs.Option.{option_map, option_or}
use Rattle.std.proofs.lemmas.Bool.Decides.{nat_tests}
use Rattle.std.proofs.lemmas.List.Elements.{All-cons, All-nil, All-head, All-tail}
use Rattle.market_terms.specs.declared.closes.HitRefusal.{HitRefusal}
use Rattle.quote_word.specs.SettleLog.{SettleLog, entry_of}
use Rattle.quote_word.specs.declared.settled.Settled.{Settled}
use Rattle.quote_word.specs.declared.settled.Settled.TheVariants.{Withdrawn, Lifted}
use Rattle.request_room.specs.Book.{after_event, award_of, book_of, end_by, event_facts, expired}
use Rattle.request_room.specs.Book.{hit_refusal, hit_settled, passed, quote_meant, room_after}
use Rattle.request_room.specs.Book.{fact_if}
use Rattle.request_room.specs.RoomFacts.{RoomFact, Opened, Readied, Posted, Unposted, Noted, Ended}
use Rattle.request_room.specs.RoomFacts.{end_of, ended_as}
use Rattle.request_room.specs.declared.ends.End.{End}
use Rattle.request_room.specs.declared.events.RoomEvent.{RoomEvent}
use Rattle.request_room.specs.declared.events.RoomEvent.TheVariants as in_room
use Rattle.request_room.specs.declared.quotes.PostedQuote.{PostedQuote}
use Rattle.day_checks.specs.DayChecks.{DayRoom}
use Rattle.day_checks.specs.KeptDays.{AwardStands, RoomsStand, WinnerLifted}
use Rattle.day_checks.specs.AskedWords.{StandsIn, answers_in}

-- what the first says, or else the second
or_more : (log : SettleLog) (o a b : Option End) → (WinnerLifted log a → WinnerLifted log b)
    → WinnerLifted log (option_or o a) → WinnerLifted log (option_or o b)
or_more log None a b on lifted = on lifted
or_more log (Some end) a b on lifted = lifted

-- facts, and more of them
more_facts : (log : SettleLog) (facts more : List RoomFact) → WinnerLifted log (end_of more)
    → WinnerLifted log (end_of facts) → WinnerLifted log (end_of (facts ++ more))
more_facts log [] more new lifted = new
more_facts log (fact ∷ facts) more new lifted =
    or_more log (ended_as fact) (end_of facts) (end_of (facts ++ more))
    (more_facts log facts more new) lifted

-- what is found meets the test
found_by : {A : Type 0} (p : A → Bool) (x y : A) (rest : Option A) (b : Bool) → p x ≡ b
    → (rest ≡ Some y → p y ≡ true) → (if b then Some x else rest) ≡ Some y → p y ≡ true
found_by p x y rest true is later found =
    let same : x ≡ y = cc in
    ap p (sym same) ∙ is
found_by p x y rest false is later found = later found

found_meets : {A : Type 0} (p : A → Bool) (xs : List A) (y : A) → find p xs ≡ Some y → p y ≡ true
found_meets p [] y found = absurd cc
found_meets p (x ∷ xs) y found =
    found_by p x y (find p xs) (p x) refl (found_meets p xs y) found

-- a quote that wins, by its dealer and word
abbrev winning : PostedQuote → ℕ × ℕ
winning quote = (quote.dealer, quote.word)

-- the winner of an award has the word that was hit
award_lifted : (log : SettleLog) (w : ℕ) (quotes : List PostedQuote)
    (meant : Option PostedQuote) → quote_meant quotes w ≡ meant → entry_of w log ≡ Some Lifted
    → IfSome (option_map winning meant) (λ winner. entry_of winner.1 log ≡ Some Lifted)
award_lifted log w quotes None is lifted = tt
award_lifted log w quotes (Some quote) is lifted =
    let test : (quote.word == w) ≡ true =
    found_meets (λ (own : PostedQuote). own.word == w) quotes quote is in
    let same : w ≡ quote.word = grind (arith, nat_tests) in
    subst (λ word. entry_of word log ≡ Some Lifted) same lifted

-- what a hit adds
hit_lifted : (log : SettleLog) (facts : List RoomFact) (w moment : ℕ)
    (refused : Option HitRefusal) (settlement : Option Settled)
    → ((settled : Settled) → settlement ≡ Some settled → entry_of w log ≡ Some settled)
    → WinnerLifted log (end_of (end_by (hit_settled refused settlement (award_of facts w)) moment))
hit_lifted log facts w moment (Some refused) settlement stands = tt
hit_lifted log facts w moment None None stands = tt
hit_lifted log facts w moment None (Some Withdrawn) stands = tt
hit_lifted log facts w moment None (Some Lifted) stands =
    award_lifted log w (book_of facts) (quote_meant (book_of facts) w) refl (stands Lifted refl)

-- a fact that follows where a condition holds
where_lifted : (log : SettleLog) (may : Bool) (fact : RoomFact)
    → WinnerLifted log (end_of (fact ∷ [])) → WinnerLifted log (end_of (fact_if may fact))
where_lifted log false fact lifted = tt
where_lifted log true fact lifted = lifted

-- what an event adds
event_lifted : (log : SettleLog) (facts : List RoomFact) (event : RoomEvent)
    → All (StandsIn log) (answers_in (event ∷ []))
    → WinnerLifted log (end_of (event_facts facts event))
unfolding event_facts
event_lifted log facts (in_room.Hit w moment None) stand =
    hit_lifted log facts w moment (hit_refusal facts w moment) None (λ settled is. absurd cc)
event_lifted log facts (in_room.Hit w moment (Some settled)) stand =
    hit_lifted log facts w moment (hit_refusal facts w moment) (Some settled)
    (λ other is. All-head (StandsIn log) (w, settled) [] stand ∙ is)
event_lifted log facts other stand = where_lifted log _ _ (search)

-- events one by one
events_lifted : (log : SettleLog) (facts : List RoomFact) (events : List RoomEvent)
    → All (StandsIn log) (answers_in events) → WinnerLifted log (end_of facts)
    → WinnerLifted log (end_of (fold after_event facts events))
events_lifted log facts [] stand lifted = lifted
events_lifted log facts (in_room.Hit w moment (Some settled) ∷ later) stand lifted =
    events_lifted log (after_event facts (in_room.Hit w moment (Some settled))) later
    (All-tail (StandsIn log) (w, settled) (answers_in later) stand)
    (more_facts log facts (event_facts facts (in_room.Hit w moment (Some settled)))
    (event_lifted log facts (in_room.Hit w moment (Some settled))
    (All-cons (StandsIn log) (w, settled) []
    (All-head (StandsIn log) (w, settled) (answers_in later) stand) (All-nil (StandsIn log))))
    lifted)
events_lifted log facts (event ∷ later) stand lifted =
    events_lifted log (after_event facts event) later stand
    (more_facts log facts (event_facts facts event)
    (event_lifted log facts event (All-nil (StandsIn log))) lifted)

-- the word of the quote that won in a room was answered lifted
pub room_lifted : (log : SettleLog) (events : List RoomEvent)
    → All (StandsIn log) (answers_in events) → WinnerLifted log (end_of (room_after events))
unfolding room_after
room_lifted log events stand = events_lifted log [] events stand tt

-- the same of all rooms
pub awards_stand : (log : SettleLog) (rooms : List DayRoom) → RoomsStand log rooms
    → All (AwardStands log) rooms
awards_stand log rooms stand k d below =
    room_lifted log (slice_index_or rooms k d).day.events (stand k d below)
