-- What an event at a dealer's desk prints of its trades with an investor: nothing, or one under the
-- next number.
use Rattle.std.proofs.Common.{◌≡◌, ℕ, ◌+◌, ◌-◌, ◌≤◌, ◌<◌, ◌==◌, Bool, true, false, List, [], ◌∷◌, ◌++◌}
use Rattle.std.proofs.Common.{find, filter, filter_map, count_by, length, Option, Some, None, option_map}
use Rattle.std.proofs.Common.{refl, sym, ap, ap₂, ◌∙◌, subst, inl, inr, slice_get, arith, zero, suc, fold}
use Rattle.std.proofs.Common.{if◌then◌else◌, is_some}
use Rattle.std.specs.Option.{option_to_list}
use Rattle.std.proofs.lemmas.Bool.{cases_Bool, eqb-true}
use Rattle.std.proofs.lemmas.List.{append_assoc, append-nil, length-append, take_all, take-append-le}
use Rattle.std.proofs.lemmas.List.Elements.{filter-append, filter_map-append}
use Rattle.std.proofs.lemmas.List.Sums.{length-filter}
use Rattle.std.proofs.lemmas.Option.{same_Some, slice_get_within}
use Rattle.std.proofs.lemmas.Slice.Eq.{bytes_eq-Decides}
use Rattle.market_terms.specs.declared.asks.Ask.{Ask}
use Rattle.market_terms.specs.declared.closes.Close.{Close}
use Rattle.market_terms.specs.declared.closes.Close.TheVariants as closes
use Rattle.market_terms.specs.declared.rooms.RoomRef.{RoomRef}
use Rattle.quote_messages.specs.declared.out_messages.OutMessage.{OutMessage}
use Rattle.quote_word.specs.declared.settled.Settled.{Settled}
use Rattle.quote_word.specs.declared.settled.Settled.TheVariants as settled
use Rattle.venue_rows.specs.Texts.{same_text}
use Rattle.venue_rows.specs.declared.dealer_rows.DealerRow.{DealerRow}
use Rattle.note_lines.specs.NoteLines.{count_to, trades_with_investor}
use Rattle.dealer_desk.specs.DealerFacts.{DealerBook, DealerFact, Quoted, Shown, Told, book_of}
use Rattle.dealer_desk.specs.DealerFacts.{number_to_drop, quote_to_drop, request_numbered, requests_from}
use Rattle.dealer_desk.specs.DealerNotes.{dealer_notes, drop_note, event_note, notes_from, notes_with}
use Rattle.dealer_desk.specs.DealerNotes.{notice_note, refused_unless, verdict_note}
use Rattle.dealer_desk.specs.DealerOutput.{DeskState, after_event, answer_facts, closable, dealer_output}
use Rattle.dealer_desk.specs.DealerOutput.{desk_after, event_facts, event_message, goes_through}
use Rattle.dealer_desk.specs.DealerOutput.{is_withdrawn, moment_of, next_message, no_facts, notice_of}
use Rattle.dealer_desk.specs.DealerOutput.{room_of, settled_facts, shown_room, untold, verdict_facts}
use Rattle.dealer_desk.specs.DealerRules.{dealer_verdict}
use Rattle.dealer_desk.specs.declared.accepted.AcceptedQuote.{AcceptedQuote}
use Rattle.dealer_desk.specs.declared.events.DealerEvent.{DealerEvent}
use Rattle.dealer_desk.specs.declared.events.DealerEvent.TheVariants as event
use Rattle.dealer_desk.specs.declared.notes.DealerNote.{DealerNote}
use Rattle.dealer_desk.specs.declared.notes.DealerNote.TheVariants as note
use Rattle.dealer_desk.specs.declared.refusals.CancelRefusal.TheVariants as no_cancel
use Rattle.dealer_desk.specs.declared.refusals.DealerRefusal.{DealerRefusal}
use Rattle.dealer_desk.specs.declared.refusals.DealerRefusal.TheVariants as refused
use Rattle.dealer_desk.specs.declared.refusals.QuoteRefusal.TheVariants as no_quote
use Rattle.dealer_desk.specs.declared.standing.StandingQuote.{StandingQuote}
use Rattle.dealer_desk.specs.declared.standing.StandingRequest.{StandingRequest}
use Rattle.dealer_desk.specs.declared.standing.Withdrawal.{Withdrawal}
use Rattle.dealer_desk.specs.declared.standing.Withdrawal.TheVariants as by
use Rattle.dealer_desk.specs.declared.verdicts.DealerVerdict.{DealerVerdict}
use Rattle.dealer_desk.specs.declared.verdicts.DealerVerdict.TheVariants as verdict
use Rattle.step_replay.specs.DealerGrowth.{desk_push, desk_with, facts_grown, rooms_grown, sent_grown}
use Rattle.step_replay.specs.DealerGrowth.{sent_is}
use Rattle.step_replay.specs.DealerTrail.{AtDesk, DealerEntry, Sent, book_by, entries_of, facts_of}
use Rattle.step_replay.specs.DealerTrail.{message_by, rooms_by, sent_by}
use Rattle.step_replay.specs.EachLemmas.{Each, each_append, each_weaker, every_both, every_weaker}
use Rattle.step_replay.specs.Lists.{Every}
use Rattle.step_replay.specs.PlaceLemmas.{get_first}
use Rattle.laws_trades.specs.TradeNames.{ask_in, is_asked_by, notice_in, notices_to, was_asked_by}
use Rattle.laws_trades.specs.PrintedTrades.{TellsDealer}

-- Lists.

abbrev pub Notes : Type 0
Notes = List (Option DealerNote)

pub get_next : {A : Type 0} (xs more : List A) (x : A)
    → slice_get (xs ++ x ∷ more) (length xs) ≡ Some x
get_next [] more x = refl
get_next (y ∷ xs) more x = get_next xs more x

pub get_grown : {A : Type 0} (xs more : List A) (place : ℕ) (x : A) → slice_get xs place ≡ Some x
    → slice_get (xs ++ more) place ≡ Some x
get_grown xs more place x is = get_first xs more place (slice_get_within xs place x is) ∙ is

-- where a place is within a list, an item stands there
pub found_item : {A : Type 0} (xs : List A) (place : ℕ) → place < length xs
    → (x : A) × (slice_get xs place ≡ Some x)
found_item [] place within = absurd (omega arith)
found_item (x ∷ xs) zero within = (x, refl)
found_item (x ∷ xs) (suc place) within =
    let inner : place < length xs = omega arith in
    found_item xs place inner

-- where an investor asked, there is what it asked for
pub some_item : (investor : List ℕ) (xs : List Ask) (place : ℕ)
    → is_asked_by investor (slice_get xs place) ≡ true
    → (ask : Ask) × (slice_get xs place ≡ Some ask)
some_item investor [] place is = cc
some_item investor (x ∷ xs) zero is = (x, refl)
some_item investor (x ∷ xs) (suc place) is = some_item investor xs place is

text_same : (a b : List ℕ) → same_text a b ≡ true → a ≡ b
text_same a b test = (bytes_eq-Decides a b).0 test

pub text_self : (a : List ℕ) → same_text a a ≡ true
text_self a = (bytes_eq-Decides a a).1 refl

-- What a desk notes with one event more.

pub from_push : (date : List ℕ) (row : DealerRow) (desk : DeskState) (events : List DealerEvent)
    (more : DealerEvent) → notes_from date row desk (events ++ more ∷ [])
    ≡ notes_from date row desk events
    ++ notes_with
    (event_message date row (book_of (fold (after_event date row) desk events).facts) more)
    (event_note date row (book_of (fold (after_event date row) desk events).facts) more)
from_push date row desk [] more =
    append-nil (notes_with (event_message date row (book_of desk.facts) more)
    (event_note date row (book_of desk.facts) more))
from_push date row desk (one ∷ events) more =
    let here = notes_with (event_message date row (book_of desk.facts) one)
    (event_note date row (book_of desk.facts) one) in
    let stands = after_event date row desk one in
    let last = book_of (fold (after_event date row) stands events).facts in
    ap (λ (l : Notes). here ++ l) (from_push date row stands events more)
    ∙ sym (append_assoc here (notes_from date row stands events)
    (notes_with (event_message date row last more) (event_note date row last more)))

-- Requests.

-- what the requests that a dealer was shown ask for
abbrev pub asks : List DealerFact → List Ask
asks facts = filter_map ask_in facts

-- a request of the book is the one of its number
pub ask_at : (first : ℕ) (facts : List DealerFact) (number : ℕ) (found : StandingRequest)
    → find (λ (r : StandingRequest). r.number == number) (requests_from first facts) ≡ Some found
    → (first ≤ number) × (slice_get (asks facts) (number - first) ≡ Some found.ask)
ask_at first [] number found is = cc
ask_at first (Shown ask moment ∷ later) number found is = elim (cases_Bool (first == number)) [
  | inl same ↦
      let equal = eqb-true first number same in
      let here = same_Some _ found (rw same at is) in
      let none : number - first ≡ 0 = omega arith in (
        omega arith,
        rw none (ap (λ (r : StandingRequest). Some r.ask) here),
      )
  | inr differs ↦
      let next = ask_at (first + 1) later number found (rw differs at is) in
      let above : first + 1 ≤ number = next.0 in
      let place : number - first ≡ suc (number - (first + 1)) = omega arith in
      (omega arith, rw place next.1)
]
ask_at first (fact ∷ later) number found is = ask_at first later number found is

-- what may be closed is in the book
untold_found : (found : Option StandingRequest) (request : StandingRequest)
    → untold found ≡ Some request → found ≡ Some request
untold_found None request is = cc
untold_found (Some own) request is = by_told own.is_told is
  where
    by_told : (told : Bool) → (if told then None else Some own) ≡ Some request
        → Some own ≡ Some request
    by_told true none = cc
    by_told false found = found

closable_at : (facts : List DealerFact) (number : ℕ) (request : StandingRequest)
    → closable (book_of facts) number ≡ Some request
    → slice_get (asks facts) (number - 1) ≡ Some request.ask
unfolding closable request_numbered
closable_at facts number request is =
    (ask_at 1 facts number request (untold_found
    (find (λ (r : StandingRequest). r.number == number) (requests_from 1 facts)) request is)).1

-- Facts that no notice is among.

-- a notice of a request that stands among so many
abbrev pub IsWithin : ℕ → DealerFact → Type 0
IsWithin count (Told request close moment) = (request - 1) < count
IsWithin count fact = Unit {0}

pub more_within : (few more : ℕ) (fact : DealerFact) → IsWithin few fact → IsWithin (few + more) fact
more_within few more (Told request close moment) is = omega (arith, is)
more_within few more fact is = tt

-- a fact that is no notice, and shows nothing
abbrev IsQuiet : DealerFact → Type 0
IsQuiet (Told request close moment) = ⊥
IsQuiet (Shown ask moment) = ⊥
IsQuiet fact = Unit {0}

quiet_notices : (investor : List ℕ) (trail : List DealerEntry) (facts : List DealerFact)
    → Every IsQuiet facts → filter_map (notice_in investor trail) facts ≡ []
quiet_notices investor trail [] quiet = refl
quiet_notices investor trail (Told request close moment ∷ facts) quiet = absurd quiet.0
quiet_notices investor trail (Shown ask moment ∷ facts) quiet = absurd quiet.0
quiet_notices investor trail (fact ∷ facts) quiet = quiet_notices investor trail facts quiet.1

quiet_asks : (facts : List DealerFact) → Every IsQuiet facts → asks facts ≡ []
quiet_asks [] quiet = refl
quiet_asks (Told request close moment ∷ facts) quiet = absurd quiet.0
quiet_asks (Shown ask moment ∷ facts) quiet = absurd quiet.0
quiet_asks (fact ∷ facts) quiet = quiet_asks facts quiet.1

quiet_within : (count : ℕ) (fact : DealerFact) → IsQuiet fact → IsWithin count fact
quiet_within count (Told request close moment) quiet = absurd quiet
quiet_within count fact quiet = tt

answers_quiet : (quote : ℕ) (how : Withdrawal) (settlement : Option Settled)
    → Every IsQuiet (answer_facts quote how settlement)
answers_quiet quote how None = tt
answers_quiet quote how (Some settled.Withdrawn) = (tt, tt)
answers_quiet quote how (Some settled.Lifted) = (tt, tt)

settled_quiet : (asked : Option ℕ) (how : Withdrawal) (settlement : Option Settled)
    → Every IsQuiet (settled_facts asked how settlement)
settled_quiet None how settlement = tt
settled_quiet (Some quote) how settlement = answers_quiet quote how settlement

kept_quiet : (b : Bool) (quote : AcceptedQuote)
    → Every IsQuiet (if b then Quoted quote ∷ [] else [])
kept_quiet true quote = (tt, tt)
kept_quiet false quote = tt

verdict_quiet : (v : DealerVerdict) (settlement : Option Settled)
    → Every IsQuiet (verdict_facts v settlement)
verdict_quiet (verdict.QuoteAccepted request id quote replaced) settlement =
    every_both IsQuiet (settled_facts replaced by.Replacement settlement)
    (if goes_through replaced settlement then Quoted quote ∷ [] else [])
    (settled_quiet replaced by.Replacement settlement)
    (kept_quiet (goes_through replaced settlement) quote)
verdict_quiet (verdict.CancelAccepted id quote request) settlement =
    answers_quiet quote by.Cancel settlement
verdict_quiet (verdict.DeclineAccepted request number) settlement = (tt, tt)
verdict_quiet other settlement = tt

-- Notes that tell of no trade.

module _ (investor : List ℕ) where
  unless_quiet : (b : Bool) (refusal : DealerRefusal)
      → trades_with_investor investor (refused_unless b refusal) ≡ false
  unless_quiet true refusal = refl
  unless_quiet false refusal = refl

  verdict_tells : (v : DealerVerdict) (settlement : Option Settled)
      → trades_with_investor investor (verdict_note v settlement) ≡ false
  verdict_tells (verdict.QuoteAccepted request id quote replaced) settlement =
      unless_quiet (goes_through replaced settlement) (refused.Quote no_quote.Lifted)
  verdict_tells (verdict.CancelAccepted id quote request) settlement =
      unless_quiet (is_withdrawn settlement) (refused.Cancel no_cancel.Lifted)
  verdict_tells (verdict.QuoteRefused request id refusal) settlement = refl
  verdict_tells (verdict.CancelRefused id refusal) settlement = refl
  verdict_tells (verdict.DeclineRefused request refusal) settlement = refl
  verdict_tells other settlement = refl

  drop_tells : (settlement : Option Settled) (found : Option StandingQuote)
      → trades_with_investor investor (drop_note settlement found) ≡ false
  drop_tells settlement None = refl
  drop_tells settlement (Some own) =
      unless_quiet (is_withdrawn settlement) (refused.Cancel no_cancel.Lifted)

  pub none_told : (message : Option OutMessage) (said : Option DealerNote)
      → trades_with_investor investor said ≡ false
      → filter (trades_with_investor investor) (notes_with message said) ≡ []
  none_told None said none = refl
  none_told (Some message) said none = rw none refl

  -- What an event says of the trades with this investor: nothing, or one of a request of its.
  pub data Says (facts : List DealerFact) (shown : Option RoomRef) (message : Option OutMessage)
      (said : Option DealerNote) (known : List Ask) : Type 0 where
    nothing : ((trail : List DealerEntry) → asks (facts_of trail) ≡ known ++ asks facts
        → filter_map (notice_in investor trail) facts ≡ [])
        → length (asks facts) ≡ length (option_to_list shown)
        → Every (IsWithin (length known)) facts
        → trades_with_investor investor said ≡ false → Says facts shown message said known
    one : (request moment : ℕ) (ask : Ask) (out : OutMessage)
        → facts ≡ Told request closes.Hit moment ∷ [] → shown ≡ None → message ≡ Some out
        → said ≡ Some (note.Trade investor) → slice_get known (request - 1) ≡ Some ask
        → same_text ask.investor investor ≡ true → Says facts shown message said known

  quietly : (facts : List DealerFact) (message : Option OutMessage) (said : Option DealerNote)
      (known : List Ask) → Every IsQuiet facts → trades_with_investor investor said ≡ false
      → Says facts None message said known
  quietly facts message said known quiet none =
      nothing (λ trail is. quiet_notices investor trail facts quiet)
      (ap length (quiet_asks facts quiet))
      (every_weaker IsQuiet (IsWithin (length known)) (quiet_within (length known)) facts quiet) none

  -- a notice of a request that stands in the book
  told_says : (book : DealerBook) (known : List Ask) (number moment : ℕ) (close : Close)
      (request : StandingRequest) → slice_get known (number - 1) ≡ Some request.ask
      → Says (Told number close moment ∷ []) None (Some (notice_of book close request))
      (notice_note close (Some request)) known
  told_says book known number moment closes.Hit request there =
      elim (cases_Bool (same_text request.ask.investor investor)) [
        | inl same ↦
            one number moment request.ask (notice_of book closes.Hit request) refl refl refl
            (ap (λ (n : List ℕ). Some (note.Trade n)) (text_same request.ask.investor investor same))
            there same
        | inr other ↦
            nothing (λ trail are.
            rw (are, get_grown known [] (number - 1) request.ask there, other) refl)
            refl (slice_get_within known (number - 1) request.ask there, tt) other
      ]
  told_says book known number moment close request there =
      nothing (λ trail are. refl) refl (slice_get_within known (number - 1) request.ask there, tt) refl

  shown_says : (ask : Ask) (moment : ℕ) (room : RoomRef) (message : Option OutMessage)
      (known : List Ask) → Says (Shown ask moment ∷ []) (Some room) message None known
  shown_says ask moment room message known = nothing (λ trail are. refl) refl (tt, tt) refl

  -- any event, where the requests of the book are those that ask for this
  pub event_says : (date : List ℕ) (row : DealerRow) (facts : List DealerFact) (more : DealerEvent)
      → Says (event_facts date row (book_of facts) more) (shown_room more)
      (event_message date row (book_of facts) more) (event_note date row (book_of facts) more)
      (asks facts)
  unfolding event_facts event_message event_note
  event_says date row facts (event.Received moment bytes settlement) =
      quietly _ _ _ (asks facts)
      (tt, verdict_quiet (dealer_verdict date row (book_of facts) moment bytes) settlement)
      (verdict_tells (dealer_verdict date row (book_of facts) moment bytes) settlement)
  event_says date row facts (event.Shown room ask moment) =
      shown_says ask moment room _ (asks facts)
  event_says date row facts (event.Drop last moment settlement) =
      quietly _ _ _ (asks facts)
      (tt, settled_quiet (number_to_drop (book_of facts) last) by.Cancel settlement)
      (drop_tells settlement (quote_to_drop (book_of facts) last))
  event_says date row facts (event.Told request close moment) =
      by_found (closable (book_of facts) request) refl
    where
      by_found : (found : Option StandingRequest) → closable (book_of facts) request ≡ found
          → Says (if is_some found then Told request close moment ∷ [] else []) None
          (option_map (notice_of (book_of facts) close) found) (notice_note close found) (asks facts)
      by_found None is = quietly [] None None (asks facts) tt refl
      by_found (Some own) is =
          told_says (book_of facts) (asks facts) request moment close own
          (closable_at facts request own is)
