-- What a desk notes follows from its facts: each fact says which event came, and the fact behind it
-- how the word that the event asked was settled. There is one note for each message.
use Rattle.std.proofs.Common.{◌≡◌, ℕ, ◌+◌, length, arith, List, [], ◌∷◌, ◌++◌, fold, Option, Some, None, is_some}
use Rattle.std.proofs.Common.{option_map, refl, sym, ap, ◌∙◌, if◌then◌else◌}
use Rattle.std.proofs.lemmas.List.{append-nil, append_assoc, length-append}
use Rattle.quote_messages.specs.declared.out_messages.OutMessage.{OutMessage}
use Rattle.venue_rows.specs.declared.dealer_rows.DealerRow.{DealerRow}
use Rattle.market_terms.specs.declared.closes.Close.{Close}
use Rattle.quote_word.specs.declared.settled.Settled.{Settled}
use Rattle.quote_word.specs.declared.settled.Settled.TheVariants as settled
use Rattle.dealer_desk.specs.DealerFacts.{DealerFact, Came, Shown, Withdrawn, Late, Dropped, Told}
use Rattle.dealer_desk.specs.DealerFacts.{DealerBook, book_of, quote_to_drop}
use Rattle.dealer_desk.specs.DealerRules.{dealer_verdict}
use Rattle.dealer_desk.specs.DealerOutput.{DeskState, no_facts, after_event, desk_after}
use Rattle.dealer_desk.specs.DealerOutput.{event_facts, event_message, closable, notice_of}
use Rattle.dealer_desk.specs.DealerOutput.{verdict_facts, verdict_message, drop_message}
use Rattle.dealer_desk.specs.DealerOutput.{settled_facts, uses_number, sent_with}
use Rattle.dealer_desk.specs.DealerOutput.{next_message, moment_of, dealer_output}
use Rattle.dealer_desk.specs.DealerNotes.{event_note, verdict_note, notice_note, drop_note}
use Rattle.dealer_desk.specs.DealerNotes.{notes_with, notes_from, dealer_notes}
use Rattle.dealer_desk.specs.BookChanges.{book_after}
use Rattle.dealer_desk.specs.declared.notes.DealerNote.{DealerNote}
use Rattle.dealer_desk.specs.declared.standing.StandingRequest.{StandingRequest}
use Rattle.dealer_desk.specs.declared.standing.StandingQuote.{StandingQuote}
use Rattle.dealer_desk.specs.declared.standing.Withdrawal.TheVariants as by
use Rattle.dealer_desk.specs.declared.events.DealerEvent.{DealerEvent}
use Rattle.dealer_desk.specs.declared.events.DealerEvent.TheVariants as event
use Rattle.dealer_desk.specs.declared.verdicts.DealerVerdict.{DealerVerdict}
use Rattle.dealer_desk.specs.declared.verdicts.DealerVerdict.TheVariants as verdict
use Rattle.dealer_desk.proofs.BookPush.{books_push}

abbrev Notes : Type 0
Notes = List (Option DealerNote)

-- how the word that was asked was settled, by the facts behind
abbrev settlement_in : List DealerFact → Option Settled
settlement_in (Withdrawn quote how ∷ later) = Some settled.Withdrawn
settlement_in (Late quote ∷ later) = Some settled.Lifted
settlement_in other = None

-- what is noted with the message of a verdict, a notice and a drop

abbrev verdict_notes : DealerVerdict → Option Settled → Notes
verdict_notes v settlement = notes_with (verdict_message v settlement) (verdict_note v settlement)

abbrev told_notes : DealerBook → Close → Option StandingRequest → Notes
told_notes book close found = notes_with (option_map (notice_of book close) found) (notice_note close found)

abbrev drop_notes : Option Settled → Option StandingQuote → Notes
drop_notes settlement found = notes_with (option_map (drop_message settlement) found) (drop_note settlement found)

-- the number of a quote that was found
abbrev number_of : Option StandingQuote → Option ℕ
number_of found = option_map (λ own. own.quote.number) found

module _ (date : List ℕ) (row : DealerRow) where
  -- what is noted with the event that a fact says came
  abbrev said : DealerBook → DealerFact → List DealerFact → Notes
  said book (Came moment bytes used) later =
      verdict_notes (dealer_verdict date row book moment bytes) (settlement_in later)
  said book (Shown ask moment) later = None ∷ []
  said book (Told request close moment) later = told_notes book close (closable book request)
  said book (Dropped last moment) later = drop_notes (settlement_in later) (quote_to_drop book last)
  said book fact later = []

  -- the same of facts one by one
  abbrev notes_in : DealerBook → List DealerFact → Notes
  notes_in book [] = []
  notes_in book (fact ∷ facts) = said book fact facts ++ notes_in (book_after book fact) facts

  -- what is noted with an event
  abbrev event_notes : DealerBook → DealerEvent → Notes
  event_notes book event = notes_with (event_message date row book event) (event_note date row book event)

  -- the facts that these events add
  abbrev facts_from : DeskState → List DealerEvent → List DealerFact
  facts_from desk [] = []
  facts_from desk (event ∷ events) =
      event_facts date row (book_of desk.facts) event ++ facts_from (after_event date row desk event) events

  -- no event begins with the settlement of a word
  begins : (desk : DeskState) (events : List DealerEvent) → settlement_in (facts_from desk events) ≡ None
  unfolding event_facts
  begins desk [] = refl
  begins desk (event.Received moment bytes settlement ∷ events) = refl
  begins desk (event.Shown room ask moment ∷ events) = refl
  begins desk (event.Told request close moment ∷ events) =
      by_due (closable (book_of desk.facts) request)
      (begins (after_event date row desk (event.Told request close moment)) events)
    where
      rest : List DealerFact
      rest = facts_from (after_event date row desk (event.Told request close moment)) events

      by_due : (found : Option StandingRequest) → settlement_in rest ≡ None
          → settlement_in ((if is_some found then Told request close moment ∷ [] else []) ++ rest) ≡ None
      by_due None begun = begun
      by_due (Some request) begun = refl
  begins desk (event.Drop last moment settlement ∷ events) = refl

  module _ (later : List DealerFact) (begun : settlement_in later ≡ None) where
    -- A message of the dealer's own: the word that it asks is settled as the fact behind it says.

    own_same : (v : DealerVerdict) (settlement : Option Settled)
        → verdict_notes v (settlement_in (verdict_facts v settlement ++ later)) ≡ verdict_notes v settlement
    own_same (verdict.QuoteAccepted request id quote None) settlement = refl
    own_same (verdict.QuoteAccepted request id quote (Some replaced)) (Some settled.Withdrawn) = refl
    own_same (verdict.QuoteAccepted request id quote (Some replaced)) (Some settled.Lifted) = refl
    own_same (verdict.QuoteAccepted request id quote (Some replaced)) None =
        ap (verdict_notes (verdict.QuoteAccepted request id quote (Some replaced))) begun
    own_same (verdict.CancelAccepted id quote request) (Some settled.Withdrawn) = refl
    own_same (verdict.CancelAccepted id quote request) (Some settled.Lifted) = refl
    own_same (verdict.CancelAccepted id quote request) None =
        ap (verdict_notes (verdict.CancelAccepted id quote request)) begun
    own_same (verdict.DeclineAccepted request number) settlement = refl
    own_same other settlement = refl

    own_behind : (book : DealerBook) (v : DealerVerdict) (settlement : Option Settled)
        → notes_in book (verdict_facts v settlement ++ later)
        ≡ notes_in (fold book_after book (verdict_facts v settlement)) later
    own_behind book (verdict.QuoteAccepted request id quote None) settlement = refl
    own_behind book (verdict.QuoteAccepted request id quote (Some replaced)) (Some settled.Withdrawn) = refl
    own_behind book (verdict.QuoteAccepted request id quote (Some replaced)) (Some settled.Lifted) = refl
    own_behind book (verdict.QuoteAccepted request id quote (Some replaced)) None = refl
    own_behind book (verdict.CancelAccepted id quote request) (Some settled.Withdrawn) = refl
    own_behind book (verdict.CancelAccepted id quote request) (Some settled.Lifted) = refl
    own_behind book (verdict.CancelAccepted id quote request) None = refl
    own_behind book (verdict.DeclineAccepted request number) settlement = refl
    own_behind book other settlement = refl

    -- A drop.

    drop_same : (book : DealerBook) (found : Option StandingQuote) (settlement : Option Settled)
        → drop_notes (settlement_in (settled_facts (number_of found) by.Cancel settlement ++ later)) found
        ++ notes_in book (settled_facts (number_of found) by.Cancel settlement ++ later)
        ≡ drop_notes settlement found
        ++ notes_in (fold book_after book (settled_facts (number_of found) by.Cancel settlement)) later
    drop_same book None settlement = refl
    drop_same book (Some own) (Some settled.Withdrawn) = refl
    drop_same book (Some own) (Some settled.Lifted) = refl
    drop_same book (Some own) None = ap (λ (s : Option Settled). drop_notes s (Some own) ++ notes_in book later) begun

    -- any event
    one_event : (book : DealerBook) (more : DealerEvent)
        → notes_in book (event_facts date row book more ++ later)
        ≡ event_notes book more ++ notes_in (fold book_after book (event_facts date row book more)) later
    unfolding event_facts event_message event_note
    one_event book (event.Received moment bytes settlement) =
        let v = dealer_verdict date row book moment bytes in
        ap (λ (ns : Notes). ns ++ notes_in (book_after book (Came moment bytes (uses_number v))) (verdict_facts v settlement ++ later)) (own_same v settlement)
        ∙ ap (λ (ns : Notes). verdict_notes v settlement ++ ns) (own_behind (book_after book (Came moment bytes (uses_number v))) v settlement)
    one_event book (event.Shown room ask moment) = refl
    one_event book (event.Told request close moment) = by_due (closable book request) refl
      where
        by_due : (found : Option StandingRequest) → closable book request ≡ found
            → notes_in book ((if is_some found then Told request close moment ∷ [] else []) ++ later)
            ≡ told_notes book close found ++ notes_in (fold book_after book (if is_some found then Told request close moment ∷ [] else [])) later
        by_due None is = refl
        by_due (Some due) is =
            ap (λ (found : Option StandingRequest). told_notes book close found ++ notes_in (book_after book (Told request close moment)) later) is
    one_event book (event.Drop last moment settlement) =
        drop_same (book_after book (Dropped last moment)) (quote_to_drop book last) settlement

  -- Events one by one.

  by_facts : (desk : DeskState) (events : List DealerEvent)
      → notes_from date row desk events ≡ notes_in (book_of desk.facts) (facts_from desk events)
  by_facts desk [] = refl
  by_facts desk (more ∷ events) =
      let after = after_event date row desk more in
      let added = event_facts date row (book_of desk.facts) more in
      ap (λ (ns : Notes). event_notes (book_of desk.facts) more ++ ns) (by_facts after events)
      ∙ ap (λ (b : DealerBook). event_notes (book_of desk.facts) more ++ notes_in b (facts_from after events)) (books_push desk.facts added)
      ∙ sym (one_event (facts_from after events) (begins after events) (book_of desk.facts) more)

  facts_behind : (desk : DeskState) (events : List DealerEvent)
      → (fold (after_event date row) desk events).facts ≡ desk.facts ++ facts_from desk events
  facts_behind desk [] = sym (append-nil desk.facts)
  facts_behind desk (more ∷ events) =
      let added = event_facts date row (book_of desk.facts) more in
      facts_behind (after_event date row desk more) events
      ∙ append_assoc desk.facts added (facts_from (after_event date row desk more) events)

  noted : (events : List DealerEvent) → dealer_notes date row events ≡ notes_in (book_of []) (desk_after date row events).facts
  unfolding desk_after
  noted events = by_facts no_facts events ∙ ap (notes_in (book_of [])) (sym (facts_behind no_facts events))

  pub same_notes : (events others : List DealerEvent)
      → (desk_after date row events).facts ≡ (desk_after date row others).facts
      → dealer_notes date row events ≡ dealer_notes date row others
  same_notes events others same = noted events ∙ (ap (notes_in (book_of [])) same ∙ sym (noted others))

  -- What is noted with one event more.

  from_push : (desk : DeskState) (events : List DealerEvent) (more : DealerEvent)
      → notes_from date row desk (events ++ more ∷ [])
      ≡ notes_from date row desk events ++ event_notes (book_of (fold (after_event date row) desk events).facts) more
  from_push desk [] more = append-nil (event_notes (book_of desk.facts) more)
  from_push desk (one ∷ events) more =
      let after = after_event date row desk one in
      ap (λ (ns : Notes). event_notes (book_of desk.facts) one ++ ns) (from_push after events more)
      ∙ sym (append_assoc (event_notes (book_of desk.facts) one) (notes_from date row after events) (event_notes (book_of (fold (after_event date row) after events).facts) more))

  pub notes_push : (events : List DealerEvent) (more : DealerEvent)
      → dealer_notes date row (events ++ more ∷ [])
      ≡ dealer_notes date row events
      ++ notes_with (event_message date row (book_of (desk_after date row events).facts) more)
      (event_note date row (book_of (desk_after date row events).facts) more)
  unfolding desk_after
  notes_push events more = from_push no_facts events more

  -- As many notes as messages.

  one_more : (sent : List (List ℕ)) (moment : ℕ) (message : Option OutMessage) (beside : Option DealerNote)
      → length (sent_with date row sent moment message) ≡ length sent + length (notes_with message beside)
  one_more sent moment None beside = omega arith
  one_more sent moment (Some message) beside = length-append sent (next_message date row sent moment message ∷ [])

  many : (desk : DeskState) (events : List DealerEvent)
      → length desk.sent + length (notes_from date row desk events)
      ≡ length (fold (after_event date row) desk events).sent
  many desk [] = omega arith
  many desk (more ∷ events) =
      let after = after_event date row desk more in
      let rest = many after events in
      let message = event_message date row (book_of desk.facts) more in
      let beside = event_note date row (book_of desk.facts) more in
      let here = one_more desk.sent (moment_of more) message beside in
      let both = length-append (notes_with message beside) (notes_from date row after events) in
      omega arith

  pub as_many : (events : List DealerEvent)
      → length (dealer_notes date row events) ≡ length (dealer_output date row events)
  unfolding desk_after
  as_many events = let all = many no_facts events in omega arith
