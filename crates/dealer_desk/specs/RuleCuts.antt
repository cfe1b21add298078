-- How the code cuts the checks of a quote and what it makes of a verdict. Only private functions
-- say this.
use Rattle.std.specs.Prelude.{◌≡◌, ◌≤◌, ℕ, Bool, true, false, ◌||◌, not, nat_lt, nat_le, List, []}
use Rattle.std.specs.Prelude.{◌∷◌, Option, Some, None, is_none, is_some, fold}
use Rattle.venue_rows.specs.Texts.{same_text}
use Rattle.venue_rows.specs.declared.dealer_rows.DealerRow.{DealerRow}
use Rattle.market_terms.specs.Checks.{is_not_after}
use Rattle.market_terms.specs.declared.asks.Ask.{Ask}
use Rattle.quote_messages.specs.declared.quotes.Quote.{Quote}
use Rattle.dealer_desk.specs.DealerFacts.{DealerFact, Quoted, Withdrawn, Late, Declined, DealerBook}
use Rattle.dealer_desk.specs.DealerFacts.{book_of, quotes_accepted, requests_shown, quote_with_id}
use Rattle.dealer_desk.specs.DealerFacts.{has_lifted_quote}
use Rattle.dealer_desk.specs.DealerRules.{is_outside, price_for, sizes_differ, differs_from}
use Rattle.dealer_desk.specs.DealerRules.{exposure_with}
use Rattle.dealer_desk.specs.BookChanges.{FitsBook, IsLiveNumber}
use Rattle.dealer_desk.specs.DealerTable.{IndexView, with_fact}
use Rattle.dealer_desk.specs.declared.standing.StandingRequest.{StandingRequest}
use Rattle.dealer_desk.specs.DealerOutput.{desk_after, rooms_of}
use Rattle.dealer_desk.specs.DealerNotes.{dealer_notes}
use Rattle.dealer_desk.specs.declared.table.RequestRow.{RequestRow}
use Rattle.dealer_desk.specs.declared.accepted.AcceptedQuote.{AcceptedQuote}
use Rattle.dealer_desk.specs.declared.notes.DealerNote.{DealerNote}
use Rattle.dealer_desk.specs.declared.refusals.QuoteRefusal.{QuoteRefusal}
use Rattle.dealer_desk.specs.declared.refusals.QuoteRefusal.TheVariants as no_quote
use Rattle.dealer_desk.specs.declared.refusals.DeclineRefusal.{DeclineRefusal}
use Rattle.dealer_desk.specs.declared.refusals.DeclineRefusal.TheVariants as no_decline
use Rattle.dealer_desk.specs.declared.outcomes.Note.{Note}
use Rattle.dealer_desk.specs.declared.outcomes.Note.TheVariants as note
use Rattle.dealer_desk.specs.declared.events.DealerEvent.{DealerEvent}
use Rattle.dealer_desk.specs.declared.standing.Withdrawal.TheVariants as by
use Rattle.quote_word.specs.declared.settled.Settled.{Settled}
use Rattle.quote_word.specs.declared.settled.Settled.TheVariants as settled
use Rattle.dealer_desk.specs.declared.verdicts.DealerVerdict.{DealerVerdict}
use Rattle.dealer_desk.specs.declared.verdicts.DealerVerdict.TheVariants as verdict

-- whether a request takes quotes of this dealer at all

abbrev pub standing_checks : DealerBook → StandingRequest → List (Bool × QuoteRefusal)
standing_checks book shown =
    (shown.is_declined, no_quote.Declined)
    ∷ (shown.is_told || has_lifted_quote book shown.number, no_quote.Closed)
    ∷ []

-- the same, by what the table keeps of the request
abbrev pub row_checks : RequestRow → List (Bool × QuoteRefusal)
row_checks row =
    (row.request.is_declined, no_quote.Declined)
    ∷ (row.request.is_told || row.has_lifted, no_quote.Closed)
    ∷ []

-- whether the request can be declined, by what the table keeps of it
abbrev pub decline_row_checks : RequestRow → List (Bool × DeclineRefusal)
decline_row_checks row =
    (row.request.is_declined, no_decline.Declined)
    ∷ (row.request.is_told, no_decline.Closed)
    ∷ (is_some row.live, no_decline.LiveQuote)
    ∷ []

-- what a quote says, beside what is asked for
abbrev pub terms_checks : ℕ → Quote → Ask → List (Bool × QuoteRefusal)
terms_checks moment quote ask =
    (nat_le ask.deadline moment, no_quote.DeadlinePassed)
    ∷ (not (same_text quote.bond ask.bond), no_quote.OtherBond)
    ∷ (is_none (price_for ask quote), no_quote.InvalidPrice)
    ∷ (is_outside ask.band (price_for ask quote), no_quote.OutsideBand)
    ∷ (sizes_differ ask.quantity quote, no_quote.OtherQuantity)
    ∷ (differs_from 1 quote.quote_type, no_quote.NotTradeable)
    ∷ []

-- what the dealer's day leaves room for
abbrev pub day_checks : DealerRow → DealerBook → ℕ → Quote → StandingRequest
    → List (Bool × QuoteRefusal)
day_checks row book moment quote shown =
    (is_some (quote_with_id book quote.id), no_quote.DuplicateQuote)
    ∷ (is_not_after moment quote.valid_until, no_quote.ValidityPassed)
    ∷ (nat_le row.quotes (quotes_accepted book), no_quote.QuotesUsedUp)
    ∷ (nat_lt row.exposure (exposure_with book shown), no_quote.ExposureExceeded)
    ∷ []

-- what the index notes of a verdict, with the settlement of the word that it asks
abbrev pub note_of_quote : AcceptedQuote → Option ℕ → Option Settled → Note
note_of_quote quote None settlement = note.Accepted quote
note_of_quote quote (Some replaced) (Some settled.Withdrawn) = note.Replaced replaced quote
note_of_quote quote (Some replaced) (Some settled.Lifted) = note.Late replaced
note_of_quote quote (Some replaced) None = note.Number

-- the same of a cancel
abbrev pub note_of_cancel : ℕ → Option Settled → Note
note_of_cancel quote (Some settled.Withdrawn) = note.Cancelled quote
note_of_cancel quote (Some settled.Lifted) = note.Late quote
note_of_cancel quote None = note.Number

-- the same of any verdict
abbrev pub note_of : DealerVerdict → Option Settled → Note
note_of verdict.Dropped settlement = note.Nothing
note_of (verdict.OutOfSequence reject) settlement = note.Nothing
note_of (verdict.Rejected reject) settlement = note.Number
note_of (verdict.QuoteRefused request id refusal) settlement = note.Number
note_of (verdict.CancelRefused id refusal) settlement = note.Number
note_of (verdict.DeclineRefused request refusal) settlement = note.Number
note_of (verdict.QuoteAccepted request id quote replaced) settlement =
    note_of_quote quote replaced settlement
note_of (verdict.CancelAccepted id quote request) settlement = note_of_cancel quote settlement
note_of (verdict.DropsFollow last) settlement = note.Number
note_of (verdict.DeclineAccepted request number) settlement = note.Declined number

-- whether a message used up its number
abbrev pub note_uses : Note → Bool
note_uses note.Nothing = false
note_uses other = true

-- the facts that a note adds, beside that a message came
abbrev pub note_facts : Note → List DealerFact
note_facts note.Nothing = []
note_facts note.Number = []
note_facts (note.Accepted quote) = Quoted quote ∷ []
note_facts (note.Replaced replaced quote) = Withdrawn replaced by.Replacement ∷ Quoted quote ∷ []
note_facts (note.Cancelled quote) = Withdrawn quote by.Cancel ∷ []
note_facts (note.Late quote) = Late quote ∷ []
note_facts (note.Declined request) = Declined request ∷ []

-- and so of what is noted of it
abbrev pub IsLawfulNote : DealerBook → Note → Type 0
IsLawfulNote book (note.Accepted quote) = FitsBook book quote None
IsLawfulNote book (note.Replaced replaced quote) = FitsBook book quote (Some replaced)
IsLawfulNote book (note.Cancelled quote) = IsLiveNumber book.quotes quote
IsLawfulNote book (note.Late quote) = IsLiveNumber book.quotes quote
IsLawfulNote book (note.Declined request) = (1 ≤ request) × (request ≤ requests_shown book)
IsLawfulNote book other = Unit {0}

-- an index after some facts more, of which none shows a request
abbrev pub with_facts : IndexView → List DealerFact → IndexView
with_facts index facts = fold with_fact index facts

-- What a desk keeps beside its events: their messages, what is noted of these, and the index of
-- their facts and rooms.
pub record IsDesk (date : List ℕ) (row : DealerRow) (events : List DealerEvent)
    (sent : List (List ℕ)) (notes : List (Option DealerNote)) (index : IndexView) : Type 0 where
  pub sent_are : sent ≡ (desk_after date row events).sent
  pub notes_are : notes ≡ dealer_notes date row events
  pub book_is : index.book ≡ book_of (desk_after date row events).facts
  pub rooms_are : index.rooms ≡ rooms_of events
