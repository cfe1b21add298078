-- How the code cuts the checks of a request, what it notes, and what it writes at once. Only
-- private functions say this.
use Rattle.std.specs.Prelude.{◌≡◌, ◌≤◌, ℕ, ◌+◌, Bool, true, ◌&&◌, ◌==◌, not, nat_lt, nat_le, List}
use Rattle.std.specs.Prelude.{[], ◌∷◌, ◌++◌, length, Option, None, is_none, is_some}
use Rattle.std.specs.Prelude.{if◌then◌else◌}
use Rattle.std.specs.List.{list_any}
use Rattle.std.specs.Option.{option_to_list}
use Rattle.venue_rows.specs.Texts.{same_text}
use Rattle.market_terms.specs.Dealers.{are_distinct}
use Rattle.market_terms.specs.declared.rooms.TheConstants.AskedDealers.{MOST}
use Rattle.quote_messages.specs.declared.requests.QuoteRequest.{QuoteRequest}
use Rattle.investor_desk.specs.InvestorFacts.{Asked, Offered, Gone, Closed, InvestorBook, book_of}
use Rattle.investor_desk.specs.InvestorFacts.{request_with_id, requests_accepted, requests_open}
use Rattle.investor_desk.specs.InvestorRules.{InvestorMarket, bond_with_id, is_unknown_dealer}
use Rattle.investor_desk.specs.InvestorRules.{dealer_numbers}
use Rattle.investor_desk.specs.InvestorDesk.{DeskEvents}
use Rattle.investor_desk.specs.InvestorOutput.{desk_after, investor_notes, investor_output}
use Rattle.investor_desk.specs.InvestorOutput.{uses_number, verdict_message, written_from}
use Rattle.investor_desk.specs.BookChanges.{book_after, book_with, gone_of, IsAccepted, FitsBook}
use Rattle.investor_desk.specs.BookChanges.{FitsOffer}
use Rattle.investor_desk.specs.declared.events.InvestorEvent.{InvestorEvent}
use Rattle.quote_messages.specs.declared.out_messages.OutMessage.{OutMessage}
use Rattle.investor_desk.specs.declared.notes.InvestorNote.{InvestorNote}
use Rattle.investor_desk.specs.declared.refusals.RequestRefusal.{RequestRefusal}
use Rattle.investor_desk.specs.declared.refusals.RequestRefusal.TheVariants as refusal
use Rattle.investor_desk.specs.declared.verdicts.InvestorVerdict.{InvestorVerdict}
use Rattle.investor_desk.specs.declared.verdicts.InvestorVerdict.TheVariants as verdict
use Rattle.investor_desk.specs.declared.outcomes.Outcome.{Outcome}
use Rattle.investor_desk.specs.declared.outcomes.Note.{Note}
use Rattle.investor_desk.specs.declared.outcomes.Note.TheVariants as note

-- what a request says of itself, of its bond and of its size
abbrev pub terms_checks : InvestorMarket → InvestorBook → QuoteRequest
    → List (Bool × RequestRefusal)
terms_checks market book request =
    (is_some (request_with_id book request.id), refusal.DuplicateRequest)
    ∷ (is_none (bond_with_id market request.bond), refusal.UnknownBond)
    ∷ (nat_lt market.row.quantity request.quantity, refusal.QuantityExceeded)
    ∷ []

-- whom it names
abbrev pub dealer_checks : InvestorMarket → List (List ℕ) → List (Bool × RequestRefusal)
dealer_checks market names =
    (length names == 0, refusal.NoDealer)
    ∷ (list_any (is_unknown_dealer market) names, refusal.UnknownDealer)
    ∷ (not (are_distinct (dealer_numbers market names)), refusal.DealerTwice)
    ∷ (nat_lt MOST (length names), refusal.TooManyDealers)
    ∷ []

-- whether no name stands twice
abbrev pub are_different : List (List ℕ) → Bool
are_different [] = true
are_different (name ∷ later) =
    not (list_any (λ other. same_text other name) later) && are_different later

-- what its deadline and the investor's day leave room for
abbrev pub day_checks : InvestorMarket → InvestorBook → ℕ → QuoteRequest
    → List (Bool × RequestRefusal)
day_checks market book moment request =
    (nat_le request.deadline moment, refusal.DeadlinePassed)
    ∷ (nat_le market.row.requests (requests_accepted book), refusal.RequestsUsedUp)
    ∷ (nat_le market.row.open_limit (requests_open book), refusal.TooManyOpen)
    ∷ []

-- the book after what is noted
abbrev pub noted : InvestorBook → Note → InvestorBook
noted book note.Nothing = book
noted book note.Number = record book { used = book.used + 1 }
noted book (note.Asked request) = book_after (record book { used = book.used + 1 }) (Asked request)
noted book (note.Shown replaced shown) =
    book_with book (gone_of shown.request replaced ++ Offered shown ∷ [])
noted book (note.Gone request quote) = book_after book (Gone request quote)
noted book (note.Closed request close) = book_after book (Closed request close)

-- what can be noted
abbrev pub IsLawful : InvestorBook → Note → Type 0
IsLawful book note.Nothing = Unit {0}
IsLawful book note.Number = Unit {0}
IsLawful book (note.Asked request) = FitsBook book request
IsLawful book (note.Shown replaced shown) = FitsOffer book shown
IsLawful book (note.Gone request quote) = IsAccepted (requests_accepted book) request
IsLawful book (note.Closed request close) = IsAccepted (requests_accepted book) request

-- What a desk keeps beside its events: their messages, what is noted beside these, and the index of
-- their facts.
pub record IsDesk (market : InvestorMarket) (events : List InvestorEvent) (sent : List (List ℕ))
    (notes : List (Option InvestorNote)) (book : InvestorBook) : Type 0 where
  pub sent_are : sent ≡ (desk_after market events).sent
  pub notes_are : notes ≡ investor_notes market events
  pub book_is : book ≡ book_of (desk_after market events).facts
  pub used_least : book.used ≤ length events

-- the messages of an outcome, in their order
abbrev pub messages_of : Outcome → List OutMessage
messages_of outcome = option_to_list outcome.gone ++ option_to_list outcome.message

-- what is noted, with the one message that is sent
abbrev pub sends : Note → Option OutMessage → Outcome
sends note message = record { note = note; gone = None; message = message }

-- messages as the next ones that the investor is sent
abbrev pub next_written : DeskEvents → ℕ → List OutMessage → List (List ℕ)
next_written desk moment messages =
    written_from desk.market (length (investor_output desk.market desk.events) + 1) moment messages

-- what is noted of a verdict: the request that it accepts, or else whether a number was used up
abbrev pub own_note : InvestorVerdict → Note
own_note (verdict.RequestAccepted id request) = note.Asked request
own_note other = if uses_number other then note.Number else note.Nothing

-- what a verdict leads to
abbrev pub received_outcome : InvestorVerdict → Outcome
received_outcome given = sends (own_note given) (verdict_message given)
