-- What the laws of a desk say of the words that were asked, and of what its messages leave to be
-- done.
use Rattle.std.specs.Prelude.{ℕ, ◌≤◌, Bool, true, false, ◌&&◌, ◌==◌, Option, Some, None}
use Rattle.venue_rows.specs.declared.dealer_rows.DealerRow.{DealerRow}
use Rattle.market_terms.specs.declared.duties.Duty.{Duty}
use Rattle.market_terms.specs.declared.duties.Duty.TheVariants as duty
use Rattle.quote_word.specs.declared.settled.Settled.{Settled}
use Rattle.quote_word.specs.declared.settled.Settled.TheVariants as settled
use Rattle.dealer_desk.specs.DealerFacts.{DealerFact, Withdrawn}
use Rattle.dealer_desk.specs.declared.verdicts.DealerVerdict.{DealerVerdict}
use Rattle.dealer_desk.specs.declared.verdicts.DealerVerdict.TheVariants as verdict

-- the quote that is posted, or taken out of its room, is one of the day's
abbrev pub IsOfDay : DealerRow → Duty → Type 0
IsOfDay row (duty.Post room quote price valid_until moment) = (1 ≤ quote) × (quote ≤ row.quotes)
IsOfDay row (duty.Unpost room quote moment) = (1 ≤ quote) × (quote ≤ row.quotes)
IsOfDay row other = Unit {0}

-- the request that an accepted quote, cancel or decline means
abbrev pub request_meant : DealerVerdict → Option ℕ
request_meant (verdict.QuoteAccepted request id quote replaced) = Some quote.request
request_meant (verdict.CancelAccepted id quote request) = Some request
request_meant (verdict.DeclineAccepted request number) = Some number
request_meant other = None

-- whether a fact withdraws this quote
abbrev pub withdraws : ℕ → DealerFact → Bool
withdraws number (Withdrawn quote how) = quote == number
withdraws number fact = false

-- whether a word was found lifted
abbrev pub is_lifted : Settled → Bool
is_lifted settled.Lifted = true
is_lifted settled.Withdrawn = false

-- whether it is withdrawn
abbrev pub is_taken_back : Settled → Bool
is_taken_back settled.Lifted = false
is_taken_back settled.Withdrawn = true

-- whether it is the word of this quote that was asked and found lifted
abbrev pub says_lifted : ℕ → (ℕ × Settled) → Bool
says_lifted number word = is_lifted word.1 && (word.0 == number)

-- whether it is the word of this quote that was asked and is withdrawn
abbrev pub says_withdrawn : ℕ → (ℕ × Settled) → Bool
says_withdrawn number word = is_taken_back word.1 && (word.0 == number)
