-- How one fact more changes the book of a desk. Only private functions and the laws of the desk say
-- this.
use Rattle.std.specs.Prelude.{◌≡◌, ◌≤◌, ◌<◌, ℕ, ◌+◌, Bool, ◌==◌, not, List, [], ◌∷◌, ◌++◌, filter}
use Rattle.std.specs.Prelude.{length, map, fold, slice_get, Option, Some, None, if◌then◌else◌}
use Rattle.std.specs.Option.{option_or}
use Rattle.investor_desk.specs.InvestorFacts.{InvestorFact, Asked, Offered, Gone, InvestorBook}
use Rattle.investor_desk.specs.InvestorFacts.{StandingRequest, used_number, closes, says_gone}
use Rattle.investor_desk.specs.InvestorFacts.{standing_request, requests_accepted, offers_shown}
use Rattle.investor_desk.specs.InvestorFacts.{request_with_id}
use Rattle.investor_desk.specs.declared.standing.AcceptedRequest.{AcceptedRequest}
use Rattle.investor_desk.specs.declared.standing.RequestClose.{RequestClose}
use Rattle.investor_desk.specs.declared.standing.ShownOffer.{ShownOffer}

-- whether a fact leaves a quote on this request where it stands
abbrev pub leaves : ℕ → InvestorFact → ShownOffer → Bool
leaves number fact shown = not (says_gone number shown.number fact)

-- the quote that a fact shows on this request
abbrev pub offered_on : ℕ → InvestorFact → List ShownOffer
offered_on number (Offered shown) = if shown.request == number then shown ∷ [] else []
offered_on number fact = []

-- a request after one fact more
abbrev pub request_after : InvestorFact → StandingRequest → StandingRequest
request_after fact own = record {
  request = own.request;
  close = option_or own.close (closes own.request.number fact);
  standing =
      filter (leaves own.request.number fact) own.standing ++ offered_on own.request.number fact;
}

-- the request that a fact adds
abbrev pub request_added : InvestorFact → List StandingRequest
request_added (Asked request) = standing_request request [] ∷ []
request_added fact = []

-- the quote that a fact adds
abbrev pub offer_added : InvestorFact → List ShownOffer
offer_added (Offered shown) = shown ∷ []
offer_added fact = []

-- one more where so
abbrev pub counted : Bool → ℕ → ℕ
counted so n = if so then n + 1 else n

-- the book after one fact more
unfoldable pub book_after : InvestorBook → InvestorFact → InvestorBook
book_after book fact = record {
  used = counted (used_number fact) book.used;
  requests = map (request_after fact) book.requests ++ request_added fact;
  offers = book.offers ++ offer_added fact;
}

-- the book after some facts more
abbrev pub book_with : InvestorBook → List InvestorFact → InvestorBook
book_with book facts = fold book_after book facts

-- a request that is closed so, unless it was closed before
abbrev pub closed_by : RequestClose → StandingRequest → StandingRequest
closed_by close own = record own { close = option_or own.close (Some close) }

-- quotes without the one with this number, where there is one
abbrev pub quotes_without : Option ℕ → List ShownOffer → List ShownOffer
quotes_without None standing = standing
quotes_without (Some quote) standing = filter (λ shown. not (quote == shown.number)) standing

-- a request on which this quote does not stand any more, where there is one
abbrev pub without_some : Option ℕ → StandingRequest → StandingRequest
without_some quote own = record own { standing = quotes_without quote own.standing }

-- a request on which a quote more stands
abbrev pub with_offer : ShownOffer → StandingRequest → StandingRequest
with_offer shown own = record own { standing = own.standing ++ shown ∷ [] }

-- the request with this number, changed
abbrev pub at_number : ℕ → (StandingRequest → StandingRequest) → StandingRequest → StandingRequest
at_number number change own = if number == own.request.number then change own else own

-- that a quote of this request is gone, where there is one
abbrev pub gone_of : ℕ → Option ℕ → List InvestorFact
gone_of number None = []
gone_of number (Some quote) = Gone number quote ∷ []

-- a number of an accepted request, where so many were accepted
pub record IsAccepted (accepted number : ℕ) : Type 0 where
  pub from_first : 1 ≤ number
  pub to_last : number ≤ accepted

-- a request that can be put into a book
pub record FitsBook (book : InvestorBook) (request : AcceptedRequest) : Type 0 where
  pub number_is : request.number ≡ requests_accepted book + 1
  pub id_is_new : request_with_id book request.id ≡ None
  pub few : requests_accepted book < 4294967295

-- a quote that can be put into a book
pub record FitsOffer (book : InvestorBook) (shown : ShownOffer) : Type 0 where
  pub number_is : shown.number ≡ offers_shown book + 1
  pub accepted : IsAccepted (requests_accepted book) shown.request

-- What holds of every book: requests and quotes are numbered from 1, and each quote answers a
-- request of the book.
pub record IsSound (requests : List StandingRequest) (offers : List ShownOffer) : Type 0 where
  pub requests_numbered : (k : ℕ) (own : StandingRequest) → slice_get requests k ≡ Some own
      → own.request.number ≡ k + 1
  pub offers_numbered : (k : ℕ) (shown : ShownOffer) → slice_get offers k ≡ Some shown
      → shown.number ≡ k + 1
  pub offers_answer : (k : ℕ) (shown : ShownOffer) → slice_get offers k ≡ Some shown
      → IsAccepted (length requests) shown.request
