-- How the request of a room stands at the desk of its investor.
use Rattle.std.specs.Prelude.{◌≡◌, ℕ, List, Some}
use Rattle.investor_desk.specs.InvestorFacts.{InvestorFact, StandingRequest, book_of, request_numbered}
use Rattle.investor_desk.specs.declared.standing.RequestClose.{RequestClose}

-- At a desk with these facts the request with this number was accepted, and it is closed.
pub record IsClosedThere (facts : List InvestorFact) (request : ℕ) : Type 0 where
  pub own : StandingRequest
  pub was_accepted : request_numbered (book_of facts) request ≡ Some own
  pub how : RequestClose
  pub is_closed : own.close ≡ Some how
