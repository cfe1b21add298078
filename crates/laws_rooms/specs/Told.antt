-- What an investor was told of a quote on its request.
use Rattle.std.specs.Prelude.{◌≡◌, ◌⊎◌, ℕ, List, Some}
use Rattle.market_terms.specs.declared.rooms.Offer.{Offer}
use Rattle.venue_rows.specs.Rows.{Configuration, dealer_numbered}
use Rattle.venue_rows.specs.declared.dealer_rows.DealerRow.{DealerRow}
use Rattle.investor_desk.specs.InvestorFacts.{Closed, InvestorFact, Offered}
use Rattle.investor_desk.specs.declared.standing.RequestClose.{RequestClose}
use Rattle.request_room.specs.declared.quotes.PostedQuote.{PostedQuote}
use Rattle.step_replay.specs.Lists.{In}

-- An investor with these facts was shown this offer on its request, under a number of its own.
pub record WasShown (facts : List InvestorFact) (request : ℕ) (offer : Offer) : Type 0 where
  pub number : ℕ
  pub there : In (Offered (record { number = number; request = request; offer = offer })) facts

-- Its request was closed.
pub record WasClosed (facts : List InvestorFact) (request : ℕ) : Type 0 where
  pub how : RequestClose
  pub there : In (Closed request how) facts

-- It was shown the offer, or its request was closed.
abbrev pub IsTold : List InvestorFact → ℕ → Offer → Type 0
IsTold facts request offer = WasShown facts request offer ⊎ WasClosed facts request

-- An offer is what a quote in a room is to the investor: its dealer by its name, its word, its price and
-- its valid-until.
pub record IsItsOffer (config : Configuration) (quote : PostedQuote) (offer : Offer) : Type 0 where
  pub row : DealerRow
  pub is_dealer : dealer_numbered config quote.dealer ≡ Some row
  pub name : offer.dealer ≡ row.name
  pub word : offer.word ≡ quote.word
  pub price : offer.price ≡ quote.price
  pub valid_until : offer.valid_until ≡ quote.valid_until

-- A quote in a room came to its investor.
pub record CameToIt (config : Configuration) (facts : List InvestorFact) (request : ℕ)
    (quote : PostedQuote) : Type 0 where
  pub offer : Offer
  pub is_its : IsItsOffer config quote offer
  pub told : IsTold facts request offer
