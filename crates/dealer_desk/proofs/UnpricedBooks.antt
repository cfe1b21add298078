-- The book of a dealer's desk without prices, and whoever was the cover, by the facts without both.
use Rattle.std.proofs.Common.{◌≡◌, ℕ, ◌+◌, ◌==◌, Bool, List, [], ◌∷◌, map, None, option_map, refl}
use Rattle.std.specs.List.{list_any}
use Rattle.market_terms.proofs.ErasedLists.{any_map, count_map, map_cond, or_map}
use Rattle.dealer_desk.specs.DealerFacts.{DealerFact, Quoted, Shown, Told, Withdrawn, book_of}
use Rattle.dealer_desk.specs.DealerFacts.{declines, ends, finds_lifted, first_said, is_notice}
use Rattle.dealer_desk.specs.DealerFacts.{requests_from, standings, tells, used_number}
use Rattle.dealer_desk.specs.DeskLaws.{withdraws}
use Rattle.dealer_desk.specs.Unpriced.{unpriced, unpriced_book, unpriced_end, unpriced_quote}
use Rattle.dealer_desk.specs.Unpriced.{unpriced_standing}
use Rattle.dealer_desk.specs.declared.accepted.AcceptedQuote.{AcceptedQuote}
use Rattle.dealer_desk.specs.declared.standing.QuoteEnd.TheVariants as end

-- What one fact says.

used_same : (stay : Bool) (fact : DealerFact) → used_number (unpriced stay fact) ≡ used_number fact
used_same stay (Told request close moment) = refl
used_same stay fact = refl

notice_same : (stay : Bool) (fact : DealerFact) → is_notice (unpriced stay fact) ≡ is_notice fact
notice_same stay (Told request close moment) = refl
notice_same stay fact = refl

tells_same : (stay : Bool) (number : ℕ) (fact : DealerFact)
    → tells number (unpriced stay fact) ≡ tells number fact
tells_same stay number (Told request close moment) = refl
tells_same stay number fact = refl

declines_same : (stay : Bool) (number : ℕ) (fact : DealerFact)
    → declines number (unpriced stay fact) ≡ declines number fact
declines_same stay number (Told request close moment) = refl
declines_same stay number fact = refl

lifted_same : (stay : Bool) (number : ℕ) (fact : DealerFact)
    → finds_lifted number (unpriced stay fact) ≡ finds_lifted number fact
lifted_same stay number (Told request close moment) = refl
lifted_same stay number fact = refl

withdraws_same : (stay : Bool) (number : ℕ) (fact : DealerFact)
    → withdraws number (unpriced stay fact) ≡ withdraws number fact
withdraws_same stay number (Told request close moment) = refl
withdraws_same stay number fact = refl

ends_same : (stay : Bool) (quote : AcceptedQuote) (fact : DealerFact)
    → ends (unpriced_quote quote) (unpriced stay fact) ≡ option_map unpriced_end (ends quote fact)
ends_same stay quote (Withdrawn number how) =
    map_cond unpriced_end (number == quote.number) (end.Withdrawn how) None
ends_same stay quote (Told request close moment) =
    map_cond unpriced_end (request == quote.request) (end.Closed close) None
ends_same stay quote fact = refl

any_same : (stay : Bool) (says : DealerFact → Bool)
    → ((fact : DealerFact) → says (unpriced stay fact) ≡ says fact) → (facts : List DealerFact)
    → list_any says (map (unpriced stay) facts) ≡ list_any says facts
any_same stay says same facts = simp (any_map, same)

pub withdrawn_same : (stay : Bool) (quote : ℕ) (facts : List DealerFact)
    → list_any (withdraws quote) (map (unpriced stay) facts) ≡ list_any (withdraws quote) facts
withdrawn_same stay quote facts = any_same stay (withdraws quote) (withdraws_same stay quote) facts

-- The book.

end_same : (stay : Bool) (quote : AcceptedQuote) (later : List DealerFact)
    → first_said (ends (unpriced_quote quote)) (map (unpriced stay) later)
    ≡ option_map unpriced_end (first_said (ends quote) later)
end_same stay quote [] = refl
end_same stay quote (fact ∷ later) =
    rw (ends_same stay quote fact, end_same stay quote later)
    (or_map unpriced_end (ends quote fact) (first_said (ends quote) later))

requests_same : (stay : Bool) (number : ℕ) (facts : List DealerFact)
    → requests_from number (map (unpriced stay) facts) ≡ requests_from number facts
requests_same stay number [] = refl
requests_same stay number (Shown ask moment ∷ later) =
    rw (
      any_same stay (declines number) (declines_same stay number) later,
      any_same stay (tells number) (tells_same stay number) later,
      requests_same stay (number + 1) later,
    )
requests_same stay number (fact ∷ later) = requests_same stay number later

standings_same : (stay : Bool) (facts : List DealerFact)
    → standings (map (unpriced stay) facts) ≡ map unpriced_standing (standings facts)
standings_same stay [] = refl
standings_same stay (Quoted quote ∷ later) =
    rw (
      any_same stay (finds_lifted quote.number) (lifted_same stay quote.number) later,
      end_same stay quote later,
      standings_same stay later,
    )
standings_same stay (fact ∷ later) = standings_same stay later

-- the book by the facts without prices is the book without prices
pub book_same : (stay : Bool) (facts : List DealerFact)
    → book_of (map (unpriced stay) facts) ≡ unpriced_book (book_of facts)
book_same stay facts =
    simp (count_map, used_same, notice_same, requests_same stay 1 facts, standings_same stay facts)
