-- The quote that has a word is one of its dealer's day.
use Rattle.std.proofs.Common.{◌≡◌, ◌≤◌, ℕ, zero, suc, ◌+◌, ◌-◌, Bool, true, false, ◌&&◌, nat_le}
use Rattle.std.proofs.Common.{nat_lt, List, [], ◌∷◌, Some, if◌then◌else◌, refl, ap, arith, sym, ◌∙◌}
use Rattle.std.proofs.Common.{subst, take}
use Rattle.std.specs.Prelude.{slice_get}
use Rattle.std.proofs.lemmas.Bool.Decides.{nat_tests}
use Rattle.venue_rows.specs.declared.dealer_rows.DealerRow.{DealerRow}
use Rattle.step_replay.specs.Actions.{QuoteRef, quote_among, quotes_of}
use Rattle.std.proofs.lemmas.List.Sums.{sum_by-cons}
use Rattle.std.proofs.lemmas.Option.{same_Some}

-- Small facts.

-- a quote of the first of some dealers
abbrev first_quote : ℕ → ℕ → QuoteRef
first_quote number word = record { dealer = number; quote = word + 1 }

-- the first quotes of a list of dealers are those of its first
quotes_first : (first : DealerRow) (rows : List DealerRow)
    → quotes_of (first ∷ rows) ≡ first.quotes + quotes_of rows
quotes_first first rows = sum_by-cons (λ (row : DealerRow). row.quotes) first rows

-- a quote by its dealer's number and its own
abbrev pub quote_at : ℕ → ℕ → QuoteRef
quote_at dealer quote = record { dealer = dealer; quote = quote }

-- The word of a quote of the day is that of this quote.
pub owner_among : (number : ℕ) (rows : List DealerRow) (place : ℕ) (row : DealerRow) (quote : ℕ)
    → slice_get rows place ≡ Some row → (nat_le 1 quote && nat_le quote row.quotes) ≡ true
    → quote_among number rows (quotes_of (take place rows) + (quote - 1))
    ≡ Some (quote_at (number + place) quote)
owner_among number [] place row quote at within = cc
owner_among number (first ∷ rows) zero row quote at within =
    let rows_are : first.quotes ≡ row.quotes =
    ap (λ (r : DealerRow). r.quotes) (same_Some first row at) in
    let least : 1 ≤ quote = grind (arith, nat_tests) in
    let most : quote ≤ row.quotes = grind (arith, nat_tests) in
    let is_first : nat_lt (0 + (quote - 1)) first.quotes ≡ true = grind (arith, nat_tests) in
    let quote_is : 0 + (quote - 1) + 1 ≡ quote = omega arith in
    let number_is : number ≡ number + 0 = omega arith in
    rw is_first (ap (λ q. Some (quote_at number q)) quote_is
    ∙ ap (λ d. Some (quote_at d quote)) number_is)
owner_among number (first ∷ rows) (suc place) row quote at within =
    let word = quotes_of (take place rows) + (quote - 1) in
    let sum : quotes_of (first ∷ take place rows) ≡ first.quotes + quotes_of (take place rows) =
    quotes_first first (take place rows) in
    let is_later : nat_lt (first.quotes + quotes_of (take place rows) + (quote - 1)) first.quotes ≡ false =
    grind (arith, nat_tests) in
    let rest : first.quotes + quotes_of (take place rows) + (quote - 1) - first.quotes ≡ word =
    omega arith in
    let number_is : number + 1 + place ≡ number + suc place = omega arith in
    ap (λ s. quote_among number (first ∷ rows) (s + (quote - 1))) sum
    ∙ rw is_later (ap (quote_among (number + 1) rows) rest
    ∙ owner_among (number + 1) rows place row quote at within
    ∙ ap (λ d. Some (quote_at d quote)) number_is)

-- A word that is of a quote: its dealer, and its place in the row.
pub record Owned (number : ℕ) (rows : List DealerRow) (word : ℕ) (hit : QuoteRef) : Type 0 where
  pub place : ℕ
  pub row : DealerRow
  pub dealer_is : hit.dealer ≡ number + place
  pub row_is : slice_get rows place ≡ Some row
  pub within : (nat_le 1 hit.quote && nat_le hit.quote row.quotes) ≡ true
  pub word_is : word ≡ quotes_of (take place rows) + (hit.quote - 1)

later_owned : (number : ℕ) (first : DealerRow) (rows : List DealerRow) (word : ℕ) (hit : QuoteRef)
    → nat_lt word first.quotes ≡ false → Owned (number + 1) rows (word - first.quotes) hit
    → Owned number (first ∷ rows) word hit
later_owned number first rows word hit test owned =
    let place = owned.place in
    let dealer : hit.dealer ≡ number + 1 + place = owned.dealer_is in
    let beyond : first.quotes ≤ word = grind (arith, nat_tests) in
    let rest : word - first.quotes ≡ quotes_of (take place rows) + (hit.quote - 1) = owned.word_is in
    let sum : quotes_of (first ∷ take place rows) ≡ first.quotes + quotes_of (take place rows) =
    quotes_first first (take place rows) in
    let dealer_too : hit.dealer ≡ number + suc place = omega arith in
    let word_too : word ≡ first.quotes + quotes_of (take place rows) + (hit.quote - 1) =
    omega arith in
    record {
      place = suc place;
      row = owned.row;
      dealer_is = dealer_too;
      row_is = owned.row_is;
      within = owned.within;
      word_is = word_too ∙ ap (λ s. s + (hit.quote - 1)) (sym sum);
    }

pub owned_by : (number : ℕ) (rows : List DealerRow) (word : ℕ) (hit : QuoteRef)
    → quote_among number rows word ≡ Some hit → Owned number rows word hit
owned_by number [] word hit is = cc
owned_by number (first ∷ rows) word hit is =
    by_test (nat_lt word first.quotes) refl
    (owned_by (number + 1) rows (word - first.quotes) hit) is
  where
    by_test : (b : Bool) → nat_lt word first.quotes ≡ b
        → (quote_among (number + 1) rows (word - first.quotes) ≡ Some hit
        → Owned (number + 1) rows (word - first.quotes) hit)
        → (if b then Some (first_quote number word)
        else quote_among (number + 1) rows (word - first.quotes)) ≡ Some hit
        → Owned number (first ∷ rows) word hit
    by_test true test later found =
        let dealer : number ≡ hit.dealer =
        ap (λ (h : QuoteRef). h.dealer) (same_Some (first_quote number word) hit found) in
        let quote : word + 1 ≡ hit.quote =
        ap (λ (h : QuoteRef). h.quote) (same_Some (first_quote number word) hit found) in
        let dealer_too : hit.dealer ≡ number + 0 = omega arith in
        let word_too : word ≡ 0 + (hit.quote - 1) = omega arith in
        record {
          place = 0;
          row = first;
          dealer_is = dealer_too;
          row_is = refl;
          within = grind (arith, nat_tests);
          word_is = word_too;
        }
    by_test false test later found =
        later_owned number first rows word hit test (later found)

pub quote_of_day : (number : ℕ) (rows : List DealerRow) (word : ℕ) (hit : QuoteRef) (place : ℕ)
    (row : DealerRow) → quote_among number rows word ≡ Some hit → slice_get rows place ≡ Some row
    → hit.dealer ≡ number + place → (nat_le 1 hit.quote && nat_le hit.quote row.quotes) ≡ true
quote_of_day number rows word hit place row is at dealer =
    let owned = owned_by number rows word hit is in
    let same : owned.place ≡ place = omega (arith, owned.dealer_is) in
    let row_is = same_Some owned.row row (sym owned.row_is ∙ ap (slice_get rows) same ∙ at) in
    subst (λ (r : DealerRow). (nat_le 1 hit.quote && nat_le hit.quote r.quotes) ≡ true) row_is
    owned.within

-- a word of the row is of a quote
pub has_owner : (number : ℕ) (rows : List DealerRow) (word : ℕ)
    → nat_lt word (quotes_of rows) ≡ true
    → (hit : QuoteRef) × (quote_among number rows word ≡ Some hit)
has_owner number [] word is = absurd (grind (arith, nat_tests))
has_owner number (first ∷ rows) word is =
    by_test (nat_lt word first.quotes) refl (has_owner (number + 1) rows (word - first.quotes))
  where
    by_test : (b : Bool) → nat_lt word first.quotes ≡ b
        → (nat_lt (word - first.quotes) (quotes_of rows) ≡ true
        → (hit : QuoteRef) × (quote_among (number + 1) rows (word - first.quotes) ≡ Some hit))
        → (hit : QuoteRef) × ((if b then Some (first_quote number word)
        else quote_among (number + 1) rows (word - first.quotes)) ≡ Some hit)
    by_test true test later = (first_quote number word, refl)
    by_test false test later =
        let sum : quotes_of (first ∷ rows) ≡ first.quotes + quotes_of rows = quotes_first first rows in
        let within : nat_lt (word - first.quotes) (quotes_of rows) ≡ true = grind (arith, nat_tests) in
        later within
