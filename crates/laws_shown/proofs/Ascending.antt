-- Numbers that ascend, and the numbers of a dealer's quotes by their words.
use Rattle.std.proofs.Common.{◌≡◌, ◌≤◌, ◌<◌, ℕ, ◌+◌, ◌==◌, true, false, ◌&&◌, nat_le, List}
use Rattle.std.proofs.Common.{[], ◌∷◌, ◌++◌, Option, Some, None, refl, ap, ◌∙◌, arith}
use Rattle.std.proofs.Common.{if◌then◌else◌, eq-eqb}
use Rattle.std.specs.Option.{option_to_list}
use Rattle.venue_rows.specs.Rows.{Configuration, dealer_numbered}
use Rattle.venue_rows.specs.declared.dealer_rows.DealerRow.{DealerRow}
use Rattle.venue_steps.specs.Dealers.{QuoteRef, dealer_of, quote_with_word, word_for}
use Rattle.step_replay.specs.OwnerLemmas.{owner_among, quote_at}

-- The numbers are above the first bound, ascend, and are not above the last.
abbrev pub Ascends : ℕ → List ℕ → ℕ → Type 0
Ascends low [] high = low ≤ high
Ascends low (x ∷ xs) high = (low < x) × Ascends x xs high

pub bounds : (low : ℕ) (xs : List ℕ) (high : ℕ) → Ascends low xs high → low ≤ high
bounds low [] high is = is
bounds low (x ∷ xs) high is =
    let later : x ≤ high = bounds x xs high is.1 in
    let least : low < x = is.0 in
    omega arith

pub ascends_higher : (low : ℕ) (xs : List ℕ) (high more : ℕ) → Ascends low xs high → high ≤ more
    → Ascends low xs more
ascends_higher low [] high more is up = let at : low ≤ high = is in omega arith
ascends_higher low (x ∷ xs) high more is up = (is.0, ascends_higher x xs high more is.1 up)

pub ascends_push : (low : ℕ) (xs : List ℕ) (high x more : ℕ) → Ascends low xs high → high < x
    → x ≤ more → Ascends low (xs ++ x ∷ []) more
ascends_push low [] high x more is above up =
    let at : low ≤ high = is in
    let least : low < x = omega arith in
    (least, up)
ascends_push low (y ∷ xs) high x more is above up =
    (is.0, ascends_push y xs high x more is.1 above up)

lower : (low below : ℕ) (xs : List ℕ) (high : ℕ) → Ascends low xs high → below ≤ low
    → Ascends below xs high
lower low below [] high is down = let at : low ≤ high = is in omega arith
lower low below (x ∷ xs) high is down =
    let least : low < x = is.0 in
    let under : below < x = omega arith in
    (under, is.1)

-- some are left out
pub ascends_without : (low : ℕ) (xs : List ℕ) (o : Option ℕ) (ys : List ℕ) (high : ℕ)
    → Ascends low (xs ++ (option_to_list o ++ ys)) high → Ascends low (xs ++ ys) high
ascends_without low [] None ys high is = is
ascends_without low [] (Some x) ys high is =
    let least : low < x = is.0 in
    let under : low ≤ x = omega arith in
    lower x low ys high is.1 under
ascends_without low (y ∷ xs) o ys high is = (is.0, ascends_without y xs o ys high is.1)

-- one that stands before another is below it
above_all : (low : ℕ) (xs : List ℕ) (x : ℕ) (ys : List ℕ) (high : ℕ)
    → Ascends low (xs ++ x ∷ ys) high → low < x
above_all low [] x ys high is = is.0
above_all low (y ∷ xs) x ys high is =
    let least : low < y = is.0 in
    let later : y < x = above_all y xs x ys high is.1 in
    omega arith

pub ascends_apart : (low : ℕ) (xs : List ℕ) (x : ℕ) (ys : List ℕ) (y : ℕ) (zs : List ℕ) (high : ℕ)
    → Ascends low (xs ++ x ∷ (ys ++ y ∷ zs)) high → x < y
ascends_apart low [] x ys y zs high is = above_all x ys y zs high is.1
ascends_apart low (z ∷ xs) x ys y zs high is = ascends_apart z xs x ys y zs high is.1

-- Words.

abbrev by_owner : ℕ → Option QuoteRef → Option ℕ
by_owner dealer None = None
by_owner dealer (Some quote) = if quote.dealer == dealer then Some quote.quote else None

-- the own number of the dealer's quote that has a word, where it is one of this dealer
abbrev pub number_of_word : Configuration → ℕ → ℕ → Option ℕ
number_of_word config dealer word = by_owner dealer (quote_with_word config word)

module _ (config : Configuration) (dealer : ℕ) (row : DealerRow)
    (is : dealer_numbered config dealer ≡ Some row) (quote : ℕ)
    (within : (nat_le 1 quote && nat_le quote row.quotes) ≡ true) where
  owned : quote_with_word config (word_for config (dealer_of dealer row) quote)
      ≡ Some (quote_at dealer quote)
  owned =
      let same : 0 + dealer ≡ dealer = omega arith in
      owner_among 0 config.dealers dealer row quote is within
      ∙ ap (λ (d : ℕ). Some (quote_at d quote)) same

  pub own_number : number_of_word config dealer (word_for config (dealer_of dealer row) quote)
      ≡ Some quote
  own_number =
      let same : (dealer == dealer) ≡ true = eq-eqb dealer dealer refl in
      ap (by_owner dealer) owned ∙ rw same refl

  pub no_number : (other : ℕ) → (dealer == other) ≡ false
      → number_of_word config other (word_for config (dealer_of dealer row) quote) ≡ None
  no_number other differs = ap (by_owner other) owned ∙ rw differs refl
