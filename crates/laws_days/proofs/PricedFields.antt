-- Two messages that differ in their prices alone: every tag but those of prices reads the same, and
-- no line of the session checks tells them apart.
use Rattle.laws_days.proofs.Common.{◌≡◌, ℕ, ◌==◌, true, false, List, [], ◌∷◌, map, length, ◌∙◌}
use Rattle.laws_days.proofs.Common.{Option, Some, None, count_by, refl, sym, ap, arith}
use Rattle.laws_days.proofs.Common.{if◌then◌else◌, Ok, ◌⊎◌, inl, inr, AllZip, cases_Bool, eqb-true}
use Rattle.laws_days.proofs.Common.{nat_tests, price_of, Field, value_of, times_of, BondRow}
use Rattle.laws_days.proofs.Common.{first_fault, tag_fault, quote_lines, ArePricesOf}
use Rattle.laws_days.proofs.Common.{IsOneOrPriced, is_price_tag}
use Rattle.std.proofs.Common.{subst₂}
use Rattle.quote_messages.specs.ValueForms.{APrice, value_fault}
use Rattle.quote_messages.specs.SessionLines.{optional}
use Rattle.quote_messages.specs.declared.session_faults.SessionRejectReason.TheVariants as reason
use Rattle.market_terms.proofs.ErasedLists.{by_erased, count_map}

-- two values of a tag are lawful prices
pub record ArePrices (bond : Option BondRow) (tag : ℕ) (one other : Option (List ℕ))
    : Type 0 where
  pub text : List ℕ
  pub priced : List ℕ
  pub one_is : one ≡ Some text
  pub other_is : other ≡ Some priced
  pub prices : ArePricesOf bond (tag, text) (tag, priced)

-- two values of a tag are one, or lawful prices
abbrev pub AreValues : Option BondRow → ℕ → Option (List ℕ) → Option (List ℕ) → Type 0
AreValues bond tag one other = (one ≡ other) ⊎ ArePrices bond tag one other

-- a lawful price has no fault, however often its tag stands
price_fine : (date text : List ℕ) (price : ℕ) → price_of text ≡ Ok price
    → (if length text == 0 then Some reason.TagWithoutValue else value_fault date APrice text) ≡ None
unfolding price_of
price_fine date [] price is = cc
price_fine date (c ∷ text) price is =
    let some : (length (c ∷ text) == 0) ≡ false = grind (arith, nat_tests) in
    rw (some, is) refl

module _ (bond : Option BondRow) where
  -- Tags.

  tag_same : (one other : Field) → IsOneOrPriced bond one other → one.0 ≡ other.0
  tag_same one other (inl same) = ap (λ (field : Field). field.0) same
  tag_same one other (inr prices) = prices.tag

  tags_same : (one other : List Field) → AllZip (IsOneOrPriced bond) one other
      → map (λ (field : Field). field.0) one ≡ map (λ (field : Field). field.0) other
  tags_same [] [] alike = refl
  tags_same [] (y ∷ ys) alike = elim alike [ ]
  tags_same (x ∷ xs) [] alike = elim alike [ ]
  tags_same (x ∷ xs) (y ∷ ys) alike = rw (tag_same x y alike.0, tags_same xs ys alike.1)

  pub times_same : (one other : List Field) → AllZip (IsOneOrPriced bond) one other → (tag : ℕ)
      → times_of tag one ≡ times_of tag other
  times_same one other alike tag =
      by_erased (map (λ (field : Field). field.0)) (times_of tag) (count_by (λ (t : ℕ). t == tag))
      (count_map (λ (field : Field). field.0) (λ (t : ℕ). t == tag)) one other
      (tags_same one other alike)

  -- Values.

  values_of : (tag : ℕ) (text priced : List ℕ) → IsOneOrPriced bond (tag, text) (tag, priced)
      → AreValues bond tag (Some text) (Some priced)
  values_of tag text priced (inl same) = inl (ap (λ (field : Field). Some field.1) same)
  values_of tag text priced (inr prices) =
      inr (record {
        text = text;
        priced = priced;
        one_is = refl;
        other_is = refl;
        prices = prices;
      })

  pub price_value : (one other : List Field) → AllZip (IsOneOrPriced bond) one other → (tag : ℕ)
      → AreValues bond tag (value_of tag one) (value_of tag other)
  price_value [] [] alike tag = inl refl
  price_value [] (y ∷ ys) alike tag = elim alike [ ]
  price_value (x ∷ xs) [] alike tag = elim alike [ ]
  price_value (x ∷ xs) (y ∷ ys) alike tag =
      let same : x.0 ≡ y.0 = tag_same x y alike.0 in
      elim (cases_Bool (y.0 == tag)) [
        | inl is ↦
            let here : y.0 ≡ tag = eqb-true y.0 tag is in
            rw (same, is) (values_of tag x.1 y.1
            (subst₂ (λ (t u : ℕ). IsOneOrPriced bond (t, x.1) (u, y.1)) (same ∙ here) here alike.0))
        | inr is ↦ rw (same, is) (price_value xs ys alike.1 tag)
      ]

  pub value_same : (one other : List Field) → AllZip (IsOneOrPriced bond) one other → (tag : ℕ)
      → is_price_tag tag ≡ false → value_of tag one ≡ value_of tag other
  value_same one other alike tag is_none = elim (price_value one other alike tag) [
    | inl same ↦ same
    | inr values ↦ let never : true ≡ false = sym values.prices.is_price ∙ is_none in cc
  ]

  -- Lines of the session checks.

  price_line : (date : List ℕ) (one other : List Field) → AllZip (IsOneOrPriced bond) one other
      → (tag : ℕ) → optional tag APrice date one ≡ optional tag APrice date other
  unfolding tag_fault
  price_line date one other alike tag =
      rw (times_same one other alike tag) (elim (price_value one other alike tag) [
        | inl same ↦ rw same
        | inr values ↦ rw (
          values.one_is,
          values.other_is,
          price_fine date values.text values.prices.one_price.price values.prices.one_price.is_read,
          price_fine date values.priced values.prices.other_price.price
              values.prices.other_price.is_read,
        )
      ])

  pub quote_same : (date : List ℕ) (one other : List Field) → AllZip (IsOneOrPriced bond) one other
      → first_fault quote_lines date one ≡ first_fault quote_lines date other
  quote_same date one other alike =
      rw (price_line date one other alike 132, price_line date one other alike 133)
      (simp (times_same one other alike, value_same one other alike))
