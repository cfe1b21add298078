-- Names tell firms apart.
use Rattle.laws_days.proofs.Common.{List, Some, ℕ, [], ap, arith, eq-eqb}
use Rattle.laws_days.proofs.Common.{inl, inr, length, map, option_map, suc, sym}
use Rattle.laws_days.proofs.Common.{zero, ◌++◌, ◌+◌, ◌-◌, ◌==◌, ◌∙◌, ◌∷◌, ◌≡◌, ◌≤◌}
use Rattle.laws_days.proofs.Common.{bytes_eq-Decides, cases_Bool, eqb-true}
use Rattle.laws_days.proofs.Common.{same_Some, slice_get, slice_get_within}
use Rattle.laws_days.proofs.Common.{Configuration, dealer_numbered, investor_numbered, DealerRow}
use Rattle.laws_days.proofs.Common.{InvestorRow, same_text}
use Rattle.laws_days.proofs.Common.{both_ways}
use Rattle.std.proofs.Common.{◌<◌}
use Rattle.std.proofs.lemmas.Bool.{cases_lt, false_from_ne_true}
use Rattle.std.proofs.lemmas.List.{length-map}
use Rattle.std.proofs.lemmas.Option.{slice_get-map}
use Rattle.std.specs.Prelude.{slice_index_or}
use Rattle.venue_rows.specs.Rows.{KeepsLimits, firm_names}
use Rattle.step_replay.specs.PlaceLemmas.{behind_dealers, get_first, numbered_at}

text_at : (texts : List (List ℕ)) (place : ℕ) (text other : List ℕ)
    → slice_get texts place ≡ Some text → slice_index_or texts place other ≡ text
text_at [] place text other at = cc
text_at (first ∷ texts) zero text other at = same_Some first text at
text_at (first ∷ texts) (suc place) text other at = text_at texts place text other at

get_behind : {A : Type 0} (xs ys : List A) (place : ℕ)
    → slice_get (xs ++ ys) (length xs + place) ≡ slice_get ys place
get_behind [] ys place =
    let same : 0 + place ≡ place = omega arith in ap (slice_get ys) same
get_behind (x ∷ xs) ys place =
    let more : length (x ∷ xs) + place ≡ suc (length xs + place) = omega arith in
    ap (slice_get ((x ∷ xs) ++ ys)) more ∙ get_behind xs ys place

pub dealer_name : (config : Configuration) (dealer : ℕ) (row : DealerRow)
    → dealer_numbered config dealer ≡ Some row
    → slice_get (firm_names config) dealer ≡ Some row.name
dealer_name config dealer row is =
    let names = map (λ (r : DealerRow). r.name) config.dealers in
    let others = map (λ (r : InvestorRow). r.name) config.investors in
    let at : slice_get names dealer ≡ Some row.name =
    slice_get-map (λ (r : DealerRow). r.name) config.dealers dealer
    ∙ ap (option_map (λ (r : DealerRow). r.name)) is in
    get_first names others dealer (slice_get_within names dealer row.name at) ∙ at

pub investor_name : (config : Configuration) (investor : ℕ) (row : InvestorRow)
    → investor_numbered config investor ≡ Some row
    → slice_get (firm_names config) investor ≡ Some row.name
investor_name config investor row is =
    let names = map (λ (r : DealerRow). r.name) config.dealers in
    let others = map (λ (r : InvestorRow). r.name) config.investors in
    let behind : length config.dealers ≤ investor = behind_dealers config investor row is in
    let at : slice_get config.investors (investor - length config.dealers) ≡ Some row =
    sym (numbered_at config investor behind) ∙ is in
    let count : length names ≡ length config.dealers =
    length-map config.dealers (λ (r : DealerRow). r.name) in
    let place : investor ≡ length names + (investor - length config.dealers) = omega arith in
    ap (slice_get (names ++ others)) place
    ∙ get_behind names others (investor - length config.dealers)
    ∙ slice_get-map (λ (r : InvestorRow). r.name) config.investors
    (investor - length config.dealers)
    ∙ ap (option_map (λ (r : InvestorRow). r.name)) at

module _ (config : Configuration) (limits : KeepsLimits config) where
  never_before : (one other : ℕ) (name : List ℕ) → slice_get (firm_names config) one ≡ Some name
      → slice_get (firm_names config) other ≡ Some name → one < other → ⊥
  never_before one other name at at_too before =
      let names = firm_names config in
      limits.firms_distinct one other [] before (slice_get_within names other name at_too)
      (text_at names one name [] at ∙ sym (text_at names other name [] at_too))

  -- two firms of one name are one
  one_firm : (one other : ℕ) (name : List ℕ) → slice_get (firm_names config) one ≡ Some name
      → slice_get (firm_names config) other ≡ Some name → one ≡ other
  one_firm one other name at at_too = elim (cases_lt one other) [
    | inl below ↦ absurd (never_before one other name at at_too below)
    | inr above ↦ elim (cases_lt other one) [
      | inl below_too ↦ absurd (never_before other one name at_too at below_too)
      | inr above_too ↦
          let least : other ≤ one = above in
          let most : one ≤ other = above_too in
          omega arith
    ]
  ]

  pub same_dealer : (one other : ℕ) (row row_too : DealerRow) → dealer_numbered config one ≡ Some row
      → dealer_numbered config other ≡ Some row_too
      → same_text row.name row_too.name ≡ (one == other)
  same_dealer one other row row_too is is_too = elim (cases_Bool (one == other)) [
    | inl test ↦
        let same = eqb-true one other test in
        let rows : row ≡ row_too = same_Some row row_too (sym is ∙ ap (dealer_numbered config) same ∙ is_too) in
        (bytes_eq-Decides row.name row_too.name).1 (ap (λ (r : DealerRow). r.name) rows) ∙ sym test
    | inr differs ↦
        false_from_ne_true (same_text row.name row_too.name) (λ same.
        let names = (bytes_eq-Decides row.name row_too.name).0 same in
        let firms = one_firm one other row_too.name
        (dealer_name config one row is ∙ ap (λ (n : List ℕ). Some n) names)
        (dealer_name config other row_too is_too) in
        both_ways (one == other) differs (eq-eqb one other firms)) ∙ sym differs
  ]

  pub same_investor : (one other : ℕ) (row row_too : InvestorRow)
      → investor_numbered config one ≡ Some row → investor_numbered config other ≡ Some row_too
      → same_text row.name row_too.name ≡ (one == other)
  same_investor one other row row_too is is_too = elim (cases_Bool (one == other)) [
    | inl test ↦
        let same = eqb-true one other test in
        let rows : row ≡ row_too =
        same_Some row row_too (sym is ∙ ap (investor_numbered config) same ∙ is_too) in
        (bytes_eq-Decides row.name row_too.name).1 (ap (λ (r : InvestorRow). r.name) rows) ∙ sym test
    | inr differs ↦
        false_from_ne_true (same_text row.name row_too.name) (λ same.
        let names = (bytes_eq-Decides row.name row_too.name).0 same in
        let firms = one_firm one other row_too.name
        (investor_name config one row is ∙ ap (λ (n : List ℕ). Some n) names)
        (investor_name config other row_too is_too) in
        both_ways (one == other) differs (eq-eqb one other firms)) ∙ sym differs
  ]
