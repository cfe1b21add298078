-- The numbers of firms and the rooms of investors, by the values of a configuration.
use Rattle.std.proofs.Common.{◌≡◌, ℕ, ◌+◌, Bool, true, List, [], ◌∷◌, ◌++◌, length, map, Option}
use Rattle.std.proofs.Common.{Some, None, option_map, refl, sym, ap, ◌∙◌, arith, position, ◌-◌, ◌<◌}
use Rattle.std.proofs.Common.{nat_le, nat_lt, inl, inr}
use Rattle.std.specs.List.{position_from}
use Rattle.std.proofs.lemmas.Bool.{cases_Bool}
use Rattle.std.proofs.lemmas.Bool.Decides.{nat_tests}
use Rattle.std.proofs.lemmas.List.{length-append, length-map}
use Rattle.std.proofs.lemmas.Option.{slice_get-map}
use Rattle.venue_rows.specs.Rows as rows
use Rattle.venue_rows.specs.Rows.{Configuration, DealerValues, InvestorValues, values_of}
use Rattle.venue_rows.specs.Rows.{dealer_values, investor_values, firm_names, firm_number, has_room}
use Rattle.venue_rows.specs.Rows.{may_request}
use Rattle.venue_rows.specs.Texts.{same_text}
use Rattle.venue_rows.specs.declared.dealer_rows.DealerRow.{DealerRow}
use Rattle.venue_rows.specs.declared.investor_rows.InvestorRow.{InvestorRow}
use Rattle.step_replay.specs.StepFaults.{firms_of}
use Rattle.input_lines.specs.StepLines as by_values
use Rattle.input_lines.specs.StepLines.{names_of_firms, firm_named, is_request_of, is_room}
use Rattle.std.proofs.lemmas.Iterator.Adapters.{position_from-zero}
use Rattle.std.proofs.lemmas.Simd.{map-map}
use Rattle.venue_rows.proofs.FirmLemmas.{found_in_front, found_behind, found_mapped, found_from}

-- the first of two mapped lists that has it
module _ {X Y : Type 0} (p : List ℕ → Bool) (f : X → List ℕ) (g : Y → List ℕ) (xs : List X) (ys : List Y) where
  pub place_in_front : (k : ℕ) → Some k ≡ position (λ x. p (f x)) xs → Some k ≡ position p (map f xs ++ map g ys)
  place_in_front k e =
      let from : position_from p 0 (map f xs) ≡ Some k = found_mapped p f 0 xs ∙ sym (position_from-zero (λ x. p (f x)) xs) ∙ sym e in
      sym (found_in_front p 0 k (map f xs) (map g ys) from) ∙ sym (position_from-zero p (map f xs ++ map g ys))

  pub place_behind : (r : Option ℕ) → None ≡ position (λ x. p (f x)) xs → r ≡ position (λ y. p (g y)) ys → option_map (λ k. length xs + k) r ≡ position p (map f xs ++ map g ys)
  place_behind r none e =
      let from : position_from p 0 (map f xs) ≡ None = found_mapped p f 0 xs ∙ sym (position_from-zero (λ x. p (f x)) xs) ∙ sym none in
      let behind : position_from p 0 (map f xs ++ map g ys) ≡ position_from p (length xs + 0) (map g ys) =
      found_behind p 0 (map f xs) (map g ys) from ∙ ap (λ n. position_from p n (map g ys)) (rw length-map (omega arith)) in
      ap (option_map (λ k. length xs + k)) (e ∙ position_from-zero (λ y. p (g y)) ys ∙ sym (found_mapped p g 0 ys))
      ∙ sym (found_from p (length xs) 0 (map g ys)) ∙ sym behind ∙ sym (position_from-zero p (map f xs ++ map g ys))

-- By the values of a configuration.

pub same_names : (config : Configuration) → names_of_firms (values_of config) ≡ firm_names config
same_names config =
    ap (λ names. names ++ map (λ (row : InvestorValues). row.name) (map investor_values config.investors))
    (map-map (λ (row : DealerValues). row.name) dealer_values config.dealers)
    ∙ ap (λ names. map (λ (row : DealerRow). row.name) config.dealers ++ names)
    (map-map (λ (row : InvestorValues). row.name) investor_values config.investors)

pub same_firm : (config : Configuration) (name : List ℕ) → firm_named (values_of config) name ≡ firm_number config name
same_firm config name = ap (position (λ own. same_text own name)) (same_names config)

pub same_dealer : (config : Configuration) (name : List ℕ) → by_values.dealer_named (values_of config) name ≡ rows.dealer_named config name
same_dealer config name =
    let test = λ (row : DealerValues). same_text row.name name in
    position_from-zero test (map dealer_values config.dealers) ∙ found_mapped test dealer_values 0 config.dealers
    ∙ sym (position_from-zero (λ row. test (dealer_values row)) config.dealers)

same_investor : (config : Configuration) (firm : ℕ) → by_values.investor_numbered (values_of config) firm ≡ option_map investor_values (rows.investor_numbered config firm)
same_investor config firm =
    elim (cases_Bool (nat_le (length config.dealers) firm)) [
      | inl behind ↦ rw (length-map config.dealers dealer_values, behind, slice_get-map investor_values config.investors (firm - length config.dealers)) refl
      | inr before ↦ rw (length-map config.dealers dealer_values, before) refl
    ]

same_requests : (row : Option InvestorRow) (n : ℕ) → is_request_of (option_map investor_values row) n ≡ may_request row n
same_requests None n = refl
same_requests (Some row) n = refl

pub same_room : (config : Configuration) (firm n : ℕ) → is_room (values_of config) firm n ≡ has_room config firm n
same_room config firm n = ap (λ row. is_request_of row n) (same_investor config firm) ∙ same_requests (rows.investor_numbered config firm) n

-- the number of a firm is below how many there are
pub found_within : {X : Type 0} (p : X → Bool) (i k : ℕ) (xs : List X) → position_from p i xs ≡ Some k → k < i + length xs
found_within p i k [] e = cc
found_within p i k (x ∷ xs) e =
    elim (cases_Bool (p x)) [
      | inl here ↦ (let same : Some i ≡ Some k = rw here at e in let is : i ≡ k = cc in omega arith)
      | inr there ↦ (let rest : position_from p (i + 1) xs ≡ Some k = rw there at e in let below = found_within p (i + 1) k xs rest in omega arith)
    ]

pub firm_is_known : (config : Configuration) (name : List ℕ) (firm : ℕ) → Some firm ≡ firm_number config name → nat_lt firm (firms_of config) ≡ true
firm_is_known config name firm is =
    let test = λ (own : List ℕ). same_text own name in
    let below = found_within test 0 firm (firm_names config) (sym (position_from-zero test (firm_names config)) ∙ sym is) in
    let many : length (firm_names config) ≡ firms_of config =
    length-append (map (λ (row : DealerRow). row.name) config.dealers) (map (λ (row : InvestorRow). row.name) config.investors)
    ∙ ap (λ n. n + length (map (λ (row : InvestorRow). row.name) config.investors)) (length-map config.dealers (λ (row : DealerRow). row.name))
    ∙ ap (λ n. length config.dealers + n) (length-map config.investors (λ (row : InvestorRow). row.name)) in
    let within : firm < firms_of config = omega (arith, below, many) in
    grind (arith, nat_tests)
