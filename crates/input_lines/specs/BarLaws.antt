-- Laws of the vertical bars that stand for SOH: a text without SOH has none.
use Rattle.std.proofs.Common.{◌≡◌, ◌≢◌, ℕ, ◌==◌, false, List, [], ◌∷◌, map, ap, ◌∙◌, refl, arith}
use Rattle.std.proofs.lemmas.Bool.Decides.{nat_tests}
use Rattle.fix_fields.specs.Frame.{IsValue}
use Rattle.input_lines.specs.SayLine.{with_bar}

-- every other byte stays
pub bar_other : (c : ℕ) → c ≢ 1 → with_bar c ≡ c
bar_other c other = let test : (c == 1) ≡ false = grind (arith, nat_tests) in rw test refl

-- a value has no bars put in
pub barred_value : (value : List ℕ) → IsValue value → map with_bar value ≡ value
barred_value [] free = refl
barred_value (c ∷ value) free =
    ap (λ d. d ∷ map with_bar value) (bar_other c free.0) ∙ ap (λ t. c ∷ t) (barred_value value free.1)
