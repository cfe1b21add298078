-- Numbers of one, two and three digits in decimal.
use Rattle.std.proofs.Common.{◌≡◌, ℕ, ◌+◌, ◌/◌, ◌%◌, ◌<◌, ◌≤◌, [], ◌∷◌, ◌++◌, ap, ◌∙◌, arith}
use Rattle.std.specs.Prelude.{decimal}
use Rattle.std.proofs.lemmas.Fmt.{decimal_digit, decimal_step}

pub decimal_of_one : (n : ℕ) → n < 10 → decimal n ≡ (48 + n % 10) ∷ []
decimal_of_one n few =
    let own : n ≡ n % 10 = omega arith in decimal_digit n few ∙ ap (λ d. (48 + d) ∷ []) own

pub decimal_of_two : (n : ℕ) → 10 ≤ n → n < 100 → decimal n ≡ (48 + n / 10 % 10) ∷ ((48 + n % 10) ∷ [])
decimal_of_two n some few =
    decimal_step n some (omega arith)
    ∙ ap (λ t. t ++ ((48 + n % 10) ∷ [])) (decimal_of_one (n / 10) (omega arith))

pub decimal_of_three : (n : ℕ) → 100 ≤ n → n < 1000
    → decimal n ≡ (48 + n / 10 / 10) ∷ ((48 + n / 10 % 10) ∷ ((48 + n % 10) ∷ []))
decimal_of_three n some few =
    let above : n / 10 / 10 % 10 ≡ n / 10 / 10 = omega arith in
    decimal_step n (omega arith) (omega arith)
    ∙ ap (λ t. t ++ ((48 + n % 10) ∷ [])) (decimal_of_two (n / 10) (omega arith) (omega arith))
    ∙ ap (λ d. (48 + d) ∷ ((48 + n / 10 % 10) ∷ ((48 + n % 10) ∷ []))) above
