-- What is written fits, and has no SOH.
use Rattle.std.proofs.Common.{ℕ, ◌<◌, ◌≤◌, ◌^◌, Bool, true, false, List, [], ◌∷◌, ◌++◌, Option}
use Rattle.std.proofs.Common.{Some, None, lit≤, cond, nat_lt, decimal}
use Rattle.std.specs.Str.Parse.{AllDigits}
use Rattle.fix_fields.specs.Frame.{decimal_len, IsValue}
use Rattle.fix_fields.specs.TextLaws.{digits_are_value, number_is_value}
use Rattle.bond_prices.specs.Price.{IsShortest, sign_text, point_text, behind_point}

-- a choice of two is at most what both are at most
at_most : (b : Bool) (m n most : ℕ) → m ≤ most → n ≤ most → cond b m n ≤ most
at_most true m n most p q = p
at_most false m n most p q = q

-- a number has at most 20 digits
pub decimal_len_le : (n : ℕ) → decimal_len n ≤ 20
decimal_len_le n =
    at_most (nat_lt n 10) _ _ 20 (lit≤ tt) (at_most (nat_lt n 100) _ _ 20 (lit≤ tt) (at_most (nat_lt n 1000) _ _ 20 (lit≤ tt)
    (at_most (nat_lt n 10000) _ _ 20 (lit≤ tt) (at_most (nat_lt n 100000) _ _ 20 (lit≤ tt) (at_most (nat_lt n 1000000) _ _ 20 (lit≤ tt)
    (at_most (nat_lt n 10000000) _ _ 20 (lit≤ tt) (at_most (nat_lt n 100000000) _ _ 20 (lit≤ tt) (at_most (nat_lt n 1000000000) _ _ 20 (lit≤ tt)
    (at_most (nat_lt n 10000000000) _ _ 20 (lit≤ tt) (at_most (nat_lt n 100000000000) _ _ 20 (lit≤ tt) (at_most (nat_lt n 1000000000000) _ _ 20 (lit≤ tt)
    (at_most (nat_lt n 10000000000000) _ _ 20 (lit≤ tt) (at_most (nat_lt n 100000000000000) _ _ 20 (lit≤ tt) (at_most (nat_lt n 1000000000000000) _ _ 20 (lit≤ tt)
    (at_most (nat_lt n 10000000000000000) _ _ 20 (lit≤ tt) (at_most (nat_lt n 100000000000000000) _ _ 20 (lit≤ tt) (at_most (nat_lt n 1000000000000000000) _ _ 20 (lit≤ tt)
    (at_most (nat_lt n 10000000000000000000) _ _ 20 (lit≤ tt) (lit≤ tt)))))))))))))))))))

-- what is built of two values is one, and its parts are
value-append : (a b : List ℕ) → IsValue a → IsValue b → IsValue (a ++ b)
value-append [] b p q = q
value-append (c ∷ a) b p q = (p.0, value-append a b p.1 q)

-- a number behind a letter may stand as the value of a field
pub numbered_is_value : (letter : List ℕ) (n : ℕ) → IsValue letter → n < 2 ^ 64 → IsValue (letter ++ decimal n)
numbered_is_value letter n lawful small = value-append letter (decimal n) lawful (number_is_value n small)

digits-append : (a b : List ℕ) → AllDigits 10 (a ++ b) → AllDigits 10 a × AllDigits 10 b
digits-append [] b h = (tt, h)
digits-append (c ∷ a) b h = let parts = digits-append a b h.1 in ((h.0, parts.0), parts.1)

sign_is_value : (negative : Bool) → IsValue (sign_text negative)
sign_is_value true = (λ e. cc, tt)
sign_is_value false = tt

point_is_value : (decimals : Option (List ℕ)) → AllDigits 10 (behind_point decimals) → IsValue (point_text decimals)
point_is_value None h = tt
point_is_value (Some digits) h = (λ e. cc, digits_are_value digits h)

-- a printed price may
pub price_is_value : (text : List ℕ) (n : ℕ) → IsShortest text n → IsValue text
price_is_value text n h =
    let parts = h.read.parts in
    let digits = digits-append parts.whole (behind_point parts.decimals) h.read.lawful.all_digits in
    let whole = value-append parts.whole (point_text parts.decimals) (digits_are_value parts.whole digits.0) (point_is_value parts.decimals digits.1) in
    rw h.read.built (value-append (sign_text parts.is_negative) (parts.whole ++ point_text parts.decimals) (sign_is_value parts.is_negative) whole)
