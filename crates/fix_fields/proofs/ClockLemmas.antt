-- Times of day as texts: a spelling shows its hours, minutes and seconds, and these fix its moment.
use Rattle.std.proofs.Common.{◌≡◌, ℕ, ◌+◌, ◌*◌, ◌/◌, ◌%◌, ◌<◌, ◌≤◌, ◌⊎◌, List, [], ◌∷◌, length}
use Rattle.std.proofs.Common.{get_or, refl, arith, inl, inr}
use Rattle.fix_fields.specs.Clock.{IsClock, IsTwoDigits}
use Rattle.fix_fields.proofs.Digits.{cons_same}

-- two digits of a number below 100
two_digits_are : (n : ℕ) → n < 100 → IsTwoDigits n (48 + n / 10) (48 + n % 10)
two_digits_are n below = record { tens_in = (omega arith, omega arith); units_in = (omega arith, omega arith); value = omega arith }

-- what a time of day fixes
pub record HasTime (n : ℕ) (text : List ℕ) : Type 0 where
  pub hours : IsTwoDigits (n / 3600000) (get_or text 1 0) (get_or text 2 0)
  pub minutes : IsTwoDigits (n / 60000 % 60) (get_or text 4 0) (get_or text 5 0)
  pub seconds : IsTwoDigits (n / 1000 % 60) (get_or text 7 0) (get_or text 8 0)
  pub rest : (length text ≡ 9) ⊎ IsTwoDigits (n % 1000 % 100) (get_or text 11 0) (get_or text 12 0)

rest_are : (k : ℕ) → k < 1000 → IsTwoDigits (k % 100) (48 + k / 10 % 10) (48 + k % 10)
rest_are k below = record { tens_in = (omega arith, omega arith); units_in = (omega arith, omega arith); value = omega arith }

pub time_of_clock : (n : ℕ) (text : List ℕ) → IsClock n text → HasTime n text
time_of_clock n text is =
    let day = is.moment in
    let h = two_digits_are (n / 3600000) (omega arith) in
    let m = two_digits_are (n / 60000 % 60) (omega arith) in
    let s = two_digits_are (n / 1000 % 60) (omega arith) in
    elim is.spelling [
      | inl long ↦ rw long (record { hours = h; minutes = m; seconds = s; rest = inr (rest_are (n % 1000) (omega arith)) })
      | inr short ↦ rw short.1 (record { hours = h; minutes = m; seconds = s; rest = inl refl })
    ]

-- a time of day is one moment
pub record AreParts (n h m s k : ℕ) : Type 0 where
  pub hours : n / 3600000 ≡ h
  pub minutes : n / 60000 % 60 ≡ m
  pub seconds : n / 1000 % 60 ≡ s
  pub rest : n % 1000 ≡ k

parts_are : (n h m s k : ℕ) → n ≡ h * 3600000 + m * 60000 + s * 1000 + k → m ≤ 59 → s ≤ 59 → k < 1000 → AreParts n h m s k
parts_are n h m s k is mm ss kk =
    let hours : n / 3600000 ≡ h = omega arith in
    let minutes : n / 60000 ≡ h * 60 + m = omega arith in
    let seconds : n / 1000 ≡ (h * 60 + m) * 60 + s = omega arith in
    record { hours = hours; minutes = omega arith; seconds = omega arith; rest = omega arith }

pub short_clock : (text : List ℕ) (h m s : ℕ) → length text ≡ 9 → get_or text 0 0 ≡ 45 → get_or text 3 0 ≡ 58 → get_or text 6 0 ≡ 58
    → IsTwoDigits h (get_or text 1 0) (get_or text 2 0) → IsTwoDigits m (get_or text 4 0) (get_or text 5 0)
    → IsTwoDigits s (get_or text 7 0) (get_or text 8 0) → h ≤ 23 → m ≤ 59 → s ≤ 59
    → IsClock (h * 3600000 + m * 60000 + s * 1000) text
short_clock (a ∷ (b ∷ (c ∷ (d ∷ (e ∷ (f ∷ (g ∷ (i ∷ (j ∷ []))))))))) h m s long dash colon colon' hours minutes seconds hh mm ss =
    let n = h * 3600000 + m * 60000 + s * 1000 in
    let p = parts_are n h m s 0 (omega arith) mm ss (omega arith) in
    record {
      moment = omega arith;
      spelling = inr (
        omega arith,
        cons_same dash (cons_same (omega arith) (cons_same (omega arith) (cons_same colon
            (cons_same (omega arith) (cons_same (omega arith) (cons_same colon' (cons_same (omega arith) (cons_same (omega arith) refl)))))))),
      );
    }
short_clock _ h m s long dash colon colon' hours minutes seconds hh mm ss = absurd (omega arith)

pub long_clock : (text : List ℕ) (h m s k r : ℕ) → length text ≡ 13 → get_or text 0 0 ≡ 45 → get_or text 3 0 ≡ 58 → get_or text 6 0 ≡ 58 → get_or text 9 0 ≡ 46
    → IsTwoDigits h (get_or text 1 0) (get_or text 2 0) → IsTwoDigits m (get_or text 4 0) (get_or text 5 0)
    → IsTwoDigits s (get_or text 7 0) (get_or text 8 0) → IsTwoDigits r (get_or text 11 0) (get_or text 12 0)
    → get_or text 10 0 ≡ 48 + k → k ≤ 9 → h ≤ 23 → m ≤ 59 → s ≤ 59
    → IsClock (h * 3600000 + m * 60000 + s * 1000 + k * 100 + r) text
long_clock (a ∷ (b ∷ (c ∷ (d ∷ (e ∷ (f ∷ (g ∷ (i ∷ (j ∷ (p1 ∷ (p2 ∷ (p3 ∷ (p4 ∷ []))))))))))))) h m s k r long dash colon colon' point hours minutes seconds last hundreds kk hh mm ss =
    let n = h * 3600000 + m * 60000 + s * 1000 + k * 100 + r in
    let below : r < 100 = (let v = last.value in let t = last.tens_in in let u = last.units_in in omega arith) in
    let p = parts_are n h m s (k * 100 + r) (omega arith) mm ss (omega arith) in
    let rest : n % 1000 ≡ k * 100 + r = p.rest in
    let hundred : n % 1000 / 100 ≡ k = omega arith in
    let ten : n % 1000 / 10 ≡ k * 10 + r / 10 = omega arith in
    record {
      moment = omega arith;
      spelling = inl (cons_same dash (cons_same (omega arith) (cons_same (omega arith) (cons_same colon
          (cons_same (omega arith) (cons_same (omega arith) (cons_same colon' (cons_same (omega arith) (cons_same (omega arith)
          (cons_same point (cons_same (omega arith) (cons_same (omega arith) (cons_same (omega arith) refl)))))))))))));
    }
long_clock _ h m s k r long dash colon colon' point hours minutes seconds last hundreds kk hh mm ss = absurd (omega arith)
