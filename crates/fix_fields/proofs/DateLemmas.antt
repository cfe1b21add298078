-- Dates as texts: what is read of eight digits is a date, and its test decides it.
use Rattle.std.proofs.Common.{◌≡◌, ℕ, ◌+◌, ◌-◌, ◌*◌, ◌/◌, ◌%◌, ◌<◌, ◌≤◌, true, false, cond, List}
use Rattle.std.proofs.Common.{[], ◌∷◌, length, take, drop, sym, ap, ◌∙◌, subst, refl, arith, Option}
use Rattle.std.proofs.Common.{Some, None}
use Rattle.std.specs.Bool.{Decides}
use Rattle.std.specs.Option.{SomeIff}
use Rattle.std.specs.Char.{is_ascii_digit, digit_value}
use Rattle.std.specs.List.{prefix_len}
use Rattle.std.specs.Str.Parse.{AllDigits, digits_value}
use Rattle.std.proofs.lemmas.Bool.{false_from_ne_true}
use Rattle.std.proofs.lemmas.Bool.Decides.{Decides-and, Decides-ltb}
use Rattle.std.proofs.lemmas.List.{take_all}
use Rattle.std.proofs.lemmas.Slice.Eq.{bytes_eq-Decides}
use Rattle.std.proofs.lemmas.Str.{digit_value_digit}
use Rattle.std.proofs.lemmas.Str.Parse.{digit_from_value}
use Rattle.fix_fields.specs.UtcTimestamp.{IsDate, date_text, two_digits, four_digits, number_at}
use Rattle.fix_fields.specs.UtcTimestamp.{is_date}
use Rattle.fix_fields.proofs.Digits.{cons_same, is_digit, counted_digits}
use Rattle.fix_fields.proofs.FrameTests.{Decides-leb}

-- the number of two digits that are counted
two_counted : (x y n : ℕ) (rest : List ℕ) → digit_value x < 10 → digit_value y < 10 → n ≡ prefix_len is_ascii_digit (x ∷ (y ∷ []))
    → digits_value 10 (take n (x ∷ (y ∷ rest))) + 528 ≡ x * 10 + y
two_counted x y n rest hx hy n_is =
    let two : n ≡ 2 = n_is ∙ rw (is_digit x hx, is_digit y hy) refl in
    let vx = digit_value_digit x (digit_from_value x hx) in
    let vy = digit_value_digit y (digit_from_value y hy) in
    rw two (omega arith)

-- eight digits with a month and a day are a date
date_of : (ds : List ℕ) (m n d k : ℕ) → length ds ≡ 8 → AllDigits 10 ds
    → m ≡ digits_value 10 (take n (take (length ds - 4) (drop 4 ds))) → n ≡ prefix_len is_ascii_digit (take 2 (take (length ds - 4) (drop 4 ds)))
    → d ≡ digits_value 10 (take k (take (length ds - 6) (drop 6 ds))) → k ≡ prefix_len is_ascii_digit (take 2 (take (length ds - 6) (drop 6 ds)))
    → 1 ≤ m → m ≤ 12 → 1 ≤ d → d ≤ 31 → IsDate ds
date_of (a ∷ (b ∷ (c ∷ (d ∷ (e ∷ (f ∷ (g ∷ (h ∷ [])))))))) month n day k long all m_is n_is d_is k_is m1 m12 d1 d31 =
    let ra = digit_from_value a all.0 in
    let rb = digit_from_value b all.1.0 in
    let rc = digit_from_value c all.1.1.0 in
    let rd = digit_from_value d all.1.1.1.0 in
    let re = digit_from_value e all.1.1.1.1.0 in
    let rf = digit_from_value f all.1.1.1.1.1.0 in
    let rg = digit_from_value g all.1.1.1.1.1.1.0 in
    let rh = digit_from_value h all.1.1.1.1.1.1.1.0 in
    let mm = two_counted e f n (g ∷ (h ∷ [])) all.1.1.1.1.0 all.1.1.1.1.1.0 n_is in
    let dd = two_counted g h k [] all.1.1.1.1.1.1.0 all.1.1.1.1.1.1.1.0 k_is in
    let year = (a - 48) * 1000 + (b - 48) * 100 + (c - 48) * 10 + (d - 48) in
    let high : year / 100 ≡ (a - 48) * 10 + (b - 48) = omega arith in
    let low : year % 100 ≡ (c - 48) * 10 + (d - 48) = omega arith in
    record {
      year = year;
      month = month;
      day = day;
      year_in = omega arith;
      month_in = (m1, m12);
      day_in = (d1, d31);
      text = cons_same (omega arith) (cons_same (omega arith) (cons_same (omega arith) (cons_same (omega arith)
          (cons_same (omega arith) (cons_same (omega arith) (cons_same (omega arith) (cons_same (omega arith) refl)))))));
    }
date_of _ month n day k long all m_is n_is d_is k_is m1 m12 d1 d31 = absurd (omega arith)

pub date_read : (ds : List ℕ) (count m n d k : ℕ) → length ds ≡ 8 → count ≡ prefix_len is_ascii_digit (take 8 ds) → count ≡ 8
    → m ≡ digits_value 10 (take n (take (length ds - 4) (drop 4 ds))) → n ≡ prefix_len is_ascii_digit (take 2 (take (length ds - 4) (drop 4 ds)))
    → d ≡ digits_value 10 (take k (take (length ds - 6) (drop 6 ds))) → k ≡ prefix_len is_ascii_digit (take 2 (take (length ds - 6) (drop 6 ds)))
    → 1 ≤ m → m ≤ 12 → 1 ≤ d → d ≤ 31 → IsDate ds
date_read ds count m n d k long counted eight m_is n_is d_is k_is m1 m12 d1 d31 =
    let whole : take (prefix_len is_ascii_digit (take 8 ds)) ds ≡ ds = ap (λ c. take c ds) (sym counted ∙ eight) ∙ take_all 8 ds (omega arith) in
    date_of ds m n d k long (subst (λ t. AllDigits 10 t) whole (counted_digits 8 ds)) m_is n_is d_is k_is m1 m12 d1 d31

-- the tests of `moment_of` decide what they are named for
pub two_digits_value : (n : ℕ) → n < 100 → digits_value 10 (two_digits n) ≡ n
two_digits_value n below =
    let a = digit_value_digit (48 + n / 10) (omega arith, omega arith) in
    let b = digit_value_digit (48 + n % 10) (omega arith, omega arith) in
    omega arith

four_digits_value : (n : ℕ) → n < 10000 → digits_value 10 (four_digits n) ≡ n
four_digits_value n below =
    let a = digit_value_digit (48 + n / 100 / 10) (omega arith, omega arith) in
    let b = digit_value_digit (48 + n / 100 % 10) (omega arith, omega arith) in
    let c = digit_value_digit (48 + n % 100 / 10) (omega arith, omega arith) in
    let d = digit_value_digit (48 + n % 100 % 10) (omega arith, omega arith) in
    omega arith

pub date_decides : (digits : List ℕ) → Decides (is_date digits) (IsDate digits)
unfolding is_date
date_decides digits =
    let year = number_at digits 0 4 in
    let month = number_at digits 4 2 in
    let day = number_at digits 6 2 in
    let tests : Decides (is_date digits)
    ((((((year < 10000) × (1 ≤ month)) × (month ≤ 12)) × (1 ≤ day)) × (day ≤ 31)) × (digits ≡ date_text year month day)) =
    Decides-and _ _ (Decides-and _ _ (Decides-and _ _ (Decides-and _ _ (Decides-and _ _ (Decides-ltb year 10000) (Decides-leb 1 month)) (Decides-leb month 12))
    (Decides-leb 1 day)) (Decides-leb day 31)) (bytes_eq-Decides digits (date_text year month day)) in (
      λ t. (let p = tests.0 t in record {
        year = year;
        month = month;
        day = day;
        year_in = p.0.0.0.0.0;
        month_in = (p.0.0.0.0.1, p.0.0.0.1);
        day_in = (p.0.0.1, p.0.1);
        text = p.1;
      }),
      λ is. (let y : year ≡ is.year = ap (λ t. number_at t 0 4) is.text ∙ four_digits_value is.year is.year_in in
          let m : month ≡ is.month = ap (λ t. number_at t 4 2) is.text ∙ two_digits_value is.month (let h = is.month_in in omega arith) in
          let d : day ≡ is.day = ap (λ t. number_at t 6 2) is.text ∙ two_digits_value is.day (let h = is.day_in in omega arith) in
          tests.1 (rw (y, m, d) (((((is.year_in, is.month_in.0), is.month_in.1), is.day_in.0), is.day_in.1), is.text))),
    )

-- the date that digits are, as one function of them
pub date_exact : (digits : List ℕ) (read : Option (List ℕ)) → SomeIff read (IsDate digits) digits → read ≡ cond (is_date digits) (Some digits) None
date_exact digits None none =
    let no : is_date digits ≡ false = false_from_ne_true (is_date digits) (λ t. none ((date_decides digits).0 t)) in
    rw no refl
date_exact digits (Some date) some =
    let yes : is_date digits ≡ true = (date_decides digits).1 some.0 in
    rw yes (ap Some some.1)
