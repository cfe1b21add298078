-- Times of day and timestamps as they are written, byte by byte.
use Rattle.std.proofs.Common.{◌≡◌, ℕ, ◌+◌, ◌/◌, ◌%◌, ◌<◌, ◌≤◌, List, [], ◌∷◌, ◌++◌, length, get_or}
use Rattle.std.proofs.Common.{sym, ap, subst, refl, arith, append_assoc}
use Rattle.std.specs.List.{All, AllByRecursion}
use Rattle.std.proofs.lemmas.Str.Ascii.{IsAscii-from_all}
use Rattle.std.proofs.lemmas.List.Elements.{All-from_recursion}
use Rattle.std.specs.Str.{IsUtf8}
use Rattle.std.proofs.lemmas.Str.{IsUtf8-from_ascii}
use Rattle.fix_fields.specs.TimeOfDay.{time_text}
use Rattle.fix_fields.specs.Frame.{three_digits}
use Rattle.fix_fields.specs.UtcTimestamp.{IsDate, date_text, two_digits, clock_text, timestamp_text}
use Rattle.fix_fields.proofs.Digits.{cons_same}

-- what is written of a time of day
pub written : (h m s r : List ℕ) (k n : ℕ) → h ≡ two_digits (n / 3600000) → m ≡ two_digits (n / 60000 % 60)
    → s ≡ two_digits (n / 1000 % 60) → k ≡ 48 + n % 1000 / 100 → r ≡ two_digits (n % 100)
    → get_or h 0 0 ∷ (get_or h 1 0 ∷ (58 ∷ (get_or m 0 0 ∷ (get_or m 1 0 ∷ (58 ∷ (get_or s 0 0 ∷ (get_or s 1 0 ∷ (46 ∷ (k ∷ (get_or r 0 0 ∷ (get_or r 1 0 ∷ [])))))))))))
    ≡ time_text n
unfolding time_text
written h m s r k n hours minutes seconds hundreds rest =
    rw (hours, minutes, seconds, hundreds, rest) (ap
    (λ t. clock_text n ++ (46 ∷ ((48 + n % 1000 / 100) ∷ t)))
    (cons_same (omega arith) (cons_same (omega arith) refl)))

-- a date, a dash and a time of day are a timestamp
pub dated : (date : List ℕ) (n : ℕ) → timestamp_text date n ≡ date ++ 45 ∷ time_text n
unfolding time_text
dated date n = append_assoc date (45 ∷ clock_text n) (46 ∷ three_digits (n % 1000))

-- the same, byte by byte
pub written_behind : (day t : List ℕ) (n : ℕ) → length day ≡ 8 → t ≡ time_text n
    → get_or day 0 0 ∷ (get_or day 1 0 ∷ (get_or day 2 0 ∷ (get_or day 3 0 ∷ (get_or day 4 0 ∷ (get_or day 5 0 ∷ (get_or day 6 0 ∷ (get_or day 7 0
    ∷ (45 ∷ (get_or t 0 0 ∷ (get_or t 1 0 ∷ (get_or t 2 0 ∷ (get_or t 3 0 ∷ (get_or t 4 0 ∷ (get_or t 5 0 ∷ (get_or t 6 0 ∷ (get_or t 7 0
    ∷ (get_or t 8 0 ∷ (get_or t 9 0 ∷ (get_or t 10 0 ∷ (get_or t 11 0 ∷ []))))))))))))))))))))
    ≡ timestamp_text day n
unfolding time_text
written_behind (a ∷ (b ∷ (c ∷ (d ∷ (e ∷ (f ∷ (g ∷ (i ∷ [])))))))) t n long time = rw time refl
written_behind _ t n long time = absurd (omega arith)

time_below_128 : (n : ℕ) → n < 86400000 → AllByRecursion (λ b. b < 128) (time_text n)
unfolding time_text
time_below_128 n below =
    (omega arith, (omega arith, (omega arith, (omega arith, (omega arith, (omega arith, (omega arith, (omega arith, (omega arith, (omega arith, (omega arith, (omega arith, tt))))))))))))

pub time_utf8 : (n : ℕ) → n < 86400000 → IsUtf8 (time_text n)
time_utf8 n below =
    let all : All (λ b. b < 128) (time_text n) = All-from_recursion (λ b. b < 128) (time_text n) (time_below_128 n below) in
    IsUtf8-from_ascii (time_text n) (IsAscii-from_all (time_text n) all)

below_128 : (y m d n : ℕ) → y < 10000 → m ≤ 12 → d ≤ 31 → n < 86400000 → AllByRecursion (λ b. b < 128) (timestamp_text (date_text y m d) n)
below_128 y m d n year month day below =
    (omega arith, (omega arith, (omega arith, (omega arith, (omega arith, (omega arith, (omega arith, (omega arith, (omega arith, (omega arith, (omega arith, (omega arith, (omega arith, (omega arith, (omega arith, (omega arith, (omega arith, (omega arith, (omega arith, (omega arith, (omega arith, tt)))))))))))))))))))))

pub timestamp_utf8 : (date : List ℕ) (n : ℕ) → IsDate date → n < 86400000 → IsUtf8 (timestamp_text date n)
timestamp_utf8 date n is below =
    let month = is.month_in in
    let day = is.day_in in
    let whole = timestamp_text (date_text is.year is.month is.day) n in
    let all : All (λ b. b < 128) whole = All-from_recursion (λ b. b < 128) whole
    (below_128 is.year is.month is.day n is.year_in (omega arith) (omega arith) below) in
    subst (λ t. IsUtf8 (timestamp_text t n)) (sym is.text) (IsUtf8-from_ascii whole (IsAscii-from_all whole all))
