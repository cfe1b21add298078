-- UTCTimestamp: a date of eight digits, a dash, and the time of day in one of two spellings,
-- `HH:MM:SS` and `HH:MM:SS.sss`. A moment is a count of milliseconds since midnight. The
-- definitions build texts. A digit d is the byte 48 + d, a dash 45, a point 46 and a colon 58.
use Rattle.std.specs.Prelude.{◌≡◌, ℕ, ◌+◌, ◌*◌, ◌/◌, ◌%◌, ◌<◌, ◌≤◌, ◌==◌, ◌&&◌, ◌||◌, Bool, List}
use Rattle.std.specs.Prelude.{[], ◌∷◌, ◌++◌, take, drop, if◌then◌else◌, nat_lt, nat_le, Result, Ok}
use Rattle.std.specs.Prelude.{Err, ◌⊎◌}
use Rattle.std.specs.Str.{bytes_eq}
use Rattle.std.specs.Str.Parse.{digits_value}
use Rattle.fix_fields.specs.declared.limits.TheConstants.{A_DAY}
use Rattle.fix_fields.specs.Frame.{three_digits}
use Rattle.fix_fields.specs.declared.fault.MomentFault.{MomentFault}
use Rattle.fix_fields.specs.declared.fault.MomentFault.TheVariants.{Form, OtherDay}

-- a number below 100 in two digits
abbrev pub two_digits : ℕ → List ℕ
two_digits n = (48 + n / 10) ∷ ((48 + n % 10) ∷ [])

-- a number below 10,000 in four digits
abbrev pub four_digits : ℕ → List ℕ
four_digits n = two_digits (n / 100) ++ two_digits (n % 100)

-- `YYYYMMDD`
abbrev pub date_text : ℕ → ℕ → ℕ → List ℕ
date_text year month day = four_digits year ++ (two_digits month ++ two_digits day)

-- eight digits: a year, a month from 01 to 12 and a day from 01 to 31, of any month
pub record IsDate (digits : List ℕ) : Type 0 where
  pub year : ℕ
  pub month : ℕ
  pub day : ℕ
  pub year_in : year < 10000
  pub month_in : (1 ≤ month) × (month ≤ 12)
  pub day_in : (1 ≤ day) × (day ≤ 31)
  pub text : digits ≡ date_text year month day

-- `HH:MM:SS` of a count of milliseconds
abbrev pub clock_text : ℕ → List ℕ
clock_text n =
    two_digits (n / 3600000)
    ++ (58 ∷ (two_digits (n / 60000 % 60) ++ (58 ∷ two_digits (n / 1000 % 60))))

-- `YYYYMMDD-HH:MM:SS`, the shorter spelling
abbrev pub seconds_text : List ℕ → ℕ → List ℕ
seconds_text date n = date ++ (45 ∷ clock_text n)

-- `YYYYMMDD-HH:MM:SS.sss`, the longer spelling
abbrev pub timestamp_text : List ℕ → ℕ → List ℕ
timestamp_text date n = seconds_text date n ++ (46 ∷ three_digits (n % 1000))

-- The text spells this moment of this date; the shorter spelling is for whole seconds.
abbrev pub IsSpelling : List ℕ → ℕ → List ℕ → Type 0
IsSpelling date n text =
    (text ≡ timestamp_text date n) ⊎ ((n % 1000 ≡ 0) × (text ≡ seconds_text date n))

-- A text spells a moment of a date, as FIX's UTCTimestamp.
pub record UtcTimestamp (date : List ℕ) (n : ℕ) (text : List ℕ) : Type 0 where
  pub date_is : IsDate date
  pub moment : n < A_DAY
  pub spelling : IsSpelling date n text

-- the number that stands in a text from a place on
abbrev pub number_at : List ℕ → ℕ → ℕ → ℕ
number_at text start count = digits_value 10 (take count (drop start text))

-- whether eight bytes are a date: the numbers that stand in them build them
unfoldable pub is_date : List ℕ → Bool
is_date digits =
    let year = number_at digits 0 4 in
    let month = number_at digits 4 2 in
    let day = number_at digits 6 2 in
    nat_lt year 10000 && nat_le 1 month && nat_le month 12 && nat_le 1 day && nat_le day 31
    && bytes_eq digits (date_text year month day)

-- the milliseconds that a text would spell
unfoldable pub milliseconds_of : List ℕ → ℕ
milliseconds_of text =
    number_at text 9 2 * 3600000 + number_at text 12 2 * 60000 + number_at text 15 2 * 1000
    + number_at text 18 3

-- whether a text spells this moment of this date
unfoldable pub spells : List ℕ → ℕ → List ℕ → Bool
spells date n text =
    is_date date && nat_lt n A_DAY
    && (bytes_eq text (timestamp_text date n)
    || ((n % 1000 == 0) && bytes_eq text (seconds_text date n)))

-- The moment of this date that a text spells, or why there is none: it is no spelling of any
-- moment, or one of another date.
unfoldable pub moment_of : List ℕ → List ℕ → Result ℕ MomentFault
moment_of date text =
    let own = take 8 text in
    let n = milliseconds_of text in
    if spells own n text then (if bytes_eq own date then Ok n else Err OtherDay) else Err Form
