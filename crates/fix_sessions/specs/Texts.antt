-- Short texts, numbers and times of a message.
use Rattle.std.specs.Prelude.{ℕ, ◌+◌, ◌*◌, ◌/◌, ◌-◌, Bool, false, ◌&&◌, ◌||◌, ◌==◌, List, [], ◌∷◌, length, take, drop}
use Rattle.std.specs.Prelude.{nat_le, nat_eq, Option, Some, None, if◌then◌else◌, option_and_then}
use Rattle.std.specs.List.{list_all}
use Rattle.std.specs.Char.{is_ascii_digit}
use Rattle.std.specs.Cmp.Lexicographic.{pointwise}
use Rattle.std.specs.Str.Parse.{digits_value}
use Rattle.fix_fields.specs.Frame.{Field, value_of, is_value}
use Rattle.fix_sessions.specs.declared.texts.TheConstants.{MOST_TEXT}
use Rattle.fix_sessions.specs.declared.messages.Reading.{Reading}
use Rattle.fix_sessions.specs.declared.messages.Reading.TheVariants as reading
use Rattle.fix_sessions.specs.declared.state.TheConstants.{DAY_LENGTH}

-- a number in a message: 1 to 9 digits
abbrev pub number_of : List ℕ → Option ℕ
number_of text =
    if (nat_le 1 (length text) && nat_le (length text) 9) && list_all is_ascii_digit text
    then Some (digits_value 10 text) else None

-- a short text: 1 to 1,024 bytes without SOH
abbrev pub is_text : List ℕ → Bool
is_text text = (nat_le 1 (length text) && nat_le (length text) MOST_TEXT) && is_value text

-- a text where it is a short one
abbrev pub text_if_short : List ℕ → Option (List ℕ)
text_if_short text = if is_text text then Some text else None

-- whether a value stands and is this text
abbrev pub is_that : List ℕ → Option (List ℕ) → Bool
is_that text None = false
is_that text (Some value) = pointwise nat_eq value text

-- whether the first value of a tag is this text
abbrev pub has_text : ℕ → List ℕ → List Field → Bool
has_text tag text fields = is_that text (value_of tag fields)

-- the short text that a tag has
abbrev pub text_at : ℕ → List Field → Option (List ℕ)
text_at tag fields = option_and_then text_if_short (value_of tag fields)

-- what is read where it can be
abbrev pub read_as : Option ℕ → Reading
read_as None = reading.Faulty
read_as (Some value) = reading.Is value

-- a field with a number: missing, no number, or that number
abbrev pub number_reading : Option (List ℕ) → Reading
number_reading None = reading.Missing
number_reading (Some text) = read_as (number_of text)

abbrev pub number_at : ℕ → List Field → Reading
number_at tag fields = number_reading (value_of tag fields)

-- Times: `YYYYMMDD-HH:MM:SS`, and behind it at most a point and 1 to 12 digits of a second. They are
-- cut to milliseconds, and counted from the beginning of the calendar.

-- the digits of a text from a place on
abbrev pub part : List ℕ → ℕ → ℕ → List ℕ
part text start count = take count (drop start text)

abbrev pub number_in : List ℕ → ℕ → ℕ → ℕ
number_in text start count = digits_value 10 (part text start count)

-- whether the byte at a place is this one
abbrev pub has_byte : List ℕ → ℕ → ℕ → Bool
has_byte text place byte = pointwise nat_eq (part text place 1) (byte ∷ [])

-- whether the digits of date and time stand in their places
abbrev pub are_time_digits : List ℕ → Bool
are_time_digits text =
    list_all is_ascii_digit (part text 0 4) && list_all is_ascii_digit (part text 4 2)
    && list_all is_ascii_digit (part text 6 2) && list_all is_ascii_digit (part text 9 2)
    && list_all is_ascii_digit (part text 12 2) && list_all is_ascii_digit (part text 15 2)

-- whether the dash and the colons do
abbrev pub has_marks : List ℕ → Bool
has_marks text = has_byte text 8 45 && has_byte text 11 58 && has_byte text 14 58

-- whether numbers are those of a calendar and a clock; a leap second is the sixtieth
abbrev pub are_in_range : ℕ → ℕ → ℕ → ℕ → ℕ → Bool
are_in_range month day hour minute second =
    nat_le 1 month && nat_le month 12 && nat_le 1 day && nat_le day 31
    && nat_le hour 23 && nat_le minute 59 && nat_le second 60

-- whether what stands behind the seconds is nothing, or a point and 1 to 12 digits
abbrev pub is_fraction : List ℕ → Bool
is_fraction text =
    (length text == 17)
    || (has_byte text 17 46 && nat_le 19 (length text) && nat_le (length text) 30
    && list_all is_ascii_digit (drop 18 text))

-- the milliseconds of a fraction: its first three digits, with zeros for those that lack
abbrev pub thousandths : List ℕ → ℕ
thousandths digits =
    let three = take 3 digits in
    if length three == 0 then 0
    else if length three == 1 then digits_value 10 three * 100
    else if length three == 2 then digits_value 10 three * 10
    else digits_value 10 three

-- the days of the months before a month, in a year that is no leap year
abbrev pub days_before : ℕ → ℕ
days_before month =
    if nat_le month 1 then 0 else if nat_le month 2 then 31 else if nat_le month 3 then 59
    else if nat_le month 4 then 90 else if nat_le month 5 then 120 else if nat_le month 6 then 151
    else if nat_le month 7 then 181 else if nat_le month 8 then 212 else if nat_le month 9 then 243
    else if nat_le month 10 then 273 else if nat_le month 11 then 304 else 334

-- the leap days up to the end of a year
abbrev pub leap_days : ℕ → ℕ
leap_days year = year / 4 + year / 400 - year / 100

-- the leap days before a month: those of the year too, once its February is over
abbrev pub leaps_before : ℕ → ℕ → ℕ
leaps_before year month = if nat_le month 2 then leap_days (year - 1) else leap_days year

-- a day of the calendar, counted
abbrev pub day_number : ℕ → ℕ → ℕ → ℕ
day_number year month day = year * 365 + leaps_before year month + days_before month + day

-- a date of eight digits, counted
abbrev pub date_number : List ℕ → ℕ
date_number text = day_number (number_in text 0 4) (number_in text 4 2) (number_in text 6 2)

abbrev pub clock_number : ℕ → ℕ → ℕ → List ℕ → ℕ
clock_number hour minute second fraction =
    hour * 3600000 + minute * 60000 + second * 1000 + thousandths fraction

-- whether a text is a time
abbrev pub is_time : List ℕ → Bool
is_time text =
    nat_le 17 (length text) && are_time_digits text && has_marks text
    && are_in_range (number_in text 4 2) (number_in text 6 2) (number_in text 9 2)
    (number_in text 12 2) (number_in text 15 2)
    && is_fraction text

-- the time that a text is
unfoldable pub time_of : List ℕ → Option ℕ
time_of text =
    if is_time text
    then Some (date_number text * DAY_LENGTH
    + clock_number (number_in text 9 2) (number_in text 12 2) (number_in text 15 2) (drop 18 text))
    else None

-- a field with a time: missing, no time, or that time
abbrev pub time_reading : Option (List ℕ) → Reading
time_reading None = reading.Missing
time_reading (Some text) = read_as (time_of text)

abbrev pub time_at : ℕ → List Field → Reading
time_at tag fields = time_reading (value_of tag fields)
