-- A stream that is cut into messages, and goes on behind what is garbled. A message is `8=V`, SOH,
-- `9=L`, SOH, L bytes, `10=ccc`, SOH: V is 1 to 16 printable bytes without an equals sign, L 1 to 6
-- digits, and ccc the sum of all bytes before `10=`, modulo 256, in three digits. A message with
-- another sum is passed over whole, so that no byte is summed twice.
use Rattle.std.specs.Prelude.{◌≡◌, ◌≤◌, ℕ, zero, suc, ◌+◌, ◌-◌, ◌%◌, Bool, false, ◌&&◌, ◌==◌, not, List, [], ◌∷◌, length, take, drop, codes, sum}
use Rattle.std.specs.Prelude.{nat_le, nat_lt, if◌then◌else◌}
use Rattle.std.specs.List.{list_all}
use Rattle.std.specs.Char.{is_ascii_digit}
use Rattle.std.specs.Str.{bytes_eq}
use Rattle.std.specs.Str.Parse.{digits_value}
use Rattle.fix_fields.specs.Frame.{end_text, three_digits}
use Rattle.fix_sessions.specs.Fields.{front_piece, ended_pieces}
use Rattle.fix_sessions.specs.declared.cuts.Found.{Found}
use Rattle.fix_sessions.specs.declared.cuts.What.{What}
use Rattle.fix_sessions.specs.declared.cuts.What.TheVariants as what
use Rattle.fix_sessions.specs.declared.cuts.Front.{Front}
use Rattle.fix_sessions.specs.declared.cuts.Front.TheVariants as front
use Rattle.fix_sessions.specs.declared.cuts.TheConstants.{MOST_MESSAGE}

-- a byte of a version: printable, and no equals sign, since where one stands the front of a message
-- is torn and another message begins within it
abbrev pub is_of_version : ℕ → Bool
is_of_version byte = nat_le 32 byte && nat_le byte 126 && not (byte == 61)

-- whether bytes and a text are the same as far as both go
abbrev pub agrees : List ℕ → List ℕ → Bool
agrees bytes text = bytes_eq (take (length text) bytes) (take (length bytes) text)

-- whether an SOH stands in bytes
abbrev pub has_soh : List ℕ → Bool
has_soh bytes = not (length (front_piece bytes) == length bytes)

-- where BeginString (8) of bytes that begin a message has to end, its value, and what stands behind it
abbrev pub near_version : List ℕ → List ℕ
near_version bytes = take 17 (drop 2 bytes)

abbrev pub version_of : List ℕ → List ℕ
version_of bytes = front_piece (near_version bytes)

abbrev pub behind_version : List ℕ → List ℕ
behind_version bytes = drop (length (version_of bytes) + 1) (drop 2 bytes)

-- the same of BodyLength (9)
abbrev pub near_length : List ℕ → List ℕ
near_length bytes = take 10 (drop 2 (behind_version bytes))

abbrev pub length_text : List ℕ → List ℕ
length_text bytes = front_piece (near_length bytes)

abbrev pub behind_length : List ℕ → List ℕ
behind_length bytes = drop (length (length_text bytes) + 1) (drop 2 (behind_version bytes))

abbrev pub is_version : List ℕ → Bool
is_version text = nat_le 1 (length text) && nat_le (length text) 16 && list_all is_of_version text

-- a BodyLength that is begun, or whole
abbrev pub are_digits : List ℕ → Bool
are_digits text = nat_le (length text) 9 && list_all is_ascii_digit text

-- how long the message is that bytes begin
abbrev pub whole_len : List ℕ → ℕ
whole_len bytes =
    length (version_of bytes) + length (length_text bytes) + digits_value 10 (length_text bytes) + 13

-- the body of the message that bytes begin, and the sum of what stands before its CheckSum
abbrev pub body_of : List ℕ → List ℕ
body_of bytes = take (digits_value 10 (length_text bytes)) (behind_length bytes)

abbrev pub sum_of : List ℕ → ℕ
sum_of bytes = sum (take (whole_len bytes - 7) bytes) % 256

-- what is read of a message that is too long: the fields that end with SOH among its first 65,536 bytes
abbrev pub read_of_long : List ℕ → List ℕ
read_of_long bytes = ended_pieces (behind_length (take MOST_MESSAGE bytes))

-- what stands where the message that bytes begin has its CheckSum
abbrev pub end_of : List ℕ → List ℕ
end_of bytes = take 7 (drop (whole_len bytes - 7) bytes)

-- whether it is one: `10=`, three digits and SOH
abbrev pub is_end : List ℕ → Bool
is_end text =
    bytes_eq (take 3 text) (codes "10=") && list_all is_ascii_digit (take 3 (drop 3 text))
    && bytes_eq (drop 6 text) (1 ∷ [])

-- and one with this sum
abbrev pub has_sum : List ℕ → ℕ → Bool
has_sum text sum = bytes_eq text (end_text (three_digits sum))

-- what bytes begin of which as many stand there as a message has
abbrev pub front_by_end : List ℕ → Front
front_by_end bytes =
    if not (is_end (end_of bytes)) then front.Garbled
    else if has_sum (end_of bytes) (sum_of bytes) then front.Whole (whole_len bytes)
    else front.Wrong (whole_len bytes)

-- what bytes begin whose BodyLength is whole
abbrev pub front_by_len : List ℕ → Front
front_by_len bytes =
    if nat_lt MOST_MESSAGE (whole_len bytes)
    then (if nat_lt (length bytes) MOST_MESSAGE then front.Begun else front.TooLong)
    else if nat_lt 6 (length (length_text bytes)) then front.Garbled
    else if nat_lt (length bytes) (whole_len bytes) then front.Begun
    else front_by_end bytes

-- whose BeginString is whole
abbrev pub front_by_length : List ℕ → Front
front_by_length bytes =
    let rest = behind_version bytes in
    if not (agrees rest (codes "9=") && are_digits (length_text bytes)) then front.Garbled
    else if not (has_soh (near_length bytes)) then front.Begun
    else if length (length_text bytes) == 0 then front.Garbled
    else front_by_len bytes

-- what stands at the front of bytes
unfoldable pub front_of : List ℕ → Front
front_of bytes =
    if not (agrees bytes (codes "8=")) then front.Garbled
    else if nat_le (length bytes) 2 then front.Begun
    else if not (is_version (version_of bytes)) then front.Garbled
    else if not (has_soh (near_version bytes)) then front.Begun
    else front_by_length bytes

-- what bytes begin that is all there is no longer than they are
abbrev pub IsThere : List ℕ → Front → Type 0
IsThere bytes (front.Whole len) = (len ≡ whole_len bytes) × ((1 ≤ len) × (len ≤ length bytes))
IsThere bytes (front.Wrong len) = (1 ≤ len) × (len ≤ length bytes)
IsThere bytes other = Unit {0}

abbrev pub found_at : ℕ → What → Found
found_at skip what = record { skip = skip; what = what }

-- garbled bytes before the others
abbrev pub behind : ℕ → Found → Found
behind count rest = record rest { skip = count + rest.skip }

-- how many bytes are passed over: a message with a wrong sum whole, and else one byte
abbrev pub passed_over : Front → ℕ
passed_over (front.Wrong len) = len
passed_over other = 1

-- what is found first: behind the garbled bytes before it
abbrev pub found_by : Front → Found → Found
found_by front.Begun rest = found_at 0 what.Nothing
found_by front.Garbled rest = behind 1 rest
found_by (front.Wrong len) rest = behind len rest
found_by (front.Whole len) rest = found_at 0 (what.Message len)
found_by front.TooLong rest = found_at 0 what.TooLong

-- what is found in at most so many steps: each passes over a byte at least
abbrev pub found_within : ℕ → List ℕ → Found
found_within zero bytes = found_at 0 what.Nothing
found_within (suc most) [] = found_at 0 what.Nothing
found_within (suc most) (byte ∷ bytes) =
    found_by (front_of (byte ∷ bytes))
    (found_within most (drop (passed_over (front_of (byte ∷ bytes)) - 1) bytes))

unfoldable pub next_message : List ℕ → Found
next_message bytes = found_within (length bytes) bytes

-- whether bytes are one message, and nothing more
abbrev pub is_whole : Front → List ℕ → Bool
is_whole (front.Whole len) bytes = len == length bytes
is_whole other bytes = false
