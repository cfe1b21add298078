-- A frame of FIXT.1.1: a list of fields, and the bytes that it is written as. The definitions build
-- texts from fields. Bytes are numbers below 256; SOH is the byte 1, and an equals sign 61.
use Rattle.std.specs.Prelude.{◌≡◌, ◌≢◌, ℕ, ◌+◌, ◌-◌, ◌/◌, ◌%◌, ◌<◌, ◌≤◌, ◌==◌, ◌&&◌, Bool, false}
use Rattle.std.specs.Prelude.{not, List, [], ◌∷◌, ◌++◌, length, take, drop, codes, decimal, sum}
use Rattle.std.specs.Prelude.{count_by, map, if◌then◌else◌, nat_lt, nat_le, Option, Some, None}
use Rattle.std.specs.List.{AllByRecursion, list_all, before_first, after_first, onto_first}
use Rattle.std.specs.Str.{bytes_eq, all_ascii_digits}
use Rattle.std.specs.Str.Parse.{AllDigits, digits_value}
use Rattle.fix_fields.specs.declared.limits.TheConstants.{MOST_FRAME, MOST_BODY}

-- a field: its tag and the bytes of its value
abbrev pub Field : Type 0
Field = ℕ × List ℕ

-- A tag that may stand in a body: 1 to 9 digits and no leading zero, and not that of BeginString
-- (8), BodyLength (9) or CheckSum (10).
abbrev pub IsTag : ℕ → Type 0
IsTag tag = (0 < tag) × (tag < 1000000000) × (tag ≢ 8) × (tag ≢ 9) × (tag ≢ 10)

-- a value may be empty, and has no SOH
abbrev pub IsValue : List ℕ → Type 0
IsValue value = AllByRecursion (λ byte. byte ≢ 1) value

-- a field that may stand in a body
abbrev pub IsField : Field → Type 0
IsField field = IsTag field.0 × IsValue field.1

-- a body is one or more fields, and the first is MsgType (35)
abbrev pub AreBody : List Field → Type 0
AreBody [] = ⊥
AreBody (field ∷ fields) = (field.0 ≡ 35) × AllByRecursion IsField (field ∷ fields)

-- a field as it is written: the tag without leading zeros, an equals sign, the value, and SOH
abbrev pub field_text : Field → List ℕ
field_text field = decimal field.0 ++ (61 ∷ (field.1 ++ (1 ∷ [])))

-- fields as they are written, one behind the other
abbrev pub fields_text : List Field → List ℕ
fields_text [] = []
fields_text (field ∷ fields) = field_text field ++ fields_text fields

-- the text spells the field with this tag: the field is written as the text, and SOH
pub record Spells (text : List ℕ) (tag : ℕ) : Type 0 where
  pub value : List ℕ
  pub lawful : IsField (tag, value)
  pub is : text ≡ decimal tag ++ (61 ∷ value)

-- how many fields have this tag
abbrev pub times_of : ℕ → List Field → ℕ
times_of tag fields = count_by (λ field. field.0 == tag) fields

-- the value of the first field with this tag
abbrev pub value_of : ℕ → List Field → Option (List ℕ)
value_of tag [] = None
value_of tag (field ∷ fields) = if field.0 == tag then Some field.1 else value_of tag fields

-- `8=FIXT.1.1`, SOH, `9=`: BeginString (8), and the tag of BodyLength (9)
abbrev pub start_text : List ℕ
start_text = codes "8=FIXT.1.1" ++ (1 ∷ codes "9=")

-- BeginString, BodyLength and the body
abbrev pub front_text : List ℕ → List ℕ → List ℕ
front_text length_digits body = start_text ++ (length_digits ++ (1 ∷ body))

-- CheckSum (10), the last field
abbrev pub end_text : List ℕ → List ℕ
end_text sum_digits = codes "10=" ++ (sum_digits ++ (1 ∷ []))

-- 1 to 6 digits, leading zeros allowed, that are n
pub record IsLength (digits : List ℕ) (n : ℕ) : Type 0 where
  pub all_digits : AllDigits 10 digits
  pub some : 0 < length digits
  pub few : length digits ≤ 6
  pub value : digits_value 10 digits ≡ n

-- three digits
pub record AreSumDigits (digits : List ℕ) : Type 0 where
  pub all_digits : AllDigits 10 digits
  pub three : length digits ≡ 3

-- Bytes are a frame of these fields: they are the text that the fields make, with some digits that
-- write the length of the body, and with three digits that write the sum of all bytes before
-- CheckSum, modulo 256. A frame has at most 4,096 bytes.
pub record IsFrame (bytes : List ℕ) (fields : List Field) : Type 0 where
  pub body : AreBody fields
  pub length_digits : List ℕ
  pub sum_digits : List ℕ
  pub length_is : IsLength length_digits (length (fields_text fields))
  pub sum_is : AreSumDigits sum_digits
  pub sum_value : digits_value 10 sum_digits
      ≡ sum (front_text length_digits (fields_text fields)) % 256
  pub text : bytes ≡ front_text length_digits (fields_text fields) ++ end_text sum_digits
  pub fits : length bytes ≤ MOST_FRAME

-- a number below 1,000 in three digits
abbrev pub three_digits : ℕ → List ℕ
three_digits n = (48 + n / 100) ∷ ((48 + n / 10 % 10) ∷ ((48 + n % 10) ∷ []))

-- The frame of these fields as it is written: the length without leading zeros, the sum in three
-- digits.
unfoldable pub frame_text : List Field → List ℕ
frame_text fields =
    let front = front_text (decimal (length (fields_text fields))) (fields_text fields) in
    front ++ end_text (three_digits (sum front % 256))

-- How many digits a number below 10 ^ 20 has in decimal.
abbrev pub decimal_len : ℕ → ℕ
decimal_len n =
    if nat_lt n 10 then 1 else if nat_lt n 100 then 2 else if nat_lt n 1000 then 3
    else if nat_lt n 10000 then 4 else if nat_lt n 100000 then 5 else if nat_lt n 1000000 then 6
    else if nat_lt n 10000000 then 7 else if nat_lt n 100000000 then 8
    else if nat_lt n 1000000000 then 9
    else if nat_lt n 10000000000 then 10 else if nat_lt n 100000000000 then 11
    else if nat_lt n 1000000000000 then 12 else if nat_lt n 10000000000000 then 13
    else if nat_lt n 100000000000000 then 14 else if nat_lt n 1000000000000000 then 15
    else if nat_lt n 10000000000000000 then 16 else if nat_lt n 100000000000000000 then 17
    else if nat_lt n 1000000000000000000 then 18
    else if nat_lt n 10000000000000000000 then 19 else 20

-- how many bytes a field takes whose value has this length
abbrev pub field_len : ℕ → ℕ → ℕ
field_len tag value_len = decimal_len tag + value_len + 2

-- how many bytes fields take
unfoldable pub fields_len : List Field → ℕ
fields_len fields = length (fields_text fields)

-- how many bytes still fit into a body
unfoldable pub left_of : List Field → ℕ
left_of fields = MOST_BODY - fields_len fields

-- Cutting: total functions that say where the parts of a frame would stand in any bytes.

-- the pieces that an SOH ends, and what stands behind the last
unfoldable pub pieces_of : List ℕ → List (List ℕ)
pieces_of [] = []
pieces_of (byte ∷ bytes) =
    if byte == 1 then [] ∷ pieces_of bytes else onto_first byte (pieces_of bytes)

-- a piece as tag and value, cut at its first equals sign
unfoldable pub field_of : List ℕ → Field
field_of piece = (
  digits_value 10 (before_first (λ byte. byte == 61) piece),
  after_first (λ byte. byte == 61) piece,
)

-- the fields that a body would have
unfoldable pub fields_of : List ℕ → List Field
fields_of body = map field_of (pieces_of body)

-- The tests of what the facts above say, as answers.

-- of a tag
abbrev pub is_tag : ℕ → Bool
is_tag tag =
    nat_lt 0 tag && nat_lt tag 1000000000 && not (tag == 8) && not (tag == 9) && not (tag == 10)

-- of a value
abbrev pub is_value : List ℕ → Bool
is_value value = list_all (λ byte. not (byte == 1)) value

-- of a field
abbrev pub is_field : Field → Bool
is_field field = is_tag field.0 && is_value field.1

-- of the fields of a body
abbrev pub are_body : List Field → Bool
are_body [] = false
are_body (field ∷ fields) = (field.0 == 35) && list_all is_field (field ∷ fields)

-- of the digits of BodyLength (9): 1 to 6 that write this length
abbrev pub are_length_digits : List ℕ → ℕ → Bool
are_length_digits digits n =
    all_ascii_digits digits && nat_lt 0 (length digits) && nat_le (length digits) 6
    && (digits_value 10 digits == n)

-- of the digits of CheckSum (10): three that write this sum
abbrev pub are_sum_digits : List ℕ → ℕ → Bool
are_sum_digits digits n =
    all_ascii_digits digits && (length digits == 3) && (digits_value 10 digits == n)

-- whether bytes are the frame that these digits and these fields build
unfoldable pub builds : List ℕ → List ℕ → List ℕ → List Field → Bool
builds bytes length_digits sum_digits fields =
    let front = front_text length_digits (fields_text fields) in
    are_body fields && are_length_digits length_digits (length (fields_text fields))
    && are_sum_digits sum_digits (sum front % 256) && bytes_eq bytes (front ++ end_text sum_digits)
    && nat_le (length bytes) MOST_FRAME

-- where the digits of BodyLength would stand
unfoldable pub length_digits_of : List ℕ → List ℕ
length_digits_of bytes = before_first (λ byte. byte == 1) (drop 13 bytes)

-- where the body would stand: behind BodyLength, up to the last seven bytes
unfoldable pub body_of : List ℕ → List ℕ
body_of bytes =
    let behind = after_first (λ byte. byte == 1) (drop 13 bytes) in
    take (length behind - 7) behind

-- where the digits of CheckSum would stand
unfoldable pub sum_digits_of : List ℕ → List ℕ
sum_digits_of bytes = take 3 (drop (length bytes - 4) bytes)

-- The fields of the frame that these bytes are, or none: the bytes are cut, and are a frame exactly
-- where what was cut builds them.
unfoldable pub frame_of : List ℕ → Option (List Field)
frame_of bytes =
    let fields = fields_of (body_of bytes) in
    if builds bytes (length_digits_of bytes) (sum_digits_of bytes) fields then Some fields else None
