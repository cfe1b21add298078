-- What C is told of a frame.
use Rattle.std.specs.Prelude.{◌≡◌, ℕ, ◌+◌, ◌-◌, ◌%◌, ◌^◌, List, [], ◌∷◌, ◌++◌, length, drop}
use Rattle.std.specs.Prelude.{Option, Some, None}
use Rattle.fix_fields.specs.Frame.{Field, value_of, fields_text}
use Rattle.fix_fields.specs.Envelope.{Cutting}

-- 1 for a frame
abbrev pub is_frame_code : Option (List Field) → ℕ
is_frame_code None = 0
is_frame_code (Some fields) = 1

-- one more than a length, and 0 for no value
abbrev pub len_code : Option (List ℕ) → ℕ
len_code None = 0
len_code (Some value) = length value + 1

-- the same of the first value of a tag
abbrev pub found_len : ℕ → Option (List Field) → ℕ
found_len tag None = 0
found_len tag (Some fields) = len_code (value_of tag fields)

-- a field where it stands, and the fields behind it
pub record Placed : Type 0 where
  pub field : Field
  pub behind : List Field

-- the first of some fields
abbrev pub first_of : List Field → Option Placed
first_of [] = None
first_of (field ∷ fields) = Some (record { field = field; behind = fields })

-- the field that stands behind n others
abbrev pub field_at : ℕ → Option (List Field) → Option Placed
field_at n None = None
field_at n (Some fields) = first_of (drop n fields)

-- its tag, and 0 where there is none
abbrev pub tag_code : Option Placed → ℕ
tag_code None = 0
tag_code (Some placed) = placed.field.0

-- one more than the length of its value, and 0 where there is none
abbrev pub placed_len : Option Placed → ℕ
placed_len None = 0
placed_len (Some placed) = length placed.field.1 + 1

-- One more than where its value begins among the bytes of the frame, and 0 where there is none.
-- Behind the value stand its SOH, the other fields, and the seven bytes of CheckSum.
abbrev pub place_code : List ℕ → Option Placed → ℕ
place_code bytes None = 0
place_code bytes (Some placed) =
    length bytes - (length placed.field.1 + length (fields_text placed.behind) + 7)

-- a value stands in bytes behind so many others, and SOH behind it
pub record StandsAt (bytes value : List ℕ) (place : ℕ) : Type 0 where
  pub before : List ℕ
  pub behind : List ℕ
  pub text : bytes ≡ before ++ (value ++ (1 ∷ behind))
  pub is : place ≡ length before + 1

-- how many messages there are, in 64 bits
abbrev pub count_code : Cutting → ℕ
count_code cutting = length cutting.messages % 2 ^ 64
