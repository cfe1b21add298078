-- What is wrong with the form of a message: the first that holds, from the left.
use Rattle.std.specs.Prelude.{ℕ, ◌+◌, ◌-◌, Bool, ◌&&◌, ◌||◌, ◌==◌, not, List, [], ◌∷◌, length, take, drop, get_or, nat_le, nat_lt, if◌then◌else◌}
use Rattle.std.specs.Prelude.{codes, Option, Some, None, zero, suc}
use Rattle.std.specs.List.{list_all}
use Rattle.std.specs.Char.{is_ascii_digit, is_ascii_alphanumeric}
use Rattle.fix_fields.specs.Frame.{Field, value_of, times_of}
use Rattle.fix_sessions.specs.Fields.{front_piece, behind_piece, has_equals, piece_field, fields_in}
use Rattle.fix_sessions.specs.Texts.{has_text}
use Rattle.fix_sessions.specs.declared.turns.Fault.{Fault}

abbrev pub fault_at : ℕ → ℕ → Option Fault
fault_at tag reason = Some (record { tag = Some tag; reason = reason })

-- the first of two faults
abbrev pub or_else : Option Fault → Option Fault → Option Fault
or_else None other = other
or_else (Some fault) other = Some fault

-- a MsgType (35): 1 to 4 letters or digits
abbrev pub is_msg_type : List ℕ → Bool
is_msg_type text =
    nat_le 1 (length text) && nat_le (length text) 4 && list_all is_ascii_alphanumeric text

-- the fields that a session reads, each at most once: of the header, of a Logon, and of the other
-- messages of a session
abbrev pub is_read : ℕ → Bool
is_read tag =
    (tag == 35) || (tag == 49) || (tag == 56) || (tag == 34) || (tag == 52) || (tag == 43)
    || (tag == 97) || (tag == 122) || (tag == 50) || (tag == 57) || (tag == 553) || (tag == 554)
    || (tag == 98) || (tag == 108) || (tag == 141) || (tag == 789) || (tag == 1137) || (tag == 7)
    || (tag == 16) || (tag == 36) || (tag == 112) || (tag == 123)

-- BeginString, BodyLength and CheckSum stand outside the body
abbrev pub is_outside : ℕ → Bool
is_outside tag = (tag == 8) || (tag == 9) || (tag == 10)

-- whether a field that the session reads stands among others already
abbrev pub is_again : ℕ → List Field → Bool
is_again tag before = is_read tag && nat_lt 0 (times_of tag before)

-- what is wrong with a field that stands behind these bytes of a body
abbrev pub field_flaw : List ℕ → Field → Option Fault
field_flaw before field =
    if (length before == 0) && not (field.0 == 35) then fault_at field.0 14
    else if is_outside field.0 then fault_at field.0 13
    else if is_again field.0 (fields_in before) then fault_at field.0 13
    else if (field.0 == 35) && not (is_msg_type field.1) then fault_at 35 11
    else if (field.0 == 112) && nat_lt 1024 (length field.1) then fault_at 112 5
    else None

-- the tag of the last of some fields, or of one before them
abbrev pub last_of : Option ℕ → List Field → Option ℕ
last_of tag [] = tag
last_of tag (field ∷ fields) = last_of (Some field.0) fields

abbrev pub last_tag : List Field → Option ℕ
last_tag fields = last_of None fields

-- what is wrong with a piece that is no field
abbrev pub no_field : List ℕ → List ℕ → Fault
no_field before piece =
    if has_equals piece then record { tag = None; reason = 0 }
    else record { tag = last_tag (fields_in before); reason = 17 }

abbrev pub piece_flaw_as : List ℕ → List ℕ → Option Field → Option Fault
piece_flaw_as before piece None = Some (no_field before piece)
piece_flaw_as before piece (Some field) = field_flaw before field

abbrev pub piece_flaw : List ℕ → List ℕ → Option Fault
piece_flaw before piece = piece_flaw_as before piece (piece_field piece)

-- what is wrong with the pieces of a body from a place on, in at most so many steps: each passes over
-- a byte at least
abbrev pub flaw_from : ℕ → List ℕ → ℕ → Option Fault
flaw_from zero body at = None
flaw_from (suc most) body at =
    if nat_le (length body) at then None
    else or_else (piece_flaw (take at body) (front_piece (drop at body)))
    (flaw_from most body (at + (length (front_piece (drop at body)) + 1)))

-- whether a text ends with SOH
abbrev pub is_closed : List ℕ → Bool
is_closed text = (length text == 0) || (get_or text (length text - 1) 0 == 1)

-- what is wrong with the form of a body
abbrev pub form_flaw : List ℕ → Option Fault
form_flaw body =
    if times_of 35 (fields_in body) == 0 then fault_at 35 1
    else or_else (flaw_from (length body) body 0)
    (if is_closed body then None else Some (record { tag = last_tag (fields_in body); reason = 6 }))

-- The values of what the session reads of its own messages.

abbrev pub number_flaw : ℕ → Option (List ℕ) → Option Fault
number_flaw tag None = None
number_flaw tag (Some []) = fault_at tag 4
number_flaw tag (Some (digit ∷ digits)) =
    if nat_le (length (digit ∷ digits)) 9 && list_all is_ascii_digit (digit ∷ digits) then None
    else fault_at tag 6

abbrev pub some_flaw : ℕ → Option (List ℕ) → Option Fault
some_flaw tag None = None
some_flaw tag (Some []) = fault_at tag 4
some_flaw tag (Some (byte ∷ bytes)) = None

abbrev pub letter_flaw : ℕ → List Field → Option Fault
letter_flaw tag fields =
    if (times_of tag fields == 0) || has_text tag (codes "Y") fields || has_text tag (codes "N") fields
    then None else fault_at tag 6

abbrev pub flag_flaw : ℕ → List Field → Option Fault
flag_flaw tag fields = or_else (some_flaw tag (value_of tag fields)) (letter_flaw tag fields)

abbrev pub value_flaw : List Field → Option Fault
value_flaw fields =
    or_else (number_flaw 7 (value_of 7 fields))
    (or_else (number_flaw 16 (value_of 16 fields))
    (or_else (number_flaw 36 (value_of 36 fields))
    (or_else (some_flaw 112 (value_of 112 fields)) (flag_flaw 123 fields))))

-- The length of a message without what a resend adds.

abbrev pub is_added : ℕ → Bool
is_added tag = (tag == 43) || (tag == 97) || (tag == 122)

abbrev pub added_len : ℕ → Option Field → ℕ
added_len len None = 0
added_len len (Some field) = if is_added field.0 then len else 0

abbrev pub added_within : ℕ → List ℕ → ℕ
added_within zero body = 0
added_within (suc most) [] = 0
added_within (suc most) (byte ∷ bytes) =
    let rest = byte ∷ bytes in
    added_len (length rest - length (behind_piece rest)) (piece_field (front_piece rest))
    + added_within most (behind_piece rest)

abbrev pub length_flaw : ℕ → List ℕ → Option Fault
length_flaw whole body =
    if nat_lt 4096 (whole - added_within (length body) body) then fault_at 9 5 else None

-- what is wrong with a message of this length and this body
unfoldable pub flaw_of : ℕ → List ℕ → Option Fault
flaw_of whole body =
    or_else (form_flaw body) (or_else (length_flaw whole body) (value_flaw (fields_in body)))
