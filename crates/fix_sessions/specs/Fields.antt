-- The fields of a body, whatever stands in it: what is between two SOH is a piece, and the pieces
-- that are a field count.
use Rattle.std.specs.Prelude.{ℕ, ◌+◌, Bool, false, ◌&&◌, ◌==◌, not, List, [], ◌∷◌, length, nat_le, if◌then◌else◌}
use Rattle.std.specs.Prelude.{Option, Some, None, is_some, take, drop, zero, suc}
use Rattle.std.specs.List.{list_all, before_first, before_last, after_first, position}
use Rattle.std.specs.Char.{is_ascii_digit}
use Rattle.std.specs.Str.Parse.{digits_value}
use Rattle.fix_fields.specs.Frame.{Field}

-- what stands before the first SOH, and behind it
abbrev pub front_piece : List ℕ → List ℕ
front_piece body = before_first (λ byte. byte == 1) body

abbrev pub behind_piece : List ℕ → List ℕ
behind_piece body = after_first (λ byte. byte == 1) body

-- the pieces that end with SOH, of bytes that are cut somewhere: what stands before the last SOH
abbrev pub ended_pieces : List ℕ → List ℕ
ended_pieces bytes = before_last (λ byte. byte == 1) bytes

-- where the first equals sign of a piece stands
abbrev pub equals_place : List ℕ → Option ℕ
equals_place piece = position (λ byte. byte == 61) piece

-- whether a text begins with a byte
abbrev pub leads : ℕ → List ℕ → Bool
leads byte [] = false
leads byte (first ∷ rest) = first == byte

-- whether a piece has an equals sign
abbrev pub has_equals : List ℕ → Bool
has_equals piece = is_some (equals_place piece)

-- whether a tag stands before it: 1 to 9 digits, the first not 0
abbrev pub is_tag_text : List ℕ → Bool
is_tag_text digits =
    nat_le 1 (length digits) && nat_le (length digits) 9 && list_all is_ascii_digit digits
    && not (leads 48 digits)

-- the field whose equals sign stands at a place: its tag before it, and its value behind it
abbrev pub field_at : List ℕ → Option ℕ → Option Field
field_at piece None = None
field_at piece (Some place) =
    if is_tag_text (take place piece)
    then Some (digits_value 10 (take place piece), drop (place + 1) piece) else None

-- the field that a piece is, where it is one
abbrev pub piece_field : List ℕ → Option Field
piece_field piece = field_at piece (equals_place piece)

-- onto the fields behind it
abbrev pub onto_fields : Option Field → List Field → List Field
onto_fields None fields = fields
onto_fields (Some field) fields = field ∷ fields

-- the fields of the first pieces: there are no more pieces than bytes
abbrev pub fields_within : ℕ → List ℕ → List Field
fields_within zero body = []
fields_within (suc most) [] = []
fields_within (suc most) (byte ∷ bytes) =
    onto_fields (piece_field (front_piece (byte ∷ bytes))) (fields_within most (behind_piece (byte ∷ bytes)))

-- the fields of a body
unfoldable pub fields_in : List ℕ → List Field
fields_in body = fields_within (length body) body
