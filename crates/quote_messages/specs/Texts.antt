-- The forms of the short texts and numbers of a message.
use Rattle.std.specs.Prelude.{ℕ, ◌+◌, Bool, ◌&&◌, ◌==◌, List, length, nat_le, Option, Some, None}
use Rattle.std.specs.Prelude.{if◌then◌else◌}
use Rattle.std.specs.List.{list_all}
use Rattle.std.specs.Str.Parse.{digits_value}
use Rattle.std.specs.Char.{is_ascii_digit, is_ascii_alphanumeric}

-- the number that 1 to most digits write, and nothing for another text
abbrev pub number_up_to : ℕ → List ℕ → Option ℕ
number_up_to most text =
    if (nat_le 1 (length text) && nat_le (length text) most) && list_all is_ascii_digit text
    then Some (digits_value 10 text) else None

-- a number in a message: 1 to 9 digits
abbrev pub number_of : List ℕ → Option ℕ
number_of text = number_up_to 9 text

-- the point of a decimal number
abbrev pub is_point : ℕ → Bool
is_point c = c == 46

-- a quantity: 1 to 15 digits with at most one point
abbrev pub has_quantity_form : List ℕ → List ℕ → Bool
has_quantity_form whole decimals =
    (nat_le 1 (length whole + length decimals) && nat_le (length whole + length decimals) 15)
    && (list_all is_ascii_digit whole && list_all is_ascii_digit decimals)

-- a readable MsgSeqNum (34): 1 to 9 digits that write at least 1
abbrev pub is_sequence_number : List ℕ → Bool
is_sequence_number text = ((nat_le 1 (length text) && nat_le (length text) 9)
    && list_all is_ascii_digit text) && nat_le 1 (digits_value 10 text)

-- a MsgType (35) that a Reject repeats: 1 to 4 letters or digits
abbrev pub is_msg_type : List ℕ → Bool
is_msg_type text = (nat_le 1 (length text) && nat_le (length text) 4)
    && list_all is_ascii_alphanumeric text
