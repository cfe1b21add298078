-- The forms of identifiers and quantities.
use Rattle.std.specs.Prelude.{ℕ, Bool, ◌&&◌, ◌==◌, List, length, nat_le, not}
use Rattle.std.specs.List.{list_all}
use Rattle.market_terms.specs.declared.ids.TheConstants.{LONGEST_ID}
use Rattle.market_terms.specs.declared.quantities.TheConstants.Quantity.{MOST}

-- a printing character that may stand in an identifier: 0x21 to 0x7E other than the vertical bar
abbrev pub is_id_character : ℕ → Bool
is_id_character c = (nat_le 33 c && nat_le c 126) && not (c == 124)

-- an identifier that a firm chooses (117, 131, 693, 48, 448): one such character or more, not too
-- many
abbrev pub is_id : List ℕ → Bool
is_id text =
    (nat_le 1 (length text) && nat_le (length text) LONGEST_ID) && list_all is_id_character text

-- a quantity that may be asked or quoted
abbrev pub is_quantity : ℕ → Bool
is_quantity units = nat_le 1 units && nat_le units MOST
