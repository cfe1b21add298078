-- What the form of an identifier implies: it is ASCII, so it is UTF-8, is short and has no SOH.
use Rattle.std.proofs.Common.{◌≡◌, ◌≢◌, ℕ, ◌<◌, ◌≤◌, Bool, true, List, length, ◌&&◌, nat_le, arith}
use Rattle.std.specs.List.{list_all}
use Rattle.fix_fields.specs.Frame.{IsValue}
use Rattle.fix_fields.specs.TextLaws.{utf8_if_all, value_if_all}
use Rattle.std.specs.Str.{IsUtf8}
use Rattle.std.proofs.lemmas.Bool.{and_parts}
use Rattle.std.proofs.lemmas.Bool.Decides.{nat_tests}
use Rattle.market_terms.specs.declared.ids.TheConstants.{LONGEST_ID}
use Rattle.market_terms.specs.Texts.{is_id, is_id_character}

pub id_character-low : (c : ℕ) → is_id_character c ≡ true → c < 128
id_character-low c h = grind (arith, nat_tests)

id_character-apart : (c : ℕ) → is_id_character c ≡ true → c ≢ 1
id_character-apart c h = λ e. grind (arith, nat_tests)

all_characters : (text : List ℕ) → is_id text ≡ true → list_all is_id_character text ≡ true
all_characters text h =
    let has_room : Bool = nat_le 1 (length text) && nat_le (length text) LONGEST_ID in
    (and_parts has_room (list_all is_id_character text) h).1

pub id_is_utf8 : (text : List ℕ) → is_id text ≡ true → IsUtf8 text
id_is_utf8 text h = utf8_if_all is_id_character id_character-low text (all_characters text h)

pub id_is_short : (text : List ℕ) → is_id text ≡ true → length text ≤ 40
id_is_short text h = grind (arith, nat_tests, and_parts)

pub id_is_value : (text : List ℕ) → is_id text ≡ true → IsValue text
id_is_value text h = value_if_all is_id_character id_character-apart text (all_characters text h)
