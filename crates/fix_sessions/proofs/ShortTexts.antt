-- A short text may stand as the value of a field.
use Rattle.std.proofs.Common.{◌≡◌, ◌≢◌, ℕ, ◌&&◌, ◌==◌, Bool, true, List, length, nat_le, not, arith}
use Rattle.std.proofs.lemmas.Bool.{and_parts}
use Rattle.std.proofs.lemmas.Bool.Decides.{nat_tests}
use Rattle.fix_fields.specs.Frame.{IsValue, is_value}
use Rattle.fix_fields.specs.TextLaws.{value_if_all}
use Rattle.fix_sessions.specs.Texts.{is_text}
use Rattle.fix_sessions.specs.declared.texts.TheConstants.{MOST_TEXT}

apart : (c : ℕ) → not (c == 1) ≡ true → c ≢ 1
apart c h = λ e. grind (arith, nat_tests)

all_characters : (text : List ℕ) → is_text text ≡ true → is_value text ≡ true
all_characters text h =
    let has_room : Bool = nat_le 1 (length text) && nat_le (length text) MOST_TEXT in
    (and_parts has_room (is_value text) h).1

pub text_is_value : (text : List ℕ) → is_text text ≡ true → IsValue text
text_is_value text h = value_if_all (λ c. not (c == 1)) apart text (all_characters text h)
