-- Messages that a firm sends, as a line spells them: field by field, `TRADER TIME TYPE BODY` behind
-- `say`, byte by byte, `TIME FRAME` behind `own`, or digit by digit, `TIME HEX` behind `hex`.
use Rattle.std.specs.Prelude.{ℕ, Bool, false, ◌&&◌, ◌||◌, ◌==◌, not, List, [], ◌∷◌, ◌++◌}
use Rattle.std.specs.Prelude.{length, map, nat_le, codes, decimal, Option, Some, None}
use Rattle.std.specs.Prelude.{if◌then◌else◌}
use Rattle.std.specs.Option.{option_map}
use Rattle.std.specs.List.{list_all, list_any, before_first, after_first}
use Rattle.std.specs.Result.{result_ok}
use Rattle.hex.specs.Hex.{decode_of}
use Rattle.fix_fields.specs.Frame.{Field, frame_text, fields_len}
use Rattle.fix_fields.specs.UtcTimestamp.{timestamp_text}
use Rattle.quote_messages.specs.Texts.{number_of}
use Rattle.input_lines.specs.Lines.{parts_of, first_part, behind_part, time_of}
use Rattle.input_lines.specs.OptionSteps.{◌>>=◌}
use Rattle.input_lines.specs.declared.say_frames.TheConstants.{LONGEST_BODY}

-- a tag may not begin with the digit 0
abbrev pub begins_with_zero : List ℕ → Bool
begins_with_zero [] = false
begins_with_zero (c ∷ text) = c == 48

-- 0 is no tag, and those of BeginString, BodyLength and CheckSum stand in no body
abbrev pub is_no_body_tag : ℕ → Bool
is_no_body_tag tag = (tag == 0) || (tag == 8) || (tag == 9) || (tag == 10)

-- the tag of a field: 1 to 9 digits, no leading zero, and not one of those three
abbrev pub tag_of : List ℕ → Option ℕ
tag_of digits =
    if begins_with_zero digits then None
    else do
      tag ← number_of digits
      if is_no_body_tag tag then None else Some tag

-- a value has no SOH
abbrev pub is_plain_value : List ℕ → Bool
is_plain_value value = list_all (λ c. not (c == 1)) value

-- what stands before the first equals sign
abbrev pub before_equals : List ℕ → List ℕ
before_equals text = before_first (λ c. c == 61) text

-- what stands behind it
abbrev pub behind_equals : List ℕ → List ℕ
behind_equals text = after_first (λ c. c == 61) text

-- a field as BODY spells it: a tag, an equals sign, and a value
abbrev pub said_field : List ℕ → Option Field
said_field text =
    if length (before_equals text) == length text then None
    else if not (is_plain_value (behind_equals text)) then None
    else do
      tag ← tag_of (before_equals text)
      Some (tag, behind_equals text)

-- the fields that texts spell, where each spells one
abbrev pub fields_in : List (List ℕ) → Option (List Field)
fields_in [] = Some []
fields_in (text ∷ texts) = do
  field ← said_field text
  fields ← fields_in texts
  Some (field ∷ fields)

-- the fields of BODY: vertical bars divide them, and one may stand at the end
abbrev pub said_fields : List ℕ → Option (List Field)
said_fields body = fields_in (parts_of 124 body)

-- a character other than a vertical bar and SOH
abbrev pub is_plain_character : ℕ → Bool
is_plain_character c = not (c == 124) && not (c == 1)

-- TRADER or TYPE: a part of such characters, not empty
abbrev pub is_plain_part : List ℕ → Bool
is_plain_part part = not (length part == 0) && list_all is_plain_character part

-- what a `say` line says
pub record SayLine : Type 0 where
  pub trader : List ℕ
  pub moment : ℕ
  pub msg_type : List ℕ
  pub fields : List Field

-- TRADER TIME TYPE BODY, where each is of its form: BODY is the rest of the line and not empty
unfoldable pub said_of : List ℕ → List ℕ → Option SayLine
said_of date text = do
  let trader = first_part text
  let behind_trader = behind_part text
  let behind_time = behind_part behind_trader
  let msg_type = first_part behind_time
  let body = behind_part behind_time
  moment ← time_of date (first_part behind_trader)
  fields ← said_fields body
  let said : SayLine = record {
    trader = trader;
    moment = moment;
    msg_type = msg_type;
    fields = fields;
  }
  let is_said = is_plain_part trader && is_plain_part msg_type && not (length body == 0)
  if is_said then Some said else None

-- whether a field of these has the tag
abbrev pub has_tag : List Field → ℕ → Bool
has_tag fields tag = list_any (λ field. field.0 == tag) fields

-- a field of the header, which a field of BODY with its tag replaces
abbrev pub header_field : List Field → ℕ → List ℕ → List Field
header_field body tag value = if has_tag body tag then [] else (tag, value) ∷ []

-- the fields behind MsgType (35): SenderCompID (49), TargetCompID (56), MsgSeqNum (34), SendingTime
-- (52) and SenderSubID (50), each unless BODY has it, and then BODY
abbrev pub fields_behind_type : List ℕ → List ℕ → ℕ → SayLine → List Field
fields_behind_type date firm number said =
    header_field said.fields 49 firm
    ++ header_field said.fields 56 (codes "VENUE")
    ++ header_field said.fields 34 (decimal number)
    ++ header_field said.fields 52 (timestamp_text date said.moment)
    ++ header_field said.fields 50 said.trader
    ++ said.fields

-- fields that fit into a frame
unfoldable pub fitting : List Field → Option (List Field)
fitting fields = if nat_le (fields_len fields) LONGEST_BODY then Some fields else None

-- such fields and one more, where they still fit
unfoldable pub with_field : Option (List Field) → Field → Option (List Field)
with_field fields field = do
  before ← fields
  fitting (before ++ field ∷ [])

-- the message that the firm sends: the frame of its type and of the fields behind it, where it is
-- not too long
abbrev pub said_message : List ℕ → List ℕ → ℕ → SayLine → Option (List ℕ)
said_message date firm number said =
    option_map frame_text (fitting ((35, said.msg_type) ∷ fields_behind_type date firm number said))

-- a byte of FRAME: SOH for a vertical bar
abbrev pub soh_for_bar : ℕ → ℕ
soh_for_bar c = if c == 124 then 1 else c

-- a vertical bar stands for SOH
abbrev pub with_bar : ℕ → ℕ
with_bar c = if c == 1 then 124 else c

-- TIME FRAME: a message that comes byte by byte, the rest of the line and not empty
unfoldable pub received_of : List ℕ → List ℕ → Option (ℕ × List ℕ)
received_of date text = do
  let frame = behind_part text
  moment ← time_of date (first_part text)
  if length frame == 0 then None else Some (moment, map soh_for_bar frame)

-- TIME HEX: a message that comes digit by digit, two hexadecimal digits of either case a byte; HEX
-- is the rest of the line and not empty
unfoldable pub hexed_of : List ℕ → List ℕ → Option (ℕ × List ℕ)
hexed_of date text = do
  let digits = behind_part text
  moment ← time_of date (first_part text)
  message ← result_ok (decode_of digits)
  if length digits == 0 then None else Some (moment, message)
