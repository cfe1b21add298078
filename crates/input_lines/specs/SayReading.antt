-- What the code makes of a `say` line. Only private functions say this.
use Rattle.std.specs.Prelude.{ℕ, Bool, ◌==◌, List, [], ◌∷◌, Option, Some, None, codes, decimal}
use Rattle.std.specs.Prelude.{if◌then◌else◌}
use Rattle.std.specs.List.{list_any}
use Rattle.fix_fields.specs.Frame.{Field}
use Rattle.fix_fields.specs.UtcTimestamp.{timestamp_text}
use Rattle.input_lines.specs.OptionSteps.{◌>>=◌}
use Rattle.input_lines.specs.SayLine.{SayLine, said_field, said_of, said_message, has_tag}
use Rattle.input_lines.specs.SayLine.{with_field}
use Rattle.input_lines.specs.declared.say_made.Made.{Made}

-- what a line that says this makes, with its message
abbrev pub made_from : SayLine → List ℕ → Made
made_from said message = record {
  moment = said.moment;
  message = message;
  is_numbered = has_tag said.fields 34;
}

-- what a line TRADER TIME TYPE BODY makes as a message of a firm
unfoldable pub made_of : List ℕ → List ℕ → ℕ → List ℕ → Option Made
made_of date firm number text = do
  said ← said_of date text
  message ← said_message date firm number said
  Some (made_from said message)

-- a tag of the header that a `say` line writes of itself
unfoldable pub is_header_tag : ℕ → Bool
is_header_tag tag = list_any (λ known. tag == known) (49 ∷ 56 ∷ 34 ∷ 52 ∷ 50 ∷ [])

-- that header, whole
abbrev pub whole_header : List ℕ → List ℕ → ℕ → ℕ → List ℕ → List ℕ → List Field
whole_header date firm number moment trader msg_type =
    (35, msg_type) ∷ (49, firm) ∷ (56, codes "VENUE") ∷ (34, decimal number)
    ∷ (52, timestamp_text date moment) ∷ (50, trader) ∷ []

-- fields and the one that a text spells behind them, where it spells one, that is none of the
-- header, and where it fits
unfoldable pub with_text : Option (List Field) → List ℕ → Option (List Field)
with_text before text = do
  field ← said_field text
  if is_header_tag field.0 then None else with_field before field
