-- The parts of an input, which lines `%%` divide: configurations, and the lines of steps.
use Rattle.std.specs.Prelude.{ℕ, ◌+◌, Bool, List, [], ◌∷◌, ◌++◌, length, codes, Result, Ok, Err}
use Rattle.std.specs.Prelude.{if◌then◌else◌}
use Rattle.std.specs.List.{list_any, before_first, after_first, flat_map}
use Rattle.std.specs.Str.{is_utf8}
use Rattle.venue_config.specs.Config.{config_of}
use Rattle.venue_rows.specs.Rows.{ConfigValues}
use Rattle.venue_rows.specs.Texts.{same_text}
use Rattle.venue_config.specs.declared.faults.ConfigFault.{ConfigFault}
use Rattle.venue_config.specs.declared.faults.ConfigFault.TheVariants.{Toml}
use Rattle.input_lines.specs.DueText.{Lines}
use Rattle.input_lines.specs.Lines.{lines_of, spoken_from}
use Rattle.input_lines.specs.ResultSteps.{◌>>=◌}
use Rattle.input_lines.specs.declared.faults.ProgramFault.{ProgramFault}
use Rattle.input_lines.specs.declared.faults.ProgramFault.TheVariants.{Parts, Config}

-- a line that divides an input
abbrev pub is_divider : List ℕ → Bool
is_divider line = same_text line (codes "%%")

-- a part of an input: the number of its first line, and all its lines
pub record InputPart : Type 0 where
  pub first : ℕ
  pub lines : List (List ℕ)

-- an input that nothing divides yet
abbrev pub whole : List ℕ → InputPart
whole input = record { first = 1; lines = lines_of input }

-- whether a line divides a part
abbrev pub is_divided : InputPart → Bool
is_divided part = list_any is_divider part.lines

-- what stands before the first line that divides a part
abbrev pub part_before : InputPart → InputPart
part_before part = record { first = part.first; lines = before_first is_divider part.lines }

-- what stands behind it
abbrev pub part_behind : InputPart → InputPart
part_behind part = record {
  first = part.first + length (part_before part).lines + 1;
  lines = after_first is_divider part.lines;
}

-- a part and those behind it
abbrev pub divided : InputPart → Result (InputPart × InputPart) ProgramFault
divided part = if is_divided part then Ok (part_before part, part_behind part) else Err Parts

-- a last part
abbrev pub undivided : InputPart → Result InputPart ProgramFault
undivided part = if is_divided part then Err Parts else Ok part

-- lines as a text, a line feed at the end of each
abbrev pub text_of_lines : List (List ℕ) → List ℕ
text_of_lines lines = flat_map (λ line. line ++ 10 ∷ []) lines

-- the text of a part behind which another stands
abbrev pub text_of : InputPart → List ℕ
text_of part = text_of_lines part.lines

-- the lines of a part that are not skipped, with their numbers in the whole input
abbrev pub spoken_in : InputPart → Lines
spoken_in part = spoken_from part.first part.lines

-- the text of a configuration and the lines of the steps behind it
pub record DayParts : Type 0 where
  pub config : List ℕ
  pub steps : Lines

-- two parts as these
abbrev pub day_parts : InputPart → InputPart → DayParts
day_parts config steps = record { config = text_of config; steps = spoken_in steps }

-- the parts of an input that is a day: two
abbrev pub day_parts_of : List ℕ → Result DayParts ProgramFault
day_parts_of input = do
  first ← divided (whole input)
  last ← undivided first.1
  Ok (day_parts first.0 last)

-- the parts of an input that is two days: four
abbrev pub two_days_parts_of : List ℕ → Result (DayParts × DayParts) ProgramFault
two_days_parts_of input = do
  first ← divided (whole input)
  second ← divided first.1
  third ← divided second.1
  last ← undivided third.1
  Ok (day_parts first.0 second.0, day_parts third.0 last)

-- what a reading gives whose fault is that of a configuration
abbrev pub or_config_fault : {A : Type 0} → Result A ConfigFault → Result A ProgramFault
or_config_fault (Ok value) = Ok value
or_config_fault (Err fault) = Err (Config fault)

-- the configuration that a part spells: bytes that are no UTF-8 are no TOML
unfoldable pub venue_of : List ℕ → Result ConfigValues ProgramFault
venue_of text = if is_utf8 text then or_config_fault (config_of text) else Err (Config Toml)
