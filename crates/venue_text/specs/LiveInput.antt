-- The input of a day that goes on: a configuration, a line `%%`, and lines of steps. What its lines
-- have brought so far, one after the other: a lawful line its steps, and a line at fault its fault
-- and nothing else.
use Rattle.std.specs.Prelude.{ℕ, ◌+◌, Bool, List, [], ◌∷◌, ◌++◌, fold}
use Rattle.std.specs.List.{list_any}
use Rattle.venue_rows.specs.Rows.{ConfigValues, Configuration, values_of}
use Rattle.input_lines.specs.DueText.{Lines}
use Rattle.venue_text.specs.LiveLines.{Taken, line_text, nothing_taken, with_any_line, with_line}
use Rattle.input_lines.specs.VenueParts.{InputPart, is_divider, part_before, part_behind, spoken_in, text_of}
use Rattle.venue_text.specs.declared.live_form.LiveForm.{LiveForm}

-- what lines bring, one after the other
unfoldable pub taken_of : ConfigValues → Lines → Taken
taken_of config lines = fold (with_line config) (nothing_taken config) lines

-- all lines of an input that comes part by part
abbrev pub lines_in : List Lines → Lines
lines_in [] = []
lines_in (part ∷ later) = part ++ lines_in later

-- what they bring, part by part, behind what was brought before
abbrev pub taken_by : ConfigValues → Taken → List Lines → Taken
taken_by config taken [] = taken
taken_by config taken (part ∷ later) =
    taken_by config (fold (with_line config) taken part) later

-- The lines of an input as its parts.

abbrev pub as_part : List (List ℕ) → InputPart
as_part lines = record { first = 1; lines = lines }

-- whether a line divides them
abbrev pub are_divided : List (List ℕ) → Bool
are_divided lines = list_any is_divider lines

-- the text of the configuration: the lines before the first that divides them
abbrev pub configuration_in : List (List ℕ) → List ℕ
configuration_in lines = text_of (part_before (as_part lines))

-- the lines of steps, behind it
abbrev pub steps_in : List (List ℕ) → Lines
steps_in lines = spoken_in (part_behind (as_part lines))

-- what they have brought to a venue of this configuration
abbrev pub taken_in : Configuration → List (List ℕ) → Taken
taken_in config lines = taken_of (values_of config) (steps_in lines)

-- What is printed for them, line by line.

-- lines with their numbers, where the first has number k, also those that are skipped
abbrev pub numbered_from : ℕ → List (List ℕ) → Lines
numbered_from k [] = []
numbered_from k (line ∷ lines) = (k, line) ∷ numbered_from (k + 1) lines

abbrev pub numbered_in : InputPart → Lines
numbered_in part = numbered_from part.first part.lines

-- what lines are answered, one behind the other, behind what was brought before
abbrev pub lines_text : LiveForm → Configuration → Taken → Lines → List ℕ
lines_text form config taken [] = []
lines_text form config taken (line ∷ later) =
    line_text form config taken line.0 line.1
    ++ lines_text form config (with_any_line (values_of config) taken line) later

-- all that is printed for the lines of an input: for each line of steps the messages that are sent
-- in its steps, each with the turns that it leaves, in the order in which they are sent, and behind
-- them its mark
abbrev pub text_in : LiveForm → Configuration → List (List ℕ) → List ℕ
text_in form config lines =
    lines_text form config (nothing_taken (values_of config)) (numbered_in (part_behind (as_part lines)))
