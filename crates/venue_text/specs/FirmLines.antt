-- What `live` prints of one firm: among all messages those of the firm, a line each, in the order in
-- which they are printed.
use Rattle.std.specs.Prelude.{ℕ, Bool, ◌==◌, List, [], ◌∷◌, ◌++◌, drop, length, filter}
use Rattle.venue_rows.specs.Rows.{Configuration, values_of}
use Rattle.step_replay.specs.LiveDays.{Sent, live_messages}
use Rattle.input_lines.specs.DueText.{Lines}
use Rattle.venue_text.specs.LiveInput.{as_part, numbered_in}
use Rattle.venue_text.specs.LiveLines.{Taken, nothing_taken, sent_text, with_any_line}
use Rattle.input_lines.specs.VenueParts.{part_behind}

-- the messages of the firm with this number
abbrev pub those_of : ℕ → List Sent → List Sent
those_of firm messages = filter (λ sent. sent.0 == firm) messages

-- the messages that a line brings, behind what was brought before
abbrev pub line_messages : Configuration → Taken → ℕ × List ℕ → List Sent
line_messages config taken line =
    drop (length (live_messages config taken.steps))
    (live_messages config (with_any_line (values_of config) taken line).steps)

-- of lines, one behind the other, the lines of messages that are printed of the firm
abbrev pub firm_lines : Bool → Configuration → ℕ → Taken → Lines → List ℕ
firm_lines frames config firm taken [] = []
firm_lines frames config firm taken (line ∷ later) =
    sent_text frames config (those_of firm (line_messages config taken line))
    ++ firm_lines frames config firm (with_any_line (values_of config) taken line) later

-- the same of all lines of an input
abbrev pub firm_part : Bool → Configuration → ℕ → List (List ℕ) → List ℕ
firm_part frames config firm lines =
    firm_lines frames config firm (nothing_taken (values_of config))
    (numbered_in (part_behind (as_part lines)))
