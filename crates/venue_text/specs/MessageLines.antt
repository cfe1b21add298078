-- Messages as lines.
use Rattle.std.specs.Prelude.{ℕ, Bool, List, [], ◌∷◌, ◌++◌, map, take, drop, decimal}
use Rattle.std.specs.Prelude.{unwrap_or, if◌then◌else◌}
use Rattle.std.specs.List.{flat_map}
use Rattle.fix_fields.specs.Frame.{Field, frame_of}
use Rattle.quote_messages.specs.SessionLines.{text_at}
use Rattle.input_lines.specs.SayLine.{with_bar}

-- a message as its whole frame: `FIRM FRAME`
abbrev pub frame_line : List ℕ → List ℕ → List ℕ
frame_line firm message = firm ++ 32 ∷ map with_bar message ++ 10 ∷ []

-- fields behind a text: `tag=value`, each behind a divider
abbrev pub fields_text_behind : ℕ → List Field → List ℕ
fields_text_behind divider [] = []
fields_text_behind divider (field ∷ fields) =
    (divider ∷ decimal field.0 ++ 61 ∷ field.1) ++ fields_text_behind 124 fields

-- the time of day of a timestamp: it stands behind eight digits of the date and a dash
abbrev pub time_of_day : List ℕ → List ℕ
time_of_day timestamp = drop 9 timestamp

-- the header of a written message, which has five fields: 35, 49, 56, 34 and 52
abbrev pub header_of : List Field → List Field
header_of fields = take 5 fields

-- the fields behind the header
abbrev pub fields_behind_header : List Field → List Field
fields_behind_header fields = drop 5 fields

-- MsgSeqNum (34), the time of day of SendingTime (52) and MsgType (35) of a header, each behind a
-- space
abbrev pub header_text : List Field → List ℕ
header_text header =
    32 ∷ text_at 34 header ++ 32 ∷ time_of_day (text_at 52 header) ++ 32 ∷ text_at 35 header

-- a message as a line: `FIRM N TIME TYPE BODY`; vertical bars divide the fields of BODY
abbrev pub fields_line : List ℕ → List Field → List ℕ
fields_line firm fields =
    firm ++ header_text (header_of fields)
    ++ fields_text_behind 32 (fields_behind_header fields) ++ 10 ∷ []

-- the same of a message, whose bytes are a frame
abbrev pub message_line : List ℕ → List ℕ → List ℕ
message_line firm message = fields_line firm (unwrap_or (frame_of message) [])

-- the line of a message, in one form or the other
abbrev pub line_of : Bool → List ℕ → List ℕ → List ℕ
line_of with_frames firm message =
    if with_frames then frame_line firm message else message_line firm message

-- messages, a line each
abbrev pub messages_text : Bool → List ℕ → List (List ℕ) → List ℕ
messages_text with_frames firm messages = flat_map (line_of with_frames firm) messages
