-- The lines of steps: what each spells, and the list of steps that they make.
use Rattle.std.specs.Prelude.{ℕ, ◌+◌, ◌-◌, Bool, false, ◌==◌, ◌&&◌, not, List, [], ◌∷◌, ◌++◌, length}
use Rattle.std.specs.Prelude.{map, nat_le, codes, position, replicate, slice_get, slice_index}
use Rattle.std.specs.Prelude.{slice_set, Option, Some, None, Result, Ok, Err, if◌then◌else◌}
use Rattle.std.specs.Option.{option_and_then, option_map}
use Rattle.fix_fields.specs.Envelope.{envelopes_of}
use Rattle.fix_fields.specs.declared.fault.StreamFault.{StreamFault}
use Rattle.venue_rows.specs.Rows.{ConfigValues, DealerValues, InvestorValues}
use Rattle.venue_rows.specs.Texts.{same_text, text_if}
use Rattle.market_terms.specs.declared.rooms.RoomRef.{RoomRef}
use Rattle.quote_messages.specs.Texts.{number_of}
use Rattle.step_replay.specs.VenueRooms.{rooms_from}
use Rattle.venue_steps.specs.declared.actors.Actor.{Actor}
use Rattle.venue_steps.specs.declared.actors.Actor.TheVariants as actor
use Rattle.step_replay.specs.declared.steps.Step.{Step}
use Rattle.step_replay.specs.declared.steps.Step.TheVariants as step
use Rattle.input_lines.specs.DueLines.{within}
use Rattle.input_lines.specs.DueText.{Lines, at_line}
use Rattle.input_lines.specs.Lines.{first_part, behind_part, time_of}
use Rattle.input_lines.specs.ResultSteps.{◌>>=◌}
use Rattle.input_lines.specs.SayLine.{SayLine, said_of, said_message, received_of, hexed_of}
use Rattle.input_lines.specs.SayLine.{with_bar}
use Rattle.input_lines.specs.SayLine.{has_tag}
use Rattle.input_lines.specs.declared.faults.ProgramFault.{ProgramFault}
use Rattle.input_lines.specs.declared.faults.ProgramFault.TheVariants.{Firm, Form, UnknownFirm}
use Rattle.input_lines.specs.declared.faults.ProgramFault.TheVariants.{UnknownRoom, Stream}
use Rattle.input_lines.specs.declared.step_lines.TheConstants.{MOST_TURNS}

-- Firms and rooms by the values of a configuration.

-- the names of the firms, each at its number: the dealers in their order, and behind them the
-- investors
abbrev pub names_of_firms : ConfigValues → List (List ℕ)
names_of_firms config =
    map (λ (row : DealerValues). row.name) config.dealers
    ++ map (λ (row : InvestorValues). row.name) config.investors

-- the number of the firm with a name
abbrev pub firm_named : ConfigValues → List ℕ → Option ℕ
firm_named config name = position (λ own. same_text own name) (names_of_firms config)

-- the number of the dealer with a name
abbrev pub dealer_named : ConfigValues → List ℕ → Option ℕ
dealer_named config name = position (λ (row : DealerValues). same_text row.name name) config.dealers

-- the firm or the dealer that an argument names, where it names one
abbrev pub asked : Option ℕ → Result ℕ ProgramFault
asked None = Err Firm
asked (Some firm) = Ok firm

-- the investor with a number
abbrev pub investor_numbered : ConfigValues → ℕ → Option InvestorValues
investor_numbered config firm =
    if nat_le (length config.dealers) firm
    then slice_get config.investors (firm - length config.dealers)
    else None

-- whether a number is that of one of an investor's requests in a day
abbrev pub is_request_of : Option InvestorValues → ℕ → Bool
is_request_of None n = false
is_request_of (Some row) n = nat_le 1 n && nat_le n row.requests

-- whether the venue has the room of the n-th request of a firm
abbrev pub is_room : ConfigValues → ℕ → ℕ → Bool
is_room config firm n = is_request_of (investor_numbered config firm) n

-- every room of the venue, in the order of the investors and of their requests
abbrev pub venue_rooms : ConfigValues → List RoomRef
venue_rooms config = rooms_from (length config.dealers)
    (map (λ (row : InvestorValues). row.requests) config.investors)

-- What was heard so far of the firms, each at its number: the MsgSeqNum (34) of its next `say` line
-- whose BODY has none, and the bytes of its pieces behind the last message that they end.
pub record Heard : Type 0 where
  pub numbers : List ℕ
  pub streams : List (List ℕ)

-- nothing of so many firms
abbrev pub nothing_heard : ℕ → Heard
nothing_heard firms = record { numbers = replicate firms 1; streams = replicate firms [] }

-- the number of a firm's next `say` line; that of a part that names no firm would be the first
abbrev pub number_for : Heard → Option ℕ → ℕ
number_for heard None = 1
number_for heard (Some firm) = slice_index heard.numbers firm

-- what was heard where the number of a firm's next `say` line is this one
abbrev pub with_number : Heard → ℕ → ℕ → Heard
with_number heard firm number = record {
  numbers = slice_set heard.numbers firm number;
  streams = heard.streams;
}

-- what was heard with a `say` line of a firm: it is counted where its number was written for it
abbrev pub with_said : Heard → ℕ → SayLine → Heard
with_said heard firm said =
    if has_tag said.fields 34 then heard
    else with_number heard firm (number_for heard (Some firm) + 1)

-- what was heard where these bytes stand behind the last message of a firm's pieces
abbrev pub with_stream : Heard → ℕ → List ℕ → Heard
with_stream heard firm rest = record {
  numbers = heard.numbers;
  streams = slice_set heard.streams firm rest;
}

-- The parts of lines.

-- FIRM and ACTOR are not empty
abbrev pub is_filled : List ℕ → Bool
is_filled part = not (length part == 0)

-- the part at the front of the line with this number
abbrev pub part_at : ℕ → List ℕ → Result (List ℕ) ProgramFault
part_at k text = at_line k (text_if is_filled (first_part text))

-- what a firm has, or that the line with this number names none
abbrev pub of_known : {A : Type 0} → ℕ → Option A → Result A ProgramFault
of_known k None = Err (UnknownFirm k)
of_known k (Some value) = Ok value

-- the firm that a part names
abbrev pub known_firm : ConfigValues → ℕ → List ℕ → Result ℕ ProgramFault
known_firm config k part = of_known k (firm_named config part)

-- the actor that a part names: the clock or a firm
abbrev pub actor_named : ConfigValues → List ℕ → Option Actor
actor_named config part =
    if same_text part (codes "CLOCK") then Some actor.Clock
    else option_map actor.Firm (firm_named config part)

abbrev pub known_actor : ConfigValues → ℕ → List ℕ → Result Actor ProgramFault
known_actor config k part = of_known k (actor_named config part)

-- the room of a firm's n-th request
abbrev pub known_room : ConfigValues → ℕ → ℕ → ℕ → Result RoomRef ProgramFault
known_room config k firm n =
    if is_room config firm n then Ok (record { investor = firm; n = n }) else Err (UnknownRoom k)

-- how many turns a line asks for: 1 to 1,000, in 1 to 9 digits
abbrev pub turns_of : List ℕ → Option ℕ
turns_of text = option_and_then (within MOST_TURNS) (number_of text)

-- the bytes behind the last message, or that the line with this number has a fault of the stream
abbrev pub unbroken : ℕ → Result (List ℕ) StreamFault → Result (List ℕ) ProgramFault
unbroken k (Err fault) = Err (Stream k)
unbroken k (Ok rest) = Ok rest

-- Lines, each behind its keyword: the steps that it spells, and what was heard with it. On one line
-- the fault of its form is told before that of a firm, and that before those of rooms and streams.

-- what a line spells
abbrev pub Read : Type 0
Read = Result (List Step × Heard) ProgramFault

-- `say FIRM TRADER TIME TYPE BODY`: the message of these fields that the firm sends; a part with
-- SOH, which no firm has as its name, is as long with a vertical bar in its place
unfoldable pub said_step : ConfigValues → Heard → ℕ → List ℕ → Read
said_step config heard k text = do
  let number = number_for heard (firm_named config (first_part text))
  part ← part_at k text
  said ← at_line k (said_of config.date (behind_part text))
  message ← at_line k (said_message config.date (map with_bar part) number said)
  firm ← known_firm config k part
  Ok (step.In firm said.moment message ∷ [], with_said heard firm said)

-- `in FIRM TIME FRAME`: the bytes of FRAME
unfoldable pub in_step : ConfigValues → Heard → ℕ → List ℕ → Read
in_step config heard k text = do
  part ← part_at k text
  received ← at_line k (received_of config.date (behind_part text))
  firm ← known_firm config k part
  Ok (step.In firm received.0 received.1 ∷ [], heard)

-- `hex FIRM TIME HEX`: the bytes that the digits of HEX write
unfoldable pub hex_step : ConfigValues → Heard → ℕ → List ℕ → Read
hex_step config heard k text = do
  part ← part_at k text
  received ← at_line k (hexed_of config.date (behind_part text))
  firm ← known_firm config k part
  Ok (step.In firm received.0 received.1 ∷ [], heard)

-- `turn ACTOR N`: so many turns
unfoldable pub turn_steps : ConfigValues → Heard → ℕ → List ℕ → Read
turn_steps config heard k text = do
  part ← part_at k text
  turns ← at_line k (turns_of (behind_part text))
  actor ← known_actor config k part
  Ok (replicate turns (step.Turn actor), heard)

-- `expire FIRM N TIME`: a sweep of the room of the firm's N-th request
unfoldable pub expire_step : ConfigValues → Heard → ℕ → List ℕ → Read
expire_step config heard k text = do
  let behind_firm = behind_part text
  part ← part_at k text
  n ← at_line k (number_of (first_part behind_firm))
  moment ← at_line k (time_of config.date (behind_part behind_firm))
  firm ← known_firm config k part
  room ← known_room config k firm n
  Ok (step.Expire room moment ∷ [], heard)

-- a sweep of each of these rooms at one moment
abbrev pub sweeps_at : ℕ → List RoomRef → List Step
sweeps_at moment rooms = map (λ room. step.Expire room moment) rooms

-- `clock TIME`: a sweep of every room
unfoldable pub clock_steps : ConfigValues → Heard → ℕ → List ℕ → Read
clock_steps config heard k text = do
  moment ← at_line k (time_of config.date text)
  Ok (sweeps_at moment (venue_rooms config), heard)

-- each message that a piece ends, at the moment of the piece
abbrev pub in_steps : ℕ → ℕ → List (List ℕ) → List Step
in_steps firm moment messages = map (λ message. step.In firm moment message) messages

-- the messages that end in a piece of a firm's stream, and what was heard with it: what was kept of
-- the stream and the piece are cut as one, since no message ends in what is kept
abbrev pub cut_for : Heard → ℕ → ℕ → List ℕ → Result (List (List ℕ) × Heard) ProgramFault
cut_for heard k firm piece = do
  before ← of_known k (slice_get heard.streams firm)
  let cut = envelopes_of (before ++ piece)
  rest ← unbroken k cut.rest
  Ok (cut.messages, with_stream heard firm rest)

-- `piece FIRM TIME BYTES`: the messages that end in these bytes of the firm's stream
unfoldable pub piece_steps : ConfigValues → Heard → ℕ → List ℕ → Read
piece_steps config heard k text = do
  part ← part_at k text
  received ← at_line k (received_of config.date (behind_part text))
  firm ← known_firm config k part
  cut ← cut_for heard k firm received.1
  Ok (in_steps firm received.0 cut.0, cut.1)

-- what stands behind a keyword
abbrev pub steps_behind : ConfigValues → Heard → ℕ → List ℕ → List ℕ → Read
steps_behind config heard k keyword text =
    if same_text keyword (codes "say") then said_step config heard k text
    else if same_text keyword (codes "in") then in_step config heard k text
    else if same_text keyword (codes "hex") then hex_step config heard k text
    else if same_text keyword (codes "turn") then turn_steps config heard k text
    else if same_text keyword (codes "expire") then expire_step config heard k text
    else if same_text keyword (codes "clock") then clock_steps config heard k text
    else if same_text keyword (codes "piece") then piece_steps config heard k text
    else Err (Form k)

-- what a line spells, by its keyword
abbrev pub steps_of_line : ConfigValues → Heard → ℕ → List ℕ → Read
steps_of_line config heard k line =
    steps_behind config heard k (first_part line) (behind_part line)

-- the steps of lines behind what was heard, or the first fault
abbrev pub steps_from : ConfigValues → Heard → Lines → Result (List Step) ProgramFault
steps_from config heard [] = Ok []
steps_from config heard (line ∷ lines) = do
  read ← steps_of_line config heard line.0 line.1
  steps ← steps_from config read.1 lines
  Ok (read.0 ++ steps)

-- the steps that the lines of a day spell, or the first fault
abbrev pub steps_of : ConfigValues → Lines → Result (List Step) ProgramFault
steps_of config lines = steps_from config (nothing_heard (length (names_of_firms config))) lines
