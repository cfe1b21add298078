-- Whether it is a message's turn, by its MsgSeqNum (34). Only private functions say this.
use Rattle.std.specs.Prelude.{ℕ, ◌==◌, List, Option, Some, None, if◌then◌else◌}
use Rattle.std.specs.Str.Parse.{digits_value}
use Rattle.fix_fields.specs.Frame.{Field}
use Rattle.quote_messages.specs.Arrivals.{sequence_number, reject_of, out_of_sequence}
use Rattle.quote_messages.specs.declared.arrivals.Turn.{Turn}
use Rattle.quote_messages.specs.declared.arrivals.Turn.TheVariants.{Dropped, OutOfSequence}
use Rattle.quote_messages.specs.declared.arrivals.Turn.TheVariants.{InSequence}

-- the turn of a message with this MsgSeqNum, or without a readable one
abbrev pub turn_by : ℕ → List Field → Option (List ℕ) → Turn
turn_by expected fields None = Dropped
turn_by expected fields (Some number) =
    if digits_value 10 number == expected
    then InSequence number
    else OutOfSequence (reject_of fields number out_of_sequence)

-- the turn of a message, by its fields
abbrev pub turn_of : ℕ → List Field → Turn
turn_of expected fields = turn_by expected fields (sequence_number fields)
