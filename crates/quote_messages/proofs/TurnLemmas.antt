-- What becomes of a message, by whether it is its turn.
use Rattle.std.proofs.Common.{◌≡◌, ℕ, Bool, true, false, cond, List, Option, Some, None, refl}
use Rattle.std.specs.Prelude.{◌==◌, Result}
use Rattle.std.specs.Str.Parse.{digits_value}
use Rattle.fix_fields.specs.Frame.{Field}
use Rattle.quote_messages.specs.Arrivals.{numbered, in_sequence, reject_of, out_of_sequence}
use Rattle.quote_messages.specs.Turns.{turn_by}
use Rattle.quote_messages.specs.declared.arrivals.Arrival.{Arrival}
use Rattle.quote_messages.specs.declared.arrivals.Arrival.TheVariants as arrival
use Rattle.quote_messages.specs.declared.arrivals.Turn.{Turn}
use Rattle.quote_messages.specs.declared.arrivals.Turn.TheVariants as turn
use Rattle.quote_messages.specs.declared.session_faults.SessionFault.{SessionFault}

-- what becomes of a message by its turn
abbrev pub by_turn : {Message : Type 0} → List Field → Result Message SessionFault → Turn → Arrival Message
by_turn fields verdict turn.Dropped = arrival.Dropped
by_turn fields verdict (turn.OutOfSequence reject) = arrival.OutOfSequence reject
by_turn fields verdict (turn.InSequence number) = in_sequence fields number verdict

by_test : {Message : Type 0} (fields : List Field) (number : List ℕ) (verdict : Result Message SessionFault) (is : Bool)
    → cond is (in_sequence fields number verdict) (arrival.OutOfSequence (reject_of fields number out_of_sequence))
    ≡ by_turn fields verdict (cond is (turn.InSequence number) (turn.OutOfSequence (reject_of fields number out_of_sequence)))
by_test fields number verdict true = refl
by_test fields number verdict false = refl

pub by_number : {Message : Type 0} (expected : ℕ) (fields : List Field) (number : Option (List ℕ)) (verdict : Result Message SessionFault)
    → numbered expected fields number verdict ≡ by_turn fields verdict (turn_by expected fields number)
by_number expected fields None verdict = refl
by_number expected fields (Some number) verdict = by_test fields number verdict (digits_value 10 number == expected)
