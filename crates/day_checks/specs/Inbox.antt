-- Pieces of one firm's stream, and the messages that they bring.
use Rattle.std.specs.Prelude.{ℕ, List, [], ◌∷◌, ◌++◌, map, Option, Result, Ok}
use Rattle.std.specs.Result.{result_err}
use Rattle.fix_fields.specs.Envelope.{cut_behind}
use Rattle.fix_fields.specs.declared.fault.StreamFault.{StreamFault}
use Rattle.recorded_days.specs.declared.actions.Inbound.{Inbound}

-- What a stream brings: its messages, and the fault that it has from some byte on.
pub record Arrivals : Type 0 where
  pub messages : List Inbound
  pub fault : Option StreamFault

-- messages that one piece ends: each comes at the moment of that piece
abbrev pub ended_at : ℕ → List (List ℕ) → List Inbound
ended_at moment messages = map (λ bytes. record { moment = moment; bytes = bytes }) messages

-- What pieces bring, behind bytes of a message that has begun or a fault. Bytes behind the last
-- message are left out.
abbrev pub arrivals_behind : Result (List ℕ) StreamFault → List Inbound → Arrivals
arrivals_behind rest [] = record { messages = []; fault = result_err rest }
arrivals_behind rest (piece ∷ pieces) =
    let cut = cut_behind rest piece.bytes in
    let later = arrivals_behind cut.rest pieces in
    record { messages = ended_at piece.moment cut.messages ++ later.messages; fault = later.fault }

-- what the pieces of a whole stream bring
abbrev pub arrivals_of : List Inbound → Arrivals
arrivals_of pieces = arrivals_behind (Ok []) pieces
