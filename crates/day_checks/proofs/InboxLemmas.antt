-- Streams that are fed piece by piece.
use Rattle.std.proofs.Common.{◌≡◌, ℕ, List, [], ◌∷◌, ◌++◌, Result, Err, refl, sym, ap}
use Rattle.std.proofs.lemmas.List.{append-nil}
use Rattle.fix_fields.specs.Envelope.{Cutting, cut_behind}
use Rattle.fix_fields.specs.declared.fault.StreamFault.{StreamFault}
use Rattle.recorded_days.specs.declared.actions.Inbound.{Inbound}
use Rattle.day_checks.specs.Inbox.{Arrivals, ended_at}

-- a fault stands for ever

fault_stands : (fault : StreamFault) (piece : List ℕ) → cut_behind (Err fault) piece ≡ record { messages = []; rest = Err fault }
unfolding cut_behind
fault_stands fault [] = refl
fault_stands fault (byte ∷ piece) = fault_stands fault piece

-- a piece behind a fault brings nothing
pub nothing_brought : (before after : Result (List ℕ) StreamFault) (fault : StreamFault) (moment : ℕ) (piece : List ℕ) (inbox : List Inbound)
    → before ≡ Err fault → inbox ≡ inbox ++ ended_at moment (cut_behind before piece).messages
nothing_brought before after fault moment piece inbox is =
    sym (rw (is, fault_stands fault piece) (append-nil inbox))

pub rest_faulty : (before after : Result (List ℕ) StreamFault) (fault : StreamFault) (piece : List ℕ) → before ≡ Err fault → after ≡ before
    → after ≡ (cut_behind before piece).rest
rest_faulty before after fault piece is same = rw (same, is) (sym (ap (λ (cut : Cutting). cut.rest) (fault_stands fault piece)))

-- what came so far, before what the other pieces bring
abbrev pub behind : List Inbound → Arrivals → Arrivals
behind inbox later = record { messages = inbox ++ later.messages; fault = later.fault }
