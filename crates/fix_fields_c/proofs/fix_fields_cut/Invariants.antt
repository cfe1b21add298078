use Rattle.std.proofs.Common.{◌≡◌, ◌++◌, ◌%◌, ◌^◌, List, ℕ, length}
use Rattle.fix_fields.specs.Envelope.{envelopes_of}
use Rattle.fix_fields_c.proofs.fix_fields_cut.Given as goal

abbrev pub invariant-loop-rest : goal.invariant-loop-rest
invariant-loop-rest l =
    (before : List ℕ) × (before ++ l.rest ≡ l.stream) × ((envelopes_of before).rest ≡ l.splitter)
    × (l.count ≡ length (envelopes_of before).messages % 2 ^ 64)

abbrev pub decreases-loop-rest : goal.decreases-loop-rest
decreases-loop-rest l = length l.rest
