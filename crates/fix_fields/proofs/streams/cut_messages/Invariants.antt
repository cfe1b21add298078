use Rattle.std.proofs.Common.{◌≡◌, [], ◌∷◌, length, Ok}
use Rattle.fix_fields.specs.Scan.{texts_of, cut_on}
use Rattle.fix_fields.proofs.streams.cut_messages.Given as goal

abbrev pub invariant-loop-wait : goal.invariant-loop-wait
invariant-loop-wait l =
    cut_on (l.message ∷ []) (Ok []) l.bytes ≡ cut_on (texts_of l.messages) (Ok []) l.rest

abbrev pub decreases-loop-wait : goal.decreases-loop-wait
decreases-loop-wait l = length l.rest
