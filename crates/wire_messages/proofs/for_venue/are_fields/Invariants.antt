use Rattle.std.proofs.Common.{length}
use Rattle.fix_fields.specs.Scan.{HoldsFields}
use Rattle.wire_messages.proofs.for_venue.are_fields.Given as goal

abbrev pub invariant-loop-rest : goal.invariant-loop-rest
invariant-loop-rest l = record {
  held : HoldsFields l.rest → HoldsFields l.fn.text;
  holds : HoldsFields l.fn.text → HoldsFields l.rest;
}

abbrev pub decreases-loop-rest : goal.decreases-loop-rest
decreases-loop-rest l = length l.rest
