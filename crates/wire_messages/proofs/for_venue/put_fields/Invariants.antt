use Rattle.std.proofs.Common.{◌≡◌, ◌++◌, length}
use Rattle.fix_fields.specs.Frame.{fields_of}
use Rattle.fix_fields.specs.Scan.{HoldsFields}
use Rattle.wire_messages.specs.ToVenue.{to_venue}
use Rattle.wire_messages.proofs.for_venue.put_fields.Given as goal

abbrev pub invariant-loop-rest : goal.invariant-loop-rest
invariant-loop-rest l = record {
  held : HoldsFields l.rest → HoldsFields l.fn.text;
  holds : HoldsFields l.fn.text → HoldsFields l.rest;
  fields : l.writer ++ to_venue l.number (fields_of l.rest) ≡ l.fn.writer ++ to_venue l.number (fields_of l.fn.text);
}

abbrev pub decreases-loop-rest : goal.decreases-loop-rest
decreases-loop-rest l = length l.rest
