use Rattle.std.proofs.Common.{sym, subst}
use Rattle.fix_fields.specs.Scan.{WaitsFor}
use Rattle.fix_fields.proofs.StreamLemmas.{waits_for_some}
use Rattle.fix_fields.proofs.streams.Splitter.new.Goals as goal

pub invariant_of-result : goal.invariant_of-result
invariant_of-result c = subst (λ t. WaitsFor 0 t) (sym c.new.ensures.items) waits_for_some
