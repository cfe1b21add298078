use Rattle.std.proofs.Common.{◌≡◌, drop}
use Rattle.fix_fields_c.proofs.fields_from.Given as goal

abbrev pub invariant-loop : goal.invariant-loop
invariant-loop l = l.fields ≡ drop l.counter l.initial.fields
