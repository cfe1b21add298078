-- What is left to be looked at has the name where all have.
use Rattle.std.proofs.Common.{◌≡◌}
use Rattle.std.specs.List.{list_any}
use Rattle.venue_rows.specs.Texts.{same_text}
use Rattle.investor_desk.proofs.rules.stands_in.Given as goal

abbrev pub invariant-loop-other : goal.invariant-loop-other
invariant-loop-other l =
    list_any (λ other. same_text other l.fn.name) l.other-iterator ≡ list_any (λ other. same_text other l.fn.name) l.fn.names
