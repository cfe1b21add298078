use Rattle.std.proofs.Common.{◌∙◌}
use Rattle.venue_rows.proofs.TextLemmas.{found_name, is_found, is_not_found}
use Rattle.venue_rows.proofs.traders.Traders.find.Goals as goal

pub returns-in_err-own : goal.returns-in_err-own
returns-in_err-own c =
    rw (← c.self.view_is) (c.from_residual.ensures ∙ is_not_found c.self.inside.names.items c.args.name.now (rw c.as_slice.ensures.value at c.in_err-own.ensures))

pub of_text-requires : goal.of_text-requires
of_text-requires c =
    (found_name c.self.inside.names.items c.args.name.now c.in_ok-own.own c.self.invariant (rw c.as_slice.ensures.value at c.in_ok-own.ensures)).named

pub returns : goal.returns
returns c =
    rw (← c.self.view_is, c.of_text.ensures) (is_found c.self.inside.names.items c.args.name.now c.in_ok-own.own c.self.invariant (rw c.as_slice.ensures.value at c.in_ok-own.ensures))
