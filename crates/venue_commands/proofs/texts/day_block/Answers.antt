use Rattle.std.proofs.Common.{ℕ, List, subst}
use Rattle.venue_commands.specs.ThreadedDays.{IsDayFault}
use Rattle.venue_commands.proofs.texts.day_block.Goals as goal

pub returns-clause-err : goal.returns-clause-err
returns-clause-err g c other =
    subst (λ (t : List ℕ). IsDayFault c.args.woven t c.in-Err.fault) c.as_slice.ensures.value
    (c.in-Err.ensures.err other)
