-- Each day is computed.
use Rattle.laws_days.proofs.Common.{refl}
use Rattle.laws_days.proofs.ComputedDays.{computed}
use Rattle.laws_days.proofs.worked_days.definitions_give_the_worked_days.Goals as goal

pub returns : goal.returns
unfolding computed
returns c = record { sent = refl; four_quotes = refl; too_late = refl; cancelled_all = refl }
