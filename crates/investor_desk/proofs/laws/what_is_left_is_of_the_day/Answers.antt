use Rattle.investor_desk.proofs.DeskLemmas.{left_of_day}
use Rattle.investor_desk.proofs.laws.what_is_left_is_of_the_day.Goals as goal

pub returns : goal.returns
returns c = left_of_day
