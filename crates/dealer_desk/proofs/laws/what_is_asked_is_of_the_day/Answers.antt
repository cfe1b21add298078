use Rattle.dealer_desk.proofs.DutyLemmas.{message_asks, drop_at_asks}
use Rattle.dealer_desk.proofs.laws.what_is_asked_is_of_the_day.Goals as goal

pub returns : goal.returns
returns c = record { message = message_asks; drop = drop_at_asks }
