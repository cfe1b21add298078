use Rattle.dealer_desk.proofs.DutyLemmas.{message_duty, message_room, drop_duty, drop_room}
use Rattle.dealer_desk.proofs.laws.what_is_left_is_of_the_day.Goals as goal

pub returns : goal.returns
returns c = record { message = message_duty; room = message_room; drop = drop_duty; drop_room = drop_room }
