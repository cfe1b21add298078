use Rattle.request_room.proofs.UnpricedRooms.{hears_same, kept_same, question_same}
use Rattle.request_room.proofs.laws.no_step_asks_a_price.Goals as goal

pub returns-clause-kept : goal.returns-clause-kept
returns-clause-kept c = kept_same

pub returns-clause-hits : goal.returns-clause-hits
returns-clause-hits c = question_same

pub returns-clause-heard : goal.returns-clause-heard
returns-clause-heard c = hears_same
