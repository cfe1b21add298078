use Rattle.std.proofs.Common.{length}
use Rattle.day_checks.specs.DayChecks.{room_shown}
use Rattle.day_checks.specs.KeptDays.{requests_of}
use Rattle.day_checks.specs.declared.notices.Notice.{Notice}
use Rattle.day_checks.proofs.ActionWalks.{walks_are_right, walks_find}
use Rattle.day_checks.proofs.PromiseLemmas.{each_shown, each_told, none_unshown, none_untold}
use Rattle.day_checks.proofs.RoomPromises.{each_answered, each_relayed, each_swept}
use Rattle.day_checks.proofs.RoomPromises.{none_unanswered, none_unrelayed, none_unswept}
use Rattle.day_checks.proofs.RoomsApart.{rooms_apart}
use Rattle.day_checks.proofs.laws.checks_decide_what_is_promised.Goals as goal

pub returns-clause-told : goal.returns-clause-told
returns-clause-told c config rooms dealers named =
    let apart = rooms_apart (λ (notice : Notice). notice.room) (length config.dealers)
    (requests_of config.investors) rooms named in
    (each_told rooms apart 0 dealers, none_untold rooms apart 0 dealers)

pub returns-clause-swept : goal.returns-clause-swept
returns-clause-swept c sweeps rooms = (each_swept sweeps rooms, none_unswept sweeps rooms)

pub returns-clause-shown : goal.returns-clause-shown
returns-clause-shown c config rooms dealers named =
    let apart = rooms_apart room_shown (length config.dealers) (requests_of config.investors) rooms
    named in
    (each_shown rooms apart 0 dealers, none_unshown rooms apart 0 dealers)

pub returns-clause-relayed : goal.returns-clause-relayed
returns-clause-relayed c config first investors rooms =
    (each_relayed config first investors rooms, none_unrelayed config first investors rooms)

pub returns-clause-answered : goal.returns-clause-answered
returns-clause-answered c first investors rooms =
    (each_answered first investors rooms, none_unanswered first investors rooms)

pub returns-clause-of_actions : goal.returns-clause-of_actions
returns-clause-of_actions c day = (walks_are_right day, walks_find day)
