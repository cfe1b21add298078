use Rattle.std.proofs.Common.{rules, ◌≡◌, ◌∷◌, ◌∙◌, false, true, length, Some, sym, ap}
use Rattle.day_checks.specs.Arrivals.{arrivals_from}
use Rattle.day_checks.specs.AnsweredResponses.{is_answered}
use Rattle.day_checks.specs.SweptRooms.{list_of}
use Rattle.day_checks.proofs.AnswerLemmas.{unanswered_behind, unanswered_here}
use Rattle.day_checks.proofs.answered_responses.answer_fault.Goals as goal

-- the first room whose hits and passes were not answered
pub returns-then-not-branch : goal.returns-then-not-branch
returns-then-not-branch c =
    let config = c.args.config.now in
    let investors = c.args.investors.now in
    let by_room = c.in_ok-by_room.by_room in
    let room = c.in-Some.room.now in
    let later = c.in-Some.later.now in
    let first : c.loop-room.rest.now ≡ room ∷ later = search rules in
    let came : list_of by_room room.at ≡ arrivals_from room.at (length config.dealers) investors =
    c.in_ok-by_room.ensures room.at
    ∙ ap (λ n. arrivals_from room.at n investors) c.dealer_count.ensures.value in
    let unanswered : is_answered (list_of by_room room.at) room ≡ false = search rules in
    ap Some c.at.ensures
    ∙ sym (c.loop-room.invariant
    ∙ unanswered_here (length config.dealers) investors c.loop-room.rest.now room later
    (list_of by_room room.at) first came unanswered)

-- the next room
pub loop-room-preserved : goal.loop-room-preserved
loop-room-preserved c =
    let config = c.args.config.now in
    let investors = c.args.investors.now in
    let by_room = c.in_ok-by_room.by_room in
    let room = c.in-Some.room.now in
    let later = c.in-Some.later.now in
    let first : c.loop-room.rest.now ≡ room ∷ later = search rules in
    let came : list_of by_room room.at ≡ arrivals_from room.at (length config.dealers) investors =
    c.in_ok-by_room.ensures room.at
    ∙ ap (λ n. arrivals_from room.at n investors) c.dealer_count.ensures.value in
    let answered : is_answered (list_of by_room room.at) room ≡ true = search rules in
    c.loop-room.invariant
    ∙ unanswered_behind (length config.dealers) investors c.loop-room.rest.now room later
    (list_of by_room room.at) first came answered
