use Rattle.std.proofs.Common.{◌≤◌, ◌<◌, ◌+◌, arith, length, sym}
use Rattle.day_weaving.proofs.DayFormLemmas.{action_there}
use Rattle.day_weaving.proofs.PlaceNotes.{by_numbers, named_nowhere}
use Rattle.day_weaving.proofs.name_checks.are_noted.Goals as goal

pub returns-in_default-place_of-clause-no : goal.returns-in_default-place_of-clause-no
returns-in_default-place_of-clause-no c told =
    let number = c.loop-index.index + 1 in
    let least : 0 < c.loop-index.index + 1 = omega arith in
    let most : c.loop-index.index + 1 ≤ length c.in-Some.actions.now = omega arith in
    named_nowhere c.args.day.now c.args.places.now (c.args.actor, number) c.requires
    (action_there c.args.day.now c.args.actor c.in-Some.actions.now number
    (sym c.in-Some.ensures) least most)
    (sym c.in_default-place_of.ensures)

pub returns-clause-yes : goal.returns-clause-yes
returns-clause-yes c told =
    let ended : length c.in-Some.actions.now ≤ c.loop-index.index = omega arith in
    by_numbers c.args.day.now c.args.places.now c.args.actor c.in-Some.actions.now
    c.loop-index.index (sym c.in-Some.ensures) ended c.loop-index.invariant
