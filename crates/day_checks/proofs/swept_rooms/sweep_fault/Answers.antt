use Rattle.std.proofs.Common.{rules, ◌≡◌, ◌∙◌, sym, ap, find, not, None, Some}
use Rattle.std.specs.Option.{option_copied, option_map}
use Rattle.day_checks.specs.DayChecks.{DayRoom, is_swept}
use Rattle.day_checks.proofs.SweptLemmas.{unswept_same}
use Rattle.day_checks.proofs.swept_rooms.sweep_fault.Goals as goal

-- no room is found
pub returns-in_default : goal.returns-in_default
returns-in_default c =
    let sweeps = c.args.sweeps.now in
    let rooms = c.args.rooms.now in
    let none : c.first_unswept.result ≡ None = search rules in
    let found : find (λ room. not (is_swept sweeps room)) rooms ≡ None =
    sym (unswept_same c.in_ok-by_room.by_room sweeps c.in_ok-by_room.ensures rooms)
    ∙ sym c.first_unswept.ensures ∙ ap option_copied none in
    sym (ap (option_map (λ (room : DayRoom). room.at)) found)

-- the first room that is found
pub returns : goal.returns
returns c =
    let sweeps = c.args.sweeps.now in
    let rooms = c.args.rooms.now in
    let found : find (λ room. not (is_swept sweeps room)) rooms ≡ Some c.in-Some.room.now =
    sym (unswept_same c.in_ok-by_room.by_room sweeps c.in_ok-by_room.ensures rooms)
    ∙ sym c.first_unswept.ensures ∙ ap option_copied c.in-Some.is in
    ap Some c.at.ensures ∙ sym (ap (option_map (λ (room : DayRoom). room.at)) found)
