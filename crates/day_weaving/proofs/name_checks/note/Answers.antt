use Rattle.std.proofs.Common.{Option, ap, is_some, sym}
use Rattle.day_weaving.specs.DayForm.{NamesNoAction}
use Rattle.recorded_days.specs.declared.actions.Action.{Action}
use Rattle.day_weaving.proofs.PlaceNotes.{named_twice}
use Rattle.day_weaving.proofs.name_checks.note.Goals as goal

pub returns-in_default-clause-no : goal.returns-in_default-clause-no
returns-in_default-clause-no c told =
    NamesNoAction c.args.action c.args.place.0 c.args.place.1 c.requires.stands
    (ap (λ (found : Option Action). is_some found) (sym c.in_default.ensures))

pub returns-clause-no : goal.returns-clause-no
returns-clause-no c told =
    named_twice c.args.day.now c.args.places.now c.args.action c.in-Some-place_of.standing
    c.args.place c.requires.sound c.in-Some-place_of.ensures c.requires.stands
    (c.is_same_place-same.ensures.no told)
