use Rattle.day_weaving.proofs.PlaceNotes.{sets_place}
use Rattle.day_weaving.proofs.name_checks.put_place.Goals as goal

pub returns : goal.returns
returns c =
    sets_place c.args.places.now c.insert.new.self c.args.action c.args.place c.key_of.result
    c.key_of.ensures c.in_ok-insert.ensures.updates.1 c.in_ok-insert.ensures.updates.2
