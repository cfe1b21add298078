use Rattle.day_weaving.proofs.PlaceNotes.{grow_twice, rooms_more}
use Rattle.day_weaving.proofs.name_checks.note_rooms.Goals as goal

pub returns-then-not-once-clause-no : goal.returns-then-not-once-clause-no
returns-then-not-once-clause-no c told = c.in_ok-once.ensures.no c.if-not-once.true

pub loop-index-preserved : goal.loop-index-preserved
loop-index-preserved c =
    let grow = c.in_ok-once.ensures.grow c.if-not-once.false in
    record {
      sound = c.in_ok-once.ensures.sound c.if-not-once.false;
      grow = grow_twice c.args.places.now c.loop-index.places c.note_site.new.places
          c.loop-index.invariant.grow grow;
      noted = rooms_more c.args.day.now c.loop-index.places c.note_site.new.places c.args.investor
          c.loop-index.index grow (c.in_ok-once.ensures.all c.if-not-once.false)
          c.loop-index.invariant.noted;
    }
