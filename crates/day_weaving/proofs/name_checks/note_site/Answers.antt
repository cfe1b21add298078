use Rattle.std.proofs.Common.{◌≤◌, arith, length}
use Rattle.day_weaving.proofs.PlaceNotes.{grow_twice, spots_all, spots_more}
use Rattle.day_weaving.proofs.name_checks.note_site.Goals as goal

pub returns-then-not-once-clause-no : goal.returns-then-not-once-clause-no
returns-then-not-once-clause-no c told = c.in_ok-once.ensures.no c.if-not-once.true

pub loop-spot-preserved : goal.loop-spot-preserved
loop-spot-preserved c =
    let day = c.args.day.now in
    let grow = c.in_ok-once.ensures.grow c.if-not-once.false in
    record {
      sound = c.in_ok-once.ensures.sound c.if-not-once.false;
      grow = grow_twice c.args.places.now c.loop-spot.places c.note_spot.new.places
          c.loop-spot.invariant.grow grow;
      noted = spots_more day c.loop-spot.places c.note_spot.new.places c.args.site c.loop-spot.spot
          grow (c.in_ok-once.ensures.all c.if-not-once.false) c.loop-spot.invariant.noted;
    }

pub returns-clause-all : goal.returns-clause-all
returns-clause-all c told =
    let ended : length c.in-Some.order.now ≤ c.loop-spot.spot = omega arith in
    spots_all c.args.day.now c.loop-spot.places c.args.site c.in-Some.order.now c.loop-spot.spot
    c.in-Some.ensures ended c.loop-spot.invariant.noted
