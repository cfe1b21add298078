use Rattle.std.proofs.Common.{◌<◌, ◌≤◌, arith}
use Rattle.step_replay.specs.StepFaults.{firms_of}
use Rattle.day_weaving.proofs.PlaceNotes.{all_noted, are_named_once, firms_more}
use Rattle.day_weaving.proofs.name_checks.places_of.Goals as goal

pub returns-then-not-once-clause-no : goal.returns-then-not-once-clause-no
returns-then-not-once-clause-no c = c.in_ok-once.ensures.no c.if-not-once.true

pub loop-firm-preserved : goal.loop-firm-preserved
loop-firm-preserved c =
    let grow = c.in_ok-once.ensures.grow c.if-not-once.false in
    record {
      sound = c.in_ok-once.ensures.sound c.if-not-once.false;
      noted = firms_more c.args.config.now c.args.day.now c.loop-firm.places c.note_firm.new.places
          c.loop-firm.firm grow (c.in_ok-once.ensures.all c.if-not-once.false)
          c.loop-firm.invariant.noted;
    }

pub are_all_noted-requires-clause-all : goal.are_all_noted-requires-clause-all
are_all_noted-requires-clause-all c =
    let ended : firms_of c.args.config.now ≤ c.loop-firm.firm = omega arith in
    all_noted c.args.config.now c.args.day.now c.loop-firm.places c.requires
    (λ firm within. let below : firm < c.loop-firm.firm = omega arith in
    c.loop-firm.invariant.noted firm below)

pub returns-then-not-are_all_noted-clause-no : goal.returns-then-not-are_all_noted-clause-no
returns-then-not-are_all_noted-clause-no c =
    c.are_all_noted.ensures.no c.if-not-are_all_noted.true

pub returns-clause-yes : goal.returns-clause-yes
returns-clause-yes c =
    let ended : firms_of c.args.config.now ≤ c.loop-firm.firm = omega arith in
    let all = c.are_all_noted.ensures.yes c.if-not-are_all_noted.false in (
      are_named_once c.args.day.now c.loop-firm.places c.loop-firm.invariant.sound
          (all_noted c.args.config.now c.args.day.now c.loop-firm.places c.requires
          (λ firm within. let below : firm < c.loop-firm.firm = omega arith in
          c.loop-firm.invariant.noted firm below)) all,
      c.loop-firm.invariant.sound,
      all,
    )
