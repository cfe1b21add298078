use Rattle.std.proofs.Common.{rules, ◌≡◌, ◌∷◌, ◌++◌, ◌∙◌, sym, ap}
use Rattle.day_checks.specs.DayChecks.{times_for}
use Rattle.day_checks.specs.SweptRooms.{list_of}
use Rattle.day_checks.proofs.SweptLemmas.{sweep_more}
use Rattle.day_checks.proofs.swept_rooms.times_by_room.Goals as goal

-- one sweep more is put under its room
pub loop-sweep-preserved : goal.loop-sweep-preserved
loop-sweep-preserved c =
    let sweep = c.in-Some.sweep.now in
    let later = c.in-Some.later.now in
    let first : c.loop-sweep.rest.now ≡ sweep ∷ later = search rules in
    record {
      same = λ room.
          ap (λ times. times ++ times_for room later) (c.in_ok-put_sweep.ensures room)
          ∙ sweep_more room sweep later (list_of c.loop-sweep.by_room room)
          ∙ ap (λ rest. list_of c.loop-sweep.by_room room ++ times_for room rest) (sym first)
          ∙ c.loop-sweep.invariant.same room;
    }
