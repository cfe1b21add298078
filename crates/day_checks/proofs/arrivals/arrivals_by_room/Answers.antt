use Rattle.std.proofs.Common.{rules, ◌≡◌, ◌+◌, ◌∷◌, ◌++◌, ◌∙◌, sym, ap, length, append_assoc, arith}
use Rattle.day_checks.specs.Arrivals.{arrivals_at, arrivals_from}
use Rattle.day_checks.specs.SweptRooms.{list_of}
use Rattle.day_checks.proofs.arrivals.arrivals_by_room.Goals as goal

-- what came to one investor more
pub loop-investor-preserved : goal.loop-investor-preserved
loop-investor-preserved c =
    let day = c.in-Some.investor.now in
    let later = c.in-Some.later.now in
    let firm = c.loop-investor.firm in
    let first : c.loop-investor.rest.now ≡ day ∷ later = search rules in
    let read : c.deref.result.now ≡ day.events = search rules in
    record {
      same = λ room.
          ap (λ own. own ++ arrivals_from room (firm + 1) later)
          (c.in_ok-put_events.ensures room
          ∙ ap (λ own. list_of c.loop-investor.by_room room ++ arrivals_at room firm own) read)
          ∙ append_assoc (list_of c.loop-investor.by_room room) (arrivals_at room firm day.events)
          (arrivals_from room (firm + 1) later)
          ∙ ap (λ rest. list_of c.loop-investor.by_room room ++ arrivals_from room firm rest)
          (sym first)
          ∙ c.loop-investor.invariant.same room;
      counted = omega (arith, ap length first);
    }
