use Rattle.std.proofs.Common.{◌≡◌, take}
use Rattle.recorded_days.specs.DayDues.{DayDues, dues_after}
use Rattle.recorded_days.proofs.day_dues.day_dues.Given as goal

abbrev pub invariant-loop-event : goal.invariant-loop-event
invariant-loop-event l =
    let so_far : DayDues = record { desk = l.desk; dues = l.dues.items } in
    so_far ≡ dues_after l.date l.row (take l.event-index l.events)
