-- The texts of the faults of a day on threads.
use Rattle.std.specs.Prelude.{ℕ, List, ◌++◌, codes, decimal}
use Rattle.day_checks.specs.declared.faults.DayFault.{DayFault}
use Rattle.day_checks.specs.declared.faults.DayFault.TheVariants as fault

-- a fault, as it is printed
abbrev pub fault_text : DayFault → List ℕ
fault_text fault.Memory = codes "out of memory"
fault_text (fault.Inbox firm) =
    codes "the desk of firm " ++ decimal firm
    ++ codes " does not have its messages or their answers"
fault_text (fault.Told dealer) =
    codes "dealer " ++ decimal dealer ++ codes " was not told how its requests ended"
fault_text (fault.Sweep room) =
    codes "request " ++ decimal room.n ++ codes " of firm " ++ decimal room.investor
    ++ codes " was not swept as the clock was told"
fault_text (fault.Shown dealer) =
    codes "dealer " ++ decimal dealer ++ codes " was not shown the requests that name it"
fault_text (fault.Relayed room) =
    codes "request " ++ decimal room.n ++ codes " of firm " ++ decimal room.investor
    ++ codes " did not get the quotes that were posted for it"
fault_text (fault.Answered room) =
    codes "request " ++ decimal room.n ++ codes " of firm " ++ decimal room.investor
    ++ codes " did not get the replies of its room"
fault_text (fault.Acted firm) =
    codes "firm " ++ decimal firm
    ++ codes " has an event of no action, at its desk or in its rooms"
