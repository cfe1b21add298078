-- The messages of a recorded day as text, and the line that says into how many steps it was woven.
use Rattle.std.specs.Prelude.{ℕ, Bool, List, [], ◌∷◌, ◌++◌, None, map, codes, decimal}
use Rattle.venue_rows.specs.Rows.{Configuration}
use Rattle.step_replay.specs.FirmDays.{FirmDay}
use Rattle.recorded_days.specs.Records.{FirmLists, RecordedDay, firms_in}
use Rattle.venue_text.specs.ReplayText.{days_text, named_days}

-- what a record has of the day of a firm
abbrev pub recorded_day : FirmLists → FirmDay
recorded_day firm = record { sent = firm.sent; lines = firm.lines }

-- what a record has of the day of each firm
abbrev pub days_in_record : RecordedDay → List FirmDay
days_in_record day = map recorded_day (firms_in day)

-- the messages that the firms were sent on a recorded day, firm by firm
abbrev pub record_text : Bool → Configuration → RecordedDay → List ℕ
record_text with_frames config day =
    days_text with_frames None (named_days config (days_in_record day))

-- the line behind the messages of a day that was woven into so many steps
abbrev pub woven_line : ℕ → List ℕ
woven_line steps = codes "woven " ++ decimal steps ++ 10 ∷ []
