-- The run of a day that was read, and what is asked of its row: private.
use Rattle.std.specs.Prelude.{ℕ, []}
use Rattle.venue_rows.specs.Rows.{Configuration}
use Rattle.venue_text.specs.CompareText.{Run}
use Rattle.venue_text.specs.declared.day_arguments.AskedDay.{AskedDay}

-- the run of a day that was read
abbrev pub run_of : AskedDay → Run
run_of day = record { config = day.venue; dealer = day.firm; steps = day.steps.items }

-- a run of which the row alone is looked at
abbrev pub row_of : Configuration → ℕ → Run
row_of config dealer = record { config = config; dealer = dealer; steps = [] }
