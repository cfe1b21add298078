-- The time of day of a moment, as it is printed.
use Rattle.std.specs.Prelude.{ℕ, ◌%◌, List, ◌∷◌, ◌++◌}
use Rattle.fix_fields.specs.Frame.{three_digits}
use Rattle.fix_fields.specs.UtcTimestamp.{clock_text}

-- `HH:MM:SS.sss` of a count of milliseconds
unfoldable pub time_text : ℕ → List ℕ
time_text n = clock_text n ++ 46 ∷ three_digits (n % 1000)
