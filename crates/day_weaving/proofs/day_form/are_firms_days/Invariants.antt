use Rattle.std.proofs.Common.{◌≡◌, ◌<◌, ℕ, Some}
use Rattle.day_weaving.specs.DayForm.{IsFirmsDay}
use Rattle.recorded_days.specs.Records.{FirmLists, firm_in}
use Rattle.day_weaving.proofs.day_form.are_firms_days.Given as goal

abbrev pub invariant-loop-firm : goal.invariant-loop-firm
invariant-loop-firm l = (firm : ℕ) → firm < l.firm → (lists : FirmLists)
    → firm_in l.day firm ≡ Some lists → IsFirmsDay l.day lists
