use Rattle.std.proofs.Common.{◌≡◌, ℕ, ◌<◌}
use Rattle.day_weaving.specs.Weaving.{sent_by_record, sent_in}
use Rattle.day_weaving.proofs.sent_checks.sent_elsewise.Given as goal

abbrev pub invariant-loop-firm : goal.invariant-loop-firm
invariant-loop-firm l =
    (firm : ℕ) → firm < l.firm → sent_in l.world firm ≡ sent_by_record l.day firm
