use Rattle.std.proofs.Common.{◌≡◌, ◌*◌, ◌≤◌, sum_by, take}
use Rattle.venue_rows.specs.declared.investor_rows.InvestorRow.{InvestorRow}
use Rattle.venue_config.proofs.reading.requests_in_all.Given as goal

abbrev pub invariant-loop-row : goal.invariant-loop-row
invariant-loop-row l =
    (l.total ≡ sum_by (λ (row : InvestorRow). row.requests) (take l.row-index l.investors)) × (l.total ≤ 4294967295 * l.row-index)
