use Rattle.std.proofs.Common.{◌≡◌, ◌*◌, ◌≤◌, sum_by, take}
use Rattle.venue_rows.specs.declared.dealer_rows.DealerRow.{DealerRow}
use Rattle.venue_config.proofs.reading.quotes_in_all.Given as goal

abbrev pub invariant-loop-row : goal.invariant-loop-row
invariant-loop-row l =
    (l.total ≡ sum_by (λ (row : DealerRow). row.quotes) (take l.row-index l.dealers)) × (l.total ≤ 4294967295 * l.row-index)
