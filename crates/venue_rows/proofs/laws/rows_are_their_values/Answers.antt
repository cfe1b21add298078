use Rattle.venue_rows.proofs.SameRows.{same_rows}
use Rattle.venue_rows.proofs.laws.rows_are_their_values.Goals as goal

pub returns : goal.returns
returns c = same_rows
