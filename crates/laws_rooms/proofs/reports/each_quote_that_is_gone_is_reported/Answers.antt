use Rattle.laws_rooms.proofs.ReportDays.{all_reported}
use Rattle.laws_rooms.proofs.reports.each_quote_that_is_gone_is_reported.Goals as goal

pub returns : goal.returns
returns c config steps investor row is = all_reported config investor row is steps
