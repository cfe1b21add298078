use Rattle.std.proofs.Common.{◌≡◌, take}
use Rattle.investor_views.specs.InvestorView.{view_after}
use Rattle.investor_dues.proofs.alone.alone_investor_output.Given as goal

abbrev pub invariant-loop-due : goal.invariant-loop-due
invariant-loop-due l = l.desk ≡ view_after l.seen (take l.due-index l.dues)
