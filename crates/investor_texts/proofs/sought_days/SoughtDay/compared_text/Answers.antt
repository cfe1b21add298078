use Rattle.std.proofs.Common.{subst}
use Rattle.investor_texts.specs.SoughtDays.{Keeps, sought_of}
use Rattle.investor_texts.proofs.sought_days.SoughtDay.compared_text.Goals as goal

pub returns-in_ok-text-in-Firms : goal.returns-in_ok-text-in-Firms
returns-in_ok-text-in-Firms c whom config other_config taken other_taken keeps other_keeps =
    c.in_ok-text-in-Firms.ensures whom config other_config taken other_taken
    (subst (Keeps (sought_of whom) config taken) c.in-Firms.is keeps) other_keeps

pub returns-in_ok-text-in-Investor : goal.returns-in_ok-text-in-Investor
returns-in_ok-text-in-Investor c whom config other_config taken other_taken keeps other_keeps =
    c.in_ok-text-in-Investor.ensures whom config other_config taken other_taken
    (subst (Keeps (sought_of whom) config taken) c.in-Investor.is keeps) other_keeps
