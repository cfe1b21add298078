use Rattle.std.proofs.Common.{◌≡◌, rules}
use Rattle.investor_texts.specs.declared.sought_days.SoughtDay.TheVariants as day
use Rattle.investor_texts.proofs.SoughtLemmas.{firms_more, investor_more}
use Rattle.investor_texts.proofs.sought_days.SoughtDay.keep.Goals as goal

pub returns-in_ok-fault-in-Firms : goal.returns-in_ok-fault-in-Firms
returns-in_ok-fault-in-Firms c config sought taken keeps =
    let was : c.args.self.now ≡ day.Firms c.in-Firms.day = search rules in
    firms_more sought config taken c.args.line c.args.text.now c.args.self.now c.in-Firms.day _ _
    was c.in_ok-fault-in-Firms.ensures keeps

pub returns-in_ok-fault-in-Investor : goal.returns-in_ok-fault-in-Investor
returns-in_ok-fault-in-Investor c config sought taken keeps =
    let was : c.args.self.now ≡ day.Investor c.in-Investor.day = search rules in
    investor_more sought config taken c.args.line c.args.text.now c.args.self.now
    c.in-Investor.day _ _ was c.in_ok-fault-in-Investor.ensures keeps
