use Rattle.investor_texts.proofs.SoughtLemmas.{text_firms, text_investor}
use Rattle.investor_texts.proofs.sought_days.SoughtDay.into_text.Goals as goal

pub returns-in_ok-text-in-Firms : goal.returns-in_ok-text-in-Firms
returns-in_ok-text-in-Firms c config sought taken keeps =
    text_firms sought config taken c.args.self c.in-Firms.day c.in_ok-text-in-Firms.text.items
    c.in-Firms.is c.in_ok-text-in-Firms.ensures keeps

pub returns-in_ok-text-in-Investor : goal.returns-in_ok-text-in-Investor
returns-in_ok-text-in-Investor c config sought taken keeps =
    text_investor sought config taken c.args.self c.in-Investor.day
    c.in_ok-text-in-Investor.text.items c.in-Investor.is c.in_ok-text-in-Investor.ensures keeps
