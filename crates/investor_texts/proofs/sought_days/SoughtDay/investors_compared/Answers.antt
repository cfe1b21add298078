use Rattle.investor_texts.proofs.SoughtLemmas.{investors_compare}
use Rattle.investor_texts.proofs.sought_days.SoughtDay.investors_compared.Goals as goal

pub returns : goal.returns
returns c whom config other_config taken other_taken keeps other_keeps =
    investors_compare whom config other_config taken other_taken c.args.one c.in-Investor.second
    c.args.self _ c.in-Investor.is c.in_ok-text.ensures keeps other_keeps
