use Rattle.investor_texts.proofs.SoughtLemmas.{dealers_compare}
use Rattle.investor_texts.proofs.sought_days.SoughtDay.dealers_compared.Goals as goal

pub returns : goal.returns
returns c whom config other_config taken other_taken keeps other_keeps =
    dealers_compare whom config other_config taken other_taken c.args.one c.in-Firms.second
    c.args.self _ c.in-Firms.is c.in_ok-text.ensures keeps other_keeps
