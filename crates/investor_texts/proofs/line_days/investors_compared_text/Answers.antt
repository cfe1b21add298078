use Rattle.investor_texts.proofs.DayLemmas.{days_compared}
use Rattle.investor_texts.proofs.line_days.investors_compared_text.Goals as goal

pub returns : goal.returns
returns c name config other_config taken other_taken keeps other_keeps =
    days_compared name config other_config taken other_taken c.args.one c.args.other
    c.in_ok-first.first c.in_ok-second.second c.is_same_seen-seen.result _ keeps other_keeps
    c.in_ok-first.ensures c.in_ok-second.ensures c.is_same_seen-seen.ensures c.in_ok-text.ensures
