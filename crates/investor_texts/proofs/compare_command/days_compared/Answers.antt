use Rattle.investor_texts.proofs.DayLemmas.{run_day, runs_seen}
use Rattle.investor_texts.proofs.compare_command.days_compared.Goals as goal

pub returns : goal.returns
returns c first second one_is other_is =
    let one = c.args.one.now in
    let other = c.args.other.now in
    c.in_ok-text.ensures first second
    (run_day one.venue one.firm _ one.steps.items c.in_ok-first.first first one_is
    c.as_slice.ensures.value c.in_ok-first.ensures)
    (run_day other.venue other.firm _ other.steps.items c.in_ok-second.second second
    other_is c.as_slice-2.ensures.value c.in_ok-second.ensures)
    (runs_seen one.venue other.venue one.firm other.firm one.steps.items
    other.steps.items c.is_same_seen-seen.result first second one_is other_is
    c.is_same_seen-seen.ensures)
