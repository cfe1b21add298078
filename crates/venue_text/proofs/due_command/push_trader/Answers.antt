use Rattle.std.proofs.Common.{◌++◌, sym, ap, ◌∙◌}
use Rattle.std.proofs.lemmas.List.{append-nil}
use Rattle.venue_text.specs.DueCuts.{parts_behind}
use Rattle.venue_text.proofs.DayLemmas.{one_at_none, word_at}
use Rattle.venue_text.proofs.due_command.push_trader.Goals as goal

pub returns-in_default : goal.returns-in_default
returns-in_default c =
    sym (append-nil c.args.text.now.items)
    ∙ ap (λ words. c.args.text.now.items ++ parts_behind words)
    (sym (one_at_none c.args.traders.now c.args.place (sym c.in_default.ensures)))

pub returns : goal.returns
returns c =
    c.in_ok-push_part.ensures
    ∙ ap (λ t. c.args.text.now.items ++ t) (word_at c.args.traders.now c.args.place c.in-Some.name.now c.in-Some.ensures)
