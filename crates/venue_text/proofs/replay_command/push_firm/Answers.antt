use Rattle.std.proofs.Common.{◌++◌, sym, ap, ◌∙◌}
use Rattle.std.proofs.lemmas.List.{append-nil}
use Rattle.venue_rows.specs.Rows.{firm_names}
use Rattle.venue_text.proofs.DayLemmas.{messages_of_none, messages_of_no_day}
use Rattle.venue_text.proofs.replay_command.push_firm.Goals as goal

pub returns-in_default : goal.returns-in_default
returns-in_default c =
    sym (append-nil c.args.text.now.items)
    ∙ ap (λ t. c.args.text.now.items ++ t)
    (sym (messages_of_none c.args.with_frames (firm_names c.args.venue.now) c.args.world.now c.args.firm c.in_default.ensures))

pub returns-in_default-sent : goal.returns-in_default-sent
returns-in_default-sent c =
    sym (append-nil c.args.text.now.items)
    ∙ ap (λ t. c.args.text.now.items ++ t)
    (sym (messages_of_no_day c.args.with_frames (firm_names c.args.venue.now) c.args.world.now c.args.firm c.in_default-sent.ensures))
