use Rattle.std.proofs.Common.{List, ap, ◌∙◌}
use Rattle.step_replay.specs.FirmDays.{FirmDay}
use Rattle.venue_text.specs.ReplayText.{days_text, named_days}
use Rattle.venue_text.proofs.kept_days.messages_of.Goals as goal

pub returns : goal.returns
returns c steps at =
    let config = c.args.day.config in
    c.in_ok-text.ensures
    ∙ ap (λ (days : List FirmDay). days_text c.args.frames c.args.only (named_days config days))
    (c.into_world-world.ensures config steps at)
