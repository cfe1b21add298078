use Rattle.std.proofs.Common.{List, ap, ◌∙◌}
use Rattle.std.specs.Prelude.{slice_get, vec_items}
use Rattle.step_replay.specs.FirmDays.{FirmDay}
use Rattle.venue_text.specs.BlotterCommand.{blotter_of}
use Rattle.venue_text.proofs.kept_days.blotter_of.Goals as goal

pub returns : goal.returns
returns c steps at =
    let config = c.args.day.config in
    ap vec_items c.into_bytes.ensures.value ∙ c.in_ok-text.ensures
    ∙ ap (λ (days : List FirmDay). blotter_of (slice_get days c.args.firm))
    (c.into_world-world.ensures config steps at)
