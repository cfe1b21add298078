use Rattle.venue_rows.specs.Rows.{firm_names}
use Rattle.venue_text.proofs.DayLemmas.{lists_text}
use Rattle.venue_text.proofs.replay_command.long_days_text.Goals as goal

pub returns : goal.returns
returns c =
    lists_text (λ list. list.items) c.args.with_frames c.args.only (firm_names c.args.venue.now)
    c.as_slice.result.now c.in_ok-sent.sent.items c.args.world _ c.in_ok-text.ensures c.as_slice.ensures.value
    c.in_ok-sent.ensures
