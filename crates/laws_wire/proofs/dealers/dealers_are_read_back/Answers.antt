use Rattle.step_replay.specs.DealerView.{dealer_view}
use Rattle.step_replay.specs.NoteViews.{dealer_note_view}
use Rattle.laws_wire.proofs.dealers.dealers_are_read_back.Goals as goal

pub returns : goal.returns
returns c = λ date row dues words names s events no_reset are.
    c.what_is_kept_reads_back.ensures.read names s events (dealer_view date row dues) (words (dealer_note_view date row dues)) no_reset are
