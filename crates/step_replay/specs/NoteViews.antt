-- What is noted beside the messages of a dealer, as a function of what is due to it, as its messages
-- are.
use Rattle.std.specs.Prelude.{ℕ, List, Option}
use Rattle.venue_rows.specs.declared.dealer_rows.DealerRow.{DealerRow}
use Rattle.dealer_desk.specs.DealerDesk.{DeskEvents}
use Rattle.dealer_desk.specs.DealerNotes.{dealer_notes}
use Rattle.dealer_desk.specs.declared.notes.DealerNote.{DealerNote}
use Rattle.step_replay.specs.DealerView.{view_after}
use Rattle.step_replay.specs.declared.dues.Due.{Due}

-- what the desk of a dealer has noted
abbrev pub notes_at : DeskEvents → List (Option DealerNote)
notes_at desk = dealer_notes desk.date desk.row desk.events

-- The notes of a dealer: what its desk has noted beside each message of the dealer view. The date, the
-- dealer's own row and the list of what is due to it go into them, and nothing else of the venue.
abbrev pub dealer_note_view : List ℕ → DealerRow → List Due → List (Option DealerNote)
dealer_note_view date row dues = notes_at (view_after date row dues).desk
