-- Messages, each with the line of what is noted beside it.
use Rattle.std.specs.Prelude.{ℕ, Bool, List, ◌++◌, Option}
use Rattle.std.specs.List.{flat_map}
use Rattle.dealer_desk.specs.declared.notes.DealerNote.{DealerNote}
use Rattle.investor_desk.specs.declared.notes.InvestorNote.{InvestorNote}
use Rattle.note_lines.specs.NoteLines.{dealer_note_line, investor_note_line, message_number}
use Rattle.venue_text.specs.MessageLines.{line_of}

-- the line of a message, and behind it that of what is noted beside it, by the message's number
abbrev pub noted_line : Bool → List ℕ → (ℕ → List ℕ) → List ℕ → List ℕ
noted_line with_frames firm note_line message =
    line_of with_frames firm message ++ note_line (message_number message)

abbrev pub noted_text : Bool → List ℕ → (ℕ → List ℕ) → List (List ℕ) → List ℕ
noted_text with_frames firm note_line messages =
    flat_map (noted_line with_frames firm note_line) messages

-- the messages of a dealer
abbrev pub dealer_noted_text : Bool → List ℕ → List ℕ → List (Option DealerNote)
    → List (List ℕ) → List ℕ
dealer_noted_text with_frames date dealer notes messages =
    noted_text with_frames dealer (dealer_note_line date dealer notes) messages

-- the messages of an investor
abbrev pub investor_noted_text : Bool → List ℕ → List ℕ → List (Option InvestorNote)
    → List (List ℕ) → List ℕ
investor_noted_text with_frames date investor notes messages =
    noted_text with_frames investor (investor_note_line date investor notes) messages
