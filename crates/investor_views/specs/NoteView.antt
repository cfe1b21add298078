-- What is noted beside the messages of an investor, as a function of what it sees of the venue and of
-- what is due to it, as its messages are.
use Rattle.std.specs.Prelude.{List, Option}
use Rattle.investor_desk.specs.InvestorDesk.{DeskEvents}
use Rattle.investor_desk.specs.InvestorOutput.{investor_notes}
use Rattle.investor_desk.specs.declared.notes.InvestorNote.{InvestorNote}
use Rattle.investor_views.specs.InvestorView.{SeenMarket, view_after}
use Rattle.investor_views.specs.declared.dues.InvestorDue.{InvestorDue}

-- what the desk of an investor has noted
abbrev pub notes_at : DeskEvents → List (Option InvestorNote)
notes_at desk = investor_notes desk.market desk.events

-- The notes of an investor that sees this, and to which this is due. Nothing else of the venue can
-- matter to them.
abbrev pub note_view : SeenMarket → List InvestorDue → List (Option InvestorNote)
note_view seen dues = notes_at (view_after seen dues)
