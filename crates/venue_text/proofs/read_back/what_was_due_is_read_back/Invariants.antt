use Rattle.std.proofs.Common.{take}
use Rattle.venue_text.proofs.ReadBackLists.{EachReadsAs}
use Rattle.venue_text.proofs.read_back.what_was_due_is_read_back.Given as goal

abbrev pub invariant-loop-due : goal.invariant-loop-due
invariant-loop-due l = EachReadsAs l.date (take l.due-index l.dues)
