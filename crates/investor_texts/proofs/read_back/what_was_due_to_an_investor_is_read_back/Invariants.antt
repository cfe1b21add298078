use Rattle.std.proofs.Common.{take}
use Rattle.investor_texts.proofs.ReadBackLists.{EachReadsAs}
use Rattle.investor_texts.proofs.read_back.what_was_due_to_an_investor_is_read_back.Given as goal

abbrev pub invariant-loop-due : goal.invariant-loop-due
invariant-loop-due l = EachReadsAs l.date (take l.due-index l.dues)
