use Rattle.std.proofs.Common.{◌≡◌, ◌++◌, take}
use Rattle.std.specs.List.{flat_map}
use Rattle.venue_text.specs.WrittenDues.{due_line}
use Rattle.venue_text.proofs.due_writing.push_dues.Given as goal

abbrev pub invariant-loop-due : goal.invariant-loop-due
invariant-loop-due l =
    l.text.items ≡ l.fn.text.items ++ flat_map due_line (take l.due-index l.dues)
