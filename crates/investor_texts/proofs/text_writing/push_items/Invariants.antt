use Rattle.std.proofs.Common.{◌≡◌, ◌++◌, take}
use Rattle.std.specs.List.{flat_map}
use Rattle.investor_texts.specs.WrittenText.{item_line}
use Rattle.investor_texts.proofs.text_writing.push_items.Given as goal

abbrev pub invariant-loop-due : goal.invariant-loop-due
invariant-loop-due l =
    l.text.items ≡ l.fn.text.items ++ flat_map item_line (take l.due-index l.dues)
