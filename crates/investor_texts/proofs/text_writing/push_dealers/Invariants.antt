use Rattle.std.proofs.Common.{◌≡◌, ◌++◌, take}
use Rattle.std.specs.List.{flat_map}
use Rattle.investor_texts.specs.WrittenText.{dealer_line}
use Rattle.investor_texts.proofs.text_writing.push_dealers.Given as goal

abbrev pub invariant-loop-name : goal.invariant-loop-name
invariant-loop-name l =
    l.text.items ≡ l.fn.text.items ++ flat_map dealer_line (take l.name-index l.names)
