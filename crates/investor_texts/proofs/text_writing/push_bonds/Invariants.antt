use Rattle.std.proofs.Common.{◌≡◌, ◌++◌, take}
use Rattle.std.specs.List.{flat_map}
use Rattle.investor_texts.specs.WrittenText.{bond_line}
use Rattle.investor_texts.proofs.text_writing.push_bonds.Given as goal

abbrev pub invariant-loop-bond : goal.invariant-loop-bond
invariant-loop-bond l =
    l.text.items ≡ l.fn.text.items ++ flat_map bond_line (take l.bond-index l.bonds)
