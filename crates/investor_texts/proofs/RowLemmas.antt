-- Bonds by their identifiers.
use Rattle.std.proofs.Common.{◌≡◌, ℕ, ◌||◌, List, [], ◌∷◌, refl, ap}
use Rattle.std.specs.List.{list_any}
use Rattle.venue_rows.specs.Rows.{bond_ids}
use Rattle.venue_rows.specs.Texts.{is_among, same_text}
use Rattle.venue_rows.specs.declared.bond_rows.BondRow.{BondRow}

-- an identifier is among those of bonds where a bond has it
pub among_bonds : (rows : List BondRow) (id : List ℕ)
    → list_any (λ (row : BondRow). same_text row.id id) rows ≡ is_among (bond_ids rows) id
among_bonds [] id = refl
among_bonds (row ∷ rows) id = ap (λ b. same_text row.id id || b) (among_bonds rows id)
