-- Parts of a dealer's line as the code cuts it: private.
use Rattle.std.specs.Prelude.{ℕ, List, ◌∷◌, ◌++◌, codes, decimal}
use Rattle.std.specs.List.{flat_map}
use Rattle.venue_rows.specs.declared.dealer_rows.DealerRow.{DealerRow}

-- parts, each behind a space
abbrev pub parts_behind : List (List ℕ) → List ℕ
parts_behind parts = flat_map (λ part. 32 ∷ part) parts

-- `dealer NAME QUOTES EXPOSURE`
abbrev pub limits_text : DealerRow → List ℕ
limits_text row =
    codes "dealer" ++ 32 ∷ row.name ++ 32 ∷ decimal row.quotes ++ 32 ∷ decimal row.exposure
