-- The names of dealers, as the code compares them: for private functions alone.
use Rattle.std.specs.Prelude.{ℕ, List, map, Option, slice_get}
use Rattle.std.specs.Option.{option_map}
use Rattle.venue_rows.specs.declared.dealer_rows.DealerRow.{DealerRow}

-- in their order
abbrev pub names_of : List DealerRow → List (List ℕ)
names_of dealers = map (λ (dealer : DealerRow). dealer.name) dealers

-- that at a place, or none behind the last one
abbrev pub name_at : List DealerRow → ℕ → Option (List ℕ)
name_at dealers place =
    option_map (λ (dealer : DealerRow). dealer.name) (slice_get dealers place)
