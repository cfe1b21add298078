-- Arrays of a TOML text beside the elements that they stand for, and reading them one after the
-- other.
use Rattle.std.proofs.Common.{◌≡◌, ℕ, ◌+◌, ◌<◌, ◌≤◌, List, [], ◌∷◌, ◌++◌, length, get_or, drop}
use Rattle.std.proofs.Common.{Result, Ok, Err, refl, arith}
use Rattle.std.proofs.lemmas.List.{drop_all}
use Rattle.toml.specs.Data.{Data}
use Rattle.toml.specs.View.{view, items_view}
use Rattle.toml.specs.declared.value.Value.{Value}
use Rattle.toml.proofs.Views.{items_view-drop}
use Rattle.venue_config.specs.Values.{item_count, read_all}
use Rattle.venue_config.specs.declared.faults.ConfigFault.{ConfigFault}

-- an array has as many elements as the list that it is seen of
pub item_count_view : (values : List Value) → item_count (items_view values) ≡ length values
item_count_view [] = refl
item_count_view (value ∷ values) = omega (arith, item_count_view values)

-- what is left to read, where an element was read
pub read_all_ok : {Row : Type 0} (read : List Row → Data → Result Row ConfigFault) (rows : List Row) (values : List Value) (i : ℕ) (d : Value) (row : Row) → i < length values
    → Ok row ≡ read rows (view (get_or values i d))
    → read_all read rows (items_view (drop i values)) ≡ read_all read (rows ++ row ∷ []) (items_view (drop (i + 1) values))
read_all_ok read rows values i d row within was = rw (items_view-drop values i d within, ← was)

-- and where one has a fault
pub read_all_err : {Row : Type 0} (read : List Row → Data → Result Row ConfigFault) (rows : List Row) (values : List Value) (i : ℕ) (d : Value) (fault : ConfigFault) → i < length values
    → Err fault ≡ read rows (view (get_or values i d))
    → read_all read rows (items_view (drop i values)) ≡ Err fault
read_all_err read rows values i d fault within was = rw (items_view-drop values i d within, ← was)

-- and where there is none left
pub read_all_end : {Row : Type 0} (read : List Row → Data → Result Row ConfigFault) (rows : List Row) (values : List Value) (i : ℕ) → length values ≤ i
    → read_all read rows (items_view (drop i values)) ≡ Ok rows
read_all_end read rows values i past = rw (drop_all i values past)
