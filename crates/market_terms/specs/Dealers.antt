-- The dealers that a request may name, by their numbers.
use Rattle.std.specs.Prelude.{ℕ, Bool, true, ◌&&◌, ◌==◌, not, nat_le, List, [], ◌∷◌, length}
use Rattle.std.specs.List.{list_any}
use Rattle.market_terms.specs.declared.rooms.TheConstants.{MOST_DEALERS}

-- whether no dealer is named twice
abbrev pub are_distinct : List ℕ → Bool
are_distinct [] = true
are_distinct (dealer ∷ others) =
    not (list_any (λ named. named == dealer) others) && are_distinct others

-- whether a request may name these: at least one, not too many, and none of them twice
abbrev pub are_askable : List ℕ → Bool
are_askable dealers =
    (nat_le 1 (length dealers) && nat_le (length dealers) MOST_DEALERS) && are_distinct dealers
