-- Unsigned decimal numbers as text.
use Rattle.std.specs.Prelude.{ℕ, List, Option, Some, None, if◌then◌else◌}
use Rattle.bond_prices.specs.Price.{are_lawful, digits_of, number_of, scale_of, cut_at_point}
use Rattle.bond_prices.specs.declared.decimal.Decimal.{Decimal}

-- the number that an unsigned text spells
unfoldable pub decimal_of : List ℕ → Option Decimal
decimal_of text =
    if are_lawful (digits_of (cut_at_point text))
    then Some (record {
      number = number_of (cut_at_point text);
      scale = scale_of (cut_at_point text);
    })
    else None
