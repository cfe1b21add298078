-- What is due to a dealer, written as lines of due text.
use Rattle.std.specs.Prelude.{ℕ, ◌==◌, Bool, ◌&&◌, ◌||◌, List, [], ◌∷◌, ◌++◌, map, codes, decimal}
use Rattle.std.specs.Prelude.{if◌then◌else◌}
use Rattle.std.specs.List.{flat_map, list_any}
use Rattle.hex.specs.Hex.{encode_lower}
use Rattle.bond_prices.specs.Band.{is_whole}
use Rattle.bond_prices.specs.Grid.{finest_grid}
use Rattle.bond_prices.specs.Price.{price_digits}
use Rattle.bond_prices.specs.declared.band.Band.{Band}
use Rattle.fix_fields.specs.TimeOfDay.{time_text}
use Rattle.market_terms.specs.Codes.{close_code, side_code}
use Rattle.market_terms.specs.declared.asks.Ask.{Ask}
use Rattle.step_replay.specs.declared.dues.Due.{Due}
use Rattle.step_replay.specs.declared.dues.Due.TheVariants as due
use Rattle.input_lines.specs.SayLine.{with_bar}

-- INVESTOR BOND SIDE QUANTITY
abbrev pub terms_text : Ask → List ℕ
terms_text ask =
    ask.investor ++ 32 ∷ ask.bond ++ 32 ∷ decimal (side_code ask.side) ++ 32 ∷ decimal ask.quantity

-- INVESTOR BOND SIDE QUANTITY DEADLINE
abbrev pub ask_text : Ask → List ℕ
ask_text ask = terms_text ask ++ 32 ∷ time_text ask.deadline

-- LOW HIGH behind their spaces, where the band is not that of every price
unfoldable pub band_text : Band → List ℕ
band_text band =
    if is_whole band then [] else 32 ∷ price_digits band.low ++ 32 ∷ price_digits band.high

-- GRID LOW HIGH behind their spaces: nothing where the grid is the finest and every price is in the
-- band
unfoldable pub limits_text : ℕ → Band → List ℕ
limits_text grid band =
    if (grid == finest_grid) && is_whole band then [] else 32 ∷ decimal grid ++ band_text band

-- TIME GRID LOW HIGH, with which a request's line ends
unfoldable pub end_text : ℕ → ℕ → Band → List ℕ
end_text moment grid band = time_text moment ++ limits_text grid band ++ 10 ∷ []

-- a byte that an `own` line can't say of itself: a vertical bar stands there for SOH, and a line
-- feed ends the line
abbrev pub is_unsayable : ℕ → Bool
is_unsayable c = (c == 124) || (c == 10)

-- a message byte by byte, SOH as a vertical bar
abbrev pub bytes_line : ℕ → List ℕ → List ℕ
bytes_line moment message =
    codes "own " ++ time_text moment ++ 32 ∷ map with_bar message ++ 10 ∷ []

-- a message digit by digit
abbrev pub hex_line : ℕ → List ℕ → List ℕ
hex_line moment message =
    codes "hex " ++ time_text moment ++ 32 ∷ encode_lower message ++ 10 ∷ []

-- a message of the dealer's own: byte by byte, or digit by digit where it has such a byte
unfoldable pub own_line : ℕ → List ℕ → List ℕ
own_line moment message =
    if list_any is_unsayable message then hex_line moment message else bytes_line moment message

-- an item of what is due as its line of due text
abbrev pub due_line : Due → List ℕ
due_line (due.Own moment message) = own_line moment message
due_line (due.Shown ask moment) =
    codes "shown " ++ ask_text ask ++ 32 ∷ end_text moment ask.grid ask.band
due_line (due.Lifted quote) = codes "lifted " ++ decimal quote ++ 10 ∷ []
due_line (due.Closed request close moment) =
    codes "closed " ++ decimal request ++ 32 ∷ decimal (close_code close)
    ++ 32 ∷ time_text moment ++ 10 ∷ []
due_line (due.Drop last moment) =
    codes "drop " ++ decimal last ++ 32 ∷ time_text moment ++ 10 ∷ []

-- a list of what is due, a line an item
abbrev pub due_lines : List Due → List ℕ
due_lines dues = flat_map due_line dues
