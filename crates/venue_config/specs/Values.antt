-- What stands at a key of a table, or the first thing that is wrong with it.
use Rattle.std.specs.Prelude.{ℕ, ℤ, Bool, pos, negsuc, ◌+◌, ◌&&◌, List, [], ◌∷◌, ◌++◌, nat_le}
use Rattle.std.specs.Prelude.{Option, Some, None, Result, Ok, Err, if◌then◌else◌}
use Rattle.std.specs.Option.{option_and_then}
use Rattle.bond_prices.specs.Grid.{on_grid}
use Rattle.bond_prices.specs.Price.{price_of}
use Rattle.bond_prices.specs.declared.fault.PriceFault.{PriceFault}
use Rattle.bond_prices.specs.declared.fault.PriceFault.TheVariants as price_faults
use Rattle.toml.specs.Data.{Data, Items, no_items, item, get, as_str, as_integer, as_array}
use Rattle.venue_rows.specs.Texts.{is_among, is_name}
use Rattle.venue_config.specs.Keys.{NumberKey, TextKey, ArrayKey, traders_key}
use Rattle.venue_config.specs.declared.faults.ConfigFault.{ConfigFault}
use Rattle.venue_config.specs.declared.faults.ConfigFault.TheVariants.{Missing, Name, Twice, Limit}

-- what follows from a value, or the fault that stands before it
infixl 10 ◌>>=◌
abbrev pub ◌>>=◌ : {A B : Type 0}
    → Result A ConfigFault → (A → Result B ConfigFault) → Result B ConfigFault
Ok value >>= next = next value
Err fault >>= next = Err fault

-- an integer within its limits; absent or of another kind it is none
abbrev pub number_within : ℕ → ℤ → Result ℕ ConfigFault
number_within most (pos number) =
    if nat_le 1 number && nat_le number most then Ok number else Err Limit
number_within most (negsuc number) = Err Limit

-- an integer within its limits, where one stands
abbrev pub number_in : ℕ → Option ℤ → Result ℕ ConfigFault
number_in most None = Err Missing
number_in most (Some number) = number_within most number

-- the number at a key
unfoldable pub number_at : NumberKey → Data → Result ℕ ConfigFault
number_at key holder = number_in key.most (option_and_then as_integer (get key.key holder))

-- one of some integers; absent or of another kind it is none
abbrev pub choice_within : (ℕ → Bool) → ℤ → Result ℕ ConfigFault
choice_within is_choice (pos number) = if is_choice number then Ok number else Err Limit
choice_within is_choice (negsuc number) = Err Limit

-- one of some integers, where one stands
abbrev pub choice_in : (ℕ → Bool) → Option ℤ → Result ℕ ConfigFault
choice_in is_choice None = Err Missing
choice_in is_choice (Some number) = choice_within is_choice number

-- a price on a grid, or its fault: the form of its text, or that it is out of range, no whole 256ths
-- or off the grid
abbrev pub price_on : ℕ → Result ℕ PriceFault → Result ℕ ConfigFault
price_on grid (Ok price) = if on_grid price grid then Ok price else Err Limit
price_on grid (Err price_faults.Form) = Err Name
price_on grid (Err price_faults.Range) = Err Limit
price_on grid (Err price_faults.Grid) = Err Limit

-- the price that a text spells; another kind is none
abbrev pub price_in : ℕ → Option (List ℕ) → Result ℕ ConfigFault
price_in grid None = Err Missing
price_in grid (Some text) = price_on grid (price_of text)

-- a price that may be absent
abbrev pub price_if : ℕ → Option Data → Result (Option ℕ) ConfigFault
price_if grid None = Ok None
price_if grid (Some value) = price_in grid (as_str value) >>= (λ price. Ok (Some price))

-- the price at a key, on a grid, where one stands
unfoldable pub price_at : List ℕ → ℕ → Data → Result (Option ℕ) ConfigFault
price_at key grid holder = price_if grid (get key holder)

-- a text of its form
abbrev pub text_in : (List ℕ → Bool) → Option (List ℕ) → Result (List ℕ) ConfigFault
text_in form None = Err Missing
text_in form (Some text) = if form text then Ok text else Err Name

-- the text at a key
unfoldable pub text_at : TextKey → Data → Result (List ℕ) ConfigFault
text_at key holder = text_in key.form (option_and_then as_str (get key.key holder))

-- a text that none of those before it is
abbrev pub unnamed : List (List ℕ) → List ℕ → Result (List ℕ) ConfigFault
unnamed before text = if is_among before text then Err Twice else Ok text

-- how many elements an array has
abbrev pub item_count : Items → ℕ
item_count no_items = 0
item_count (item element items) = 1 + item_count items

-- the elements of an array that is neither too short nor too long
abbrev pub elements_in : ℕ → ℕ → Option Items → Result Items ConfigFault
elements_in least most None = Err Missing
elements_in least most (Some items) =
    if nat_le least (item_count items) && nat_le (item_count items) most
    then Ok items
    else Err Limit

-- the elements of the array at a key
unfoldable pub elements_at : ArrayKey → Data → Result Items ConfigFault
elements_at key holder =
    elements_in key.least key.most (option_and_then as_array (get key.key holder))

-- the rows of an array of tables, which may be absent
abbrev pub rows_in : ArrayKey → Option Data → Result Items ConfigFault
rows_in key None = Ok no_items
rows_in key (Some value) = elements_in key.least key.most (as_array value)

-- the rows of the array of tables at a key
unfoldable pub rows_at : ArrayKey → Data → Result Items ConfigFault
rows_at key document = rows_in key (get key.key document)

-- What elements are read as, one after the other, each in view of those that were read before it;
-- or the fault of the first that has one.
abbrev pub read_all : {Row : Type 0}
    → (List Row → Data → Result Row ConfigFault) → List Row → Items → Result (List Row) ConfigFault
read_all read rows no_items = Ok rows
read_all read rows (item element items) =
    read rows element >>= (λ row. read_all read (rows ++ row ∷ []) items)

-- a trader of a firm, whose traders have different names
unfoldable pub trader_of : List (List ℕ) → Data → Result (List ℕ) ConfigFault
trader_of before element = text_in is_name (as_str element) >>= unnamed before

-- the traders of a firm
unfoldable pub traders_at : Data → Result (List (List ℕ)) ConfigFault
traders_at row = elements_at traders_key row >>= read_all trader_of []
