-- What is wrong with a document that was read is found among its values: it is neither TOML nor
-- memory.
use Rattle.std.proofs.Common.{◌≡◌, ◌≢◌, ℕ, ℤ, pos, negsuc, Bool, true, false, ◌&&◌, nat_le, List}
use Rattle.std.proofs.Common.{[], ◌∷◌, ◌++◌, Option, Some, None, Result, Ok, Err, IfErr, cond, refl}
use Rattle.std.proofs.Common.{ap, ◌∙◌}
use Rattle.std.specs.Option.{option_and_then}
use Rattle.toml.specs.Data.{Data, Items, no_items, item, get, as_str, as_integer, as_array}
use Rattle.venue_rows.specs.Texts.{is_among, is_name}
use Rattle.venue_config.specs.Keys.{NumberKey, ChoiceKey, TextKey, ArrayKey, version_key}
use Rattle.venue_config.specs.Keys.{has_bands, has_grids, high_key, low_key}
use Rattle.venue_config.specs.Keys.{date_key, bonds_key, id_key, grid_key, dealers_key}
use Rattle.venue_config.specs.Keys.{investors_key, name_key, traders_key, quotes_key, exposure_key}
use Rattle.venue_config.specs.Keys.{requests_key, open_key, quantity_key}
use Rattle.venue_config.specs.Values.{◌>>=◌, number_in, number_at, choice_in, text_in}
use Rattle.venue_config.specs.Values.{text_at, unnamed, item_count, elements_in, elements_at}
use Rattle.venue_config.specs.Values.{price_at, price_if, price_in, price_on}
use Rattle.venue_config.specs.Values.{rows_in, rows_at, read_all, trader_of, traders_at}
use Rattle.venue_rows.specs.Rows.{DealerValues, InvestorValues, bond_ids}
use Rattle.bond_prices.specs.Band.{whole_band}
use Rattle.bond_prices.specs.Grid.{is_grid, finest_grid, on_grid}
use Rattle.bond_prices.specs.Price.{price_of}
use Rattle.bond_prices.specs.declared.fault.PriceFault.{PriceFault}
use Rattle.bond_prices.specs.declared.fault.PriceFault.TheVariants as price_faults
use Rattle.venue_rows.specs.declared.bond_rows.BondRow.{BondRow}
use Rattle.venue_config.specs.Config.{band_between, band_in, band_of, bond_of, bond_id_of}
use Rattle.venue_config.specs.Config.{grid_in, grid_of, firm_name_of, dealer_names}
use Rattle.venue_config.specs.Config.{investor_names, dealer_of, investor_of, bonds_in, dealers_in}
use Rattle.venue_config.specs.Config.{investors_in, sums_fit, config_in}
use Rattle.venue_config.specs.declared.faults.ConfigFault.{ConfigFault}
use Rattle.venue_config.specs.declared.faults.ConfigFault.TheVariants.{Toml, Missing, Name, Twice}
use Rattle.venue_config.specs.declared.faults.ConfigFault.TheVariants.{Limit, Memory}

-- a fault of a value
abbrev pub IsOfValue : ConfigFault → Type 0
IsOfValue fault = (fault ≢ Toml) × (fault ≢ Memory)

-- a value, or a fault of a value
abbrev pub HasOwnFault : {A : Type 0} → Result A ConfigFault → Type 0
HasOwnFault r = IfErr r IsOfValue

missing : IsOfValue Missing
missing = (λ e. cc, λ e. cc)

name : IsOfValue Name
name = (λ e. cc, λ e. cc)

twice : IsOfValue Twice
twice = (λ e. cc, λ e. cc)

limit : IsOfValue Limit
limit = (λ e. cc, λ e. cc)

then_own : {A B : Type 0} (r : Result A ConfigFault) (next : A → Result B ConfigFault) → HasOwnFault r → ((a : A) → HasOwnFault (next a)) → HasOwnFault (r >>= next)
then_own (Ok a) next first rest = rest a
then_own (Err fault) next first rest = first

if_own : {A : Type 0} (test : Bool) (a : A) (fault : ConfigFault) → IsOfValue fault → HasOwnFault (cond test (Ok a) (Err fault))
if_own true a fault own = tt
if_own false a fault own = own

unless_own : {A : Type 0} (test : Bool) (a : A) (fault : ConfigFault) → IsOfValue fault → HasOwnFault (cond test (Err fault) (Ok a))
unless_own true a fault own = own
unless_own false a fault own = tt

number_in-own : (most : ℕ) (number : Option ℤ) → HasOwnFault (number_in most number)
number_in-own most None = missing
number_in-own most (Some (pos number)) = if_own (nat_le 1 number && nat_le number most) number Limit limit
number_in-own most (Some (negsuc number)) = limit

number_at-own : (key : NumberKey) (holder : Data) → HasOwnFault (number_at key holder)
unfolding number_at
number_at-own key holder = number_in-own key.most (option_and_then as_integer (get key.key holder))

text_in-own : (form : List ℕ → Bool) (text : Option (List ℕ)) → HasOwnFault (text_in form text)
text_in-own form None = missing
text_in-own form (Some text) = if_own (form text) text Name name

text_at-own : (key : TextKey) (holder : Data) → HasOwnFault (text_at key holder)
unfolding text_at
text_at-own key holder = text_in-own key.form (option_and_then as_str (get key.key holder))

unnamed-own : (before : List (List ℕ)) (text : List ℕ) → HasOwnFault (unnamed before text)
unnamed-own before text = unless_own (is_among before text) text Twice twice

elements_in-own : (least most : ℕ) (array : Option Items) → HasOwnFault (elements_in least most array)
elements_in-own least most None = missing
elements_in-own least most (Some items) = if_own (nat_le least (item_count items) && nat_le (item_count items) most) items Limit limit

rows_in-own : (key : ArrayKey) (value : Option Data) → HasOwnFault (rows_in key value)
rows_in-own key None = tt
rows_in-own key (Some value) = elements_in-own key.least key.most (as_array value)

rows_at-own : (key : ArrayKey) (document : Data) → HasOwnFault (rows_at key document)
unfolding rows_at
rows_at-own key document = rows_in-own key (get key.key document)

read_all-own : {Row : Type 0} (read : List Row → Data → Result Row ConfigFault) → ((rows : List Row) (element : Data) → HasOwnFault (read rows element))
    → (rows : List Row) (items : Items) → HasOwnFault (read_all read rows items)
read_all-own read own rows no_items = tt
read_all-own read own rows (item element items) =
    then_own (read rows element) (λ row. read_all read (rows ++ row ∷ []) items) (own rows element) (λ row. read_all-own read own (rows ++ row ∷ []) items)

trader_of-own : (before : List (List ℕ)) (element : Data) → HasOwnFault (trader_of before element)
unfolding trader_of
trader_of-own before element = then_own (text_in is_name (as_str element)) (unnamed before) (text_in-own is_name (as_str element)) (unnamed-own before)

traders_at-own : (row : Data) → HasOwnFault (traders_at row)
unfolding traders_at elements_at
traders_at-own row =
    then_own (elements_at traders_key row) (read_all trader_of [])
    (elements_in-own 1 16 (option_and_then as_array (get traders_key.key row)))
    (read_all-own trader_of trader_of-own [])

choice_in-own : (is_choice : ℕ → Bool) (number : Option ℤ) → HasOwnFault (choice_in is_choice number)
choice_in-own is_choice None = missing
choice_in-own is_choice (Some (pos number)) = if_own (is_choice number) number Limit limit
choice_in-own is_choice (Some (negsuc number)) = limit

without_grid_own_if : (test : Bool) → HasOwnFault {A = ℕ} (Err (cond test Limit Missing))
without_grid_own_if true = limit
without_grid_own_if false = missing

grid_in-own : (version : ℕ) (value : Option Data) → HasOwnFault (grid_in version value)
grid_in-own version None = without_grid_own_if (has_bands version)
grid_in-own version (Some value) = choice_in-own is_grid (as_integer value)

grid_own_if : (test : Bool) (version : ℕ) (row : Data) → HasOwnFault (cond test (grid_in version (get grid_key.key row)) (Ok finest_grid))
grid_own_if true version row = grid_in-own version (get grid_key.key row)
grid_own_if false version row = tt

grid_of-own : (version : ℕ) (row : Data) → HasOwnFault (grid_of version row)
unfolding grid_of
grid_of-own version row = grid_own_if (has_grids version) version row

price_on-own : (grid : ℕ) (read : Result ℕ PriceFault) → HasOwnFault (price_on grid read)
price_on-own grid (Ok price) = if_own (on_grid price grid) price Limit limit
price_on-own grid (Err price_faults.Form) = name
price_on-own grid (Err price_faults.Range) = limit
price_on-own grid (Err price_faults.Grid) = limit

price_in-own : (grid : ℕ) (text : Option (List ℕ)) → HasOwnFault (price_in grid text)
price_in-own grid None = missing
price_in-own grid (Some text) = price_on-own grid (price_of text)

price_if-own : (grid : ℕ) (value : Option Data) → HasOwnFault (price_if grid value)
price_if-own grid None = tt
price_if-own grid (Some value) = then_own (price_in grid (as_str value)) _ (price_in-own grid (as_str value)) (λ price. tt)

price_at-own : (key : List ℕ) (grid : ℕ) (holder : Data) → HasOwnFault (price_at key grid holder)
unfolding price_at
price_at-own key grid holder = price_if-own grid (get key holder)

between-own : (low high : Option ℕ) → HasOwnFault (band_between low high)
between-own None None = tt
between-own (Some low) (Some high) = if_own (nat_le low high) (record { low = low; high = high }) Limit limit
between-own (Some low) None = limit
between-own None (Some high) = limit

band_in-own : (grid : ℕ) (row : Data) → HasOwnFault (band_in grid row)
unfolding band_in
band_in-own grid row =
    then_own (price_at low_key grid row) _ (price_at-own low_key grid row) (λ low.
    then_own (price_at high_key grid row) _ (price_at-own high_key grid row) (λ high. between-own low high))

band_own_if : (test : Bool) (grid : ℕ) (row : Data) → HasOwnFault (cond test (band_in grid row) (Ok whole_band))
band_own_if true grid row = band_in-own grid row
band_own_if false grid row = tt

band_of-own : (version grid : ℕ) (row : Data) → HasOwnFault (band_of version grid row)
unfolding band_of
band_of-own version grid row = band_own_if (has_bands version) grid row

bond_id_of-own : (bonds : List (List ℕ)) (row : Data) → HasOwnFault (bond_id_of bonds row)
unfolding bond_id_of
bond_id_of-own bonds row = then_own (text_at id_key row) (unnamed bonds) (text_at-own id_key row) (unnamed-own bonds)

bond_of-own : (version : ℕ) (bonds : List BondRow) (row : Data) → HasOwnFault (bond_of version bonds row)
unfolding bond_of
bond_of-own version bonds row =
    then_own (bond_id_of (bond_ids bonds) row) _ (bond_id_of-own (bond_ids bonds) row) (λ id.
    then_own (grid_of version row) _ (grid_of-own version row) (λ grid.
    then_own (band_of version grid row) _ (band_of-own version grid row) (λ band. tt)))

firm_name_of-own : (firms : List (List ℕ)) (row : Data) → HasOwnFault (firm_name_of firms row)
unfolding firm_name_of
firm_name_of-own firms row = then_own (text_at name_key row) (unnamed firms) (text_at-own name_key row) (unnamed-own firms)

dealer_of-own : (dealers : List DealerValues) (row : Data) → HasOwnFault (dealer_of dealers row)
unfolding dealer_of
dealer_of-own dealers row =
    then_own (firm_name_of (dealer_names dealers) row) _ (firm_name_of-own (dealer_names dealers) row) (λ firm.
    then_own (traders_at row) _ (traders_at-own row) (λ traders.
    then_own (number_at quotes_key row) _ (number_at-own quotes_key row) (λ quotes.
    then_own (number_at exposure_key row) _ (number_at-own exposure_key row) (λ exposure. tt))))

investor_of-own : (dealers : List DealerValues) (investors : List InvestorValues) (row : Data) → HasOwnFault (investor_of dealers investors row)
unfolding investor_of
investor_of-own dealers investors row =
    then_own (firm_name_of (dealer_names dealers ++ investor_names investors) row) _ (firm_name_of-own (dealer_names dealers ++ investor_names investors) row) (λ firm.
    then_own (traders_at row) _ (traders_at-own row) (λ traders.
    then_own (number_at requests_key row) _ (number_at-own requests_key row) (λ requests.
    then_own (number_at open_key row) _ (number_at-own open_key row) (λ open_limit.
    then_own (number_at quantity_key row) _ (number_at-own quantity_key row) (λ quantity. tt)))))

bonds_in-own : (version : ℕ) (document : Data) → HasOwnFault (bonds_in version document)
unfolding bonds_in
bonds_in-own version document =
    then_own (rows_at bonds_key document) (read_all (bond_of version) []) (rows_at-own bonds_key document)
    (read_all-own (bond_of version) (bond_of-own version) [])

dealers_in-own : (document : Data) → HasOwnFault (dealers_in document)
unfolding dealers_in
dealers_in-own document = then_own (rows_at dealers_key document) (read_all dealer_of []) (rows_at-own dealers_key document) (read_all-own dealer_of dealer_of-own [])

investors_in-own : (dealers : List DealerValues) (document : Data) → HasOwnFault (investors_in dealers document)
unfolding investors_in
investors_in-own dealers document =
    then_own (rows_at investors_key document) (read_all (investor_of dealers) []) (rows_at-own investors_key document)
    (read_all-own (investor_of dealers) (investor_of-own dealers) [])

-- the fault of a document that was read
pub config_in-own : (document : Data) → HasOwnFault (config_in document)
unfolding config_in
config_in-own document =
    then_own (number_at version_key document) _ (number_at-own version_key document) (λ version.
    then_own (text_at date_key document) _ (text_at-own date_key document) (λ date.
    then_own (bonds_in version document) _ (bonds_in-own version document) (λ bonds.
    then_own (dealers_in document) _ (dealers_in-own document) (λ dealers.
    then_own (investors_in dealers document) _ (investors_in-own dealers document) (λ investors.
    if_own (sums_fit dealers investors) _ Limit limit)))))

pub never_toml : (document : Data) (fault : ConfigFault) → (fault ≢ Memory → config_in document ≡ Err fault) → fault ≢ Toml
never_toml document fault told = λ is.
    let apart : fault ≢ Memory = λ same. cc in
    let found : config_in document ≡ Err Toml = told apart ∙ ap (λ f. Err f) is in
    let own = config_in-own document in
    let toml = rw found at own in
    toml.0 refl
