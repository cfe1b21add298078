-- What a configuration that was read keeps: no name twice, each of its form.
use Rattle.bond_prices.specs.Band.{whole_band}
use Rattle.bond_prices.specs.Grid.{is_grid, finest_grid}
use Rattle.bond_prices.specs.declared.band.Band.{Band}
use Rattle.std.proofs.Common.{◌≡◌, ◌≢◌, ◌≤◌, ◌+◌, ℕ, ℤ, pos, negsuc, Bool, true, false, ◌&&◌}
use Rattle.std.proofs.Common.{nat_le, List, [], ◌∷◌, ◌++◌, length, All, AllPairs, IsTrue, Option}
use Rattle.std.proofs.Common.{Some, None, Result, Ok, Err, cond, refl, sym, ap, subst, ◌∙◌, arith}
use Rattle.std.proofs.Common.{get_or}
use Rattle.std.specs.Cmp.Lexicographic.{bytes_decides}
use Rattle.std.proofs.lemmas.Bool.{false≢true}
use Rattle.std.proofs.lemmas.Bool.Decides.{nat_tests}
use Rattle.std.proofs.lemmas.List.{length-append, append_assoc, append-nil, map-append}
use Rattle.std.proofs.lemmas.List.Elements.{All-push}
use Rattle.std.proofs.lemmas.List.Folds.{list_any_at}
use Rattle.std.proofs.lemmas.List.Quantifiers.{all_pairs_push}
use Rattle.std.specs.Option.{option_and_then}
use Rattle.toml.specs.Data.{Data, Items, no_items, item, as_array, as_str, as_integer, get}
use Rattle.venue_rows.specs.Texts.{is_among, is_bond_id, is_firm_name, same_text}
use Rattle.venue_config.specs.Keys.{has_bands, has_grids, id_key, grid_key, name_key}
use Rattle.venue_config.specs.Keys.{high_key, low_key, traders_key, bonds_key}
use Rattle.venue_config.specs.Keys.{dealers_key, investors_key, quotes_key, exposure_key}
use Rattle.venue_config.specs.Keys.{requests_key, open_key, quantity_key}
use Rattle.venue_config.specs.Values.{◌>>=◌, choice_in, text_in, text_at, unnamed}
use Rattle.venue_config.specs.Values.{item_count, elements_in, elements_at, rows_at, read_all}
use Rattle.venue_config.specs.Values.{price_at, trader_of, traders_at, number_at}
use Rattle.venue_rows.specs.Rows.{DealerValues, InvestorValues, AreTraders, bond_ids}
use Rattle.venue_rows.specs.declared.bond_rows.BondRow.{BondRow}
use Rattle.venue_config.specs.Config.{band_between, band_in, band_of, bond_of, bond_id_of}
use Rattle.venue_config.specs.Config.{grid_in, grid_of, bonds_in, dealer_names}
use Rattle.venue_config.specs.Config.{investor_names, firm_name_of, dealer_of, investor_of}
use Rattle.venue_config.specs.Config.{dealers_in, investors_in}
use Rattle.venue_config.specs.declared.faults.ConfigFault.{ConfigFault}
use Rattle.venue_config.specs.declared.faults.ConfigFault.TheVariants.{Twice, Name, Limit}

-- texts of which no two are the same
abbrev pub AreDistinct : List (List ℕ) → Type 0
AreDistinct texts = AllPairs (λ a b. a ≢ b) texts

-- what stood before a value that followed
pub ok_of : {A B : Type 0} (r : Result A ConfigFault) (next : A → Result B ConfigFault) (b : B) → (r >>= next) ≡ Ok b → (a : A) × (r ≡ Ok a) × (next a ≡ Ok b)
ok_of (Ok a) next b e = (a, refl, e)
ok_of (Err fault) next b e = cc

-- an answer that is no fault
pub kept : {A : Type 0} (test : Bool) (fault : ConfigFault) (a b : A) → (cond test (Ok a) (Err fault)) ≡ Ok b → (test ≡ true) × (a ≡ b)
kept true fault a b e = (refl, cc)
kept false fault a b e = cc

pub passed : {A : Type 0} (test : Bool) (fault : ConfigFault) (a b : A) → (cond test (Err fault) (Ok a)) ≡ Ok b → (test ≡ false) × (a ≡ b)
passed true fault a b e = cc
passed false fault a b e = (refl, cc)

-- What rows keep that is kept by each row behind those before it.
pub read_all_keeps : {Row : Type 0} (read : List Row → Data → Result Row ConfigFault) (Keeps : List Row → Type 0)
    → ((rows : List Row) (element : Data) (row : Row) → Keeps rows → read rows element ≡ Ok row → Keeps (rows ++ row ∷ []))
    → (items : Items) (rows all : List Row) → Keeps rows → read_all read rows items ≡ Ok all → Keeps all
read_all_keeps read Keeps more no_items rows all before e =
    let same : rows ≡ all = cc in
    subst Keeps same before
read_all_keeps read Keeps more (item element items) rows all before e =
    let step = ok_of (read rows element) (λ row. read_all read (rows ++ row ∷ []) items) all e in
    read_all_keeps read Keeps more items (rows ++ step.0 ∷ []) all (more rows element step.0 before step.1) step.2

-- as many rows as elements
pub read_all_count : {Row : Type 0} (read : List Row → Data → Result Row ConfigFault) (items : Items) (rows all : List Row) → read_all read rows items ≡ Ok all → length all ≡ length rows + item_count items
read_all_count read no_items rows all e =
    let same : rows ≡ all = cc in
    omega (arith, ap length same)
read_all_count read (item element items) rows all e =
    let step = ok_of (read rows element) (λ row. read_all read (rows ++ row ∷ []) items) all e in
    omega (arith, read_all_count read items (rows ++ step.0 ∷ []) all step.2, length-append rows (step.0 ∷ []))

-- one text more that is none of those before it
pub distinct_push : (texts : List (List ℕ)) (text : List ℕ) → AreDistinct texts → is_among texts text ≡ false → AreDistinct (texts ++ text ∷ [])
distinct_push texts text pairs apart =
    all_pairs_push (λ a b. a ≢ b) texts text pairs
    (λ k d within same.
    false≢true (sym apart ∙ list_any_at (λ own. same_text own text) texts k d within ((bytes_decides (get_or texts k d) text).1 same)))

pub unnamed_ok : (before : List (List ℕ)) (text own : List ℕ) → unnamed before text ≡ Ok own → (is_among before text ≡ false) × (text ≡ own)
unnamed_ok before text own e = passed (is_among before text) Twice text own e

pub text_in_ok : (form : List ℕ → Bool) (text : Option (List ℕ)) (own : List ℕ) → text_in form text ≡ Ok own → form own ≡ true
text_in_ok form None own e = cc
text_in_ok form (Some text) own e =
    let (passes, same) = kept (form text) Name text own e in
    rw same at passes

pub elements_ok : (least most : ℕ) (array : Option Items) (items : Items) → elements_in least most array ≡ Ok items → (least ≤ item_count items) × (item_count items ≤ most)
elements_ok least most None items e = cc
elements_ok least most (Some all) items e =
    let (fits, same) = kept (nat_le least (item_count all) && nat_le (item_count all) most) Limit all items e in
    rw (← same) (grind (arith, nat_tests))

-- a choice that was read
pub choice_in_ok : (is_choice : ℕ → Bool) (number : Option ℤ) (own : ℕ) → choice_in is_choice number ≡ Ok own → is_choice own ≡ true
choice_in_ok is_choice None own e = cc
choice_in_ok is_choice (Some (pos number)) own e =
    let (passes, same) = kept (is_choice number) Limit number own e in
    rw same at passes
choice_in_ok is_choice (Some (negsuc number)) own e = cc

grid_in_kept : (version : ℕ) (value : Option Data) (grid : ℕ) → grid_in version value ≡ Ok grid → is_grid grid ≡ true
grid_in_kept version None grid e = cc
grid_in_kept version (Some value) grid e = choice_in_ok is_grid (as_integer value) grid e

grid_kept_if : (test : Bool) (version : ℕ) (row : Data) (grid : ℕ) → cond test (grid_in version (get grid_key.key row)) (Ok finest_grid) ≡ Ok grid → is_grid grid ≡ true
grid_kept_if true version row grid e = grid_in_kept version (get grid_key.key row) grid e
grid_kept_if false version row grid e = let same : finest_grid ≡ grid = cc in rw (← same) refl

pub grid_kept : (version : ℕ) (row : Data) (grid : ℕ) → grid_of version row ≡ Ok grid → is_grid grid ≡ true
unfolding grid_of
grid_kept version row grid e = grid_kept_if (has_grids version) version row grid e

-- a band that was read
between_kept : (low high : Option ℕ) (band : Band) → band_between low high ≡ Ok band → nat_le band.low band.high ≡ true
between_kept None None band e = let same : whole_band ≡ band = cc in rw (← same) refl
between_kept (Some low) (Some high) band e =
    let (fits, same) = kept (nat_le low high) Limit (record { low = low; high = high }) band e in
    rw (← same) fits
between_kept (Some low) None band e = cc
between_kept None (Some high) band e = cc

band_in_kept : (grid : ℕ) (row : Data) (band : Band) → band_in grid row ≡ Ok band → nat_le band.low band.high ≡ true
unfolding band_in
band_in_kept grid row band e =
    let (low, lowest, e1) = ok_of (price_at low_key grid row) _ band e in
    let (high, highest, e2) = ok_of (price_at high_key grid row) _ band e1 in
    between_kept low high band e2

band_kept_if : (test : Bool) (grid : ℕ) (row : Data) (band : Band) → cond test (band_in grid row) (Ok whole_band) ≡ Ok band → nat_le band.low band.high ≡ true
band_kept_if true grid row band e = band_in_kept grid row band e
band_kept_if false grid row band e = let same : whole_band ≡ band = cc in rw (← same) refl

pub band_kept : (version grid : ℕ) (row : Data) (band : Band) → band_of version grid row ≡ Ok band → nat_le band.low band.high ≡ true
unfolding band_of
band_kept version grid row band e = band_kept_if (has_bands version) grid row band e

-- bonds
pub record AreBonds (bonds : List BondRow) : Type 0 where
  pub distinct : AreDistinct (bond_ids bonds)
  pub named : All (λ id. IsTrue (is_bond_id id)) (bond_ids bonds)
  pub on_grids : All (λ (row : BondRow). IsTrue (is_grid row.grid)) bonds
  pub banded : All (λ (row : BondRow). IsTrue (nat_le row.band.low row.band.high)) bonds

bonds_more : (version : ℕ) (bonds : List BondRow) (element : Data) (bond : BondRow) → AreBonds bonds → bond_of version bonds element ≡ Ok bond → AreBonds (bonds ++ bond ∷ [])
unfolding bond_of bond_id_of text_at
bonds_more version bonds element bond before e =
    let (id, identified, e1) = ok_of (bond_id_of (bond_ids bonds) element) _ bond e in
    let (grid, gridded, e2) = ok_of (grid_of version element) _ bond e1 in
    let (band, banded, e3) = ok_of (band_of version grid element) _ bond e2 in
    let (text, was, new) = ok_of (text_at id_key element) (unnamed (bond_ids bonds)) id identified in
    let (apart, same) = unnamed_ok (bond_ids bonds) text id new in
    let form : is_bond_id text ≡ true = text_in_ok is_bond_id (option_and_then as_str (get id_key.key element)) text was in
    let same_id : id ≡ bond.id = cc in
    let same_grid : grid ≡ bond.grid = cc in
    let same_band : band ≡ bond.band = cc in
    record {
      distinct = rw map-append (distinct_push (bond_ids bonds) bond.id before.distinct (rw (same, same_id) at apart));
      named = rw map-append (All-push (λ n. IsTrue (is_bond_id n)) (bond_ids bonds) bond.id before.named (rw (same, same_id) at form));
      on_grids = All-push (λ (row : BondRow). IsTrue (is_grid row.grid)) bonds bond before.on_grids (rw same_grid at (grid_kept version element grid gridded));
      banded = All-push (λ (row : BondRow). IsTrue (nat_le row.band.low row.band.high)) bonds bond before.banded (rw same_band at (band_kept version grid element band banded));
    }

pub bonds_kept : (version : ℕ) (document : Data) (bonds : List BondRow) → bonds_in version document ≡ Ok bonds → AreBonds bonds
unfolding bonds_in
bonds_kept version document bonds e =
    let (items, was, all) = ok_of (rows_at bonds_key document) (read_all (bond_of version) []) bonds e in
    read_all_keeps (bond_of version) AreBonds (bonds_more version) items [] bonds
    (record {
      distinct = λ i j d below within. absurd (omega arith);
      named = λ k d within. absurd (omega arith);
      on_grids = λ k d within. absurd (omega arith);
      banded = λ k d within. absurd (omega arith);
    })
    all

-- traders
traders_more : (traders : List (List ℕ)) (element : Data) (trader : List ℕ) → AreDistinct traders → trader_of traders element ≡ Ok trader → AreDistinct (traders ++ trader ∷ [])
unfolding trader_of
traders_more traders element trader before e =
    let (text, was, new) = ok_of _ (unnamed traders) trader e in
    let (apart, same) = unnamed_ok traders text trader new in
    distinct_push traders trader before (rw same at apart)

pub traders_kept : (row : Data) (traders : List (List ℕ)) → traders_at row ≡ Ok traders → AreTraders traders
unfolding traders_at elements_at
traders_kept row traders e =
    let (items, was, all) = ok_of (elements_at traders_key row) (read_all trader_of []) traders e in
    let (least, most) = elements_ok 1 16 (option_and_then as_array (get traders_key.key row)) items was in
    let count = read_all_count trader_of items [] traders all in
    record {
      least = omega arith;
      most = omega arith;
      distinct = read_all_keeps trader_of AreDistinct traders_more items [] traders (λ i j d below within. absurd (omega arith)) all;
    }

-- names of firms, each of its form and none twice
pub record AreFirms (names : List (List ℕ)) : Type 0 where
  pub distinct : AreDistinct names
  pub named : All (λ name. IsTrue (is_firm_name name)) names

pub firm_more : (names : List (List ℕ)) (row : Data) (name : List ℕ) → AreFirms names → firm_name_of names row ≡ Ok name → AreFirms (names ++ name ∷ [])
unfolding firm_name_of text_at
firm_more names row name before e =
    let (text, was, new) = ok_of (text_at name_key row) (unnamed names) name e in
    let (apart, same) = unnamed_ok names text name new in
    let form : is_firm_name text ≡ true = text_in_ok is_firm_name (option_and_then as_str (get name_key.key row)) text was in
    record {
      distinct = distinct_push names name before.distinct (rw same at apart);
      named = All-push (λ n. IsTrue (is_firm_name n)) names name before.named (rw same at form);
    }

-- dealers
pub record AreDealers (dealers : List DealerValues) : Type 0 where
  pub firms : AreFirms (dealer_names dealers)
  pub traders : All (λ (row : DealerValues). AreTraders row.traders) dealers

dealers_more : (dealers : List DealerValues) (element : Data) (dealer : DealerValues) → AreDealers dealers → dealer_of dealers element ≡ Ok dealer → AreDealers (dealers ++ dealer ∷ [])
unfolding dealer_of
dealers_more dealers element dealer before e =
    let (name, named, e1) = ok_of (firm_name_of (dealer_names dealers) element) _ dealer e in
    let (traders, traded, e2) = ok_of (traders_at element) _ dealer e1 in
    let (quotes, quoted, e3) = ok_of (number_at quotes_key element) _ dealer e2 in
    let (exposure, exposed, e4) = ok_of (number_at exposure_key element) _ dealer e3 in
    let same_name : name ≡ dealer.name = cc in
    let same_traders : traders ≡ dealer.traders = cc in
    let firms = firm_more (dealer_names dealers) element name before.firms named in
    let own = traders_kept element traders traded in
    record {
      firms = rw map-append (rw same_name at firms);
      traders = All-push (λ (row : DealerValues). AreTraders row.traders) dealers dealer before.traders (rw same_traders at own);
    }

pub dealers_kept : (document : Data) (dealers : List DealerValues) → dealers_in document ≡ Ok dealers → AreDealers dealers
unfolding dealers_in
dealers_kept document dealers e =
    let (items, was, all) = ok_of (rows_at dealers_key document) (read_all dealer_of []) dealers e in
    read_all_keeps dealer_of AreDealers dealers_more items [] dealers
    (record {
      firms = record { distinct = λ i j d below within. absurd (omega arith); named = λ k d within. absurd (omega arith) };
      traders = λ k d within. absurd (omega arith);
    })
    all

-- investors behind dealers
pub record AreInvestors (dealers : List DealerValues) (investors : List InvestorValues) : Type 0 where
  pub firms : AreFirms (dealer_names dealers ++ investor_names investors)
  pub traders : All (λ (row : InvestorValues). AreTraders row.traders) investors

investors_more : (dealers : List DealerValues) (investors : List InvestorValues) (element : Data) (investor : InvestorValues) → AreInvestors dealers investors → investor_of dealers investors element ≡ Ok investor → AreInvestors dealers (investors ++ investor ∷ [])
unfolding investor_of
investors_more dealers investors element investor before e =
    let (name, named, e1) = ok_of (firm_name_of (dealer_names dealers ++ investor_names investors) element) _ investor e in
    let (traders, traded, e2) = ok_of (traders_at element) _ investor e1 in
    let (requests, requested, e3) = ok_of (number_at requests_key element) _ investor e2 in
    let (open_limit, opened, e4) = ok_of (number_at open_key element) _ investor e3 in
    let (quantity, asked, e5) = ok_of (number_at quantity_key element) _ investor e4 in
    let same_name : name ≡ investor.name = cc in
    let same_traders : traders ≡ investor.traders = cc in
    let firms = firm_more (dealer_names dealers ++ investor_names investors) element name before.firms named in
    let own = traders_kept element traders traded in
    record {
      firms = rw (map-append, ← append_assoc) (rw same_name at firms);
      traders = All-push (λ (row : InvestorValues). AreTraders row.traders) investors investor before.traders (rw same_traders at own);
    }

pub investors_kept : (document : Data) (dealers : List DealerValues) (investors : List InvestorValues) → AreFirms (dealer_names dealers) → investors_in dealers document ≡ Ok investors → AreInvestors dealers investors
unfolding investors_in
investors_kept document dealers investors firms e =
    let (items, was, all) = ok_of (rows_at investors_key document) (read_all (investor_of dealers) []) investors e in
    read_all_keeps (investor_of dealers) (AreInvestors dealers) (investors_more dealers) items [] investors
    (record { firms = rw append-nil firms; traders = λ k d within. absurd (omega arith) })
    all
