-- The names of rows.
use Rattle.std.proofs.Common.{◌≡◌, ℕ, Bool, true, false, Ok, Err, ◌||◌, List, [], ◌∷◌, ◌++◌, map}
use Rattle.std.proofs.Common.{refl, ap, sym, ◌∙◌}
use Rattle.std.specs.List.{list_any}
use Rattle.std.proofs.lemmas.List.Folds.{list_any-append}
use Rattle.venue_rows.specs.Texts.{is_among, same_text}
use Rattle.venue_rows.specs.Rows.{bond_ids, dealer_values, investor_values}
use Rattle.toml.specs.Data.{Data}
use Rattle.venue_config.specs.Keys.{id_key, name_key}
use Rattle.venue_config.specs.Values.{text_at}
use Rattle.venue_config.specs.declared.faults.ConfigFault.TheVariants.{Twice}
use Rattle.venue_config.specs.Config.{bond_id_of, dealer_names, investor_names, firm_name_of}
use Rattle.venue_rows.specs.declared.bond_rows.BondRow.{BondRow}
use Rattle.venue_rows.specs.declared.dealer_rows.DealerRow.{DealerRow}
use Rattle.venue_rows.specs.declared.investor_rows.InvestorRow.{InvestorRow}

-- an identifier is among those of bonds where a bond has it
pub is_among_bonds : (rows : List BondRow) (id : List ℕ) → list_any (λ (row : BondRow). same_text row.id id) rows ≡ is_among (bond_ids rows) id
is_among_bonds [] id = refl
is_among_bonds (row ∷ rows) id = ap (λ b. same_text row.id id || b) (is_among_bonds rows id)

-- an identifier that was read, and that a bond has already or has not
pub id_twice : (ids : List (List ℕ)) (row : Data) (id : List ℕ) → Ok id ≡ text_at id_key row → is_among ids id ≡ true → Err Twice ≡ bond_id_of ids row
unfolding bond_id_of
id_twice ids row id was taken = rw (← was, taken)

pub id_first : (ids : List (List ℕ)) (row : Data) (id : List ℕ) → Ok id ≡ text_at id_key row → is_among ids id ≡ false → Ok id ≡ bond_id_of ids row
unfolding bond_id_of
id_first ids row id was free = rw (← was, free)

-- a name is among the values of rows where it is among the rows
pub is_among_dealers : (rows : List DealerRow) (name : List ℕ) → list_any (λ (row : DealerRow). same_text row.name name) rows ≡ is_among (dealer_names (map dealer_values rows)) name
is_among_dealers [] name = refl
is_among_dealers (row ∷ rows) name = ap (λ b. same_text row.name name || b) (is_among_dealers rows name)

pub is_among_investors : (rows : List InvestorRow) (name : List ℕ) → list_any (λ (row : InvestorRow). same_text row.name name) rows ≡ is_among (investor_names (map investor_values rows)) name
is_among_investors [] name = refl
is_among_investors (row ∷ rows) name = ap (λ b. same_text row.name name || b) (is_among_investors rows name)

-- a text is among two lists where it is in the one or in the other
pub is_among_both : (xs ys : List (List ℕ)) (name : List ℕ) → is_among (xs ++ ys) name ≡ (is_among xs name || is_among ys name)
is_among_both xs ys name = list_any-append (λ own. same_text own name) xs ys

-- a name that a dealer has, and one that no dealer has
pub found_in_front : (dealers : List DealerRow) (investors : List InvestorRow) (name : List ℕ) (found : Bool) → found ≡ list_any (λ (row : DealerRow). same_text row.name name) dealers → found ≡ true
    → found ≡ is_among (dealer_names (map dealer_values dealers) ++ investor_names (map investor_values investors)) name
found_in_front dealers investors name found is taken =
    let behind = is_among (investor_names (map investor_values investors)) name in
    taken ∙ sym (is_among_both (dealer_names (map dealer_values dealers)) (investor_names (map investor_values investors)) name
    ∙ ap (λ b. b || behind) (sym (is_among_dealers dealers name) ∙ sym is ∙ taken))

pub found_behind : (dealers : List DealerRow) (investors : List InvestorRow) (name : List ℕ) (found also : Bool) → found ≡ list_any (λ (row : DealerRow). same_text row.name name) dealers → found ≡ false
    → also ≡ list_any (λ (row : InvestorRow). same_text row.name name) investors
    → also ≡ is_among (dealer_names (map dealer_values dealers) ++ investor_names (map investor_values investors)) name
found_behind dealers investors name found also is free then =
    let behind = is_among (investor_names (map investor_values investors)) name in
    then ∙ is_among_investors investors name
    ∙ sym (is_among_both (dealer_names (map dealer_values dealers)) (investor_names (map investor_values investors)) name
    ∙ ap (λ b. b || behind) (sym (is_among_dealers dealers name) ∙ sym is ∙ free))

-- a name that was read, and that a firm has already or has not
pub named_twice : (firms : List (List ℕ)) (row : Data) (name : List ℕ) → Ok name ≡ text_at name_key row → is_among firms name ≡ true → Err Twice ≡ firm_name_of firms row
unfolding firm_name_of
named_twice firms row name was taken = rw (← was, taken)

pub named_first : (firms : List (List ℕ)) (row : Data) (name : List ℕ) → Ok name ≡ text_at name_key row → is_among firms name ≡ false → Ok name ≡ firm_name_of firms row
unfolding firm_name_of
named_first firms row name was free = rw (← was, free)
