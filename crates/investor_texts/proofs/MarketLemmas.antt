-- Whether two markets are one, part by part.
use Rattle.std.proofs.Common.{◌≡◌, ◌≤◌, ◌==◌, ℕ, Bool, true, false, List, Some, length, refl, sym, ap}
use Rattle.std.proofs.Common.{◌∙◌, subst}
use Rattle.std.specs.Prelude.{IsTrue, ◌↔◌, slice_get}
use Rattle.std.specs.Option.{option_map}
use Rattle.std.proofs.lemmas.Bool.{false≢true, eqb-true, eq-eqb}
use Rattle.std.proofs.lemmas.Option.{slice_get-map}
use Rattle.std.proofs.Math.Bridge.{le_prop}
use Rattle.venue_rows.specs.Rows.{InvestorValues, investor_values}
use Rattle.venue_rows.specs.declared.dealer_rows.DealerRow.{DealerRow}
use Rattle.venue_rows.specs.declared.investor_rows.InvestorRow.{InvestorRow}
use Rattle.venue_rows.specs.declared.investor_rows.TheConstants.InvestorRow.{MOST_REQUESTS}
use Rattle.venue_rows.specs.declared.investor_rows.TheConstants.InvestorRow.{MOST_OPEN}
use Rattle.venue_rows.specs.declared.investor_rows.TheConstants.InvestorRow.{MOST_QUANTITY}
use Rattle.investor_texts.specs.DealerNames.{name_at, names_of}

-- what is told apart by a part is another
apart : {A B : Type 0} (f : A → B) (one other : A) (test : Bool)
    → IsTrue test ↔ (f one ≡ f other) → test ≡ false → IsTrue false ↔ (one ≡ other)
apart f one other test same differs =
    (λ h. absurd (false≢true h), λ e. sym differs ∙ same.1 (ap f e))

-- lists of which one has something else at a place are not the same
pub apart_at : {A : Type 0} (one other : List A) (place : ℕ) (test : Bool)
    → IsTrue test ↔ (slice_get one place ≡ slice_get other place) → test ≡ false
    → IsTrue false ↔ (one ≡ other)
apart_at one other place test same differs =
    apart (λ l. slice_get l place) one other test same differs

-- what is the same is found to be
pub is_one : {A : Type 0} (one other : A) → one ≡ other → IsTrue true ↔ (one ≡ other)
is_one one other same = (λ h. same, λ e. refl)

-- Rows.

-- the facts that a row holds of its values
abbrev Facts : InvestorValues → Type 0
Facts v =
    (1 ≤ length v.traders) × (1 ≤ v.requests) × (v.requests ≤ MOST_REQUESTS) × (1 ≤ v.open_limit)
    × (v.open_limit ≤ MOST_OPEN) × (1 ≤ v.quantity) × (v.quantity ≤ MOST_QUANTITY)

facts_prop : (v : InvestorValues) → IsProp (Facts v)
facts_prop v = hlevel (le_prop)

-- a row of values with those facts
abbrev row_of : (v : InvestorValues) → Facts v → InvestorRow
row_of v h = record {
  name = v.name;
  traders = v.traders;
  requests = v.requests;
  open_limit = v.open_limit;
  quantity = v.quantity;
  has_trader = h.0;
  requests_from = h.1;
  requests_to = h.2;
  open_limit_from = h.3;
  open_limit_to = h.4;
  quantity_from = h.5;
  quantity_to = h.6;
}

abbrev facts_of : (a : InvestorRow) → Facts (investor_values a)
facts_of a = (
  a.has_trader,
  a.requests_from,
  a.requests_to,
  a.open_limit_from,
  a.open_limit_to,
  a.quantity_from,
  a.quantity_to,
)

-- rows with equal values are one: what a row holds beside them are facts of them
same_rows : (a b : InvestorRow) → investor_values a ≡ investor_values b → a ≡ b
same_rows a b e =
    let P : InvestorValues → Type 0 = λ v. (h : Facts v) → a ≡ row_of v h in
    subst P e
    (λ h. ap (λ g. row_of (investor_values a) g) (facts_prop (investor_values a) (facts_of a) h))
    (facts_of b)

-- rows that are the same but for the quantity, perhaps
pub same_by_quantity : (a b : InvestorRow) → a.name ≡ b.name → a.traders ≡ b.traders
    → a.requests ≡ b.requests → a.open_limit ≡ b.open_limit
    → IsTrue (a.quantity == b.quantity) ↔ (a ≡ b)
same_by_quantity a b name traders requests limit = (
  λ h. same_rows a b (values (eqb-true a.quantity b.quantity h)),
  λ e. eq-eqb a.quantity b.quantity (ap (λ (row : InvestorRow). row.quantity) e),
)
  where
    values : a.quantity ≡ b.quantity → investor_values a ≡ investor_values b
    values quantity = rw (name, traders, requests, limit, quantity) refl

-- Dealers by their names.

-- the name of a dealer at a place
name_there : (dealers : List DealerRow) (place : ℕ) (dealer : DealerRow)
    → Some dealer ≡ slice_get dealers place → name_at dealers place ≡ Some dealer.name
name_there dealers place dealer is =
    ap (option_map (λ (d : DealerRow). d.name)) (sym is)

-- whether two lists have the same name at a place where both have a dealer
pub name_found : (one other : List DealerRow) (place : ℕ) (x y : DealerRow) (test : Bool)
    → Some x ≡ slice_get one place → Some y ≡ slice_get other place
    → IsTrue test ↔ (x.name ≡ y.name)
    → IsTrue test ↔ (name_at one place ≡ name_at other place)
name_found one other place x y test is there same = (
  λ t. name_there one place x is ∙ ap (λ v. Some v) (same.0 t)
      ∙ sym (name_there other place y there),
  λ e. same.1 (names (sym (name_there one place x is) ∙ e ∙ name_there other place y there)),
)
  where
    names : Some x.name ≡ Some y.name → x.name ≡ y.name
    names equal = cc

named_at : (dealers : List DealerRow) (place : ℕ)
    → slice_get (names_of dealers) place ≡ name_at dealers place
named_at dealers place = slice_get-map (λ (dealer : DealerRow). dealer.name) dealers place

-- the same name at a place of both
pub same_name : (one other : List DealerRow) (place : ℕ) → name_at one place ≡ name_at other place
    → slice_get (names_of one) place ≡ slice_get (names_of other) place
same_name one other place same = named_at one place ∙ same ∙ sym (named_at other place)

-- or not
pub apart_by_name : (one other : List DealerRow) (place : ℕ) (test : Bool)
    → IsTrue test ↔ (name_at one place ≡ name_at other place) → test ≡ false
    → IsTrue false ↔ (names_of one ≡ names_of other)
apart_by_name one other place test same differs =
    apart (λ l. slice_get l place) (names_of one) (names_of other) test (
      λ t. same_name one other place (same.0 t),
      λ e. same.1 (sym (named_at one place) ∙ e ∙ named_at other place),
    )
    differs
