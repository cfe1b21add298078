-- A row of a dealer is its values: what it holds beside them are facts of them.
use Rattle.std.proofs.Common.{◌≡◌, ◌≤◌, ℕ, true, List, length, refl, ap, subst, sym, ◌∙◌, false}
use Rattle.std.proofs.Common.{IsTrue, ◌↔◌, ◌==◌}
use Rattle.std.proofs.lemmas.Bool.{false≢true, eqb-true, eq-eqb}
use Rattle.std.proofs.Math.Bridge.{le_prop}
use Rattle.std.specs.Bool.{Decides}
use Rattle.std.specs.Cmp.Lexicographic.{pointwise_decides, bytes_decides}
use Rattle.venue_rows.specs.Texts.{same_text, same_texts}
use Rattle.venue_rows.specs.Rows.{DealerValues, dealer_values}
use Rattle.venue_rows.specs.declared.dealer_rows.DealerRow.{DealerRow}
use Rattle.venue_rows.specs.declared.dealer_rows.TheConstants.DealerRow.{MOST_QUOTES}
use Rattle.venue_rows.specs.declared.dealer_rows.TheConstants.DealerRow.{MOST_EXPOSURE}

-- the facts that a row holds of its values
abbrev pub Facts : DealerValues → Type 0
Facts v = (1 ≤ length v.traders) × (1 ≤ v.quotes) × (v.quotes ≤ MOST_QUOTES) × (1 ≤ v.exposure) × (v.exposure ≤ MOST_EXPOSURE)

facts_prop : (v : DealerValues) → IsProp (Facts v)
facts_prop v = hlevel (le_prop)

-- a row of values with those facts
abbrev pub row_of : (v : DealerValues) → Facts v → DealerRow
row_of v h = record {
  name = v.name;
  traders = v.traders;
  quotes = v.quotes;
  exposure = v.exposure;
  has_trader = h.0;
  quotes_from = h.1;
  quotes_to = h.2;
  exposure_from = h.3;
  exposure_to = h.4;
}

abbrev pub facts_of : (a : DealerRow) → Facts (dealer_values a)
facts_of a = (a.has_trader, a.quotes_from, a.quotes_to, a.exposure_from, a.exposure_to)

pub same_rows : (a b : DealerRow) → dealer_values a ≡ dealer_values b → a ≡ b
same_rows a b e =
    let P : DealerValues → Type 0 = λ v. (h : Facts v) → a ≡ row_of v h in
    subst P e (λ h. ap (λ g. row_of (dealer_values a) g) (facts_prop (dealer_values a) (facts_of a) h)) (facts_of b)

-- whether two lists of texts are the same, decided
pub same_texts_decides : (a b : List (List ℕ)) → Decides (same_texts a b) (a ≡ b)
same_texts_decides a b = pointwise_decides {E = same_text} bytes_decides a b

-- rows that are told apart by their traders
pub apart_by_traders : (a b : DealerRow) → same_texts a.traders b.traders ≡ false → IsTrue false ↔ (a ≡ b)
apart_by_traders a b apart =
    (λ h. absurd (false≢true h), λ e. sym apart ∙ (same_texts_decides a.traders b.traders).1 (ap (λ (row : DealerRow). row.traders) e))

-- rows with one name, the same traders and the same quotes differ at most in their exposure
pub same_by_exposure : (a b : DealerRow) → a.name ≡ b.name → same_texts a.traders b.traders ≡ true → a.quotes ≡ b.quotes → IsTrue (a.exposure == b.exposure) ↔ (a ≡ b)
same_by_exposure a b name traders quotes =
    (λ h. same_rows a b (values (eqb-true a.exposure b.exposure h)), λ e. eq-eqb a.exposure b.exposure (ap (λ (row : DealerRow). row.exposure) e))
  where
    values : a.exposure ≡ b.exposure → dealer_values a ≡ dealer_values b
    values exposure =
        let same : a.traders ≡ b.traders = (same_texts_decides a.traders b.traders).0 traders in
        rw (name, same, quotes, exposure) refl
