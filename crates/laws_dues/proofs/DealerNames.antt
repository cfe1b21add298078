-- No two dealers have one name, so no duty of another brings a dealer's quote.
use Rattle.std.proofs.Common.{◌≡◌, ◌<◌, ◌≤◌, ℕ, zero, suc, ◌+◌, ◌==◌, Bool, true, false, List, [], ◌∷◌}
use Rattle.std.proofs.Common.{map, slice_index_or, option_map, Some, refl, sym, ap, ◌∙◌, arith}
use Rattle.std.proofs.Common.{inl, inr}
use Rattle.std.specs.Prelude.{slice_get}
use Rattle.std.proofs.lemmas.Bool.{cases_lt}
use Rattle.std.proofs.lemmas.Bool.Decides.{nat_tests}
use Rattle.std.proofs.lemmas.Option.{same_Some, slice_get-map, slice_get_within}
use Rattle.std.proofs.lemmas.Slice.Eq.{bytes_eq-Decides}
use Rattle.market_terms.specs.declared.duties.Duty.{Duty}
use Rattle.market_terms.specs.declared.duties.Duty.TheVariants as duty
use Rattle.venue_rows.specs.Rows.{Configuration, KeepsLimits, dealer_numbered, firm_names}
use Rattle.venue_rows.specs.Texts.{same_text}
use Rattle.venue_rows.specs.declared.dealer_rows.DealerRow.{DealerRow}
use Rattle.venue_rows.specs.declared.investor_rows.InvestorRow.{InvestorRow}
use Rattle.venue_steps.specs.declared.actors.Actor.{Actor}
use Rattle.venue_steps.specs.declared.actors.Actor.TheVariants as actor
use Rattle.step_replay.specs.AuditTrail.{is_same_actor}
use Rattle.step_replay.specs.PlaceLemmas.{get_first}
use Rattle.laws_dues.proofs.NumberedDuties.{DutyNumbers, brings, is_quoting, leaves}
use Rattle.laws_dues.proofs.OfferCounts.{bit}

-- a duty leaves and brings no more quotes than it is one of
pub taken_more : (left : Duty) (name : List ℕ) → brings left name + leaves left ≤ bit (is_quoting left)
taken_more (duty.Post room quote price valid_until moment) name = omega arith
taken_more (duty.Relay room offer moment) name = one (same_text offer.dealer name)
  where
    one : (b : Bool) → bit b + 0 ≤ 1
    one true = omega arith
    one false = omega arith
taken_more other name = omega arith

-- Two dealers of one name are one.

text_at : (texts : List (List ℕ)) (place : ℕ) (text other : List ℕ)
    → slice_get texts place ≡ Some text → slice_index_or texts place other ≡ text
text_at [] place text other at = cc
text_at (first ∷ texts) zero text other at = same_Some first text at
text_at (first ∷ texts) (suc place) text other at = text_at texts place text other at

pub name_at : (config : Configuration) (dealer : ℕ) (row : DealerRow)
    → dealer_numbered config dealer ≡ Some row
    → slice_get (firm_names config) dealer ≡ Some row.name
name_at config dealer row is =
    let names = map (λ (r : DealerRow). r.name) config.dealers in
    let others = map (λ (r : InvestorRow). r.name) config.investors in
    let at : slice_get names dealer ≡ Some row.name =
    slice_get-map (λ (r : DealerRow). r.name) config.dealers dealer
    ∙ ap (option_map (λ (r : DealerRow). r.name)) is in
    get_first names others dealer (slice_get_within names dealer row.name at) ∙ at

never_before : (config : Configuration) → KeepsLimits config → (one other : ℕ)
    (row row_too : DealerRow) → dealer_numbered config one ≡ Some row
    → dealer_numbered config other ≡ Some row_too → row.name ≡ row_too.name → one < other → ⊥
never_before config limits one other row row_too is is_too same before =
    let names = firm_names config in
    let at = name_at config one row is in
    let at_too = name_at config other row_too is_too in
    limits.firms_distinct one other [] before (slice_get_within names other row_too.name at_too)
    (text_at names one row.name [] at ∙ same ∙ sym (text_at names other row_too.name [] at_too))

one_dealer : (config : Configuration) → KeepsLimits config → (one other : ℕ)
    (row row_too : DealerRow) → dealer_numbered config one ≡ Some row
    → dealer_numbered config other ≡ Some row_too → row.name ≡ row_too.name
    → is_same_actor (actor.Firm one) (actor.Firm other) ≡ true
one_dealer config limits one other row row_too is is_too same = by_test (one == other) refl
  where
    apart : (a b : ℕ) → (a == b) ≡ false → (a < b → ⊥) → (b < a → ⊥) → ⊥
    apart a b test first second =
        elim (cases_lt a b) [
          | inl below ↦ first below
          | inr above ↦
              (let over : b < a = grind (arith, nat_tests) in
              second over)
        ]

    by_test : (b : Bool) → (one == other) ≡ b → b ≡ true
    by_test true test = refl
    by_test false test =
        absurd (apart one other test
        (never_before config limits one other row row_too is is_too same)
        (never_before config limits other one row_too row is_too is (sym same)))

-- what another leaves to be done brings no quote of the dealer
pub none_brought : (config : Configuration) → KeepsLimits config → (by : Actor) (left : Duty)
    (dealer : ℕ) (row : DealerRow) → DutyNumbers config by left
    → dealer_numbered config dealer ≡ Some row → is_same_actor by (actor.Firm dealer) ≡ false
    → brings left row.name ≡ 0
none_brought config limits by (duty.Relay room offer moment) dealer row says is differs =
    by_test (same_text offer.dealer row.name) refl
  where
    by_test : (b : Bool) → same_text offer.dealer row.name ≡ b → bit b ≡ 0
    by_test true test =
        let acts = says.1 in
        let names : acts.row.name ≡ row.name =
        sym acts.name_is ∙ (bytes_eq-Decides offer.dealer row.name).0 test in
        let one : is_same_actor (actor.Firm acts.dealer) (actor.Firm dealer) ≡ true =
        one_dealer config limits acts.dealer dealer acts.row row acts.row_is is names in
        let same : is_same_actor by (actor.Firm dealer) ≡ true =
        ap (λ (a : Actor). is_same_actor a (actor.Firm dealer)) acts.by_is ∙ one in
        let clash : true ≡ false = sym same ∙ differs in
        cc
    by_test false test = refl
none_brought config limits by other dealer row says is differs = refl
