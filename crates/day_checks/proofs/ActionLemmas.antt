-- The first firm with an event that is not that of an action there.
use Rattle.std.proofs.Common.{◌≡◌, ℕ, ◌+◌, ◌-◌, ◌^◌, min, ◌&&◌, Bool, true, false, not, cond}
use Rattle.std.proofs.Common.{List, [], ◌∷◌, length, Option, Some, None, position, refl, sym, ap}
use Rattle.std.proofs.Common.{subst, ◌∙◌, arith}
use Rattle.std.specs.List.{list_all, position_from}
use Rattle.std.specs.Option.{option_map, option_or}
use Rattle.std.proofs.lemmas.Iterator.Adapters.{position_from-zero}
use Rattle.recorded_days.specs.Records.{DealerLists, InvestorLists, RecordedDay}
use Rattle.day_checks.specs.DayActions.{EventsAreOfActions, first_unleft, is_dealer_left}
use Rattle.day_checks.specs.DayActions.{is_investor_left, number_at}

-- The number of the first of two lists' places.
module _ (first second : Option ℕ) (count : ℕ) where
  pub place_in_first : (place number : ℕ) → Some place ≡ first → number ≡ number_at place
      → Some number ≡ option_map number_at (option_or first (option_map (λ p. count + p) second))
  place_in_first place number is low =
      subst (λ (o : Option ℕ). Some number
      ≡ option_map number_at (option_or o (option_map (λ p. count + p) second))) is
      (ap Some low)

  pub place_in_second : (place whole number : ℕ) → None ≡ first → Some place ≡ second
      → whole ≡ min (count + place) (2 ^ 64 - 1) → number ≡ number_at whole
      → Some number ≡ option_map number_at (option_or first (option_map (λ p. count + p) second))
  place_in_second place whole number none is sum low =
      let same : number ≡ min (count + place) 65535 = omega (arith, sum, low) in
      subst (λ (o : Option ℕ). Some number
      ≡ option_map number_at (option_or o (option_map (λ p. count + p) second))) none
      (subst (λ (o : Option ℕ). Some number
      ≡ option_map number_at (option_or None (option_map (λ p. count + p) o))) is
      (ap Some same))

  pub place_in_neither : None ≡ first → None ≡ second
      → None ≡ option_map number_at (option_or first (option_map (λ p. count + p) second))
  place_in_neither none nowhere =
      subst (λ (o : Option ℕ). None
      ≡ option_map number_at (option_or o (option_map (λ p. count + p) second))) none
      (subst (λ (o : Option ℕ). None
      ≡ option_map number_at (option_or None (option_map (λ p. count + p) o))) nowhere refl)

-- where there is no number, there is no place in either
none_in_first : (first second : Option ℕ) (count : ℕ)
    → option_map number_at (option_or first (option_map (λ p. count + p) second)) ≡ None
    → first ≡ None
none_in_first None second count e = refl
none_in_first (Some place) second count e = cc

none_in_second : (first second : Option ℕ) (count : ℕ)
    → option_map number_at (option_or first (option_map (λ p. count + p) second)) ≡ None
    → second ≡ None
none_in_second None None count e = refl
none_in_second (Some one) None count e = refl
none_in_second None (Some place) count e = cc
none_in_second (Some one) (Some place) count e = cc

-- the test passes here and behind
passes_here : (test : Bool) (i : ℕ) (rest : Option ℕ) (others : Bool)
    → cond (not test) (Some i) rest ≡ None → (rest ≡ None → others ≡ true)
    → (test && others) ≡ true
passes_here true i rest others e then = then e
passes_here false i rest others e then = cc

-- a test that fails at no place of a list passes at all
all_pass : {X : Type 0} (test : X → Bool) (i : ℕ) (xs : List X)
    → position_from (λ x. not (test x)) i xs ≡ None → list_all test xs ≡ true
all_pass test i [] e = refl
all_pass test i (x ∷ xs) e =
    passes_here (test x) i (position_from (λ y. not (test y)) (i + 1) xs) (list_all test xs) e
    (all_pass test (i + 1) xs)

-- where no firm is told, each event is that of an action
pub events_are_left : (day : RecordedDay) → option_map number_at (first_unleft day) ≡ None
    → EventsAreOfActions day
events_are_left day e =
    let at_dealer = λ (dealer : DealerLists). not (is_dealer_left day dealer) in
    let at_investor = λ (investor : InvestorLists). not (is_investor_left day investor) in
    let dealers = position at_dealer day.dealers in
    let investors = position at_investor day.investors in
    let count = length day.dealers in
    record {
      at_dealers = all_pass (is_dealer_left day) 0 day.dealers
          (sym (position_from-zero at_dealer day.dealers)
          ∙ none_in_first dealers investors count e);
      at_investors = all_pass (is_investor_left day) 0 day.investors
          (sym (position_from-zero at_investor day.investors)
          ∙ none_in_second dealers investors count e);
    }
