-- The trades between one investor and one dealer: those that each of them was told of, and those
-- that it is still to be told of.
use Rattle.laws_days.proofs.Common.{Bool, List, None, Option, Some, ℕ, [], ap, arith, false, filter_map}
use Rattle.laws_days.proofs.Common.{if◌then◌else◌, inl, inr, length, option_to_list}
use Rattle.laws_days.proofs.Common.{refl, sym, true, ◌&&◌, ◌++◌, ◌+◌, ◌==◌, ◌∙◌, ◌∷◌, ◌≡◌, ◌≤◌}
use Rattle.laws_days.proofs.Common.{drop, same_Some, slice_get, length-append, filter_map-append}
use Rattle.laws_days.proofs.Common.{Close, Duty, RoomRef, end_of, End}
use Rattle.laws_days.proofs.Common.{close_for, facts_of, DealerEntry, Every, Fact, of_dealer, of_room}
use Rattle.market_terms.specs.declared.closes.Close.TheVariants as closes
use Rattle.market_terms.specs.declared.closes.Reply.TheVariants as reply
use Rattle.market_terms.specs.declared.duties.Duty.TheVariants as duty
use Rattle.laws_days.proofs.ListLemmas.{cases_some}
use Rattle.laws_trades.specs.TradeNames.{hit_in, notice_in}
use Rattle.laws_trades.specs.Trades.{at_investor}

-- whether a dealer that is told so was hit
abbrev pub is_hit : Close → Bool
is_hit closes.Hit = true
is_hit close = false

-- what a fact or a duty says, as a list
abbrev pub said : {A B : Type 0} → (A → Option B) → A → List B
said says x = option_to_list (says x)

pub said_first : {A B : Type 0} (says : A → Option B) (x : A) (xs : List A)
    → filter_map says (x ∷ xs) ≡ said says x ++ filter_map says xs
said_first says x xs = elim (cases_some (says x)) [
  | inl none ↦ rw none refl
  | inr some ↦ rw (some.1) refl
]

-- items of which none says anything
pub none_said : {A B : Type 0} (says : A → Option B) (xs : List A)
    → Every (λ x. says x ≡ None) xs → filter_map says xs ≡ []
none_said says [] none = refl
none_said says (x ∷ xs) none = rw (none.0) (none_said says xs none.1)

-- One investor and one dealer, of a day that comes to these facts.
pub record Pair : Type 0 where
  pub investor : ℕ
  pub dealer : ℕ
  pub investor_name : List ℕ  -- their names
  pub dealer_name : List ℕ
  pub final : List Fact

module _ (p : Pair) where
  -- the dealer's trail at the end
  abbrev pub last_trail : List DealerEntry
  last_trail = of_dealer p.dealer p.final

  -- whether an end says that the dealer was hit, where there is one
  abbrev pub won_by : Option End → Bool
  won_by None = false
  won_by (Some end) = is_hit (close_for end p.dealer)

  -- whether the dealer won in a room, as it stands at the end
  abbrev pub has_won : RoomRef → Bool
  has_won room = won_by (end_of (of_room room p.final))

  -- a room of the investor, where something holds
  abbrev pub where_own : RoomRef → Bool → Option RoomRef
  where_own room b = if b && (room.investor == p.investor) then Some room else None

  -- the hits that the investor was answered, and the notices that the dealer was told
  abbrev pub hits : List Fact → List RoomRef
  hits facts = filter_map (hit_in p.investor p.dealer_name) (at_investor p.investor facts)

  abbrev pub notices : List Fact → List RoomRef
  notices facts =
      filter_map (notice_in p.investor_name last_trail) (facts_of (of_dealer p.dealer facts))

  -- those that are still to come by these duties
  abbrev pub answers_in : Duty → Option RoomRef
  answers_in (duty.Answer room response reply.Awarded moment) = where_own room (has_won room)
  answers_in other = None

  abbrev pub tells_in : Duty → Option RoomRef
  tells_in (duty.Tell dealer room close moment) =
      where_own room (is_hit close && (dealer == p.dealer))
  tells_in other = None

  abbrev pub answers : List Duty → List RoomRef
  answers duties = filter_map answers_in duties

  abbrev pub tells : List Duty → List RoomRef
  tells duties = filter_map tells_in duties

  -- a duty by which nothing of these comes
  abbrev pub IsStill : Duty → Type 0
  IsStill left = (answers_in left ≡ None) × (tells_in left ≡ None)

  -- behind each place at least as many notices are to come as answers
  abbrev pub IsOrdered : List Duty → Type 0
  IsOrdered [] = Unit {0}
  IsOrdered (left ∷ later) =
      (length (answers (left ∷ later)) ≤ length (tells (left ∷ later))) × IsOrdered later

  pub ordered_length : (duties : List Duty) → IsOrdered duties
      → length (answers duties) ≤ length (tells duties)
  ordered_length [] is = omega arith
  ordered_length (left ∷ later) is = is.0

  -- what is left together
  pub record IsBatch (duties : List Duty) : Type 0 where
    pub same : answers duties ≡ tells duties
    pub ordered : IsOrdered duties

  pub ordered_both : (duties more : List Duty) → IsOrdered duties → IsBatch more
      → IsOrdered (duties ++ more)
  ordered_both [] more is batch = batch.ordered
  ordered_both (left ∷ later) more is batch = (
    let few : length (answers (left ∷ later)) ≤ length (tells (left ∷ later)) = is.0 in
        let one : length (answers ((left ∷ later) ++ more))
        ≡ length (answers (left ∷ later)) + length (answers more) =
        ap length (filter_map-append answers_in (left ∷ later) more)
        ∙ length-append (answers (left ∷ later)) (answers more) in
        let two : length (tells ((left ∷ later) ++ more))
        ≡ length (tells (left ∷ later)) + length (tells more) =
        ap length (filter_map-append tells_in (left ∷ later) more)
        ∙ length-append (tells (left ∷ later)) (tells more) in
        let equal : length (answers more) ≡ length (tells more) = ap length batch.same in
        omega arith,
    ordered_both later more is.1 batch,
  )

  -- duties by which no answer comes are in order
  pub none_ordered : (duties : List Duty) → Every (λ left. answers_in left ≡ None) duties
      → IsOrdered duties
  none_ordered [] none = tt
  none_ordered (left ∷ later) none = (
    let empty : length (answers (left ∷ later)) ≡ 0 =
        ap length (none_said answers_in (left ∷ later) none) in
        omega arith,
    none_ordered later none.1,
  )

  pub still_batch : (duties : List Duty) → Every IsStill duties → IsBatch duties
  still_batch duties still = record {
    same = none_said answers_in duties (firsts duties still)
        ∙ sym (none_said tells_in duties (seconds duties still));
    ordered = none_ordered duties (firsts duties still);
  }
    where
      firsts : (some : List Duty) → Every IsStill some
          → Every (λ left. answers_in left ≡ None) some
      firsts [] each = tt
      firsts (left ∷ later) each = (each.0.0, firsts later each.1)

      seconds : (some : List Duty) → Every IsStill some
          → Every (λ left. tells_in left ≡ None) some
      seconds [] each = tt
      seconds (left ∷ later) each = (each.0.1, seconds later each.1)

  -- What is kept: those that the investor was and will be answered are those of which the dealer was
  -- and will be told.
  pub record InStep (facts : List Fact) (duties : List Duty) : Type 0 where
    pub same : hits facts ++ answers duties ≡ notices facts ++ tells duties
    pub ordered : IsOrdered duties

-- a list begins another, where what is behind it is longer
pub begins_it : {A : Type 0} (xs more ys rest : List A) → xs ++ more ≡ ys ++ rest
    → length more ≤ length rest → (later : List A) × (xs ≡ ys ++ later)
begins_it xs more [] rest is few = (xs, refl)
begins_it [] more (y ∷ ys) rest is few =
    let long : length more ≡ length (y ∷ ys) + length rest =
    ap length is ∙ length-append (y ∷ ys) rest in
    absurd (omega arith)
begins_it (x ∷ xs) more (y ∷ ys) rest is few =
    let later = begins_it xs more ys rest (ap (drop 1) is) few in
    (later.0, ap (λ z. z ∷ xs) (same_Some x y (ap (λ l. slice_get l 0) is)) ∙ ap (λ l. y ∷ l) later.1)
