-- A request that was shown, written as a line and read again.
use Rattle.std.proofs.Common.{◌≡◌, ℕ, ◌≤◌, ◌&&◌, not, Bool, true, nat_le}
use Rattle.std.proofs.Common.{cond, List, [], ◌∷◌, ◌++◌, length, codes, decimal, Option, Some, None}
use Rattle.std.proofs.Common.{refl, ap, ap₂, ◌∙◌, arith}
use Rattle.std.specs.List.{list_all}
use Rattle.std.proofs.lemmas.Bool.{and_parts}
use Rattle.std.proofs.lemmas.Bool.Decides.{nat_tests}
use Rattle.std.proofs.lemmas.Fmt.{decimal_digit, length-decimal-le}
use Rattle.std.proofs.lemmas.List.{append_assoc}
use Rattle.bond_prices.specs.Grid.{is_grid}
use Rattle.bond_prices.specs.declared.band.Band.{Band}
use Rattle.fix_fields.specs.TimeOfDay.{time_text}
use Rattle.market_terms.specs.Codes.{side_code}
use Rattle.market_terms.specs.Texts.{is_quantity}
use Rattle.market_terms.specs.declared.asks.Ask.{Ask}
use Rattle.market_terms.specs.declared.asks.Side.{Side}
use Rattle.market_terms.specs.declared.asks.Side.TheVariants.{Buy, Sell}
use Rattle.market_terms.specs.declared.quantities.TheConstants.Quantity.{MOST}
use Rattle.step_replay.specs.declared.dues.Due.{Due}
use Rattle.step_replay.specs.declared.dues.Due.TheVariants as due
use Rattle.venue_rows.specs.Texts.{is_among, is_bond_id, is_firm_name, is_name, reserved_names, text_if}
use Rattle.input_lines.specs.DueLines.{asked_quantity, band_behind, grid_behind, shown_of}
use Rattle.input_lines.specs.Lines.{behind_part, first_part, side_of, time_of}
use Rattle.input_lines.specs.OptionSteps.{◌>>=◌}
use Rattle.venue_text.specs.ReadBack.{ReadsAs, is_in_line, is_in_part}
use Rattle.venue_text.proofs.ReadBackParts.{all_append, all_more, behind_is, bond_in_part, decimal_in_part}
use Rattle.venue_text.proofs.ReadBackParts.{first_is, in_line, name_in_part, number_back, time_in_part}
use Rattle.venue_text.proofs.ReadBackEnds.{EndsRead, end_word}

-- SIDE

side_word : (side : Side) → (list_all is_in_part (decimal (side_code side)) ≡ true)
    × (side_of (decimal (side_code side)) ≡ Some side)
side_word Buy = rw (decimal_digit 1 (omega arith)) (refl, refl)
side_word Sell = rw (decimal_digit 2 (omega arith)) (refl, refl)

-- QUANTITY

record QuantityWord (n : ℕ) : Type 0 where
  word : list_all is_in_part (decimal n) ≡ true
  back : asked_quantity (decimal n) ≡ Some n

quantity_word : (n : ℕ) → 1 ≤ n → n ≤ MOST → QuantityWord n
quantity_word n least most =
    let long : length (decimal n) ≤ 16 =
    length-decimal-le 16 n (omega arith) (omega arith) (omega arith) in
    let one : nat_le 1 n ≡ true = grind (arith, nat_tests) in
    let few : nat_le n MOST ≡ true = grind (arith, nat_tests) in
    record {
      word = decimal_in_part n (omega arith);
      back = ap (λ (found : Option ℕ). found >>= (λ (n : ℕ). cond (is_quantity n) (Some n) None))
          (number_back 16 n (omega arith) long)
          ∙ ap (λ (b : Bool). cond b (Some n) None) (ap₂ (λ (a b : Bool). a && b) one few);
    }

-- The request.

shown_with : Option (List ℕ) → Option (List ℕ) → Option Side → Option ℕ → Option ℕ → Option ℕ
    → Option ℕ → Option Band → Option Due
shown_with investor bond side quantity deadline moment grid band = do
  investor ← investor
  bond ← bond
  side ← side
  quantity ← quantity
  deadline ← deadline
  moment ← moment
  grid ← grid
  band ← band
  let ask : Ask = record {
    investor = investor;
    bond = bond;
    side = side;
    quantity = quantity;
    deadline = deadline;
    grid = grid;
    band = band;
  }
  Some (due.Shown ask moment)

shown_is : (date text : List ℕ) → shown_of date text
    ≡ shown_with (text_if is_firm_name (first_part text))
    (text_if is_bond_id (first_part (behind_part text)))
    (side_of (first_part (behind_part (behind_part text))))
    (asked_quantity (first_part (behind_part (behind_part (behind_part text)))))
    (time_of date (first_part (behind_part (behind_part (behind_part (behind_part text))))))
    (time_of date (first_part (behind_part (behind_part (behind_part (behind_part (behind_part text)))))))
    (grid_behind (behind_part (behind_part (behind_part (behind_part (behind_part text))))))
    (band_behind (behind_part (behind_part (behind_part (behind_part (behind_part (behind_part text)))))))
unfolding shown_of shown_with
shown_is date text = refl

shown_all : (ask : Ask) (moment : ℕ) → shown_with (Some ask.investor) (Some ask.bond) (Some ask.side)
    (Some ask.quantity) (Some ask.deadline) (Some moment) (Some ask.grid)
    (Some ask.band) ≡ Some (due.Shown ask moment)
unfolding shown_with
shown_all ask moment = refl

-- each part stands before the next, behind a space
record Cut (text part behind : List ℕ) : Type 0 where
  part_is : first_part text ≡ part
  rest_is : behind_part text ≡ behind

cut : (part behind : List ℕ) → list_all is_in_part part ≡ true → Cut (part ++ 32 ∷ behind) part behind
cut part behind word = record {
  part_is = first_is part behind word;
  rest_is = behind_is part behind word;
}

-- what the parts of a request's line are read as
shown_by : (date : List ℕ) (ask : Ask) (moment : ℕ) (t₁ t₂ t₃ t₄ t₅ t₆ i b s q d : List ℕ)
    → Cut t₁ i t₂ → Cut t₂ b t₃ → Cut t₃ s t₄ → Cut t₄ q t₅ → Cut t₅ d t₆
    → text_if is_firm_name i ≡ Some ask.investor → text_if is_bond_id b ≡ Some ask.bond
    → side_of s ≡ Some ask.side → asked_quantity q ≡ Some ask.quantity
    → time_of date d ≡ Some ask.deadline → time_of date (first_part t₆) ≡ Some moment
    → grid_behind t₆ ≡ Some ask.grid → band_behind (behind_part t₆) ≡ Some ask.band
    → shown_of date t₁ ≡ Some (due.Shown ask moment)
shown_by date ask moment t₁ t₂ t₃ t₄ t₅ t₆ i b s q d c₁ c₂ c₃ c₄ c₅ investor bond side quantity deadline time grid band =
    let b₂ = ap behind_part c₁.rest_is ∙ c₂.rest_is in
    let b₃ = ap behind_part b₂ ∙ c₃.rest_is in
    let b₄ = ap behind_part b₃ ∙ c₄.rest_is in
    let b₅ = ap behind_part b₄ ∙ c₅.rest_is in
    let e₁ = ap (text_if is_firm_name) c₁.part_is ∙ investor in
    let e₂ = ap (λ (t : List ℕ). text_if is_bond_id (first_part t)) c₁.rest_is
    ∙ ap (text_if is_bond_id) c₂.part_is ∙ bond in
    let e₃ = ap (λ (t : List ℕ). side_of (first_part t)) b₂ ∙ ap side_of c₃.part_is ∙ side in
    let e₄ = ap (λ (t : List ℕ). asked_quantity (first_part t)) b₃
    ∙ ap asked_quantity c₄.part_is ∙ quantity in
    let e₅ = ap (λ (t : List ℕ). time_of date (first_part t)) b₄
    ∙ ap (time_of date) c₅.part_is ∙ deadline in
    let e₆ = ap (λ (t : List ℕ). time_of date (first_part t)) b₅ ∙ time in
    let e₇ = ap grid_behind b₅ ∙ grid in
    let e₈ = ap (λ (t : List ℕ). band_behind (behind_part t)) b₅ ∙ band in
    let bond_read = text_if is_bond_id (first_part (behind_part t₁)) in
    let side_read = side_of (first_part (behind_part (behind_part t₁))) in
    let at_quantity = behind_part (behind_part (behind_part t₁)) in
    let quantity_read = asked_quantity (first_part at_quantity) in
    let deadline_read = time_of date (first_part (behind_part at_quantity)) in
    let at_time = behind_part (behind_part at_quantity) in
    let time_read = time_of date (first_part at_time) in
    let grid_read = grid_behind at_time in
    let band_read = band_behind (behind_part at_time) in
    shown_is date t₁
    ∙ ap (λ (x : Option (List ℕ)). shown_with x bond_read side_read quantity_read deadline_read
    time_read grid_read band_read) e₁
    ∙ ap (λ (x : Option (List ℕ)). shown_with (Some ask.investor) x side_read quantity_read
    deadline_read time_read grid_read band_read) e₂
    ∙ ap (λ (x : Option Side). shown_with (Some ask.investor) (Some ask.bond) x quantity_read
    deadline_read time_read grid_read band_read) e₃
    ∙ ap (λ (x : Option ℕ). shown_with (Some ask.investor) (Some ask.bond) (Some ask.side) x
    deadline_read time_read grid_read band_read) e₄
    ∙ ap (λ (x : Option ℕ). shown_with (Some ask.investor) (Some ask.bond) (Some ask.side)
    (Some ask.quantity) x time_read grid_read band_read) e₅
    ∙ ap (λ (x : Option ℕ). shown_with (Some ask.investor) (Some ask.bond) (Some ask.side)
    (Some ask.quantity) (Some ask.deadline) x grid_read band_read) e₆
    ∙ ap (λ (x : Option ℕ). shown_with (Some ask.investor) (Some ask.bond) (Some ask.side)
    (Some ask.quantity) (Some ask.deadline) (Some moment) x band_read) e₇
    ∙ ap (λ (x : Option Band). shown_with (Some ask.investor) (Some ask.bond) (Some ask.side)
    (Some ask.quantity) (Some ask.deadline) (Some moment) (Some ask.grid) x) e₈
    ∙ shown_all ask moment

regrouped : (space i b s q d e end : List ℕ)
    → (i ++ (space ++ b) ++ (space ++ s) ++ (space ++ q) ++ (space ++ d)) ++ (space ++ (e ++ end))
    ≡ (i ++ (space ++ (b ++ (space ++ (s ++ (space ++ (q ++ (space ++ (d ++ (space ++ e)))))))))) ++ end
regrouped space i b s q d e end = simp append_assoc

pub shown_back : (date : List ℕ) (ask : Ask) (moment : ℕ) → is_firm_name ask.investor ≡ true
    → is_bond_id ask.bond ≡ true → 1 ≤ ask.quantity → ask.quantity ≤ MOST
    → is_grid ask.grid ≡ true → EndsRead ask.band
    → time_of date (time_text ask.deadline) ≡ Some ask.deadline
    → time_of date (time_text moment) ≡ Some moment → ReadsAs date (due.Shown ask moment)
shown_back date ask moment named bond least most grid ends_read deadline time =
    let name_is = (and_parts (not (is_among reserved_names ask.investor)) (is_name ask.investor) named).1 in
    let i_word = name_in_part ask.investor name_is in
    let b_word = bond_in_part ask.bond bond in
    let s_word = side_word ask.side in
    let q_word = quantity_word ask.quantity least most in
    let d_word = time_in_part ask.deadline in
    let ends = end_word date moment ask.grid ask.band time grid ends_read in
    let d = time_text ask.deadline in
    let q = decimal ask.quantity in
    let s = decimal (side_code ask.side) in
    let t₆ = ends.text in
    let t₅ = d ++ 32 ∷ t₆ in
    let t₄ = q ++ 32 ∷ t₅ in
    let t₃ = s ++ 32 ∷ t₄ in
    let t₂ = ask.bond ++ 32 ∷ t₃ in
    let t₁ = ask.investor ++ 32 ∷ t₂ in
    let more = all_more is_in_line 32 in
    let both = all_append is_in_line in
    record {
      line = codes "shown " ++ t₁;
      written = ap (λ (l : List ℕ). codes "shown " ++ l)
          (ap (λ (l : List ℕ). (ask.investor ++ 32 ∷ ask.bond ++ 32 ∷ s ++ 32 ∷ q ++ 32 ∷ d) ++ 32 ∷ l)
          ends.written
          ∙ regrouped (32 ∷ []) ask.investor ask.bond s q d t₆ (10 ∷ []));
      is_one = record {
        in_line = both (codes "shown ") t₁ refl
            (both ask.investor (32 ∷ t₂) (in_line ask.investor i_word) (more t₂ refl
            (both ask.bond (32 ∷ t₃) (in_line ask.bond b_word) (more t₃ refl
            (both s (32 ∷ t₄) (in_line s s_word.0) (more t₄ refl
            (both q (32 ∷ t₅) (in_line q q_word.word) (more t₅ refl
            (both d (32 ∷ t₆) (in_line d d_word) (more t₆ refl ends.word.one_line))))))))));
        spoken = refl;
        undivided = refl;
      };
      read = λ firm number.
          ap (λ (item : Option Due). item >>= (λ (item : Due). Some (item, number)))
          (shown_by date ask moment t₁ t₂ t₃ t₄ t₅ t₆ ask.investor ask.bond s q d
          (cut ask.investor t₂ i_word) (cut ask.bond t₃ b_word) (cut s t₄ s_word.0)
          (cut q t₅ q_word.word) (cut d t₆ d_word)
          (ap (λ (b : Bool). cond b (Some ask.investor) None) named)
          (ap (λ (b : Bool). cond b (Some ask.bond) None) bond)
          s_word.1 q_word.back deadline ends.word.time_is ends.word.grid_is ends.word.band_is);
    }
