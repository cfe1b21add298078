-- Lines of an input as they come: their parts, and what one line more brings.
use Rattle.std.proofs.Common.{◌≡◌, ℕ, ◌+◌, ◌≤◌, Bool, true, false, List, [], ◌∷◌, ◌++◌, length}
use Rattle.std.proofs.Common.{fold, refl, sym, ap, ap₂, ◌∙◌, arith, inl, inr, append_assoc}
use Rattle.std.specs.List.{list_any, before_first, after_first}
use Rattle.std.proofs.lemmas.Bool.{cases_Bool}
use Rattle.std.proofs.lemmas.List.{length-append, append-nil}
use Rattle.std.proofs.lemmas.Grind.{flat_map-append, fold-append}
use Rattle.std.proofs.lemmas.List.Folds.{list_any-append}
use Rattle.venue_rows.specs.Rows.{Configuration, values_of}
use Rattle.input_lines.specs.DueText.{Lines}
use Rattle.input_lines.specs.Lines.{is_skipped, spoken_from}
use Rattle.venue_text.specs.LiveInput.{are_divided, as_part, configuration_in, lines_text}
use Rattle.venue_text.specs.LiveInput.{numbered_from, numbered_in, steps_in, taken_in, taken_of}
use Rattle.venue_text.specs.LiveInput.{text_in}
use Rattle.venue_text.specs.LiveLines.{Taken, line_text, nothing_taken, with_any_line, with_line}
use Rattle.input_lines.specs.VenueParts.{InputPart, is_divided, is_divider, part_before}
use Rattle.input_lines.specs.VenueParts.{part_behind, spoken_in, text_of, text_of_lines}
use Rattle.venue_text.specs.declared.live_form.LiveForm.{LiveForm}
use Rattle.live_runs.specs.LiveRuns.{are_four, behind_one, first_taken, second_configuration}
use Rattle.live_runs.specs.LiveRuns.{second_day, second_taken}
use Rattle.live_runs.specs.LiveStages.{taken_at}
use Rattle.live_runs.proofs.PartLemmas.{parts_stay, before_more, after_more}
use Rattle.input_lines.proofs.PartLemmas.{before_here, after_here}
use Rattle.venue_text.proofs.UnmarkedLemmas.{any_lines}

-- Lines that divide, and lines behind them.

module _ (lines : List (List ℕ)) (line : List ℕ) (undivided : are_divided lines ≡ false) where
  pub still_undivided : is_divider line ≡ false → are_divided (lines ++ line ∷ []) ≡ false
  still_undivided other = rw (list_any-append is_divider lines (line ∷ []), undivided, other) refl

  module _ (here : is_divider line ≡ true) where
    pub now_divided : are_divided (lines ++ line ∷ []) ≡ true
    now_divided = rw (list_any-append is_divider lines (line ∷ []), undivided, here) refl

    pub configuration_is : configuration_in (lines ++ line ∷ []) ≡ text_of_lines lines
    configuration_is =
        ap text_of_lines (before_more is_divider lines (line ∷ []) undivided ∙ ap (λ l. lines ++ l) (before_here is_divider line [] here) ∙ append-nil lines)

    pub nothing_behind : (config : Configuration) → taken_in config (lines ++ line ∷ []) ≡ nothing_taken (values_of config)
    unfolding taken_of
    nothing_behind config =
        ap (λ l. fold (with_line (values_of config)) (nothing_taken (values_of config)) (spoken_from (1 + length (before_first is_divider (lines ++ line ∷ [])) + 1) l))
        (after_more is_divider lines (line ∷ []) undivided ∙ after_here is_divider line [] here)

    pub nothing_printed : (form : LiveForm) (config : Configuration) → text_in form config (lines ++ line ∷ []) ≡ []
    nothing_printed form config =
        ap (λ l. lines_text form config (nothing_taken (values_of config)) (numbered_from (1 + length (before_first is_divider (lines ++ line ∷ [])) + 1) l))
        (after_more is_divider lines (line ∷ []) undivided ∙ after_here is_divider line [] here)

pub configuration_stays : (lines more : List (List ℕ)) → are_divided lines ≡ true → configuration_in (lines ++ more) ≡ configuration_in lines
configuration_stays lines more divided = ap text_of_lines (parts_stay is_divider lines more divided).before

-- a configuration that goes on is a part of the whole
pub configuration_grows : (lines more : List (List ℕ)) → are_divided lines ≡ false → length (text_of_lines lines) ≤ length (configuration_in (lines ++ more))
configuration_grows lines more undivided =
    rw (
      before_more is_divider lines more undivided,
      flat_map-append (λ (l : List ℕ). l ++ 10 ∷ []) lines (before_first is_divider more),
      length-append (text_of_lines lines) (text_of_lines (before_first is_divider more)),
    ) (omega arith)

pub text_grows : (lines : List (List ℕ)) (line : List ℕ) → text_of_lines (lines ++ line ∷ []) ≡ text_of_lines lines ++ line ++ 10 ∷ []
text_grows lines line =
    flat_map-append (λ (l : List ℕ). l ++ 10 ∷ []) lines (line ∷ []) ∙ ap (λ t. text_of_lines lines ++ t) (append-nil (line ++ 10 ∷ []))
    ∙ sym (append_assoc (text_of_lines lines) line (10 ∷ []))

-- A line of steps more.

spoken_more : (k : ℕ) (lines : List (List ℕ)) (line : List ℕ)
    → spoken_from k (lines ++ line ∷ []) ≡ spoken_from k lines ++ spoken_from (k + length lines) (line ∷ [])
spoken_more k [] line = ap (λ n. spoken_from n (line ∷ [])) (omega arith)
spoken_more k (first ∷ lines) line =
    let place : k + 1 + length lines ≡ k + length (first ∷ lines) = omega arith in
    let behind = spoken_more (k + 1) lines line ∙ ap (λ n. spoken_from (k + 1) lines ++ spoken_from n (line ∷ [])) place in
    elim (cases_Bool (is_skipped first)) [
      | inl skipped ↦ rw skipped behind
      | inr spoken ↦ rw spoken (ap (λ (l : Lines). (k, first) ∷ l) behind)
    ]

module _ (config : Configuration) (lines : List (List ℕ)) (line : List ℕ) (divided : are_divided lines ≡ true) where
  steps_more : steps_in (lines ++ line ∷ []) ≡ steps_in lines ++ spoken_from (length lines + 1) (line ∷ [])
  steps_more =
      let stay = parts_stay is_divider lines (line ∷ []) divided in
      let first = 1 + length (before_first is_divider lines) + 1 in
      let place : first + length (after_first is_divider lines) ≡ length lines + 1 = omega (arith, stay.count) in
      ap₂ (λ (b a : List (List ℕ)). spoken_from (1 + length b + 1) a) stay.before stay.after
      ∙ spoken_more first (after_first is_divider lines) line
      ∙ ap (λ n. spoken_from first (after_first is_divider lines) ++ spoken_from n (line ∷ [])) place

  taken_more : taken_in config (lines ++ line ∷ []) ≡ fold (with_line (values_of config)) (taken_in config lines) (spoken_from (length lines + 1) (line ∷ []))
  unfolding taken_of
  taken_more =
      ap (fold (with_line (values_of config)) (nothing_taken (values_of config))) steps_more
      ∙ fold-append (with_line (values_of config)) (nothing_taken (values_of config)) (steps_in lines) (spoken_from (length lines + 1) (line ∷ []))

  pub taken_any : taken_in config (lines ++ line ∷ [])
      ≡ with_any_line (values_of config) (taken_in config lines) (length lines + 1, line)
  taken_any =
      elim (cases_Bool (is_skipped line)) [
        | inl skipped ↦ taken_more ∙ rw skipped refl
        | inr spoken ↦ taken_more ∙ rw spoken refl
      ]

-- The same behind a configuration whose first line has number k.

module _ (config : Configuration) (k : ℕ) (lines : List (List ℕ)) (line : List ℕ) where
  pub nothing_at : are_divided lines ≡ false → is_divider line ≡ true → taken_at config k (lines ++ line ∷ []) ≡ nothing_taken (values_of config)
  unfolding taken_of
  nothing_at undivided here =
      ap (λ l. fold (with_line (values_of config)) (nothing_taken (values_of config)) (spoken_from (k + length (before_first is_divider (lines ++ line ∷ [])) + 1) l))
      (after_more is_divider lines (line ∷ []) undivided ∙ after_here is_divider line [] here)

  module _ (divided : are_divided lines ≡ true) where
    steps_at : spoken_in (part_behind (record { first = k; lines = lines ++ line ∷ [] }))
        ≡ spoken_in (part_behind (record { first = k; lines = lines })) ++ spoken_from (k + length lines) (line ∷ [])
    steps_at =
        let stay = parts_stay is_divider lines (line ∷ []) divided in
        let first = k + length (before_first is_divider lines) + 1 in
        let place : first + length (after_first is_divider lines) ≡ k + length lines = omega (arith, stay.count) in
        ap₂ (λ (b a : List (List ℕ)). spoken_from (k + length b + 1) a) stay.before stay.after
        ∙ spoken_more first (after_first is_divider lines) line
        ∙ ap (λ n. spoken_from first (after_first is_divider lines) ++ spoken_from n (line ∷ [])) place

    taken_more_at : taken_at config k (lines ++ line ∷ []) ≡ fold (with_line (values_of config)) (taken_at config k lines) (spoken_from (k + length lines) (line ∷ []))
    unfolding taken_of
    taken_more_at =
        ap (fold (with_line (values_of config)) (nothing_taken (values_of config))) steps_at
        ∙ fold-append (with_line (values_of config)) (nothing_taken (values_of config)) (spoken_in (part_behind (record { first = k; lines = lines })))
        (spoken_from (k + length lines) (line ∷ []))

    pub taken_any_at : taken_at config k (lines ++ line ∷ []) ≡ with_any_line (values_of config) (taken_at config k lines) (k + length lines, line)
    taken_any_at =
        elim (cases_Bool (is_skipped line)) [
          | inl skipped ↦ taken_more_at ∙ rw skipped refl
          | inr spoken ↦ taken_more_at ∙ rw spoken refl
        ]

-- Two days, one behind the other.

abbrev part_of : ℕ → List (List ℕ) → InputPart
part_of k lines = record { first = k; lines = lines }

before_none : {X : Type 0} (p : X → Bool) (xs : List X) → list_any p xs ≡ false → before_first p xs ≡ xs
before_none p xs none = ap (before_first p) (sym (append-nil xs)) ∙ before_more p xs [] none ∙ append-nil xs

after_none : {X : Type 0} (p : X → Bool) (xs : List X) → list_any p xs ≡ false → after_first p xs ≡ []
after_none p xs none = ap (after_first p) (sym (append-nil xs)) ∙ after_more p xs [] none

pub undivided_alone : (lines : List (List ℕ)) → are_divided lines ≡ false → are_four lines ≡ false
undivided_alone lines undivided = ap (λ l. list_any is_divider (after_first is_divider l)) (after_none is_divider lines undivided)

pub first_alone : (lines : List (List ℕ)) → is_divided (behind_one lines) ≡ false → are_four lines ≡ false
first_alone lines alone = ap (list_any is_divider) (after_none is_divider (behind_one lines).lines alone)

-- of a configuration that goes on, and where none behind the first day has begun
pub configuration_whole : (lines : List (List ℕ)) → are_divided lines ≡ false → configuration_in lines ≡ text_of_lines lines
configuration_whole lines undivided = ap text_of_lines (before_none is_divider lines undivided)

pub alone_undivided : (lines : List (List ℕ)) → are_divided lines ≡ false → is_divided (behind_one lines) ≡ false
alone_undivided lines undivided = ap (list_any is_divider) (after_none is_divider lines undivided)

pub second_none : (lines : List (List ℕ)) → is_divided (behind_one lines) ≡ false → second_configuration lines ≡ []
second_none lines alone = ap (λ l. text_of_lines (before_first is_divider l)) (after_none is_divider (behind_one lines).lines alone)

pub first_taken_alone : (config : Configuration) (lines : List (List ℕ)) → is_divided (behind_one lines) ≡ false
    → first_taken config lines ≡ taken_in config lines
first_taken_alone config lines alone =
    ap (λ l. taken_of (values_of config) (spoken_in (part_of (behind_one lines).first l))) (before_none is_divider (behind_one lines).lines alone)

-- the first steps of a day
pub none_behind : (lines : List (List ℕ)) (line : List ℕ) → are_divided lines ≡ false → is_divider line ≡ true
    → is_divided (behind_one (lines ++ line ∷ [])) ≡ false
none_behind lines line undivided here =
    ap (list_any is_divider) (after_more is_divider lines (line ∷ []) undivided ∙ after_here is_divider line [] here)

-- a line more of them
pub alone_still : (lines : List (List ℕ)) (line : List ℕ) → are_divided lines ≡ true → is_divided (behind_one lines) ≡ false
    → is_divider line ≡ false → is_divided (behind_one (lines ++ line ∷ [])) ≡ false
alone_still lines line divided alone other =
    ap (list_any is_divider) (parts_stay is_divider lines (line ∷ []) divided).after
    ∙ still_undivided (behind_one lines).lines line alone other

module _ (first : List (List ℕ)) (divider : List ℕ) (behind : List (List ℕ)) (divided : are_divided first ≡ true)
    (alone : is_divided (behind_one first) ≡ false) (divides : is_divider divider ≡ true) where
  abbrev own_steps : List (List ℕ)
  own_steps = after_first is_divider first

  behind_is : behind_one (first ++ divider ∷ behind) ≡ part_of (behind_one first).first (own_steps ++ divider ∷ behind)
  behind_is =
      let stay = parts_stay is_divider first (divider ∷ behind) divided in
      ap₂ (λ (b a : List (List ℕ)). part_of (1 + length b + 1) a) stay.before stay.after

  before_is : before_first is_divider (own_steps ++ divider ∷ behind) ≡ own_steps
  before_is =
      before_more is_divider own_steps (divider ∷ behind) alone ∙ ap (λ l. own_steps ++ l) (before_here is_divider divider behind divides)
      ∙ append-nil own_steps

  after_is : after_first is_divider (own_steps ++ divider ∷ behind) ≡ behind
  after_is = after_more is_divider own_steps (divider ∷ behind) alone ∙ after_here is_divider divider behind divides

  second_is : second_day (first ++ divider ∷ behind) ≡ part_of (length first + 2) behind
  second_is =
      let stay = parts_stay is_divider first [] divided in
      let number : (behind_one first).first + length own_steps + 1 ≡ length first + 2 = omega (arith, stay.count) in
      ap (λ (p : InputPart). part_behind p) behind_is
      ∙ ap₂ (λ (b a : List (List ℕ)). part_of ((behind_one first).first + length b + 1) a) before_is after_is
      ∙ ap (λ n. part_of n behind) number

  pub four_is : are_four (first ++ divider ∷ behind) ≡ are_divided behind
  four_is = ap (λ (p : InputPart). is_divided p) second_is

  pub second_configuration_is : second_configuration (first ++ divider ∷ behind) ≡ configuration_in behind
  second_configuration_is = ap (λ (p : InputPart). text_of (part_before p)) second_is

  pub first_taken_is : (config : Configuration) → first_taken config (first ++ divider ∷ behind) ≡ taken_in config first
  first_taken_is config =
      ap (λ (p : InputPart). taken_of (values_of config) (spoken_in (part_before p))) behind_is
      ∙ ap (λ l. taken_of (values_of config) (spoken_in (part_of (behind_one first).first l))) before_is

  pub second_taken_is : (config : Configuration) → second_taken config (first ++ divider ∷ behind) ≡ taken_at config (length first + 2) behind
  second_taken_is config = ap (λ (p : InputPart). taken_of (values_of config) (spoken_in (part_behind p))) second_is

numbered_more : (k : ℕ) (lines : List (List ℕ)) (line : List ℕ)
    → numbered_from k (lines ++ line ∷ []) ≡ numbered_from k lines ++ (k + length lines, line) ∷ []
numbered_more k [] line = ap (λ (n : ℕ). (n, line) ∷ []) (omega arith)
numbered_more k (first ∷ lines) line =
    let place : k + 1 + length lines ≡ k + length (first ∷ lines) = omega arith in
    ap (λ (l : Lines). (k, first) ∷ l)
    (numbered_more (k + 1) lines line ∙ ap (λ n. numbered_from (k + 1) lines ++ (n, line) ∷ []) place)

-- the text of a line stands behind those of the lines before
texts_more : (form : LiveForm) (config : Configuration) (taken : Taken) (lines : Lines) (line : ℕ × List ℕ)
    → lines_text form config taken (lines ++ line ∷ [])
    ≡ lines_text form config taken lines
    ++ line_text form config (fold (with_any_line (values_of config)) taken lines) line.0 line.1
texts_more form config taken [] line = append-nil (line_text form config taken line.0 line.1)
texts_more form config taken (first ∷ lines) line =
    let here = line_text form config taken first.0 first.1 in
    let then = with_any_line (values_of config) taken first in
    ap (λ (l : List ℕ). here ++ l) (texts_more form config then lines line)
    ∙ sym (append_assoc here (lines_text form config then lines)
    (line_text form config (fold (with_any_line (values_of config)) then lines) line.0 line.1))

module _ (form : LiveForm) (config : Configuration) (lines : List (List ℕ)) (line : List ℕ) (divided : are_divided lines ≡ true) where
  all_more : numbered_in (part_behind (as_part (lines ++ line ∷ [])))
      ≡ numbered_in (part_behind (as_part lines)) ++ (length lines + 1, line) ∷ []
  all_more =
      let stay = parts_stay is_divider lines (line ∷ []) divided in
      let first = 1 + length (before_first is_divider lines) + 1 in
      let place : first + length (after_first is_divider lines) ≡ length lines + 1 = omega (arith, stay.count) in
      ap₂ (λ (b a : List (List ℕ)). numbered_from (1 + length b + 1) a) stay.before stay.after
      ∙ numbered_more first (after_first is_divider lines) line
      ∙ ap (λ n. numbered_from first (after_first is_divider lines) ++ (n, line) ∷ []) place

  pub text_more : text_in form config (lines ++ line ∷ [])
      ≡ text_in form config lines ++ line_text form config (taken_in config lines) (length lines + 1) line
  unfolding taken_of
  text_more =
      let first = nothing_taken (values_of config) in
      let part = part_behind (as_part lines) in
      ap (lines_text form config first) all_more
      ∙ texts_more form config first (numbered_in part) (length lines + 1, line)
      ∙ ap (λ (t : Taken). text_in form config lines ++ line_text form config t (length lines + 1) line)
      (any_lines (values_of config) first part.first part.lines)
