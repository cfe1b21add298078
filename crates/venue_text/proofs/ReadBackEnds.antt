-- TIME, and GRID and LOW HIGH where they stand, with which a request's line ends, written and read
-- again.
use Rattle.std.proofs.Common.{◌≡◌, ℕ, ◌<◌, ◌≤◌, ◌==◌, ◌&&◌, Bool, true, cond, List, [], ◌∷◌, ◌++◌}
use Rattle.std.proofs.Common.{length, decimal, Option, Some, None, Ok, refl, sym, ap, ap₂, ◌∙◌}
use Rattle.std.proofs.Common.{arith, inl, inr, subst}
use Rattle.std.specs.List.{list_all}
use Rattle.std.specs.Result.{result_ok}
use Rattle.std.proofs.lemmas.Bool.{and_parts, cases_Bool, eqb-true}
use Rattle.std.proofs.lemmas.Bool.Decides.{nat_tests}
use Rattle.std.proofs.lemmas.Fmt.{length-decimal-le}
use Rattle.std.proofs.lemmas.List.{append-nil}
use Rattle.bond_prices.specs.Band.{is_whole, whole_band}
use Rattle.bond_prices.specs.Grid.{finest_grid, grid_of, is_grid}
use Rattle.bond_prices.specs.Price.{price_digits, price_of}
use Rattle.bond_prices.specs.declared.band.Band.{Band}
use Rattle.fix_fields.specs.TimeOfDay.{time_text}
use Rattle.quote_messages.specs.Texts.{number_of}
use Rattle.input_lines.specs.DueLines.{band_behind, ends_of, grid_behind}
use Rattle.input_lines.specs.Lines.{behind_part, first_part, time_of}
use Rattle.input_lines.specs.OptionSteps.{◌>>=◌}
use Rattle.venue_text.specs.ReadBack.{is_in_line}
use Rattle.venue_text.specs.WrittenDues.{band_text, end_text, limits_text}
use Rattle.venue_text.proofs.ReadBackParts.{all_append, all_more, behind_is, decimal_in_part}
use Rattle.venue_text.proofs.ReadBackParts.{first_is, in_line, last_is, more_behind, none_behind}
use Rattle.venue_text.proofs.ReadBackParts.{nothing_behind, number_back, time_in_part}
use Rattle.venue_text.proofs.ReadBackPrices.{price_back, price_word}

-- LOW HIGH

-- the band between two ends
abbrev between : ℕ → ℕ → Band
between low high = record { low = low; high = high }

-- the ends of a band are prices, and read again as such
pub record EndsRead (band : Band) : Type 0 where
  pub low_most : band.low ≤ 255999
  pub low_back : price_of (price_digits band.low) ≡ Ok band.low
  pub high_most : band.high ≤ 255999
  pub high_back : price_of (price_digits band.high) ≡ Ok band.high

whole_same : (band : Band) → is_whole band ≡ true → band ≡ whole_band
whole_same band is =
    let ends = and_parts (band.low == 1) (band.high == 255999) is in
    ap₂ (λ (low high : ℕ). between low high) (eqb-true band.low 1 ends.0)
    (eqb-true band.high 255999 ends.1)

-- the text of both
abbrev ends_text : Band → List ℕ
ends_text band = price_digits band.low ++ 32 ∷ price_digits band.high

ends_in_line : (band : Band) → EndsRead band → list_all is_in_line (ends_text band) ≡ true
ends_in_line band reads =
    all_append is_in_line (price_digits band.low) (32 ∷ price_digits band.high)
    (in_line (price_digits band.low) (price_word band.low reads.low_most))
    (all_more is_in_line 32 (price_digits band.high) refl
    (in_line (price_digits band.high) (price_word band.high reads.high_most)))

ends_back : (band : Band) → EndsRead band → ends_of (ends_text band) ≡ Some band
ends_back band reads =
    let l = price_digits band.low in
    let h = price_digits band.high in
    let word = price_word band.low reads.low_most in
    let low = ap (λ (t : List ℕ). result_ok (price_of t)) (first_is l h word)
    ∙ price_back band.low reads.low_back in
    let high = ap (λ (t : List ℕ). result_ok (price_of t)) (behind_is l h word)
    ∙ price_back band.high reads.high_back in
    ap₂ (λ (one other : Option ℕ). one >>= (λ (low : ℕ). other >>= (λ (high : ℕ).
    Some (between low high)))) low high

-- GRID LOW HIGH

record LimitsWord (grid : ℕ) (band : Band) (text : List ℕ) : Type 0 where
  one_line : list_all is_in_line text ≡ true
  grid_first : first_part text ≡ decimal grid
  band_is : band_behind text ≡ Some band

grid_short : (grid : ℕ) → is_grid grid ≡ true → grid < 1000
grid_short grid is = grind (arith, nat_tests)

grid_word : (grid : ℕ) (band : Band) → is_grid grid ≡ true → band ≡ whole_band
    → LimitsWord grid band (decimal grid)
grid_word grid band is whole =
    let below = grid_short grid is in
    let g = decimal grid in
    let word = decimal_in_part grid (omega arith) in
    record {
      one_line = in_line g word;
      grid_first = last_is g word;
      band_is = ap (λ (b : Bool). cond b (ends_of (behind_part g)) (Some whole_band))
          (none_behind g word) ∙ ap Some (sym whole);
    }

both_word : (grid : ℕ) (band : Band) → is_grid grid ≡ true → EndsRead band
    → LimitsWord grid band (decimal grid ++ 32 ∷ ends_text band)
both_word grid band is reads =
    let below = grid_short grid is in
    let g = decimal grid in
    let ends = ends_text band in
    let word = decimal_in_part grid (omega arith) in
    record {
      one_line = all_append is_in_line g (32 ∷ ends) (in_line g word)
          (all_more is_in_line 32 ends refl (ends_in_line band reads));
      grid_first = first_is g ends word;
      band_is = ap (λ (b : Bool). cond b (ends_of (behind_part (g ++ 32 ∷ ends))) (Some whole_band))
          (more_behind g ends) ∙ ap ends_of (behind_is g ends word) ∙ ends_back band reads;
    }

limits_word : (grid : ℕ) (band : Band) → is_grid grid ≡ true → EndsRead band
    → LimitsWord grid band (decimal grid ++ band_text band)
unfolding band_text
limits_word grid band is reads =
    elim (cases_Bool (is_whole band)) [
      | inl whole ↦
          subst (LimitsWord grid band)
          (sym (ap (λ (b : Bool). decimal grid ++ cond b [] (32 ∷ ends_text band)) whole
          ∙ append-nil (decimal grid)))
          (grid_word grid band is (whole_same band whole))
      | inr other ↦
          subst (LimitsWord grid band)
          (sym (ap (λ (b : Bool). decimal grid ++ cond b [] (32 ∷ ends_text band)) other))
          (both_word grid band is reads)
    ]

-- TIME GRID LOW HIGH

pub record EndWord (date : List ℕ) (moment grid : ℕ) (band : Band) (text : List ℕ) : Type 0 where
  pub one_line : list_all is_in_line text ≡ true
  pub time_is : time_of date (first_part text) ≡ Some moment
  pub grid_is : grid_behind text ≡ Some grid
  pub band_is : band_behind (behind_part text) ≡ Some band

time_end : (date : List ℕ) (moment grid : ℕ) (band : Band)
    → time_of date (time_text moment) ≡ Some moment → grid ≡ finest_grid → band ≡ whole_band
    → EndWord date moment grid band (time_text moment)
time_end date moment grid band time finest whole =
    let t = time_text moment in
    let word = time_in_part moment in
    record {
      one_line = in_line t word;
      time_is = ap (time_of date) (last_is t word) ∙ time;
      grid_is = ap (λ (b : Bool). cond b (number_of (first_part (behind_part t)) >>= grid_of)
          (Some finest_grid)) (none_behind t word) ∙ ap Some (sym finest);
      band_is = ap band_behind (nothing_behind t word) ∙ ap Some (sym whole);
    }

limits_end : (date : List ℕ) (moment grid : ℕ) (band : Band) (limits : List ℕ)
    → time_of date (time_text moment) ≡ Some moment → is_grid grid ≡ true
    → LimitsWord grid band limits → EndWord date moment grid band (time_text moment ++ 32 ∷ limits)
limits_end date moment grid band limits time is ends =
    let t = time_text moment in
    let word = time_in_part moment in
    let below = grid_short grid is in
    let few : length (decimal grid) ≤ 9 =
    length-decimal-le 9 grid (omega arith) (omega arith) (omega arith) in
    let text = t ++ 32 ∷ limits in
    record {
      one_line = all_append is_in_line t (32 ∷ limits) (in_line t word)
          (all_more is_in_line 32 limits refl ends.one_line);
      time_is = ap (time_of date) (first_is t limits word) ∙ time;
      grid_is = ap (λ (b : Bool). cond b (number_of (first_part (behind_part text)) >>= grid_of)
          (Some finest_grid)) (more_behind t limits)
          ∙ ap (λ (l : List ℕ). number_of (first_part l) >>= grid_of) (behind_is t limits word)
          ∙ ap (λ (l : List ℕ). number_of l >>= grid_of) ends.grid_first
          ∙ ap (λ (found : Option ℕ). found >>= grid_of) (number_back 9 grid (omega arith) few)
          ∙ ap (λ (b : Bool). cond b (Some grid) None) is;
      band_is = ap band_behind (behind_is t limits word) ∙ ends.band_is;
    }

-- all as they are written
pub record WrittenEnd (date : List ℕ) (moment grid : ℕ) (band : Band) : Type 0 where
  pub text : List ℕ
  pub written : end_text moment grid band ≡ text ++ 10 ∷ []
  pub word : EndWord date moment grid band text

pub end_word : (date : List ℕ) (moment grid : ℕ) (band : Band)
    → time_of date (time_text moment) ≡ Some moment → is_grid grid ≡ true → EndsRead band
    → WrittenEnd date moment grid band
unfolding end_text limits_text
end_word date moment grid band time is reads =
    let limits = decimal grid ++ band_text band in
    elim (cases_Bool ((grid == finest_grid) && is_whole band)) [
      | inl plain ↦
          let parts = and_parts (grid == finest_grid) (is_whole band) plain in
          record {
            text = time_text moment;
            written =
                ap (λ (b : Bool). (time_text moment ++ cond b [] (32 ∷ limits)) ++ 10 ∷ []) plain
                ∙ ap (λ (l : List ℕ). l ++ 10 ∷ []) (append-nil (time_text moment));
            word = time_end date moment grid band time (eqb-true grid finest_grid parts.0)
                (whole_same band parts.1);
          }
      | inr other ↦
          record {
            text = time_text moment ++ 32 ∷ limits;
            written =
                ap (λ (b : Bool). (time_text moment ++ cond b [] (32 ∷ limits)) ++ 10 ∷ []) other;
            word = limits_end date moment grid band limits time is
                (limits_word grid band is reads);
          }
    ]
