-- What is within the limits: lines that came, and the configurations in them.
use Rattle.std.proofs.Common.{◌≡◌, ◌≤◌, ℕ, false, List, [], ◌∷◌, ◌++◌, length, sym, ap, subst, ◌∙◌}
use Rattle.std.proofs.Common.{arith, inl, inr, nat_lt, refl}
use Rattle.std.specs.List.{list_any}
use Rattle.std.proofs.lemmas.Bool.Decides.{nat_tests}
use Rattle.std.proofs.lemmas.List.Folds.{list_any-append}
use Rattle.venue_text.specs.LiveInput.{configuration_in}
use Rattle.input_lines.specs.declared.lines.TheConstants.{MOST_INPUT}
use Rattle.investor_texts.specs.SoughtDays.{Whom}
use Rattle.investor_texts.specs.declared.sought_days.SoughtDay.{SoughtDay}
use Rattle.live_runs.specs.LineForms.{LineForm, answered, compared_for, kept_for}
use Rattle.live_runs.specs.LiveRuns.{AreWithin, IsConfigurationIn, second_configuration}
use Rattle.live_runs.specs.LiveStages.{AwaitsDay, AwaitsSecond, BothGo, FirstGoes, HasCome, StageIs}
use Rattle.live_runs.specs.Written.{Written}
use Rattle.live_runs.specs.declared.live.LiveRun.{LiveRun}
use Rattle.live_runs.specs.declared.stages.Stage.{Stage}
use Rattle.live_runs.specs.declared.stages.Stage.TheVariants as stage
use Rattle.live_runs.proofs.LineLemmas.{alone_undivided, configuration_stays, configuration_whole}
use Rattle.live_runs.proofs.LineLemmas.{second_none}
use Rattle.live_runs.proofs.TwoDayLemmas.{second_text}

-- a line more that is not too long
pub short_more : (lines : List (List ℕ)) (line : List ℕ) → list_any (λ l. nat_lt MOST_INPUT (length l)) lines ≡ false → length line ≤ MOST_INPUT
    → list_any (λ l. nat_lt MOST_INPUT (length l)) (lines ++ line ∷ []) ≡ false
short_more lines line had fits =
    let short : nat_lt MOST_INPUT (length line) ≡ false = grind (arith, nat_tests, fits) in
    rw (list_any-append (λ (l : List ℕ). nat_lt MOST_INPUT (length l)) lines (line ∷ []), had, short) refl

-- a text that is another one, or none
pub fits_as : (text own : List ℕ) → text ≡ own → length own ≤ MOST_INPUT → length text ≤ MOST_INPUT
fits_as text own is fits = subst (λ (t : List ℕ). length t ≤ MOST_INPUT) (sym is) fits

pub none_fits : (text : List ℕ) → text ≡ [] → length text ≤ MOST_INPUT
none_fits text is = fits_as text [] is (omega arith)

-- The configurations at a stage.

module _ (lines : List (List ℕ)) (begun : List ℕ) (out err : Written) (is : AwaitsDay lines begun out err) (text : List ℕ) where
  begun_fits : text ≡ configuration_in lines → length text ≤ MOST_INPUT
  begun_fits e = fits_as text begun (e ∙ configuration_whole lines is.nothing.undivided ∙ sym is.text_is) is.short

  none_begun : text ≡ second_configuration lines → length text ≤ MOST_INPUT
  none_begun e = none_fits text (e ∙ second_none lines (alone_undivided lines is.nothing.undivided))

module _ (whom : Whom) (lines : List (List ℕ)) (day : SoughtDay) (out err : Written) (text : List ℕ) where
  first_fits : FirstGoes whom lines day out err → IsConfigurationIn (compared_for whom) lines text → length text ≤ MOST_INPUT
  first_fits is (inl e) = fits_as text (configuration_in lines) e is.goes.short
  first_fits is (inr e) = none_fits text (e ∙ second_none lines is.alone)

  between_fits : (begun : List ℕ) → AwaitsSecond whom lines day begun out err → IsConfigurationIn (compared_for whom) lines text
      → length text ≤ MOST_INPUT
  between_fits begun is (inl e) =
      fits_as text (configuration_in is.first)
      (e ∙ ap configuration_in is.two.split ∙ configuration_stays is.first (is.divider ∷ is.behind) is.goes.goes.answers.divided) is.goes.goes.short
  between_fits begun is (inr e) =
      fits_as text begun
      (e ∙ second_text whom lines is.first is.divider is.behind is.two day out err is.goes
      ∙ configuration_whole is.behind is.undivided ∙ sym is.text_is) is.short

  both_fit : (other : SoughtDay) → BothGo whom lines day other out err → IsConfigurationIn (compared_for whom) lines text
      → length text ≤ MOST_INPUT
  both_fit other is (inl e) =
      fits_as text (configuration_in is.first)
      (e ∙ ap configuration_in is.two.split ∙ configuration_stays is.first (is.divider ∷ is.behind) is.goes.goes.answers.divided) is.goes.goes.short
  both_fit other is (inr e) =
      let mid : Written = record { before = err.before; after = is.mid } in
      fits_as text (configuration_in is.behind)
      (e ∙ second_text whom lines is.first is.divider is.behind is.two day out mid is.goes) is.second.short

texts_fit : (form : LineForm) (lines : List (List ℕ)) (s : Stage) (out err : Written) → StageIs form lines s out err
    → (text : List ℕ) → IsConfigurationIn form lines text → length text ≤ MOST_INPUT
texts_fit (answered form) lines (stage.Configuration t) out err is text e = begun_fits lines t.items out err is text e
texts_fit (kept_for sought) lines (stage.Configuration t) out err is text e = begun_fits lines t.items out err is text e
texts_fit (compared_for whom) lines (stage.Configuration t) out err is text (inl e) = begun_fits lines t.items out err is text e
texts_fit (compared_for whom) lines (stage.Configuration t) out err is text (inr e) = none_begun lines t.items out err is text e
texts_fit (answered form) lines (stage.Day d) out err is text e = fits_as text (configuration_in lines) e is.short
texts_fit (kept_for sought) lines (stage.Kept d) out err is text e = fits_as text (configuration_in lines) e is.short
texts_fit (compared_for whom) lines (stage.First d) out err is text e = first_fits whom lines d out err text is e
texts_fit (compared_for whom) lines (stage.Between d t) out err is text e = between_fits whom lines d out err text t.items is e
texts_fit (compared_for whom) lines (stage.Both d d') out err is text e = both_fit whom lines d out err text d' is e
texts_fit (answered form) lines (stage.Kept d) out err is text e = absurd is
texts_fit (answered form) lines (stage.First d) out err is text e = absurd is
texts_fit (answered form) lines (stage.Between d t) out err is text e = absurd is
texts_fit (answered form) lines (stage.Both d d') out err is text e = absurd is
texts_fit (kept_for sought) lines (stage.Day d) out err is text e = absurd is
texts_fit (kept_for sought) lines (stage.First d) out err is text e = absurd is
texts_fit (kept_for sought) lines (stage.Between d t) out err is text e = absurd is
texts_fit (kept_for sought) lines (stage.Both d d') out err is text e = absurd is
texts_fit (compared_for whom) lines (stage.Day d) out err is text e = absurd is
texts_fit (compared_for whom) lines (stage.Kept d) out err is text e = absurd is

-- lines that came are within the limits
pub lines_within : (form : LineForm) (lines : List (List ℕ)) (run : LiveRun) (out err : Written) → HasCome form lines run out err → AreWithin form lines
lines_within form lines run out err come = record {
  short = come.short;
  texts = texts_fit form lines run.stage out err come.stage_is;
  few = come.few;
}
