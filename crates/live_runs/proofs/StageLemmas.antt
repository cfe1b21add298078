-- A line at a stage.
use Rattle.std.proofs.Common.{◌≡◌, ◌≤◌, ℕ, false, List, [], ◌∷◌, ◌++◌, length, Option, Some, sym}
use Rattle.std.proofs.Common.{subst, inl, inr, append_assoc}
use Rattle.std.specs.Option.{option_to_list}
use Rattle.std.specs.Prelude.{Vec}
use Rattle.std.specs.declared.alloc.Global.{Global}
use Rattle.input_lines.specs.VenueParts.{is_divider}
use Rattle.input_lines.specs.declared.faults.ProgramFault.{ProgramFault}
use Rattle.input_lines.specs.declared.faults.ProgramFault.TheVariants.{Memory}
use Rattle.input_lines.specs.declared.lines.TheConstants.{MOST_INPUT}
use Rattle.investor_texts.specs.declared.sought_days.SoughtDay.{SoughtDay}
use Rattle.live_runs.specs.LineForms.{LineForm, answered, compared_for, kept_for}
use Rattle.live_runs.specs.LiveRuns.{EndsDay, GainsFaults, HasAnswered}
use Rattle.live_runs.specs.LiveCalls.{IsBad, KeepsAnywhere, KeepsStep, is_turn, err_new, err_old}
use Rattle.live_runs.specs.LiveCalls.{out_new, out_old, IsNext, KeptTakes, StageFails, StageTakes}
use Rattle.live_runs.specs.LiveStages.{StageIs}
use Rattle.live_runs.specs.Written.{Written}
use Rattle.live_runs.specs.declared.stages.Stage.{Stage}
use Rattle.live_runs.specs.declared.stages.Stage.TheVariants as stage
use Rattle.live_runs.proofs.DayLineLemmas.{kept_taken}
use Rattle.live_runs.proofs.TwoDayLemmas.{answers_nothing, awaiting_more, awaiting_taken}
use Rattle.live_runs.proofs.TwoDayLemmas.{both_answered, both_more, first_more, one_taken}
use Rattle.live_runs.proofs.ConfigurationLemmas.{stage_opened}
use Rattle.live_runs.proofs.RefusalLemmas.{config_bad}

-- where the streams stay as they are

abbrev pub still : Option (List ℕ) → Written
still known = record { before = known; after = known }

module _ (form : LineForm) (number : ℕ) (line : List ℕ) (before : Stage) where
  pub stage_opens : (after : Stage) (t : Vec ℕ Global) (now : List ℕ) (o e : Option (List ℕ)) → before ≡ stage.Configuration t
      → IsNext form line t.items now (Some after) → StageTakes form number line before after (still o) (still e)
  stage_opens after t now o e was next lines start at had =
      stage_opened lines line t.items (out_new start (still o)) (err_new start (still e))
      (subst (λ (s : Stage). StageIs form lines s (out_old start (still o)) (err_old start (still e))) was had) next.0 form after next.1

  pub stage_bad : (t : Vec ℕ Global) (fault : ProgramFault) (o e : Option (List ℕ)) → before ≡ stage.Configuration t → IsBad form line t.items fault
      → StageFails form number line before fault (still o) (still e)
  stage_bad t fault o e was bad lines start at had more =
      config_bad form lines line t.items _ _
      (subst (λ (s : Stage). StageIs form lines s (out_old start (still o)) (err_old start (still e))) was had) more fault bad

pub answered_by : (form : LineForm) (lines : List (List ℕ)) (s : Stage) (out err : Written) → StageIs form lines s out err
    → HasAnswered form lines out err
answered_by form lines (stage.Configuration t) out err is = answers_nothing form lines out err is.nothing
answered_by (answered form) lines (stage.Day d) out err is = inr (is.config, is.answers)
answered_by (answered form) lines (stage.Kept d) out err is = absurd is
answered_by (kept_for sought) lines (stage.Day d) out err is = absurd is
answered_by (kept_for sought) lines (stage.Kept d) out err is = inr (is.config, is.answers)
answered_by (compared_for whom) lines (stage.Day d) out err is = absurd is
answered_by (compared_for whom) lines (stage.First d) out err is = inr (inl (is.goes.config, one_taken whom lines d out err is))
answered_by (compared_for whom) lines (stage.Kept d) out err is = absurd is
answered_by (answered form) lines (stage.First d) out err is = absurd is
answered_by (kept_for sought) lines (stage.First d) out err is = absurd is
answered_by (compared_for whom) lines (stage.Between d t) out err is =
    inr (inl (is.goes.goes.config, awaiting_taken whom lines d t.items out err is))
answered_by (compared_for whom) lines (stage.Both d d') out err is = both_answered whom lines d d' out err is
answered_by (answered form) lines (stage.Between d t) out err is = absurd is
answered_by (answered form) lines (stage.Both d d') out err is = absurd is
answered_by (kept_for sought) lines (stage.Between d t) out err is = absurd is
answered_by (kept_for sought) lines (stage.Both d d') out err is = absurd is

kept_goes : (form : LineForm) (number : ℕ) (line : List ℕ) (d d' : SoughtDay) (out err : Written) → KeptTakes number line d d' out err
    → StageTakes form number line (stage.Kept d) (stage.Kept d') out err
kept_goes (answered form) number line d d' out err takes lines start at had = absurd had
kept_goes (kept_for sought) number line d d' out err takes lines start at had = takes sought lines start at had
kept_goes (compared_for whom) number line d d' out err takes lines start at had = absurd had

first_goes : (form : LineForm) (number : ℕ) (line : List ℕ) (d d' : SoughtDay) (out err : Written) → is_divider line ≡ false
    → KeptTakes number line d d' out err → StageTakes form number line (stage.First d) (stage.First d') out err
first_goes (answered form) number line d d' out err other takes lines start at had = absurd had
first_goes (kept_for sought) number line d d' out err other takes lines start at had = absurd had
first_goes (compared_for whom) number line d d' out err other takes lines start at had =
    first_more whom number line d d' out err other takes lines start at had

between_goes : (form : LineForm) (number : ℕ) (line : List ℕ) (d : SoughtDay) (t u : Vec ℕ Global) (o e : Option (List ℕ)) → is_divider line ≡ false
    → u.items ≡ t.items ++ line ++ 10 ∷ [] → length u.items ≤ MOST_INPUT
    → StageTakes form number line (stage.Between d t) (stage.Between d u) (still o) (still e)
between_goes (answered form) number line d t u o e other is fits lines start at had = absurd had
between_goes (kept_for sought) number line d t u o e other is fits lines start at had = absurd had
between_goes (compared_for whom) number line d t u o e other is fits lines start at had =
    awaiting_more whom lines line t.items u.items d (out_new start (still o)) (err_new start (still e)) other is fits had

both_go : (form : LineForm) (number : ℕ) (line : List ℕ) (fault : Option ProgramFault) (one d d' : SoughtDay) (o e e' : Option (List ℕ))
    → KeepsAnywhere number line d d' fault → GainsFaults (option_to_list fault) (record { before = e; after = e' })
    → StageTakes form number line (stage.Both one d) (stage.Both one d') (still o) (record { before = e; after = e' })
both_go (answered form) number line fault one d d' o e e' keeps tells lines start at had = absurd had
both_go (kept_for sought) number line fault one d d' o e e' keeps tells lines start at had = absurd had
both_go (compared_for whom) number line fault one d d' o e e' keeps tells lines start at had =
    both_more whom number line fault one d d' keeps o e e' tells lines start at had

-- memory was refused, or a line of the second configuration is too long
refused_behind : (form : LineForm) (number : ℕ) (line : List ℕ) (before : Stage) (fault : ProgramFault) (o e : Option (List ℕ)) → fault ≡ Memory
    → StageFails form number line before fault (still o) (still e)
refused_behind form number line before fault o e is lines start at had more =
    subst (λ (f : ProgramFault). EndsDay form f ((lines ++ line ∷ []) ++ more) (out_new start (still o)) (err_new start (still e))) (sym is)
    (record {
      is_fault = tt;
      lines = lines;
      rest = line ∷ more;
      split = append_assoc lines (line ∷ []) more;
      reached = tt;
      left = answered_by form lines before (out_new start (still o)) (err_new start (still e)) had;
    })

module _ (form : LineForm) (number : ℕ) (line : List ℕ) (before : Stage) where
  pub stage_keeps : (after : Stage) (d d' : SoughtDay) (out err err' : Option (List ℕ)) → before ≡ stage.Kept d
      → after ≡ stage.Kept d' → KeepsStep number line d d' (record { before = err; after = err' })
      → StageTakes form number line before after (still out) (record { before = err; after = err' })
  stage_keeps after d d' out err err' was is step =
      let took = kept_goes form number line d d' (still out) (record { before = err; after = err' })
      (kept_taken number line step.fault d d' step.keeps out err err' step.told) in
      subst (λ (s : Stage). StageTakes form number line s after (still out) (record { before = err; after = err' })) (sym was)
      (subst (λ (s : Stage). StageTakes form number line (stage.Kept d) s (still out) (record { before = err; after = err' })) (sym is) took)

  pub stage_of_first : (after : Stage) (d d' : SoughtDay) (out err err' : Option (List ℕ)) → before ≡ stage.First d
      → is_turn before line ≡ false → after ≡ stage.First d' → KeepsStep number line d d' (record { before = err; after = err' })
      → StageTakes form number line before after (still out) (record { before = err; after = err' })
  stage_of_first after d d' out err err' was other is step =
      let stays = subst (λ (s : Stage). is_turn s line ≡ false) was other in
      let took = first_goes form number line d d' (still out) (record { before = err; after = err' }) stays
      (kept_taken number line step.fault d d' step.keeps out err err' step.told) in
      subst (λ (s : Stage). StageTakes form number line s after (still out) (record { before = err; after = err' })) (sym was)
      (subst (λ (s : Stage). StageTakes form number line (stage.First d) s (still out) (record { before = err; after = err' })) (sym is) took)

  pub stage_between : (after : Stage) (d : SoughtDay) (t u : Vec ℕ Global) (o e : Option (List ℕ)) → before ≡ stage.Between d t
      → is_turn before line ≡ false → after ≡ stage.Between d u → u.items ≡ t.items ++ line ++ 10 ∷ []
      → length u.items ≤ MOST_INPUT → StageTakes form number line before after (still o) (still e)
  stage_between after d t u o e was other is text_is fits =
      let stays = subst (λ (s : Stage). is_turn s line ≡ false) was other in
      subst (λ (s : Stage). StageTakes form number line s after (still o) (still e)) (sym was)
      (subst (λ (s : Stage). StageTakes form number line (stage.Between d t) s (still o) (still e)) (sym is)
      (between_goes form number line d t u o e stays text_is fits))

  pub stage_of_both : (after : Stage) (one d d' : SoughtDay) (out err err' : Option (List ℕ)) → before ≡ stage.Both one d
      → after ≡ stage.Both one d' → KeepsStep number line d d' (record { before = err; after = err' })
      → StageTakes form number line before after (still out) (record { before = err; after = err' })
  stage_of_both after one d d' out err err' was is step =
      subst (λ (s : Stage). StageTakes form number line s after (still out) (record { before = err; after = err' })) (sym was)
      (subst (λ (s : Stage). StageTakes form number line (stage.Both one d) s (still out) (record { before = err; after = err' })) (sym is)
      (both_go form number line step.fault one d d' out err err' step.keeps step.told))

  -- and standard error is as it was
  pub stage_refused_as_it_was : (fault : ProgramFault) (o e e' : Option (List ℕ)) → (fault ≡ Memory) × (e' ≡ e)
      → StageFails form number line before fault (still o) (record { before = e; after = e' })
  stage_refused_as_it_was fault o e e' is =
      subst (λ (x : Option (List ℕ)). StageFails form number line before fault (still o) (record { before = e; after = x })) (sym is.1)
      (refused_behind form number line before fault o e is.0)
