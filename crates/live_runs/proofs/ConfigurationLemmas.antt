-- A line of the configuration.
use Rattle.std.proofs.Common.{◌≡◌, ◌≤◌, ℕ, true, List, [], ◌∷◌, ◌++◌, length, Ok, refl, sym, ap}
use Rattle.std.proofs.Common.{subst, ◌∙◌}
use Rattle.venue_rows.specs.Rows.{Configuration, values_of}
use Rattle.investor_texts.specs.SoughtDays as sought_days
use Rattle.investor_texts.specs.SoughtDays.{OpensSought, Sought, sought_of}
use Rattle.venue_text.specs.LiveAnswers.{Goes, Opens}
use Rattle.venue_text.specs.LiveInput.{configuration_in, taken_in}
use Rattle.venue_text.specs.LiveLines.{Taken, nothing_taken}
use Rattle.input_lines.specs.VenueParts.{is_divider, venue_of}
use Rattle.input_lines.specs.declared.lines.TheConstants.{MOST_INPUT}
use Rattle.investor_texts.specs.declared.sought_days.SoughtDay.{SoughtDay}
use Rattle.venue_text.specs.declared.live_form.LiveForm.{LiveForm}
use Rattle.venue_text.specs.declared.live_lines.LiveDay.{LiveDay}
use Rattle.live_runs.specs.LineForms.{LineForm, answered, compared_for, kept_for}
use Rattle.live_runs.specs.LiveRuns.{GainsFaults}
use Rattle.live_runs.specs.LiveCalls.{OpensStage}
use Rattle.live_runs.specs.LiveStages.{AwaitsDay, DayGoes, KeptGoes, StageIs}
use Rattle.live_runs.specs.Written.{Gains, Written}
use Rattle.live_runs.specs.declared.stages.Stage.{Stage}
use Rattle.live_runs.specs.declared.stages.Stage.TheVariants as stage
use Rattle.live_runs.proofs.LineLemmas.{configuration_is, none_behind, nothing_behind}
use Rattle.live_runs.proofs.LineLemmas.{nothing_printed, now_divided}
use Rattle.live_runs.proofs.GainLemmas.{gains_nothing}
use Rattle.live_runs.proofs.DayLineLemmas.{asked_of}

-- the lines so far are of a configuration, and this one ends it
module _ (lines : List (List ℕ)) (line text : List ℕ) (out err : Written) (had : AwaitsDay lines text out err) (here : is_divider line ≡ true) where
  spelled_here : (config : Configuration) → venue_of text ≡ Ok (values_of config) → venue_of (configuration_in (lines ++ line ∷ [])) ≡ Ok (values_of config)
  spelled_here config spelled = ap venue_of (configuration_is lines line had.nothing.undivided here ∙ sym had.text_is) ∙ spelled

  nothing_taken_here : (config : Configuration) → taken_in config (lines ++ line ∷ []) ≡ nothing_taken (values_of config)
  nothing_taken_here config = nothing_behind lines line had.nothing.undivided here config

  untold_here : (config : Configuration) → GainsFaults (taken_in config (lines ++ line ∷ [])).faults err
  untold_here config = subst (λ (t : Taken). GainsFaults t.faults err) (sym (nothing_taken_here config)) had.nothing.untold

  short_here : length (configuration_in (lines ++ line ∷ [])) ≤ MOST_INPUT
  short_here =
      subst (λ (t : List ℕ). length t ≤ MOST_INPUT) (sym (configuration_is lines line had.nothing.undivided here ∙ sym had.text_is)) had.short

  pub config_opens : (form : LiveForm) (day : LiveDay) → Opens form text day → DayGoes form (lines ++ line ∷ []) day out err
  config_opens form day opens =
      let config = opens.config in
      record {
        config = config;
        answers = record {
          divided = now_divided lines line had.nothing.undivided here;
          spelled = spelled_here config opens.spelled;
          asked = refl;
          printed = subst (λ (t : List ℕ). Gains t out) (sym (nothing_printed lines line had.nothing.undivided here form config))
              (gains_nothing out.before out.after had.nothing.left);
          told = untold_here config;
        };
        goes = subst (λ (t : Taken). Goes form config t day) (sym (nothing_taken_here config)) opens.goes;
        short = short_here;
      }

  pub config_keeps : (sought : Sought) (day : SoughtDay) → OpensSought sought text day → KeptGoes sought (lines ++ line ∷ []) day out err
  config_keeps sought day opens =
      let config = opens.config in
      record {
        config = config;
        answers = record {
          divided = now_divided lines line had.nothing.undivided here;
          spelled = spelled_here config opens.spelled;
          asked = asked_of sought config _ day opens.keeps;
          printed = gains_nothing out.before out.after had.nothing.left;
          told = untold_here config;
        };
        keeps = subst (λ (t : Taken). sought_days.Keeps sought config t day) (sym (nothing_taken_here config)) opens.keeps;
        short = short_here;
      }

  pub stage_opened : (form : LineForm) (next : Stage) → OpensStage form text next → StageIs form (lines ++ line ∷ []) next out err
  stage_opened (answered form) (stage.Day day) opens = config_opens form day opens
  stage_opened (kept_for sought) (stage.Kept day) opens = config_keeps sought day opens
  stage_opened (compared_for whom) (stage.First day) opens =
      record { goes = config_keeps (sought_of whom) day opens; alone = none_behind lines line had.nothing.undivided here }
  stage_opened (answered form) (stage.Configuration t) opens = absurd opens
  stage_opened (answered form) (stage.Kept day) opens = absurd opens
  stage_opened (answered form) (stage.First day) opens = absurd opens
  stage_opened (answered form) (stage.Between day t) opens = absurd opens
  stage_opened (answered form) (stage.Both one other) opens = absurd opens
  stage_opened (kept_for sought) (stage.Configuration t) opens = absurd opens
  stage_opened (kept_for sought) (stage.Day day) opens = absurd opens
  stage_opened (kept_for sought) (stage.First day) opens = absurd opens
  stage_opened (kept_for sought) (stage.Between day t) opens = absurd opens
  stage_opened (kept_for sought) (stage.Both one other) opens = absurd opens
  stage_opened (compared_for whom) (stage.Configuration t) opens = absurd opens
  stage_opened (compared_for whom) (stage.Day day) opens = absurd opens
  stage_opened (compared_for whom) (stage.Kept day) opens = absurd opens
  stage_opened (compared_for whom) (stage.Between day t) opens = absurd opens
  stage_opened (compared_for whom) (stage.Both one other) opens = absurd opens
