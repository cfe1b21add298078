-- A line of steps, of a day that is answered as it goes, and of one of which something is printed at its end.
use Rattle.std.proofs.Common.{◌≡◌, ◌≤◌, ℕ, ◌+◌, true, List, [], ◌∷◌, ◌++◌, length, Option, None, Result}
use Rattle.std.proofs.Common.{Ok, refl, sym, ap, subst, ◌∙◌, inr, append_assoc}
use Rattle.std.specs.Io.KnownBytes.{Appends, Keeps}
use Rattle.std.specs.Option.{option_to_list}
use Rattle.venue_rows.specs.Rows.{Configuration, values_of}
use Rattle.investor_texts.specs.SoughtDays as sought_days
use Rattle.investor_texts.specs.SoughtDays.{KeepsMore, Sought, asked_in, of_firms, of_investor}
use Rattle.investor_texts.specs.SoughtDays.{firms}
use Rattle.venue_text.specs.LiveAnswers.{Gives, Goes}
use Rattle.venue_text.specs.LiveInput.{are_divided, configuration_in, taken_in, text_in}
use Rattle.venue_text.specs.LiveLines.{Taken}
use Rattle.input_lines.specs.ResultSteps.{◌>>=◌}
use Rattle.input_lines.specs.StepLines.{asked}
use Rattle.input_lines.specs.VenueParts.{is_divider, venue_of}
use Rattle.input_lines.specs.declared.faults.ProgramFault.{ProgramFault}
use Rattle.input_lines.specs.declared.lines.TheConstants.{MOST_INPUT}
use Rattle.input_lines.specs.declared.faults.ProgramFault.TheVariants.{Memory, Write}
use Rattle.venue_text.specs.declared.kept_days.Asked.{Asked}
use Rattle.investor_texts.specs.declared.sought_days.SoughtDay.{SoughtDay}
use Rattle.investor_texts.specs.declared.sought_days.SoughtDay.TheVariants as sought_day
use Rattle.venue_text.specs.declared.live_form.LiveForm.{LiveForm}
use Rattle.venue_text.specs.declared.live_lines.LiveDay.{LiveDay}
use Rattle.live_runs.specs.LineForms.{answered}
use Rattle.live_runs.specs.LiveRuns.{EndsDay, GainsFaults, fault_if}
use Rattle.live_runs.specs.LiveCalls.{KeepsAnywhere, KeptTakes}
use Rattle.live_runs.specs.LiveStages.{DayGoes}
use Rattle.live_runs.specs.Written.{GainsPart, Written}
use Rattle.live_runs.proofs.LineLemmas.{configuration_stays, taken_any, text_more}
use Rattle.live_runs.proofs.PartLemmas.{parts_stay}
use Rattle.live_runs.proofs.StreamLemmas.{appends_both, more_part}
use Rattle.live_runs.proofs.GainLemmas.{faults_kept, faults_more}

-- A line of steps.

-- what is known behind a line that was answered
pub record AfterLine (form : LiveForm) (config : Configuration) (lines : List (List ℕ)) (line : List ℕ) (day : LiveDay)
    (output : List ℕ) (fault : Option ProgramFault) : Type 0 where
  pub goes : Goes form config (taken_in config (lines ++ line ∷ [])) day
  pub printed : text_in form config (lines ++ line ∷ []) ≡ text_in form config lines ++ output
  pub faults : (taken_in config (lines ++ line ∷ [])).faults ≡ (taken_in config lines).faults ++ option_to_list fault

-- what a line gives, wherever the day stood
abbrev pub GivesAnywhere : ℕ → List ℕ → LiveDay → LiveDay → List ℕ → Option ProgramFault → Type 0
GivesAnywhere number line before after output fault = (form : LiveForm) (config : Configuration) (taken : Taken)
    → Goes form config taken before → Gives form config taken number line after output fault

after_line : (number : ℕ) (line output : List ℕ) (fault : Option ProgramFault) (before after : LiveDay)
    → GivesAnywhere number line before after output fault
    → (form : LiveForm) (config : Configuration) (lines : List (List ℕ)) → number ≡ length lines + 1 → are_divided lines ≡ true
    → Goes form config (taken_in config lines) before → AfterLine form config lines line after output fault
after_line number line output fault before after gives form config lines at divided goes =
    let taken = taken_in config lines in
    let is = subst (λ (n : ℕ). Gives form config taken n line after output fault) at (gives form config taken goes) in
    let same = taken_any config lines line divided in
    record {
      goes = subst (λ (t : Taken). Goes form config t after) (sym same) is.goes;
      printed = text_more form config lines line divided ∙ ap (λ (l : List ℕ). text_in form config lines ++ l) (sym is.printed_is);
      faults = ap (λ (t : Taken). t.faults) same ∙ is.told;
    }

module _ (form : LiveForm) (lines : List (List ℕ)) (number : ℕ) (line output : List ℕ) (fault : Option ProgramFault)
    (before after : LiveDay) (gives : GivesAnywhere number line before after output fault) (at : number ≡ length lines + 1)
    (start old new told err err' : Option (List ℕ))
    (had : DayGoes form lines before (record { before = start; after = old }) (record { before = told; after = err }))
    (tells : GainsFaults (option_to_list fault) (record { before = err; after = err' })) where
  abbrev next : AfterLine form had.config lines line after output fault
  next = after_line number line output fault before after gives form had.config lines at had.answers.divided had.goes

  divided_still : are_divided (lines ++ line ∷ []) ≡ true
  divided_still = (parts_stay is_divider lines (line ∷ []) had.answers.divided).any

  spelled_still : venue_of (configuration_in (lines ++ line ∷ [])) ≡ Ok (values_of had.config)
  spelled_still = ap venue_of (configuration_stays lines (line ∷ []) had.answers.divided) ∙ had.answers.spelled

  told_more : GainsFaults (taken_in had.config (lines ++ line ∷ [])).faults (record { before = told; after = err' })
  told_more =
      subst (λ (f : List ProgramFault). GainsFaults f (record { before = told; after = err' })) (sym next.faults)
      (faults_more (taken_in had.config lines).faults (option_to_list fault) told err err' had.answers.told tells)

  -- its text was printed
  pub day_answered : Appends old new output
      → DayGoes form (lines ++ line ∷ []) after (record { before = start; after = new }) (record { before = told; after = err' })
  day_answered gained = record {
    config = had.config;
    answers = record {
      divided = divided_still;
      spelled = spelled_still;
      asked = refl;
      printed = subst (λ (t : List ℕ). Appends start new t) (sym next.printed) (appends_both start old new _ output had.answers.printed gained);
      told = told_more;
    };
    goes = next.goes;
    short = subst (λ (t : List ℕ). length t ≤ MOST_INPUT) (sym (configuration_stays lines (line ∷ []) had.answers.divided)) had.short;
  }

  -- or a part of it
  pub day_unprinted : (more : List (List ℕ)) (refused : ProgramFault) → refused ≡ Write
      → GainsPart output (record { before = old; after = new })
      → EndsDay (answered form) refused ((lines ++ line ∷ []) ++ more) (record { before = start; after = new }) (record { before = told; after = err' })
  day_unprinted more refused is part =
      subst (λ (f : ProgramFault). EndsDay (answered form) f ((lines ++ line ∷ []) ++ more) (record { before = start; after = new })
      (record { before = told; after = err' })) (sym is)
      (record {
        is_fault = tt;
        lines = lines ++ line ∷ [];
        rest = more;
        split = refl;
        reached = tt;
        left = (
          had.config,
          record {
            divided = divided_still;
            spelled = spelled_still;
            asked = refl;
            printed = subst (λ (t : List ℕ). GainsPart t (record { before = start; after = new })) (sym next.printed)
                (more_part start old new _ output had.answers.printed part);
            told = told_more;
          },
        );
      })

-- memory was refused
pub day_out_of_memory : (form : LiveForm) (lines : List (List ℕ)) (line : List ℕ) (day : LiveDay) (out : Written) (told old new : Option (List ℕ))
    (more : List (List ℕ)) (fault : ProgramFault) → fault ≡ Memory → DayGoes form lines day out (record { before = told; after = old })
    → Keeps old new → EndsDay (answered form) fault ((lines ++ line ∷ []) ++ more) out (record { before = told; after = new })
day_out_of_memory form lines line day out told old new more fault is goes kept =
    subst (λ (f : ProgramFault). EndsDay (answered form) f ((lines ++ line ∷ []) ++ more) out (record { before = told; after = new })) (sym is)
    (record {
      is_fault = tt;
      lines = lines;
      rest = line ∷ more;
      split = append_assoc lines (line ∷ []) more;
      reached = tt;
      left = inr (
        goes.config,
        record {
          divided = goes.answers.divided;
          spelled = goes.answers.spelled;
          asked = refl;
          printed = goes.answers.printed;
          told = faults_kept (taken_in goes.config lines).faults told old new goes.answers.told kept;
        },
      );
    })

-- a day that stands names whom the venue has
pub asked_of : (sought : Sought) (config : Configuration) (taken : Taken) (day : SoughtDay)
    → sought_days.Keeps sought config taken day → fault_if (asked_in sought (values_of config)) ≡ None
asked_of (of_firms wanted) config taken (sought_day.Firms kept) keeps =
    ap (λ (r : Result Asked ProgramFault). fault_if (r >>= (λ a. Ok (firms a)))) keeps.asked_is
asked_of (of_firms wanted) config taken (sought_day.Investor kept) keeps = absurd keeps
asked_of (of_investor name) config taken (sought_day.Firms kept) keeps = absurd keeps
asked_of (of_investor name) config taken (sought_day.Investor kept) keeps =
    ap (λ (r : Result ℕ ProgramFault). fault_if (r >>= (λ n. Ok (sought_days.investor n)))) keeps.named

-- A line of steps that is taken, of a day of which something is printed at its end.

module _ (number : ℕ) (line : List ℕ) (fault : Option ProgramFault) (before after : SoughtDay)
    (keeps : KeepsAnywhere number line before after fault) where
  pub kept_taken : (out : Option (List ℕ)) (err err' : Option (List ℕ))
      → GainsFaults (option_to_list fault) (record { before = err; after = err' })
      → KeptTakes number line before after (record { before = out; after = out }) (record { before = err; after = err' })
  kept_taken out err err' tells sought lines start at had =
      let config = had.config in
      let divided = had.answers.divided in
      let same = taken_any config lines line divided in
      let more = subst (λ (n : ℕ). KeepsMore sought config (taken_in config lines) n line after fault) at
      (keeps config sought (taken_in config lines) had.keeps) in
      let faults : (taken_in config (lines ++ line ∷ [])).faults ≡ (taken_in config lines).faults ++ option_to_list fault =
      ap (λ (t : Taken). t.faults) same ∙ more.told in
      record {
        config = config;
        answers = record {
          divided = (parts_stay is_divider lines (line ∷ []) divided).any;
          spelled = ap venue_of (configuration_stays lines (line ∷ []) divided) ∙ had.answers.spelled;
          asked = had.answers.asked;
          printed = had.answers.printed;
          told = subst (λ (f : List ProgramFault). GainsFaults f (record { before = start.err; after = err' })) (sym faults)
              (faults_more (taken_in config lines).faults (option_to_list fault) start.err err err' had.answers.told tells);
        };
        keeps = subst (λ (t : Taken). sought_days.Keeps sought config t after) (sym same) more.keeps;
        short = subst (λ (t : List ℕ). length t ≤ MOST_INPUT) (sym (configuration_stays lines (line ∷ []) divided)) had.short;
      }
