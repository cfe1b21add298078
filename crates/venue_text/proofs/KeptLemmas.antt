-- A day that comes line by line, and what is printed of it at its end.
use Rattle.std.proofs.Common.{◌≡◌, ◌<◌, ◌++◌, ℕ, List, length, map, Option, Some, Result, Ok, Err}
use Rattle.std.proofs.Common.{IsSome, refl, sym, ap, subst, ◌∙◌, arith}
use Rattle.std.specs.Option.{option_to_list}
use Rattle.std.proofs.lemmas.Iterator.Adapters.{position_from-zero}
use Rattle.std.proofs.lemmas.List.{length-map}
use Rattle.venue_rows.specs.Rows.{Configuration, DealerValues, dealer_numbered, dealer_values}
use Rattle.venue_rows.specs.Rows.{values_of}
use Rattle.venue_rows.specs.Texts.{same_text}
use Rattle.step_replay.specs.LiveDays.{Sent}
use Rattle.step_replay.specs.LiveStanding.{IsAt}
use Rattle.step_replay.specs.declared.steps.Step.{Step}
use Rattle.venue_text.specs.AskedDays.{dealer_by}
use Rattle.venue_text.specs.KeptDays.{Keeps, KeepsMore, OpensKept, Wanted, asked_in, dues}
use Rattle.venue_text.specs.KeptDays.{kept_text, text_if, text_of_asked}
use Rattle.venue_text.specs.LiveAnswers.{Goes, Opens, Sends}
use Rattle.venue_text.specs.LiveLines.{Taken}
use Rattle.input_lines.specs.ResultSteps.{◌>>=◌}
use Rattle.input_lines.specs.StepLines.{dealer_named}
use Rattle.input_lines.specs.declared.faults.ProgramFault.{ProgramFault}
use Rattle.venue_text.specs.declared.kept_days.Asked.{Asked}
use Rattle.venue_text.specs.declared.kept_days.Asked.TheVariants as by_number
use Rattle.venue_text.specs.declared.kept_days.KeptDay.{KeptDay}
use Rattle.venue_text.specs.declared.live_form.LiveForm.{LiveForm}
use Rattle.venue_text.specs.declared.live_lines.LiveDay.{LiveDay}
use Rattle.input_lines.specs.FirmLemmas.{found_within}
use Rattle.venue_text.proofs.LiveLemmas.{faults_told}
use Rattle.venue_text.proofs.FirmLineLemmas.{asked_firm_is}
use Rattle.step_replay.specs.PlaceLemmas.{has_item}

-- a day goes on in its own form, whichever that is

own_form : (form : LiveForm) (config : Configuration) (taken : Taken) (day : LiveDay)
    → Goes form config taken day → Goes day.form config taken day
own_form form config taken day goes = record {
  form_is = refl;
  config_is = goes.config_is;
  stands = goes.stands;
  heard_is = goes.heard_is;
}

-- before the first line
pub opened : (wanted : Wanted) (form : LiveForm) (text : List ℕ) (kept : KeptDay)
    → Opens form text kept.day → Ok kept.asked ≡ asked_in wanted (values_of kept.day.config)
    → OpensKept wanted text kept
opened wanted form text kept opens names = record {
  config = opens.config;
  spelled = opens.spelled;
  keeps = record {
    goes = own_form form opens.config _ kept.day opens.goes;
    asked_is = ap (λ (config : Configuration). asked_in wanted (values_of config))
        (sym opens.goes.config_is) ∙ sym names;
  };
}

-- a line more
pub kept_more : (wanted : Wanted) (config : Configuration) (taken : Taken) (k : ℕ) (line : List ℕ)
    (before after : KeptDay) (messages : List Sent) (told fault : Option ProgramFault)
    → Keeps wanted config taken before
    → Sends before.day.form config taken k line after.day messages told
    → after.asked ≡ before.asked → fault ≡ told
    → KeepsMore wanted config taken k line after fault
kept_more wanted config taken k line before after messages told fault keeps tells stays same = record {
  keeps = record {
    goes = own_form before.day.form config _ after.day tells.goes;
    asked_is = keeps.asked_is ∙ ap Ok (sym stays);
  };
  told = faults_told config taken k line
      ∙ ap (λ (f : Option ProgramFault). taken.faults ++ option_to_list f)
      (sym (same ∙ tells.fault_is));
}

-- what is printed of it
pub text_kept : (wanted : Wanted) (config : Configuration) (taken : Taken) (kept : KeptDay)
    (has : Asked) (text : List ℕ) → kept.asked ≡ has
    → ((steps : List Step) → IsAt kept.day.config steps kept.day.venue
    → text ≡ text_of_asked kept.day.config steps has)
    → Keeps wanted config taken kept → text ≡ kept_text wanted config taken.steps
text_kept wanted config taken kept has text is printed keeps =
    let at = subst (λ (v : Configuration). IsAt v taken.steps kept.day.venue)
    (sym keeps.goes.config_is) keeps.goes.stands in
    printed taken.steps at
    ∙ ap (λ (v : Configuration). text_of_asked v taken.steps has) keeps.goes.config_is
    ∙ ap (text_of_asked config taken.steps) (sym is)
    ∙ ap (text_if config taken.steps) (sym keeps.asked_is)

-- The dealer of whom due text is wanted.

-- it is one of the venue
pub dealer_is_known : (config : Configuration) (name : List ℕ) (dealer : ℕ)
    → dealer_by name (values_of config) ≡ Ok dealer → IsSome (dealer_numbered config dealer)
dealer_is_known config name dealer is =
    let test = λ (row : DealerValues). same_text row.name name in
    let rows = map dealer_values config.dealers in
    let found = asked_firm_is (dealer_named (values_of config) name) dealer is in
    let below = found_within test 0 dealer rows (sym (position_from-zero test rows) ∙ found) in
    let many = length-map config.dealers dealer_values in
    let within : dealer < length config.dealers = omega (arith, below, many) in
    has_item config.dealers dealer within

-- and it is the one that the day has
dealer_of : (found : Result ℕ ProgramFault) (has : Asked)
    → ((found >>= (λ (dealer : ℕ). Ok (Some dealer))) >>= (λ (only : Option ℕ). Ok (by_number.Due only))) ≡ Ok has
    → (dealer : ℕ) × (found ≡ Ok dealer) × (has ≡ by_number.Due (Some dealer))
dealer_of (Ok dealer) has is = (dealer, refl, cc)
dealer_of (Err fault) has is = cc

pub dealer_is_asked : (name : List ℕ) (config : Configuration) (taken : Taken) (kept : KeptDay)
    → Keeps (dues (Some name)) config taken kept
    → (dealer : ℕ) × (dealer_by name (values_of config) ≡ Ok dealer)
    × (kept.asked ≡ by_number.Due (Some dealer))
dealer_is_asked name config taken kept keeps =
    dealer_of (dealer_by name (values_of config)) kept.asked keeps.asked_is
