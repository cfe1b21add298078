-- Why a configuration opens no day.
use Rattle.std.proofs.Common.{◌≡◌, ◌≢◌, ◌⊎◌, ℕ, ◌+◌, ◌<◌, Bool, true, false, List, [], ◌∷◌, ◌++◌}
use Rattle.std.proofs.Common.{length, Option, Some, None, Result, Ok, Err, refl, sym, ap, subst}
use Rattle.std.proofs.Common.{◌∙◌, arith, inl, inr, append_assoc}
use Rattle.std.specs.Prelude.{if◌then◌else◌, Vec}
use Rattle.std.specs.declared.alloc.Global.{Global}
use Rattle.std.specs.Str.{is_utf8}
use Rattle.std.proofs.lemmas.List.{append-nil}
use Rattle.venue_config.specs.Config.{config_of}
use Rattle.venue_rows.specs.Rows.{ConfigValues}
use Rattle.venue_config.specs.declared.faults.ConfigFault.{ConfigFault}
use Rattle.venue_config.specs.declared.faults.ConfigFault.TheVariants.{Toml}
use Rattle.investor_texts.specs.SoughtDays as sought_days
use Rattle.investor_texts.specs.SoughtDays.{AskedFor, Sought, Whom, asked_in, asked_venue, of_firms}
use Rattle.investor_texts.specs.SoughtDays.{of_investor, sought_of, firms}
use Rattle.investor_texts.specs.DueCommand.{where_investor}
use Rattle.venue_text.specs.KeptDays as kept_days
use Rattle.venue_text.specs.KeptDays.{Wanted, dues, messages, noted}
use Rattle.venue_text.specs.LiveInput.{are_divided, configuration_in}
use Rattle.input_lines.specs.ResultSteps.{◌>>=◌}
use Rattle.input_lines.specs.StepLines.{asked, dealer_named, firm_named}
use Rattle.input_lines.specs.VenueParts.{is_divider, or_config_fault, venue_of}
use Rattle.input_lines.specs.declared.faults.ProgramFault.{ProgramFault}
use Rattle.input_lines.specs.declared.faults.ProgramFault.TheVariants.{Input, Config, Day, Firm}
use Rattle.input_lines.specs.declared.faults.ProgramFault.TheVariants.{Form, Memory, Parts}
use Rattle.input_lines.specs.declared.faults.ProgramFault.TheVariants.{Read as NotRead, Stream}
use Rattle.input_lines.specs.declared.faults.ProgramFault.TheVariants.{UnknownFirm, UnknownRoom}
use Rattle.input_lines.specs.declared.faults.ProgramFault.TheVariants.{Weave, Write}
use Rattle.venue_text.specs.declared.kept_days.Asked.{Asked}
use Rattle.venue_text.specs.declared.kept_days.Asked.TheVariants as asked_for
use Rattle.investor_texts.specs.declared.sought_days.SoughtDay.{SoughtDay}
use Rattle.input_lines.specs.declared.lines.TheConstants.{MOST_INPUT}
use Rattle.live_runs.specs.LineForms.{LineForm, answered, compared_for, kept_for}
use Rattle.live_runs.specs.LiveRuns.{EndsDay, IsLiveFault, fault_if, name_fault}
use Rattle.live_runs.specs.LiveCalls.{IsBad, TurnFails, OfConfig, OfFirm, OfLength, OfMemory}
use Rattle.live_runs.specs.LiveCalls.{OpensNone}
use Rattle.live_runs.specs.LiveStages.{AwaitsDay}
use Rattle.live_runs.specs.Written.{Written}
use Rattle.live_runs.specs.declared.stages.Stage.{Stage}
use Rattle.live_runs.specs.declared.stages.Stage.TheVariants as stage
use Rattle.live_runs.proofs.LineLemmas.{configuration_grows, configuration_is, configuration_stays}
use Rattle.live_runs.proofs.LineLemmas.{now_divided, still_undivided, text_grows}
use Rattle.live_runs.proofs.PartLemmas.{parts_stay}
use Rattle.live_runs.proofs.TwoDayLemmas.{answers_nothing, first_text, first_whole, no_day}

-- a fault of what a configuration spells is one of its own
pub config_fault : (text : List ℕ) (fault : ProgramFault) → venue_of text ≡ Err fault → (f : ConfigFault) × (fault ≡ Config f)
unfolding venue_of
config_fault text fault is = by_text (is_utf8 text) (config_of text) is
  where
    by_text : (b : Bool) (read : Result ConfigValues ConfigFault) → (if b then or_config_fault read else Err (Config Toml)) ≡ Err fault → (f : ConfigFault) × (fault ≡ Config f)
    by_text true (Ok values) e = cc
    by_text true (Err f) e = (f, cc)
    by_text false read e = (Toml, cc)

-- a fault of a name is that no firm has it
only_firm : (found : Option ℕ) (next : ℕ → Asked) (fault : ProgramFault)
    → fault_if ((asked found >>= (λ n. Ok (next n))) >>= (λ only. Ok (firms only))) ≡ Some fault → fault ≡ Firm
only_firm None next fault e = cc
only_firm (Some n) next fault e = cc

only_dealer : (found : Option ℕ) (fault : ProgramFault)
    → fault_if (((asked found >>= (λ n. Ok (Some n))) >>= (λ only. Ok (asked_for.Due only))) >>= (λ only. Ok (firms only))) ≡ Some fault → fault ≡ Firm
only_dealer None fault e = cc
only_dealer (Some n) fault e = cc

only_investor : (found : Option ℕ) (fault : ProgramFault)
    → fault_if (asked found >>= (λ n. Ok (sought_days.investor n))) ≡ Some fault → fault ≡ Firm
only_investor None fault e = cc
only_investor (Some n) fault e = cc

firms_alone : (wanted : Wanted) (config : ConfigValues) (fault : ProgramFault)
    → fault_if (asked_in (of_firms wanted) config) ≡ Some fault → fault ≡ Firm
firms_alone (messages None frames) config fault e = cc
firms_alone (messages (Some name) frames) config fault e = go (firm_named config name) e
  where
    go : (found : Option ℕ)
        → fault_if (((asked found >>= (λ n. Ok (Some n))) >>= (λ only. Ok (asked_for.Messages only frames))) >>= (λ only. Ok (firms only))) ≡ Some fault
        → fault ≡ Firm
    go None e = cc
    go (Some n) e = cc
firms_alone (noted None frames) config fault e = cc
firms_alone (noted (Some name) frames) config fault e = go (firm_named config name) e
  where
    go : (found : Option ℕ)
        → fault_if (((asked found >>= (λ n. Ok (Some n))) >>= (λ only. Ok (asked_for.Noted only frames))) >>= (λ only. Ok (firms only))) ≡ Some fault
        → fault ≡ Firm
    go None e = cc
    go (Some n) e = cc
firms_alone (dues None) config fault e = cc
firms_alone (dues (Some name)) config fault e = only_dealer (dealer_named config name) fault e
firms_alone (kept_days.blotter name) config fault e = only_firm (firm_named config name) (λ n. asked_for.Blotter n) fault e

sought_alone : (sought : Sought) (config : ConfigValues) (fault : ProgramFault)
    → fault_if (asked_in sought config) ≡ Some fault → fault ≡ Firm
sought_alone (of_firms wanted) config fault e = firms_alone wanted config fault e
sought_alone (of_investor name) config fault e =
    only_investor (where_investor config (firm_named config name)) fault e

pub firm_alone : (form : LineForm) (config : ConfigValues) (fault : ProgramFault) → name_fault form config ≡ Some fault → fault ≡ Firm
firm_alone (answered form) config fault e = cc
firm_alone (kept_for sought) config fault e = sought_alone sought config fault e
firm_alone (compared_for whom) config fault e = sought_alone (sought_of whom) config fault e

-- why a configuration opens no day
pub opens_none : (sought : Sought) (text : List ℕ) (fault : ProgramFault) → asked_venue sought text ≡ Err fault → OpensNone (kept_for sought) text fault
opens_none sought text fault is = go (venue_of text) refl is
  where
    go : (read : Result ConfigValues ProgramFault) → venue_of text ≡ read → (read >>= asked_in sought) ≡ Err fault → OpensNone (kept_for sought) text fault
    go (Ok config) spelled e = inr (config, spelled, ap (λ (r : Result AskedFor ProgramFault). fault_if r) e)
    go (Err f) spelled e = let same : f ≡ fault = cc in inl (spelled ∙ ap (λ (x : ProgramFault). Err x) same)

-- memory was refused, or it was not, and something else is known of the fault
memory_or : (P : ProgramFault → Type 0) (f : ProgramFault) → (f ≢ Memory → P f) → (f ≡ Memory) ⊎ P f
memory_or P Memory other = inl refl
memory_or P NotRead other = inr (other (λ e. cc))
memory_or P Input other = inr (other (λ e. cc))
memory_or P Parts other = inr (other (λ e. cc))
memory_or P (Config f) other = inr (other (λ e. cc))
memory_or P Firm other = inr (other (λ e. cc))
memory_or P (Form k) other = inr (other (λ e. cc))
memory_or P (UnknownFirm k) other = inr (other (λ e. cc))
memory_or P (UnknownRoom k) other = inr (other (λ e. cc))
memory_or P (Stream k) other = inr (other (λ e. cc))
memory_or P (Day what) other = inr (other (λ e. cc))
memory_or P (Weave why) other = inr (other (λ e. cc))
memory_or P Write other = inr (other (λ e. cc))

-- a line that ends no configuration, by why it opens no day
pub bad_by : (form : LineForm) (line text : List ℕ) (fault : ProgramFault) → is_divider line ≡ true
    → (fault ≢ Memory → OpensNone form text fault) → IsBad form line text fault
bad_by form line text fault here why = by (memory_or (OpensNone form text) fault why)
  where
    by : (fault ≡ Memory) ⊎ OpensNone form text fault → IsBad form line text fault
    by (inl is) = OfMemory is
    by (inr (inl is)) = OfConfig here is
    by (inr (inr is)) = OfFirm here is.0 is.1 is.2

-- the configuration of the second of two days opens none
pub turn_refused : (form : LineForm) (whom : Whom) (before : Stage) (day : SoughtDay) (t : Vec ℕ Global) (text : List ℕ) (fault : ProgramFault)
    → form ≡ compared_for whom → before ≡ stage.Between day t → text ≡ t.items → (fault ≢ Memory → asked_venue (sought_of whom) text ≡ Err fault)
    → TurnFails form before fault
turn_refused form whom before day t text fault is was same found =
    subst (λ (f : LineForm). TurnFails f before fault) (sym is)
    (subst (λ (s : Stage). TurnFails (compared_for whom) s fault) (sym was)
    (memory_or (OpensNone (compared_for whom) t.items) fault
    (λ other. opens_none (sought_of whom) t.items fault
    (subst (λ (x : List ℕ). asked_venue (sought_of whom) x ≡ Err fault) same (found other)))))

-- What is so of the lines up to this one, whatever comes after them, is so of these alone.
pub up_to_here : (P : List (List ℕ) → Type 0) (lines : List (List ℕ)) (line : List ℕ)
    → ((more : List (List ℕ)) → P ((lines ++ line ∷ []) ++ more)) → P (lines ++ line ∷ [])
up_to_here P lines line always = subst P (append-nil (lines ++ line ∷ [])) (always [])

module _ (form : LineForm) (lines : List (List ℕ)) (line text : List ℕ) (out err : Written) (had : AwaitsDay lines text out err) where
  abbrev Fails : ProgramFault → List (List ℕ) → Type 0
  Fails fault more = EndsDay form fault ((lines ++ line ∷ []) ++ more) out err

  whole_configuration : is_divider line ≡ true → (more : List (List ℕ))
      → configuration_in ((lines ++ line ∷ []) ++ more) ≡ text
  whole_configuration here more =
      let undivided = had.nothing.undivided in
      configuration_stays (lines ++ line ∷ []) more (now_divided lines line undivided here)
      ∙ configuration_is lines line undivided here ∙ sym had.text_is

  -- it stands whole, whatever comes behind it
  stays_whole : is_divider line ≡ true → (more : List (List ℕ)) → are_divided ((lines ++ line ∷ []) ++ more) ≡ true
  stays_whole here more =
      (parts_stay is_divider (lines ++ line ∷ []) more (now_divided lines line had.nothing.undivided here)).any

  lawless : (f : ConfigFault) → is_divider line ≡ true → venue_of text ≡ Err (Config f) → (more : List (List ℕ))
      → IsLiveFault form (Config f) ((lines ++ line ∷ []) ++ more)
  lawless f here is more = (
    configuration_in ((lines ++ line ∷ []) ++ more),
    first_whole form ((lines ++ line ∷ []) ++ more) (stays_whole here more),
    ap venue_of (whole_configuration here more) ∙ is,
  )

  nameless : (config : ConfigValues) → is_divider line ≡ true → venue_of text ≡ Ok config
      → name_fault form config ≡ Some Firm → (more : List (List ℕ)) → IsLiveFault form Firm ((lines ++ line ∷ []) ++ more)
  nameless config here spelled is more = (
    configuration_in ((lines ++ line ∷ []) ++ more),
    first_whole form ((lines ++ line ∷ []) ++ more) (stays_whole here more),
    (config, ap venue_of (whole_configuration here more) ∙ spelled, is),
  )

  too_long : is_divider line ≡ false → MOST_INPUT < length (text ++ line ++ 10 ∷ []) → (more : List (List ℕ))
      → IsLiveFault form Input ((lines ++ line ∷ []) ++ more)
  too_long other long more =
      let grown = configuration_grows (lines ++ line ∷ []) more (still_undivided lines line had.nothing.undivided other) in
      let same = ap length (ap (λ (t : List ℕ). t ++ line ++ 10 ∷ []) had.text_is ∙ sym (text_grows lines line)) in
      inr (inl (
        configuration_in ((lines ++ line ∷ []) ++ more),
        first_text form ((lines ++ line ∷ []) ++ more),
        omega (arith, grown, same, long),
      ))

  config_lawless : (fault : ProgramFault) → is_divider line ≡ true → venue_of text ≡ Err fault → (more : List (List ℕ))
      → Fails fault more
  config_lawless fault here is more =
      let of = config_fault text fault is in
      let so = lawless of.0 here (is ∙ ap (λ (f : ProgramFault). Err f) of.1) in
      subst (λ (f : ProgramFault). Fails f more) (sym of.1) (record {
        is_fault = so more;
        lines = lines;
        rest = line ∷ more;
        split = append_assoc lines (line ∷ []) more;
        reached = up_to_here (IsLiveFault form (Config of.0)) lines line so;
        left = no_day form lines out err had.nothing;
      })

  config_nameless : (fault : ProgramFault) (config : ConfigValues) → is_divider line ≡ true → venue_of text ≡ Ok config
      → name_fault form config ≡ Some fault → (more : List (List ℕ)) → Fails fault more
  config_nameless fault config here spelled is more =
      let of = firm_alone form config fault is in
      let so = nameless config here spelled (is ∙ ap (λ (f : ProgramFault). Some f) of) in
      subst (λ (f : ProgramFault). Fails f more) (sym of) (record {
        is_fault = so more;
        lines = lines;
        rest = line ∷ more;
        split = append_assoc lines (line ∷ []) more;
        reached = up_to_here (IsLiveFault form Firm) lines line so;
        left = no_day form lines out err had.nothing;
      })

  config_long : is_divider line ≡ false → MOST_INPUT < length (text ++ line ++ 10 ∷ []) → (more : List (List ℕ)) → Fails Input more
  config_long other long more = record {
    is_fault = too_long other long more;
    lines = lines;
    rest = line ∷ more;
    split = append_assoc lines (line ∷ []) more;
    reached = up_to_here (IsLiveFault form Input) lines line (too_long other long);
    left = answers_nothing form lines out err had.nothing;
  }

  config_memory : (more : List (List ℕ)) → Fails Memory more
  config_memory more = record {
    is_fault = tt;
    lines = lines;
    rest = line ∷ more;
    split = append_assoc lines (line ∷ []) more;
    reached = tt;
    left = answers_nothing form lines out err had.nothing;
  }

  pub config_bad : (more : List (List ℕ)) (fault : ProgramFault) → IsBad form line text fault → Fails fault more
  config_bad more fault (OfMemory is) = subst (λ (f : ProgramFault). Fails f more) (sym is) (config_memory more)
  config_bad more fault (OfConfig here is) = config_lawless fault here is more
  config_bad more fault (OfFirm here config spelled is) = config_nameless fault config here spelled is more
  config_bad more fault (OfLength is other long) = subst (λ (f : ProgramFault). Fails f more) (sym is) (config_long other long more)
