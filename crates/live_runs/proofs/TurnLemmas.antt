-- A line that ends the first of two days, or the configuration of the second.
use Rattle.std.proofs.Common.{◌≡◌, ◌≢◌, ◌⊎◌, ℕ, ◌+◌, ◌<◌, true, false, List, [], ◌∷◌, ◌++◌, length}
use Rattle.std.proofs.Common.{Option, Some, Ok, Err, refl, sym, ap, subst, ◌∙◌, arith, inl, inr}
use Rattle.std.proofs.Common.{append_assoc}
use Rattle.std.specs.Prelude.{Vec}
use Rattle.std.specs.declared.alloc.Global.{Global}
use Rattle.std.proofs.lemmas.Bool.{false≢true}
use Rattle.venue_rows.specs.Rows.{ConfigValues}
use Rattle.venue_config.specs.declared.faults.ConfigFault.{ConfigFault}
use Rattle.investor_texts.specs.SoughtDays.{Whom}
use Rattle.venue_text.specs.LiveInput.{are_divided, configuration_in}
use Rattle.input_lines.specs.VenueParts.{is_divider, venue_of}
use Rattle.input_lines.specs.declared.faults.ProgramFault.{ProgramFault}
use Rattle.input_lines.specs.declared.faults.ProgramFault.TheVariants.{Input, Config, Firm, Memory}
use Rattle.investor_texts.specs.declared.sought_days.SoughtDay.{SoughtDay}
use Rattle.input_lines.specs.declared.lines.TheConstants.{MOST_INPUT}
use Rattle.live_runs.specs.LineForms.{LineForm, answered, compared_for, kept_for}
use Rattle.live_runs.specs.LiveRuns.{EndsDay, HasAnswered, IsLiveFault, name_fault}
use Rattle.live_runs.specs.LiveRuns.{are_four, second_configuration}
use Rattle.live_runs.specs.LiveCalls.{TurnFails, Turns, is_turn, err_new, out_new, StageFails}
use Rattle.live_runs.specs.LiveCalls.{StageTakes}
use Rattle.live_runs.specs.LiveStages.{AreTwo, AwaitsSecond, BothGo}
use Rattle.live_runs.specs.Written.{Written}
use Rattle.live_runs.specs.declared.stages.Stage.{Stage}
use Rattle.live_runs.specs.declared.stages.Stage.TheVariants as stage
use Rattle.live_runs.proofs.LineLemmas.{configuration_grows, configuration_is, configuration_stays}
use Rattle.live_runs.proofs.LineLemmas.{now_divided, still_undivided, text_grows}
use Rattle.live_runs.proofs.PartLemmas.{parts_stay}
use Rattle.live_runs.proofs.TwoDayLemmas.{awaiting_taken, first_ends, four_are, second_opens}
use Rattle.live_runs.proofs.TwoDayLemmas.{second_text}
use Rattle.live_runs.proofs.RefusalLemmas.{config_fault, firm_alone, up_to_here}
use Rattle.live_runs.proofs.StageLemmas.{still}

turns : (form : LineForm) (number : ℕ) (line : List ℕ) (before after : Stage) (o e : Option (List ℕ)) → is_turn before line ≡ true
    → Turns form before after → StageTakes form number line before after (still o) (still e)
turns (answered form) number line (stage.First d) after o e here is lines start at had = absurd had
turns (answered form) number line (stage.Between d t) after o e here is lines start at had = absurd had
turns (kept_for sought) number line (stage.First d) after o e here is lines start at had = absurd had
turns (kept_for sought) number line (stage.Between d t) after o e here is lines start at had = absurd had
turns (compared_for whom) number line (stage.First d) (stage.Between d' t) o e here is lines start at had =
    subst (λ (x : SoughtDay). AwaitsSecond whom (lines ++ line ∷ []) x t.items (out_new start (still o)) (err_new start (still e))) (sym is.0)
    (first_ends whom lines line t.items d (out_new start (still o)) (err_new start (still e)) here is.1 had)
turns (compared_for whom) number line (stage.Between d t) (stage.Both d' other) o e here is lines start at had =
    subst (λ (x : SoughtDay). BothGo whom (lines ++ line ∷ []) x other (out_new start (still o)) (err_new start (still e))) (sym is.0)
    (second_opens whom lines line t.items d other (out_new start (still o)) (err_new start (still e)) here is.1 had)
turns (compared_for whom) number line (stage.First d) (stage.Configuration t) o e here is lines start at had = absurd is
turns (compared_for whom) number line (stage.First d) (stage.Day day) o e here is lines start at had = absurd is
turns (compared_for whom) number line (stage.First d) (stage.Kept day) o e here is lines start at had = absurd is
turns (compared_for whom) number line (stage.First d) (stage.First day) o e here is lines start at had = absurd is
turns (compared_for whom) number line (stage.First d) (stage.Both one other) o e here is lines start at had = absurd is
turns (compared_for whom) number line (stage.Between d t) (stage.Configuration u) o e here is lines start at had = absurd is
turns (compared_for whom) number line (stage.Between d t) (stage.Day day) o e here is lines start at had = absurd is
turns (compared_for whom) number line (stage.Between d t) (stage.Kept day) o e here is lines start at had = absurd is
turns (compared_for whom) number line (stage.Between d t) (stage.First day) o e here is lines start at had = absurd is
turns (compared_for whom) number line (stage.Between d t) (stage.Between day u) o e here is lines start at had = absurd is
turns form number line (stage.Configuration t) after o e here is lines start at had = absurd (false≢true here)
turns form number line (stage.Day d) after o e here is lines start at had = absurd (false≢true here)
turns form number line (stage.Kept d) after o e here is lines start at had = absurd (false≢true here)
turns form number line (stage.Both one other) after o e here is lines start at had = absurd (false≢true here)

pub stage_turns : (form : LineForm) (number : ℕ) (line : List ℕ) (before after : Stage) (o e : Option (List ℕ)) → is_turn before line ≡ true
    → Turns form before after → StageTakes form number line before after (still o) (still e)
stage_turns = turns

-- why it opens no second day
module _ (whom : Whom) (lines : List (List ℕ)) (line text : List ℕ) (day : SoughtDay) (out err : Written)
    (had : AwaitsSecond whom lines day text out err) where
  abbrev Second : ProgramFault → List (List ℕ) → Type 0
  Second fault more = EndsDay (compared_for whom) fault ((lines ++ line ∷ []) ++ more) out err

  all_two : (more : List (List ℕ))
      → AreTwo ((lines ++ line ∷ []) ++ more) had.first had.divider (had.behind ++ line ∷ more)
  all_two more = record {
    split = append_assoc lines (line ∷ []) more ∙ ap (λ (l : List (List ℕ)). l ++ line ∷ more) had.two.split
        ∙ append_assoc had.first (had.divider ∷ had.behind) (line ∷ more);
    divides = had.two.divides;
  }

  second_text_is : (more : List (List ℕ))
      → second_configuration ((lines ++ line ∷ []) ++ more) ≡ configuration_in (had.behind ++ line ∷ more)
  second_text_is more = second_text whom ((lines ++ line ∷ []) ++ more) had.first had.divider (had.behind ++ line ∷ more)
      (all_two more) day out err had.goes

  so_far : HasAnswered (compared_for whom) lines out err
  so_far = inr (inl (had.goes.goes.config, awaiting_taken whom lines day text out err had))

  second_whole : is_divider line ≡ true → (more : List (List ℕ)) → second_configuration ((lines ++ line ∷ []) ++ more) ≡ text
  second_whole here more =
      second_text_is more ∙ ap configuration_in (sym (append_assoc had.behind (line ∷ []) more))
      ∙ configuration_stays (had.behind ++ line ∷ []) more (now_divided had.behind line had.undivided here)
      ∙ configuration_is had.behind line had.undivided here ∙ sym had.text_is

  now_four : is_divider line ≡ true → (more : List (List ℕ)) → are_four ((lines ++ line ∷ []) ++ more) ≡ true
  now_four here more =
      four_are whom ((lines ++ line ∷ []) ++ more) had.first had.divider (had.behind ++ line ∷ more) (all_two more) day out err had.goes
      ∙ ap are_divided (sym (append_assoc had.behind (line ∷ []) more))
      ∙ (parts_stay is_divider (had.behind ++ line ∷ []) more (now_divided had.behind line had.undivided here)).any

  second_so : (f : ConfigFault) → is_divider line ≡ true → venue_of text ≡ Err (Config f) → (more : List (List ℕ))
      → IsLiveFault (compared_for whom) (Config f) ((lines ++ line ∷ []) ++ more)
  second_so f here is more = (text, inr (now_four here more, sym (second_whole here more)), is)

  second_named : (config : ConfigValues) → is_divider line ≡ true → venue_of text ≡ Ok config
      → name_fault (compared_for whom) config ≡ Some Firm → (more : List (List ℕ))
      → IsLiveFault (compared_for whom) Firm ((lines ++ line ∷ []) ++ more)
  second_named config here spelled is more =
      (text, inr (now_four here more, sym (second_whole here more)), (config, spelled, is))

  second_past : is_divider line ≡ false → MOST_INPUT < length (text ++ line ++ 10 ∷ []) → (more : List (List ℕ))
      → IsLiveFault (compared_for whom) Input ((lines ++ line ∷ []) ++ more)
  second_past other long more =
      let grown = configuration_grows (had.behind ++ line ∷ []) more (still_undivided had.behind line had.undivided other) in
      let same = ap length (ap (λ (t : List ℕ). t ++ line ++ 10 ∷ []) had.text_is ∙ sym (text_grows had.behind line)) in
      let whole = ap length (second_text_is more ∙ ap configuration_in (sym (append_assoc had.behind (line ∷ []) more))) in
      inr (inl (
        second_configuration ((lines ++ line ∷ []) ++ more),
        inr refl,
        omega (arith, grown, same, whole, long),
      ))

  second_memory : (more : List (List ℕ)) → Second Memory more
  second_memory more = record {
    is_fault = tt;
    lines = lines;
    rest = line ∷ more;
    split = append_assoc lines (line ∷ []) more;
    reached = tt;
    left = so_far;
  }

  second_lawless : (more : List (List ℕ)) (fault : ProgramFault) → is_divider line ≡ true → venue_of text ≡ Err fault
      → Second fault more
  second_lawless more fault here is =
      let of = config_fault text fault is in
      let so = second_so of.0 here (is ∙ ap (λ (f : ProgramFault). Err f) of.1) in
      subst (λ (f : ProgramFault). Second f more) (sym of.1) (record {
        is_fault = so more;
        lines = lines;
        rest = line ∷ more;
        split = append_assoc lines (line ∷ []) more;
        reached = up_to_here (IsLiveFault (compared_for whom) (Config of.0)) lines line so;
        left = so_far;
      })

  second_nameless : (more : List (List ℕ)) (fault : ProgramFault) (config : ConfigValues) → is_divider line ≡ true
      → venue_of text ≡ Ok config → name_fault (compared_for whom) config ≡ Some fault → Second fault more
  second_nameless more fault config here spelled is =
      let of = firm_alone (compared_for whom) config fault is in
      let so = second_named config here spelled (is ∙ ap (λ (f : ProgramFault). Some f) of) in
      subst (λ (f : ProgramFault). Second f more) (sym of) (record {
        is_fault = so more;
        lines = lines;
        rest = line ∷ more;
        split = append_assoc lines (line ∷ []) more;
        reached = up_to_here (IsLiveFault (compared_for whom) Firm) lines line so;
        left = so_far;
      })

  second_long : (more : List (List ℕ)) → is_divider line ≡ false → MOST_INPUT < length (text ++ line ++ 10 ∷ [])
      → Second Input more
  second_long more other long = record {
    is_fault = second_past other long more;
    lines = lines;
    rest = line ∷ more;
    split = append_assoc lines (line ∷ []) more;
    reached = up_to_here (IsLiveFault (compared_for whom) Input) lines line (second_past other long);
    left = so_far;
  }

turn_fails : (form : LineForm) (number : ℕ) (line : List ℕ) (before : Stage) (fault : ProgramFault) (o e : Option (List ℕ))
    → is_turn before line ≡ true → TurnFails form before fault → StageFails form number line before fault (still o) (still e)
turn_fails (answered form) number line (stage.First d) fault o e here is lines start at had more = absurd had
turn_fails (answered form) number line (stage.Between d t) fault o e here is lines start at had more = absurd had
turn_fails (kept_for sought) number line (stage.First d) fault o e here is lines start at had more = absurd had
turn_fails (kept_for sought) number line (stage.Between d t) fault o e here is lines start at had more = absurd had
turn_fails (compared_for whom) number line (stage.First d) fault o e here is lines start at had more = absurd is
turn_fails (compared_for whom) number line (stage.Between d t) fault o e here (inl is) lines start at had more =
    subst (λ (f : ProgramFault). EndsDay (compared_for whom) f ((lines ++ line ∷ []) ++ more) (out_new start (still o)) (err_new start (still e))) (sym is)
    (second_memory whom lines line t.items d (out_new start (still o)) (err_new start (still e)) had more)
turn_fails (compared_for whom) number line (stage.Between d t) fault o e here (inr (inl is)) lines start at had more =
    second_lawless whom lines line t.items d (out_new start (still o)) (err_new start (still e)) had more fault here is
turn_fails (compared_for whom) number line (stage.Between d t) fault o e here (inr (inr is)) lines start at had more =
    second_nameless whom lines line t.items d (out_new start (still o)) (err_new start (still e)) had more fault is.0 here is.1 is.2
turn_fails form number line (stage.Configuration t) fault o e here is lines start at had more = absurd (false≢true here)
turn_fails form number line (stage.Day d) fault o e here is lines start at had more = absurd (false≢true here)
turn_fails form number line (stage.Kept d) fault o e here is lines start at had more = absurd (false≢true here)
turn_fails form number line (stage.Both one other) fault o e here is lines start at had more = absurd (false≢true here)

pub stage_turn_fails : (form : LineForm) (number : ℕ) (line : List ℕ) (before : Stage) (fault : ProgramFault) (o e : Option (List ℕ))
    → is_turn before line ≡ true → TurnFails form before fault → StageFails form number line before fault (still o) (still e)
stage_turn_fails = turn_fails

long_between : (form : LineForm) (number : ℕ) (line : List ℕ) (d : SoughtDay) (t : Vec ℕ Global) (fault : ProgramFault) (o e : Option (List ℕ))
    → is_divider line ≡ false → (fault ≡ Memory) ⊎ ((fault ≡ Input) × MOST_INPUT < length (t.items ++ line ++ 10 ∷ []))
    → StageFails form number line (stage.Between d t) fault (still o) (still e)
long_between (answered form) number line d t fault o e other is lines start at had more = absurd had
long_between (kept_for sought) number line d t fault o e other is lines start at had more = absurd had
long_between (compared_for whom) number line d t fault o e other (inl is) lines start at had more =
    subst (λ (f : ProgramFault). EndsDay (compared_for whom) f ((lines ++ line ∷ []) ++ more) (out_new start (still o)) (err_new start (still e))) (sym is)
    (second_memory whom lines line t.items d (out_new start (still o)) (err_new start (still e)) had more)
long_between (compared_for whom) number line d t fault o e other (inr is) lines start at had more =
    subst (λ (f : ProgramFault). EndsDay (compared_for whom) f ((lines ++ line ∷ []) ++ more) (out_new start (still o)) (err_new start (still e))) (sym is.0)
    (second_long whom lines line t.items d (out_new start (still o)) (err_new start (still e)) had more other is.1)

pub stage_long_between : (form : LineForm) (number : ℕ) (line : List ℕ) (before : Stage) (d : SoughtDay) (t : Vec ℕ Global) (fault : ProgramFault)
    (o e : Option (List ℕ)) → before ≡ stage.Between d t → is_turn before line ≡ false
    → (fault ≡ Memory) ⊎ ((fault ≡ Input) × MOST_INPUT < length (t.items ++ line ++ 10 ∷ []))
    → StageFails form number line before fault (still o) (still e)
stage_long_between form number line before d t fault o e was other is =
    let stays = subst (λ (s : Stage). is_turn s line ≡ false) was other in
    subst (λ (s : Stage). StageFails form number line s fault (still o) (still e)) (sym was)
    (long_between form number line d t fault o e stays is)
