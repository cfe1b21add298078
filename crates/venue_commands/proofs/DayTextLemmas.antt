-- What `day` prints where it is not asked to weave, and what it tells of a day that does not agree.
use Rattle.std.proofs.Common.{◌≡◌, ◌≢◌, ◌∙◌, ℕ, zero, suc, ◌+◌, Bool, true, false, List, [], ◌∷◌}
use Rattle.std.proofs.Common.{◌++◌, length, refl, sym, ap, subst, inl, inr, Result, Ok, Err, arith}
use Rattle.std.proofs.Common.{length-append}
use Rattle.std.proofs.lemmas.List.{append-nil}
use Rattle.venue_rows.specs.Rows.{ConfigValues, Configuration, values_of}
use Rattle.recorded_days.specs.Records.{RecordedDay}
use Rattle.recorded_days.specs.declared.actions.Inbound.{Inbound}
use Rattle.recorded_days.specs.declared.actions.Sweep.{Sweep}
use Rattle.step_replay.specs.declared.steps.Step.{Step}
use Rattle.day_weaving.specs.Weaving.{FaultIsTrue}
use Rattle.day_weaving.specs.declared.weaving.WeaveFault.{WeaveFault}
use Rattle.day_checks.specs.DayFaults.{IsFaultOf}
use Rattle.day_checks.specs.declared.faults.DayFault.{DayFault}
use Rattle.input_lines.specs.ResultSteps.{◌>>=◌}
use Rattle.input_lines.specs.StepLines.{names_of_firms}
use Rattle.input_lines.specs.VenueParts.{DayParts, day_parts_of, venue_of}
use Rattle.input_lines.specs.declared.faults.ProgramFault.{ProgramFault}
use Rattle.input_lines.specs.declared.faults.ProgramFault.TheVariants as program
use Rattle.venue_text.specs.ArrivingDays.{ArrivingDay, arrivals_of, arriving, arriving_day}
use Rattle.venue_text.specs.ArrivingDays.{arriving_in, inbox_of, inboxes_of}
use Rattle.venue_text.specs.AskedDays.{sized}
use Rattle.venue_text.specs.RecordText.{record_text}
use Rattle.venue_commands.specs.ThreadedDays.{IsDay, IsDayFault, IsLast, IsRecordOf, unkept, unwoven}
use Rattle.venue_text.proofs.ArrivalLemmas.{names_count}

nothing_last : (woven : Bool) (config : Configuration) (day : RecordedDay) → woven ≡ false → IsLast woven config day []
nothing_last true config day unasked = cc
nothing_last false config day unasked = refl

pub day_unwoven : (with_frames woven : Bool) (input text : List ℕ) (config : Configuration) (day : RecordedDay)
    → text ≡ record_text with_frames config day → woven ≡ false → IsRecordOf input config day → IsDay with_frames woven input text
day_unwoven with_frames woven input text config day printed unasked recorded = record {
  config = config;
  day = day;
  recorded = recorded;
  last = [];
  last_is = nothing_last woven config day unasked;
  printed = printed ∙ sym (append-nil (record_text with_frames config day));
}

-- what is told of a day that is not woven, which was asked for
pub day_not_woven : (woven : Bool) (input : List ℕ) (config : Configuration) (day : RecordedDay) (why : WeaveFault)
    (told : ProgramFault) → woven ≡ true → IsRecordOf input config day → told ≡ unwoven why → FaultIsTrue config day why
    → IsDayFault woven input told
day_not_woven woven input config day why told asked recorded is is_true = inr (inr (record {
  asked = asked;
  config = config;
  day = day;
  recorded = recorded;
  why = why;
  fault_is = is;
  is_true = is_true;
}))

-- An inbox for each firm.

-- two steps that give a value: the first gives one
both_give : {A B : Type 0} (r : Result A ProgramFault) (f : A → Result B ProgramFault) (y : B)
    → (r >>= f) ≡ Ok y → (x : A) × (f x ≡ Ok y)
both_give (Ok x) f y e = (x, e)
both_give (Err fault) f y e = absurd cc

value_is : {A : Type 0} (x y : A) → ◌≡◌ {A = Result A ProgramFault} (Ok x) (Ok y) → x ≡ y
value_is x y e = cc

inboxes_counted : (steps : List Step) (firms : ℕ) → length (inboxes_of steps firms) ≡ firms
inboxes_counted steps zero = refl
inboxes_counted steps (suc firms) =
    let longer : length (inboxes_of steps firms ++ inbox_of steps firms ∷ [])
    ≡ length (inboxes_of steps firms) + 1 =
    length-append (inboxes_of steps firms) (inbox_of steps firms ∷ []) in
    let before : length (inboxes_of steps firms) ≡ firms = inboxes_counted steps firms in
    omega (arith, longer, before)

-- so of the parts of a day
counted_in : (parts : DayParts) (day : ArrivingDay) → arriving_in parts ≡ Ok day
    → length day.inboxes ≡ length (names_of_firms day.config)
counted_in parts day e =
    let configured = both_give (venue_of parts.config) (λ (config : ConfigValues).
    arrivals_of config parts.steps >>= (λ (steps : List Step). Ok (arriving config steps))) day e in
    let stepped = both_give (arrivals_of configured.0 parts.steps)
    (λ (steps : List Step). Ok (arriving configured.0 steps)) day configured.1 in
    let is : arriving configured.0 stepped.0 ≡ day =
    value_is (arriving configured.0 stepped.0) day stepped.1 in
    subst (λ (own : ArrivingDay). length own.inboxes ≡ length (names_of_firms own.config)) is
    (inboxes_counted stepped.0 (length (names_of_firms configured.0)))

-- and of an input
counted : (input : List ℕ) (day : ArrivingDay) → arriving_day input ≡ Ok day
    → length day.inboxes ≡ length (names_of_firms day.config)
counted input day e =
    let read = both_give (sized input) (λ (read : List ℕ).
    day_parts_of read >>= (λ (parts : DayParts). arriving_in parts)) day e in
    let parted = both_give (day_parts_of read.0) (λ (parts : DayParts). arriving_in parts) day
    read.1 in
    counted_in parted.0 day parted.1

-- what is told of a day that does not agree
pub day_unkept : (woven : Bool) (input : List ℕ) (config : Configuration)
    (inboxes : List (List Inbound)) (sweeps : List Sweep) (what : DayFault) (told : ProgramFault)
    → arriving_day input
    ≡ Ok (record { config = values_of config; inboxes = inboxes; sweeps = sweeps })
    → told ≡ unkept what
    → (length inboxes ≡ length config.dealers + length config.investors
    → IsFaultOf config inboxes sweeps what)
    → told ≢ program.Memory → IsDayFault woven input told
day_unkept woven input config inboxes sweeps what told spelled is true_of no_memory =
    let arrived : ArrivingDay =
    record { config = values_of config; inboxes = inboxes; sweeps = sweeps } in
    let each : length inboxes ≡ length config.dealers + length config.investors =
    counted input arrived spelled ∙ names_count config in
    inr (inl (record {
      config = config;
      inboxes = inboxes;
      sweeps = sweeps;
      spelled = spelled;
      what = what;
      fault_is = is;
      no_memory = λ same. no_memory (is ∙ ap unkept same);
      is_true = true_of each;
    }))
