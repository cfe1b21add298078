-- Days on threads: their lines, and what a record has of each firm.
use Rattle.std.proofs.Common.{◌≡◌, ℕ, zero, suc, ◌+◌, Bool, true, false, if◌then◌else◌, List, []}
use Rattle.std.proofs.Common.{◌∷◌, ◌++◌, map, refl, ap, ◌∙◌, Result, Ok, Err, length}
use Rattle.std.specs.Prelude.{slice_get}
use Rattle.std.specs.Option.{option_map}
use Rattle.venue_rows.specs.Rows.{ConfigValues, Configuration, values_of}
use Rattle.std.proofs.lemmas.List.{length-append, length-map}
use Rattle.step_replay.specs.FirmDays.{FirmDay}
use Rattle.recorded_days.specs.Records.{FirmLists}
use Rattle.step_replay.specs.declared.steps.Step.{Step}
use Rattle.venue_text.specs.ArrivingDays.{arrival_of_line, arrivals_from, is_of_turns}
use Rattle.input_lines.specs.DueText.{Lines}
use Rattle.venue_text.specs.RecordText.{recorded_day}
use Rattle.input_lines.specs.ResultSteps.{◌>>=◌}
use Rattle.input_lines.specs.StepLines.{Heard, Read, names_of_firms, steps_of_line}
use Rattle.input_lines.specs.StepReading.{counted, read_as, steps_in}
use Rattle.input_lines.specs.declared.faults.ProgramFault.{ProgramFault}
use Rattle.input_lines.specs.declared.faults.ProgramFault.TheVariants.{Form}
use Rattle.input_lines.specs.declared.line_steps.Spelled.{Spelled}
use Rattle.input_lines.specs.StepLemmas.{behind_steps, behind_steps-more}

module _ (config : ConfigValues) (heard : Heard) (k : ℕ) (text : List ℕ) (rest : Lines) (done : List Step) where
  -- a line that gives no turns
  arrival_is : (read : Read) → is_of_turns text ≡ false → steps_of_line config heard k text ≡ read → arrival_of_line config heard k text ≡ read
  arrival_is read no_turns is = ap (λ (b : Bool). if b then Err (Form k) else steps_of_line config heard k text) no_turns ∙ is

  -- what comes behind what a line spells
  abbrev with_rest : Read → Result (List Step) ProgramFault
  with_rest read = behind_steps done (read >>= (λ r. arrivals_from config r.1 rest >>= (λ steps. Ok (r.0 ++ steps))))

  -- a line more
  pub arrivals_more : (mid : Heard) (spelled : Spelled) → is_of_turns text ≡ false → steps_of_line config heard k text ≡ read_as config spelled mid
      → behind_steps done (arrivals_from config heard ((k, text) ∷ rest))
      ≡ behind_steps (done ++ steps_in config spelled) (arrivals_from config (counted spelled mid) rest)
  arrivals_more mid spelled no_turns is =
      ap with_rest (arrival_is (read_as config spelled mid) no_turns is)
      ∙ behind_steps-more done (steps_in config spelled) (arrivals_from config (counted spelled mid) rest)

  -- a line of turns
  pub turns_end : is_of_turns text ≡ true → behind_steps done (arrivals_from config heard ((k, text) ∷ rest)) ≡ Err (Form k)
  turns_end turns = ap (λ (b : Bool). with_rest (if b then Err (Form k) else steps_of_line config heard k text)) turns

-- what a record has of a firm's messages
pub recorded_sent : (firms : List FirmLists) (n : ℕ)
    → option_map (λ (firm : FirmLists). firm.sent) (slice_get firms n) ≡ option_map (λ (day : FirmDay). day.sent) (slice_get (map recorded_day firms) n)
recorded_sent [] zero = refl
recorded_sent [] (suc n) = refl
recorded_sent (firm ∷ firms) zero = refl
recorded_sent (firm ∷ firms) (suc n) = recorded_sent firms n

-- how many firms a venue has
pub names_count : (config : Configuration) → length (names_of_firms (values_of config)) ≡ length config.dealers + length config.investors
names_count config = simp (length-append, length-map)
