-- A `say` line: what it spells, by what each step of its reading gave.
use Rattle.std.proofs.Common.{◌≡◌, ℕ, ◌+◌, ◌==◌, Bool, true, false, not, List, [], ◌∷◌, length, map, refl, ap, sym}
use Rattle.std.proofs.Common.{◌∙◌, Option, Some, None, Ok, Err, if◌then◌else◌}
use Rattle.venue_rows.specs.Rows.{ConfigValues}
use Rattle.step_replay.specs.declared.dues.Due.{Due}
use Rattle.step_replay.specs.declared.dues.Due.TheVariants as due
use Rattle.step_replay.specs.declared.steps.Step.TheVariants as step
use Rattle.input_lines.specs.Lines.{first_part, behind_part}
use Rattle.input_lines.specs.SayLine.{SayLine, has_tag, said_of, said_message, with_bar}
use Rattle.input_lines.specs.DueLines.{said_due}
use Rattle.input_lines.specs.StepLines.{said_step, firm_named, Heard, with_number, number_for}
use Rattle.input_lines.specs.StepReading.{counted, read_as}
use Rattle.input_lines.specs.SayReading.{made_from, made_of}
use Rattle.input_lines.specs.declared.say_made.Made.{Made}
use Rattle.input_lines.specs.declared.faults.ProgramFault.TheVariants.{Form, UnknownFirm}
use Rattle.input_lines.specs.declared.line_steps.Spelled.TheVariants as spelled
use Rattle.input_lines.proofs.MadeLemmas.{made_with, said_makes}

-- a `say` line is counted where its number was written
said_counted : (heard : Heard) (firm moment : ℕ) (message : List ℕ) (is_numbered : Bool)
    → (if is_numbered then heard else with_number heard firm (number_for heard (Some firm) + 1))
    ≡ counted (spelled.Said firm moment message (not is_numbered)) heard
said_counted heard firm moment message true = refl
said_counted heard firm moment message false = refl

-- What was made of a line: what it says, and the message of that.

record IsMade (made : Made) (said : SayLine) (message : Option (List ℕ)) : Type 0 where
  pub text : Some made.message ≡ message
  pub moment : made.moment ≡ said.moment
  pub numbered : made.is_numbered ≡ has_tag said.fields 34

of_message : (made : Made) (said : SayLine) (message : Option (List ℕ)) → Some made ≡ made_with said message → IsMade made said message
of_message made said None is = let never : Some made ≡ None = is in cc
of_message made said (Some text) is =
    let some : Some made ≡ Some (made_from said text) = is in
    let same : made ≡ made_from said text = cc in
    record {
      text = ap (λ (m : Made). Some m.message) same;
      moment = ap (λ (m : Made). m.moment) same;
      numbered = ap (λ (m : Made). m.is_numbered) same;
    }

no_message : (said : SayLine) (message : Option (List ℕ)) → None ≡ made_with said message → None ≡ message
no_message said None is = refl
no_message said (Some text) is = let never : None ≡ Some (made_from said text) = is in cc

record Spoke (date firm : List ℕ) (number : ℕ) (text : Option SayLine) (made : Made) : Type 0 where
  pub said : SayLine
  pub is : Some said ≡ text
  pub made_is : IsMade made said (said_message date firm number said)

by_spoken : (date firm : List ℕ) (number : ℕ) (text : Option SayLine) (made : Made) → Some made ≡ said_makes date firm number text
    → Spoke date firm number text made
by_spoken date firm number None made is = let never : Some made ≡ None = is in cc
by_spoken date firm number (Some one) made is = record {
  said = one;
  is = refl;
  made_is = of_message made one (said_message date firm number one) is;
}

spoken : (date firm text : List ℕ) (number : ℕ) (made : Made) → Some made ≡ made_of date firm number text
    → Spoke date firm number (said_of date text) made
unfolding made_of
spoken date firm text number made is = by_spoken date firm number (said_of date text) made is

module _ (config : ConfigValues) (heard : Heard) (k : ℕ) (text : List ℕ) (said : SayLine) where
  -- what a `say` line spells, from what each step of its reading gave
  pub say_ok : (message : List ℕ) (firm : ℕ) (is_numbered : Bool) → (length (first_part text) == 0) ≡ false
      → Some said ≡ said_of config.date (behind_part text)
      → Some message ≡ said_message config.date (map with_bar (first_part text)) (number_for heard (firm_named config (first_part text))) said
      → Some firm ≡ firm_named config (first_part text) → is_numbered ≡ has_tag said.fields 34
      → said_step config heard k text ≡ read_as config (spelled.Said firm said.moment message (not is_numbered)) heard
  unfolding said_step
  say_ok message firm is_numbered filled is_said is_message is_firm numbered =
      rw (filled, sym is_said, sym is_message, sym is_firm, sym numbered)
      (ap (λ after. Ok (step.In firm said.moment message ∷ [], after)) (said_counted heard firm said.moment message is_numbered))

  pub say_long : (length (first_part text) == 0) ≡ false → Some said ≡ said_of config.date (behind_part text)
      → None ≡ said_message config.date (map with_bar (first_part text)) (number_for heard (firm_named config (first_part text))) said
      → said_step config heard k text ≡ Err (Form k)
  unfolding said_step
  say_long filled is_said is_message = rw (filled, sym is_said, sym is_message) refl

  pub say_unknown : (message : List ℕ) → (length (first_part text) == 0) ≡ false → Some said ≡ said_of config.date (behind_part text)
      → Some message ≡ said_message config.date (map with_bar (first_part text)) (number_for heard (firm_named config (first_part text))) said
      → None ≡ firm_named config (first_part text) → said_step config heard k text ≡ Err (UnknownFirm k)
  unfolding said_step
  say_unknown message filled is_said is_message is_firm = rw (filled, sym is_said, sym is_message, sym is_firm) refl

module _ (config : ConfigValues) (heard : Heard) (k : ℕ) (text : List ℕ) (filled : (length (first_part text) == 0) ≡ false) where
  -- the same, from what was made of the line at once
  abbrev the_made : Option Made
  the_made = made_of config.date (map with_bar (first_part text)) (number_for heard (firm_named config (first_part text))) (behind_part text)

  parts_of_made : (made : Made) → Some made ≡ the_made
      → Spoke config.date (map with_bar (first_part text)) (number_for heard (firm_named config (first_part text))) (said_of config.date (behind_part text)) made
  parts_of_made made is =
      spoken config.date (map with_bar (first_part text)) (behind_part text) (number_for heard (firm_named config (first_part text))) made is

  pub made_ok : (made : Made) (firm : ℕ) → Some made ≡ the_made → Some firm ≡ firm_named config (first_part text)
      → said_step config heard k text ≡ read_as config (spelled.Said firm made.moment made.message (not made.is_numbered)) heard
  made_ok made firm is is_firm =
      let parts = parts_of_made made is in
      say_ok config heard k text parts.said made.message firm made.is_numbered filled parts.is parts.made_is.text is_firm parts.made_is.numbered
      ∙ ap (λ (m : ℕ). read_as config (spelled.Said firm m made.message (not made.is_numbered)) heard) (sym parts.made_is.moment)

  pub made_unknown : (made : Made) → Some made ≡ the_made → None ≡ firm_named config (first_part text)
      → said_step config heard k text ≡ Err (UnknownFirm k)
  made_unknown made is unknown =
      let parts = parts_of_made made is in
      say_unknown config heard k text parts.said made.message filled parts.is parts.made_is.text unknown

  say_nothing : None ≡ said_of config.date (behind_part text) → said_step config heard k text ≡ Err (Form k)
  unfolding said_step
  say_nothing none = rw (filled, sym none) refl

  by_nothing : (found : Option SayLine) → said_of config.date (behind_part text) ≡ found
      → None ≡ said_makes config.date (map with_bar (first_part text)) (number_for heard (firm_named config (first_part text))) found
      → said_step config heard k text ≡ Err (Form k)
  by_nothing None is none = say_nothing (sym is)
  by_nothing (Some one) is none =
      say_long config heard k text one filled (sym is)
      (no_message one (said_message config.date (map with_bar (first_part text)) (number_for heard (firm_named config (first_part text))) one) none)

  pub made_none : None ≡ the_made → said_step config heard k text ≡ Err (Form k)
  unfolding made_of
  made_none none = by_nothing (said_of config.date (behind_part text)) refl none

-- the same of a line of due text
abbrev due_from : Made → ℕ → Due × ℕ
due_from made number = (due.Own made.moment made.message, (if made.is_numbered then number else number + 1))

due_said : (date firm text : List ℕ) (number : ℕ) (said : SayLine) (made : Made) → Some said ≡ said_of date text
    → IsMade made said (said_message date firm number said) → Some (due_from made number) ≡ said_due date firm number text
due_said date firm text number said made is made_is =
    rw (made_is.moment, made_is.numbered, sym is, sym made_is.text) refl

pub due_made : (date firm text : List ℕ) (number : ℕ) (made : Made) → Some made ≡ made_of date firm number text
    → Some (due_from made number) ≡ said_due date firm number text
due_made date firm text number made is =
    let parts = spoken date firm text number made is in
    due_said date firm text number parts.said made parts.is parts.made_is

no_due : (date firm text : List ℕ) (number : ℕ) (found : Option SayLine) → said_of date text ≡ found
    → None ≡ said_makes date firm number found → None ≡ said_due date firm number text
no_due date firm text number None is none = rw is refl
no_due date firm text number (Some one) is none =
    let long = no_message one (said_message date firm number one) none in
    rw (is, sym long) refl

pub due_none : (date firm text : List ℕ) (number : ℕ) → None ≡ made_of date firm number text → None ≡ said_due date firm number text
unfolding made_of
due_none date firm text number none = no_due date firm text number (said_of date text) refl none
