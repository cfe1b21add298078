-- Each message that the lines of a day spell has a byte.
use Rattle.std.proofs.Common.{◌≡◌, ℕ, zero, suc, Bool, true, false, List, [], ◌∷◌, ◌++◌, length, map}
use Rattle.std.proofs.Common.{replicate, Result, Ok, IfOk, codes, if◌then◌else◌, refl}
use Rattle.std.proofs.Common.{sym, subst}
use Rattle.std.specs.List.{list_all}
use Rattle.std.specs.Prelude.{slice_get}
use Rattle.std.proofs.lemmas.Bool.{and_from, and_parts}
use Rattle.fix_fields.specs.Envelope.{envelopes_of}
use Rattle.market_terms.specs.declared.rooms.RoomRef.{RoomRef}
use Rattle.venue_rows.specs.Rows.{ConfigValues}
use Rattle.venue_rows.specs.Texts.{same_text}
use Rattle.quote_messages.specs.Texts.{number_of}
use Rattle.venue_steps.specs.declared.actors.Actor.{Actor}
use Rattle.step_replay.specs.EachLemmas.{every_both}
use Rattle.step_replay.specs.Lists.{Every}
use Rattle.step_replay.specs.LiveDays.{actor_of, live_steps, with_turns}
use Rattle.step_replay.specs.declared.steps.TheConstants.{MOST_TURNS_BEHIND}
use Rattle.step_replay.specs.declared.steps.Step.{Step}
use Rattle.step_replay.specs.declared.steps.Step.TheVariants as step
use Rattle.input_lines.specs.DueText.{Lines, at_line}
use Rattle.input_lines.specs.Lines.{behind_part, first_part, time_of}
use Rattle.input_lines.specs.SayLine.{hexed_of, received_of, said_message, said_of, with_bar}
use Rattle.input_lines.specs.StepLines.{Heard, Read, clock_steps, cut_for, expire_step, firm_named}
use Rattle.input_lines.specs.StepLines.{hex_step, in_step, in_steps, known_actor, known_firm}
use Rattle.input_lines.specs.StepLines.{known_room, names_of_firms, nothing_heard, number_for}
use Rattle.input_lines.specs.StepLines.{of_known, part_at, piece_steps, said_step, steps_behind}
use Rattle.input_lines.specs.StepLines.{steps_from, steps_of, steps_of_line, sweeps_at, turn_steps}
use Rattle.input_lines.specs.StepLines.{turns_of, unbroken, venue_rooms}
use Rattle.input_lines.specs.declared.faults.ProgramFault.{ProgramFault}
use Rattle.laws_dues.specs.SaidSteps.{has_bytes}
use Rattle.laws_dues.proofs.SpelledMessages.{Came, HasByte, any_ok, cut_has, has_some, hexed_has}
use Rattle.laws_dues.proofs.SpelledMessages.{line_ok, received_has, said_has, then_ok}

abbrev Said : Step → Type 0
Said step = has_bytes step ≡ true

abbrev AreSaid : List Step × Heard → Type 0
AreSaid read = Every Said read.0

-- what a line spells
abbrev Spells : Read → Type 0
Spells read = IfOk read AreSaid

in_said : (firm moment : ℕ) (message : List ℕ) → HasByte message → Said (step.In firm moment message)
in_said firm moment message has = has_some message has

ins_said : (firm moment : ℕ) (messages : List (List ℕ)) → Every HasByte messages
    → Every Said (in_steps firm moment messages)
ins_said firm moment [] each = tt
ins_said firm moment (message ∷ messages) each =
    (in_said firm moment message each.0, ins_said firm moment messages each.1)

turns_said : (n : ℕ) (by : Actor) → Every Said (replicate n (step.Turn by))
turns_said zero by = tt
turns_said (suc n) by = (refl, turns_said n by)

sweeps_said : (moment : ℕ) (rooms : List RoomRef) → Every Said (sweeps_at moment rooms)
sweeps_said moment [] = tt
sweeps_said moment (room ∷ rooms) = (refl, sweeps_said moment rooms)

module _ (config : ConfigValues) (heard : Heard) (k : ℕ) (text : List ℕ) where
  say_spells : Spells (said_step config heard k text)
  unfolding said_step
  say_spells =
      any_ok AreSaid (part_at k text) _ (λ part.
      any_ok AreSaid (at_line k (said_of config.date (behind_part text))) _ (λ said.
      then_ok HasByte AreSaid (at_line k (said_message config.date (map with_bar part)
      (number_for heard (firm_named config (first_part text))) said)) _
      (line_ok HasByte k _ (said_has config.date (map with_bar part)
      (number_for heard (firm_named config (first_part text))) said)) (λ message has.
      any_ok AreSaid (known_firm config k part) _ (λ firm.
      (in_said firm said.moment message has, tt)))))

  in_spells : Spells (in_step config heard k text)
  unfolding in_step
  in_spells =
      any_ok AreSaid (part_at k text) _ (λ part.
      then_ok Came AreSaid (at_line k (received_of config.date (behind_part text))) _
      (line_ok Came k _ (received_has config.date (behind_part text))) (λ received has.
      any_ok AreSaid (known_firm config k part) _ (λ firm.
      (in_said firm received.0 received.1 has, tt))))

  hex_spells : Spells (hex_step config heard k text)
  unfolding hex_step
  hex_spells =
      any_ok AreSaid (part_at k text) _ (λ part.
      then_ok Came AreSaid (at_line k (hexed_of config.date (behind_part text))) _
      (line_ok Came k _ (hexed_has config.date (behind_part text))) (λ received has.
      any_ok AreSaid (known_firm config k part) _ (λ firm.
      (in_said firm received.0 received.1 has, tt))))

  turn_spells : Spells (turn_steps config heard k text)
  unfolding turn_steps
  turn_spells =
      any_ok AreSaid (part_at k text) _ (λ part.
      any_ok AreSaid (at_line k (turns_of (behind_part text))) _ (λ turns.
      any_ok AreSaid (known_actor config k part) _ (λ actor. turns_said turns actor)))

  expire_spells : Spells (expire_step config heard k text)
  unfolding expire_step
  expire_spells =
      any_ok AreSaid (part_at k text) _ (λ part.
      any_ok AreSaid (at_line k (number_of (first_part (behind_part text)))) _ (λ n.
      any_ok AreSaid (at_line k (time_of config.date (behind_part (behind_part text)))) _
      (λ moment. any_ok AreSaid (known_firm config k part) _ (λ firm.
      any_ok AreSaid (known_room config k firm n) _ (λ room. (refl, tt))))))

  clock_spells : Spells (clock_steps config heard k text)
  unfolding clock_steps
  clock_spells =
      any_ok AreSaid (at_line k (time_of config.date text)) _
      (λ moment. sweeps_said moment (venue_rooms config))

  abbrev CutHas : List (List ℕ) × Heard → Type 0
  CutHas cut = Every HasByte cut.0

  pieces_have : (firm : ℕ) (piece : List ℕ) → IfOk (cut_for heard k firm piece) CutHas
  pieces_have firm piece =
      any_ok CutHas (of_known k (slice_get heard.streams firm)) _ (λ before.
      any_ok CutHas (unbroken k (envelopes_of (before ++ piece)).rest) _
      (λ rest. cut_has (before ++ piece)))

  piece_spells : Spells (piece_steps config heard k text)
  unfolding piece_steps
  piece_spells =
      any_ok AreSaid (part_at k text) _ (λ part.
      any_ok AreSaid (at_line k (received_of config.date (behind_part text))) _ (λ received.
      any_ok AreSaid (known_firm config k part) _ (λ firm.
      then_ok CutHas AreSaid (cut_for heard k firm received.1) _
      (pieces_have firm received.1) (λ cut has. ins_said firm received.0 cut.0 has))))

either_spells : (b : Bool) (one other : Read) → Spells one → Spells other
    → Spells (if b then one else other)
either_spells true one other first second = first
either_spells false one other first second = second

keyword_spells : (config : ConfigValues) (heard : Heard) (k : ℕ) (keyword text : List ℕ)
    → Spells (steps_behind config heard k keyword text)
keyword_spells config heard k keyword text =
    either_spells (same_text keyword (codes "say")) (said_step config heard k text) _
    (say_spells config heard k text)
    (either_spells (same_text keyword (codes "in")) (in_step config heard k text) _
    (in_spells config heard k text)
    (either_spells (same_text keyword (codes "hex")) (hex_step config heard k text) _
    (hex_spells config heard k text)
    (either_spells (same_text keyword (codes "turn")) (turn_steps config heard k text) _
    (turn_spells config heard k text)
    (either_spells (same_text keyword (codes "expire")) (expire_step config heard k text) _
    (expire_spells config heard k text)
    (either_spells (same_text keyword (codes "clock")) (clock_steps config heard k text) _
    (clock_spells config heard k text)
    (either_spells (same_text keyword (codes "piece")) (piece_steps config heard k text) _
    (piece_spells config heard k text) tt))))))

all_spell : (config : ConfigValues) (lines : Lines) (heard : Heard)
    → IfOk (steps_from config heard lines) (Every Said)
all_spell config [] heard = tt
all_spell config (line ∷ lines) heard =
    then_ok AreSaid (Every Said) (steps_of_line config heard line.0 line.1) _
    (keyword_spells config heard line.0 (first_part line.1) (behind_part line.1)) (λ read said.
    then_ok (Every Said) (Every Said) (steps_from config read.1 lines) _
    (all_spell config lines read.1) (λ steps later. every_both Said read.0 steps said later))

pub are_said : (config : ConfigValues) (lines : Lines) (steps : List Step)
    → steps_of config lines ≡ Ok steps → Every (λ s. has_bytes s ≡ true) steps
are_said config lines steps is =
    subst (λ (read : Result (List Step) ProgramFault). IfOk read (Every Said)) is
    (all_spell config lines (nothing_heard (length (names_of_firms config))))

-- The same as one test of all steps.

pub all_have_bytes : (steps : List Step) → Every (λ s. has_bytes s ≡ true) steps
    → list_all has_bytes steps ≡ true
all_have_bytes [] said = refl
all_have_bytes (step ∷ steps) said =
    and_from (has_bytes step) (list_all has_bytes steps) said.0 (all_have_bytes steps said.1)

pub each_has_bytes : (steps : List Step) → list_all has_bytes steps ≡ true
    → Every (λ s. has_bytes s ≡ true) steps
each_has_bytes [] said = tt
each_has_bytes (step ∷ steps) said =
    let parts = and_parts (has_bytes step) (list_all has_bytes steps) said in
    (parts.0, each_has_bytes steps parts.1)

-- Steps that come one by one, each with the turns behind it.

turns : ℕ → Actor → List Step
turns n by = replicate n (step.Turn by)

all_turns_said : (n : ℕ) (by : Actor) → Every Said (turns n by)
unfolding turns
all_turns_said n by = turns_said n by

turns_behind : (s : Step) → with_turns s ≡ s ∷ turns MOST_TURNS_BEHIND (actor_of s)
unfolding with_turns turns
turns_behind s = refl

pub live_said : (steps : List Step) → Every (λ s. has_bytes s ≡ true) steps
    → Every (λ s. has_bytes s ≡ true) (live_steps steps)
live_said [] said = tt
live_said (step ∷ steps) said =
    every_both Said (with_turns step) (live_steps steps)
    (subst (Every Said) (sym (turns_behind step))
    (said.0, all_turns_said MOST_TURNS_BEHIND (actor_of step)))
    (live_said steps said.1)
