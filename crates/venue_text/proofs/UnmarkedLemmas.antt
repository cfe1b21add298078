-- All lines of a day that goes on: those that are skipped, and a day without marks.
use Rattle.std.proofs.Common.{◌≡◌, ℕ, ◌+◌, Bool, List, [], ◌∷◌, ◌++◌, sym, ap, refl, ◌∙◌, Ok, Err}
use Rattle.std.proofs.Common.{true, false, fold, inl, inr}
use Rattle.std.proofs.lemmas.Bool.{cases_Bool}
use Rattle.std.proofs.lemmas.List.{append-nil, append_assoc}
use Rattle.venue_rows.specs.Rows.{ConfigValues, Configuration, values_of}
use Rattle.input_lines.specs.DueText.{Lines}
use Rattle.input_lines.specs.Lines.{is_skipped, spoken_from}
use Rattle.venue_text.specs.LiveInput.{as_part, lines_text, numbered_from, numbered_in, taken_in}
use Rattle.venue_text.specs.LiveInput.{taken_of, text_in}
use Rattle.venue_text.specs.LiveLines.{Taken, gained_messages, line_text, live_steps_of, live_text}
use Rattle.venue_text.specs.LiveLines.{nothing_taken, read_text, sent_text, with_any_line}
use Rattle.venue_text.specs.LiveLines.{with_line, with_read}
use Rattle.input_lines.specs.StepLines.{Read}
use Rattle.input_lines.specs.VenueParts.{part_behind}
use Rattle.venue_text.specs.declared.live_form.LiveForm.{LiveForm}
use Rattle.venue_text.proofs.LiveGrowth.{no_text}
use Rattle.venue_text.proofs.LiveLemmas.{text_grows, any_skipped, any_spoken, text_skipped}
use Rattle.venue_text.proofs.LiveLemmas.{text_spoken}

-- All lines.

-- lines that are skipped bring nothing
pub any_lines : (config : ConfigValues) (taken : Taken) (k : ℕ) (lines : List (List ℕ))
    → fold (with_any_line config) taken (numbered_from k lines)
    ≡ fold (with_line config) taken (spoken_from k lines)
any_lines config taken k [] = refl
any_lines config taken k (line ∷ lines) =
    go (is_skipped line) refl (λ then. any_lines config then (k + 1) lines)
  where
    go : (b : Bool) → is_skipped line ≡ b
        → ((then : Taken) → fold (with_any_line config) then (numbered_from (k + 1) lines)
        ≡ fold (with_line config) then (spoken_from (k + 1) lines))
        → fold (with_any_line config) taken (numbered_from k (line ∷ lines))
        ≡ fold (with_line config) taken (spoken_from k (line ∷ lines))
    go true skipped later =
        let one : with_any_line config taken (k, line) ≡ taken = rw skipped refl in
        let none : spoken_from k (line ∷ lines) ≡ spoken_from (k + 1) lines = rw skipped refl in
        ap (λ (t : Taken). fold (with_any_line config) t (numbered_from (k + 1) lines)) one
        ∙ later taken
        ∙ ap (λ (l : Lines). fold (with_line config) taken l) (sym none)
    go false spoken later =
        let then = with_line config taken (k, line) in
        let one : with_any_line config taken (k, line) ≡ then = rw spoken refl in
        let some : spoken_from k (line ∷ lines) ≡ (k, line) ∷ spoken_from (k + 1) lines =
        rw spoken refl in
        ap (λ (t : Taken). fold (with_any_line config) t (numbered_from (k + 1) lines)) one
        ∙ later then
        ∙ ap (λ (l : Lines). fold (with_line config) taken l) (sym some)

-- without marks and notes
abbrev unmarked : Bool → LiveForm
unmarked frames = record { frames = frames; marks = false; notes = false }

module _ (frames : Bool) (config : Configuration) where
  read_unmarked : (taken : Taken) (k : ℕ) (read : Read)
      → live_text frames config taken.steps ++ read_text (unmarked frames) config taken k read
      ≡ live_text frames config (with_read taken read).steps
  read_unmarked taken k (Ok read) =
      ap (λ (l : List ℕ). live_text frames config taken.steps ++ l)
      (append-nil (sent_text frames config (gained_messages config taken.steps read.0)))
      ∙ sym (text_grows frames config taken.steps read.0)
  read_unmarked taken k (Err fault) = append-nil (live_text frames config taken.steps)

  line_unmarked : (taken : Taken) (k : ℕ) (line : List ℕ)
      → live_text frames config taken.steps ++ line_text (unmarked frames) config taken k line
      ≡ live_text frames config (with_any_line (values_of config) taken (k, line)).steps
  line_unmarked taken k line =
      elim (cases_Bool (is_skipped line)) [
        | inl skipped ↦
            ap (λ (l : List ℕ). live_text frames config taken.steps ++ l)
            (text_skipped config taken k line (unmarked frames) skipped)
            ∙ append-nil (live_text frames config taken.steps)
            ∙ ap (λ (t : Taken). live_text frames config t.steps)
            (sym (any_skipped config taken k line skipped))
        | inr spoken ↦
            ap (λ (l : List ℕ). live_text frames config taken.steps ++ l)
            (text_spoken config taken k line (unmarked frames) spoken)
            ∙ read_unmarked taken k (live_steps_of (values_of config) taken.heard k line)
            ∙ ap (λ (t : Taken). live_text frames config t.steps)
            (sym (any_spoken config taken k line spoken))
      ]

  lines_unmarked : (taken : Taken) (lines : List (ℕ × List ℕ))
      → live_text frames config taken.steps ++ lines_text (unmarked frames) config taken lines
      ≡ live_text frames config (fold (with_any_line (values_of config)) taken lines).steps
  lines_unmarked taken [] = append-nil (live_text frames config taken.steps)
  lines_unmarked taken (line ∷ later) =
      sym (append_assoc (live_text frames config taken.steps)
      (line_text (unmarked frames) config taken line.0 line.1)
      (lines_text (unmarked frames) config (with_any_line (values_of config) taken line) later))
      ∙ ap (λ (l : List ℕ). l
      ++ lines_text (unmarked frames) config (with_any_line (values_of config) taken line) later)
      (line_unmarked taken line.0 line.1)
      ∙ lines_unmarked (with_any_line (values_of config) taken line) later

  pub day_unmarked : (lines : List (List ℕ)) → text_in (unmarked frames) config lines
      ≡ live_text frames config (taken_in config lines).steps
  unfolding taken_of
  day_unmarked lines =
      let part = part_behind (as_part lines) in
      let first = nothing_taken (values_of config) in
      ap (λ (l : List ℕ). l ++ text_in (unmarked frames) config lines)
      (sym (no_text frames config))
      ∙ lines_unmarked first (numbered_in part)
      ∙ ap (λ (t : Taken). live_text frames config t.steps)
      (any_lines (values_of config) first part.first part.lines)
