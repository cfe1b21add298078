-- What is printed of a dealer with what is noted follows from what was due to it.
use Rattle.std.proofs.Common.{◌≡◌, ℕ, Bool, List, [], ◌∷◌, ◌++◌, Option, Some, Result, Ok, refl}
use Rattle.std.proofs.Common.{ap, ap₂, ◌∙◌}
use Rattle.std.specs.List.{flat_map}
use Rattle.std.specs.Option.{option_map, option_to_list}
use Rattle.std.specs.Prelude.{slice_get}
use Rattle.std.proofs.lemmas.List.{append-nil}
use Rattle.venue_rows.specs.Rows.{Configuration, dealer_numbered, values_of}
use Rattle.venue_rows.specs.declared.dealer_rows.DealerRow.{DealerRow}
use Rattle.note_lines.specs.NoteLines.{dealer_note_line, message_number}
use Rattle.step_replay.specs.AuditTrail.{AuditTrail, due_to}
use Rattle.step_replay.specs.DealerView.{dealer_view}
use Rattle.step_replay.specs.FirmDays.{FirmDay, firm_days}
use Rattle.step_replay.specs.LiveDays.{live_trail}
use Rattle.step_replay.specs.NoteViews.{dealer_note_view}
use Rattle.step_replay.specs.declared.steps.Step.{Step}
use Rattle.input_lines.specs.ResultSteps.{◌>>=◌}
use Rattle.input_lines.specs.declared.faults.ProgramFault.{ProgramFault}
use Rattle.venue_text.specs.AskedDays.{firm_by}
use Rattle.venue_text.specs.KeptDays.{kept_text, noted, text_if}
use Rattle.venue_text.specs.LiveNotes.{note_line_by, noted_days_text}
use Rattle.venue_text.specs.LiveNotes.{noted_messages, noted_sent}
use Rattle.venue_text.specs.NotedText.{dealer_noted_text, noted_line}
use Rattle.venue_text.specs.declared.kept_days.Asked.TheVariants as by_number
use Rattle.venue_text.proofs.FirmLineLemmas.{name_at, own_line}

texts_alike : (one other : List ℕ → List ℕ) → ((message : List ℕ) → one message ≡ other message)
    → (messages : List (List ℕ)) → flat_map one messages ≡ flat_map other messages
texts_alike one other same [] = refl
texts_alike one other same (message ∷ messages) =
    ap₂ (λ (a b : List ℕ). a ++ b) (same message) (texts_alike one other same messages)

module _ (frames : Bool) (config : Configuration) (dealer : ℕ) (row : DealerRow)
    (is : dealer_numbered config dealer ≡ Some row) where
  -- the line behind a message, by what was due to the dealer
  abbrev line_by : AuditTrail → ℕ → List ℕ
  line_by trail number =
      dealer_note_line config.date row.name
      (dealer_note_view config.date row (due_to dealer trail)) number

  one_noted : (trail : AuditTrail) (message : List ℕ)
      → noted_sent frames config trail (dealer, message)
      ≡ noted_line frames row.name (line_by trail) message
  one_noted trail message =
      ap₂ (λ (a b : List ℕ). a ++ b)
      (own_line frames config dealer row.name (name_at config.dealers _ dealer row is)
      (dealer, message) refl)
      (ap (note_line_by config trail dealer (message_number message)) is)

  text_asked : (name : List ℕ) (steps : List Step) → firm_by name (values_of config) ≡ Ok dealer
      → kept_text (noted (Some name) frames) config steps
      ≡ noted_days_text frames config (live_trail config steps) (Some dealer)
  text_asked name steps named =
      ap (λ (r : Result ℕ ProgramFault). text_if config steps
      ((r >>= (λ (firm : ℕ). Ok (Some firm)))
      >>= (λ (only : Option ℕ). Ok (by_number.Noted only frames)))) named

  -- what is printed of it at the end of a day, where its messages are these
  pub noted_of_dealer : (name : List ℕ) (steps : List Step)
      → firm_by name (values_of config) ≡ Ok dealer
      → option_map (λ (day : FirmDay). day.sent)
      (slice_get (firm_days config (live_trail config steps).facts) dealer)
      ≡ Some (dealer_view config.date row (due_to dealer (live_trail config steps)))
      → kept_text (noted (Some name) frames) config steps
      ≡ dealer_noted_text frames config.date row.name
      (dealer_note_view config.date row (due_to dealer (live_trail config steps)))
      (dealer_view config.date row (due_to dealer (live_trail config steps)))
  noted_of_dealer name steps named sent =
      let trail = live_trail config steps in
      let messages = dealer_view config.date row (due_to dealer trail) in
      text_asked name steps named
      ∙ ap (λ (found : Option (List (List ℕ))).
      flat_map (noted_messages frames config trail dealer) (option_to_list found)) sent
      ∙ append-nil (noted_messages frames config trail dealer messages)
      ∙ texts_alike (λ message. noted_sent frames config trail (dealer, message))
      (noted_line frames row.name (line_by trail)) (one_noted trail) messages
