-- What a call answers: 0, and the session has gone on; or why it has not, and it is as it was.
use Rattle.std.specs.Prelude.{◌≡◌, ◌⊎◌, ℕ, Option, Some, None}
use Rattle.session_recovery.specs.Notes.{after_entry, after_message, after_note}
use Rattle.session_recovery.specs.Refusals.{IsRefused, IsRefusedEntry, IsRefusedMessage}
use Rattle.session_recovery.specs.declared.notes.Digest.{Digest}
use Rattle.session_recovery.specs.declared.notes.Note.{Note}
use Rattle.session_recovery.specs.declared.points.Recovered.{Recovered}
use Rattle.session_recovery.specs.declared.refusals.Refusal.{Refusal}
use Rattle.session_recovery.specs.declared.refusals.Refusal.TheVariants as refusal

abbrev pub code : Refusal → ℕ
code refusal.Epoch = 1
code refusal.Given = 2
code refusal.Hash = 3
code refusal.Number = 4
code refusal.Had = 5
code refusal.Expected = 6
code refusal.Act = 7
code refusal.NotBehind = 8
code refusal.TooFar = 9

-- it stays as it was, for this reason
abbrev pub Stays : Recovered → Recovered → ℕ → (Refusal → Type 0) → Type 0
Stays before after verdict Holds =
    (after ≡ before) × ((why : Refusal) × (verdict ≡ code why) × Holds why)

abbrev pub IsMessageVerdict : Recovered → Digest → Recovered → ℕ → Type 0
IsMessageVerdict before hash after verdict =
    ((verdict ≡ 0) × (after ≡ after_message before hash))
    ⊎ Stays before after verdict (IsRefusedMessage before)

-- of a line whose kind is none, 10
abbrev pub IsNoteVerdict : Recovered → Option Note → ℕ → Recovered → ℕ → Type 0
IsNoteVerdict before None copies after verdict = (verdict ≡ 10) × (after ≡ before)
IsNoteVerdict before (Some n) copies after verdict =
    ((verdict ≡ 0) × (after_note before n copies ≡ Some after))
    ⊎ Stays before after verdict (IsRefused before n)

abbrev pub IsEntryVerdict : Recovered → ℕ → ℕ → Recovered → ℕ → Type 0
IsEntryVerdict before place number after verdict =
    ((verdict ≡ 0) × (after_entry before place number ≡ Some after))
    ⊎ Stays before after verdict (IsRefusedEntry before place number)
