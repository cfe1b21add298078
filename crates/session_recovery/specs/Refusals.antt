-- What is true where a start goes on no further: each reason says what does not fit.
use Rattle.std.specs.Prelude.{◌≡◌, ◌≤◌, ◌<◌, ◌⊎◌, ◌==◌, ℕ, false}
use Rattle.session_recovery.specs.Notes.{is_act_next, is_counted, is_same, number_due}
use Rattle.session_recovery.specs.declared.notes.Note.{Note}
use Rattle.session_recovery.specs.declared.points.Recovered.{Recovered}
use Rattle.session_recovery.specs.declared.refusals.Refusal.{Refusal}
use Rattle.session_recovery.specs.declared.refusals.Refusal.TheVariants as refusal
use Rattle.session_recovery.specs.declared.refusals.TheConstants.{MOST, MOST_NEXT}

-- a message of the venue: so many were given that no session has them
abbrev pub IsRefusedMessage : Recovered → Refusal → Type 0
IsRefusedMessage r refusal.TooFar = MOST < r.given
IsRefusedMessage r other = ⊥

-- a note
abbrev pub IsRefused : Recovered → Note → Refusal → Type 0
IsRefused r n refusal.Epoch = (n.epoch == r.epoch) ≡ false
IsRefused r n refusal.Given = (n.given == r.given) ≡ false
IsRefused r n refusal.Hash = is_same n.digest r.digest ≡ false
IsRefused r n refusal.Number = (n.number == number_due r.day n.kind) ≡ false
IsRefused r n refusal.Had = n.had < r.day.had
IsRefused r n refusal.Expected = is_counted r.day n n.kind ≡ false
IsRefused r n refusal.Act = is_act_next r n.kind ≡ false
IsRefused r n refusal.NotBehind = ⊥
IsRefused r n refusal.TooFar = (MOST < r.epoch) ⊎ (MOST_NEXT < r.day.next)

-- an entry of the firm
abbrev pub IsRefusedEntry : Recovered → ℕ → ℕ → Refusal → Type 0
IsRefusedEntry r place number refusal.NotBehind = (r.since < place) × (number ≤ r.taken)
IsRefusedEntry r place number refusal.TooFar = (r.since < place) × (MOST < number)
IsRefusedEntry r place number other = ⊥
