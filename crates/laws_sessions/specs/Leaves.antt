-- What may leave, and what a gateway does that commits nothing.
use Rattle.std.specs.Prelude.{◌≡◌, ℕ, zero, suc, ◌≤◌, Bool, true, false, List, [], ◌∷◌, ◌++◌, length, Option, Some, None}
use Rattle.fix_fields.specs.Frame.{Field}
use Rattle.fix_sessions.specs.declared.texts.Names.{Names}
use Rattle.laws_sessions.specs.Left.{AreKeeping, AreLater, IsKept}
use Rattle.laws_sessions.specs.Memory.{Does, Marked, Released, Reset, Step, Told, puts}
use Rattle.laws_sessions.specs.Starts.{Act, Begins, Ends, Enters, Moves, Stops, Tells, World, world_after}
use Rattle.session_recovery.specs.Recovered.{Kept, Message, Sealed}
use Rattle.session_recovery.specs.declared.notes.NoteKind.TheVariants as kind

-- a message of the venue, once its entry is committed, as far as this gateway knows; and once each note that
-- is not uses no number or was put behind it, and is no reset
pub record MayLeave (w : World) (x : Kept) : Type 0 where
  pub kept : IsKept x w.memory.kept
  pub is_of_venue : 1 ≤ x.ordinal
  pub told : x.ordinal ≤ w.memory.given
  pub entry : x.ordinal ≤ length w.disk.given
  pub notes : AreLater x.ordinal (w.flight.notes ++ w.fill.notes)

-- the body and the moment of the n-th message, the first of which is number 1
abbrev pub IsNth : ℕ → List Message → List Field → ℕ → Type 0
IsNth zero ms body moment = ⊥
IsNth (suc n) [] body moment = ⊥
IsNth (suc zero) (m ∷ ms) body moment = (body ≡ m.body) × (moment ≡ m.moment)
IsNth (suc (suc n)) (m ∷ ms) body moment = IsNth (suc n) ms body moment

-- acts among which no reset is carried out

abbrev pub resets_in : Step → Bool
resets_in (Reset clock since act) = true
resets_in (Does moment e) = false
resets_in (Told moment message) = false
resets_in (Released clock act) = false
resets_in (Marked moment) = false

abbrev pub resets : Act → Bool
resets (Moves step place given) = resets_in step
resets (Enters given) = false
resets (Tells moment) = false
resets Begins = false
resets Ends = false
resets (Stops is_there) = false

abbrev pub AreWithoutResets : List Act → Type 0
AreWithoutResets [] = Unit {0}
AreWithoutResets (act ∷ acts) = (resets act ≡ false) × AreWithoutResets acts

-- acts of a gateway that has lost its term, and goes on: it commits nothing, and is not killed

abbrev pub commits : Act → Bool
commits (Moves step place given) = false
commits (Enters given) = false
commits (Tells moment) = false
commits Begins = true
commits Ends = true
commits (Stops is_there) = true

abbrev pub AreUncommitted : List Act → Type 0
AreUncommitted [] = Unit {0}
AreUncommitted (act ∷ acts) = (commits act ≡ false) × AreUncommitted acts

-- a Reject or a BusinessMessageReject, once its note is committed, as far as this gateway knows; it is kept as
-- long as no note behind it is a reset or a Logon with 141=Y
pub record MayAnswer (w : World) (s : Sealed) : Type 0 where
  pub before : List Sealed
  pub after : List Sealed
  pub noted : w.disk.notes ≡ before ++ (s ∷ after)
  pub is_reject : s.note.kind ≡ kind.Reject
  pub keeping : AreKeeping (after ++ (w.flight.notes ++ w.fill.notes))

-- acts that put no such note

abbrev pub KeepsAnswers : Names → World → Act → Type 0
KeepsAnswers names w (Moves step place given) = AreKeeping (puts names w.memory step)
KeepsAnswers names w (Enters given) = Unit {0}
KeepsAnswers names w (Tells moment) = Unit {0}
KeepsAnswers names w Begins = Unit {0}
KeepsAnswers names w Ends = Unit {0}
KeepsAnswers names w (Stops is_there) = Unit {0}

abbrev pub AllKeepAnswers : Names → Option World → List Act → Type 0
AllKeepAnswers names None acts = Unit {0}
AllKeepAnswers names (Some w) [] = Unit {0}
AllKeepAnswers names (Some w) (act ∷ acts) = KeepsAnswers names w act × AllKeepAnswers names (world_after names w act) acts
