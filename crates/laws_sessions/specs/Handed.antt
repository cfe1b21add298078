-- What a gateway hands the session of what it keeps; gaps, and denials.
use Rattle.std.specs.Prelude.{◌≡◌, ℕ, ◌+◌, ◌≤◌, ◌<◌, Bool, true, false, nat_le, List, [], ◌∷◌, codes, Option, Some, None, ◌⊎◌}
use Rattle.fix_fields.specs.Frame.{Field}
use Rattle.fix_sessions.specs.Sending.{is_answer, wants}
use Rattle.fix_sessions.specs.Texts.{has_text}
use Rattle.fix_sessions.specs.Written.{kept_fields}
use Rattle.fix_sessions.specs.declared.state.Session.{Session}
use Rattle.fix_sessions.specs.declared.turns.Said.{Said}
use Rattle.fix_sessions.specs.declared.turns.Stored.{Stored}
use Rattle.fix_sessions.specs.declared.turns.Turn.{Turn}
use Rattle.fix_sessions.specs.declared.turns.Want.{Want}
use Rattle.fix_sessions.specs.declared.turns.Want.TheVariants as want
use Rattle.fix_sessions.specs.declared.turns.Word.{Word}
use Rattle.fix_sessions.specs.declared.turns.Word.TheVariants as word
use Rattle.laws_sessions.specs.Left.{IsKept}
use Rattle.laws_sessions.specs.Memory.{Event, Handed, is_refusal}
use Rattle.session_recovery.specs.Recovered.{Kept, Sealed, Taken}

-- What is kept is handed back as it is kept: under the number that the session asks for, that message; or
-- nothing, where from that number on nothing is kept before the next that is named. An answer to a TestRequest
-- that waits is not among what is kept here.

-- from one number on, before another, nothing is kept
abbrev pub AreNone : ℕ → ℕ → List Kept → Type 0
AreNone from to [] = Unit {0}
AreNone from to (k ∷ ks) = ((k.number < from) ⊎ (to ≤ k.number)) × AreNone from to ks

-- this message; what is handed has its moment from midnight on
pub record IsAsKept (midnight number : ℕ) (stored : Stored) (k : Kept) : Type 0 where
  pub under : k.number ≡ number
  pub body : stored.body ≡ k.body
  pub is_copy : stored.is_copy ≡ k.is_copy
  pub moment : midnight + stored.first ≡ k.moment

abbrev pub IsFound : ℕ → ℕ → List Kept → ℕ → Option Stored → Type 0
IsFound midnight number kept next_kept None = (number < next_kept) × AreNone number next_kept kept
IsFound midnight number kept next_kept (Some stored) =
    ((k : Kept) × IsKept k kept × IsAsKept midnight number stored k)
    ⊎ ((is_answer stored ≡ true) × AreNone number (number + 1) kept)

abbrev pub IsWanted : ℕ → Want → List Kept → ℕ → Option Stored → Type 0
IsWanted midnight (want.Again number) kept next_kept stored = IsFound midnight number kept next_kept stored
IsWanted midnight (want.Fresh number) kept next_kept stored = IsFound midnight number kept next_kept stored
IsWanted midnight other kept next_kept stored = Unit {0}

abbrev pub IsHanded : ℕ → List Kept → Session → Event → Type 0
IsHanded midnight kept s (Handed moment next_kept stored) = IsWanted midnight (wants s) kept next_kept stored
IsHanded midnight kept s other = Unit {0}

-- a Heartbeat (35=0): the venue gives none, and one is never sent again
abbrev pub is_heartbeat : List Field → Bool
is_heartbeat body = has_text 35 (codes "0") body

-- A gap fill (35=4, 123=Y) that covers a number: it has a number from which it goes up to another (36).

abbrev pub Covers : ℕ → ℕ → Word → Type 0
Covers number from (word.Fill to) = (from ≤ number) × (number < to)
Covers number from other = ⊥

abbrev pub IsGap : ℕ → Option Said → Type 0
IsGap number None = ⊥
IsGap number (Some said) = Covers number said.number said.word

-- whether a turn makes this number a gap
abbrev pub MakesGap : ℕ → Turn → Type 0
MakesGap number t = IsGap number t.first ⊎ IsGap number t.second

-- A denial: a BusinessMessageReject (35=j). The number that it names (45) is the firm's.

abbrev pub denied_in : Word → Option ℕ
denied_in (word.Denied number of_kind denial) = Some number
denied_in other = None

abbrev pub denied : Option Said → Option ℕ
denied None = None
denied (Some said) = denied_in said.word

-- whether a turn denies the firm's message of this number
abbrev pub Denies : ℕ → Turn → Type 0
Denies number t = (denied t.first ≡ Some number) ⊎ (denied t.second ≡ Some number)

-- the entries that count are of lower numbers
abbrev pub AreBelow : ℕ → ℕ → List Taken → Type 0
AreBelow since number [] = Unit {0}
AreBelow since number (t ∷ ts) = (nat_le t.place since ≡ false → t.number < number) × AreBelow since number ts

-- what a Reject or a BusinessMessageReject says whose note this is; if it is a denial, the firm's message that it
-- denies has a lower number than this one
pub record IsDeniedBelow (number : ℕ) (s : Sealed) : Type 0 where
  pub says : Word
  pub body : s.body ≡ kept_fields says
  pub refusal : is_refusal says ≡ true
  pub below : (n : ℕ) → denied_in says ≡ Some n → n < number
