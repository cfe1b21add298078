-- What a turn does to a session's numbers, as its notes say: one shape for each set of notes.
use Rattle.std.proofs.Common.{◌≡◌, ℕ, ◌+◌, ◌≤◌, Bool, true, false, Option, Some, None, ◌⊎◌, inl, inr, ◌∙◌, subst, arith}
use Rattle.fix_sessions.specs.Logons.{refusal_day, refusal_number}
use Rattle.fix_sessions.specs.Outcomes.{keeping, used}
use Rattle.fix_sessions.specs.declared.state.Day.{Day}
use Rattle.fix_sessions.specs.declared.turns.Said.{Said}
use Rattle.fix_sessions.specs.declared.turns.Turn.{Turn}
use Rattle.laws_sessions.specs.Agrees.{marks}
use Rattle.laws_sessions.specs.Memory.{is_kept}
use Rattle.session_recovery.specs.Puts.{kind_of}
use Rattle.session_recovery.specs.declared.notes.NoteKind.{NoteKind}
use Rattle.session_recovery.specs.declared.notes.NoteKind.TheVariants as kind

-- the number of what is said, its kind, and whether it is kept

abbrev pub number_in : Option Said → Option ℕ
number_in None = None
number_in (Some said) = Some said.number

abbrev pub kind_in : ℕ → Option Said → Option NoteKind
kind_in last_logon None = None
kind_in last_logon (Some said) = kind_of last_logon said.word

abbrev pub is_kept_in : Option Said → Bool
is_kept_in None = false
is_kept_in (Some said) = is_kept said.way

-- of a day d but for what is counted: nothing is noted, and the day is this one
pub record Silent (t : Turn) (after : Day) : Type 0 where
  pub first : (l : ℕ) → kind_in l t.first ≡ None
  pub second : (l : ℕ) → kind_in l t.second ≡ None
  pub day : marks t.session.day ≡ after

-- one message is noted
pub record Speaks (t : Turn) (n : ℕ) (of_kind : NoteKind) (after : Day) : Type 0 where
  pub number : number_in t.first ≡ Some n
  pub noted : (l : ℕ) → kind_in l t.first ≡ Some of_kind
  pub second : (l : ℕ) → kind_in l t.second ≡ None
  pub day : marks t.session.day ≡ after

-- a Reject, which is kept, and a Logout behind it
pub record SpeaksTwice (t : Turn) (d after : Day) : Type 0 where
  pub number : number_in t.first ≡ Some d.next
  pub noted : (l : ℕ) → kind_in l t.first ≡ Some kind.Reject
  pub kept : is_kept_in t.first ≡ true
  pub number_too : number_in t.second ≡ Some (d.next + 1)
  pub noted_too : (l : ℕ) → kind_in l t.second ≡ Some kind.Logout
  pub day : marks t.session.day ≡ after

abbrev pub locks : Day → Day
locks d = record d { is_locked = true }

-- of a session in which the firm is logged on, or not
pub data Shape (live : Bool) (d : Day) (t : Turn) : Type 0 where
  Silently : Silent t d → Shape live d t
  Own : Speaks t d.next kind.Own (used d) → Shape live d t
  Rejects : Speaks t d.next kind.Reject (keeping d) → is_kept_in t.first ≡ true → Shape live d t
  LogsOut : live ≡ true → Speaks t d.next kind.Logout (used d) → Shape live d t
  Both : live ≡ true → SpeaksTwice t d (used (keeping d)) → Shape live d t
  Refuses : Speaks t (refusal_number d) kind.Logout (refusal_day d) → Shape live d t
  Locks : Silent t (locks d) → Shape live d t
  LocksAndRefuses : Speaks t (refusal_number d) kind.Logout (refusal_day (locks d)) → Shape live d t

-- the venue is given nothing, or one message of the firm, which is counted
pub record GivesNothing (d : Day) (t : Turn) : Type 0 where
  pub nothing : t.takes ≡ None
  pub was : t.session.day.was_taken ≡ d.was_taken

pub record GivesOne (d : Day) (t : Turn) : Type 0 where
  pub number : ℕ
  pub given : t.takes ≡ Some number
  pub from : d.expected ≤ number
  pub counted : t.session.day.expected ≡ number + 1
  pub was : t.session.day.was_taken ≡ true

abbrev pub Gives : Day → Turn → Type 0
Gives d t = GivesNothing d t ⊎ GivesOne d t

-- what a turn does that accepts no Logon
pub record Goes (live : Bool) (d : Day) (t : Turn) : Type 0 where
  pub shape : Shape live (marks d) t
  pub drops : t.drops_rejects ≡ false
  pub expected : d.expected ≤ t.session.day.expected
  pub had : d.had ≤ t.session.day.had
  pub taken : Gives d t

pub goes : {live : Bool} (d : Day) (t : Turn) → Shape live (marks d) t → t.drops_rejects ≡ false
    → t.session.day.expected ≡ d.expected → t.session.day.had ≡ d.had → t.takes ≡ None
    → t.session.day.was_taken ≡ d.was_taken → Goes live d t
goes d t shape drops e h none was = record {
  shape = shape;
  drops = drops;
  expected = omega (arith, e);
  had = omega (arith, h);
  taken = inl (record { nothing = none; was = was });
}

pub silent : {live : Bool} (d : Day) (t : Turn) → ((l : ℕ) → kind_in l t.first ≡ None) → ((l : ℕ) → kind_in l t.second ≡ None)
    → marks t.session.day ≡ marks d → t.drops_rejects ≡ false → t.session.day.expected ≡ d.expected
    → t.session.day.had ≡ d.had → t.takes ≡ None → t.session.day.was_taken ≡ d.was_taken → Goes live d t
silent d t first second day drops e h none was =
    goes d t (Silently (record { first = first; second = second; day = day })) drops e h none was

-- a day whose marks are the same, at which not less is counted
pub record Onto (d e : Day) : Type 0 where
  pub same : marks e ≡ marks d
  pub expected : d.expected ≤ e.expected
  pub had : d.had ≤ e.had
  pub was : e.was_taken ≡ d.was_taken

taken_onto : (d e : Day) (t : Turn) → Onto d e → Gives e t → Gives d t
taken_onto d e t o (inl n) = inl (record { nothing = n.nothing; was = n.was ∙ o.was })
taken_onto d e t o (inr g) = inr (record {
  number = g.number;
  given = g.given;
  from = (let a = o.expected in let b = g.from in omega (arith, a, b));
  counted = g.counted;
  was = g.was;
})

pub onto : {live : Bool} (d e : Day) (t : Turn) → Onto d e → Goes live e t → Goes live d t
onto {live = live} d e t o g = record {
  shape = subst (λ x. Shape live x t) o.same g.shape;
  drops = g.drops;
  expected = (let a = o.expected in let b = g.expected in omega (arith, a, b));
  had = (let a = o.had in let b = g.had in omega (arith, a, b));
  taken = taken_onto d e t o g.taken;
}

pub still : (d e : Day) → marks e ≡ marks d → e.expected ≡ d.expected → e.had ≡ d.had → e.was_taken ≡ d.was_taken
    → Onto d e
still d e m p q w = record { same = m; expected = omega (arith, p); had = omega (arith, q); was = w }
