-- The entries of the firm count, step by step.
use Rattle.std.proofs.Common.{◌≡◌, ℕ, ◌≤◌, ◌||◌, false, List, [], ◌∷◌, ◌++◌, length, inl, inr, None, sym, ap, subst, arith, append-nil}
use Rattle.std.proofs.lemmas.Bool.{cases_Bool, false≢true}
use Rattle.fix_sessions.specs.Outcomes.{is_spent}
use Rattle.fix_sessions.specs.declared.state.Clock.{Clock}
use Rattle.fix_sessions.specs.declared.state.Day.{Day}
use Rattle.fix_sessions.specs.declared.turns.Turn.{Turn}
use Rattle.fix_sessions.specs.declared.texts.Names.{Names}
use Rattle.laws_sessions.proofs.Counts.{Counts, counts_still, none_last, none_rising, turn_counts}
use Rattle.laws_sessions.proofs.ReadSteps.{given_none, given_to, released_to, reset_to}
use Rattle.laws_sessions.proofs.ReadTurns.{said_some}
use Rattle.laws_sessions.proofs.ShapedDays.{event_goes}
use Rattle.laws_sessions.proofs.ShapedLogons.{Accepted}
use Rattle.laws_sessions.proofs.Shapes.{Gives}
use Rattle.laws_sessions.specs.Counts.{AreFrom, AreUpTo}
use Rattle.laws_sessions.specs.Left.{AreKeeping}
use Rattle.laws_sessions.specs.Memory.{Does, Event, Marked, Memory, Released, Reset, Step, Told, copied, memory_after, puts, standing, turn}
use Rattle.laws_sessions.specs.Starts.{IsPlaced, World, all_taken, is_told, taken_at, takes}
use Rattle.session_recovery.specs.Notes.{one_or_next}
use Rattle.session_recovery.specs.Puts.{note_locked, note_said, note_used_up, put_by, sealed_by, sealed_with}
use Rattle.session_recovery.specs.Recovered.{Message, Sealed, Taken}
use Rattle.session_recovery.specs.declared.notes.NoteKind.TheVariants as kind
use Rattle.session_recovery.specs.declared.puts.Standing.{Standing}

abbrev pub CountsIn : Memory → List Taken → Type 0
CountsIn m ts = Counts m.since m.session.day ts

pub told_counts : (names : Names) (m : Memory) (moment : ℕ) (x : Message) (ts : List Taken) → CountsIn m ts
    → CountsIn (memory_after names m (Told moment x)) ts
told_counts names m moment x ts c =
    elim (cases_Bool (is_spent m.session)) [
      | inl spent ↦
          (let t = given_none m.session moment x.body spent in
          let e = ap (λ (u : Turn). u.session.day.expected) t in
          counts_still m.since m.session.day _ ts (omega (arith, e)) (ap (λ (u : Turn). u.session.day.was_taken) t) c)
      | inr not ↦
          (let g = given_to m.session moment x.body not in
          let e = ap (λ (d : Day). d.expected) g.day in
          counts_still m.since m.session.day _ ts (omega (arith, e)) (ap (λ (d : Day). d.was_taken) g.day) c)
    ]

reset_counts : (names : Names) (m : Memory) (clock : Clock) (since act : ℕ) (ts : List Taken) → AreUpTo since ts
    → CountsIn (memory_after names m (Reset clock since act)) ts
reset_counts names m clock since act ts before =
    let to = (reset_to m.session clock (length (copied m))).day in
    let e = ap (λ (d : Day). d.expected) to in
    let last = none_last since 0 ts before in
    record {
      rising = none_rising since 0 ts before;
      below = omega (arith, e, last);
      was = λ h. last;
    }

released_counts : (names : Names) (m : Memory) (clock : Clock) (act : ℕ) (ts : List Taken) → CountsIn m ts
    → CountsIn (memory_after names m (Released clock act)) ts
released_counts names m clock act ts c =
    let to = (released_to m.session clock).day in
    let e = ap (λ (d : Day). d.expected) to in
    counts_still m.since m.session.day _ ts (omega (arith, e)) (ap (λ (d : Day). d.was_taken) to) c

-- a step, with the entry that it puts
pub step_counts : (names : Names) (w : World) (step : Step) (place : ℕ) → is_told step ≡ false → IsPlaced w step place
    → CountsIn w.memory (all_taken w)
    → CountsIn (memory_after names w.memory step) (all_taken w ++ taken_at place (takes names w.memory step))
step_counts names w (Does moment e) place other placed c =
    let m = w.memory in
    turn_counts m.since place m.session.day (turn names m.session e) (all_taken w) placed (event_goes names m.session e).what c
step_counts names w (Told moment x) place other placed c = absurd (false≢true (sym other))
step_counts names w (Reset clock since act) place other placed c =
    subst (λ ts. CountsIn (memory_after names w.memory (Reset clock since act)) ts) (sym (append-nil (all_taken w)))
    (reset_counts names w.memory clock since act (all_taken w) placed)
step_counts names w (Released clock act) place other placed c =
    subst (λ ts. CountsIn (memory_after names w.memory (Released clock act)) ts) (sym (append-nil (all_taken w)))
    (released_counts names w.memory clock act (all_taken w) c)
step_counts names w (Marked moment) place other placed c =
    subst (λ ts. CountsIn w.memory ts) (sym (append-nil (all_taken w))) c

-- What is behind: where no note is a reset or a Logon with 141=Y, the expected number does not fall, and an
-- entry has one that was expected.

pub keeps_parts : (a b : List Sealed) → AreKeeping (a ++ b) → AreKeeping a × AreKeeping b
keeps_parts [] b h = (tt, h)
keeps_parts (s ∷ a) b h = let r = keeps_parts a b h.1 in ((h.0, r.0), r.1)

logon_keeps : (st : Standing) (d : Day) (t : Turn) (a : Accepted d t) → AreKeeping (sealed_by (put_by st d t) t) → a.resets ≡ false
logon_keeps st d t a h =
    let after = t.session.day in
    let l = after.last_logon in
    let n = one_or_next d (d.is_one_free || a.resets) in
    let said = sealed_with (note_said st after t.first) t.first in
    let more = sealed_with (note_said st after t.second) t.second ++ sealed_with (note_used_up st d after) None in
    let later = (keeps_parts (sealed_with (note_locked st d after) None) (said ++ more) h).1 in
    let first = (keeps_parts said more later).0 in
    (subst AreKeeping (said_some st after t.first n (kind.Logon l a.resets) a.number (a.kind l)) first).0

taken_from : (d : Day) (t : Turn) (place : ℕ) → Gives d t → AreFrom d.expected (taken_at place t.takes)
taken_from d t place (inl n) = subst (λ o. AreFrom d.expected (taken_at place o)) (sym n.nothing) tt
taken_from d t place (inr g) = subst (λ o. AreFrom d.expected (taken_at place o)) (sym g.given) (g.from, tt)

abbrev pub IsUp : Names → Memory → Step → ℕ → Type 0
IsUp names m step place =
    (m.session.day.expected ≤ (memory_after names m step).session.day.expected)
    × AreFrom m.session.day.expected (taken_at place (takes names m step))

does_up : (names : Names) (m : Memory) (moment : ℕ) (e : Event) (place : ℕ) → AreKeeping (puts names m (Does moment e))
    → IsUp names m (Does moment e) place
does_up names m moment e place keeping =
    let d = m.session.day in
    let t = turn names m.session e in
    elim (event_goes names m.session e).what [
      | inl g ↦ (g.expected, taken_from d t place g.taken)
      | inr a ↦ (
        a.expected (logon_keeps (standing m moment) d t a keeping),
        subst (λ o. AreFrom d.expected (taken_at place o)) (sym a.nothing) tt,
      )
    ]

pub step_up : (names : Names) (m : Memory) (step : Step) (place : ℕ) → is_told step ≡ false → AreKeeping (puts names m step)
    → IsUp names m step place
step_up names m (Does moment e) place other keeping = does_up names m moment e place keeping
step_up names m (Told moment x) place other keeping = absurd (false≢true (sym other))
step_up names m (Reset clock since act) place other keeping = absurd (false≢true (sym keeping.0))
step_up names m (Released clock act) place other keeping =
    let e = ap (λ (d : Day). d.expected) (released_to m.session clock).day in (omega (arith, e), tt)
step_up names m (Marked moment) place other keeping = (omega arith, tt)

pub told_up : (names : Names) (m : Memory) (moment : ℕ) (x : Message)
    → m.session.day.expected ≤ (memory_after names m (Told moment x)).session.day.expected
told_up names m moment x =
    elim (cases_Bool (is_spent m.session)) [
      | inl spent ↦
          (let e = ap (λ (u : Turn). u.session.day.expected) (given_none m.session moment x.body spent) in omega (arith, e))
      | inr not ↦
          (let e = ap (λ (d : Day). d.expected) (given_to m.session moment x.body not).day in omega (arith, e))
    ]

pub from_append : (low : ℕ) (ts us : List Taken) → AreFrom low ts → AreFrom low us → AreFrom low (ts ++ us)
from_append low [] us a b = b
from_append low (t ∷ ts) us a b = (a.0, from_append low ts us a.1 b)

pub from_down : (low high : ℕ) (ts : List Taken) → low ≤ high → AreFrom high ts → AreFrom low ts
from_down low high [] less a = tt
from_down low high (t ∷ ts) less a = (let x = a.0 in omega (arith, x, less), from_down low high ts less a.1)
