-- What a turn puts is read: then what is recovered is what the turn has left in memory.
use Rattle.std.proofs.Common.{◌≡◌, ℕ, ◌+◌, ◌≤◌, Bool, true, false, ◌==◌, ◌&&◌, not, nat_lt, List, [], ◌∷◌, ◌++◌, Option, Some, None, refl, sym, ap, subst, ◌∙◌, arith, append-nil, if◌then◌else◌}
use Rattle.std.proofs.lemmas.Bool.{false≢true}
use Rattle.std.proofs.lemmas.Bool.Decides.{nat_tests}
use Rattle.std.proofs.lemmas.Option.{none-some, same_Some}
use Rattle.fix_fields.specs.Frame.{Field}
use Rattle.fix_sessions.specs.Logons.{refusal_day}
use Rattle.fix_sessions.specs.Outcomes.{keeping, used}
use Rattle.fix_sessions.specs.Written.{kept_fields}
use Rattle.fix_sessions.specs.declared.state.Day.{Day}
use Rattle.fix_sessions.specs.declared.turns.Said.{Said}
use Rattle.fix_sessions.specs.declared.turns.Turn.{Turn}
use Rattle.fix_sessions.specs.declared.turns.Word.{Word}
use Rattle.fix_sessions.specs.declared.turns.Word.TheVariants as word
use Rattle.laws_sessions.proofs.Choices.{choice}
use Rattle.laws_sessions.proofs.ReadNotes.{IsAt, NearAt, Reads, all, le_is, near, noted_in, reads_more, reads_none}
use Rattle.laws_sessions.proofs.ShapedLogons.{Accepted}
use Rattle.laws_sessions.proofs.Shapes.{Silent, Speaks, SpeaksTwice, is_kept_in, kind_in, number_in}
use Rattle.laws_sessions.specs.Agrees.{as_recovered, bare, marks}
use Rattle.laws_sessions.specs.Memory.{Memory, is_kept, is_refusal, kept_after, kept_new, standing}
use Rattle.session_recovery.specs.Notes.{is_act_next, is_counted, logged_on, logged_out, noted_day, number_due}
use Rattle.session_recovery.specs.Puts.{kind_of, note_as, note_locked, note_of, note_said, note_used_up, sealed_with}
use Rattle.session_recovery.specs.Recovered.{Kept, Point, Sealed, kept_by, kept_reject, without_rejects}
use Rattle.session_recovery.specs.declared.days.TheConstants.{LAST_NUMBER}
use Rattle.session_recovery.specs.declared.notes.Note.{Note}
use Rattle.session_recovery.specs.declared.notes.NoteKind.{NoteKind}
use Rattle.session_recovery.specs.declared.notes.NoteKind.TheVariants as kind
use Rattle.session_recovery.specs.declared.points.Recovered.{Recovered}
use Rattle.session_recovery.specs.declared.puts.Standing.{Standing}

-- memory with another day
abbrev pub with_day : Memory → Day → Recovered
with_day m d = record (as_recovered m) { day = d }

-- The lists of notes.

abbrev pub body_in : Option Said → List Field
body_in None = []
body_in (Some said) = kept_fields said.word

abbrev pub sealed_of : Standing → Day → ℕ → NoteKind → List Field → Sealed
sealed_of st after n k body = record { note = note_of st after n k; body = body }

said_none : (st : Standing) (after : Day) (o : Option Said) → kind_in after.last_logon o ≡ None
    → sealed_with (note_said st after o) o ≡ []
said_none st after None h = refl
said_none st after (Some said) h = ap (λ k. sealed_with (note_as st after said.number k) (Some said)) h

pub said_some : (st : Standing) (after : Day) (o : Option Said) (n : ℕ) (k : NoteKind) → number_in o ≡ Some n
    → kind_in after.last_logon o ≡ Some k
    → sealed_with (note_said st after o) o ≡ (sealed_of st after n k (body_in o) ∷ [])
said_some st after None n k g h = absurd (none-some n g)
said_some st after (Some said) n k g h =
    ap (λ j. sealed_with (note_as st after said.number j) (Some said)) h
    ∙ ap (λ j. sealed_of st after j k (kept_fields said.word) ∷ []) (same_Some said.number n g)

and_not : (x : Bool) → (x && not x) ≡ false
and_not true = refl
and_not false = refl

pub lock_none : (st : Standing) (d after : Day) → after.is_locked ≡ d.is_locked
    → sealed_with (note_locked st d after) None ≡ []
lock_none st d after e =
    ap (λ b. sealed_with (if b && not d.is_locked then Some (note_of st after 0 kind.Locked) else None) None) e
    ∙ ap (λ b. sealed_with (if b then Some (note_of st after 0 kind.Locked) else None) None) (and_not d.is_locked)

pub lock_some : (st : Standing) (d after : Day) → after.is_locked ≡ true → d.is_locked ≡ false
    → sealed_with (note_locked st d after) None ≡ (sealed_of st after 0 kind.Locked [] ∷ [])
lock_some st d after e f =
    ap (λ b. sealed_with (if b && not d.is_locked then Some (note_of st after 0 kind.Locked) else None) None) e
    ∙ ap (λ b. sealed_with (if not b then Some (note_of st after 0 kind.Locked) else None) None) f

-- those of a turn behind that of a lock
abbrev pub behind : Standing → Day → Turn → List Sealed
behind st d t =
    sealed_with (note_said st t.session.day t.first) t.first
    ++ (sealed_with (note_said st t.session.day t.second) t.second
    ++ sealed_with (note_used_up st d t.session.day) None)

-- The mark of a session whose numbers are used up now.

abbrev is_marked : Day → Day → Bool
is_marked d after = nat_lt LAST_NUMBER after.expected && not (nat_lt LAST_NUMBER d.expected)

-- where there is none, numbers are used up as before
abbrev pub SameUse : Day → Day → Day → Type 0
SameUse d dc after =
    is_marked d after ≡ false → nat_lt LAST_NUMBER dc.expected ≡ nat_lt LAST_NUMBER after.expected

same_use : (x y : Bool) → (y && not x) ≡ false → (x ≡ true → y ≡ true) → x ≡ y
same_use true y h k = sym (k refl)
same_use false true h k = absurd (false≢true (sym h))
same_use false false h k = refl

above_too : (l a b : ℕ) → a ≤ b → nat_lt l a ≡ true → nat_lt l b ≡ true
above_too l a b less h = grind (arith, nat_tests)

pub use_stays : (d after : Day) → d.expected ≤ after.expected → SameUse d d after
use_stays d after less h =
    same_use (nat_lt LAST_NUMBER d.expected) (nat_lt LAST_NUMBER after.expected) h
    (above_too LAST_NUMBER d.expected after.expected less)

read_mark : (q : Point) (m : Memory) (d after : Day) (moment : ℕ) (rs : List Kept) → NearAt q (with_day m after) rs
    → (is_marked d after ≡ false
    → nat_lt LAST_NUMBER (all q).session.day.expected ≡ nat_lt LAST_NUMBER after.expected)
    → Reads q (sealed_with (note_used_up (standing m moment) d after) None) (with_day m after) rs
read_mark q m d after moment rs a spent =
    choice (λ o. Reads q (sealed_with o None) (with_day m after) rs) (is_marked d after) _ _
    (λ h. reads_more q (sealed_of (standing m moment) after 0 kind.Mark []) [] (with_day m after) (with_day m after) rs rs a
    (record {
      epoch = refl;
      given = refl;
      digest = refl;
      number = refl;
      had = omega arith;
      counted = le_is after.expected after.expected (omega arith);
      act = refl;
    })
    (λ p b. reads_none p (with_day m after) rs b))
    (λ h. reads_none q (with_day m after) rs
    (record { same = a.same; kept = a.kept; expected = a.expected; had = a.had; used_up = spent h }))

-- memory whose day has the same marks
near_day : (q : Point) (m : Memory) (dc after : Day) (rs : List Kept) → NearAt q (with_day m dc) rs
    → marks after ≡ marks dc → dc.expected ≤ after.expected → dc.had ≤ after.had → NearAt q (with_day m after) rs
near_day q m dc after rs a e up had =
    let x = a.expected in let y = a.had in
    record {
      same = a.same ∙ ap (λ d. record (as_recovered m) { taken = 0; day = d }) (sym e);
      kept = a.kept;
      expected = omega (arith, x, up);
      had = omega (arith, y, had);
    }

-- Nothing is said.

pub silent_read : (q : Point) (m : Memory) (d dc : Day) (t : Turn) (moment : ℕ) (rs : List Kept)
    → IsAt q (with_day m dc) rs → Silent t (marks dc) → dc.expected ≤ t.session.day.expected
    → dc.had ≤ t.session.day.had → SameUse d dc t.session.day
    → Reads q (behind (standing m moment) d t) (with_day m t.session.day) rs
silent_read q m d dc t moment rs a s up had spent =
    let after = t.session.day in
    let st = standing m moment in
    let l = after.last_logon in
    subst (λ ns. Reads q (ns ++ (sealed_with (note_said st after t.second) t.second
    ++ sealed_with (note_used_up st d after) None)) (with_day m after) rs)
    (sym (said_none st after t.first (s.first l)))
    (subst (λ ns. Reads q (ns ++ sealed_with (note_used_up st d after) None) (with_day m after) rs)
    (sym (said_none st after t.second (s.second l)))
    (read_mark q m d after moment rs
    (near_day q m dc after rs (near _ _ _ _ a) s.day up had)
    (λ h. a.used_up ∙ spent h)))

-- One message is said.

said_read : (q : Point) (m : Memory) (d dc : Day) (t : Turn) (moment : ℕ) (rs : List Kept) (n : ℕ) (k : NoteKind)
    → IsAt q (with_day m dc) rs
    → number_in t.first ≡ Some n → kind_in t.session.day.last_logon t.first ≡ Some k
    → kind_in t.session.day.last_logon t.second ≡ None
    → n ≡ number_due dc k → dc.had ≤ t.session.day.had
    → is_counted dc (note_of (standing m moment) t.session.day n k) k ≡ true
    → is_act_next (with_day m dc) k ≡ true
    → bare (noted_in (with_day m dc) rs (note_of (standing m moment) t.session.day n k)) ≡ bare (with_day m t.session.day)
    → (noted_in (with_day m dc) rs (note_of (standing m moment) t.session.day n k)).day.expected ≡ t.session.day.expected
    → (noted_in (with_day m dc) rs (note_of (standing m moment) t.session.day n k)).day.had ≡ t.session.day.had
    → Reads q (behind (standing m moment) d t) (with_day m t.session.day)
    (kept_by rs (sealed_of (standing m moment) t.session.day n k (body_in t.first)) k)
said_read q m d dc t moment rs n k a number is_kind second due had counted act same e h =
    let after = t.session.day in
    let st = standing m moment in
    let s = sealed_of st after n k (body_in t.first) in
    let ts = kept_by rs s k in
    subst (λ ns. Reads q (ns ++ (sealed_with (note_said st after t.second) t.second
    ++ sealed_with (note_used_up st d after) None)) (with_day m after) ts)
    (sym (said_some st after t.first n k number is_kind))
    (subst (λ ns. Reads q (s ∷ (ns ++ sealed_with (note_used_up st d after) None)) (with_day m after) ts)
    (sym (said_none st after t.second second))
    (reads_more q s (sealed_with (note_used_up st d after) None) (with_day m dc) (with_day m after) rs ts (near _ _ _ _ a)
    (record { epoch = refl; given = refl; digest = refl; number = due; had = had; counted = counted; act = act })
    (λ p b. read_mark p m d after moment ts
    (let x = b.expected in let y = b.had in
    record { same = b.same ∙ same; kept = b.kept; expected = omega (arith, x, e); had = omega (arith, y, h) })
    (λ g. b.used_up ∙ ap (λ x. nat_lt LAST_NUMBER x) e))))

-- the day of memory, by its marks
by_marks : (m : Memory) (x after : Day) → marks x ≡ marks after → bare (with_day m x) ≡ bare (with_day m after)
by_marks m x after e = ap (λ d. record (as_recovered m) { taken = 0; day = d }) e

pub own_read : (q : Point) (m : Memory) (d dc : Day) (t : Turn) (moment : ℕ) (rs : List Kept)
    → IsAt q (with_day m dc) rs → Speaks t dc.next kind.Own (used (marks dc)) → dc.expected ≤ t.session.day.expected
    → dc.had ≤ t.session.day.had → Reads q (behind (standing m moment) d t) (with_day m t.session.day) rs
own_read q m d dc t moment rs a s up had =
    let after = t.session.day in
    said_read q m d dc t moment rs dc.next kind.Own a s.number (s.noted after.last_logon) (s.second after.last_logon) refl had
    (le_is dc.expected after.expected up) refl (by_marks m (noted_day dc (note_of (standing m moment) after dc.next kind.Own) 0 kind.Own) after (sym s.day)) refl refl

pub reject_read : (q : Point) (m : Memory) (d dc : Day) (t : Turn) (moment : ℕ) (rs : List Kept)
    → IsAt q (with_day m dc) rs → Speaks t dc.next kind.Reject (keeping (marks dc)) → dc.expected ≤ t.session.day.expected
    → dc.had ≤ t.session.day.had
    → Reads q (behind (standing m moment) d t) (with_day m t.session.day)
    (rs ++ (kept_reject (sealed_of (standing m moment) t.session.day dc.next kind.Reject (body_in t.first)) ∷ []))
reject_read q m d dc t moment rs a s up had =
    let after = t.session.day in
    said_read q m d dc t moment rs dc.next kind.Reject a s.number (s.noted after.last_logon) (s.second after.last_logon) refl had
    (le_is dc.expected after.expected up) refl (by_marks m (noted_day dc (note_of (standing m moment) after dc.next kind.Reject) 0 kind.Reject) after (sym s.day)) refl refl

-- a Logout, by the marks that it leaves
pub logout_read : (q : Point) (m : Memory) (d dc : Day) (t : Turn) (moment : ℕ) (rs : List Kept) (n : ℕ) (x : Day)
    → IsAt q (with_day m dc) rs → Speaks t n kind.Logout x → n ≡ number_due dc kind.Logout
    → marks (logged_out dc (note_of (standing m moment) t.session.day n kind.Logout)) ≡ x
    → dc.expected ≤ t.session.day.expected → dc.had ≤ t.session.day.had
    → Reads q (behind (standing m moment) d t) (with_day m t.session.day) rs
logout_read q m d dc t moment rs n x a s due e up had =
    let after = t.session.day in
    said_read q m d dc t moment rs n kind.Logout a s.number (s.noted after.last_logon) (s.second after.last_logon) due had
    (le_is dc.expected after.expected up) refl (by_marks m (logged_out dc (note_of (standing m moment) after n kind.Logout)) after (e ∙ sym s.day)) refl refl

pub used_marks : (d : Day) (n : Note) → d.is_one_free ≡ false → marks (logged_out d n) ≡ used (marks d)
used_marks d n h =
    ap (λ b. record (marks d) { next = if b then d.next else d.next + 1; is_one_free = false }) h
    ∙ ap (λ b. record (marks d) { next = d.next + 1; is_one_free = b }) (sym h)

pub refusal_marks : (d : Day) (n : Note) → marks (logged_out d n) ≡ refusal_day (marks d)
refusal_marks d n =
    choice (λ x. marks (logged_out d n) ≡ x) d.is_one_free _ _
    (λ h. ap (λ b. record (marks d) { next = if b then d.next else d.next + 1; is_one_free = false }) h)
    (λ h. used_marks d n h)

-- A Reject, and a Logout behind it.

pub twice_read : (q : Point) (m : Memory) (d dc : Day) (t : Turn) (moment : ℕ) (rs : List Kept)
    → IsAt q (with_day m dc) rs → SpeaksTwice t (marks dc) (used (keeping (marks dc))) → dc.is_one_free ≡ false
    → dc.expected ≤ t.session.day.expected → dc.had ≤ t.session.day.had
    → Reads q (behind (standing m moment) d t) (with_day m t.session.day)
    (rs ++ (kept_reject (sealed_of (standing m moment) t.session.day dc.next kind.Reject (body_in t.first)) ∷ []))
twice_read q m d dc t moment rs a s one up had =
    let after = t.session.day in
    let st = standing m moment in
    let l = after.last_logon in
    let first = sealed_of st after dc.next kind.Reject (body_in t.first) in
    let second = sealed_of st after (dc.next + 1) kind.Logout (body_in t.second) in
    let ts = rs ++ (kept_reject first ∷ []) in
    let da = noted_day dc first.note 0 kind.Reject in
    subst (λ ns. Reads q (ns ++ (sealed_with (note_said st after t.second) t.second
    ++ sealed_with (note_used_up st d after) None)) (with_day m after) ts)
    (sym (said_some st after t.first dc.next kind.Reject s.number (s.noted l)))
    (subst (λ ns. Reads q (first ∷ (ns ++ sealed_with (note_used_up st d after) None)) (with_day m after) ts)
    (sym (said_some st after t.second (dc.next + 1) kind.Logout s.number_too (s.noted_too l)))
    (reads_more q first (second ∷ sealed_with (note_used_up st d after) None) (with_day m dc) (with_day m after) rs ts (near _ _ _ _ a)
    (record { epoch = refl; given = refl; digest = refl; number = refl; had = had; counted = le_is dc.expected after.expected up; act = refl })
    (λ p b. reads_more p second (sealed_with (note_used_up st d after) None) (with_day m da) (with_day m after) ts ts (near _ _ _ _ b)
    (record {
      epoch = refl;
      given = refl;
      digest = refl;
      number = ap (λ x. if x then 1 else dc.next + 1) (sym one);
      had = omega arith;
      counted = le_is after.expected after.expected (omega arith);
      act = refl;
    })
    (λ o c. read_mark o m d after moment ts
    (let x = c.expected in let y = c.had in
    record {
      same = c.same ∙ by_marks m (logged_out da second.note) after (used_marks da second.note one ∙ sym s.day);
      kept = c.kept;
      expected = x;
      had = y;
    })
    (λ g. c.used_up)))))

-- The answer to a Logon.

two_counted : (n : ℕ) → n ≡ 2 → (n == 2) ≡ true
two_counted n h = grind (arith, nat_tests)

logon_counted : (d after : Day) (n : Note) (last_logon : ℕ) (resets : Bool) → n.expected ≡ after.expected
    → (resets ≡ false → d.expected ≤ after.expected) → (resets ≡ true → after.expected ≡ 2)
    → is_counted d n (kind.Logon last_logon resets) ≡ true
logon_counted d after n last_logon true e up two = two_counted n.expected (e ∙ two refl)
logon_counted d after n last_logon false e up two =
    let u = up refl in le_is d.expected n.expected (omega (arith, e, u))

pub logon_read : (q : Point) (m : Memory) (d : Day) (t : Turn) (moment : ℕ) (rs : List Kept)
    → IsAt q (with_day m d) rs → (a : Accepted d t)
    → Reads q (behind (standing m moment) d t) (with_day m t.session.day) (if a.resets then without_rejects rs else rs)
logon_read q m d t moment rs a s =
    let after = t.session.day in
    let l = after.last_logon in
    let e = s.had in
    said_read q m d d t moment rs (number_due d (kind.Logon l s.resets)) (kind.Logon l s.resets) a s.number (s.kind l)
    (s.second l) refl (omega (arith, e))
    (logon_counted d after (note_of (standing m moment) after (number_due d (kind.Logon l s.resets)) (kind.Logon l s.resets)) l s.resets
    refl s.expected s.counted)
    refl
    (by_marks m
    (logged_on d (note_of (standing m moment) after (number_due d (kind.Logon l s.resets)) (kind.Logon l s.resets)) l s.resets)
    after (sym s.day))
    refl refl

-- What is kept.

abbrev pub is_reject_kind : Option NoteKind → Bool
is_reject_kind None = false
is_reject_kind (Some kind.Reject) = true
is_reject_kind (Some other) = false

refusal_is : (l : ℕ) (w : Word) → is_refusal w ≡ is_reject_kind (kind_of l w)
refusal_is l (word.Logon seconds resets expects) = refl
refusal_is l word.Heartbeat = refl
refusal_is l (word.Answer id) = refl
refusal_is l (word.TestRequest id) = refl
refusal_is l (word.ResendRequest first) = refl
refusal_is l (word.Reject number of_kind fault) = refl
refusal_is l (word.Fill next) = refl
refusal_is l (word.Logout why) = refl
refusal_is l (word.Foreign version) = refl
refusal_is l (word.LogoutFor text) = refl
refusal_is l (word.Denied number of_kind denial) = refl
refusal_is l (word.Kept body is_copy) = refl
refusal_is l (word.Again body is_copy first) = refl

abbrev kept_of : ℕ → Said → Kept
kept_of moment said = record {
  number = said.number;
  ordinal = 0;
  body = kept_fields said.word;
  moment = moment;
  is_copy = false;
}

pub new_none : (l moment : ℕ) (o : Option Said) → is_reject_kind (kind_in l o) ≡ false → kept_new moment o ≡ []
new_none l moment None h = refl
new_none l moment (Some said) h =
    ap (λ b. if b && is_kept said.way then kept_of moment said ∷ [] else []) (refusal_is l said.word ∙ h)

pub new_reject : (m : Memory) (l moment : ℕ) (after : Day) (o : Option Said) (n : ℕ) → kind_in l o ≡ Some kind.Reject
    → number_in o ≡ Some n → is_kept_in o ≡ true
    → kept_new moment o ≡ (kept_reject (sealed_of (standing m moment) after n kind.Reject (body_in o)) ∷ [])
new_reject m l moment after None n k g h = absurd (none-some n g)
new_reject m l moment after (Some said) n k g h =
    ap (λ b. if b && is_kept said.way then kept_of moment said ∷ [] else []) (refusal_is l said.word ∙ ap is_reject_kind k)
    ∙ ap (λ b. if b then kept_of moment said ∷ [] else []) h
    ∙ ap (λ j. record (kept_of moment said) { number = j } ∷ []) (same_Some said.number n g)

-- a turn that keeps this
pub kept_is : (kept : List Kept) (moment : ℕ) (t : Turn) (new : List Kept) → t.drops_rejects ≡ false
    → kept_new moment t.first ≡ new → kept_after kept moment t ≡ kept ++ new
kept_is kept moment t new drops e =
    ap (λ b. (if b then without_rejects kept else kept) ++ kept_new moment t.first) drops ∙ ap (λ l. kept ++ l) e

pub kept_same : (kept : List Kept) (moment : ℕ) (t : Turn) → t.drops_rejects ≡ false → kept_new moment t.first ≡ []
    → kept_after kept moment t ≡ kept
kept_same kept moment t drops e = kept_is kept moment t [] drops e ∙ append-nil kept
