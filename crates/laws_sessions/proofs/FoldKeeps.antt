-- What each message of the venue and each note keeps, all of them keep.
use Rattle.std.proofs.Common.{◌≡◌, ℕ, zero, suc, ◌-◌, ◌≤◌, true, false, nat_le, List, [], ◌∷◌, ◌++◌, length, Option, Some, None, refl, sym, subst, ◌∙◌, arith, if◌then◌else◌}
use Rattle.std.proofs.lemmas.Bool.{eqb-true, false≢true}
use Rattle.std.proofs.lemmas.Bool.Decides.{nat_tests}
use Rattle.std.proofs.lemmas.Option.{none-some, same_Some}
use Rattle.fix_sessions.specs.declared.state.Day.{Day}
use Rattle.laws_sessions.proofs.Choices.{choice}
use Rattle.laws_sessions.proofs.UsedNumbers.{Due, due_by, split}
use Rattle.laws_sessions.specs.Left.{AreKeeping, drops, is_reset}
use Rattle.session_recovery.specs.Notes.{after_message, after_note, follows, is_counted, is_used_up, keeps_message, noted}
use Rattle.session_recovery.specs.Recovered.{Message, Point, Sealed, copies, gives_all, gives_from, reads, reads_all, reads_one, start, with_message, with_session}
use Rattle.session_recovery.specs.declared.notes.Digest.{Digest}
use Rattle.session_recovery.specs.declared.notes.Note.{Note}
use Rattle.session_recovery.specs.declared.notes.NoteKind.{NoteKind}
use Rattle.session_recovery.specs.declared.notes.NoteKind.TheVariants as kind
use Rattle.session_recovery.specs.declared.points.Recovered.{Recovered}

-- a property that each message keeps; and one that a note keeps
abbrev pub KeepsMessages : (Recovered → Type 0) → Type 0
KeepsMessages P = (r : Recovered) (digest : Digest) → P r → P (after_message r digest)

abbrev pub KeepsNote : (Recovered → Type 0) → Note → Type 0
KeepsNote P n = (r : Recovered) (cs : ℕ) → Due r n → P r → P (noted r n cs n.kind)

abbrev pub KeepNotes : (Recovered → Type 0) → List Sealed → Type 0
KeepNotes P [] = Unit {0}
KeepNotes P (s ∷ ss) = KeepsNote P s.note × KeepNotes P ss

pub all_keep : (P : Recovered → Type 0) → KeepsMessages P → (p : Point) (ms : List Message) → P p.session → P (gives_all p ms).session
all_keep P k p [] h = h
all_keep P k p (m ∷ ms) h = all_keep P k (with_message p m ms) ms (k p.session m.digest h)

gives_keep : (P : Recovered → Type 0) → KeepsMessages P → (count : ℕ) (p q : Point) (ms : List Message) → gives_from count p ms ≡ Some q
    → P p.session → P q.session
gives_keep P k zero p q ms h holds = subst (λ (x : Point). P x.session) (same_Some _ q h) holds
gives_keep P k (suc count) p q [] h holds = absurd (none-some q h)
gives_keep P k (suc count) p q (m ∷ ms) h holds =
    gives_keep P k count (with_message p m ms) q ms h (k p.session m.digest holds)

session_keeps : (P : Recovered → Type 0) (x q : Point) (s : Sealed) → KeepsNote P s.note → P x.session
    → with_session x s (after_note x.session s.note (length (copies s.note.had x.kept))) ≡ Some q → P q.session
session_keeps P x q s note holds =
    let cs = length (copies s.note.had x.kept) in
    choice (λ o. with_session x s o ≡ Some q → P q.session) (follows x.session s.note) _ _
    (λ h e. subst (λ (y : Point). P y.session) (same_Some _ q e) (note x.session cs (due_by x.session s.note h) holds))
    (λ h e. absurd (none-some q e))

one_keeps : (P : Recovered → Type 0) (o : Option Point) (q : Point) (s : Sealed) → KeepsNote P s.note
    → ((x : Point) → o ≡ Some x → P x.session) → reads_one s o ≡ Some q → P q.session
one_keeps P None q s note link h = absurd (none-some q h)
one_keeps P (Some x) q s note link h = session_keeps P x q s note (link x refl) h

pub note_keeps : (P : Recovered → Type 0) → KeepsMessages P → (p q : Point) (s : Sealed) → KeepsNote P s.note
    → reads p s ≡ Some q → P p.session → P q.session
note_keeps P k p q s note h holds =
    one_keeps P (gives_from (s.note.given - p.session.given) p p.rest) q s note
    (λ x e. gives_keep P k (s.note.given - p.session.given) p x p.rest e holds) h

pub then_keep : (P : Recovered → Type 0) (o : Option Point) (q : Point) (ss : List Sealed)
    → ((x : Point) → o ≡ Some x → P x.session)
    → ((x : Point) → reads_all (Some x) ss ≡ Some q → P x.session → P q.session)
    → reads_all o ss ≡ Some q → P q.session
then_keep P None q ss one more h = absurd (none-some q h)
then_keep P (Some x) q ss one more h = more x h (one x refl)

pub notes_keep : (P : Recovered → Type 0) → KeepsMessages P → (ss : List Sealed) → KeepNotes P ss → (p q : Point)
    → reads_all (Some p) ss ≡ Some q → P p.session → P q.session
notes_keep P k [] note p q h holds = subst (λ (x : Point). P x.session) (same_Some p q h) holds
notes_keep P k (s ∷ ss) note p q h holds =
    then_keep P (reads p s) q ss (λ x e. note_keeps P k p x s note.0 e holds) (λ x g. notes_keep P k ss note.1 x q g) h

-- No entry is counted while notes are read, and 1 is expected at least.
pub record IsUncounted (r : Recovered) : Type 0 where
  pub taken : r.taken ≡ 0
  pub was : r.day.was_taken ≡ false
  pub one : 1 ≤ r.day.expected

message_uncounted : (r : Recovered) (digest : Digest) → IsUncounted r → IsUncounted (after_message r digest)
message_uncounted r digest u = record {
  taken = u.taken;
  was = choice (λ (d : Day). d.was_taken ≡ false) (is_used_up r.day) r.day (keeps_message r.day) (λ h. u.was) (λ h. u.was);
  one = choice (λ (d : Day). 1 ≤ d.expected) (is_used_up r.day) r.day (keeps_message r.day) (λ h. u.one) (λ h. u.one);
}

one_from : (d n : ℕ) → 1 ≤ d → nat_le d n ≡ true → 1 ≤ n
one_from d n one h = grind (arith, nat_tests)

counts_one : (d : Day) (n : Note) (k : NoteKind) → 1 ≤ d.expected → is_counted d n k ≡ true → 1 ≤ n.expected
counts_one d n (kind.Logon last_logon true) one h = let e = eqb-true n.expected 2 h in omega (arith, e)
counts_one d n (kind.Logon last_logon false) one h = one_from d.expected n.expected one h
counts_one d n kind.Own one h = one_from d.expected n.expected one h
counts_one d n kind.Reject one h = one_from d.expected n.expected one h
counts_one d n kind.Logout one h = one_from d.expected n.expected one h
counts_one d n (kind.Reset since act) one h = one_from d.expected n.expected one h
counts_one d n kind.Locked one h = one_from d.expected n.expected one h
counts_one d n (kind.Released act) one h = one_from d.expected n.expected one h
counts_one d n kind.Mark one h = one_from d.expected n.expected one h

noted_uncounted : (r : Recovered) (n : Note) (cs : ℕ) (k : NoteKind) → 1 ≤ n.expected → IsUncounted r → IsUncounted (noted r n cs k)
noted_uncounted r n cs (kind.Logon last_logon resets) one u = record { taken = u.taken; was = u.was; one = one }
noted_uncounted r n cs kind.Own one u = record { taken = u.taken; was = u.was; one = one }
noted_uncounted r n cs kind.Reject one u = record { taken = u.taken; was = u.was; one = one }
noted_uncounted r n cs kind.Logout one u = record { taken = u.taken; was = u.was; one = one }
noted_uncounted r n cs (kind.Reset since act) one u = record { taken = refl; was = refl; one = omega arith }
noted_uncounted r n cs kind.Locked one u = record { taken = u.taken; was = u.was; one = one }
noted_uncounted r n cs (kind.Released act) one u = record { taken = u.taken; was = u.was; one = one }
noted_uncounted r n cs kind.Mark one u = record { taken = u.taken; was = u.was; one = one }

notes_uncounted : (ss : List Sealed) → KeepNotes IsUncounted ss
notes_uncounted [] = tt
notes_uncounted (s ∷ ss) = (
  λ r cs due u. noted_uncounted r s.note cs s.note.kind (counts_one r.day s.note s.note.kind u.one due.counted) u,
  notes_uncounted ss,
)

-- of any notes that are read, and what the venue gave
pub all_uncounted : (given : List Message) (notes : List Sealed) (q : Point) → reads_all (Some (start given)) notes ≡ Some q
    → IsUncounted (gives_all q q.rest).session
all_uncounted given notes q h =
    all_keep IsUncounted message_uncounted q q.rest
    (notes_keep IsUncounted message_uncounted notes (notes_uncounted notes) (start given) q h
    (record { taken = refl; was = refl; one = omega arith }))

-- What the venue gives leaves this as it is.

pub all_since : (ms : List Message) (p : Point) → (gives_all p ms).session.since ≡ p.session.since
all_since [] p = refl
all_since (m ∷ ms) p = all_since ms (with_message p m ms)

message_expected : (d : Day) → (if is_used_up d then d else keeps_message d).expected ≡ d.expected
message_expected d = choice (λ (e : Day). e.expected ≡ d.expected) (is_used_up d) _ _ (λ h. refl) (λ h. refl)

pub all_expected : (ms : List Message) (p : Point) → (gives_all p ms).session.day.expected ≡ p.session.day.expected
all_expected [] p = refl
all_expected (m ∷ ms) p = all_expected ms (with_message p m ms) ∙ message_expected p.session.day

-- What a note counts stays counted, until a reset or a Logon with 141=Y.

abbrev ExpectsFrom : ℕ → Recovered → Type 0
ExpectsFrom low r = low ≤ r.day.expected

message_from : (low : ℕ) → KeepsMessages (ExpectsFrom low)
message_from low r digest h =
    choice (λ (d : Day). low ≤ d.expected) (is_used_up r.day) r.day (keeps_message r.day) (λ e. h) (λ e. h)

from_on : (low d n : ℕ) → low ≤ d → nat_le d n ≡ true → low ≤ n
from_on low d n h g = grind (arith, nat_tests)

noted_from : (low : ℕ) (r : Recovered) (n : Note) (cs : ℕ) (k : NoteKind) → drops k ≡ false → is_counted r.day n k ≡ true
    → ExpectsFrom low r → ExpectsFrom low (noted r n cs k)
noted_from low r n cs (kind.Logon last_logon true) keeps h from = absurd (false≢true (sym keeps))
noted_from low r n cs (kind.Logon last_logon false) keeps h from = from_on low r.day.expected n.expected from h
noted_from low r n cs kind.Own keeps h from = from_on low r.day.expected n.expected from h
noted_from low r n cs kind.Reject keeps h from = from_on low r.day.expected n.expected from h
noted_from low r n cs kind.Logout keeps h from = from_on low r.day.expected n.expected from h
noted_from low r n cs (kind.Reset since act) keeps h from = absurd (false≢true (sym keeps))
noted_from low r n cs kind.Locked keeps h from = from_on low r.day.expected n.expected from h
noted_from low r n cs (kind.Released act) keeps h from = from_on low r.day.expected n.expected from h
noted_from low r n cs kind.Mark keeps h from = from_on low r.day.expected n.expected from h

notes_from : (low : ℕ) (ss : List Sealed) → AreKeeping ss → KeepNotes (ExpectsFrom low) ss
notes_from low [] keeping = tt
notes_from low (s ∷ ss) keeping = (
  λ r cs due from. noted_from low r s.note cs s.note.kind keeping.0 due.counted from,
  notes_from low ss keeping.1,
)

-- a note that is no reset says what is expected then
noted_says : (r : Recovered) (n : Note) (cs : ℕ) (k : NoteKind) → is_reset k ≡ false → n.expected ≤ (noted r n cs k).day.expected
noted_says r n cs (kind.Logon last_logon resets) h = omega arith
noted_says r n cs kind.Own h = omega arith
noted_says r n cs kind.Reject h = omega arith
noted_says r n cs kind.Logout h = omega arith
noted_says r n cs (kind.Reset since act) h = absurd (false≢true (sym h))
noted_says r n cs kind.Locked h = omega arith
noted_says r n cs (kind.Released act) h = omega arith
noted_says r n cs kind.Mark h = omega arith

session_says : (x q : Point) (s : Sealed) → is_reset s.note.kind ≡ false
    → with_session x s (after_note x.session s.note (length (copies s.note.had x.kept))) ≡ Some q
    → ExpectsFrom s.note.expected q.session
session_says x q s other =
    let cs = length (copies s.note.had x.kept) in
    choice (λ o. with_session x s o ≡ Some q → ExpectsFrom s.note.expected q.session) (follows x.session s.note) _ _
    (λ h e. subst (λ (y : Point). ExpectsFrom s.note.expected y.session) (same_Some _ q e)
    (noted_says x.session s.note cs s.note.kind other))
    (λ h e. absurd (none-some q e))

one_says : (o : Option Point) (q : Point) (s : Sealed) → is_reset s.note.kind ≡ false → reads_one s o ≡ Some q
    → ExpectsFrom s.note.expected q.session
one_says None q s other h = absurd (none-some q h)
one_says (Some x) q s other h = session_says x q s other h

-- what a note has counted is not asked for again
pub counted_stays : (given : List Message) (before after : List Sealed) (s : Sealed) (p : Point)
    → reads_all (Some (start given)) (before ++ (s ∷ after)) ≡ Some p → is_reset s.note.kind ≡ false → AreKeeping after
    → s.note.expected ≤ (gives_all p p.rest).session.day.expected
counted_stays given before after s p h other keeping =
    let parts = split before (s ∷ after) (Some (start given)) p h in
    let P = ExpectsFrom s.note.expected in
    all_keep P (message_from s.note.expected) p p.rest
    (then_keep P (reads parts.at s) p after
    (λ y e. one_says (gives_from (s.note.given - parts.at.session.given) parts.at parts.at.rest) y s other e)
    (λ y g from. notes_keep P (message_from s.note.expected) after (notes_from s.note.expected after keeping) y p g from)
    parts.behind)
