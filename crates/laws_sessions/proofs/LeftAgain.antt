-- What left is what a start has.
use Rattle.std.proofs.Common.{◌≡◌, ℕ, zero, suc, ◌+◌, ◌-◌, ◌≤◌, Bool, true, false, List, [], ◌∷◌, ◌++◌, inl, inr, length, Option, Some, None, refl, sym, ap, subst, ◌∙◌, arith, append_assoc, if◌then◌else◌}
use Rattle.std.proofs.lemmas.Bool.{false≢true}
use Rattle.std.proofs.lemmas.Option.{none-some, same_Some}
use Rattle.fix_sessions.specs.declared.texts.Names.{Names}
use Rattle.laws_sessions.proofs.Choices.{choice}
use Rattle.laws_sessions.proofs.KeptLists.{all_back, all_keeps, kept_front, kept_last, keeps_on}
use Rattle.laws_sessions.proofs.Unnumbered.{under_keeps, unnumbered_under}
use Rattle.laws_sessions.proofs.UsedNumbers.{due_by, split}
use Rattle.laws_sessions.specs.Agrees.{with_more}
use Rattle.laws_sessions.proofs.Acts.{all_recovered}
use Rattle.laws_sessions.proofs.Starting.{reads_with}
use Rattle.laws_sessions.specs.Left.{AreKeeping, AreLater, IsKept, IsLater, drops, is_reset, lost}
use Rattle.laws_sessions.specs.Starts.{Act, AreSoundActs, IsRecovered, Part, World, all_notes, first_world, found, joined, world_after_all}
use Rattle.session_recovery.specs.Notes.{after_note, follows, noted}
use Rattle.session_recovery.specs.Recovered.{Kept, Message, Point, Sealed, copies, gives_all, gives_from, is_reject, keeps, kept_by, kept_reject, reads, reads_all, reads_one, start, with_message, with_session, without_rejects}
use Rattle.session_recovery.specs.declared.notes.Note.{Note}
use Rattle.session_recovery.specs.declared.notes.NoteKind.{NoteKind}
use Rattle.session_recovery.specs.declared.notes.NoteKind.TheVariants as kind
use Rattle.session_recovery.specs.declared.points.Recovered.{Recovered}

-- what is left is not looked at
rest_alone : (p : Point) (ms : List Message) (rest : List Message) → gives_all (record p { rest = rest }) ms ≡ gives_all p ms
rest_alone p [] rest = refl
rest_alone p (m ∷ ms) rest = refl

-- so many have their numbers, and then the others
from_all : (count : ℕ) (p q : Point) (ms : List Message) → gives_from count p ms ≡ Some q
    → gives_all q q.rest ≡ gives_all p ms
from_all zero p q ms h =
    subst (λ (y : Point). gives_all y y.rest ≡ gives_all p ms) (same_Some _ q h) (rest_alone p ms ms)
from_all (suc count) p q [] h = absurd (none-some q h)
from_all (suc count) p q (m ∷ ms) h = from_all count (with_message p m ms) q ms h

given_all : (p : Point) (ms : List Message) → (gives_all p ms).session.given ≡ p.session.given + length ms
given_all p [] = omega arith
given_all p (m ∷ ms) = let e = given_all (with_message p m ms) ms in omega (arith, e)

append_all : (p : Point) (a b : List Message) (rest : List Message)
    → gives_all (record p { rest = rest }) (a ++ b) ≡ gives_all (gives_all p a) b
append_all p [] b rest = rest_alone p b rest ∙ sym (rest_alone p b [])
append_all p (m ∷ a) b rest = append_all (with_message p m a) a b (a ++ b)

-- A note.

without_back : (x : Kept) (ks : List Kept) → IsKept x (without_rejects ks) → IsKept x ks
without_back x [] h = h
without_back x (k ∷ ks) h =
    let step = choice (λ l. IsKept x l → IsKept x (k ∷ ks)) (is_reject k) (without_rejects ks) (k ∷ without_rejects ks)
    (λ g i. inr (without_back x ks i))
    (λ g i. elim i [ inl e ↦ inl e | inr r ↦ inr (without_back x ks r) ]) in
    step h

note_back : (x : Kept) (ks : List Kept) (s : Sealed) (k : NoteKind) → 1 ≤ x.ordinal → is_reset k ≡ false
    → IsKept x (kept_by ks s k) → IsKept x ks
note_back x ks s (kind.Logon last_logon true) low still h = without_back x ks h
note_back x ks s (kind.Logon last_logon false) low still h = h
note_back x ks s kind.Own low still h = h
note_back x ks s kind.Reject low still h =
    elim (kept_last x (kept_reject s) ks h) [
      | inl g ↦ g
      | inr e ↦ (let o = ap (λ (y : Kept). y.ordinal) e in absurd (omega (arith, low, o)))
    ]
note_back x ks s kind.Logout low still h = h
note_back x ks s (kind.Reset since act) low still h = absurd (false≢true (sym still))
note_back x ks s kind.Locked low still h = h
note_back x ks s (kind.Released act) low still h = h
note_back x ks s kind.Mark low still h = h

pub noted_given : (r : Recovered) (n : Note) (cs : ℕ) (k : NoteKind) → (noted r n cs k).given ≡ r.given
noted_given r n cs (kind.Logon last_logon resets) = refl
noted_given r n cs kind.Own = refl
noted_given r n cs kind.Reject = refl
noted_given r n cs kind.Logout = refl
noted_given r n cs (kind.Reset since act) = refl
noted_given r n cs kind.Locked = refl
noted_given r n cs (kind.Released act) = refl
noted_given r n cs kind.Mark = refl

-- What is kept behind a note, of what was given before it, was kept before it.
abbrev Back : Kept → Point → Point → Type 0
Back x p q = IsKept x (gives_all q q.rest).kept → IsKept x (gives_all p p.rest).kept

abbrev noted_at : Point → Sealed → Point
noted_at y s = record {
  session = noted y.session s.note (length (copies s.note.had y.kept)) s.note.kind;
  kept = kept_by y.kept s s.note.kind;
  rest = y.rest;
}

noted_back : (x : Kept) (y : Point) (s : Sealed) → 1 ≤ x.ordinal → IsLater x.ordinal s.note → is_reset s.note.kind ≡ false
    → follows y.session s.note ≡ true → IsKept x (gives_all (noted_at y s) y.rest).kept → IsKept x (gives_all y y.rest).kept
noted_back x y s low (inl none) still h k =
    under_keeps x y.rest y (noted_at y s)
    (unnumbered_under y s s.note.kind (length (copies s.note.had y.kept)) none (due_by y.session s.note h).counted) k
noted_back x y s low (inr high) still h k =
    let g = (due_by y.session s.note h).given in
    let n = noted_given y.session s.note (length (copies s.note.had y.kept)) s.note.kind in
    all_keeps x y y.rest
    (note_back x y.kept s s.note.kind low still (all_back x (noted_at y s) y.rest (omega (arith, high, g, n)) k))

session_back : (x : Kept) (p y q : Point) (s : Sealed) → 1 ≤ x.ordinal → IsLater x.ordinal s.note
    → is_reset s.note.kind ≡ false → gives_all y y.rest ≡ gives_all p p.rest
    → with_session y s (after_note y.session s.note (length (copies s.note.had y.kept))) ≡ Some q → Back x p q
session_back x p y q s low behind still same =
    choice (λ o. with_session y s o ≡ Some q → Back x p q) (follows y.session s.note) _ _
    (λ h e. subst (λ w. Back x p w) (same_Some (noted_at y s) q e)
    (λ k. subst (λ (w : Point). IsKept x w.kept) same (noted_back x y s low behind still h k)))
    (λ h e. absurd (none-some q e))

one_back : (x : Kept) (o : Option Point) (p q : Point) (s : Sealed) → 1 ≤ x.ordinal → IsLater x.ordinal s.note
    → is_reset s.note.kind ≡ false → ((y : Point) → o ≡ Some y → gives_all y y.rest ≡ gives_all p p.rest)
    → reads_one s o ≡ Some q → Back x p q
one_back x None p q s low behind still link h = absurd (none-some q h)
one_back x (Some y) p q s low behind still link h = session_back x p y q s low behind still (link y refl) h

note_is_back : (x : Kept) (p q : Point) (s : Sealed) → 1 ≤ x.ordinal → IsLater x.ordinal s.note
    → is_reset s.note.kind ≡ false → reads p s ≡ Some q → Back x p q
note_is_back x p q s low behind still h =
    one_back x (gives_from (s.note.given - p.session.given) p p.rest) p q s low behind still
    (λ y e. from_all (s.note.given - p.session.given) p y p.rest e) h

then_back : (x : Kept) (o : Option Point) (p q : Point) (ss : List Sealed) → ((y : Point) → o ≡ Some y → Back x p y)
    → ((y : Point) → reads_all (Some y) ss ≡ Some q → Back x y q) → reads_all o ss ≡ Some q → Back x p q
then_back x None p q ss one more h = absurd (none-some q h)
then_back x (Some y) p q ss one more h = λ k. one y refl (more y h k)

notes_back : (x : Kept) (ss : List Sealed) (p q : Point) → 1 ≤ x.ordinal → AreLater x.ordinal ss
    → reads_all (Some p) ss ≡ Some q → Back x p q
notes_back x [] p q low later h = subst (λ y. Back x p y) (same_Some p q h) (λ k. k)
notes_back x (s ∷ ss) p q low later h =
    then_back x (reads p s) p q ss (λ y e. note_is_back x p y s low later.0 later.1 e)
    (λ y g. notes_back x ss y q low later.2 g) h

-- What a gateway has kept of the venue's messages, and a start.

more_all : (p : Point) (more : List Message) → gives_all (with_more p more) (p.rest ++ more) ≡ gives_all (gives_all p p.rest) more
more_all p more = append_all p p.rest more (p.rest ++ more)

abbrev Found : World → Bool → Part
Found w is_there = found w.disk w.flight is_there

notes_split : (w : World) (is_there : Bool) → (Found w is_there).notes ++ lost w is_there ≡ all_notes w
notes_split w true = append_assoc w.disk.notes w.flight.notes w.fill.notes
notes_split w false = refl

-- what a start is given, and what the venue gives beside it
given_too : (w : World) (r : IsRecovered w) (x : Kept) (p d : Point) (is_there : Bool)
    → reads_all (Some (start (Found w is_there).given)) (Found w is_there).notes ≡ Some p
    → reads_all (Some (start r.told)) (Found w is_there).notes ≡ Some d
    → x.ordinal ≤ (gives_all p p.rest).session.given
    → IsKept x (gives_all d d.rest).kept → IsKept x (gives_all p p.rest).kept
given_too w r x p d true read first low k =
    let notes = (joined w.disk w.flight).notes in
    let with = subst (λ ms. reads_all (Some (start ms)) notes ≡ Some (with_more d w.waiting)) r.in_order
    (reads_with r.told w.waiting notes d first) in
    let same = same_Some (with_more d w.waiting) p (sym with ∙ read) in
    subst (λ (y : Point). IsKept x (gives_all y y.rest).kept) same
    (subst (λ (y : Point). IsKept x y.kept) (sym (more_all d w.waiting))
    (all_keeps x (gives_all d d.rest) w.waiting k))
given_too w r x p d false read first low k =
    let notes = w.disk.notes in
    let with = subst (λ ms. reads_all (Some (start ms)) notes ≡ Some (with_more d w.waiting)) r.in_order
    (reads_with r.told w.waiting notes d first) in
    let beside = reads_with w.disk.given w.flight.given notes p read in
    let same = same_Some (with_more d w.waiting) (with_more p w.flight.given) (sym with ∙ beside) in
    all_back x (gives_all p p.rest) w.flight.given low
    (subst (λ (y : Point). IsKept x y.kept) (more_all p w.flight.given)
    (subst (λ (y : Point). IsKept x (gives_all y y.rest).kept) same
    (subst (λ (y : Point). IsKept x y.kept) (sym (more_all d w.waiting))
    (all_keeps x (gives_all d d.rest) w.waiting k))))

pub kept_at_start : (w : World) (r : IsRecovered w) (is_there : Bool) (x : Kept) (p : Point) → IsKept x w.memory.kept
    → 1 ≤ x.ordinal → AreLater x.ordinal (lost w is_there)
    → reads_all (Some (start (Found w is_there).given)) (Found w is_there).notes ≡ Some p
    → x.ordinal ≤ (gives_all p p.rest).session.given → IsKept x (gives_all p p.rest).kept
kept_at_start w r is_there x p kept low later read given =
    let notes = (Found w is_there).notes in
    let parts = split notes (lost w is_there) (Some (start r.told)) r.point
    (ap (λ l. reads_all (Some (start r.told)) l) (notes_split w is_there) ∙ r.reads) in
    given_too w r x p parts.at is_there read parts.first given
    (notes_back x (lost w is_there) parts.at r.point low later parts.behind
    (subst (λ ks. IsKept x ks) (sym r.agrees.kept) kept))

pub left_is_recovered : (names : Names) (acts : List Act) (w : World) (is_there : Bool) (x : Kept) (p : Point)
    → AreSoundActs names (Some first_world) acts → world_after_all names (Some first_world) acts ≡ Some w
    → IsKept x w.memory.kept → 1 ≤ x.ordinal → AreLater x.ordinal (lost w is_there)
    → reads_all (Some (start (found w.disk w.flight is_there).given)) (found w.disk w.flight is_there).notes ≡ Some p
    → x.ordinal ≤ (gives_all p p.rest).session.given → IsKept x (gives_all p p.rest).kept
left_is_recovered names acts w is_there x p sound h kept low later read given =
    kept_at_start w (all_recovered names acts w sound h) is_there x p kept low later read given

-- Rejects.

kept_end : (x : Kept) (a : List Kept) → IsKept x (a ++ (x ∷ []))
kept_end x [] = inl refl
kept_end x (k ∷ a) = inr (kept_end x a)

note_forth : (x : Kept) (ks : List Kept) (s : Sealed) (k : NoteKind) → drops k ≡ false → IsKept x ks → IsKept x (kept_by ks s k)
note_forth x ks s (kind.Logon last_logon resets) keeps h =
    subst (λ b. IsKept x (if b then without_rejects ks else ks)) (sym keeps) h
note_forth x ks s kind.Own keeps h = h
note_forth x ks s kind.Reject keeps h = kept_front x ks (kept_reject s ∷ []) h
note_forth x ks s kind.Logout keeps h = h
note_forth x ks s (kind.Reset since act) keeps h = absurd (false≢true (sym keeps))
note_forth x ks s kind.Locked keeps h = h
note_forth x ks s (kind.Released act) keeps h = h
note_forth x ks s kind.Mark keeps h = h

from_forth : (x : Kept) (count : ℕ) (p q : Point) (ms : List Message) → gives_from count p ms ≡ Some q
    → IsKept x p.kept → IsKept x q.kept
from_forth x zero p q ms h k = subst (λ (y : Point). IsKept x y.kept) (same_Some _ q h) k
from_forth x (suc count) p q [] h k = absurd (none-some q h)
from_forth x (suc count) p q (m ∷ ms) h k = from_forth x count (with_message p m ms) q ms h (keeps_on x p m ms k)

-- what a note has read
pub record ReadAt (p q : Point) (s : Sealed) : Type 0 where
  pub at : Point
  pub before : (x : Kept) → IsKept x p.kept → IsKept x at.kept
  pub kept : q.kept ≡ kept_by at.kept s s.note.kind

session_at : (p y q : Point) (s : Sealed) → ((x : Kept) → IsKept x p.kept → IsKept x y.kept)
    → with_session y s (after_note y.session s.note (length (copies s.note.had y.kept))) ≡ Some q → ReadAt p q s
session_at p y q s forth =
    choice (λ o. with_session y s o ≡ Some q → ReadAt p q s) (follows y.session s.note) _ _
    (λ h e. record { at = y; before = forth; kept = ap (λ (z : Point). z.kept) (sym (same_Some _ q e)) })
    (λ h e. absurd (none-some q e))

one_at : (o : Option Point) (p q : Point) (s : Sealed)
    → ((y : Point) → o ≡ Some y → (x : Kept) → IsKept x p.kept → IsKept x y.kept) → reads_one s o ≡ Some q → ReadAt p q s
one_at None p q s link h = absurd (none-some q h)
one_at (Some y) p q s link h = session_at p y q s (link y refl) h

read_at : (p q : Point) (s : Sealed) → reads p s ≡ Some q → ReadAt p q s
read_at p q s h =
    one_at (gives_from (s.note.given - p.session.given) p p.rest) p q s
    (λ y e x k. from_forth x (s.note.given - p.session.given) p y p.rest e k) h

then_forth : (x : Kept) (o : Option Point) (q : Point) (ss : List Sealed)
    → ((y : Point) → o ≡ Some y → IsKept x y.kept)
    → ((y : Point) → IsKept x y.kept → reads_all (Some y) ss ≡ Some q → IsKept x q.kept) → reads_all o ss ≡ Some q → IsKept x q.kept
then_forth x None q ss one more h = absurd (none-some q h)
then_forth x (Some y) q ss one more h = more y (one y refl) h

notes_forth : (x : Kept) (ss : List Sealed) (p q : Point) → AreKeeping ss → IsKept x p.kept → reads_all (Some p) ss ≡ Some q
    → IsKept x q.kept
notes_forth x [] p q keeping k h = subst (λ (y : Point). IsKept x y.kept) (same_Some p q h) k
notes_forth x (s ∷ ss) p q keeping k h =
    then_forth x (reads p s) q ss
    (λ y e. (let r = read_at p y s e in
    subst (λ ks. IsKept x ks) (sym r.kept) (note_forth x r.at.kept s s.note.kind keeping.0 (r.before x k))))
    (λ y i g. notes_forth x ss y q keeping.1 i g) h

pub rejects_are_kept : (given : List Message) (before after : List Sealed) (s : Sealed) (p : Point)
    → reads_all (Some (start given)) (before ++ (s ∷ after)) ≡ Some p → s.note.kind ≡ kind.Reject → AreKeeping after
    → IsKept (kept_reject s) (gives_all p p.rest).kept
rejects_are_kept given before after s p h is keeping =
    let parts = split before (s ∷ after) (Some (start given)) p h in
    all_keeps (kept_reject s) p p.rest
    (then_forth (kept_reject s) (reads parts.at s) p after
    (λ y e. (let r = read_at parts.at y s e in
    subst (λ ks. IsKept (kept_reject s) ks) (sym r.kept)
    (subst (λ k. IsKept (kept_reject s) (kept_by r.at.kept s k)) (sym is) (kept_end (kept_reject s) r.at.kept))))
    (λ y i g. notes_forth (kept_reject s) after y p keeping i g) parts.behind)
