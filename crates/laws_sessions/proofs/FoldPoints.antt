-- What each step of the fold keeps of a point and what is left of the venue's messages, all of it keeps.
use Rattle.std.proofs.Common.{◌≡◌, ℕ, zero, suc, ◌-◌, List, [], ◌∷◌, length, Option, Some, None, refl, subst}
use Rattle.std.proofs.lemmas.Option.{none-some, same_Some}
use Rattle.laws_sessions.proofs.Choices.{choice}
use Rattle.laws_sessions.proofs.UsedNumbers.{Due, due_by}
use Rattle.session_recovery.specs.Notes.{after_note, follows, noted}
use Rattle.session_recovery.specs.Recovered.{Message, Point, Sealed, copies, gives_all, gives_from, kept_by, reads, reads_all, reads_one, start, with_message, with_session}

-- the point behind a note
abbrev pub noted_at : Point → Sealed → Point
noted_at p s = record {
  session = noted p.session s.note (length (copies s.note.had p.kept)) s.note.kind;
  kept = kept_by p.kept s s.note.kind;
  rest = p.rest;
}

pub record IsKeptBy (P : Point → List Message → Type 0) : Type 0 where
  pub message : (p : Point) (m : Message) (ms : List Message) → P p (m ∷ ms) → P (with_message p m ms) ms
  pub rest : (p : Point) (ms rest : List Message) → P p ms → P (record p { rest = rest }) ms
  pub note : (p : Point) (s : Sealed) → Due p.session s.note → P p p.rest → P (noted_at p s) p.rest

pub all_points : (P : Point → List Message → Type 0) → IsKeptBy P → (p : Point) (ms : List Message) → P p ms → P (gives_all p ms) []
all_points P k p [] h = k.rest p [] [] h
all_points P k p (m ∷ ms) h = all_points P k (with_message p m ms) ms (k.message p m ms h)

pub gives_points : (P : Point → List Message → Type 0) → IsKeptBy P → (count : ℕ) (p q : Point) (ms : List Message) → P p ms
    → gives_from count p ms ≡ Some q → P q q.rest
gives_points P k zero p q ms h e =
    subst (λ (x : Point). P x x.rest) (same_Some (record p { rest = ms }) q e) (k.rest p ms ms h)
gives_points P k (suc count) p q [] h e = absurd (none-some q e)
gives_points P k (suc count) p q (m ∷ ms) h e = gives_points P k count (with_message p m ms) q ms (k.message p m ms h) e

session_points : (P : Point → List Message → Type 0) → IsKeptBy P → (x q : Point) (s : Sealed) → P x x.rest
    → with_session x s (after_note x.session s.note (length (copies s.note.had x.kept))) ≡ Some q → P q q.rest
session_points P k x q s h =
    choice (λ o. with_session x s o ≡ Some q → P q q.rest) (follows x.session s.note) _ _
    (λ g e. subst (λ (y : Point). P y y.rest) (same_Some (noted_at x s) q e) (k.note x s (due_by x.session s.note g) h))
    (λ g e. absurd (none-some q e))

one_points : (P : Point → List Message → Type 0) → IsKeptBy P → (o : Option Point) (q : Point) (s : Sealed)
    → ((x : Point) → o ≡ Some x → P x x.rest) → reads_one s o ≡ Some q → P q q.rest
one_points P k None q s link h = absurd (none-some q h)
one_points P k (Some x) q s link h = session_points P k x q s (link x refl) h

pub notes_points : (P : Point → List Message → Type 0) → IsKeptBy P → (ss : List Sealed) (o : Option Point) (q : Point)
    → ((x : Point) → o ≡ Some x → P x x.rest) → reads_all o ss ≡ Some q → P q q.rest
notes_points P k ss None q link h = absurd (none-some q h)
notes_points P k [] (Some p) q link h = subst (λ (x : Point). P x x.rest) (same_Some p q h) (link p refl)
notes_points P k (s ∷ ss) (Some p) q link h =
    notes_points P k ss (reads p s) q
    (λ x e. one_points P k (gives_from (s.note.given - p.session.given) p p.rest) x s
    (λ y f. gives_points P k (s.note.given - p.session.given) p y p.rest (link p refl) f) e)
    h

-- of any notes that are read
pub read_notes : (P : Point → List Message → Type 0) → IsKeptBy P → (given : List Message) (notes : List Sealed) (q : Point)
    → P (start given) given → reads_all (Some (start given)) notes ≡ Some q → P q q.rest
read_notes P k given notes q h e =
    notes_points P k notes (Some (start given)) q
    (λ x f. subst (λ (y : Point). P y y.rest) (same_Some (start given) x f) h) e

-- and what the venue gave
pub read_points : (P : Point → List Message → Type 0) → IsKeptBy P → (given : List Message) (notes : List Sealed) (q : Point)
    → P (start given) given → reads_all (Some (start given)) notes ≡ Some q → P (gives_all q q.rest) []
read_points P k given notes q h e = all_points P k q q.rest (read_notes P k given notes q h e)
