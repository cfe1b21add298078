-- A number of the session's own is none of the venue's.
use Rattle.std.proofs.Common.{◌≡◌, ℕ, ◌+◌, ◌-◌, ◌≤◌, ◌<◌, Bool, true, false, ◌||◌, List, [], ◌∷◌, ◌++◌, ◌⊎◌, inl, inr, length, Option, Some, None, refl, sym, subst, arith, if◌then◌else◌}
use Rattle.std.proofs.lemmas.Bool.{cases_Bool, false≢true}
use Rattle.std.proofs.lemmas.Option.{none-some, same_Some}
use Rattle.laws_sessions.proofs.Choices.{choice}
use Rattle.laws_sessions.proofs.FoldPoints.{IsKeptBy, all_points, gives_points, noted_at, notes_points, read_notes}
use Rattle.laws_sessions.proofs.Numbered.{IsNumbered, Within, behind_up, numbered_is_kept}
use Rattle.laws_sessions.proofs.UsedNumbers.{Due, due_by, number_used, split}
use Rattle.laws_sessions.specs.Left.{IsKept}
use Rattle.session_recovery.specs.Notes.{after_note, follows, is_used_up, keeps_message, noted, number_due}
use Rattle.session_recovery.specs.Recovered.{Kept, Message, Point, Sealed, copies, gives_all, gives_from, is_reject, kept_by, kept_message, kept_reject, reads, reads_all, reads_one, start, with_message, with_session, without_rejects}
use Rattle.session_recovery.specs.declared.notes.NoteKind.{NoteKind}
use Rattle.session_recovery.specs.declared.notes.NoteKind.TheVariants as kind
use Rattle.session_recovery.specs.declared.points.Recovered.{Recovered}

-- no message of the venue is kept under this number
abbrev AreApart : ℕ → List Kept → Type 0
AreApart n [] = Unit {0}
AreApart n (k ∷ ks) = (1 ≤ k.ordinal → k.number ≡ n → ⊥) × AreApart n ks

upper : (low high : ℕ) (ks : List Kept) → Within low high ks → low ≤ high
upper low high [] w = w
upper low high (k ∷ ks) w = let a = w.0 in let b = upper (k.number + 1) high ks w.1 in omega (arith, a, b)

apart_within : (low high n : ℕ) (ks : List Kept) → (n < low) ⊎ (high ≤ n) → Within low high ks → AreApart n ks
apart_within low high n [] out w = tt
apart_within low high n (k ∷ ks) out w =
    let a = w.0 in
    let b = upper (k.number + 1) high ks w.1 in (
      (λ o e. elim out [ inl less ↦ omega (arith, less, a, e) | inr more ↦ omega (arith, more, b, e) ]),
      apart_within (k.number + 1) high n ks (elim out [ inl less ↦ inl (omega (arith, less, a)) | inr more ↦ inr more ]) w.1,
    )

apart_append : (n : ℕ) (ks : List Kept) (k : Kept) → (1 ≤ k.ordinal → k.number ≡ n → ⊥) → AreApart n ks → AreApart n (ks ++ (k ∷ []))
apart_append n [] k is h = (is, tt)
apart_append n (x ∷ ks) k is h = (h.0, apart_append n ks k is h.1)

apart_without : (n : ℕ) (ks : List Kept) → AreApart n ks → AreApart n (without_rejects ks)
apart_without n [] h = tt
apart_without n (k ∷ ks) h =
    choice (AreApart n) (is_reject k) (without_rejects ks) (k ∷ without_rejects ks)
    (λ g. apart_without n ks h.1) (λ g. (h.0, apart_without n ks h.1))

-- a reset begins another epoch; what else is noted keeps no message of the venue
abbrev is_reset_kind : NoteKind → Bool
is_reset_kind (kind.Reset since act) = true
is_reset_kind other = false

apart_by : (n : ℕ) (ks : List Kept) (s : Sealed) (k : NoteKind) → is_reset_kind k ≡ false → AreApart n ks → AreApart n (kept_by ks s k)
apart_by n ks s (kind.Logon last_logon resets) other h =
    choice (AreApart n) resets (without_rejects ks) ks (λ g. apart_without n ks h) (λ g. h)
apart_by n ks s kind.Own other h = h
apart_by n ks s kind.Reject other h = apart_append n ks (kept_reject s) (λ o e. absurd (omega (arith, o))) h
apart_by n ks s kind.Logout other h = h
apart_by n ks s (kind.Reset since act) other h = absurd (false≢true (sym other))
apart_by n ks s kind.Locked other h = h
apart_by n ks s (kind.Released act) other h = h
apart_by n ks s kind.Mark other h = h

next_on : (r : Recovered) (s : Sealed) (cs : ℕ) (k : NoteKind) → is_reset_kind k ≡ false → r.day.next ≤ (noted r s.note cs k).day.next
next_on r s cs (kind.Logon last_logon resets) other = behind_up (r.day.is_one_free || resets) r.day.next
next_on r s cs kind.Own other = omega arith
next_on r s cs kind.Reject other = omega arith
next_on r s cs kind.Logout other = behind_up r.day.is_one_free r.day.next
next_on r s cs (kind.Reset since act) other = absurd (false≢true (sym other))
next_on r s cs kind.Locked other = omega arith
next_on r s cs (kind.Released act) other = omega arith
next_on r s cs kind.Mark other = omega arith

epoch_on : (r : Recovered) (s : Sealed) (cs : ℕ) (k : NoteKind) → is_reset_kind k ≡ false → (noted r s.note cs k).epoch ≡ r.epoch
epoch_on r s cs (kind.Logon last_logon resets) other = refl
epoch_on r s cs kind.Own other = refl
epoch_on r s cs kind.Reject other = refl
epoch_on r s cs kind.Logout other = refl
epoch_on r s cs (kind.Reset since act) other = absurd (false≢true (sym other))
epoch_on r s cs kind.Locked other = refl
epoch_on r s cs (kind.Released act) other = refl
epoch_on r s cs kind.Mark other = refl

reset_epoch : (r : Recovered) (s : Sealed) (cs : ℕ) (k : NoteKind) → is_reset_kind k ≡ true → (noted r s.note cs k).epoch ≡ r.epoch + 1
reset_epoch r s cs (kind.Logon last_logon resets) h = absurd (false≢true h)
reset_epoch r s cs kind.Own h = absurd (false≢true h)
reset_epoch r s cs kind.Reject h = absurd (false≢true h)
reset_epoch r s cs kind.Logout h = absurd (false≢true h)
reset_epoch r s cs (kind.Reset since act) h = refl
reset_epoch r s cs kind.Locked h = absurd (false≢true h)
reset_epoch r s cs (kind.Released act) h = absurd (false≢true h)
reset_epoch r s cs kind.Mark h = absurd (false≢true h)

-- a number of this epoch
record IsApart (e n : ℕ) (p : Point) (rest : List Message) : Type 0 where
  epoch : e ≤ p.session.epoch
  next : e ≡ p.session.epoch → n < p.session.day.next
  kept : e ≡ p.session.epoch → AreApart n p.kept

apart_message : (e n : ℕ) (p : Point) (m : Message) (ms : List Message) → IsApart e n p (m ∷ ms) → IsApart e n (with_message p m ms) ms
apart_message e n p m ms h =
    let d = p.session.day in
    let k = kept_message p.session m in
    elim (cases_Bool (is_used_up d)) [
      | inl up ↦ record {
        epoch = h.epoch;
        next = λ same. subst (λ b. n < (if b then d else keeps_message d).next) (sym up) (h.next same);
        kept = λ same. subst (λ b. AreApart n (if b then p.kept else p.kept ++ (k ∷ []))) (sym up) (h.kept same);
      }
      | inr not ↦ record {
        epoch = h.epoch;
        next = λ same. subst (λ b. n < (if b then d else keeps_message d).next) (sym not) (let x = h.next same in omega (arith, x));
        kept = λ same. subst (λ b. AreApart n (if b then p.kept else p.kept ++ (k ∷ []))) (sym not)
            (apart_append n p.kept k (λ o is. (let x = h.next same in omega (arith, x, is))) (h.kept same));
      }
    ]

apart_noted : (e n : ℕ) (p : Point) (s : Sealed) → IsApart e n p p.rest → IsApart e n (noted_at p s) p.rest
apart_noted e n p s h =
    let cs = length (copies s.note.had p.kept) in
    let x = h.epoch in
    elim (cases_Bool (is_reset_kind s.note.kind)) [
      | inl reset ↦
          (let up = reset_epoch p.session s cs s.note.kind reset in
          record {
            epoch = omega (arith, x, up);
            next = λ same. absurd (omega (arith, x, up, same));
            kept = λ same. absurd (omega (arith, x, up, same));
          })
      | inr other ↦
          (let still = epoch_on p.session s cs s.note.kind other in
          let on = next_on p.session s cs s.note.kind other in
          record {
            epoch = omega (arith, x, still);
            next = λ same. (let y = h.next (omega (arith, same, still)) in omega (arith, y, on));
            kept = λ same. apart_by n p.kept s s.note.kind other (h.kept (omega (arith, same, still)));
          })
    ]

apart_is_kept : (e n : ℕ) → IsKeptBy (IsApart e n)
apart_is_kept e n = record {
  message = apart_message e n;
  rest = λ p ms rest h. record { epoch = h.epoch; next = h.next; kept = h.kept };
  note = λ p s due h. apart_noted e n p s h;
}

-- The number that a note names.

one_out : (b : Bool) (n next : ℕ) → n ≡ (if b then 1 else next) → (n < 2) ⊎ (next ≤ n)
one_out true n next h = inl (omega (arith, h))
one_out false n next h = inr (omega (arith, h))

due_out : (r : Recovered) (n : ℕ) (k : NoteKind) → n ≡ number_due r.day k → (n < 2) ⊎ (r.day.next ≤ n)
due_out r n (kind.Logon last_logon resets) h = one_out (r.day.is_one_free || resets) n r.day.next h
due_out r n kind.Own h = inr (omega (arith, h))
due_out r n kind.Reject h = inr (omega (arith, h))
due_out r n kind.Logout h = one_out r.day.is_one_free n r.day.next h
due_out r n (kind.Reset since act) h = inl (omega (arith, h))
due_out r n kind.Locked h = inl (omega (arith, h))
due_out r n (kind.Released act) h = inl (omega (arith, h))
due_out r n kind.Mark h = inl (omega (arith, h))

apart_here : (p : Point) (s : Sealed) → Due p.session s.note → IsNumbered p p.rest → IsApart s.note.epoch s.note.number (noted_at p s) p.rest
apart_here p s due h =
    let cs = length (copies s.note.had p.kept) in
    let k = s.note.kind in
    let n = s.note.number in
    let at = due.epoch in
    elim (cases_Bool (is_reset_kind k)) [
      | inl reset ↦
          (let up = reset_epoch p.session s cs k reset in
          record {
            epoch = omega (arith, at, up);
            next = λ same. absurd (omega (arith, at, up, same));
            kept = λ same. absurd (omega (arith, at, up, same));
          })
      | inr other ↦
          (let still = epoch_on p.session s cs k other in
          record {
            epoch = omega (arith, at, still);
            next = λ same. number_used p.session s.note cs k (upper 2 p.session.day.next p.kept h.within) due.number;
            kept = λ same. apart_by n p.kept s k other
                (apart_within 2 p.session.day.next n p.kept (due_out p.session n k due.number) h.within);
          })
    ]

session_apart : (x q : Point) (s : Sealed) → IsNumbered x x.rest
    → with_session x s (after_note x.session s.note (length (copies s.note.had x.kept))) ≡ Some q → IsApart s.note.epoch s.note.number q q.rest
session_apart x q s h =
    choice (λ o. with_session x s o ≡ Some q → IsApart s.note.epoch s.note.number q q.rest) (follows x.session s.note) _ _
    (λ g e. subst (λ (y : Point). IsApart s.note.epoch s.note.number y y.rest) (same_Some (noted_at x s) q e)
    (apart_here x s (due_by x.session s.note g) h))
    (λ g e. absurd (none-some q e))

one_apart : (o : Option Point) (q : Point) (s : Sealed) → ((x : Point) → o ≡ Some x → IsNumbered x x.rest) → reads_one s o ≡ Some q
    → IsApart s.note.epoch s.note.number q q.rest
one_apart None q s link h = absurd (none-some q h)
one_apart (Some x) q s link h = session_apart x q s (link x refl) h

apart_in : (n : ℕ) (ks : List Kept) (x : Kept) → AreApart n ks → IsKept x ks → 1 ≤ x.ordinal → x.number ≡ n → ⊥
apart_in n [] x h k low e = absurd k
apart_in n (y ∷ ks) x h (inl same) low e =
    h.0 (subst (λ (z : Kept). 1 ≤ z.ordinal) same low) (subst (λ (z : Kept). z.number ≡ n) same e)
apart_in n (y ∷ ks) x h (inr k) low e = apart_in n ks x h.1 k low e

-- of any notes that are read, and what the venue gave
pub own_apart : (given : List Message) (before after : List Sealed) (s : Sealed) (p : Point) (x : Kept)
    → reads_all (Some (start given)) (before ++ (s ∷ after)) ≡ Some p → s.note.epoch ≡ (gives_all p p.rest).session.epoch
    → IsKept x (gives_all p p.rest).kept → 1 ≤ x.ordinal → x.number ≡ s.note.number → ⊥
own_apart given before after s p x h same k low e =
    let parts = split before (s ∷ after) (Some (start given)) p h in
    let y = parts.at in
    let A = IsApart s.note.epoch s.note.number in
    let kept = apart_is_kept s.note.epoch s.note.number in
    let at = read_notes IsNumbered numbered_is_kept given before y (record { within = omega arith; low = tt }) parts.first in
    let end = notes_points A kept after (reads y s) p
    (λ z f. one_apart (gives_from (s.note.given - y.session.given) y y.rest) z s
    (λ w g. gives_points IsNumbered numbered_is_kept (s.note.given - y.session.given) y w y.rest at g) f) parts.behind in
    let all = all_points A kept p p.rest end in
    apart_in s.note.number (gives_all p p.rest).kept x (all.kept same) k low e
