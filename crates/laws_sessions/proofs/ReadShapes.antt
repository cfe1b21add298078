-- What each turn puts is read, by its shape.
use Rattle.std.proofs.Common.{◌≡◌, ℕ, ◌≤◌, Bool, true, false, List, [], ◌∷◌, ◌++◌, ◌⊎◌, inl, inr, refl, sym, ap, subst, ◌∙◌, arith, append-nil, if◌then◌else◌}
use Rattle.std.proofs.lemmas.Bool.{cases_Bool}
use Rattle.fix_sessions.specs.Logons.{refusal_day, refusal_number}
use Rattle.fix_sessions.specs.Outcomes.{used}
use Rattle.fix_sessions.specs.declared.state.Day.{Day}
use Rattle.fix_sessions.specs.declared.turns.Turn.{Turn}
use Rattle.laws_sessions.proofs.Choices.{choice}
use Rattle.laws_sessions.proofs.ReadNotes.{IsAt, Reads, le_is, near, reads_more}
use Rattle.laws_sessions.proofs.ReadTurns.{SameUse, behind, body_in, is_reject_kind, kept_is, kept_same, lock_none, lock_some, logon_read, logout_read, new_none, new_reject, own_read, refusal_marks, reject_read, sealed_of, silent_read, twice_read, use_stays, used_marks, with_day}
use Rattle.laws_sessions.proofs.ShapedLogons.{Accepted}
use Rattle.laws_sessions.proofs.Shapes.{Both, Goes, Locks, LocksAndRefuses, LogsOut, Own, Refuses, Rejects, Shape, Silently, locks}
use Rattle.laws_sessions.specs.Agrees.{as_recovered, marks}
use Rattle.laws_sessions.specs.Memory.{Memory, kept_after, kept_new, standing}
use Rattle.session_recovery.specs.Notes.{noted_day}
use Rattle.session_recovery.specs.Puts.{note_of, put_by, sealed_by}
use Rattle.session_recovery.specs.Recovered.{Kept, Point, Sealed, kept_reject, without_rejects}
use Rattle.session_recovery.specs.declared.notes.NoteKind.TheVariants as kind

abbrev pub whole : Memory → Turn → ℕ → List Sealed
whole m t moment = sealed_by (put_by (standing m moment) m.session.day t) t

unlocked : (q : Point) (m : Memory) (t : Turn) (moment : ℕ) (ts : List Kept)
    → t.session.day.is_locked ≡ m.session.day.is_locked
    → Reads q (behind (standing m moment) m.session.day t) (with_day m t.session.day) ts
    → Reads q (whole m t moment) (with_day m t.session.day) ts
unlocked q m t moment ts e r =
    let st = standing m moment in
    subst (λ ns. Reads q (ns ++ behind st m.session.day t) (with_day m t.session.day) ts)
    (sym (lock_none st m.session.day t.session.day e)) r

abbrev Locking : Memory → Turn → ℕ → List Kept → Type 0
Locking m t moment ts =
    (p : Point) (dc : Day) → IsAt p (with_day m dc) m.kept → marks dc ≡ locks (marks m.session.day)
    → dc.expected ≤ t.session.day.expected → dc.had ≤ t.session.day.had → SameUse m.session.day dc t.session.day
    → Reads p (behind (standing m moment) m.session.day t) (with_day m t.session.day) ts

locked_read : (q : Point) (m : Memory) (t : Turn) (moment : ℕ) (ts : List Kept) → IsAt q (as_recovered m) m.kept
    → m.session.day.expected ≤ t.session.day.expected → m.session.day.had ≤ t.session.day.had
    → t.session.day.is_locked ≡ true → Locking m t moment ts
    → Reads q (whole m t moment) (with_day m t.session.day) ts
locked_read q m t moment ts a up had e more =
    let d = m.session.day in
    let after = t.session.day in
    let st = standing m moment in
    let s = sealed_of st after 0 kind.Locked [] in
    elim (cases_Bool d.is_locked) [
      | inl h ↦
          unlocked q m t moment ts (e ∙ sym h)
          (more q d a (ap (λ b. record (marks d) { is_locked = b }) h) up had (use_stays d after up))
      | inr h ↦
          subst (λ ns. Reads q (ns ++ behind st d t) (with_day m after) ts) (sym (lock_some st d after e h))
          (reads_more q s (behind st d t) (as_recovered m) (with_day m after) m.kept ts (near _ _ _ _ a)
          (record {
            epoch = refl;
            given = refl;
            digest = refl;
            number = refl;
            had = had;
            counted = le_is d.expected after.expected up;
            act = refl;
          })
          (λ p b. more p (noted_day d s.note 0 kind.Locked) b refl (omega arith) (omega arith) (λ g. refl)))
    ]

refusal_locked : (d : Day) → (refusal_day d).is_locked ≡ d.is_locked
refusal_locked d = choice (λ (e : Day). e.is_locked ≡ d.is_locked) d.is_one_free _ _ (λ h. refl) (λ h. refl)

shape_read : (q : Point) (m : Memory) (t : Turn) (moment : ℕ) (live : Bool) → IsAt q (as_recovered m) m.kept
    → (live ≡ true → m.session.day.is_one_free ≡ false) → t.drops_rejects ≡ false
    → m.session.day.expected ≤ t.session.day.expected → m.session.day.had ≤ t.session.day.had
    → Shape live (marks m.session.day) t
    → Reads q (whole m t moment) (with_day m t.session.day) (kept_after m.kept moment t)
shape_read q m t moment live a one drops up had (Silently s) =
    let d = m.session.day in
    let l = t.session.day.last_logon in
    subst (λ ks. Reads q (whole m t moment) (with_day m t.session.day) ks)
    (sym (kept_same m.kept moment t drops (new_none l moment t.first (ap is_reject_kind (s.first l)))))
    (unlocked q m t moment m.kept (ap (λ (x : Day). x.is_locked) s.day)
    (silent_read q m d d t moment m.kept a s up had (use_stays d t.session.day up)))
shape_read q m t moment live a one drops up had (Own s) =
    let d = m.session.day in
    let l = t.session.day.last_logon in
    subst (λ ks. Reads q (whole m t moment) (with_day m t.session.day) ks)
    (sym (kept_same m.kept moment t drops (new_none l moment t.first (ap is_reject_kind (s.noted l)))))
    (unlocked q m t moment m.kept (ap (λ (x : Day). x.is_locked) s.day)
    (own_read q m d d t moment m.kept a s up had))
shape_read q m t moment live a one drops up had (Rejects s k) =
    let d = m.session.day in
    let after = t.session.day in
    let l = after.last_logon in
    let new = kept_reject (sealed_of (standing m moment) after d.next kind.Reject (body_in t.first)) ∷ [] in
    subst (λ ks. Reads q (whole m t moment) (with_day m after) ks)
    (sym (kept_is m.kept moment t new drops (new_reject m l moment after t.first d.next (s.noted l) s.number k)))
    (unlocked q m t moment (m.kept ++ new) (ap (λ (x : Day). x.is_locked) s.day)
    (reject_read q m d d t moment m.kept a s up had))
shape_read q m t moment live a one drops up had (LogsOut h s) =
    let d = m.session.day in
    let after = t.session.day in
    let l = after.last_logon in
    subst (λ ks. Reads q (whole m t moment) (with_day m after) ks)
    (sym (kept_same m.kept moment t drops (new_none l moment t.first (ap is_reject_kind (s.noted l)))))
    (unlocked q m t moment m.kept (ap (λ (x : Day). x.is_locked) s.day)
    (logout_read q m d d t moment m.kept d.next (used (marks d)) a s
    (ap (λ b. if b then 1 else d.next) (sym (one h)))
    (used_marks d (note_of (standing m moment) after d.next kind.Logout) (one h)) up had))
shape_read q m t moment live a one drops up had (Both h s) =
    let d = m.session.day in
    let after = t.session.day in
    let l = after.last_logon in
    let new = kept_reject (sealed_of (standing m moment) after d.next kind.Reject (body_in t.first)) ∷ [] in
    subst (λ ks. Reads q (whole m t moment) (with_day m after) ks)
    (sym (kept_is m.kept moment t new drops (new_reject m l moment after t.first d.next (s.noted l) s.number s.kept)))
    (unlocked q m t moment (m.kept ++ new) (ap (λ (x : Day). x.is_locked) s.day)
    (twice_read q m d d t moment m.kept a s (one h) up had))
shape_read q m t moment live a one drops up had (Refuses s) =
    let d = m.session.day in
    let after = t.session.day in
    let l = after.last_logon in
    subst (λ ks. Reads q (whole m t moment) (with_day m after) ks)
    (sym (kept_same m.kept moment t drops (new_none l moment t.first (ap is_reject_kind (s.noted l)))))
    (unlocked q m t moment m.kept (ap (λ (x : Day). x.is_locked) s.day ∙ refusal_locked (marks d))
    (logout_read q m d d t moment m.kept (refusal_number (marks d)) (refusal_day (marks d)) a s refl
    (refusal_marks d (note_of (standing m moment) after (refusal_number (marks d)) kind.Logout)) up had))
shape_read q m t moment live a one drops up had (Locks s) =
    let d = m.session.day in
    let l = t.session.day.last_logon in
    subst (λ ks. Reads q (whole m t moment) (with_day m t.session.day) ks)
    (sym (kept_same m.kept moment t drops (new_none l moment t.first (ap is_reject_kind (s.first l)))))
    (locked_read q m t moment m.kept a up had (ap (λ (x : Day). x.is_locked) s.day)
    (λ p dc b e low less same. silent_read p m d dc t moment m.kept b
    (record { first = s.first; second = s.second; day = s.day ∙ sym e }) low less same))
shape_read q m t moment live a one drops up had (LocksAndRefuses s) =
    let d = m.session.day in
    let after = t.session.day in
    let l = after.last_logon in
    subst (λ ks. Reads q (whole m t moment) (with_day m after) ks)
    (sym (kept_same m.kept moment t drops (new_none l moment t.first (ap is_reject_kind (s.noted l)))))
    (locked_read q m t moment m.kept a up had
    (ap (λ (x : Day). x.is_locked) s.day ∙ refusal_locked (locks (marks d)))
    (λ p dc b e low less same. logout_read p m d dc t moment m.kept (refusal_number (marks d)) (refusal_day (locks (marks d))) b s
    (ap refusal_number (sym e))
    (refusal_marks dc (note_of (standing m moment) after (refusal_number (marks d)) kind.Logout) ∙ ap refusal_day e) low less))

accepted_read : (q : Point) (m : Memory) (t : Turn) (moment : ℕ) → IsAt q (as_recovered m) m.kept
    → Accepted m.session.day t
    → Reads q (whole m t moment) (with_day m t.session.day) (kept_after m.kept moment t)
accepted_read q m t moment a s =
    let d = m.session.day in
    let l = t.session.day.last_logon in
    let ks = if s.resets then without_rejects m.kept else m.kept in
    let kept = ap (λ b. (if b then without_rejects m.kept else m.kept) ++ kept_new moment t.first) s.drops
    ∙ (ap (λ new. ks ++ new) (new_none l moment t.first (ap is_reject_kind (s.kind l))) ∙ append-nil ks) in
    subst (λ x. Reads q (whole m t moment) (with_day m t.session.day) x) (sym kept)
    (unlocked q m t moment ks s.locked (logon_read q m d t moment m.kept a s))

pub turn_read : (q : Point) (m : Memory) (t : Turn) (moment : ℕ) (live : Bool) → IsAt q (as_recovered m) m.kept
    → (live ≡ true → m.session.day.is_one_free ≡ false)
    → Goes live m.session.day t ⊎ Accepted m.session.day t
    → Reads q (whole m t moment) (with_day m t.session.day) (kept_after m.kept moment t)
turn_read q m t moment live a one (inl g) = shape_read q m t moment live a one g.drops g.expected g.had g.shape
turn_read q m t moment live a one (inr s) = accepted_read q m t moment a s

-- Number 1 stays used.

refusal_used : (d : Day) → d.is_one_free ≡ false → (refusal_day d).is_one_free ≡ false
refusal_used d h = choice (λ (e : Day). e.is_one_free ≡ false) d.is_one_free _ _ (λ g. refl) (λ g. h)

shape_used : (live : Bool) (d : Day) (t : Turn) → Shape live (marks d) t → d.is_one_free ≡ false
    → t.session.day.is_one_free ≡ false
shape_used live d t (Silently s) h = ap (λ (x : Day). x.is_one_free) s.day ∙ h
shape_used live d t (Own s) h = ap (λ (x : Day). x.is_one_free) s.day ∙ h
shape_used live d t (Rejects s k) h = ap (λ (x : Day). x.is_one_free) s.day ∙ h
shape_used live d t (LogsOut e s) h = ap (λ (x : Day). x.is_one_free) s.day ∙ h
shape_used live d t (Both e s) h = ap (λ (x : Day). x.is_one_free) s.day ∙ h
shape_used live d t (Refuses s) h = ap (λ (x : Day). x.is_one_free) s.day ∙ refusal_used (marks d) h
shape_used live d t (Locks s) h = ap (λ (x : Day). x.is_one_free) s.day ∙ h
shape_used live d t (LocksAndRefuses s) h =
    ap (λ (x : Day). x.is_one_free) s.day ∙ refusal_used (locks (marks d)) h

pub turn_used : (live : Bool) (d : Day) (t : Turn) → Goes live d t ⊎ Accepted d t → d.is_one_free ≡ false
    → t.session.day.is_one_free ≡ false
turn_used live d t (inl g) h = shape_used live d t g.shape h
turn_used live d t (inr s) h = ap (λ (x : Day). x.is_one_free) s.day
