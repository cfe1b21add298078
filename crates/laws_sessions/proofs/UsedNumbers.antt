-- Each number that a note names is used, in its epoch.
use Rattle.std.proofs.Common.{◌≡◌, ℕ, zero, suc, ◌+◌, ◌-◌, ◌≤◌, ◌<◌, Bool, true, false, ◌&&◌, ◌||◌, ◌==◌, ◌⊎◌, inl, inr, nat_le, List, [], ◌∷◌, ◌++◌, length, Option, Some, None, refl, sym, subst, ◌∙◌, arith, if◌then◌else◌}
use Rattle.std.proofs.lemmas.Bool.{and_parts, eqb-true}
use Rattle.std.proofs.lemmas.Option.{none-some, same_Some}
use Rattle.fix_sessions.specs.declared.state.Day.{Day}
use Rattle.laws_sessions.proofs.Choices.{choice}
use Rattle.laws_sessions.specs.Used.{AreUsed, IsAbove, IsUsed}
use Rattle.session_recovery.specs.Notes.{after_note, follows, is_act_next, is_counted, is_same, is_used_up, keeps_message, noted, number_due}
use Rattle.session_recovery.specs.Recovered.{Message, Point, Sealed, copies, gives_all, gives_from, reads, reads_all, reads_one, start, with_message, with_session}
use Rattle.session_recovery.specs.declared.notes.Note.{Note}
use Rattle.session_recovery.specs.declared.notes.NoteKind.{NoteKind}
use Rattle.session_recovery.specs.declared.notes.NoteKind.TheVariants as kind
use Rattle.session_recovery.specs.declared.points.Recovered.{Recovered}

-- the session goes on: numbers rise within an epoch, and epochs rise
pub record GoesOn (a b : Recovered) : Type 0 where
  pub epoch : a.epoch ≤ b.epoch
  pub next : a.epoch ≡ b.epoch → a.day.next ≤ b.day.next
  pub two : 2 ≤ a.day.next → 2 ≤ b.day.next
  pub one : a.epoch ≡ b.epoch → a.day.is_one_free ≡ false → b.day.is_one_free ≡ false

goes_still : (a : Recovered) → GoesOn a a
goes_still a = record { epoch = omega arith; next = λ h. omega arith; two = λ h. h; one = λ e h. h }

goes_twice : (a b c : Recovered) → GoesOn a b → GoesOn b c → GoesOn a c
goes_twice a b c f g =
    let x = f.epoch in let y = g.epoch in
    record {
      epoch = omega (arith, x, y);
      next = λ h. (let p = f.next (omega (arith, x, y, h)) in let q = g.next (omega (arith, x, y, h)) in omega (arith, p, q));
      two = λ h. g.two (f.two h);
      one = λ e h. g.one (omega (arith, x, y, e)) (f.one (omega (arith, x, y, e)) h);
    }

-- A message of the venue.

message_day : (d : Day) → (d.next ≤ (if is_used_up d then d else keeps_message d).next)
    × ((if is_used_up d then d else keeps_message d).is_one_free ≡ d.is_one_free)
message_day d =
    choice (λ (e : Day). (d.next ≤ e.next) × (e.is_one_free ≡ d.is_one_free)) (is_used_up d) _ _
    (λ h. (omega arith, refl)) (λ h. (omega arith, refl))

message_on : (p : Point) (m : Message) (ms : List Message) → GoesOn p.session (with_message p m ms).session
message_on p m ms =
    let d = message_day p.session.day in
    let up = d.0 in
    record {
      epoch = omega arith;
      next = λ h. up;
      two = λ h. omega (arith, up, h);
      one = λ e h. d.1 ∙ h;
    }

gives_on : (count : ℕ) (p q : Point) (ms : List Message) → gives_from count p ms ≡ Some q → GoesOn p.session q.session
gives_on zero p q ms h = subst (λ x. GoesOn p.session x.session) (same_Some _ q h) (goes_still p.session)
gives_on (suc count) p q [] h = absurd (none-some q h)
gives_on (suc count) p q (m ∷ ms) h =
    goes_twice p.session (with_message p m ms).session q.session (message_on p m ms)
    (gives_on count (with_message p m ms) q ms h)

all_on : (p : Point) (ms : List Message) → GoesOn p.session (gives_all p ms).session
all_on p [] = goes_still p.session
all_on p (m ∷ ms) =
    goes_twice p.session (with_message p m ms).session (gives_all (with_message p m ms) ms).session (message_on p m ms)
    (all_on (with_message p m ms) ms)

-- A note.

behind_up : (b : Bool) (next : ℕ) → next ≤ (if b then next else next + 1)
behind_up true next = omega arith
behind_up false next = omega arith

behind_used : (b : Bool) (next : ℕ) → 2 ≤ next → (if b then 1 else next) < (if b then next else next + 1)
behind_used true next h = h
behind_used false next h = omega arith

same_on : (r : Recovered) (c : Recovered) → c.epoch ≡ r.epoch → r.day.next ≤ c.day.next
    → (r.day.is_one_free ≡ false → c.day.is_one_free ≡ false) → GoesOn r c
same_on r c e up one = record {
  epoch = omega (arith, e);
  next = λ h. up;
  two = λ h. omega (arith, up, h);
  one = λ g h. one h;
}

noted_on : (r : Recovered) (n : Note) (cs : ℕ) (k : NoteKind) → GoesOn r (noted r n cs k)
noted_on r n cs (kind.Logon last_logon resets) =
    same_on r _ refl (behind_up (r.day.is_one_free || resets) r.day.next) (λ h. refl)
noted_on r n cs kind.Own = same_on r _ refl (omega arith) (λ h. h)
noted_on r n cs kind.Reject = same_on r _ refl (omega arith) (λ h. h)
noted_on r n cs kind.Logout = same_on r _ refl (behind_up r.day.is_one_free r.day.next) (λ h. refl)
noted_on r n cs (kind.Reset since act) = record {
  epoch = omega arith;
  next = λ h. absurd (omega (arith, h));
  two = λ h. omega arith;
  one = λ e h. absurd (omega (arith, e));
}
noted_on r n cs kind.Locked = same_on r _ refl (omega arith) (λ h. h)
noted_on r n cs (kind.Released act) = same_on r _ refl (omega arith) (λ h. h)
noted_on r n cs kind.Mark = same_on r _ refl (omega arith) (λ h. h)

pub number_used : (r : Recovered) (n : Note) (cs : ℕ) (k : NoteKind) → 2 ≤ r.day.next → n.number ≡ number_due r.day k
    → n.number < (noted r n cs k).day.next
number_used r n cs (kind.Logon last_logon resets) two e =
    let b = r.day.is_one_free || resets in
    subst (λ x. x < (if b then r.day.next else r.day.next + 1)) (sym e) (behind_used b r.day.next two)
number_used r n cs kind.Own two e = omega (arith, e)
number_used r n cs kind.Reject two e = omega (arith, e)
number_used r n cs kind.Logout two e =
    let b = r.day.is_one_free in
    subst (λ x. x < (if b then r.day.next else r.day.next + 1)) (sym e) (behind_used b r.day.next two)
number_used r n cs (kind.Reset since act) two e = omega (arith, e)
number_used r n cs kind.Locked two e = omega (arith, e, two)
number_used r n cs (kind.Released act) two e = omega (arith, e, two)
number_used r n cs kind.Mark two e = omega (arith, e, two)

number_one : (r : Recovered) (n : Note) (cs : ℕ) (k : NoteKind) → 2 ≤ r.day.next → n.number ≡ number_due r.day k
    → n.number ≡ 1 → (noted r n cs k).day.is_one_free ≡ false
number_one r n cs (kind.Logon last_logon resets) two e h = refl
number_one r n cs kind.Own two e h = absurd (omega (arith, e, two, h))
number_one r n cs kind.Reject two e h = absurd (omega (arith, e, two, h))
number_one r n cs kind.Logout two e h = refl
number_one r n cs (kind.Reset since act) two e h = absurd (omega (arith, e, h))
number_one r n cs kind.Locked two e h = absurd (omega (arith, e, h))
number_one r n cs (kind.Released act) two e h = absurd (omega (arith, e, h))
number_one r n cs kind.Mark two e h = absurd (omega (arith, e, h))

noted_used : (r : Recovered) (n : Note) (cs : ℕ) (k : NoteKind) → 2 ≤ r.day.next → n.epoch ≡ r.epoch
    → n.number ≡ number_due r.day k → IsUsed (noted r n cs k) n
noted_used r n cs k two same e =
    let g = (noted_on r n cs k).epoch in
    record {
      epoch = omega (arith, same, g);
      next = λ h. number_used r n cs k two e;
      one = λ h. number_one r n cs k two e;
    }

stays_used : (a b : Recovered) (n : Note) → IsUsed a n → GoesOn a b → IsUsed b n
stays_used a b n u g =
    let x = u.epoch in let y = g.epoch in
    record {
      epoch = omega (arith, x, y);
      next = λ h. (let p = u.next (omega (arith, x, y, h)) in let q = g.next (omega (arith, x, y, h)) in omega (arith, p, q));
      one = λ h e. g.one (omega (arith, x, y, h)) (u.one (omega (arith, x, y, h)) e);
    }

stay_used : (a b : Recovered) (ss : List Sealed) → AreUsed a ss → GoesOn a b → AreUsed b ss
stay_used a b [] u g = tt
stay_used a b (s ∷ ss) u g = (stays_used a b s.note u.0 g, stay_used a b ss u.1 g)

-- what a note says that follows
pub record Due (r : Recovered) (n : Note) : Type 0 where
  pub epoch : n.epoch ≡ r.epoch
  pub given : n.given ≡ r.given
  pub number : n.number ≡ number_due r.day n.kind
  pub counted : is_counted r.day n n.kind ≡ true

pub due_by : (r : Recovered) (n : Note) → follows r n ≡ true → Due r n
due_by r n h =
    let a = n.epoch == r.epoch in
    let b = n.given == r.given in
    let c = is_same n.digest r.digest in
    let d = n.number == number_due r.day n.kind in
    let e = nat_le r.day.had n.had in
    let f = is_counted r.day n n.kind in
    let g = is_act_next r n.kind in
    let six = (and_parts (a && b && c && d && e && f) g h).0 in
    let counted = and_parts (a && b && c && d && e) f six in
    let four = (and_parts (a && b && c && d) e counted.0).0 in
    let number = and_parts (a && b && c) d four in
    let epoch = and_parts a b (and_parts (a && b) c number.0).0 in
    record {
      epoch = eqb-true n.epoch r.epoch epoch.0;
      given = eqb-true n.given r.given epoch.1;
      number = eqb-true n.number (number_due r.day n.kind) number.1;
      counted = counted.1;
    }

-- a note that is read at a point
pub record Reading (p q : Point) (s : Sealed) : Type 0 where
  pub at : Point
  pub before : GoesOn p.session at.session
  pub due : Due at.session s.note
  pub after : GoesOn at.session q.session
  pub used : 2 ≤ at.session.day.next → IsUsed q.session s.note

session_read : (p x q : Point) (s : Sealed) → GoesOn p.session x.session
    → with_session x s (after_note x.session s.note (length (copies s.note.had x.kept))) ≡ Some q → Reading p q s
session_read p x q s g =
    let cs = length (copies s.note.had x.kept) in
    choice (λ o. with_session x s o ≡ Some q → Reading p q s) (follows x.session s.note) _ _
    (λ h e. (let due = due_by x.session s.note h in
    record {
      at = x;
      before = g;
      due = due;
      after = subst (λ y. GoesOn x.session y.session) (same_Some _ q e) (noted_on x.session s.note cs s.note.kind);
      used = λ two. subst (λ y. IsUsed y.session s.note) (same_Some _ q e)
          (noted_used x.session s.note cs s.note.kind two due.epoch due.number);
    }))
    (λ h e. absurd (none-some q e))

one_read : (o : Option Point) (p q : Point) (s : Sealed) → ((x : Point) → o ≡ Some x → GoesOn p.session x.session)
    → reads_one s o ≡ Some q → Reading p q s
one_read None p q s link h = absurd (none-some q h)
one_read (Some x) p q s link h = session_read p x q s (link x refl) h

reading : (p q : Point) (s : Sealed) → reads p s ≡ Some q → Reading p q s
reading p q s h =
    one_read (gives_from (s.note.given - p.session.given) p p.rest) p q s
    (λ x e. gives_on (s.note.given - p.session.given) p x p.rest e) h

-- All notes.

pub record AllRead (p q : Point) (ss : List Sealed) : Type 0 where
  pub on : GoesOn p.session q.session
  pub used : AreUsed q.session ss

then_read : (o : Option Point) (p q : Point) (s : Sealed) (ss : List Sealed) → 2 ≤ p.session.day.next
    → ((x : Point) → o ≡ Some x → Reading p x s)
    → ((x : Point) → 2 ≤ x.session.day.next → reads_all (Some x) ss ≡ Some q → AllRead x q ss)
    → reads_all o ss ≡ Some q → AllRead p q (s ∷ ss)
then_read None p q s ss two one more h = absurd (none-some q h)
then_read (Some x) p q s ss two one more h =
    let r = one x refl in
    let on = goes_twice p.session r.at.session x.session r.before r.after in
    let a = more x (on.two two) h in
    record {
      on = goes_twice p.session x.session q.session on a.on;
      used = (stays_used x.session q.session s.note (r.used (r.before.two two)) a.on, a.used);
    }

all_read : (ss : List Sealed) (p q : Point) → 2 ≤ p.session.day.next → reads_all (Some p) ss ≡ Some q → AllRead p q ss
all_read [] p q two h = record {
  on = subst (λ x. GoesOn p.session x.session) (same_Some p q h) (goes_still p.session);
  used = tt;
}
all_read (s ∷ ss) p q two h =
    then_read (reads p s) p q s ss two (λ x e. reading p x s e) (λ x t g. all_read ss x q t g) h

pub used_at_start : (given : List Message) (notes : List Sealed) (p : Point) → reads_all (Some (start given)) notes ≡ Some p
    → AreUsed (gives_all p p.rest).session notes
used_at_start given notes p h =
    let a = all_read notes (start given) p (omega arith) h in
    stay_used p.session (gives_all p p.rest).session notes a.used (all_on p p.rest)

-- Numbers rise.

number_or : (d : Day) (k : NoteKind) → (number_due d k ≤ 1) ⊎ (number_due d k ≡ d.next)
number_or d (kind.Logon last_logon resets) =
    choice (λ (n : ℕ). (n ≤ 1) ⊎ (n ≡ d.next)) (d.is_one_free || resets) 1 d.next (λ h. inl (omega arith)) (λ h. inr refl)
number_or d kind.Own = inr refl
number_or d kind.Reject = inr refl
number_or d kind.Logout =
    choice (λ (n : ℕ). (n ≤ 1) ⊎ (n ≡ d.next)) d.is_one_free 1 d.next (λ h. inl (omega arith)) (λ h. inr refl)
number_or d (kind.Reset since act) = inl (omega arith)
number_or d kind.Locked = inl (omega arith)
number_or d (kind.Released act) = inl (omega arith)
number_or d kind.Mark = inl (omega arith)

above_all : (r : Recovered) (n : Note) (ss : List Sealed) → AreUsed r ss → Due r n → IsAbove n ss
above_all r n [] u due = tt
above_all r n (s ∷ ss) u due = (
  λ h. (let below = u.0.next (h ∙ due.epoch) in
      let e = due.number in
      elim (number_or r.day n.kind) [
        | inl low ↦ inr (omega (arith, e, low))
        | inr next ↦ inl (omega (arith, e, next, below))
      ]),
  above_all r n ss u.1 due,
)

above_read : (o : Option Point) (p q : Point) (s : Sealed) (before after : List Sealed) → AreUsed p.session before
    → ((x : Point) → o ≡ Some x → Reading p x s) → reads_all o after ≡ Some q → IsAbove s.note before
above_read None p q s before after u one h = absurd (none-some q h)
above_read (Some x) p q s before after u one h =
    let r = one x refl in above_all r.at.session s.note before (stay_used p.session r.at.session before u r.before) r.due

-- a point behind the first notes
pub record Split (o : Option Point) (a b : List Sealed) (q : Point) : Type 0 where
  pub at : Point
  pub first : reads_all o a ≡ Some at
  pub behind : reads_all (Some at) b ≡ Some q

pub split : (a b : List Sealed) (o : Option Point) (q : Point) → reads_all o (a ++ b) ≡ Some q → Split o a b q
split a b None q h = absurd (none-some q h)
split [] b (Some p) q h = record { at = p; first = refl; behind = h }
split (s ∷ a) b (Some p) q h =
    let r = split a b (reads p s) q h in record { at = r.at; first = r.first; behind = r.behind }

pub numbers_rise : (given : List Message) (before after : List Sealed) (s : Sealed) (p : Point)
    → reads_all (Some (start given)) (before ++ (s ∷ after)) ≡ Some p → IsAbove s.note before
numbers_rise given before after s p h =
    let r = split before (s ∷ after) (Some (start given)) p h in
    let a = all_read before (start given) r.at (omega arith) r.first in
    above_read (reads r.at s) r.at p s before after a.used (λ x e. reading r.at x s e) r.behind
