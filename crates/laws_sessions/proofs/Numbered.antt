-- Under one number one message is kept.
use Rattle.std.proofs.Common.{◌≡◌, ℕ, ◌+◌, ◌≤◌, Bool, true, false, ◌||◌, nat_lt, List, [], ◌∷◌, ◌++◌, ◌⊎◌, inl, inr, length, Some, refl, sym, ap, subst, ◌∙◌, arith, if◌then◌else◌}
use Rattle.std.proofs.lemmas.Bool.{cases_Bool, false≢true}
use Rattle.std.proofs.lemmas.Bool.Decides.{nat_tests}
use Rattle.std.proofs.lemmas.Option.{same_Some}
use Rattle.fix_sessions.specs.declared.texts.Names.{Names}
use Rattle.laws_sessions.proofs.Acts.{acts_next, all_stand}
use Rattle.laws_sessions.proofs.Choices.{choice}
use Rattle.laws_sessions.proofs.FoldPoints.{IsKeptBy, read_points}
use Rattle.laws_sessions.proofs.Leaving.{leaves_ever}
use Rattle.laws_sessions.proofs.ReadNotes.{all}
use Rattle.laws_sessions.proofs.Starting.{Stands}
use Rattle.laws_sessions.specs.Leaves.{AreWithoutResets, MayLeave}
use Rattle.laws_sessions.specs.Left.{IsKept}
use Rattle.laws_sessions.specs.Starts.{Act, AreSoundActs, IsRecovered, World, all_notes, first_world, world_after_all}
use Rattle.session_recovery.specs.Notes.{at_most_last, is_used_up, keeps_message, noted, number_due}
use Rattle.session_recovery.specs.Recovered.{Kept, Message, Point, Sealed, copies, copies_from, is_reject, kept_by, kept_message, kept_reject, with_message, without_rejects}
use Rattle.session_recovery.specs.declared.days.TheConstants.{LAST_NUMBER}
use Rattle.session_recovery.specs.declared.notes.NoteKind.{NoteKind}
use Rattle.session_recovery.specs.declared.notes.NoteKind.TheVariants as kind
use Rattle.session_recovery.specs.declared.points.Recovered.{Recovered}

-- numbers rise from this one on, and are below that one
abbrev pub Within : ℕ → ℕ → List Kept → Type 0
Within low high [] = low ≤ high
Within low high (k ∷ ks) = (low ≤ k.number) × Within (k.number + 1) high ks

-- the venue's messages have numbers that are used up at the last
abbrev pub AreLow : List Kept → Type 0
AreLow [] = Unit {0}
AreLow (k ∷ ks) = (1 ≤ k.ordinal → k.number ≤ LAST_NUMBER) × AreLow ks

within_up : (low high more : ℕ) (ks : List Kept) → high ≤ more → Within low high ks → Within low more ks
within_up low high more [] up h = omega (arith, up, h)
within_up low high more (k ∷ ks) up h = (h.0, within_up (k.number + 1) high more ks up h.1)

within_down : (less low high : ℕ) (ks : List Kept) → less ≤ low → Within low high ks → Within less high ks
within_down less low high [] up h = omega (arith, up, h)
within_down less low high (k ∷ ks) up h = (let a = h.0 in omega (arith, up, a), h.1)

within_append : (low high : ℕ) (ks : List Kept) (k : Kept) → k.number ≡ high → Within low high ks → Within low (high + 1) (ks ++ (k ∷ []))
within_append low high [] k is h = (omega (arith, is, h), omega (arith, is))
within_append low high (x ∷ ks) k is h = (h.0, within_append (x.number + 1) high ks k is h.1)

low_append : (ks : List Kept) (k : Kept) → (1 ≤ k.ordinal → k.number ≤ LAST_NUMBER) → AreLow ks → AreLow (ks ++ (k ∷ []))
low_append [] k is h = (is, tt)
low_append (x ∷ ks) k is h = (h.0, low_append ks k is h.1)

within_without : (low high : ℕ) (ks : List Kept) → Within low high ks → Within low high (without_rejects ks)
within_without low high [] h = h
within_without low high (k ∷ ks) h =
    let a = h.0 in
    let rest = within_without (k.number + 1) high ks h.1 in
    choice (Within low high) (is_reject k) (without_rejects ks) (k ∷ without_rejects ks)
    (λ g. within_down low (k.number + 1) high (without_rejects ks) (omega (arith, a)) rest) (λ g. (a, rest))

low_without : (ks : List Kept) → AreLow ks → AreLow (without_rejects ks)
low_without [] h = tt
low_without (k ∷ ks) h =
    choice AreLow (is_reject k) (without_rejects ks) (k ∷ without_rejects ks)
    (λ g. low_without ks h.1) (λ g. (h.0, low_without ks h.1))

-- Copies have the numbers from this one on, and no number above that of their message.

within_copies : (number had : ℕ) (ks : List Kept)
    → Within number (number + length (copies_from number had ks)) (copies_from number had ks)
within_copies number had [] = omega arith
within_copies number had (k ∷ ks) =
    let P = λ (l : List Kept). Within number (number + length l) l in
    choice P (is_reject k) (copies_from number had ks) _ (λ g. within_copies number had ks)
    (λ g. choice P (nat_lt had k.number) _ (copies_from number had ks)
    (λ e. (
      omega arith,
      within_up (number + 1) (number + 1 + length (copies_from (number + 1) had ks)) _ (copies_from (number + 1) had ks)
          (omega arith) (within_copies (number + 1) had ks),
    ))
    (λ e. within_copies number had ks))

venue_is : (n : ℕ) → nat_lt n 1 ≡ false → 1 ≤ n
venue_is n h = grind (arith, nat_tests)

-- so many, from this number on
pub record Fits (number : ℕ) (l : List Kept) : Type 0 where
  pub low : AreLow l
  pub few : (length l ≡ 0) ⊎ (number + length l ≤ LAST_NUMBER + 1)

one_more : (number : ℕ) (k : Kept) (l : List Kept) → number ≤ LAST_NUMBER → Fits (number + 1) l → Fits number (record k { number = number; is_copy = true } ∷ l)
one_more number k l h f = record {
  low = (λ o. h, f.low);
  few = inr (elim f.few [ inl none ↦ omega (arith, none, h) | inr few ↦ omega (arith, few) ]);
}

copies_fit : (number low high had : ℕ) (ks : List Kept) → number ≤ low → Within low high ks → AreLow ks → Fits number (copies_from number had ks)
copies_fit number low high had [] up w a = record { low = tt; few = inl refl }
copies_fit number low high had (k ∷ ks) up w a =
    let x = w.0 in
    let skip = copies_fit number (k.number + 1) high had ks (omega (arith, up, x)) w.1 a.1 in
    choice (Fits number) (is_reject k) (copies_from number had ks) _ (λ g. skip)
    (λ g. choice (Fits number) (nat_lt had k.number) _ (copies_from number had ks)
    (λ e. (let y = a.0 (venue_is k.ordinal g) in
    one_more number k (copies_from (number + 1) had ks) (omega (arith, up, x, y))
    (copies_fit (number + 1) (k.number + 1) high had ks (omega (arith, up, x)) w.1 a.1)))
    (λ e. skip))

few_are : (n : ℕ) → (n ≡ 0) ⊎ (2 + n ≤ LAST_NUMBER + 1) → nat_lt LAST_NUMBER n ≡ false
few_are n (inl h) = ap (λ x. nat_lt LAST_NUMBER x) h
few_are n (inr h) = not_less LAST_NUMBER n (omega (arith, h))
  where
    not_less : (l n : ℕ) → n ≤ l → nat_lt l n ≡ false
    not_less l n h = grind (arith, nat_tests)

-- A point of the fold.
pub record IsNumbered (p : Point) (rest : List Message) : Type 0 where
  pub within : Within 2 p.session.day.next p.kept
  pub low : AreLow p.kept

below_last : (next expected : ℕ) → (nat_lt LAST_NUMBER next || nat_lt LAST_NUMBER expected) ≡ false → next ≤ LAST_NUMBER
below_last next expected h = not_above LAST_NUMBER next (first (nat_lt LAST_NUMBER next) (nat_lt LAST_NUMBER expected) h)
  where
    first : (a b : Bool) → (a || b) ≡ false → a ≡ false
    first true b h = absurd (false≢true (sym h))
    first false b h = refl

    not_above : (l n : ℕ) → nat_lt l n ≡ false → n ≤ l
    not_above l n h = grind (arith, nat_tests)

message_numbered : (p : Point) (m : Message) (ms : List Message) → IsNumbered p (m ∷ ms) → IsNumbered (with_message p m ms) ms
message_numbered p m ms h =
    let d = p.session.day in
    let k = kept_message p.session m in
    elim (cases_Bool (is_used_up d)) [
      | inl up ↦ record {
        within = subst (λ b. Within 2 (if b then d else keeps_message d).next (if b then p.kept else p.kept ++ (k ∷ []))) (sym up) h.within;
        low = subst (λ b. AreLow (if b then p.kept else p.kept ++ (k ∷ []))) (sym up) h.low;
      }
      | inr not ↦ record {
        within = subst (λ b. Within 2 (if b then d else keeps_message d).next (if b then p.kept else p.kept ++ (k ∷ []))) (sym not)
            (within_append 2 d.next p.kept k refl h.within);
        low = subst (λ b. AreLow (if b then p.kept else p.kept ++ (k ∷ []))) (sym not)
            (low_append p.kept k (λ o. below_last d.next d.expected not) h.low);
      }
    ]

pub behind_up : (b : Bool) (next : ℕ) → next ≤ (if b then next else next + 1)
behind_up true next = omega arith
behind_up false next = omega arith

record After (r : Recovered) (s : Sealed) (ks : List Kept) (k : NoteKind) : Type 0 where
  within : Within 2 (noted r s.note (length (copies s.note.had ks)) k).day.next (kept_by ks s k)
  low : AreLow (kept_by ks s k)

reset_after : (r : Recovered) (s : Sealed) (ks : List Kept) (since act : ℕ) → Within 2 r.day.next ks → AreLow ks → After r s ks (kind.Reset since act)
reset_after r s ks since act w a =
    let c = length (copies s.note.had ks) in
    let fits = copies_fit 2 2 r.day.next s.note.had ks (omega arith) w a in
    let is : at_most_last c ≡ c = ap (λ b. if b then LAST_NUMBER else c) (few_are c fits.few) in
    record {
      within = within_up 2 (2 + c) _ (copies s.note.had ks) (omega (arith, is)) (within_copies 2 s.note.had ks);
      low = fits.low;
    }

note_after : (r : Recovered) (s : Sealed) (ks : List Kept) (k : NoteKind) → s.note.number ≡ number_due r.day k → Within 2 r.day.next ks
    → AreLow ks → After r s ks k
note_after r s ks (kind.Logon last_logon resets) due w a = record {
  within = within_up 2 r.day.next _ _ (behind_up (r.day.is_one_free || resets) r.day.next)
      (choice (Within 2 r.day.next) resets (without_rejects ks) ks (λ g. within_without 2 r.day.next ks w) (λ g. w));
  low = choice AreLow resets (without_rejects ks) ks (λ g. low_without ks a) (λ g. a);
}
note_after r s ks kind.Own due w a = record { within = within_up 2 r.day.next _ ks (omega arith) w; low = a }
note_after r s ks kind.Reject due w a = record {
  within = within_append 2 r.day.next ks (kept_reject s) due w;
  low = low_append ks (kept_reject s) (λ o. absurd (omega (arith, o))) a;
}
note_after r s ks kind.Logout due w a = record { within = within_up 2 r.day.next _ ks (behind_up r.day.is_one_free r.day.next) w; low = a }
note_after r s ks (kind.Reset since act) due w a = reset_after r s ks since act w a
note_after r s ks kind.Locked due w a = record { within = w; low = a }
note_after r s ks (kind.Released act) due w a = record { within = w; low = a }
note_after r s ks kind.Mark due w a = record { within = w; low = a }

pub numbered_is_kept : IsKeptBy IsNumbered
numbered_is_kept = record {
  message = message_numbered;
  rest = λ p ms rest h. record { within = h.within; low = h.low };
  note = λ p s due h. (let n = note_after p.session s p.kept s.note.kind due.number h.within h.low in record { within = n.within; low = n.low });
}

-- Under one number.

above_all : (low high : ℕ) (ks : List Kept) (x : Kept) → Within low high ks → IsKept x ks → low ≤ x.number
above_all low high [] x w h = absurd h
above_all low high (k ∷ ks) x w (inl e) = let a = w.0 in let n = ap (λ (y : Kept). y.number) e in omega (arith, a, n)
above_all low high (k ∷ ks) x w (inr h) =
    let a = w.0 in let b = above_all (k.number + 1) high ks x w.1 h in omega (arith, a, b)

same_number : (low high : ℕ) (ks : List Kept) (x y : Kept) → Within low high ks → IsKept x ks → IsKept y ks → x.number ≡ y.number → x ≡ y
same_number low high [] x y w h g e = absurd h
same_number low high (k ∷ ks) x y w (inl h) (inl g) e = h ∙ sym g
same_number low high (k ∷ ks) x y w (inl h) (inr g) e =
    let b = above_all (k.number + 1) high ks y w.1 g in let n = ap (λ (z : Kept). z.number) h in absurd (omega (arith, b, n, e))
same_number low high (k ∷ ks) x y w (inr h) (inl g) e =
    let b = above_all (k.number + 1) high ks x w.1 h in let n = ap (λ (z : Kept). z.number) g in absurd (omega (arith, b, n, e))
same_number low high (k ∷ ks) x y w (inr h) (inr g) e = same_number (k.number + 1) high ks x y w.1 h g e

-- in memory
pub one_kept : (w : World) (r : IsRecovered w) (x y : Kept) → IsKept x w.memory.kept → IsKept y w.memory.kept → x.number ≡ y.number → x ≡ y
one_kept w r x y a b e =
    let n = read_points IsNumbered numbered_is_kept r.told (all_notes w) r.point (record { within = omega arith; low = tt }) r.reads in
    let same = sym r.agrees.kept in
    same_number 2 (all r.point).session.day.next (all r.point).kept x y n.within (subst (λ ks. IsKept x ks) same a)
    (subst (λ ks. IsKept y ks) same b) e

-- of what may leave, now and later
pub one_leaves : (names : Names) (acts more : List Act) (w later : World) (x y : Kept) → AreSoundActs names (Some first_world) acts
    → world_after_all names (Some first_world) acts ≡ Some w → MayLeave w x → AreSoundActs names (Some w) more
    → AreWithoutResets more → world_after_all names (Some w) more ≡ Some later → MayLeave later y → x.number ≡ y.number → x ≡ y
one_leaves names acts more w later x y sound h l behind still g m e =
    let n = acts_next names more w (all_stand names acts w sound h) behind in
    let s = subst Stands (same_Some n.world later (sym n.is ∙ g)) n.stands in
    one_kept later s.recovered x y (leaves_ever names acts more w later x sound h l behind still g).kept m.kept e
