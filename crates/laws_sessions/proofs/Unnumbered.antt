-- A note without a number that is lost: what was kept behind it is kept without it.
use Rattle.std.proofs.Common.{◌≡◌, ℕ, ◌+◌, ◌≤◌, Bool, true, false, ◌||◌, nat_le, nat_lt, List, [], ◌∷◌, ◌++◌, inl, inr, refl, sym, ap, ap₂, subst, ◌∙◌, arith, if◌then◌else◌}
use Rattle.std.proofs.lemmas.Bool.{cases_Bool, false≢true}
use Rattle.std.proofs.lemmas.Bool.Decides.{nat_tests}
use Rattle.fix_sessions.specs.declared.state.Day.{Day}
use Rattle.laws_sessions.proofs.KeptLists.{all_keeps}
use Rattle.laws_sessions.specs.Left.{IsKept, uses_number}
use Rattle.session_recovery.specs.Notes.{is_counted, is_used_up, keeps_message, noted}
use Rattle.session_recovery.specs.Recovered.{Kept, Message, Point, Sealed, gives_all, kept_by, kept_message, with_message}
use Rattle.session_recovery.specs.declared.days.TheConstants.{LAST_NUMBER}
use Rattle.session_recovery.specs.declared.notes.NoteKind.{NoteKind}
use Rattle.session_recovery.specs.declared.notes.NoteKind.TheVariants as kind

-- Where numbers are used up, nothing more is kept.

used_all : (ms : List Message) (p : Point) → is_used_up p.session.day ≡ true → (gives_all p ms).kept ≡ p.kept
used_all [] p h = refl
used_all (m ∷ ms) p h =
    let kept = ap (λ b. if b then p.kept else p.kept ++ (kept_message p.session m ∷ [])) h in
    let day = ap (λ b. if b then p.session.day else keeps_message p.session.day) h in
    used_all ms (with_message p m ms) (ap is_used_up day ∙ h) ∙ kept

-- a point that has kept the same, and counts no more
pub record IsUnder (y z : Point) : Type 0 where
  pub kept : y.kept ≡ z.kept
  pub given : y.session.given ≡ z.session.given
  pub next : y.session.day.next ≡ z.session.day.next
  pub expected : y.session.day.expected ≤ z.session.day.expected

not_more : (l a b : ℕ) → a ≤ b → nat_lt l b ≡ false → nat_lt l a ≡ false
not_more l a b h g = grind (arith, nat_tests)

none_of : (a b : Bool) → (a || b) ≡ false → (a ≡ false) × (b ≡ false)
none_of true b h = absurd (false≢true (sym h))
none_of false b h = (refl, h)

not_used : (d e : Day) → d.next ≡ e.next → d.expected ≤ e.expected → is_used_up e ≡ false → is_used_up d ≡ false
not_used d e next up h =
    let parts = none_of (nat_lt LAST_NUMBER e.next) (nat_lt LAST_NUMBER e.expected) h in
    ap (λ n. nat_lt LAST_NUMBER n || nat_lt LAST_NUMBER d.expected) next
    ∙ (ap (λ b. b || nat_lt LAST_NUMBER d.expected) parts.0 ∙ not_more LAST_NUMBER d.expected e.expected up parts.1)

kept_as : (y z : Point) (m : Message) → IsUnder y z → kept_message y.session m ≡ kept_message z.session m
kept_as y z m u =
    ap (λ n. record { number = n; ordinal = y.session.given + 1; body = m.body; moment = m.moment; is_copy = false }) u.next
    ∙ ap (λ g. record { number = z.session.day.next; ordinal = g + 1; body = m.body; moment = m.moment; is_copy = false }) u.given

under_more : (y z : Point) (m : Message) (ms : List Message) → is_used_up z.session.day ≡ false → IsUnder y z
    → IsUnder (with_message y m ms) (with_message z m ms)
under_more y z m ms h u =
    let d = y.session.day in
    let e = z.session.day in
    let g = not_used d e u.next u.expected h in
    let up = u.expected in
    record {
      kept = ap (λ b. if b then y.kept else y.kept ++ (kept_message y.session m ∷ [])) g
          ∙ (ap₂ (λ l k. l ++ (k ∷ [])) u.kept (kept_as y z m u)
          ∙ sym (ap (λ b. if b then z.kept else z.kept ++ (kept_message z.session m ∷ [])) h));
      given = ap (λ n. n + 1) u.given;
      next = ap (λ b. (if b then d else keeps_message d).next) g
          ∙ (ap (λ n. n + 1) u.next ∙ sym (ap (λ b. (if b then e else keeps_message e).next) h));
      expected = (let x = ap (λ b. (if b then d else keeps_message d).expected) g in
          let w = ap (λ b. (if b then e else keeps_message e).expected) h in omega (arith, up, x, w));
    }

pub under_keeps : (x : Kept) (ms : List Message) (y z : Point) → IsUnder y z → IsKept x (gives_all z ms).kept → IsKept x (gives_all y ms).kept
under_keeps x [] y z u k = subst (λ ks. IsKept x ks) (sym u.kept) k
under_keeps x (m ∷ ms) y z u k =
    elim (cases_Bool (is_used_up z.session.day)) [
      | inl used ↦ all_keeps x y (m ∷ ms) (subst (λ ks. IsKept x ks) (used_all (m ∷ ms) z used ∙ sym u.kept) k)
      | inr not ↦ under_keeps x ms (with_message y m ms) (with_message z m ms) (under_more y z m ms not u) k
    ]

-- A note without a number leaves numbers as they are.

up_to : (a n : ℕ) → nat_le a n ≡ true → a ≤ n
up_to a n h = grind (arith, nat_tests)

pub unnumbered_under : (y : Point) (s : Sealed) (k : NoteKind) (cs : ℕ) → uses_number k ≡ false → is_counted y.session.day s.note k ≡ true
    → IsUnder y (record { session = noted y.session s.note cs k; kept = kept_by y.kept s k; rest = y.rest })
unnumbered_under y s (kind.Logon last_logon resets) cs h c = absurd (false≢true (sym h))
unnumbered_under y s kind.Own cs h c = absurd (false≢true (sym h))
unnumbered_under y s kind.Reject cs h c = absurd (false≢true (sym h))
unnumbered_under y s kind.Logout cs h c = absurd (false≢true (sym h))
unnumbered_under y s (kind.Reset since act) cs h c = absurd (false≢true (sym h))
unnumbered_under y s kind.Locked cs h c =
    record { kept = refl; given = refl; next = refl; expected = up_to y.session.day.expected s.note.expected c }
unnumbered_under y s (kind.Released act) cs h c =
    record { kept = refl; given = refl; next = refl; expected = up_to y.session.day.expected s.note.expected c }
unnumbered_under y s kind.Mark cs h c =
    record { kept = refl; given = refl; next = refl; expected = up_to y.session.day.expected s.note.expected c }
