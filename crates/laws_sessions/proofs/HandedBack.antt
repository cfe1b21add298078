-- What leaves of what is handed back.
use Rattle.std.proofs.Common.{◌≡◌, ℕ, ◌+◌, ◌≤◌, ◌<◌, Bool, true, false, ◌&&◌, ◌||◌, not, nat_le, nat_lt, List, [], ◌∷◌, ◌⊎◌, inl, inr, Option, Some, None, refl, sym, ap, subst, ◌∙◌, arith, if◌then◌else◌}
use Rattle.std.proofs.lemmas.Bool.{false≢true}
use Rattle.std.proofs.lemmas.Bool.Decides.{nat_tests}
use Rattle.std.proofs.lemmas.Option.{none-some}
use Rattle.fix_sessions.specs.Outcomes.{is_spent, live, said}
use Rattle.fix_sessions.specs.Sending.{again_of, before_kept, fill_end, fresh_of, hands, hands_by, hands_on, is_answer, is_reject, is_resending, requests, wants, wants_by, wants_of_its_own, wants_on}
use Rattle.fix_sessions.specs.declared.state.Line.{Line}
use Rattle.fix_sessions.specs.declared.state.Live.{Live}
use Rattle.fix_sessions.specs.declared.state.Phase.{Phase}
use Rattle.fix_sessions.specs.declared.state.Phase.TheVariants as phase
use Rattle.fix_sessions.specs.declared.state.Session.{Session}
use Rattle.fix_sessions.specs.declared.turns.Said.{Said}
use Rattle.fix_sessions.specs.declared.turns.Stored.{Stored}
use Rattle.fix_sessions.specs.declared.turns.Turn.{Turn}
use Rattle.fix_sessions.specs.declared.turns.Want.{Want}
use Rattle.fix_sessions.specs.declared.turns.Want.TheVariants as want
use Rattle.fix_sessions.specs.declared.turns.Way.TheVariants as way
use Rattle.fix_sessions.specs.declared.turns.Word.TheVariants as word
use Rattle.laws_sessions.proofs.Choices.{choice}
use Rattle.laws_sessions.specs.Handed.{AreNone, IsAsKept, IsGap, IsWanted, denied, is_heartbeat}
use Rattle.laws_sessions.specs.Left.{IsKept}
use Rattle.session_recovery.specs.Recovered.{Kept}

-- what is said of what is handed back: nothing; a gap fill, where nothing is, or an answer to a TestRequest; the
-- message again; or the message for the first time
pub data Handing (s : Session) (next_kept : ℕ) (stored : Option Stored) (o : Option Said) : Type 0 where
  Silent : o ≡ None → Handing s next_kept stored o
  Fills : (n to : ℕ) → wants s ≡ want.Again n → stored ≡ None → (n < next_kept → to ≤ next_kept)
      → o ≡ said n way.Leaves (word.Fill to) → Handing s next_kept stored o
  Skips : (n to : ℕ) (one : Stored) → wants s ≡ want.Again n → stored ≡ Some one → is_answer one ≡ true → to ≤ n + 1
      → o ≡ said n way.Leaves (word.Fill to) → Handing s next_kept stored o
  Repeats : (n : ℕ) (one : Stored) → wants s ≡ want.Again n → stored ≡ Some one → is_answer one ≡ false
      → o ≡ said n way.Leaves (word.Again one.body one.is_copy one.first) → Handing s next_kept stored o
  Sends : (n : ℕ) (one : Stored) → wants s ≡ want.Fresh n → stored ≡ Some one
      → o ≡ said n way.Leaves (word.Kept one.body one.is_copy) → Handing s next_kept stored o

pub record Hands (s : Session) (next_kept : ℕ) (stored : Option Stored) (t : Turn) : Type 0 where
  pub first : Handing s next_kept stored t.first
  pub second : t.second ≡ None

silent : (s : Session) (next_kept : ℕ) (stored : Option Stored) (t : Turn) → t.first ≡ None → t.second ≡ None
    → Hands s next_kept stored t
silent s next_kept stored t first second = record { first = Silent first; second = second }

-- Where a gap fill ends.

not_less : (m n : ℕ) → nat_lt m n ≡ false → n ≤ m
not_less m n h = grind (arith, nat_tests)

less_is : (m n : ℕ) → nat_lt m n ≡ true → m < n
less_is m n h = grind (arith, nat_tests)

before_up : (l : Line) (next_kept : ℕ) → l.again < next_kept → before_kept l next_kept ≤ next_kept
before_up l next_kept h =
    choice (λ (x : ℕ). x ≤ next_kept) (nat_le next_kept l.again) _ _ (λ g. omega (arith, h))
    (λ g. choice (λ (x : ℕ). x ≤ next_kept) (nat_lt next_kept l.again_end) _ _ (λ e. omega arith)
    (λ e. not_less next_kept l.again_end e))

fill_up : (l : Line) (next_kept : ℕ) → l.again < next_kept → fill_end l next_kept ≤ next_kept
fill_up l next_kept h =
    let up = before_up l next_kept h in
    choice (λ (x : ℕ). x ≤ next_kept) (not (nat_lt l.again l.split)) _ _ (λ g. omega (arith, h))
    (λ g. choice (λ (x : ℕ). x ≤ next_kept) (nat_lt l.split (before_kept l next_kept)) _ _
    (λ e. (let less = less_is l.split (before_kept l next_kept) e in omega (arith, less, up))) (λ e. up))

-- What the session asks for.

wants_is : (s : Session) (line : Line) → s.phase ≡ phase.On line → wants s ≡ wants_on (live s line)
unfolding wants
wants_is s line e = ap (λ p. wants_by s p) e

abbrev unless_again : Live → Want
unless_again a =
    if a.line.is_held then wants_of_its_own a.line.is_test_due
    else if nat_lt a.line.fresh a.day.next then want.Fresh a.line.fresh
    else wants_of_its_own (a.line.is_test_due || requests a.line)

asks_again : (a : Live) → is_resending a.line ≡ true → wants_on a ≡ want.Again a.line.again
asks_again a h = ap (λ b. if b then want.Again a.line.again else unless_again a) h

not_held : (held less : Bool) → (not held && less) ≡ true → held ≡ false
not_held true less h = absurd (false≢true h)
not_held false less h = refl

is_less : (held less : Bool) → (not held && less) ≡ true → less ≡ true
is_less true less h = absurd (false≢true h)
is_less false less h = h

asks_fresh : (a : Live) → is_resending a.line ≡ false → (not a.line.is_held && nat_lt a.line.fresh a.day.next) ≡ true
    → wants_on a ≡ want.Fresh a.line.fresh
asks_fresh a h g =
    let less = nat_lt a.line.fresh a.day.next in
    let other = wants_of_its_own (a.line.is_test_due || requests a.line) in
    ap (λ b. if b then want.Again a.line.again else unless_again a) h
    ∙ (ap (λ b. if b then wants_of_its_own a.line.is_test_due else (if less then want.Fresh a.line.fresh else other))
    (not_held a.line.is_held less g)
    ∙ ap (λ b. if b then want.Fresh a.line.fresh else other) (is_less a.line.is_held less g))

-- What is said.

again_hands : (s : Session) (line : Line) (now next_kept : ℕ) (stored : Option Stored) → wants s ≡ want.Again line.again
    → Hands s next_kept stored (again_of (live s line) now next_kept stored)
again_hands s line now next_kept None asks =
    record { first = Fills line.again (fill_end line next_kept) asks refl (fill_up line next_kept) refl; second = refl }
again_hands s line now next_kept (Some one) asks =
    choice (Hands s next_kept (Some one)) (is_answer one) _ _
    (λ h. record {
      first = Skips line.again (fill_end line (line.again + 1)) one asks refl h (fill_up line (line.again + 1) (omega arith)) refl;
      second = refl;
    })
    (λ h. record { first = Repeats line.again one asks refl h refl; second = refl })

fresh_hands : (s : Session) (line : Line) (now next_kept : ℕ) (stored : Option Stored) → wants s ≡ want.Fresh line.fresh
    → Hands s next_kept stored (fresh_of (live s line) now stored)
fresh_hands s line now next_kept None asks = silent s next_kept None _ refl refl
fresh_hands s line now next_kept (Some one) asks =
    choice (Hands s next_kept (Some one)) (is_reject one.body && not line.is_settled) _ _
    (λ h. silent s next_kept (Some one) _ refl refl)
    (λ h. record { first = Sends line.fresh one asks refl refl; second = refl })

on_hands : (s : Session) (line : Line) (now next_kept : ℕ) (stored : Option Stored) → s.phase ≡ phase.On line
    → Hands s next_kept stored (hands_on (live s line) now next_kept stored)
on_hands s line now next_kept stored e =
    let a = live s line in
    let is = wants_is s line e in
    choice (Hands s next_kept stored) (is_resending line) _ _
    (λ h. again_hands s line now next_kept stored (is ∙ asks_again a h))
    (λ h. choice (Hands s next_kept stored) (not line.is_held && nat_lt line.fresh s.day.next) _ _
    (λ g. fresh_hands s line now next_kept stored (is ∙ asks_fresh a h g))
    (λ g. silent s next_kept stored _ refl refl))

by_hands : (s : Session) (now next_kept : ℕ) (stored : Option Stored) (p : Phase) → s.phase ≡ p
    → Hands s next_kept stored (hands_by s now next_kept stored p)
by_hands s now next_kept stored phase.Away e = silent s next_kept stored _ refl refl
by_hands s now next_kept stored (phase.On line) e = on_hands s line now next_kept stored e
by_hands s now next_kept stored (phase.Leaving connection since) e = silent s next_kept stored _ refl refl

pub hands_say : (s : Session) (now next_kept : ℕ) (stored : Option Stored) → Hands s next_kept stored (hands s now next_kept stored)
unfolding hands
hands_say s now next_kept stored =
    choice (Hands s next_kept stored) (is_spent s) _ _ (λ h. silent s next_kept stored _ refl refl)
    (λ h. by_hands s now next_kept stored s.phase refl)

-- No denial.

pub none_denied : (s : Session) (next_kept : ℕ) (stored : Option Stored) (o : Option Said) (n : ℕ) → Handing s next_kept stored o
    → denied o ≡ Some n → ⊥
none_denied s next_kept stored o n (Silent e) h = none-some n (ap denied (sym e) ∙ h)
none_denied s next_kept stored o n (Fills m to asks at up e) h = none-some n (ap denied (sym e) ∙ h)
none_denied s next_kept stored o n (Skips m to one asks at is up e) h = none-some n (ap denied (sym e) ∙ h)
none_denied s next_kept stored o n (Repeats m one asks at is e) h = none-some n (ap denied (sym e) ∙ h)
none_denied s next_kept stored o n (Sends m one asks at e) h = none-some n (ap denied (sym e) ∙ h)

-- No gap where a message is kept.

none_in : (from to : ℕ) (ks : List Kept) (x : Kept) → AreNone from to ks → IsKept x ks → (x.number < from) ⊎ (to ≤ x.number)
none_in from to [] x none h = absurd h
none_in from to (k ∷ ks) x none (inl e) = subst (λ (y : Kept). (y.number < from) ⊎ (to ≤ y.number)) (sym e) none.0
none_in from to (k ∷ ks) x none (inr h) = none_in from to ks x none.1 h

-- what is kept under a number is one message
abbrev pub IsAlone : Kept → List Kept → Type 0
IsAlone x ks = (k : Kept) → IsKept k ks → x.number ≡ k.number → x ≡ k

-- the message that is kept under a number, and is no answer to a TestRequest, is what is handed back under it
pub found_one : (midnight n : ℕ) (ks : List Kept) (one : Stored) (x : Kept) → IsKept x ks → IsAlone x ks → x.number ≡ n
    → ((k : Kept) × IsKept k ks × IsAsKept midnight n one k) ⊎ ((is_answer one ≡ true) × AreNone n (n + 1) ks)
    → IsAsKept midnight n one x
found_one midnight n ks one x h alone at (inl f) =
    subst (λ y. IsAsKept midnight n one y) (sym (alone f.0 f.1 (at ∙ sym f.2.under))) f.2
found_one midnight n ks one x h alone at (inr (is, none)) =
    absurd (elim (none_in n (n + 1) ks x none h) [ inl less ↦ omega (arith, less, at) | inr more ↦ omega (arith, more, at) ])

no_answer : (midnight n : ℕ) (one : Stored) (x : Kept) → IsAsKept midnight n one x → is_heartbeat x.body ≡ false → is_answer one ≡ true → ⊥
no_answer midnight n one x same other is = false≢true (sym other ∙ (ap is_heartbeat (sym same.body) ∙ is))

fills_none : (midnight n to next_kept : ℕ) (ks : List Kept) (x : Kept) → IsKept x ks
    → (n < next_kept) × AreNone n next_kept ks → (n < next_kept → to ≤ next_kept) → (n ≤ x.number) × (x.number < to) → ⊥
fills_none midnight n to next_kept ks x h found up gap =
    let from = gap.0 in let below = gap.1 in let most = up found.0 in
    elim (none_in n next_kept ks x found.1 h) [ inl less ↦ absurd (omega (arith, less, from)) | inr more ↦ absurd (omega (arith, more, below, most)) ]

pub no_gap : (midnight next_kept : ℕ) (s : Session) (stored : Option Stored) (o : Option Said) (ks : List Kept) (x : Kept) → IsKept x ks
    → IsAlone x ks → is_heartbeat x.body ≡ false → IsWanted midnight (wants s) ks next_kept stored
    → Handing s next_kept stored o → IsGap x.number o → ⊥
no_gap midnight next_kept s stored o ks x h alone other found (Silent e) gap = subst (λ p. IsGap x.number p) e gap
no_gap midnight next_kept s stored o ks x h alone other found (Fills n to asks at up e) gap =
    fills_none midnight n to next_kept ks x h
    (subst (λ p. IsWanted midnight (want.Again n) ks next_kept p) at (subst (λ w. IsWanted midnight w ks next_kept stored) asks found)) up
    (subst (λ p. IsGap x.number p) e gap)
no_gap midnight next_kept s stored o ks x h alone other found (Skips n to one asks at is up e) gap =
    let covers = subst (λ p. IsGap x.number p) e gap in
    let from = covers.0 in let below = covers.1 in
    no_answer midnight n one x
    (found_one midnight n ks one x h alone (omega (arith, from, below, up))
    (subst (λ p. IsWanted midnight (want.Again n) ks next_kept p) at (subst (λ w. IsWanted midnight w ks next_kept stored) asks found)))
    other is
no_gap midnight next_kept s stored o ks x h alone other found (Repeats n one asks at is e) gap = subst (λ p. IsGap x.number p) e gap
no_gap midnight next_kept s stored o ks x h alone other found (Sends n one asks at e) gap = subst (λ p. IsGap x.number p) e gap
