-- A session that is handed what it wants comes to its end.
use Rattle.std.proofs.Common.{◌≡◌, ◌≤◌, ◌<◌, ◌+◌, ◌-◌, ℕ, Bool, false}
use Rattle.std.proofs.Common.{nat_lt, List, [], ◌∷◌, length, refl, sym, ◌∙◌}
use Rattle.std.proofs.Common.{ap, subst, arith, inl, inr, if◌then◌else◌}
use Rattle.std.proofs.lemmas.Bool.{cases_Bool, false≢true}
use Rattle.fix_fields.specs.Frame.{Field}
use Rattle.fix_sessions.specs.Outcomes.{counted_if, is_spent, live, standing}
use Rattle.fix_sessions.specs.Rows.{again_from, asked_of, highest_left, requested, requested_as}
use Rattle.fix_sessions.specs.Sending.{hands, is_resending, wants}
use Rattle.fix_sessions.specs.Sending.{wants_of_its_own, wants_on}
use Rattle.fix_sessions.specs.declared.state.Line.{Line}
use Rattle.fix_sessions.specs.declared.state.Live.{Live}
use Rattle.fix_sessions.specs.declared.state.Phase.{Phase}
use Rattle.fix_sessions.specs.declared.state.Phase.TheVariants as phase
use Rattle.fix_sessions.specs.declared.requests.Asked.{Asked}
use Rattle.fix_sessions.specs.declared.requests.Asked.TheVariants as asked
use Rattle.fix_sessions.specs.declared.messages.Origin.{Origin}
use Rattle.fix_sessions.specs.declared.messages.Reading.{Reading}
use Rattle.fix_sessions.specs.declared.state.Session.{Session}
use Rattle.fix_sessions.specs.declared.texts.Names.{Names}
use Rattle.fix_sessions.specs.declared.turns.Want.TheVariants as want
use Rattle.laws_sessions.specs.Days.{Event, after}
use Rattle.laws_sessions.specs.Days.{Came, Gone, Given, Handed, Tick, Ordered, LoggedOut}
use Rattle.laws_sessions.specs.Kept.{Entry, IsKept, Within}
use Rattle.laws_sessions.specs.Fed.{IsDue, IsFed, MayResend, leaves_under}
use Rattle.laws_sessions.specs.Fed.{times_left, wants_number}
use Rattle.laws_sessions.proofs.FedKept.{choice, not_less, is_less}
use Rattle.laws_sessions.proofs.FedKept.{by_true, by_false, kept_below, kept_once}
use Rattle.laws_sessions.proofs.FedTurns.{Stands, moved, left, IsPast, hands_does}

-- Turn by turn.

abbrev one_if : Bool → ℕ
one_if b = if b then 1 else 0

module _ (names : Names) (kept : List Entry) where
  ends : (events : List Event) (a : Live) → Stands a → IsFed names (standing a) kept events
      → length events ≤ left a
  ends [] a stands fed = omega arith
  ends (Handed moment next_kept stored ∷ es) a stands fed =
      let step = hands_does a stands kept moment next_kept stored fed.0 in
      let rest = ends es (moved a step.line) step.stands
      (subst (λ (s : Session). IsFed names s kept es) step.is fed.1) in
      let less = step.less in
      omega (arith, rest, less)
  ends (Came connection clock bytes is_known denial ∷ es) a stands fed = absurd fed.0
  ends (Gone connection ∷ es) a stands fed = absurd fed.0
  ends (Given moment body ∷ es) a stands fed = absurd fed.0
  ends (Tick moment ∷ es) a stands fed = absurd fed.0
  ends (Ordered clock what ∷ es) a stands fed = absurd fed.0
  ends (LoggedOut moment reason ∷ es) a stands fed = absurd fed.0

  -- under a number that is past nothing leaves any more
  none_leaves : (n : ℕ) (events : List Event) (a : Live) → Stands a → IsFed names (standing a) kept events
      → IsPast a.line n → times_left names (standing a) n events ≡ 0
  none_leaves n [] a stands fed past = refl
  none_leaves n (Handed moment next_kept stored ∷ es) a stands fed past =
      let step = hands_does a stands kept moment next_kept stored fed.0 in
      let t = hands (standing a) moment next_kept stored in
      let on = step.past n past in
      let now : one_if (leaves_under n t.first) ≡ 0 = ap one_if on.0 in
      let rest : times_left names t.session n es ≡ 0 =
      ap (λ (s : Session). times_left names s n es) step.is
      ∙ none_leaves n es (moved a step.line) step.stands
      (subst (λ (s : Session). IsFed names s kept es) step.is fed.1) on.1 in
      omega (arith, now, rest)
  none_leaves n (Came connection clock bytes is_known denial ∷ es) a stands fed past = absurd fed.0
  none_leaves n (Gone connection ∷ es) a stands fed past = absurd fed.0
  none_leaves n (Given moment body ∷ es) a stands fed past = absurd fed.0
  none_leaves n (Tick moment ∷ es) a stands fed past = absurd fed.0
  none_leaves n (Ordered clock what ∷ es) a stands fed past = absurd fed.0
  none_leaves n (LoggedOut moment reason ∷ es) a stands fed past = absurd fed.0

  module _ (n : ℕ) (body : List Field) (once : (other : List Field) → IsKept n other kept → body ≡ other)
      (is : IsKept n body kept) where
    -- a session that wants no number has none that is due
    all_left : (a : Live) → Stands a → wants_number (wants_on a) ≡ false → n < a.day.next
        → IsDue a.line n body → ⊥
    all_left a stands none below due =
        elim (cases_Bool (is_resending a.line)) [
          | inl resends ↦
              false≢true (sym none ∙ ap wants_number (by_true (is_resending a.line) (want.Again a.line.again) _ resends))
          | inr ended ↦
              (let end = not_less a.line.again a.line.again_end ended in
              elim due [
                | inl asked ↦ (let low = asked.0 in let high = asked.1 in omega (arith, end, low, high))
                | inr fresh ↦
                    (let up = fresh.1 in
                    let less = is_less a.line.fresh a.day.next (omega (arith, up, below)) in
                    false≢true (sym none ∙ ap wants_number
                    (by_false (is_resending a.line) (want.Again a.line.again) _ ended
                    ∙ by_false a.line.is_held (wants_of_its_own a.line.is_test_due) _ stands.holds_none
                    ∙ by_true (nat_lt a.line.fresh a.day.next) (want.Fresh a.line.fresh) _ less)))
              ])
        ]

    one_leaves : (events : List Event) (a : Live) → Stands a → IsFed names (standing a) kept events
        → wants_number (wants (after names (standing a) events)) ≡ false → n < a.day.next
        → IsDue a.line n body → times_left names (standing a) n events ≡ 1
    unfolding wants
    one_leaves [] a stands fed none below due = absurd (all_left a stands none below due)
    one_leaves (Handed moment next_kept stored ∷ es) a stands fed none below due =
        let step = hands_does a stands kept moment next_kept stored fed.0 in
        let t = hands (standing a) moment next_kept stored in
        let more = subst (λ (s : Session). IsFed names s kept es) step.is fed.1 in
        elim (step.due n body once is due) [
          | inl leaves ↦
              (let now : one_if (leaves_under n t.first) ≡ 1 = ap one_if leaves.0 in
              let rest : times_left names t.session n es ≡ 0 =
              ap (λ (s : Session). times_left names s n es) step.is
              ∙ none_leaves n es (moved a step.line) step.stands more leaves.1 in
              omega (arith, now, rest))
          | inr waits ↦
              (let now : one_if (leaves_under n t.first) ≡ 0 = ap one_if waits.0 in
              let rest : times_left names t.session n es ≡ 1 =
              ap (λ (s : Session). times_left names s n es) step.is
              ∙ one_leaves es (moved a step.line) step.stands more
              (subst (λ (s : Session). wants_number (wants (after names s es)) ≡ false) step.is none) below waits.1 in
              omega (arith, now, rest))
        ]
    one_leaves (Came connection clock bytes is_known denial ∷ es) a stands fed none below due = absurd fed.0
    one_leaves (Gone connection ∷ es) a stands fed none below due = absurd fed.0
    one_leaves (Given moment body ∷ es) a stands fed none below due = absurd fed.0
    one_leaves (Tick moment ∷ es) a stands fed none below due = absurd fed.0
    one_leaves (Ordered clock what ∷ es) a stands fed none below due = absurd fed.0
    one_leaves (LoggedOut moment reason ∷ es) a stands fed none below due = absurd fed.0

-- A session whose firm is logged on is what it is on its line.

stands_on : (s : Session) (line : Line) → MayResend s line → s ≡ standing (live s line)
stands_on s line may = ap (λ (p : Phase). record s { phase = p }) may.logged_on

stands_so : (s : Session) (line : Line) → MayResend s line → Stands (live s line)
stands_so s line may = record {
  unspent = ap is_spent (sym (stands_on s line may)) ∙ may.unspent;
  settled = may.settled;
  holds_none = may.holds_none;
  in_order = may.in_order;
}

pub resend_ends : (names : Names) (s : Session) (line : Line) (kept : List Entry) (events : List Event)
    → MayResend s line → IsFed names s kept events
    → length events ≤ (line.again_end - line.again) + (s.day.next - line.fresh)
resend_ends names s line kept events may fed =
    ends names kept events (live s line) (stands_so s line may)
    (subst (λ (t : Session). IsFed names t kept events) (stands_on s line may) fed)

pub resend_leaves : (names : Names) (s : Session) (line : Line) (kept : List Entry) (events : List Event)
    (number : ℕ) (body : List Field) → MayResend s line → Within 0 s.day.next kept → IsFed names s kept events
    → wants_number (wants (after names s events)) ≡ false → IsKept number body kept → IsDue line number body
    → times_left names s number events ≡ 1
resend_leaves names s line kept events number body may within fed none is due =
    let same = stands_on s line may in
    ap (λ (t : Session). times_left names t number events) same
    ∙ one_leaves names kept number body
    (λ other also. kept_once 0 s.day.next number body other kept within is also) is events (live s line)
    (stands_so s line may) (subst (λ (t : Session). IsFed names t kept events) same fed)
    (subst (λ (t : Session). wants_number (wants (after names t events)) ≡ false) same none)
    (kept_below 0 s.day.next number body kept within is) due

-- A ResendRequest makes a session want what it names.

wants_low : (l : Line) (low high : ℕ) → (again_from l low high).again ≤ low
wants_low l low high =
    choice (λ (after : Line). after.again ≤ low) (nat_lt l.again l.again_end) _ _
    (λ h. choice (λ (n : ℕ). n ≤ low) (nat_lt low l.again) _ _ (λ k. omega arith) (λ k. not_less low l.again k))
    (λ h. omega arith)

wants_high : (l : Line) (low high : ℕ) → high < (again_from l low high).again_end
wants_high l low high =
    choice (λ (after : Line). high < after.again_end) (nat_lt l.again l.again_end) _ _
    (λ h. choice (λ (n : ℕ). high < n) (nat_lt l.again_end (high + 1)) _ _ (λ k. omega arith)
    (λ k. (let up = not_less l.again_end (high + 1) k in omega (arith, up))))
    (λ h. omega arith)

-- the numbers of a ResendRequest are wanted
abbrev WantsThem : Live → ℕ → Origin → ℕ → ℕ → Asked → Type 0
WantsThem a now m low high asks = (line : Line) × ((requested_as a now m asks).session.phase ≡ phase.On line)
    × (line.again ≤ low) × (high < line.again_end)

pub request_wants : (a : Live) (now : ℕ) (m : Origin) (first last : Reading) (low high : ℕ)
    → asked_of (highest_left a.line) first last ≡ asked.Numbers low high
    → (line : Line) × ((requested a now m first last).session.phase ≡ phase.On line)
    × (line.again ≤ low) × (high < line.again_end)
request_wants a now m first last low high is =
    let after = counted_if a now m.number in
    subst (WantsThem a now m low high) (sym is)
    (again_from after.line low high, refl, wants_low after.line low high, wants_high after.line low high)
