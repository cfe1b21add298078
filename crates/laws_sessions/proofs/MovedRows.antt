-- How bytes move the expected number: each row of the tables.
use Rattle.std.proofs.Common.{◌≡◌, ℕ, ◌+◌, ◌<◌, true, false, ◌==◌, ◌||◌, not, nat_lt, List, inl, inr, Option, Some, None, is_some, refl, sym, ap, subst, ◌∙◌, arith, if◌then◌else◌}
use Rattle.std.proofs.lemmas.Bool.{eq-eqb}
use Rattle.std.proofs.lemmas.Bool.Decides.{nat_tests}
use Rattle.std.specs.Prelude.{unwrap_or}
use Rattle.fix_sessions.specs.Outcomes.{counted, counted_if, parts, denial_of}
use Rattle.fix_sessions.specs.Logons.{is_off, is_today}
use Rattle.fix_sessions.specs.Rows.{heard_at, highest_left, asked_of, requested_as, resets_to, missing_noted, above, is_after_sent, repeated_below, below, is_test_of, tested, tests, fills, by_kind, by_form, by_times, repeated, sent_once, expected_message, by_number, by_names, if_numbered, reset_in, unless_reset, by_version, at}
use Rattle.fix_sessions.specs.Steps.{came_as}
use Rattle.fix_sessions.specs.declared.messages.Heard.{Heard}
use Rattle.fix_sessions.specs.declared.messages.Heard.TheVariants as heard
use Rattle.fix_sessions.specs.declared.messages.Incoming.{Incoming}
use Rattle.fix_sessions.specs.declared.messages.Kind.{Kind}
use Rattle.fix_sessions.specs.declared.messages.Kind.TheVariants as kind
use Rattle.fix_sessions.specs.declared.messages.Reading.{Reading}
use Rattle.fix_sessions.specs.declared.messages.Reading.TheVariants as reading
use Rattle.fix_sessions.specs.declared.messages.TestId.{TestId}
use Rattle.fix_sessions.specs.declared.messages.TestId.TheVariants as test_id
use Rattle.fix_sessions.specs.declared.requests.Asked.{Asked}
use Rattle.fix_sessions.specs.declared.requests.Asked.TheVariants as asked
use Rattle.fix_sessions.specs.declared.state.Clock.{Clock}
use Rattle.fix_sessions.specs.declared.state.Live.{Live}
use Rattle.fix_sessions.specs.declared.turns.Fault.{Fault}
use Rattle.fix_sessions.specs.declared.turns.Turn.{Turn}
use Rattle.fix_sessions.specs.declared.turns.Why.TheVariants as why
use Rattle.fix_sessions.specs.declared.turns.Word.TheVariants as word
use Rattle.laws_sessions.proofs.Choices.{choice}
use Rattle.laws_sessions.proofs.MovedOutcomes.{Moves, MovesTo, answers_echo, both_said, by_leaf, by_own, denies_answer, leaves_leaf, parts_leaf, rejected}
use Rattle.laws_sessions.specs.Moves.{is_own, new_in, test_in}

less_by : (m n : ℕ) → nat_lt m n ≡ true → m < n
less_by m n h = grind (arith, nat_tests)

requested_moves : (m : Incoming) (a : Live) (now : ℕ) (wanted : Asked) → is_own m.kind ≡ true
    → Moves m a (requested_as a now m.origin wanted)
requested_moves m a now (asked.Wrong fault) own = rejected m a now fault
requested_moves m a now (asked.Numbers first last) own =
    by_own (heard.Message m) a now m.origin.number _ own refl refl

set_to : (m : Incoming) (a : Live) (next : ℕ) (t : Turn) → new_in m.kind ≡ Some next
    → t.session.day.expected ≡ next → a.day.expected < next → Moves m a t
set_to m a next t new is higher =
    inr (inr (record { set = new ∙ ap Some (sym is); higher = omega (arith, is, higher) }))

resets_moves : (m : Incoming) (a : Live) (now : ℕ) (next : Reading)
    → ((n : ℕ) → next ≡ reading.Is n → new_in m.kind ≡ Some n) → Moves m a (resets_to a now m.origin next)
resets_moves m a now reading.Missing new = rejected m a now (at 36 1)
resets_moves m a now reading.Faulty new = rejected m a now (at 36 6)
resets_moves m a now (reading.Is next) new =
    choice (Moves m a) (nat_lt a.day.expected next) _ _
    (λ h. set_to m a next _ (new next refl) refl (less_by a.day.expected next h))
    (λ h. choice (Moves m a) (next == a.day.expected) _ _ (λ h. inl refl)
    (λ h. rejected m a now (at 36 5)))

above_moves : (m : Incoming) (a : Live) (now number : ℕ) (k : Kind) → m.kind ≡ k
    → Moves m a (above a now m.origin number k)
above_moves m a now number kind.Logon is = inl refl
above_moves m a now number (kind.Heartbeat answered) is = inl refl
above_moves m a now number (kind.TestRequest id) is = inl refl
above_moves m a now number (kind.ResendRequest first last) is =
    requested_moves m (missing_noted a number) now
    (asked_of (highest_left (missing_noted a number).line) first last) (ap is_own is)
above_moves m a now number kind.Reject is = inl refl
above_moves m a now number (kind.Fill next) is = inl refl
above_moves m a now number (kind.Reset next) is = inl refl
above_moves m a now number kind.Logout is = inl (leaves_leaf a why.Answered).keeps
above_moves m a now number (kind.Denied denial) is = inl refl
above_moves m a now number kind.Other is = inl refl

repeated_below_moves : (m : Incoming) (a : Live) (now : ℕ) (first : Reading)
    → Moves m a (repeated_below a now m first)
repeated_below_moves m a now reading.Missing = rejected m a now (at 122 1)
repeated_below_moves m a now reading.Faulty = inl refl
repeated_below_moves m a now (reading.Is first) =
    choice (Moves m a) (is_after_sent m.sent first) _ _ (λ h. both_said m a now (at 122 10) why.Clock)
    (λ h. inl refl)

-- one below the expected number is not counted
other_number : (m n : ℕ) → nat_lt m n ≡ true → (m == n) ≡ false
other_number m n h = grind (arith, nat_tests)

not_counted : (a : Live) (now number : ℕ) → nat_lt number a.day.expected ≡ true
    → counted_if a now (Some number) ≡ a
not_counted a now number h =
    ap (λ b. if b then counted a now else a) (other_number number a.day.expected h)

below_moves : (m : Incoming) (a : Live) (now number : ℕ) → m.origin.number ≡ Some number
    → nat_lt number a.day.expected ≡ true → Moves m a (below a now m)
below_moves m a now number is h =
    choice (Moves m a) m.is_repeat _ _ (λ k. repeated_below_moves m a now m.first_sent)
    (λ k. let bye = word.Logout (why.TooLow a.day.expected) in
    let same : counted_if a now m.origin.number ≡ a =
    ap (counted_if a now) is ∙ not_counted a now number h in
    inl (subst (λ (b : Live). (parts b now bye).session.day.expected ≡ a.day.expected) (sym same)
    (parts_leaf a now bye (λ came. refl)).keeps))

tested_same : (a : Live) (answered : Option ℕ) → (tested a answered).day.expected ≡ a.day.expected
tested_same a None = refl
tested_same a (Some number) =
    choice (λ (b : Live). b.day.expected ≡ a.day.expected) (is_test_of a.line number) _ _ (λ h. refl) (λ h. refl)

-- The expected message.

-- it bears the expected number
pub record Here (m : Incoming) (a : Live) (number : ℕ) : Type 0 where
  pub bears : m.origin.number ≡ Some a.day.expected
  pub same : number ≡ a.day.expected

-- the session's own is counted
own_counted : (m : Incoming) (a : Live) (t : Turn) → m.origin.number ≡ Some a.day.expected
    → t.session.day.expected ≡ a.day.expected + 1 → is_own m.kind ≡ true → Moves m a t
own_counted m a t bears by_one own =
    inr (inl (record { numbered = bears; by_one = by_one; dealt = inr (inr (inl own)) }))

tests_moves : (m : Incoming) (a : Live) (now : ℕ) (id : TestId) → m.kind ≡ kind.TestRequest id
    → m.origin.number ≡ Some a.day.expected → Moves m a (tests a now m.origin id)
tests_moves m a now test_id.Missing is bears = rejected m a now (at 112 1)
tests_moves m a now test_id.TooLong is bears = rejected m a now (at 112 5)
tests_moves m a now (test_id.Is id) is bears =
    let leaf = answers_echo (counted a now) now id in
    inr (inl (record {
      numbered = bears;
      by_one = leaf.keeps;
      dealt = inr (inr (inr (inl (record { id = id; asked = ap test_in is; echoed = leaf.echoed }))));
    }))

fills_moves : (m : Incoming) (a : Live) (now number : ℕ) (next : Reading) → number ≡ a.day.expected
    → ((n : ℕ) → next ≡ reading.Is n → new_in m.kind ≡ Some n)
    → Moves m a (fills a now m.origin number next)
fills_moves m a now number reading.Missing same new = rejected m a now (at 36 1)
fills_moves m a now number reading.Faulty same new = rejected m a now (at 36 6)
fills_moves m a now number (reading.Is next) same new =
    choice (Moves m a) (nat_lt number next) _ _
    (λ h. set_to m a next _ (new next refl) refl
    (let less = less_by number next h in omega (arith, same, less)))
    (λ h. rejected m a now (at 36 5))

kind_moves : (m : Incoming) (a : Live) (now number : ℕ) (k : Kind) → m.kind ≡ k → Here m a number
    → Moves m a (by_kind a now m.origin number k)
kind_moves m a now number (kind.Heartbeat answered) is here =
    own_counted m a _ here.bears (tested_same (counted a now) answered) (ap is_own is)
kind_moves m a now number kind.Reject is here = own_counted m a _ here.bears refl (ap is_own is)
kind_moves m a now number (kind.TestRequest id) is here = tests_moves m a now id is here.bears
kind_moves m a now number (kind.ResendRequest first last) is here =
    requested_moves m a now (asked_of (highest_left a.line) first last) (ap is_own is)
kind_moves m a now number (kind.Fill next) is here =
    fills_moves m a now number next here.same
    (λ n same. ap new_in is ∙ ap (λ r. new_in (kind.Fill r)) same)
kind_moves m a now number (kind.Reset next) is here =
    resets_moves m a now next (λ n same. ap new_in is ∙ ap (λ r. new_in (kind.Reset r)) same)
kind_moves m a now number kind.Logout is here =
    own_counted m a _ here.bears (leaves_leaf (counted a now) why.Answered).keeps (ap is_own is)
kind_moves m a now number kind.Logon is here =
    own_counted m a _ here.bears (parts_leaf (counted a now) now (word.Logout why.LoggedOn) (λ came. refl)).keeps
    (ap is_own is)
kind_moves m a now number (kind.Denied denial) is here =
    let names : (unwrap_or m.origin.number 0 == a.day.expected) ≡ true =
    ap (λ n. unwrap_or n 0 == a.day.expected) here.bears ∙ eq-eqb a.day.expected a.day.expected refl in
    let leaf = denies_answer a.day.expected (counted a now) now (denial_of m.origin denial) names in
    inr (inl (record { numbered = here.bears; by_one = leaf.keeps; dealt = inr (inl leaf.answered) }))
kind_moves m a now number kind.Other is here =
    inr (inl (record { numbered = here.bears; by_one = refl; dealt = inl refl }))

form_moves : (m : Incoming) (a : Live) (now number : ℕ) (flaw : Option Fault) → Here m a number
    → Moves m a (by_form a now m number flaw)
form_moves m a now number None here = kind_moves m a now number m.kind refl here
form_moves m a now number (Some fault) here = rejected m a now fault

times_moves : (m : Incoming) (a : Live) (clock : Clock) (number sent : ℕ) (first : Reading)
    → Here m a number → Moves m a (by_times a clock m number sent first)
times_moves m a clock number sent reading.Missing here = rejected m a clock.moment (at 122 1)
times_moves m a clock number sent reading.Faulty here = rejected m a clock.moment (at 122 6)
times_moves m a clock number sent (reading.Is first) here =
    choice (Moves m a) (not (is_today clock first) || nat_lt first a.day.reset_at) _ _
    (λ h. rejected m a clock.moment (at 122 5))
    (λ h. choice (Moves m a) (nat_lt sent first) _ _
    (λ h. both_said m a clock.moment (at 122 10) why.Clock)
    (λ h. form_moves m a clock.moment number m.flaw here))

repeated_moves : (m : Incoming) (a : Live) (clock : Clock) (number : ℕ) (sent : Reading)
    → Here m a number → Moves m a (repeated a clock m number sent)
repeated_moves m a clock number reading.Missing here = rejected m a clock.moment (at 52 1)
repeated_moves m a clock number reading.Faulty here = rejected m a clock.moment (at 52 6)
repeated_moves m a clock number (reading.Is sent) here = times_moves m a clock number sent m.first_sent here

once_moves : (m : Incoming) (a : Live) (clock : Clock) (number : ℕ) (sent : Reading)
    → Here m a number → Moves m a (sent_once a clock m number sent)
once_moves m a clock number reading.Missing here = rejected m a clock.moment (at 52 1)
once_moves m a clock number reading.Faulty here = rejected m a clock.moment (at 52 6)
once_moves m a clock number (reading.Is sent) here =
    choice (Moves m a) (is_off clock sent) _ _ (λ h. both_said m a clock.moment (at 52 10) why.Clock)
    (λ h. form_moves m a clock.moment number m.flaw here)

expected_moves : (m : Incoming) (a : Live) (clock : Clock) (number : ℕ) → Here m a number
    → Moves m a (expected_message a clock m number)
expected_moves m a clock number here =
    choice (Moves m a) m.is_repeat _ _ (λ h. repeated_moves m a clock number m.sent here)
    (λ h. once_moves m a clock number m.sent here)

neither : (x y : ℕ) → nat_lt x y ≡ false → nat_lt y x ≡ false → y ≡ x
neither x y h k = grind (arith, nat_tests)

number_moves : (m : Incoming) (a : Live) (clock : Clock) (number : ℕ) → m.origin.number ≡ Some number
    → Moves m a (by_number a clock m number)
number_moves m a clock number is =
    choice (Moves m a) (nat_lt a.day.expected number) _ _
    (λ h. above_moves m a clock.moment number m.kind refl)
    (λ h. choice (Moves m a) (nat_lt number a.day.expected) _ _
    (λ k. below_moves m a clock.moment number is k)
    (λ k. let same = neither a.day.expected number h k in
    expected_moves m a clock number (record { bears = is ∙ ap Some same; same = same })))

names_moves : (m : Incoming) (a : Live) (clock : Clock) (number : ℕ) (stranger : Option ℕ)
    → m.origin.number ≡ Some number → Moves m a (by_names a clock m number stranger)
names_moves m a clock number None is = number_moves m a clock number is
names_moves m a clock number (Some tag) is = both_said m a clock.moment (at tag 9) why.Names

numbered_moves : (m : Incoming) (a : Live) (clock : Clock) (number : Option ℕ) → m.origin.number ≡ number
    → Moves m a (if_numbered a clock m number)
numbered_moves m a clock None is = inl (parts_leaf a clock.moment (word.Logout why.Number) (λ came. refl)).keeps
numbered_moves m a clock (Some number) is = names_moves m a clock number m.stranger is

unless_moves : (m : Incoming) (a : Live) (clock : Clock) (k : Kind) → m.kind ≡ k
    → Moves m a (unless_reset a clock m (reset_in k))
unless_moves m a clock (kind.Reset next) is =
    resets_moves m a clock.moment next (λ n same. ap new_in is ∙ ap (λ r. new_in (kind.Reset r)) same)
unless_moves m a clock kind.Logon is = numbered_moves m a clock m.origin.number refl
unless_moves m a clock (kind.Heartbeat answered) is = numbered_moves m a clock m.origin.number refl
unless_moves m a clock (kind.TestRequest id) is = numbered_moves m a clock m.origin.number refl
unless_moves m a clock (kind.ResendRequest first last) is = numbered_moves m a clock m.origin.number refl
unless_moves m a clock kind.Reject is = numbered_moves m a clock m.origin.number refl
unless_moves m a clock (kind.Fill next) is = numbered_moves m a clock m.origin.number refl
unless_moves m a clock kind.Logout is = numbered_moves m a clock m.origin.number refl
unless_moves m a clock (kind.Denied denial) is = numbered_moves m a clock m.origin.number refl
unless_moves m a clock kind.Other is = numbered_moves m a clock m.origin.number refl

version_moves : (m : Incoming) (a : Live) (clock : Clock) (version : Option (List ℕ))
    → m.version ≡ version → Moves m a (by_version a clock m version)
version_moves m a clock None is = unless_moves m (heard_at a clock.moment) clock m.kind refl
version_moves m a clock (Some version) is =
    by_leaf (heard.Message m) a clock.moment m.origin.number _ (ap is_some is) refl
    (parts_leaf (counted_if a clock.moment m.origin.number) clock.moment (word.Foreign version) (λ came. refl))

pub live_moves : (a : Live) (clock : Clock) (said : Heard) → MovesTo said a.day (came_as a clock said)
live_moves a clock heard.Garbled = inl refl
live_moves a clock (heard.TooLong number) =
    by_leaf (heard.TooLong number) a clock.moment number _ refl refl
    (parts_leaf (counted_if a clock.moment number) clock.moment (word.Logout why.TooLong) (λ came. refl))
live_moves a clock (heard.Message m) = version_moves m a clock m.version refl
