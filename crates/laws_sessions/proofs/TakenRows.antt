-- Each message once: what a turn does to the expected number, and what it gives the venue.
use Rattle.std.proofs.Common.{◌≡◌, ℕ, ◌+◌, ◌≤◌, true, false, ◌==◌, ◌&&◌, ◌||◌, not, nat_lt, List, ◌⊎◌, inl, inr, Option, Some, None, refl, ◌∙◌, arith}
use Rattle.std.proofs.lemmas.Bool.Decides.{nat_tests}
use Rattle.fix_sessions.specs.Outcomes.{stays, disconnects, says, answers, rejects_now, rejects, parts, leaves, logs_out, reject_and_logout, rejects_and_logs_out, reject_of, denies, denies_now, denial_of, counted, counted_if, is_clear, may_log_out}
use Rattle.fix_sessions.specs.Logons.{is_off, is_today}
use Rattle.fix_sessions.specs.Rows.{heard_at, highest_left, asked_of, requested, requested_as, resets_to, missing_noted, above, is_after_sent, repeated_below, below, is_test_of, tested, tests, fills, by_kind, by_form, by_times, repeated, sent_once, expected_message, by_number, by_names, if_numbered, reset_in, unless_reset, by_version, at}
use Rattle.fix_sessions.specs.Steps.{came_as}
use Rattle.fix_sessions.specs.declared.state.Clock.{Clock}
use Rattle.fix_sessions.specs.declared.state.Day.{Day}
use Rattle.fix_sessions.specs.declared.state.Live.{Live}
use Rattle.fix_sessions.specs.declared.messages.Heard.{Heard}
use Rattle.fix_sessions.specs.declared.messages.Heard.TheVariants as heard
use Rattle.fix_sessions.specs.declared.messages.Incoming.{Incoming}
use Rattle.fix_sessions.specs.declared.messages.Origin.{Origin}
use Rattle.fix_sessions.specs.declared.messages.Kind.{Kind}
use Rattle.fix_sessions.specs.declared.messages.Kind.TheVariants as kind
use Rattle.fix_sessions.specs.declared.messages.Reading.{Reading}
use Rattle.fix_sessions.specs.declared.messages.Reading.TheVariants as reading
use Rattle.fix_sessions.specs.declared.messages.TestId.{TestId}
use Rattle.fix_sessions.specs.declared.messages.TestId.TheVariants as test_id
use Rattle.fix_sessions.specs.declared.requests.Asked.{Asked}
use Rattle.fix_sessions.specs.declared.requests.Asked.TheVariants as asked
use Rattle.fix_sessions.specs.declared.turns.Denial.{Denial}
use Rattle.fix_sessions.specs.declared.turns.Fault.{Fault}
use Rattle.fix_sessions.specs.declared.turns.Turn.{Turn}
use Rattle.fix_sessions.specs.declared.turns.Why.{Why}
use Rattle.fix_sessions.specs.declared.turns.Why.TheVariants as why
use Rattle.fix_sessions.specs.declared.turns.Word.{Word}
use Rattle.fix_sessions.specs.declared.turns.Word.TheVariants as word
use Rattle.laws_sessions.proofs.Choices.{choice}

-- The day goes on: once the venue was given a message the expected number does not fall.
pub record Grows (d e : Day) : Type 0 where
  pub up : d.was_taken ≡ true → d.expected ≤ e.expected
  pub one : 1 ≤ d.expected → 1 ≤ e.expected
  pub was : e.was_taken ≡ d.was_taken

pub same_grows : (d e : Day) → e.expected ≡ d.expected → e.was_taken ≡ d.was_taken → Grows d e
same_grows d e p q = record { up = λ h. omega (arith, p); one = λ h. omega (arith, p, h); was = q }

pub more_grows : (d e : Day) → d.expected ≤ e.expected → e.was_taken ≡ d.was_taken → Grows d e
more_grows d e p q = record { up = λ h. p; one = λ h. omega (arith, p, h); was = q }

pub twice : (d e f : Day) → Grows d e → Grows e f → Grows d f
twice d e f g h = record {
  up = λ k. let a = g.up k in let b = h.up (g.was ∙ k) in omega (arith, a, b);
  one = λ k. h.one (g.one k);
  was = h.was ∙ g.was;
}

-- A turn gives the venue nothing, and the day goes on.
pub record Ups (d : Day) (t : Turn) : Type 0 where
  pub nothing : t.takes ≡ None
  pub grows : Grows d t.session.day

-- a turn that leaves both as they are
pub same : (d : Day) (t : Turn) → t.takes ≡ None → t.session.day.expected ≡ d.expected → t.session.day.was_taken ≡ d.was_taken → Ups d t
same d t n p q = record { nothing = n; grows = same_grows d t.session.day p q }

pub onto : (d e : Day) (t : Turn) → Grows d e → Ups e t → Ups d t
onto d e t g u = record { nothing = u.nothing; grows = twice d e t.session.day g u.grows }

-- Or it gives the venue the expected message, and counts it.
pub record Takes (d : Day) (t : Turn) : Type 0 where
  pub given : t.takes ≡ Some d.expected
  pub counted_is : t.session.day.expected ≡ d.expected + 1
  pub was : t.session.day.was_taken ≡ true

abbrev pub Turns : Day → Turn → Type 0
Turns d t = Ups d t ⊎ Takes d t

-- Outcomes.

pub stays_up : (a : Live) → Ups a.day (stays a)
stays_up a = same a.day (stays a) refl refl refl

pub disconnects_up : (a : Live) → Ups a.day (disconnects a)
disconnects_up a = same a.day (disconnects a) refl refl refl

pub says_up : (a : Live) (now : ℕ) (w : Word) → Ups a.day (says a now w)
says_up a now w = same a.day (says a now w) refl refl refl

answers_up : (a : Live) (now : ℕ) (w : Word) → Ups a.day (answers a now w)
answers_up a now w = choice (Ups a.day) (is_clear a) _ _ (λ h. says_up a now w) (λ h. same a.day _ refl refl refl)

rejects_now_up : (a : Live) (now : ℕ) (w : Word) → Ups a.day (rejects_now a now w)
rejects_now_up a now w =
    choice (Ups a.day) (is_clear a && a.line.is_settled) _ _ (λ h. same a.day _ refl refl refl) (λ h. same a.day _ refl refl refl)

pub parts_up : (a : Live) (now : ℕ) (w : Word) → Ups a.day (parts a now w)
parts_up a now w = choice (Ups a.day) (may_log_out a) _ _ (λ h. same a.day _ refl refl refl) (λ h. disconnects_up a)

pub leaves_up : (a : Live) (y : Why) → Ups a.day (leaves a y)
leaves_up a y = choice (Ups a.day) (may_log_out a) _ _ (λ h. same a.day _ refl refl refl) (λ h. disconnects_up a)

both_up : (a : Live) (now : ℕ) (w : Word) (y : Why) → Ups a.day (reject_and_logout a now w y)
both_up a now w y =
    choice (Ups a.day) (not a.line.is_settled) _ _ (λ h. rejects_now_up a now w)
    (λ h. choice (Ups a.day) (is_clear a) _ _ (λ h. same a.day _ refl refl refl) (λ h. same a.day _ refl refl refl))

counted_grows : (a : Live) (now : ℕ) → Grows a.day (counted a now).day
counted_grows a now = more_grows a.day _ (omega arith) refl

counted_if_grows : (a : Live) (now : ℕ) (number : Option ℕ) → Grows a.day (counted_if a now number).day
counted_if_grows a now None = same_grows a.day _ refl refl
counted_if_grows a now (Some number) =
    choice (λ (b : Live). Grows a.day b.day) (number == a.day.expected) _ _ (λ h. counted_grows a now) (λ h. same_grows a.day _ refl refl)

rejects_up : (a : Live) (now : ℕ) (m : Origin) (fault : Fault) → Ups a.day (rejects a now m fault)
rejects_up a now m fault =
    let b = counted_if a now m.number in
    onto a.day b.day _ (counted_if_grows a now m.number) (rejects_now_up b now (reject_of m fault))

denies_now_up : (a : Live) (now : ℕ) (w : Word) → Ups a.day (denies_now a now w)
denies_now_up a now w = choice (Ups a.day) (is_clear a) _ _ (λ h. same a.day _ refl refl refl) (λ h. same a.day _ refl refl refl)

denies_up : (a : Live) (now : ℕ) (m : Origin) (denial : Denial) → Ups a.day (denies a now m denial)
denies_up a now m denial =
    onto a.day _ _ (counted_grows a now) (denies_now_up (counted a now) now (denial_of m denial))

logs_out_up : (a : Live) (now : ℕ) (number : Option ℕ) (w : Word) → Ups a.day (logs_out a now number w)
logs_out_up a now number w =
    let b = counted_if a now number in
    onto a.day b.day _ (counted_if_grows a now number) (parts_up b now w)

both_counted_up : (a : Live) (now : ℕ) (m : Origin) (fault : Fault) (y : Why) → Ups a.day (rejects_and_logs_out a now m fault y)
both_counted_up a now m fault y =
    let b = counted_if a now m.number in
    onto a.day b.day _ (counted_if_grows a now m.number) (both_up b now (reject_of m fault) y)

-- Rows.

requested_as_up : (a : Live) (now : ℕ) (m : Origin) (wanted : Asked) → Ups a.day (requested_as a now m wanted)
requested_as_up a now m (asked.Wrong fault) = rejects_up a now m fault
requested_as_up a now m (asked.Numbers first last) =
    let b = counted_if a now m.number in
    onto a.day b.day _ (counted_if_grows a now m.number) (same b.day _ refl refl refl)

requested_up : (a : Live) (now : ℕ) (m : Origin) (first last : Reading) → Ups a.day (requested a now m first last)
requested_up a now m first last = requested_as_up a now m (asked_of (highest_left a.line) first last)

less_is : (m n : ℕ) → nat_lt m n ≡ true → m ≤ n
less_is m n h = grind (arith, nat_tests)

resets_to_up : (a : Live) (now : ℕ) (m : Origin) (next : Reading) → Ups a.day (resets_to a now m next)
resets_to_up a now m reading.Missing = rejects_up a now m (at 36 1)
resets_to_up a now m reading.Faulty = rejects_up a now m (at 36 6)
resets_to_up a now m (reading.Is next) =
    choice (Ups a.day) (nat_lt a.day.expected next) _ _
    (λ h. record { nothing = refl; grows = more_grows a.day _ (less_is a.day.expected next h) refl })
    (λ h. choice (Ups a.day) (next == a.day.expected) _ _ (λ h. stays_up a) (λ h. rejects_up a now m (at 36 5)))

noted_up : (a : Live) (number : ℕ) → Ups a.day (stays (missing_noted a number))
noted_up a number = same a.day _ refl refl refl

above_up : (a : Live) (now : ℕ) (m : Origin) (number : ℕ) (k : Kind) → Ups a.day (above a now m number k)
above_up a now m number kind.Logon = noted_up a number
above_up a now m number (kind.Heartbeat answered) = noted_up a number
above_up a now m number (kind.TestRequest id) = noted_up a number
above_up a now m number (kind.ResendRequest first last) = requested_up (missing_noted a number) now m first last
above_up a now m number kind.Reject = noted_up a number
above_up a now m number (kind.Fill next) = noted_up a number
above_up a now m number (kind.Reset next) = noted_up a number
above_up a now m number kind.Logout = leaves_up a why.Answered
above_up a now m number (kind.Denied denial) = noted_up a number
above_up a now m number kind.Other = noted_up a number

repeated_below_up : (a : Live) (now : ℕ) (m : Incoming) (first : Reading) → Ups a.day (repeated_below a now m first)
repeated_below_up a now m reading.Missing = rejects_up a now m.origin (at 122 1)
repeated_below_up a now m reading.Faulty = stays_up a
repeated_below_up a now m (reading.Is first) =
    choice (Ups a.day) (is_after_sent m.sent first) _ _
    (λ h. both_counted_up a now m.origin (at 122 10) why.Clock) (λ h. stays_up a)

below_up : (a : Live) (now : ℕ) (m : Incoming) → Ups a.day (below a now m)
below_up a now m =
    choice (Ups a.day) m.is_repeat _ _ (λ h. repeated_below_up a now m m.first_sent)
    (λ h. logs_out_up a now m.origin.number (word.Logout (why.TooLow a.day.expected)))

tested_grows : (a : Live) (answered : Option ℕ) → Grows a.day (tested a answered).day
tested_grows a None = same_grows a.day _ refl refl
tested_grows a (Some number) =
    choice (λ (b : Live). Grows a.day b.day) (is_test_of a.line number) _ _ (λ h. same_grows a.day _ refl refl) (λ h. same_grows a.day _ refl refl)

tests_up : (a : Live) (now : ℕ) (m : Origin) (id : TestId) → Ups a.day (tests a now m id)
tests_up a now m test_id.Missing = rejects_up a now m (at 112 1)
tests_up a now m test_id.TooLong = rejects_up a now m (at 112 5)
tests_up a now m (test_id.Is id) = onto a.day _ _ (counted_grows a now) (answers_up (counted a now) now (word.Answer id))

fills_up : (a : Live) (now : ℕ) (m : Origin) (number : ℕ) (next : Reading) → a.day.expected ≤ number → Ups a.day (fills a now m number next)
fills_up a now m number reading.Missing here = rejects_up a now m (at 36 1)
fills_up a now m number reading.Faulty here = rejects_up a now m (at 36 6)
fills_up a now m number (reading.Is next) here =
    choice (Ups a.day) (nat_lt number next) _ _
    (λ h. record { nothing = refl; grows = more_grows a.day _ (let less = less_is number next h in omega (arith, here, less)) refl })
    (λ h. rejects_up a now m (at 36 5))

kind_turns : (a : Live) (now : ℕ) (m : Origin) (number : ℕ) (k : Kind) → a.day.expected ≤ number → Turns a.day (by_kind a now m number k)
kind_turns a now m number (kind.Heartbeat answered) here =
    inl (onto a.day _ _ (twice a.day _ _ (counted_grows a now) (tested_grows (counted a now) answered)) (stays_up (tested (counted a now) answered)))
kind_turns a now m number kind.Reject here = inl (record { nothing = refl; grows = counted_grows a now })
kind_turns a now m number (kind.TestRequest id) here = inl (tests_up a now m id)
kind_turns a now m number (kind.ResendRequest first last) here = inl (requested_up a now m first last)
kind_turns a now m number (kind.Fill next) here = inl (fills_up a now m number next here)
kind_turns a now m number (kind.Reset next) here = inl (resets_to_up a now m next)
kind_turns a now m number kind.Logout here = inl (onto a.day _ _ (counted_grows a now) (leaves_up (counted a now) why.Answered))
kind_turns a now m number kind.Logon here =
    inl (onto a.day _ _ (counted_grows a now) (parts_up (counted a now) now (word.Logout why.LoggedOn)))
kind_turns a now m number (kind.Denied denial) here = inl (denies_up a now m denial)
kind_turns a now m number kind.Other here = inr (record { given = refl; counted_is = refl; was = refl })

form_turns : (a : Live) (now : ℕ) (m : Incoming) (number : ℕ) (flaw : Option Fault) → a.day.expected ≤ number → Turns a.day (by_form a now m number flaw)
form_turns a now m number None here = kind_turns a now m.origin number m.kind here
form_turns a now m number (Some fault) here = inl (rejects_up a now m.origin fault)

times_turns : (a : Live) (clock : Clock) (m : Incoming) (number sent : ℕ) (first : Reading) → a.day.expected ≤ number → Turns a.day (by_times a clock m number sent first)
times_turns a clock m number sent reading.Missing here = inl (rejects_up a clock.moment m.origin (at 122 1))
times_turns a clock m number sent reading.Faulty here = inl (rejects_up a clock.moment m.origin (at 122 6))
times_turns a clock m number sent (reading.Is first) here =
    choice (Turns a.day) (not (is_today clock first) || nat_lt first a.day.reset_at) _ _
    (λ h. inl (rejects_up a clock.moment m.origin (at 122 5)))
    (λ h. choice (Turns a.day) (nat_lt sent first) _ _
    (λ h. inl (both_counted_up a clock.moment m.origin (at 122 10) why.Clock))
    (λ h. form_turns a clock.moment m number m.flaw here))

repeated_turns : (a : Live) (clock : Clock) (m : Incoming) (number : ℕ) (sent : Reading) → a.day.expected ≤ number → Turns a.day (repeated a clock m number sent)
repeated_turns a clock m number reading.Missing here = inl (rejects_up a clock.moment m.origin (at 52 1))
repeated_turns a clock m number reading.Faulty here = inl (rejects_up a clock.moment m.origin (at 52 6))
repeated_turns a clock m number (reading.Is sent) here = times_turns a clock m number sent m.first_sent here

once_turns : (a : Live) (clock : Clock) (m : Incoming) (number : ℕ) (sent : Reading) → a.day.expected ≤ number → Turns a.day (sent_once a clock m number sent)
once_turns a clock m number reading.Missing here = inl (rejects_up a clock.moment m.origin (at 52 1))
once_turns a clock m number reading.Faulty here = inl (rejects_up a clock.moment m.origin (at 52 6))
once_turns a clock m number (reading.Is sent) here =
    choice (Turns a.day) (is_off clock sent) _ _
    (λ h. inl (both_counted_up a clock.moment m.origin (at 52 10) why.Clock))
    (λ h. form_turns a clock.moment m number m.flaw here)

expected_turns : (a : Live) (clock : Clock) (m : Incoming) (number : ℕ) → a.day.expected ≤ number → Turns a.day (expected_message a clock m number)
expected_turns a clock m number here =
    choice (Turns a.day) m.is_repeat _ _ (λ h. repeated_turns a clock m number m.sent here) (λ h. once_turns a clock m number m.sent here)

not_less : (m n : ℕ) → nat_lt m n ≡ false → n ≤ m
not_less m n h = grind (arith, nat_tests)

number_turns : (a : Live) (clock : Clock) (m : Incoming) (number : ℕ) → Turns a.day (by_number a clock m number)
number_turns a clock m number =
    choice (Turns a.day) (nat_lt a.day.expected number) _ _
    (λ h. inl (above_up a clock.moment m.origin number m.kind))
    (λ h. choice (Turns a.day) (nat_lt number a.day.expected) _ _
    (λ h. inl (below_up a clock.moment m))
    (λ h. expected_turns a clock m number (not_less number a.day.expected h)))

names_turns : (a : Live) (clock : Clock) (m : Incoming) (number : ℕ) (stranger : Option ℕ) → Turns a.day (by_names a clock m number stranger)
names_turns a clock m number None = number_turns a clock m number
names_turns a clock m number (Some tag) = inl (both_counted_up a clock.moment m.origin (at tag 9) why.Names)

numbered_turns : (a : Live) (clock : Clock) (m : Incoming) (number : Option ℕ) → Turns a.day (if_numbered a clock m number)
numbered_turns a clock m None = inl (parts_up a clock.moment (word.Logout why.Number))
numbered_turns a clock m (Some number) = names_turns a clock m number m.stranger

unless_turns : (a : Live) (clock : Clock) (m : Incoming) (next : Option Reading) → Turns a.day (unless_reset a clock m next)
unless_turns a clock m (Some next) = inl (resets_to_up a clock.moment m.origin next)
unless_turns a clock m None = numbered_turns a clock m m.origin.number

version_turns : (a : Live) (clock : Clock) (m : Incoming) (version : Option (List ℕ)) → Turns a.day (by_version a clock m version)
version_turns a clock m None = unless_turns (heard_at a clock.moment) clock m (reset_in m.kind)
version_turns a clock m (Some version) = inl (logs_out_up a clock.moment m.origin.number (word.Foreign version))

pub live_turns : (a : Live) (clock : Clock) (said : Heard) → Turns a.day (came_as a clock said)
live_turns a clock heard.Garbled = inl (stays_up a)
live_turns a clock (heard.TooLong number) = inl (logs_out_up a clock.moment number (word.Logout why.TooLong))
live_turns a clock (heard.Message m) = version_turns a clock m m.version
