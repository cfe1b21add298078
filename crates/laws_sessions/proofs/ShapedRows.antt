-- What the notes of a turn say, row by row: of a message of a connection by which the firm is logged on.
use Rattle.std.proofs.Common.{◌≡◌, ℕ, ◌≤◌, true, false, ◌==◌, ◌&&◌, ◌||◌, not, nat_lt, List, Option, Some, None, inl, inr, refl, ◌∙◌, arith, if◌then◌else◌}
use Rattle.std.proofs.lemmas.Bool.Decides.{nat_tests}
use Rattle.fix_sessions.specs.Outcomes.{stays, disconnects, says, answers, rejects_now, rejects, parts, leaves, logs_out, reject_and_logout, rejects_and_logs_out, reject_of, denies, denies_now, denial_of, counted, counted_if, moved_to, is_clear, may_log_out}
use Rattle.fix_sessions.specs.Logons.{is_off, is_today}
use Rattle.fix_sessions.specs.Rows.{heard_at, highest_left, asked_of, requested, requested_as, resets_to, missing_noted, above, is_after_sent, repeated_below, below, is_test_of, tested, tests, fills, by_kind, by_form, by_times, repeated, sent_once, expected_message, by_number, by_names, if_numbered, reset_in, unless_reset, by_version, at}
use Rattle.fix_sessions.specs.Steps.{came_as}
use Rattle.fix_sessions.specs.declared.state.Clock.{Clock}
use Rattle.fix_sessions.specs.declared.state.Day.{Day}
use Rattle.fix_sessions.specs.declared.state.Live.{Live}
use Rattle.fix_sessions.specs.declared.messages.Heard.{Heard}
use Rattle.fix_sessions.specs.declared.messages.Heard.TheVariants as heard
use Rattle.fix_sessions.specs.declared.messages.Incoming.{Incoming}
use Rattle.fix_sessions.specs.declared.messages.Origin.{Origin}
use Rattle.fix_sessions.specs.declared.messages.Kind.{Kind}
use Rattle.fix_sessions.specs.declared.messages.Kind.TheVariants as kind
use Rattle.fix_sessions.specs.declared.messages.Reading.{Reading}
use Rattle.fix_sessions.specs.declared.messages.Reading.TheVariants as reading
use Rattle.fix_sessions.specs.declared.messages.TestId.{TestId}
use Rattle.fix_sessions.specs.declared.messages.TestId.TheVariants as test_id
use Rattle.fix_sessions.specs.declared.requests.Asked.{Asked}
use Rattle.fix_sessions.specs.declared.requests.Asked.TheVariants as asked
use Rattle.fix_sessions.specs.declared.turns.Denial.{Denial}
use Rattle.fix_sessions.specs.declared.turns.Fault.{Fault}
use Rattle.fix_sessions.specs.declared.turns.Why.{Why}
use Rattle.fix_sessions.specs.declared.turns.Why.TheVariants as why
use Rattle.fix_sessions.specs.declared.turns.Word.{Word}
use Rattle.fix_sessions.specs.declared.turns.Word.TheVariants as word
use Rattle.laws_sessions.proofs.Choices.{choice}
use Rattle.laws_sessions.proofs.Shapes.{Goes, Onto, Own, Rejects, Silently, LogsOut, Both, goes, onto, silent, still}
use Rattle.session_recovery.specs.Puts.{kind_of}
use Rattle.session_recovery.specs.declared.notes.NoteKind.{NoteKind}
use Rattle.session_recovery.specs.declared.notes.NoteKind.TheVariants as note

-- Outcomes.

-- a word that is noted as this kind
abbrev IsOf : Word → NoteKind → Type 0
IsOf w k = (l : ℕ) → kind_of l w ≡ Some k

pub stays_goes : (a : Live) → Goes true a.day (stays a)
stays_goes a = silent a.day (stays a) (λ l. refl) (λ l. refl) refl refl refl refl refl refl

pub disconnects_goes : (a : Live) → Goes true a.day (disconnects a)
disconnects_goes a = silent a.day (disconnects a) (λ l. refl) (λ l. refl) refl refl refl refl refl refl

pub says_goes : (a : Live) (now : ℕ) (w : Word) → IsOf w note.Own → Goes true a.day (says a now w)
says_goes a now w k =
    goes a.day (says a now w)
    (Own (record { number = refl; noted = k; second = λ l. refl; day = refl })) refl refl refl refl refl

answers_goes : (a : Live) (now : ℕ) (w : Word) → IsOf w note.Own → Goes true a.day (answers a now w)
answers_goes a now w k =
    choice (Goes true a.day) (is_clear a) _ _ (λ h. says_goes a now w k)
    (λ h. goes a.day _ (Own (record { number = refl; noted = k; second = λ l. refl; day = refl })) refl refl refl refl refl)

rejects_now_goes : (a : Live) (now : ℕ) (w : Word) → IsOf w note.Reject → Goes true a.day (rejects_now a now w)
rejects_now_goes a now w k =
    choice (Goes true a.day) (is_clear a && a.line.is_settled) _ _
    (λ h. goes a.day _ (Rejects (record { number = refl; noted = k; second = λ l. refl; day = refl }) refl) refl refl refl refl refl)
    (λ h. goes a.day _ (Rejects (record { number = refl; noted = k; second = λ l. refl; day = refl }) refl) refl refl refl refl refl)

denies_now_goes : (a : Live) (now : ℕ) (w : Word) → IsOf w note.Reject → Goes true a.day (denies_now a now w)
denies_now_goes a now w k =
    choice (Goes true a.day) (is_clear a) _ _
    (λ h. goes a.day _ (Rejects (record { number = refl; noted = k; second = λ l. refl; day = refl }) refl) refl refl refl refl refl)
    (λ h. goes a.day _ (Rejects (record { number = refl; noted = k; second = λ l. refl; day = refl }) refl) refl refl refl refl refl)

pub parts_goes : (a : Live) (now : ℕ) (w : Word) → IsOf w note.Logout → Goes true a.day (parts a now w)
parts_goes a now w k =
    choice (Goes true a.day) (may_log_out a) _ _
    (λ h. goes a.day _ (LogsOut refl (record { number = refl; noted = k; second = λ l. refl; day = refl })) refl refl refl refl refl)
    (λ h. disconnects_goes a)

pub leaves_goes : (a : Live) (y : Why) → Goes true a.day (leaves a y)
leaves_goes a y =
    choice (Goes true a.day) (may_log_out a) _ _
    (λ h. goes a.day _ (LogsOut refl (record { number = refl; noted = λ l. refl; second = λ l. refl; day = refl })) refl refl refl refl refl)
    (λ h. disconnects_goes a)

both_goes : (a : Live) (now : ℕ) (w : Word) (y : Why) → IsOf w note.Reject → Goes true a.day (reject_and_logout a now w y)
both_goes a now w y k =
    choice (Goes true a.day) (not a.line.is_settled) _ _ (λ h. rejects_now_goes a now w k)
    (λ h. choice (Goes true a.day) (is_clear a) _ _
    (λ h. goes a.day _ (Both refl (record {
      number = refl;
      noted = k;
      kept = refl;
      number_too = refl;
      noted_too = λ l. refl;
      day = refl;
    })) refl refl refl refl refl)
    (λ h. goes a.day _ (Rejects (record { number = refl; noted = k; second = λ l. refl; day = refl }) refl) refl refl refl refl refl))

counted_onto : (a : Live) (now : ℕ) → Onto a.day (counted a now).day
counted_onto a now = record { same = refl; expected = omega arith; had = omega arith; was = refl }

counted_if_onto : (a : Live) (now : ℕ) (number : Option ℕ) → Onto a.day (counted_if a now number).day
counted_if_onto a now None = still a.day _ refl refl refl refl
counted_if_onto a now (Some number) =
    choice (λ (b : Live). Onto a.day b.day) (number == a.day.expected) _ _ (λ h. counted_onto a now) (λ h. still a.day _ refl refl refl refl)

rejects_goes : (a : Live) (now : ℕ) (m : Origin) (fault : Fault) → Goes true a.day (rejects a now m fault)
rejects_goes a now m fault =
    let b = counted_if a now m.number in
    onto a.day b.day _ (counted_if_onto a now m.number) (rejects_now_goes b now (reject_of m fault) (λ l. refl))

denies_goes : (a : Live) (now : ℕ) (m : Origin) (denial : Denial) → Goes true a.day (denies a now m denial)
denies_goes a now m denial =
    onto a.day _ _ (counted_onto a now) (denies_now_goes (counted a now) now (denial_of m denial) (λ l. refl))

logs_out_goes : (a : Live) (now : ℕ) (number : Option ℕ) (w : Word) → IsOf w note.Logout → Goes true a.day (logs_out a now number w)
logs_out_goes a now number w k =
    let b = counted_if a now number in
    onto a.day b.day _ (counted_if_onto a now number) (parts_goes b now w k)

both_counted_goes : (a : Live) (now : ℕ) (m : Origin) (fault : Fault) (y : Why) → Goes true a.day (rejects_and_logs_out a now m fault y)
both_counted_goes a now m fault y =
    let b = counted_if a now m.number in
    onto a.day b.day _ (counted_if_onto a now m.number) (both_goes b now (reject_of m fault) y (λ l. refl))

-- Rows.

requested_as_goes : (a : Live) (now : ℕ) (m : Origin) (wanted : Asked) → Goes true a.day (requested_as a now m wanted)
requested_as_goes a now m (asked.Wrong fault) = rejects_goes a now m fault
requested_as_goes a now m (asked.Numbers first last) =
    let b = counted_if a now m.number in
    onto a.day b.day _ (counted_if_onto a now m.number) (silent b.day _ (λ l. refl) (λ l. refl) refl refl refl refl refl refl)

requested_goes : (a : Live) (now : ℕ) (m : Origin) (first last : Reading) → Goes true a.day (requested a now m first last)
requested_goes a now m first last = requested_as_goes a now m (asked_of (highest_left a.line) first last)

less_is : (m n : ℕ) → nat_lt m n ≡ true → m ≤ n
less_is m n h = grind (arith, nat_tests)

set_goes : (a : Live) (now next : ℕ) → a.day.expected ≤ next → Goes true a.day (stays (moved_to a now next))
set_goes a now next up = record {
  shape = Silently (record { first = λ l. refl; second = λ l. refl; day = refl });
  drops = refl;
  expected = up;
  had = omega arith;
  taken = inl (record { nothing = refl; was = refl });
}

resets_to_goes : (a : Live) (now : ℕ) (m : Origin) (next : Reading) → Goes true a.day (resets_to a now m next)
resets_to_goes a now m reading.Missing = rejects_goes a now m (at 36 1)
resets_to_goes a now m reading.Faulty = rejects_goes a now m (at 36 6)
resets_to_goes a now m (reading.Is next) =
    choice (Goes true a.day) (nat_lt a.day.expected next) _ _
    (λ h. set_goes a now next (less_is a.day.expected next h))
    (λ h. choice (Goes true a.day) (next == a.day.expected) _ _ (λ h. stays_goes a) (λ h. rejects_goes a now m (at 36 5)))

noted_goes : (a : Live) (number : ℕ) → Goes true a.day (stays (missing_noted a number))
noted_goes a number = silent a.day _ (λ l. refl) (λ l. refl) refl refl refl refl refl refl

above_goes : (a : Live) (now : ℕ) (m : Origin) (number : ℕ) (k : Kind) → Goes true a.day (above a now m number k)
above_goes a now m number kind.Logon = noted_goes a number
above_goes a now m number (kind.Heartbeat answered) = noted_goes a number
above_goes a now m number (kind.TestRequest id) = noted_goes a number
above_goes a now m number (kind.ResendRequest first last) = requested_goes (missing_noted a number) now m first last
above_goes a now m number kind.Reject = noted_goes a number
above_goes a now m number (kind.Fill next) = noted_goes a number
above_goes a now m number (kind.Reset next) = noted_goes a number
above_goes a now m number kind.Logout = leaves_goes a why.Answered
above_goes a now m number (kind.Denied denial) = noted_goes a number
above_goes a now m number kind.Other = noted_goes a number

repeated_below_goes : (a : Live) (now : ℕ) (m : Incoming) (first : Reading) → Goes true a.day (repeated_below a now m first)
repeated_below_goes a now m reading.Missing = rejects_goes a now m.origin (at 122 1)
repeated_below_goes a now m reading.Faulty = stays_goes a
repeated_below_goes a now m (reading.Is first) =
    choice (Goes true a.day) (is_after_sent m.sent first) _ _
    (λ h. both_counted_goes a now m.origin (at 122 10) why.Clock) (λ h. stays_goes a)

below_goes : (a : Live) (now : ℕ) (m : Incoming) → Goes true a.day (below a now m)
below_goes a now m =
    choice (Goes true a.day) m.is_repeat _ _ (λ h. repeated_below_goes a now m m.first_sent)
    (λ h. logs_out_goes a now m.origin.number (word.Logout (why.TooLow a.day.expected)) (λ l. refl))

both_onto : (d e f : Day) → Onto d e → Onto e f → Onto d f
both_onto d e f g h = record {
  same = h.same ∙ g.same;
  expected = (let a = g.expected in let b = h.expected in omega (arith, a, b));
  had = (let a = g.had in let b = h.had in omega (arith, a, b));
  was = h.was ∙ g.was;
}

had_up : (n number : ℕ) → n ≤ (if nat_lt n number then number else n)
had_up n number = choice (λ (k : ℕ). n ≤ k) (nat_lt n number) _ _ (λ h. less_is n number h) (λ h. omega arith)

tested_onto : (a : Live) (answered : Option ℕ) → Onto a.day (tested a answered).day
tested_onto a None = still a.day _ refl refl refl refl
tested_onto a (Some number) =
    choice (λ (b : Live). Onto a.day b.day) (is_test_of a.line number) _ _
    (λ h. record { same = refl; expected = omega arith; had = had_up a.day.had number; was = refl }) (λ h. still a.day _ refl refl refl refl)

tests_goes : (a : Live) (now : ℕ) (m : Origin) (id : TestId) → Goes true a.day (tests a now m id)
tests_goes a now m test_id.Missing = rejects_goes a now m (at 112 1)
tests_goes a now m test_id.TooLong = rejects_goes a now m (at 112 5)
tests_goes a now m (test_id.Is id) = onto a.day _ _ (counted_onto a now) (answers_goes (counted a now) now (word.Answer id) (λ l. refl))

fills_goes : (a : Live) (now : ℕ) (m : Origin) (number : ℕ) (next : Reading) → a.day.expected ≤ number → Goes true a.day (fills a now m number next)
fills_goes a now m number reading.Missing here = rejects_goes a now m (at 36 1)
fills_goes a now m number reading.Faulty here = rejects_goes a now m (at 36 6)
fills_goes a now m number (reading.Is next) here =
    choice (Goes true a.day) (nat_lt number next) _ _
    (λ h. set_goes a now next (let less = less_is number next h in omega (arith, here, less)))
    (λ h. rejects_goes a now m (at 36 5))

kind_goes : (a : Live) (now : ℕ) (m : Origin) (number : ℕ) (k : Kind) → a.day.expected ≤ number → Goes true a.day (by_kind a now m number k)
kind_goes a now m number (kind.Heartbeat answered) here =
    (onto a.day _ _ (both_onto a.day _ _ (counted_onto a now) (tested_onto (counted a now) answered)) (stays_goes (tested (counted a now) answered)))
kind_goes a now m number kind.Reject here =
    onto a.day _ _ (counted_onto a now) (silent (counted a now).day _ (λ l. refl) (λ l. refl) refl refl refl refl refl refl)
kind_goes a now m number (kind.TestRequest id) here = (tests_goes a now m id)
kind_goes a now m number (kind.ResendRequest first last) here = (requested_goes a now m first last)
kind_goes a now m number (kind.Fill next) here = (fills_goes a now m number next here)
kind_goes a now m number (kind.Reset next) here = (resets_to_goes a now m next)
kind_goes a now m number kind.Logout here = (onto a.day _ _ (counted_onto a now) (leaves_goes (counted a now) why.Answered))
kind_goes a now m number kind.Logon here =
    (onto a.day _ _ (counted_onto a now) (parts_goes (counted a now) now (word.Logout why.LoggedOn) (λ l. refl)))
kind_goes a now m number (kind.Denied denial) here = (denies_goes a now m denial)
kind_goes a now m number kind.Other here = record {
  shape = Silently (record { first = λ l. refl; second = λ l. refl; day = refl });
  drops = refl;
  expected = omega arith;
  had = omega arith;
  taken = inr (record { number = a.day.expected; given = refl; from = omega arith; counted = refl; was = refl });
}

form_goes : (a : Live) (now : ℕ) (m : Incoming) (number : ℕ) (flaw : Option Fault) → a.day.expected ≤ number → Goes true a.day (by_form a now m number flaw)
form_goes a now m number None here = kind_goes a now m.origin number m.kind here
form_goes a now m number (Some fault) here = (rejects_goes a now m.origin fault)

times_goes : (a : Live) (clock : Clock) (m : Incoming) (number sent : ℕ) (first : Reading) → a.day.expected ≤ number → Goes true a.day (by_times a clock m number sent first)
times_goes a clock m number sent reading.Missing here = (rejects_goes a clock.moment m.origin (at 122 1))
times_goes a clock m number sent reading.Faulty here = (rejects_goes a clock.moment m.origin (at 122 6))
times_goes a clock m number sent (reading.Is first) here =
    choice (Goes true a.day) (not (is_today clock first) || nat_lt first a.day.reset_at) _ _
    (λ h. (rejects_goes a clock.moment m.origin (at 122 5)))
    (λ h. choice (Goes true a.day) (nat_lt sent first) _ _
    (λ h. (both_counted_goes a clock.moment m.origin (at 122 10) why.Clock))
    (λ h. form_goes a clock.moment m number m.flaw here))

repeated_goes : (a : Live) (clock : Clock) (m : Incoming) (number : ℕ) (sent : Reading) → a.day.expected ≤ number → Goes true a.day (repeated a clock m number sent)
repeated_goes a clock m number reading.Missing here = (rejects_goes a clock.moment m.origin (at 52 1))
repeated_goes a clock m number reading.Faulty here = (rejects_goes a clock.moment m.origin (at 52 6))
repeated_goes a clock m number (reading.Is sent) here = times_goes a clock m number sent m.first_sent here

once_goes : (a : Live) (clock : Clock) (m : Incoming) (number : ℕ) (sent : Reading) → a.day.expected ≤ number → Goes true a.day (sent_once a clock m number sent)
once_goes a clock m number reading.Missing here = (rejects_goes a clock.moment m.origin (at 52 1))
once_goes a clock m number reading.Faulty here = (rejects_goes a clock.moment m.origin (at 52 6))
once_goes a clock m number (reading.Is sent) here =
    choice (Goes true a.day) (is_off clock sent) _ _
    (λ h. (both_counted_goes a clock.moment m.origin (at 52 10) why.Clock))
    (λ h. form_goes a clock.moment m number m.flaw here)

expected_goes : (a : Live) (clock : Clock) (m : Incoming) (number : ℕ) → a.day.expected ≤ number → Goes true a.day (expected_message a clock m number)
expected_goes a clock m number here =
    choice (Goes true a.day) m.is_repeat _ _ (λ h. repeated_goes a clock m number m.sent here) (λ h. once_goes a clock m number m.sent here)

not_less : (m n : ℕ) → nat_lt m n ≡ false → n ≤ m
not_less m n h = grind (arith, nat_tests)

number_goes : (a : Live) (clock : Clock) (m : Incoming) (number : ℕ) → Goes true a.day (by_number a clock m number)
number_goes a clock m number =
    choice (Goes true a.day) (nat_lt a.day.expected number) _ _
    (λ h. (above_goes a clock.moment m.origin number m.kind))
    (λ h. choice (Goes true a.day) (nat_lt number a.day.expected) _ _
    (λ h. (below_goes a clock.moment m))
    (λ h. expected_goes a clock m number (not_less number a.day.expected h)))

names_goes : (a : Live) (clock : Clock) (m : Incoming) (number : ℕ) (stranger : Option ℕ) → Goes true a.day (by_names a clock m number stranger)
names_goes a clock m number None = number_goes a clock m number
names_goes a clock m number (Some tag) = (both_counted_goes a clock.moment m.origin (at tag 9) why.Names)

numbered_goes : (a : Live) (clock : Clock) (m : Incoming) (number : Option ℕ) → Goes true a.day (if_numbered a clock m number)
numbered_goes a clock m None = (parts_goes a clock.moment (word.Logout why.Number) (λ l. refl))
numbered_goes a clock m (Some number) = names_goes a clock m number m.stranger

unless_goes : (a : Live) (clock : Clock) (m : Incoming) (next : Option Reading) → Goes true a.day (unless_reset a clock m next)
unless_goes a clock m (Some next) = (resets_to_goes a clock.moment m.origin next)
unless_goes a clock m None = numbered_goes a clock m m.origin.number

version_goes : (a : Live) (clock : Clock) (m : Incoming) (version : Option (List ℕ)) → Goes true a.day (by_version a clock m version)
version_goes a clock m None = unless_goes (heard_at a clock.moment) clock m (reset_in m.kind)
version_goes a clock m (Some version) = (logs_out_goes a clock.moment m.origin.number (word.Foreign version) (λ l. refl))

pub live_goes : (a : Live) (clock : Clock) (said : Heard) → Goes true a.day (came_as a clock said)
live_goes a clock heard.Garbled = (stays_goes a)
live_goes a clock (heard.TooLong number) = (logs_out_goes a clock.moment number (word.Logout why.TooLong) (λ l. refl))
live_goes a clock (heard.Message m) = version_goes a clock m m.version
