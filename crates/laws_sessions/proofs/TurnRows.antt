-- The same of each row of the tables.
use Rattle.std.proofs.Common.{ℕ, ◌==◌, ◌||◌, not, nat_lt, nat_le, List, Option, Some, None, refl, arith, if◌then◌else◌}
use Rattle.fix_sessions.specs.Outcomes.{stays, counted, counted_if, moved_to}
use Rattle.fix_sessions.specs.Logons.{is_off, is_today}
use Rattle.fix_sessions.specs.Rows.{heard_at, highest_left, asked_of, requested, requested_as, resets_to, missing_noted, above, is_after_sent, repeated_below, below, is_test_of, settled_by, tested, tests, fills, takes, by_kind, by_form, by_times, repeated, sent_once, expected_message, by_number, by_names, if_numbered, reset_in, unless_reset, by_version, at, again_from}
use Rattle.laws_sessions.proofs.Choices.{choice}
use Rattle.fix_sessions.specs.Steps.{came_as}
use Rattle.fix_sessions.specs.declared.state.Clock.{Clock}
use Rattle.fix_sessions.specs.declared.state.Line.{Line}
use Rattle.fix_sessions.specs.declared.state.Live.{Live}
use Rattle.fix_sessions.specs.declared.messages.Heard.{Heard}
use Rattle.fix_sessions.specs.declared.messages.Heard.TheVariants as heard
use Rattle.fix_sessions.specs.declared.messages.Incoming.{Incoming}
use Rattle.fix_sessions.specs.declared.messages.Origin.{Origin}
use Rattle.fix_sessions.specs.declared.messages.Kind.{Kind}
use Rattle.fix_sessions.specs.declared.messages.Kind.TheVariants as kind
use Rattle.fix_sessions.specs.declared.messages.Reading.{Reading}
use Rattle.fix_sessions.specs.declared.messages.Reading.TheVariants as reading
use Rattle.fix_sessions.specs.declared.messages.TestId.{TestId}
use Rattle.fix_sessions.specs.declared.messages.TestId.TheVariants as test_id
use Rattle.fix_sessions.specs.declared.requests.Asked.{Asked}
use Rattle.fix_sessions.specs.declared.requests.Asked.TheVariants as asked
use Rattle.fix_sessions.specs.declared.turns.Fault.{Fault}
use Rattle.fix_sessions.specs.declared.turns.Notice.{Notice}
use Rattle.fix_sessions.specs.declared.turns.Notice.TheVariants as notice
use Rattle.fix_sessions.specs.declared.turns.Why.TheVariants as why
use Rattle.fix_sessions.specs.declared.turns.Word.TheVariants as word
use Rattle.laws_sessions.proofs.TurnOutcomes.{DoesOf, stays_does, answers_does, parts_does, leaves_does, denies_does, from_counted, rejects_does, logs_out_does, both_counted_does}

-- what is asked for changes neither
asked_does : (a : Live) (first last : ℕ) → DoesOf a (stays (record a { line = again_from a.line first last }))
asked_does a first last =
    choice (λ (l : Line). DoesOf a (stays (record a { line = l }))) (nat_lt a.line.again a.line.again_end) _ _
    (λ h. record {
      on = refl;
      whose = refl;
      most = omega arith;
      kept = omega arith;
      new = λ h. omega arith;
      sound = λ h. h;
      own = λ o. (tt, tt);
    })
    (λ h. record {
      on = refl;
      whose = refl;
      most = omega arith;
      kept = omega arith;
      new = λ h. omega arith;
      sound = λ h. h;
      own = λ o. (tt, tt);
    })

requested_as_does : (a : Live) (now : ℕ) (m : Origin) (wanted : Asked)
    → DoesOf a (requested_as a now m wanted)
requested_as_does a now m (asked.Wrong fault) = rejects_does a now m fault
requested_as_does a now m (asked.Numbers first last) =
    from_counted a now m.number _ (asked_does (counted_if a now m.number) first last)

requested_does : (a : Live) (now : ℕ) (m : Origin) (first last : Reading)
    → DoesOf a (requested a now m first last)
requested_does a now m first last =
    requested_as_does a now m (asked_of (highest_left a.line) first last)

moved_does : (a : Live) (now next : ℕ) → DoesOf a (stays (moved_to a now next))
moved_does a now next = record {
  on = refl;
  whose = refl;
  most = omega arith;
  kept = omega arith;
  new = λ h. omega arith;
  sound = λ h. h;
  own = λ o. (tt, tt);
}

resets_to_does : (a : Live) (now : ℕ) (m : Origin) (next : Reading)
    → DoesOf a (resets_to a now m next)
resets_to_does a now m reading.Missing = rejects_does a now m (at 36 1)
resets_to_does a now m reading.Faulty = rejects_does a now m (at 36 6)
resets_to_does a now m (reading.Is next) =
    choice (DoesOf a) (nat_lt a.day.expected next) _ _ (λ h. moved_does a now next)
    (λ h. choice (DoesOf a) (next == a.day.expected) _ _ (λ h. stays_does a)
    (λ h. rejects_does a now m (at 36 5)))

noted_does : (a : Live) (number : ℕ) → DoesOf a (stays (missing_noted a number))
noted_does a number = record {
  on = refl;
  whose = refl;
  most = omega arith;
  kept = omega arith;
  new = λ h. omega arith;
  sound = λ h. h;
  own = λ o. (tt, tt);
}

above_does : (a : Live) (now : ℕ) (m : Origin) (number : ℕ) (k : Kind)
    → DoesOf a (above a now m number k)
above_does a now m number kind.Logon = noted_does a number
above_does a now m number (kind.Heartbeat answered) = noted_does a number
above_does a now m number (kind.TestRequest id) = noted_does a number
above_does a now m number (kind.ResendRequest first last) =
    requested_does (missing_noted a number) now m first last
above_does a now m number kind.Reject = noted_does a number
above_does a now m number (kind.Fill next) = noted_does a number
above_does a now m number (kind.Reset next) = noted_does a number
above_does a now m number kind.Logout = leaves_does a why.Answered
above_does a now m number (kind.Denied denial) = noted_does a number
above_does a now m number kind.Other = noted_does a number

repeated_below_does : (a : Live) (now : ℕ) (m : Incoming) (first : Reading)
    → DoesOf a (repeated_below a now m first)
repeated_below_does a now m reading.Missing = rejects_does a now m.origin (at 122 1)
repeated_below_does a now m reading.Faulty = stays_does a
repeated_below_does a now m (reading.Is first) =
    choice (DoesOf a) (is_after_sent m.sent first) _ _
    (λ h. both_counted_does a now m.origin (at 122 10) why.Clock) (λ h. stays_does a)

below_does : (a : Live) (now : ℕ) (m : Incoming) → DoesOf a (below a now m)
below_does a now m =
    choice (DoesOf a) m.is_repeat _ _ (λ h. repeated_below_does a now m m.first_sent)
    (λ h. logs_out_does a now m.origin.number (word.Logout (why.TooLow a.day.expected)) refl)

settled_does : (a : Live) (had number : ℕ)
    → DoesOf a (stays (record a { day = record a.day { had = had }; line = settled_by a.line number }))
settled_does a had number =
    choice (λ (l : Line). DoesOf a (stays (record a { day = record a.day { had = had }; line = l })))
    (nat_le a.line.overtook number) _ _
    (λ h. record {
      on = refl;
      whose = refl;
      most = omega arith;
      kept = omega arith;
      new = λ h. omega arith;
      sound = λ h. h;
      own = λ o. (tt, tt);
    })
    (λ h. record {
      on = refl;
      whose = refl;
      most = omega arith;
      kept = omega arith;
      new = λ h. omega arith;
      sound = λ h. h;
      own = λ o. (tt, tt);
    })

tested_does : (a : Live) (answered : Option ℕ) → DoesOf a (stays (tested a answered))
tested_does a None = stays_does a
tested_does a (Some number) =
    choice (λ (b : Live). DoesOf a (stays b)) (is_test_of a.line number) _ _
    (λ h. settled_does a (if nat_lt a.day.had number then number else a.day.had) number)
    (λ h. stays_does a)

tests_does : (a : Live) (now : ℕ) (m : Origin) (id : TestId) → DoesOf a (tests a now m id)
tests_does a now m test_id.Missing = rejects_does a now m (at 112 1)
tests_does a now m test_id.TooLong = rejects_does a now m (at 112 5)
tests_does a now m (test_id.Is id) = answers_does (counted a now) now (word.Answer id) refl

fills_does : (a : Live) (now : ℕ) (m : Origin) (number : ℕ) (next : Reading)
    → DoesOf a (fills a now m number next)
fills_does a now m number reading.Missing = rejects_does a now m (at 36 1)
fills_does a now m number reading.Faulty = rejects_does a now m (at 36 6)
fills_does a now m number (reading.Is next) =
    choice (DoesOf a) (nat_lt number next) _ _ (λ h. moved_does a now next)
    (λ h. rejects_does a now m (at 36 5))

takes_does : (a : Live) (now : ℕ) → DoesOf a (takes a now)
takes_does a now = record {
  on = refl;
  whose = refl;
  most = omega arith;
  kept = omega arith;
  new = λ h. omega arith;
  sound = λ h. h;
  own = λ o. (tt, tt);
}

told_does : (a : Live) (told : Notice) → DoesOf a (record (stays a) { notice = Some told })
told_does a told = record {
  on = refl;
  whose = refl;
  most = omega arith;
  kept = omega arith;
  new = λ h. omega arith;
  sound = λ h. h;
  own = λ o. (tt, tt);
}

kind_does : (a : Live) (now : ℕ) (m : Origin) (number : ℕ) (k : Kind)
    → DoesOf a (by_kind a now m number k)
kind_does a now m number (kind.Heartbeat answered) = tested_does (counted a now) answered
kind_does a now m number kind.Reject = told_does (counted a now) notice.Rejected
kind_does a now m number (kind.TestRequest id) = tests_does a now m id
kind_does a now m number (kind.ResendRequest first last) = requested_does a now m first last
kind_does a now m number (kind.Fill next) = fills_does a now m number next
kind_does a now m number (kind.Reset next) = resets_to_does a now m next
kind_does a now m number kind.Logout = leaves_does (counted a now) why.Answered
kind_does a now m number kind.Logon = parts_does (counted a now) now (word.Logout why.LoggedOn) refl
kind_does a now m number (kind.Denied denial) = denies_does a now m denial
kind_does a now m number kind.Other = takes_does a now

form_does : (a : Live) (now : ℕ) (m : Incoming) (number : ℕ) (flaw : Option Fault)
    → DoesOf a (by_form a now m number flaw)
form_does a now m number None = kind_does a now m.origin number m.kind
form_does a now m number (Some fault) = rejects_does a now m.origin fault

times_does : (a : Live) (clock : Clock) (m : Incoming) (number sent : ℕ) (first : Reading)
    → DoesOf a (by_times a clock m number sent first)
times_does a clock m number sent reading.Missing = rejects_does a clock.moment m.origin (at 122 1)
times_does a clock m number sent reading.Faulty = rejects_does a clock.moment m.origin (at 122 6)
times_does a clock m number sent (reading.Is first) =
    choice (DoesOf a) (not (is_today clock first) || nat_lt first a.day.reset_at) _ _
    (λ h. rejects_does a clock.moment m.origin (at 122 5))
    (λ h. choice (DoesOf a) (nat_lt sent first) _ _
    (λ h. both_counted_does a clock.moment m.origin (at 122 10) why.Clock)
    (λ h. form_does a clock.moment m number m.flaw))

repeated_does : (a : Live) (clock : Clock) (m : Incoming) (number : ℕ) (sent : Reading)
    → DoesOf a (repeated a clock m number sent)
repeated_does a clock m number reading.Missing = rejects_does a clock.moment m.origin (at 52 1)
repeated_does a clock m number reading.Faulty = rejects_does a clock.moment m.origin (at 52 6)
repeated_does a clock m number (reading.Is sent) = times_does a clock m number sent m.first_sent

once_does : (a : Live) (clock : Clock) (m : Incoming) (number : ℕ) (sent : Reading)
    → DoesOf a (sent_once a clock m number sent)
once_does a clock m number reading.Missing = rejects_does a clock.moment m.origin (at 52 1)
once_does a clock m number reading.Faulty = rejects_does a clock.moment m.origin (at 52 6)
once_does a clock m number (reading.Is sent) =
    choice (DoesOf a) (is_off clock sent) _ _
    (λ h. both_counted_does a clock.moment m.origin (at 52 10) why.Clock)
    (λ h. form_does a clock.moment m number m.flaw)

expected_does : (a : Live) (clock : Clock) (m : Incoming) (number : ℕ)
    → DoesOf a (expected_message a clock m number)
expected_does a clock m number =
    choice (DoesOf a) m.is_repeat _ _ (λ h. repeated_does a clock m number m.sent)
    (λ h. once_does a clock m number m.sent)

number_does : (a : Live) (clock : Clock) (m : Incoming) (number : ℕ)
    → DoesOf a (by_number a clock m number)
number_does a clock m number =
    choice (DoesOf a) (nat_lt a.day.expected number) _ _
    (λ h. above_does a clock.moment m.origin number m.kind)
    (λ h. choice (DoesOf a) (nat_lt number a.day.expected) _ _ (λ h. below_does a clock.moment m)
    (λ h. expected_does a clock m number))

names_does : (a : Live) (clock : Clock) (m : Incoming) (number : ℕ) (stranger : Option ℕ)
    → DoesOf a (by_names a clock m number stranger)
names_does a clock m number None = number_does a clock m number
names_does a clock m number (Some tag) =
    both_counted_does a clock.moment m.origin (at tag 9) why.Names

numbered_does : (a : Live) (clock : Clock) (m : Incoming) (number : Option ℕ)
    → DoesOf a (if_numbered a clock m number)
numbered_does a clock m None = parts_does a clock.moment (word.Logout why.Number) refl
numbered_does a clock m (Some number) = names_does a clock m number m.stranger

unless_does : (a : Live) (clock : Clock) (m : Incoming) (next : Option Reading)
    → DoesOf a (unless_reset a clock m next)
unless_does a clock m (Some next) = resets_to_does a clock.moment m.origin next
unless_does a clock m None = numbered_does a clock m m.origin.number

version_does : (a : Live) (clock : Clock) (m : Incoming) (version : Option (List ℕ))
    → DoesOf a (by_version a clock m version)
version_does a clock m None = unless_does (heard_at a clock.moment) clock m (reset_in m.kind)
version_does a clock m (Some version) =
    logs_out_does a clock.moment m.origin.number (word.Foreign version) refl

pub came_as_does : (a : Live) (clock : Clock) (said : Heard) → DoesOf a (came_as a clock said)
came_as_does a clock heard.Garbled = stays_does a
came_as_does a clock (heard.TooLong number) =
    logs_out_does a clock.moment number (word.Logout why.TooLong) refl
came_as_does a clock (heard.Message m) = version_does a clock m m.version
