-- What a turn says that hands nothing back: no gap fill, and nothing that is kept. And a BusinessMessageReject names
-- the message that is counted with it.
use Rattle.std.specs.Prelude.{unwrap_or}
use Rattle.std.proofs.Common.{◌≡◌, ℕ, ◌+◌, ◌-◌, ◌≤◌, ◌<◌, Bool, true, false, ◌==◌, ◌&&◌, ◌||◌, not, nat_le, nat_lt, List, Option, Some, None, refl, sym, subst, arith}
use Rattle.std.proofs.lemmas.Bool.{false≢true}
use Rattle.std.proofs.lemmas.Bool.Decides.{nat_tests}
use Rattle.fix_sessions.specs.Heard.{as_taken, heard_of, is_logout, logon_of}
use Rattle.fix_sessions.specs.Logons.{accepts, answer_number, came_first, expected_by, first_by, is_ahead, is_heartbeat, is_in_time, is_off, is_safe, is_today, judged, judged_ahead, judged_by, judged_denial, judged_number, judged_reset, judged_terms, locked, logout_of, may_reset, refusal_day, refused, refused_early, refused_for, refuses, refuses_early, shows_loss, too_low, value_or_zero, waits_for, without}
use Rattle.fix_sessions.specs.Outcomes.{answers, counted, counted_if, denial_of, denies, denies_now, is_clear, is_spent, leaves, live, logs_out, may_log_out, parts, reject_and_logout, reject_of, rejects, rejects_and_logs_out, rejects_now}
use Rattle.fix_sessions.specs.Rows.{above, asked_of, at, below, by_form, by_kind, by_names, by_number, by_times, by_version, expected_message, fills, heard_at, highest_left, if_numbered, is_after_sent, missing_noted, repeated, repeated_below, requested, requested_as, reset_in, resets_to, sent_once, tests, unless_reset}
use Rattle.fix_sessions.specs.Sending.{is_resending, requests}
use Rattle.fix_sessions.specs.Steps.{came, came_as, came_by, came_leaving, came_leaving_as, decided, due, is_dead, is_decided, is_over, log_out, logged_out, logged_out_by, made_due, ordered, still_settling, tick, tick_by, tick_on, tick_waiting}
use Rattle.fix_sessions.specs.declared.messages.Heard.{Heard}
use Rattle.fix_sessions.specs.declared.messages.Heard.TheVariants as heard
use Rattle.fix_sessions.specs.declared.messages.Incoming.{Incoming}
use Rattle.fix_sessions.specs.declared.messages.Kind.{Kind}
use Rattle.fix_sessions.specs.declared.messages.Kind.TheVariants as kind
use Rattle.fix_sessions.specs.declared.messages.Origin.{Origin}
use Rattle.fix_sessions.specs.declared.messages.Reading.{Reading}
use Rattle.fix_sessions.specs.declared.messages.Reading.TheVariants as reading
use Rattle.fix_sessions.specs.declared.messages.Terms.{Terms}
use Rattle.fix_sessions.specs.declared.messages.TestId.{TestId}
use Rattle.fix_sessions.specs.declared.messages.TestId.TheVariants as test_id
use Rattle.fix_sessions.specs.declared.orders.Order.TheVariants as order
use Rattle.fix_sessions.specs.declared.requests.Asked.{Asked}
use Rattle.fix_sessions.specs.declared.requests.Asked.TheVariants as asked
use Rattle.fix_sessions.specs.declared.state.Clock.{Clock}
use Rattle.fix_sessions.specs.declared.state.Live.{Live}
use Rattle.fix_sessions.specs.declared.state.Phase.{Phase}
use Rattle.fix_sessions.specs.declared.state.Phase.TheVariants as phase
use Rattle.fix_sessions.specs.declared.state.Session.{Session}
use Rattle.fix_sessions.specs.declared.state.TheConstants.{LOGOUT_WAIT}
use Rattle.fix_sessions.specs.declared.state.Waiting.{Waiting}
use Rattle.fix_sessions.specs.declared.texts.Names.{Names}
use Rattle.fix_sessions.specs.declared.turns.Denial.{Denial}
use Rattle.fix_sessions.specs.declared.turns.Fault.{Fault}
use Rattle.fix_sessions.specs.declared.turns.Notice.{Notice}
use Rattle.fix_sessions.specs.declared.turns.Notice.TheVariants as notice
use Rattle.fix_sessions.specs.declared.turns.Said.{Said}
use Rattle.fix_sessions.specs.declared.turns.Turn.{Turn}
use Rattle.fix_sessions.specs.declared.turns.Why.{Why}
use Rattle.fix_sessions.specs.declared.turns.Why.TheVariants as why
use Rattle.fix_sessions.specs.declared.turns.Word.{Word}
use Rattle.fix_sessions.specs.declared.turns.Word.TheVariants as word
use Rattle.laws_sessions.proofs.Choices.{choice}
use Rattle.laws_sessions.specs.Memory.{Event, turn}
use Rattle.laws_sessions.specs.Memory.{Came, Gone, Handed, Tick, Opened, Closed, Suspended, Resumed, LoggedOut}

-- a denial names a number from one on, below another
abbrev pub IsWord : ℕ → ℕ → Word → Type 0
IsWord low high (word.Fill next) = ⊥
IsWord low high (word.Kept body is_copy) = ⊥
IsWord low high (word.Again body is_copy first) = ⊥
IsWord low high (word.Denied number of_kind denial) = (low ≤ number) × (number < high)
IsWord low high other = Unit {0}

abbrev pub IsSaid : ℕ → ℕ → Option Said → Type 0
IsSaid low high None = Unit {0}
IsSaid low high (Some said) = IsWord low high said.word

pub record Says (low : ℕ) (t : Turn) : Type 0 where
  pub first : IsSaid low t.session.day.expected t.first
  pub second : IsSaid low t.session.day.expected t.second

says : (low : ℕ) (t : Turn) → IsSaid low t.session.day.expected t.first → IsSaid low t.session.day.expected t.second → Says low t
says low t first second = record { first = first; second = second }

-- a word of the session's own that is no denial
abbrev IsPlain : Word → Type 0
IsPlain w = (low high : ℕ) → IsWord low high w

-- Outcomes.

answers_says : (low : ℕ) (a : Live) (now : ℕ) (w : Word) → IsPlain w → Says low (answers a now w)
answers_says low a now w k =
    choice (Says low) (is_clear a) _ _ (λ h. says low _ (k low a.day.expected) tt) (λ h. says low _ (k low a.day.expected) tt)

rejects_now_says : (low : ℕ) (a : Live) (now : ℕ) (w : Word) → IsPlain w → Says low (rejects_now a now w)
rejects_now_says low a now w k =
    choice (Says low) (is_clear a && a.line.is_settled) _ _
    (λ h. says low _ (k low a.day.expected) tt) (λ h. says low _ (k low a.day.expected) tt)

denies_now_says : (low : ℕ) (a : Live) (now : ℕ) (w : Word) → IsWord low a.day.expected w → Says low (denies_now a now w)
denies_now_says low a now w k = choice (Says low) (is_clear a) _ _ (λ h. says low _ k tt) (λ h. says low _ k tt)

parts_says : (low : ℕ) (a : Live) (now : ℕ) (w : Word) → IsPlain w → Says low (parts a now w)
parts_says low a now w k =
    choice (Says low) (may_log_out a) _ _ (λ h. says low _ (k low a.day.expected) tt) (λ h. says low _ tt tt)

leaves_says : (low : ℕ) (a : Live) (y : Why) → Says low (leaves a y)
leaves_says low a y = choice (Says low) (may_log_out a) _ _ (λ h. says low _ tt tt) (λ h. says low _ tt tt)

both_says : (low : ℕ) (a : Live) (now : ℕ) (w : Word) (y : Why) → IsPlain w → Says low (reject_and_logout a now w y)
both_says low a now w y k =
    choice (Says low) (not a.line.is_settled) _ _ (λ h. rejects_now_says low a now w k)
    (λ h. choice (Says low) (is_clear a) _ _
    (λ h. says low _ (k low a.day.expected) tt) (λ h. says low _ (k low a.day.expected) tt))

rejects_says : (low : ℕ) (a : Live) (now : ℕ) (m : Origin) (fault : Fault) → Says low (rejects a now m fault)
rejects_says low a now m fault = rejects_now_says low (counted_if a now m.number) now (reject_of m fault) (λ l h. tt)

both_counted_says : (low : ℕ) (a : Live) (now : ℕ) (m : Origin) (fault : Fault) (y : Why) → Says low (rejects_and_logs_out a now m fault y)
both_counted_says low a now m fault y = both_says low (counted_if a now m.number) now (reject_of m fault) y (λ l h. tt)

logs_out_says : (low : ℕ) (a : Live) (now : ℕ) (number : Option ℕ) (w : Word) → IsPlain w → Says low (logs_out a now number w)
logs_out_says low a now number w k = parts_says low (counted_if a now number) now w k

-- the number that is denied
denies_says : (low : ℕ) (a : Live) (now : ℕ) (m : Origin) (denial : Denial) (number : ℕ) → m.number ≡ Some number → low ≤ number
    → number < a.day.expected + 1 → Says low (denies a now m denial)
denies_says low a now m denial number e from to =
    denies_now_says low (counted a now) now (denial_of m denial)
    (subst (λ o. (low ≤ unwrap_or o 0) × (unwrap_or o 0 < a.day.expected + 1)) (sym e) (from, to))

-- Rows.

requested_as_says : (low : ℕ) (a : Live) (now : ℕ) (m : Origin) (wanted : Asked) → Says low (requested_as a now m wanted)
requested_as_says low a now m (asked.Wrong fault) = rejects_says low a now m fault
requested_as_says low a now m (asked.Numbers first last) = says low _ tt tt

requested_says : (low : ℕ) (a : Live) (now : ℕ) (m : Origin) (first last : Reading) → Says low (requested a now m first last)
requested_says low a now m first last = requested_as_says low a now m (asked_of (highest_left a.line) first last)

resets_to_says : (low : ℕ) (a : Live) (now : ℕ) (m : Origin) (next : Reading) → Says low (resets_to a now m next)
resets_to_says low a now m reading.Missing = rejects_says low a now m (at 36 1)
resets_to_says low a now m reading.Faulty = rejects_says low a now m (at 36 6)
resets_to_says low a now m (reading.Is next) =
    choice (Says low) (nat_lt a.day.expected next) _ _ (λ h. says low _ tt tt)
    (λ h. choice (Says low) (next == a.day.expected) _ _ (λ h. says low _ tt tt) (λ h. rejects_says low a now m (at 36 5)))

above_says : (low : ℕ) (a : Live) (now : ℕ) (m : Origin) (number : ℕ) (k : Kind) → Says low (above a now m number k)
above_says low a now m number kind.Logon = says low _ tt tt
above_says low a now m number (kind.Heartbeat answered) = says low _ tt tt
above_says low a now m number (kind.TestRequest id) = says low _ tt tt
above_says low a now m number (kind.ResendRequest first last) = requested_says low (missing_noted a number) now m first last
above_says low a now m number kind.Reject = says low _ tt tt
above_says low a now m number (kind.Fill next) = says low _ tt tt
above_says low a now m number (kind.Reset next) = says low _ tt tt
above_says low a now m number kind.Logout = leaves_says low a why.Answered
above_says low a now m number (kind.Denied denial) = says low _ tt tt
above_says low a now m number kind.Other = says low _ tt tt

repeated_below_says : (low : ℕ) (a : Live) (now : ℕ) (m : Incoming) (first : Reading) → Says low (repeated_below a now m first)
repeated_below_says low a now m reading.Missing = rejects_says low a now m.origin (at 122 1)
repeated_below_says low a now m reading.Faulty = says low _ tt tt
repeated_below_says low a now m (reading.Is first) =
    choice (Says low) (is_after_sent m.sent first) _ _
    (λ h. both_counted_says low a now m.origin (at 122 10) why.Clock) (λ h. says low _ tt tt)

below_says : (low : ℕ) (a : Live) (now : ℕ) (m : Incoming) → Says low (below a now m)
below_says low a now m =
    choice (Says low) m.is_repeat _ _ (λ h. repeated_below_says low a now m m.first_sent)
    (λ h. logs_out_says low a now m.origin.number (word.Logout (why.TooLow a.day.expected)) (λ l h. tt))

tests_says : (low : ℕ) (a : Live) (now : ℕ) (m : Origin) (id : TestId) → Says low (tests a now m id)
tests_says low a now m test_id.Missing = rejects_says low a now m (at 112 1)
tests_says low a now m test_id.TooLong = rejects_says low a now m (at 112 5)
tests_says low a now m (test_id.Is id) = answers_says low (counted a now) now (word.Answer id) (λ l h. tt)

fills_says : (low : ℕ) (a : Live) (now : ℕ) (m : Origin) (number : ℕ) (next : Reading) → Says low (fills a now m number next)
fills_says low a now m number reading.Missing = rejects_says low a now m (at 36 1)
fills_says low a now m number reading.Faulty = rejects_says low a now m (at 36 6)
fills_says low a now m number (reading.Is next) =
    choice (Says low) (nat_lt number next) _ _ (λ h. says low _ tt tt) (λ h. rejects_says low a now m (at 36 5))

-- the message that is expected
record IsHere (low : ℕ) (a : Live) (m : Origin) (number : ℕ) : Type 0 where
  is : m.number ≡ Some number
  from : low ≤ number
  to : number < a.day.expected + 1

kind_says : (low : ℕ) (a : Live) (now : ℕ) (m : Origin) (number : ℕ) (k : Kind) → IsHere low a m number → Says low (by_kind a now m number k)
kind_says low a now m number (kind.Heartbeat answered) here = says low _ tt tt
kind_says low a now m number kind.Reject here = says low _ tt tt
kind_says low a now m number (kind.TestRequest id) here = tests_says low a now m id
kind_says low a now m number (kind.ResendRequest first last) here = requested_says low a now m first last
kind_says low a now m number (kind.Fill next) here = fills_says low a now m number next
kind_says low a now m number (kind.Reset next) here = resets_to_says low a now m next
kind_says low a now m number kind.Logout here = leaves_says low (counted a now) why.Answered
kind_says low a now m number kind.Logon here = parts_says low (counted a now) now (word.Logout why.LoggedOn) (λ l h. tt)
kind_says low a now m number (kind.Denied denial) here = denies_says low a now m denial number here.is here.from here.to
kind_says low a now m number kind.Other here = says low _ tt tt

form_says : (low : ℕ) (a : Live) (now : ℕ) (m : Incoming) (number : ℕ) (flaw : Option Fault) → IsHere low a m.origin number
    → Says low (by_form a now m number flaw)
form_says low a now m number None here = kind_says low a now m.origin number m.kind here
form_says low a now m number (Some fault) here = rejects_says low a now m.origin fault

times_says : (low : ℕ) (a : Live) (clock : Clock) (m : Incoming) (number sent : ℕ) (first : Reading) → IsHere low a m.origin number
    → Says low (by_times a clock m number sent first)
times_says low a clock m number sent reading.Missing here = rejects_says low a clock.moment m.origin (at 122 1)
times_says low a clock m number sent reading.Faulty here = rejects_says low a clock.moment m.origin (at 122 6)
times_says low a clock m number sent (reading.Is first) here =
    choice (Says low) (not (is_today clock first) || nat_lt first a.day.reset_at) _ _
    (λ h. rejects_says low a clock.moment m.origin (at 122 5))
    (λ h. choice (Says low) (nat_lt sent first) _ _
    (λ h. both_counted_says low a clock.moment m.origin (at 122 10) why.Clock)
    (λ h. form_says low a clock.moment m number m.flaw here))

repeated_says : (low : ℕ) (a : Live) (clock : Clock) (m : Incoming) (number : ℕ) (sent : Reading) → IsHere low a m.origin number
    → Says low (repeated a clock m number sent)
repeated_says low a clock m number reading.Missing here = rejects_says low a clock.moment m.origin (at 52 1)
repeated_says low a clock m number reading.Faulty here = rejects_says low a clock.moment m.origin (at 52 6)
repeated_says low a clock m number (reading.Is sent) here = times_says low a clock m number sent m.first_sent here

once_says : (low : ℕ) (a : Live) (clock : Clock) (m : Incoming) (number : ℕ) (sent : Reading) → IsHere low a m.origin number
    → Says low (sent_once a clock m number sent)
once_says low a clock m number reading.Missing here = rejects_says low a clock.moment m.origin (at 52 1)
once_says low a clock m number reading.Faulty here = rejects_says low a clock.moment m.origin (at 52 6)
once_says low a clock m number (reading.Is sent) here =
    choice (Says low) (is_off clock sent) _ _
    (λ h. both_counted_says low a clock.moment m.origin (at 52 10) why.Clock)
    (λ h. form_says low a clock.moment m number m.flaw here)

expected_says : (low : ℕ) (a : Live) (clock : Clock) (m : Incoming) (number : ℕ) → IsHere low a m.origin number
    → Says low (expected_message a clock m number)
expected_says low a clock m number here =
    choice (Says low) m.is_repeat _ _ (λ h. repeated_says low a clock m number m.sent here)
    (λ h. once_says low a clock m number m.sent here)

not_less : (m n : ℕ) → nat_lt m n ≡ false → n ≤ m
not_less m n h = grind (arith, nat_tests)

number_says : (low : ℕ) (a : Live) (clock : Clock) (m : Incoming) (number : ℕ) → m.origin.number ≡ Some number → low ≤ a.day.expected
    → Says low (by_number a clock m number)
number_says low a clock m number e up =
    choice (Says low) (nat_lt a.day.expected number) _ _ (λ h. above_says low a clock.moment m.origin number m.kind)
    (λ h. choice (Says low) (nat_lt number a.day.expected) _ _ (λ g. below_says low a clock.moment m)
    (λ g. (let least = not_less number a.day.expected g in
    let most = not_less a.day.expected number h in
    expected_says low a clock m number
    (record { is = e; from = omega (arith, up, least); to = omega (arith, most) }))))

names_says : (low : ℕ) (a : Live) (clock : Clock) (m : Incoming) (number : ℕ) (stranger : Option ℕ) → m.origin.number ≡ Some number
    → low ≤ a.day.expected → Says low (by_names a clock m number stranger)
names_says low a clock m number None e up = number_says low a clock m number e up
names_says low a clock m number (Some tag) e up = both_counted_says low a clock.moment m.origin (at tag 9) why.Names

numbered_says : (low : ℕ) (a : Live) (clock : Clock) (m : Incoming) (number : Option ℕ) → m.origin.number ≡ number
    → low ≤ a.day.expected → Says low (if_numbered a clock m number)
numbered_says low a clock m None e up = parts_says low a clock.moment (word.Logout why.Number) (λ l h. tt)
numbered_says low a clock m (Some number) e up = names_says low a clock m number m.stranger e up

unless_says : (low : ℕ) (a : Live) (clock : Clock) (m : Incoming) (next : Option Reading) → low ≤ a.day.expected
    → Says low (unless_reset a clock m next)
unless_says low a clock m (Some next) up = resets_to_says low a clock.moment m.origin next
unless_says low a clock m None up = numbered_says low a clock m m.origin.number refl up

version_says : (low : ℕ) (a : Live) (clock : Clock) (m : Incoming) (version : Option (List ℕ)) → low ≤ a.day.expected
    → Says low (by_version a clock m version)
version_says low a clock m None up = unless_says low (heard_at a clock.moment) clock m (reset_in m.kind) up
version_says low a clock m (Some version) up =
    logs_out_says low a clock.moment m.origin.number (word.Foreign version) (λ l h. tt)

live_says : (low : ℕ) (a : Live) (clock : Clock) (said : Heard) → low ≤ a.day.expected → Says low (came_as a clock said)
live_says low a clock heard.Garbled up = says low _ tt tt
live_says low a clock (heard.TooLong number) up = logs_out_says low a clock.moment number (word.Logout why.TooLong) (λ l h. tt)
live_says low a clock (heard.Message m) up = version_says low a clock m m.version up

-- The first message of a connection.

refuses_says : (low : ℕ) (s : Session) (connection : ℕ) (terms : Terms) (w : Word) (told : Notice) → IsPlain w
    → Says low (refuses s connection terms w told)
refuses_says low s connection terms w told k =
    choice (Says low) (is_safe s.day terms) _ _ (λ h. says low _ (k low (refusal_day s.day).expected) tt) (λ h. says low _ tt tt)

refused_says : (low : ℕ) (s : Session) (connection : ℕ) (terms : Terms) (y : Why) → Says low (refused s connection terms y)
refused_says low s connection terms y = refuses_says low s connection terms (word.Logout y) (notice.Refused y) (λ l h. tt)

early_says : (low : ℕ) (s : Session) (connection : ℕ) (clock : Clock) (terms : Terms) (w : Word) (told : Notice) → IsPlain w
    → Says low (refuses_early s connection clock terms w told)
early_says low s connection clock terms w told k =
    choice (Says low) (shows_loss s.day clock terms) _ _
    (λ h. refuses_says low (locked s) connection terms w notice.LostStore k) (λ h. refuses_says low s connection terms w told k)

refused_early_says : (low : ℕ) (s : Session) (connection : ℕ) (clock : Clock) (terms : Terms) (y : Why)
    → Says low (refused_early s connection clock terms y)
refused_early_says low s connection clock terms y =
    early_says low s connection clock terms (word.Logout y) (notice.Refused y) (λ l h. tt)

logout_plain : (y : Why) (denial : Option Denial) → IsPlain (logout_of y denial)
logout_plain y None = λ l h. tt
logout_plain y (Some denial) = λ l h. tt

refused_for_says : (low : ℕ) (s : Session) (connection : ℕ) (clock : Clock) (terms : Terms) (y : Why) (denial : Option Denial)
    → Says low (refused_for s connection clock terms y denial)
refused_for_says low s connection clock terms y denial =
    early_says low s connection clock terms (logout_of y denial) (notice.Refused y) (logout_plain y denial)

too_low_says : (low : ℕ) (s : Session) (connection : ℕ) (terms : Terms) → Says low (too_low s connection terms)
too_low_says low s connection terms =
    choice (Says low) (nat_lt s.day.last_logon (value_or_zero terms.sent)) _ _
    (λ h. refuses_says low (locked s) connection terms (word.Logout (why.TooLow s.day.expected)) notice.LostStore (λ l h. tt))
    (λ h. refused_says low s connection terms (why.TooLow s.day.expected))

accepts_says : (low : ℕ) (s : Session) (connection now : ℕ) (terms : Terms) → Says low (accepts s connection now terms)
accepts_says low s connection now terms = says low _ tt tt

ahead_says : (low : ℕ) (s : Session) (connection now : ℕ) (terms : Terms) → Says low (judged_ahead s connection now terms)
ahead_says low s connection now terms =
    choice (Says low) (is_ahead terms.expects (answer_number s.day terms)) _ _
    (λ h. refused_says low s connection terms why.Ahead) (λ h. accepts_says low s connection now terms)

judged_number_says : (low : ℕ) (s : Session) (connection now : ℕ) (terms : Terms) → Says low (judged_number s connection now terms)
judged_number_says low s connection now terms =
    choice (Says low) s.day.is_locked _ _ (λ h. refused_says low s connection terms why.Lost)
    (λ h. choice (Says low) (s.day.is_reset && not terms.resets && not (terms.number == 1)) _ _
    (λ h. refused_says low s connection terms why.Begin)
    (λ h. choice (Says low) (nat_lt terms.number (expected_by s.day terms)) _ _
    (λ h. too_low_says low s connection terms) (λ h. ahead_says low s connection now terms)))

judged_reset_says : (low : ℕ) (s : Session) (connection now : ℕ) (terms : Terms) → Says low (judged_reset s connection now terms)
judged_reset_says low s connection now terms =
    choice (Says low) (terms.resets && not ((terms.number == 1) && may_reset s.day)) _ _
    (λ h. refused_says low s connection terms why.Reset) (λ h. judged_number_says low s connection now terms)

terms_says : (low : ℕ) (s : Session) (connection : ℕ) (clock : Clock) (terms : Terms) → Says low (judged_terms s connection clock terms)
terms_says low s connection clock terms =
    choice (Says low) (not terms.is_plain) _ _ (λ h. refused_early_says low s connection clock terms why.Encrypted)
    (λ h. choice (Says low) (not terms.is_fix50) _ _ (λ h. refused_early_says low s connection clock terms why.Version)
    (λ h. choice (Says low) (not (is_heartbeat terms.seconds)) _ _ (λ h. refused_early_says low s connection clock terms why.Heartbeat)
    (λ h. choice (Says low) (not (is_in_time clock terms.sent)) _ _ (λ h. refused_early_says low s connection clock terms why.Clock)
    (λ h. judged_reset_says low s connection clock.moment terms))))

denial_says : (low : ℕ) (s : Session) (connection : ℕ) (clock : Clock) (terms : Terms) (denial : Option Denial)
    → Says low (judged_denial s connection clock terms denial)
denial_says low s connection clock terms None = terms_says low s connection clock terms
denial_says low s connection clock terms (Some denial) =
    early_says low s connection clock terms (word.LogoutFor denial.text) notice.Denied (λ l h. tt)

judged_says : (low : ℕ) (s : Session) (connection : ℕ) (clock : Clock) (terms : Terms) (denial : Option Denial)
    → Says low (judged s connection clock terms denial)
judged_says low s connection clock terms denial =
    choice (Says low) (not s.day.is_open) _ _ (λ h. refused_for_says low s connection clock terms why.Closed denial)
    (λ h. choice (Says low) s.day.is_suspended _ _ (λ h. refused_for_says low s connection clock terms why.Suspended denial)
    (λ h. denial_says low s connection clock terms denial))

waits_says : (low : ℕ) (s : Session) (connection now : ℕ) (waiting : Option Waiting) → Says low (waits_for s connection now waiting)
waits_says low s connection now None = says low _ tt tt
waits_says low s connection now (Some waiting) =
    choice (Says low) (waiting.connection == connection) _ _ (λ h. says low _ tt tt) (λ h. says low _ tt tt)

judged_by_says : (low : ℕ) (s : Session) (connection : ℕ) (clock : Clock) (terms : Terms) (denial : Option Denial) (p : Phase)
    → Says low (judged_by s connection clock terms denial p)
judged_by_says low s connection clock terms denial phase.Away =
    judged_says low (record s { waiting = without connection s.waiting }) connection clock terms denial
judged_by_says low s connection clock terms denial (phase.On line) = waits_says low s connection clock.moment s.waiting
judged_by_says low s connection clock terms denial (phase.Leaving last since) = waits_says low s connection clock.moment s.waiting

first_by_says : (low : ℕ) (s : Session) (connection : ℕ) (clock : Clock) (is_known : Bool) (denial : Option Denial) (terms : Option Terms)
    → Says low (first_by s connection clock is_known denial terms)
first_by_says low s connection clock is_known denial None = says low _ tt tt
first_by_says low s connection clock is_known denial (Some terms) =
    choice (Says low) is_known _ _ (λ h. judged_by_says low s connection clock terms denial s.phase) (λ h. says low _ tt tt)

came_first_says : (low : ℕ) (names : Names) (s : Session) (connection : ℕ) (clock : Clock) (bytes : List ℕ) (is_known : Bool)
    (denial : Option Denial) → Says low (came_first names s connection clock bytes is_known denial)
came_first_says low names s connection clock bytes is_known denial =
    first_by_says low s connection clock is_known denial (logon_of names bytes)

-- The events.

leaving_as_says : (low : ℕ) (s : Session) (connection : ℕ) (said : Heard) → Says low (came_leaving_as s connection said)
leaving_as_says low s connection (heard.Message m) = says low _ tt tt
leaving_as_says low s connection heard.Garbled = says low _ tt tt
leaving_as_says low s connection (heard.TooLong number) = says low _ tt tt

leaving_says : (low : ℕ) (names : Names) (s : Session) (connection : ℕ) (bytes : List ℕ) → Says low (came_leaving names s connection bytes)
leaving_says low names s connection bytes =
    choice (Says low) (is_logout bytes) _ _ (λ h. leaving_as_says low s connection (heard_of names bytes)) (λ h. says low _ tt tt)

came_by_says : (low : ℕ) (names : Names) (s : Session) (connection : ℕ) (clock : Clock) (bytes : List ℕ) (is_known : Bool)
    (denial : Option Denial) (p : Phase) → low ≤ s.day.expected → Says low (came_by names s connection clock bytes is_known denial p)
came_by_says low names s connection clock bytes is_known denial phase.Away up =
    came_first_says low names s connection clock bytes is_known denial
came_by_says low names s connection clock bytes is_known denial (phase.On line) up =
    choice (Says low) (line.connection == connection) _ _
    (λ h. live_says low (live s line) clock (as_taken denial (heard_of names bytes)) up)
    (λ h. came_first_says low names s connection clock bytes is_known denial)
came_by_says low names s connection clock bytes is_known denial (phase.Leaving last since) up =
    choice (Says low) (last == connection) _ _ (λ h. leaving_says low names s connection bytes)
    (λ h. came_first_says low names s connection clock bytes is_known denial)

came_says : (low : ℕ) (names : Names) (s : Session) (connection : ℕ) (clock : Clock) (bytes : List ℕ) (is_known : Bool)
    (denial : Option Denial) → low ≤ s.day.expected → Says low (came names s connection clock bytes is_known denial)
unfolding came
came_says low names s connection clock bytes is_known denial up =
    choice (Says low) (is_spent s) _ _ (λ h. says low _ tt tt)
    (λ h. came_by_says low names s connection clock bytes is_known denial s.phase up)

due_says : (low : ℕ) (a : Live) (now : ℕ) → Says low (due a now)
due_says low a now =
    choice (Says low) (is_resending a.line || (not a.line.is_held && not (is_clear a))) _ _ (λ h. says low _ tt tt)
    (λ h. choice (Says low) (is_clear a && requests a.line) _ _ (λ h. says low _ tt tt)
    (λ h. choice (Says low) a.line.is_test_due _ _ (λ h. says low _ tt tt)
    (λ h. choice (Says low) (is_clear a && nat_le a.line.heartbeat (now - a.line.sent)) _ _
    (λ h. says low _ tt tt) (λ h. says low _ tt tt))))

tick_on_says : (low : ℕ) (a : Live) (now : ℕ) → Says low (tick_on a now)
tick_on_says low a now =
    let b = still_settling a now in
    choice (Says low) (is_over b.line now) _ _ (λ h. says low _ tt tt)
    (λ h. choice (Says low) (is_dead b.line now) _ _ (λ h. leaves_says low b why.Silent) (λ h. due_says low (made_due b now) now))

tick_by_says : (low : ℕ) (s : Session) (now : ℕ) (p : Phase) → Says low (tick_by s now p)
tick_by_says low s now phase.Away = says low _ tt tt
tick_by_says low s now (phase.On line) = tick_on_says low (live s line) now
tick_by_says low s now (phase.Leaving connection since) =
    choice (Says low) (nat_le LOGOUT_WAIT (now - since)) _ _ (λ h. says low _ tt tt) (λ h. says low _ tt tt)

decided_says : (low : ℕ) (s : Session) (waiting : Waiting) → Says low (decided s waiting)
decided_says low s waiting = choice (Says low) waiting.is_alive _ _ (λ h. says low _ tt tt) (λ h. says low _ tt tt)

waiting_says : (low : ℕ) (s : Session) (now : ℕ) (waiting : Option Waiting) → Says low (tick_waiting s now waiting)
waiting_says low s now None = tick_by_says low s now s.phase
waiting_says low s now (Some waiting) =
    choice (Says low) (is_decided s.phase waiting now) _ _ (λ h. decided_says low s waiting) (λ h. tick_by_says low s now s.phase)

tick_says : (low : ℕ) (s : Session) (now : ℕ) → Says low (tick s now)
unfolding tick
tick_says low s now =
    choice (Says low) (is_spent s) _ _ (λ h. says low _ tt tt) (λ h. waiting_says low s now s.waiting)

logged_out_by_says : (low : ℕ) (s : Session) (now : ℕ) (w : Word) (p : Phase) → IsPlain w → Says low (logged_out_by s now w p)
logged_out_by_says low s now w phase.Away k = says low _ tt tt
logged_out_by_says low s now w (phase.On line) k = parts_says low (live s line) now w k
logged_out_by_says low s now w (phase.Leaving connection since) k = says low _ tt tt

logged_out_says : (low : ℕ) (s : Session) (now : ℕ) (w : Word) (p : Phase) → IsPlain w → Says low (logged_out s now w p)
logged_out_says low s now w p k =
    choice (Says low) (is_spent s) _ _ (λ h. says low _ tt tt) (λ h. logged_out_by_says low s now w p k)

log_out_says : (low : ℕ) (s : Session) (now : ℕ) (reason : List ℕ) → Says low (log_out s now reason)
unfolding log_out
log_out_says low s now reason = logged_out_says low s now (word.LogoutFor reason) s.phase (λ l h. tt)

opened_says : (low : ℕ) (s : Session) (clock : Clock) → Says low (ordered s clock order.Open)
unfolding ordered
opened_says low s clock = says low _ tt tt

resumed_says : (low : ℕ) (s : Session) (clock : Clock) → Says low (ordered s clock order.Resume)
unfolding ordered
resumed_says low s clock = says low _ tt tt

closed_says : (low : ℕ) (s : Session) (clock : Clock) → Says low (ordered s clock order.Close)
unfolding ordered
closed_says low s clock =
    logged_out_says low (record s { day = record s.day { is_open = false } }) clock.moment (word.Logout why.Closed) s.phase (λ l h. tt)

suspended_says : (low : ℕ) (s : Session) (clock : Clock) → Says low (ordered s clock order.Suspend)
unfolding ordered
suspended_says low s clock =
    logged_out_says low (record s { day = record s.day { is_suspended = true } }) clock.moment (word.Logout why.Suspended) s.phase
    (λ l h. tt)

-- whether an event hands back what is kept
abbrev pub is_handing : Event → Bool
is_handing (Handed moment next_kept stored) = true
is_handing other = false

pub event_says : (names : Names) (s : Session) (e : Event) → is_handing e ≡ false → Says s.day.expected (turn names s e)
event_says names s (Came connection clock bytes is_known denial) other =
    came_says s.day.expected names s connection clock bytes is_known denial (omega arith)
event_says names s (Gone connection) other = says s.day.expected _ tt tt
event_says names s (Handed moment next_kept stored) other = absurd (false≢true (sym other))
event_says names s (Tick moment) other = tick_says s.day.expected s moment
event_says names s (Opened clock) other = opened_says s.day.expected s clock
event_says names s (Closed clock) other = closed_says s.day.expected s clock
event_says names s (Suspended clock) other = suspended_says s.day.expected s clock
event_says names s (Resumed clock) other = resumed_says s.day.expected s clock
event_says names s (LoggedOut moment reason) other = log_out_says s.day.expected s moment reason
