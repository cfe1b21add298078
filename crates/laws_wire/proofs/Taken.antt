-- What a turn gives the venue: only a message of FIXT.1.1 that bears the expected number, and in whose
-- form nothing is at fault.
use Rattle.std.proofs.Common.{◌≡◌, ℕ, ◌==◌, ◌&&◌, ◌||◌, Bool, true, false, not, nat_lt, List, length, Option, Some, None, refl, sym, ◌∙◌, ap, arith}
use Rattle.std.proofs.lemmas.Bool.Decides.{nat_tests}
use Rattle.fix_sessions.specs.Cuts.{body_of, front_of, is_whole, read_of_long, version_of}
use Rattle.fix_sessions.specs.Fields.{fields_in}
use Rattle.fix_sessions.specs.Flaws.{flaw_of}
use Rattle.fix_sessions.specs.Heard.{as_taken, denied_message, heard_by, heard_of, incoming_of, is_logout, foreign_of, logon_of, number_once}
use Rattle.fix_sessions.specs.Logons.{came_first, first_by, is_ahead, is_heartbeat, is_in_time, is_safe, judged, judged_ahead, judged_by, judged_denial, judged_number, judged_reset, judged_terms, locked, logout_of, may_reset, refused, refused_early, refuses, refuses_early, shows_loss, too_low, waits_for, without, answer_number, expected_by, value_or_zero}
use Rattle.fix_sessions.specs.Outcomes.{answers, counted, counted_if, denies, is_clear, is_spent, leaves, live, logs_out, may_log_out, parts, reject_and_logout, reject_of, rejects, rejects_and_logs_out, rejects_now}
use Rattle.fix_sessions.specs.Logons.{is_off, is_today}
use Rattle.fix_sessions.specs.Rows.{above, asked_of, at, below, by_form, by_kind, by_names, by_number, by_times, by_version, expected_message, fills, heard_at, highest_left, if_numbered, is_after_sent, missing_noted, repeated, repeated_below, requested, requested_as, reset_in, resets_to, sent_once, tests, unless_reset}
use Rattle.fix_sessions.specs.Steps.{came, came_as, came_by, came_leaving, came_leaving_as}
use Rattle.fix_sessions.specs.declared.cuts.Front.{Front}
use Rattle.fix_sessions.specs.declared.cuts.Front.TheVariants as front
use Rattle.fix_sessions.specs.declared.messages.Heard.{Heard}
use Rattle.fix_sessions.specs.declared.messages.Heard.TheVariants as heard
use Rattle.fix_sessions.specs.declared.messages.Incoming.{Incoming}
use Rattle.fix_sessions.specs.declared.messages.Kind.{Kind}
use Rattle.fix_sessions.specs.declared.messages.Kind.TheVariants as kind
use Rattle.fix_sessions.specs.declared.messages.Origin.{Origin}
use Rattle.fix_sessions.specs.declared.messages.Reading.{Reading}
use Rattle.fix_sessions.specs.declared.messages.Reading.TheVariants as reading
use Rattle.fix_sessions.specs.declared.messages.Terms.{Terms}
use Rattle.fix_sessions.specs.declared.messages.TestId.{TestId}
use Rattle.fix_sessions.specs.declared.messages.TestId.TheVariants as test_id
use Rattle.fix_sessions.specs.declared.requests.Asked.{Asked}
use Rattle.fix_sessions.specs.declared.requests.Asked.TheVariants as asked
use Rattle.fix_sessions.specs.declared.state.Clock.{Clock}
use Rattle.fix_sessions.specs.declared.state.Live.{Live}
use Rattle.fix_sessions.specs.declared.state.Phase.{Phase}
use Rattle.fix_sessions.specs.declared.state.Phase.TheVariants as phase
use Rattle.fix_sessions.specs.declared.state.Session.{Session}
use Rattle.fix_sessions.specs.declared.state.Waiting.{Waiting}
use Rattle.fix_sessions.specs.declared.texts.Names.{Names}
use Rattle.fix_sessions.specs.declared.turns.Denial.{Denial}
use Rattle.fix_sessions.specs.declared.turns.Fault.{Fault}
use Rattle.fix_sessions.specs.declared.turns.Notice.{Notice}
use Rattle.fix_sessions.specs.declared.turns.Notice.TheVariants as notice
use Rattle.fix_sessions.specs.declared.turns.Turn.{Turn}
use Rattle.fix_sessions.specs.declared.turns.Why.{Why}
use Rattle.fix_sessions.specs.declared.turns.Why.TheVariants as why
use Rattle.fix_sessions.specs.declared.turns.Word.{Word}
use Rattle.fix_sessions.specs.declared.turns.Word.TheVariants as word
use Rattle.laws_wire.proofs.Choices.{choice}

-- A turn that gives the venue nothing.
abbrev None_of : Turn → Type 0
None_of t = t.takes ≡ None

answers_none : (a : Live) (now : ℕ) (w : Word) → None_of (answers a now w)
answers_none a now w = choice None_of (is_clear a) _ _ (λ h. refl) (λ h. refl)

rejects_now_none : (a : Live) (now : ℕ) (w : Word) → None_of (rejects_now a now w)
rejects_now_none a now w = choice None_of (is_clear a && a.line.is_settled) _ _ (λ h. refl) (λ h. refl)

rejects_none : (a : Live) (now : ℕ) (m : Origin) (fault : Fault) → None_of (rejects a now m fault)
rejects_none a now m fault = rejects_now_none (counted_if a now m.number) now (reject_of m fault)

denies_none : (a : Live) (now : ℕ) (m : Origin) (denial : Denial) → None_of (denies a now m denial)
denies_none a now m denial = choice None_of (is_clear (counted a now)) _ _ (λ h. refl) (λ h. refl)

parts_none : (a : Live) (now : ℕ) (w : Word) → None_of (parts a now w)
parts_none a now w = choice None_of (may_log_out a) _ _ (λ h. refl) (λ h. refl)

leaves_none : (a : Live) (y : Why) → None_of (leaves a y)
leaves_none a y = choice None_of (may_log_out a) _ _ (λ h. refl) (λ h. refl)

logs_out_none : (a : Live) (now : ℕ) (number : Option ℕ) (w : Word) → None_of (logs_out a now number w)
logs_out_none a now number w = parts_none (counted_if a now number) now w

both_none : (a : Live) (now : ℕ) (w : Word) (y : Why) → None_of (reject_and_logout a now w y)
both_none a now w y =
    choice None_of (not a.line.is_settled) _ _ (λ h. rejects_now_none a now w)
    (λ h. choice None_of (is_clear a) _ _ (λ h. refl) (λ h. refl))

both_counted_none : (a : Live) (now : ℕ) (m : Origin) (fault : Fault) (y : Why) → None_of (rejects_and_logs_out a now m fault y)
both_counted_none a now m fault y = both_none (counted_if a now m.number) now (reject_of m fault) y

requested_as_none : (a : Live) (now : ℕ) (m : Origin) (wanted : Asked) → None_of (requested_as a now m wanted)
requested_as_none a now m (asked.Wrong fault) = rejects_none a now m fault
requested_as_none a now m (asked.Numbers first last) = refl

requested_none : (a : Live) (now : ℕ) (m : Origin) (first last : Reading) → None_of (requested a now m first last)
requested_none a now m first last = requested_as_none a now m (asked_of (highest_left a.line) first last)

resets_none : (a : Live) (now : ℕ) (m : Origin) (next : Reading) → None_of (resets_to a now m next)
resets_none a now m reading.Missing = rejects_none a now m (at 36 1)
resets_none a now m reading.Faulty = rejects_none a now m (at 36 6)
resets_none a now m (reading.Is next) =
    choice None_of (nat_lt a.day.expected next) _ _ (λ h. refl)
    (λ h. choice None_of (next == a.day.expected) _ _ (λ h. refl) (λ h. rejects_none a now m (at 36 5)))

above_none : (a : Live) (now : ℕ) (m : Origin) (number : ℕ) (k : Kind) → None_of (above a now m number k)
above_none a now m number kind.Logon = refl
above_none a now m number (kind.Heartbeat answered) = refl
above_none a now m number (kind.TestRequest id) = refl
above_none a now m number (kind.ResendRequest first last) = requested_none (missing_noted a number) now m first last
above_none a now m number kind.Reject = refl
above_none a now m number (kind.Fill next) = refl
above_none a now m number (kind.Reset next) = refl
above_none a now m number kind.Logout = leaves_none a why.Answered
above_none a now m number (kind.Denied denial) = refl
above_none a now m number kind.Other = refl

repeated_below_none : (a : Live) (now : ℕ) (m : Incoming) (first : Reading) → None_of (repeated_below a now m first)
repeated_below_none a now m reading.Missing = rejects_none a now m.origin (at 122 1)
repeated_below_none a now m reading.Faulty = refl
repeated_below_none a now m (reading.Is first) =
    choice None_of (is_after_sent m.sent first) _ _
    (λ h. both_counted_none a now m.origin (at 122 10) why.Clock) (λ h. refl)

below_none : (a : Live) (now : ℕ) (m : Incoming) → None_of (below a now m)
below_none a now m =
    choice None_of m.is_repeat _ _ (λ h. repeated_below_none a now m m.first_sent)
    (λ h. logs_out_none a now m.origin.number (word.Logout (why.TooLow a.day.expected)))

tests_none : (a : Live) (now : ℕ) (m : Origin) (id : TestId) → None_of (tests a now m id)
tests_none a now m test_id.Missing = rejects_none a now m (at 112 1)
tests_none a now m test_id.TooLong = rejects_none a now m (at 112 5)
tests_none a now m (test_id.Is id) = answers_none (counted a now) now (word.Answer id)

fills_none : (a : Live) (now : ℕ) (m : Origin) (number : ℕ) (next : Reading) → None_of (fills a now m number next)
fills_none a now m number reading.Missing = rejects_none a now m (at 36 1)
fills_none a now m number reading.Faulty = rejects_none a now m (at 36 6)
fills_none a now m number (reading.Is next) =
    choice None_of (nat_lt number next) _ _ (λ h. refl) (λ h. rejects_none a now m (at 36 5))

-- A turn gives the venue nothing, or the message under the expected number.

abbrev Gives : ℕ → Turn → Type 0
Gives number t = (n : ℕ) → t.takes ≡ Some n → n ≡ number

by_none : (a : Live) (now : ℕ) (m : Origin) (number : ℕ) (k : Kind) → None_of (by_kind a now m number k)
    → Gives a.day.expected (by_kind a now m number k)
by_none a now m number k none = λ n is. (let both : None ≡ Some n = sym none ∙ is in cc)

kind_gives : (a : Live) (now : ℕ) (m : Origin) (number : ℕ) (k : Kind) → Gives a.day.expected (by_kind a now m number k)
kind_gives a now m number (kind.Heartbeat answered) = by_none a now m number (kind.Heartbeat answered) refl
kind_gives a now m number kind.Reject = by_none a now m number kind.Reject refl
kind_gives a now m number (kind.TestRequest id) = by_none a now m number (kind.TestRequest id) (tests_none a now m id)
kind_gives a now m number (kind.ResendRequest first last) = by_none a now m number (kind.ResendRequest first last) (requested_none a now m first last)
kind_gives a now m number (kind.Fill next) = by_none a now m number (kind.Fill next) (fills_none a now m number next)
kind_gives a now m number (kind.Reset next) = by_none a now m number (kind.Reset next) (resets_none a now m next)
kind_gives a now m number kind.Logout = by_none a now m number kind.Logout (leaves_none (counted a now) why.Answered)
kind_gives a now m number kind.Logon = by_none a now m number kind.Logon (parts_none (counted a now) now (word.Logout why.LoggedOn))
kind_gives a now m number (kind.Denied denial) = by_none a now m number (kind.Denied denial) (denies_none a now m denial)
kind_gives a now m number kind.Other = λ n is. cc

-- What is known of a message that is given.
pub record IsTaken (m : Incoming) (number : ℕ) : Type 0 where
  pub version : m.version ≡ None
  pub flawless : m.flaw ≡ None
  pub numbered : m.origin.number ≡ Some number

-- the same, but for its version
record IsClean (m : Incoming) (expected number : ℕ) : Type 0 where
  pub flawless : m.flaw ≡ None
  pub same : number ≡ expected

abbrev Cleans : Incoming → ℕ → Turn → Type 0
Cleans m expected t = (n : ℕ) → t.takes ≡ Some n → IsClean m expected n

never : (m : Incoming) (expected : ℕ) (taken : Option ℕ) → taken ≡ None
    → (n : ℕ) → taken ≡ Some n → IsClean m expected n
never m expected taken none = λ n is. (let both : None ≡ Some n = sym none ∙ is in cc)

form_cleans : (a : Live) (now : ℕ) (m : Incoming) (number : ℕ) (flaw : Option Fault) → m.flaw ≡ flaw
    → Cleans m a.day.expected (by_form a now m number flaw)
form_cleans a now m number None is = λ n given. record { flawless = is; same = kind_gives a now m.origin number m.kind n given }
form_cleans a now m number (Some fault) is = never m _ _ (rejects_none a now m.origin fault)

times_cleans : (a : Live) (clock : Clock) (m : Incoming) (number sent : ℕ) (first : Reading)
    → Cleans m a.day.expected (by_times a clock m number sent first)
times_cleans a clock m number sent reading.Missing = never m _ _ (rejects_none a clock.moment m.origin (at 122 1))
times_cleans a clock m number sent reading.Faulty = never m _ _ (rejects_none a clock.moment m.origin (at 122 6))
times_cleans a clock m number sent (reading.Is first) =
    choice (Cleans m a.day.expected) (not (is_today clock first) || nat_lt first a.day.reset_at) _ _
    (λ h. never m _ _ (rejects_none a clock.moment m.origin (at 122 5)))
    (λ h. choice (Cleans m a.day.expected) (nat_lt sent first) _ _
    (λ h. never m _ _ (both_counted_none a clock.moment m.origin (at 122 10) why.Clock))
    (λ h. form_cleans a clock.moment m number m.flaw refl))

repeated_cleans : (a : Live) (clock : Clock) (m : Incoming) (number : ℕ) (sent : Reading)
    → Cleans m a.day.expected (repeated a clock m number sent)
repeated_cleans a clock m number reading.Missing = never m _ _ (rejects_none a clock.moment m.origin (at 52 1))
repeated_cleans a clock m number reading.Faulty = never m _ _ (rejects_none a clock.moment m.origin (at 52 6))
repeated_cleans a clock m number (reading.Is sent) = times_cleans a clock m number sent m.first_sent

once_cleans : (a : Live) (clock : Clock) (m : Incoming) (number : ℕ) (sent : Reading)
    → Cleans m a.day.expected (sent_once a clock m number sent)
once_cleans a clock m number reading.Missing = never m _ _ (rejects_none a clock.moment m.origin (at 52 1))
once_cleans a clock m number reading.Faulty = never m _ _ (rejects_none a clock.moment m.origin (at 52 6))
once_cleans a clock m number (reading.Is sent) =
    choice (Cleans m a.day.expected) (is_off clock sent) _ _
    (λ h. never m _ _ (both_counted_none a clock.moment m.origin (at 52 10) why.Clock))
    (λ h. form_cleans a clock.moment m number m.flaw refl)

expected_cleans : (a : Live) (clock : Clock) (m : Incoming) (number : ℕ)
    → Cleans m a.day.expected (expected_message a clock m number)
expected_cleans a clock m number =
    choice (Cleans m a.day.expected) m.is_repeat _ _ (λ h. repeated_cleans a clock m number m.sent)
    (λ h. once_cleans a clock m number m.sent)

-- with the number that it bears
abbrev Bears : Incoming → Turn → Type 0
Bears m t = (n : ℕ) → t.takes ≡ Some n → (m.flaw ≡ None) × (m.origin.number ≡ Some n)

unborne : (m : Incoming) (taken : Option ℕ) → taken ≡ None
    → (n : ℕ) → taken ≡ Some n → (m.flaw ≡ None) × (m.origin.number ≡ Some n)
unborne m taken none = λ n is. (let both : None ≡ Some n = sym none ∙ is in cc)

neither : (x y : ℕ) → nat_lt x y ≡ false → nat_lt y x ≡ false → y ≡ x
neither x y h k = grind (arith, nat_tests)

number_bears : (a : Live) (clock : Clock) (m : Incoming) (number : ℕ) → m.origin.number ≡ Some number
    → Bears m (by_number a clock m number)
number_bears a clock m number is =
    choice (Bears m) (nat_lt a.day.expected number) _ _
    (λ h. unborne m _ (above_none a clock.moment m.origin number m.kind))
    (λ h. choice (Bears m) (nat_lt number a.day.expected) _ _
    (λ k. unborne m _ (below_none a clock.moment m))
    (λ k. λ n given. (let clean = expected_cleans a clock m number n given in
    (clean.flawless, is ∙ ap Some (neither a.day.expected number h k ∙ sym clean.same)))))

names_bear : (a : Live) (clock : Clock) (m : Incoming) (number : ℕ) (stranger : Option ℕ) → m.origin.number ≡ Some number
    → Bears m (by_names a clock m number stranger)
names_bear a clock m number None is = number_bears a clock m number is
names_bear a clock m number (Some tag) is = unborne m _ (both_counted_none a clock.moment m.origin (at tag 9) why.Names)

numbered_bears : (a : Live) (clock : Clock) (m : Incoming) (number : Option ℕ) → m.origin.number ≡ number
    → Bears m (if_numbered a clock m number)
numbered_bears a clock m None is = unborne m _ (parts_none a clock.moment (word.Logout why.Number))
numbered_bears a clock m (Some number) is = names_bear a clock m number m.stranger is

unless_bears : (a : Live) (clock : Clock) (m : Incoming) (next : Option Reading) → Bears m (unless_reset a clock m next)
unless_bears a clock m (Some next) = unborne m _ (resets_none a clock.moment m.origin next)
unless_bears a clock m None = numbered_bears a clock m m.origin.number refl

abbrev Takes : Incoming → Turn → Type 0
Takes m t = (n : ℕ) → t.takes ≡ Some n → IsTaken m n

version_takes : (a : Live) (clock : Clock) (m : Incoming) (version : Option (List ℕ)) → m.version ≡ version
    → Takes m (by_version a clock m version)
version_takes a clock m None is = λ n given.
    (let bears = unless_bears (heard_at a clock.moment) clock m (reset_in m.kind) n given in
    record { version = is; flawless = bears.0; numbered = bears.1 })
version_takes a clock m (Some version) is = λ n given.
    (let none : None ≡ Some n = sym (logs_out_none a clock.moment m.origin.number (word.Foreign version)) ∙ given in cc)

-- What is known of bytes.
pub record AreTaken (bytes : List ℕ) (number : ℕ) : Type 0 where
  pub whole : is_whole (front_of bytes) bytes ≡ true
  pub version : foreign_of (version_of bytes) ≡ None
  pub flawless : flaw_of (length bytes) (body_of bytes) ≡ None
  pub numbered : number_once (fields_in (body_of bytes)) ≡ Some number

abbrev Given : List ℕ → Turn → Type 0
Given bytes t = (n : ℕ) → t.takes ≡ Some n → AreTaken bytes n

nothing : (bytes : List ℕ) (taken : Option ℕ) → taken ≡ None → (n : ℕ) → taken ≡ Some n → AreTaken bytes n
nothing bytes taken none = λ n is. (let both : None ≡ Some n = sym none ∙ is in cc)

front_given : (names : Names) (a : Live) (clock : Clock) (denial : Option Denial) (bytes : List ℕ) (f : Front) → front_of bytes ≡ f
    → Given bytes (came_as a clock (as_taken denial (heard_by names f bytes)))
front_given names a clock denial bytes front.Begun is = nothing bytes _ refl
front_given names a clock denial bytes front.Garbled is = nothing bytes _ refl
front_given names a clock denial bytes (front.Wrong len) is = nothing bytes _ refl
front_given names a clock denial bytes front.TooLong is = nothing bytes _ (logs_out_none a clock.moment (number_once (fields_in (read_of_long bytes))) (word.Logout why.TooLong))
front_given names a clock denial bytes (front.Whole len) is =
    choice (λ (x : Heard). Given bytes (came_as a clock (as_taken denial x))) (len == length bytes) _ _
    (λ h. λ n given.
    (let m = denied_message denial (incoming_of names (version_of bytes) (length bytes) (body_of bytes)) in
    let taken = version_takes a clock m m.version refl n given in
    record {
      whole = ap (λ f. is_whole f bytes) is ∙ h;
      version = taken.version;
      flawless = taken.flawless;
      numbered = taken.numbered;
    }))
    (λ h. nothing bytes _ refl)

live_given : (names : Names) (a : Live) (clock : Clock) (denial : Option Denial) (bytes : List ℕ)
    → Given bytes (came_as a clock (as_taken denial (heard_of names bytes)))
unfolding heard_of
live_given names a clock denial bytes = front_given names a clock denial bytes (front_of bytes) refl

-- The first message of a connection gives the venue nothing.

refuses_none : (s : Session) (connection : ℕ) (terms : Terms) (w : Word) (told : Notice) → None_of (refuses s connection terms w told)
refuses_none s connection terms w told = choice None_of (is_safe s.day terms) _ _ (λ h. refl) (λ h. refl)

refused_none : (s : Session) (connection : ℕ) (terms : Terms) (y : Why) → None_of (refused s connection terms y)
refused_none s connection terms y = refuses_none s connection terms (word.Logout y) (notice.Refused y)

early_none : (s : Session) (connection : ℕ) (clock : Clock) (terms : Terms) (w : Word) (told : Notice) → None_of (refuses_early s connection clock terms w told)
early_none s connection clock terms w told =
    choice None_of (shows_loss s.day clock terms) _ _
    (λ h. refuses_none (locked s) connection terms w notice.LostStore) (λ h. refuses_none s connection terms w told)

refused_early_none : (s : Session) (connection : ℕ) (clock : Clock) (terms : Terms) (y : Why) → None_of (refused_early s connection clock terms y)
refused_early_none s connection clock terms y = early_none s connection clock terms (word.Logout y) (notice.Refused y)

too_low_none : (s : Session) (connection : ℕ) (terms : Terms) → None_of (too_low s connection terms)
too_low_none s connection terms =
    let low = why.TooLow s.day.expected in
    choice None_of (nat_lt s.day.last_logon (value_or_zero terms.sent)) _ _
    (λ h. refuses_none (locked s) connection terms (word.Logout low) notice.LostStore)
    (λ h. refused_none s connection terms low)

ahead_none : (s : Session) (connection now : ℕ) (terms : Terms) → None_of (judged_ahead s connection now terms)
ahead_none s connection now terms =
    choice None_of (is_ahead terms.expects (answer_number s.day terms)) _ _
    (λ h. refused_none s connection terms why.Ahead) (λ h. refl)

judged_number_none : (s : Session) (connection now : ℕ) (terms : Terms) → None_of (judged_number s connection now terms)
judged_number_none s connection now terms =
    choice None_of s.day.is_locked _ _ (λ h. refused_none s connection terms why.Lost)
    (λ h. choice None_of (s.day.is_reset && not terms.resets && not (terms.number == 1)) _ _
    (λ h. refused_none s connection terms why.Begin)
    (λ h. choice None_of (nat_lt terms.number (expected_by s.day terms)) _ _
    (λ h. too_low_none s connection terms) (λ h. ahead_none s connection now terms)))

reset_none : (s : Session) (connection now : ℕ) (terms : Terms) → None_of (judged_reset s connection now terms)
reset_none s connection now terms =
    choice None_of (terms.resets && not ((terms.number == 1) && may_reset s.day)) _ _
    (λ h. refused_none s connection terms why.Reset) (λ h. judged_number_none s connection now terms)

terms_none : (s : Session) (connection : ℕ) (clock : Clock) (terms : Terms) → None_of (judged_terms s connection clock terms)
terms_none s connection clock terms =
    choice None_of (not terms.is_plain) _ _ (λ h. refused_early_none s connection clock terms why.Encrypted)
    (λ h. choice None_of (not terms.is_fix50) _ _ (λ h. refused_early_none s connection clock terms why.Version)
    (λ h. choice None_of (not (is_heartbeat terms.seconds)) _ _ (λ h. refused_early_none s connection clock terms why.Heartbeat)
    (λ h. choice None_of (not (is_in_time clock terms.sent)) _ _ (λ h. refused_early_none s connection clock terms why.Clock)
    (λ h. reset_none s connection clock.moment terms))))

denial_none : (s : Session) (connection : ℕ) (clock : Clock) (terms : Terms) (denial : Option Denial) → None_of (judged_denial s connection clock terms denial)
denial_none s connection clock terms None = terms_none s connection clock terms
denial_none s connection clock terms (Some denial) = early_none s connection clock terms (word.LogoutFor denial.text) notice.Denied

judged_none : (s : Session) (connection : ℕ) (clock : Clock) (terms : Terms) (denial : Option Denial) → None_of (judged s connection clock terms denial)
judged_none s connection clock terms denial =
    choice None_of (not s.day.is_open) _ _
    (λ h. early_none s connection clock terms (logout_of why.Closed denial) (notice.Refused why.Closed))
    (λ h. choice None_of s.day.is_suspended _ _
    (λ h. early_none s connection clock terms (logout_of why.Suspended denial) (notice.Refused why.Suspended))
    (λ h. denial_none s connection clock terms denial))

waits_none : (s : Session) (connection now : ℕ) (waiting : Option Waiting) → None_of (waits_for s connection now waiting)
waits_none s connection now None = refl
waits_none s connection now (Some waiting) =
    choice None_of (waiting.connection == connection) _ _ (λ h. refl) (λ h. refl)

judged_by_none : (s : Session) (connection : ℕ) (clock : Clock) (terms : Terms) (denial : Option Denial) (p : Phase) → None_of (judged_by s connection clock terms denial p)
judged_by_none s connection clock terms denial phase.Away =
    judged_none (record s { waiting = without connection s.waiting }) connection clock terms denial
judged_by_none s connection clock terms denial (phase.On line) = waits_none s connection clock.moment s.waiting
judged_by_none s connection clock terms denial (phase.Leaving last since) = waits_none s connection clock.moment s.waiting

first_by_none : (s : Session) (connection : ℕ) (clock : Clock) (is_known : Bool) (denial : Option Denial) (terms : Option Terms) → None_of (first_by s connection clock is_known denial terms)
first_by_none s connection clock is_known denial None = refl
first_by_none s connection clock is_known denial (Some terms) =
    choice None_of is_known _ _ (λ h. judged_by_none s connection clock terms denial s.phase) (λ h. refl)

first_none : (names : Names) (s : Session) (connection : ℕ) (clock : Clock) (bytes : List ℕ) (is_known : Bool) (denial : Option Denial)
    → None_of (came_first names s connection clock bytes is_known denial)
first_none names s connection clock bytes is_known denial = first_by_none s connection clock is_known denial (logon_of names bytes)

-- Nor does what comes behind a Logout.

leaving_as_none : (s : Session) (connection : ℕ) (said : Heard) → None_of (came_leaving_as s connection said)
leaving_as_none s connection heard.Garbled = refl
leaving_as_none s connection (heard.TooLong number) = refl
leaving_as_none s connection (heard.Message m) = refl

leaving_none : (names : Names) (s : Session) (connection : ℕ) (bytes : List ℕ) → None_of (came_leaving names s connection bytes)
leaving_none names s connection bytes =
    choice None_of (is_logout bytes) _ _ (λ h. leaving_as_none s connection (heard_of names bytes)) (λ h. refl)

by_given : (names : Names) (s : Session) (connection : ℕ) (clock : Clock) (bytes : List ℕ) (is_known : Bool) (denial : Option Denial) (p : Phase)
    → Given bytes (came_by names s connection clock bytes is_known denial p)
by_given names s connection clock bytes is_known denial phase.Away =
    nothing bytes _ (first_none names s connection clock bytes is_known denial)
by_given names s connection clock bytes is_known denial (phase.On line) =
    choice (Given bytes) (line.connection == connection) _ _
    (λ h. live_given names (live s line) clock denial bytes)
    (λ h. nothing bytes _ (first_none names s connection clock bytes is_known denial))
by_given names s connection clock bytes is_known denial (phase.Leaving last since) =
    choice (Given bytes) (last == connection) _ _
    (λ h. nothing bytes _ (leaving_none names s connection bytes))
    (λ h. nothing bytes _ (first_none names s connection clock bytes is_known denial))

pub came_given : (names : Names) (s : Session) (connection : ℕ) (clock : Clock) (bytes : List ℕ) (is_known : Bool) (denial : Option Denial)
    → Given bytes (came names s connection clock bytes is_known denial)
unfolding came
came_given names s connection clock bytes is_known denial =
    choice (Given bytes) (is_spent s) _ _ (λ h. nothing bytes _ refl)
    (λ h. by_given names s connection clock bytes is_known denial s.phase)
