-- The same of the first message of a connection.
use Rattle.std.proofs.Common.{◌≡◌, ℕ, ◌≤◌, Bool, true, false, ◌==◌, ◌&&◌, not, nat_lt, nat_le, List, Option, Some, None, refl, sym, ◌∙◌, arith}
use Rattle.std.proofs.lemmas.Bool.{false≢true}
use Rattle.fix_sessions.specs.Heard.{logon_of}
use Rattle.fix_sessions.specs.Logons.{locked, shows_loss, refuses, refuses_early, refused, refused_early, refused_for, logout_of, refusal_day, is_safe, too_low, accepts, accepted_day, answer_number, expected_by, has_gap, is_ahead, may_reset, judged_ahead, judged_number, judged_reset, judged_terms, judged_denial, judged, judged_by, waits_for, first_by, came_first, value_or_zero, is_heartbeat, is_in_time, without}
use Rattle.fix_sessions.specs.declared.state.Clock.{Clock}
use Rattle.fix_sessions.specs.declared.state.Day.{Day}
use Rattle.fix_sessions.specs.declared.state.Phase.{Phase}
use Rattle.fix_sessions.specs.declared.state.Phase.TheVariants as phase
use Rattle.fix_sessions.specs.declared.state.Session.{Session}
use Rattle.fix_sessions.specs.declared.state.Waiting.{Waiting}
use Rattle.fix_sessions.specs.declared.messages.Terms.{Terms}
use Rattle.fix_sessions.specs.declared.texts.Names.{Names}
use Rattle.fix_sessions.specs.declared.turns.Denial.{Denial}
use Rattle.fix_sessions.specs.declared.turns.Notice.{Notice}
use Rattle.fix_sessions.specs.declared.turns.Notice.TheVariants as notice
use Rattle.fix_sessions.specs.declared.turns.Why.{Why}
use Rattle.fix_sessions.specs.declared.turns.Why.TheVariants as why
use Rattle.fix_sessions.specs.declared.turns.Word.{Word}
use Rattle.fix_sessions.specs.declared.turns.Word.TheVariants as word
use Rattle.laws_sessions.proofs.Choices.{choice}
use Rattle.laws_sessions.proofs.TakenRows.{Grows, Ups, same, same_grows}

-- The first message of a connection.

refusal_same : (d : Day) → Grows d (refusal_day d)
refusal_same d = choice (λ (e : Day). Grows d e) d.is_one_free _ _ (λ h. same_grows d _ refl refl) (λ h. same_grows d _ refl refl)

refuses_up : (s : Session) (connection : ℕ) (terms : Terms) (w : Word) (told : Notice) → Ups s.day (refuses s connection terms w told)
refuses_up s connection terms w told =
    choice (Ups s.day) (is_safe s.day terms) _ _ (λ h. record { nothing = refl; grows = refusal_same s.day }) (λ h. same s.day _ refl refl refl)

refused_up : (s : Session) (connection : ℕ) (terms : Terms) (y : Why) → Ups s.day (refused s connection terms y)
refused_up s connection terms y = refuses_up s connection terms (word.Logout y) (notice.Refused y)

locked_up : (s : Session) (connection : ℕ) (terms : Terms) (w : Word) → Ups s.day (refuses (locked s) connection terms w notice.LostStore)
locked_up s connection terms w =
    let r = refuses_up (locked s) connection terms w notice.LostStore in
    record {
      nothing = r.nothing;
      grows = record { up = r.grows.up; one = r.grows.one; was = r.grows.was };
    }

early_up : (s : Session) (connection : ℕ) (clock : Clock) (terms : Terms) (w : Word) (told : Notice)
    → Ups s.day (refuses_early s connection clock terms w told)
early_up s connection clock terms w told =
    choice (Ups s.day) (shows_loss s.day clock terms) _ _
    (λ h. locked_up s connection terms w) (λ h. refuses_up s connection terms w told)

refused_early_up : (s : Session) (connection : ℕ) (clock : Clock) (terms : Terms) (y : Why) → Ups s.day (refused_early s connection clock terms y)
refused_early_up s connection clock terms y = early_up s connection clock terms (word.Logout y) (notice.Refused y)

refused_for_up : (s : Session) (connection : ℕ) (clock : Clock) (terms : Terms) (y : Why) (denial : Option Denial)
    → Ups s.day (refused_for s connection clock terms y denial)
refused_for_up s connection clock terms y denial = early_up s connection clock terms (logout_of y denial) (notice.Refused y)

too_low_up : (s : Session) (connection : ℕ) (terms : Terms) → Ups s.day (too_low s connection terms)
too_low_up s connection terms =
    let low = why.TooLow s.day.expected in
    choice (Ups s.day) (nat_lt s.day.last_logon (value_or_zero terms.sent)) _ _
    (λ h. locked_up s connection terms (word.Logout low))
    (λ h. refused_up s connection terms low)

-- numbers are reset only while the venue was given nothing
abbrev MayReset : Day → Terms → Type 0
MayReset d terms = terms.resets ≡ true → d.was_taken ≡ false

before_up : (d : Day) (terms : Terms) → MayReset d terms → d.was_taken ≡ true → expected_by d terms ≡ d.expected
before_up d terms may was =
    choice (λ (n : ℕ). n ≡ d.expected) terms.resets _ _ (λ h. absurd (false≢true (sym (may h) ∙ was))) (λ h. refl)

before_one : (d : Day) (terms : Terms) → 1 ≤ d.expected → 1 ≤ expected_by d terms
before_one d terms one = choice (λ (n : ℕ). 1 ≤ n) terms.resets _ _ (λ h. omega arith) (λ h. one)

accepted_grows : (d : Day) (terms : Terms) → MayReset d terms → Grows d (accepted_day d terms)
accepted_grows d terms may = record {
  up = λ was. (let before = before_up d terms may was in
      choice (λ (n : ℕ). d.expected ≤ n) (has_gap d terms) _ _ (λ h. omega (arith, before)) (λ h. omega (arith, before)));
  one = λ one. (let before = before_one d terms one in
      choice (λ (n : ℕ). 1 ≤ n) (has_gap d terms) _ _ (λ h. before) (λ h. omega (arith, before)));
  was = refl;
}

accepts_up : (s : Session) (connection now : ℕ) (terms : Terms) → MayReset s.day terms → Ups s.day (accepts s connection now terms)
accepts_up s connection now terms may = record { nothing = refl; grows = accepted_grows s.day terms may }

ahead_up : (s : Session) (connection now : ℕ) (terms : Terms) → MayReset s.day terms → Ups s.day (judged_ahead s connection now terms)
ahead_up s connection now terms may =
    choice (Ups s.day) (is_ahead terms.expects (answer_number s.day terms)) _ _
    (λ h. refused_up s connection terms why.Ahead) (λ h. accepts_up s connection now terms may)

judged_number_up : (s : Session) (connection now : ℕ) (terms : Terms) → MayReset s.day terms → Ups s.day (judged_number s connection now terms)
judged_number_up s connection now terms may =
    choice (Ups s.day) s.day.is_locked _ _ (λ h. refused_up s connection terms why.Lost)
    (λ h. choice (Ups s.day) (s.day.is_reset && not terms.resets && not (terms.number == 1)) _ _
    (λ h. refused_up s connection terms why.Begin)
    (λ h. choice (Ups s.day) (nat_lt terms.number (expected_by s.day terms)) _ _
    (λ h. too_low_up s connection terms) (λ h. ahead_up s connection now terms may)))

-- a Logon with 141=Y that is not refused for it finds nothing given
may_is : (resets first may : Bool) → (resets && not (first && may)) ≡ false → resets ≡ true → may ≡ true
may_is true true true h e = refl
may_is true true false h e = absurd (false≢true (sym h))
may_is true false may h e = absurd (false≢true (sym h))
may_is false first may h e = absurd (false≢true e)

not_taken : (was known : Bool) → (not was && not known) ≡ true → was ≡ false
not_taken true known h = absurd (false≢true h)
not_taken false known h = refl

reset_up : (s : Session) (connection now : ℕ) (terms : Terms) → Ups s.day (judged_reset s connection now terms)
reset_up s connection now terms =
    choice (Ups s.day) (terms.resets && not ((terms.number == 1) && may_reset s.day)) _ _
    (λ h. refused_up s connection terms why.Reset)
    (λ h. judged_number_up s connection now terms
    (λ e. not_taken s.day.was_taken (nat_lt 0 s.day.first_given && nat_le s.day.first_given s.day.had)
    (may_is terms.resets (terms.number == 1) (may_reset s.day) h e)))

terms_up : (s : Session) (connection : ℕ) (clock : Clock) (terms : Terms) → Ups s.day (judged_terms s connection clock terms)
terms_up s connection clock terms =
    choice (Ups s.day) (not terms.is_plain) _ _ (λ h. refused_early_up s connection clock terms why.Encrypted)
    (λ h. choice (Ups s.day) (not terms.is_fix50) _ _ (λ h. refused_early_up s connection clock terms why.Version)
    (λ h. choice (Ups s.day) (not (is_heartbeat terms.seconds)) _ _ (λ h. refused_early_up s connection clock terms why.Heartbeat)
    (λ h. choice (Ups s.day) (not (is_in_time clock terms.sent)) _ _ (λ h. refused_early_up s connection clock terms why.Clock)
    (λ h. reset_up s connection clock.moment terms))))

denial_up : (s : Session) (connection : ℕ) (clock : Clock) (terms : Terms) (denial : Option Denial) → Ups s.day (judged_denial s connection clock terms denial)
denial_up s connection clock terms None = terms_up s connection clock terms
denial_up s connection clock terms (Some denial) = early_up s connection clock terms (word.LogoutFor denial.text) notice.Denied

judged_up : (s : Session) (connection : ℕ) (clock : Clock) (terms : Terms) (denial : Option Denial) → Ups s.day (judged s connection clock terms denial)
judged_up s connection clock terms denial =
    choice (Ups s.day) (not s.day.is_open) _ _ (λ h. refused_for_up s connection clock terms why.Closed denial)
    (λ h. choice (Ups s.day) s.day.is_suspended _ _ (λ h. refused_for_up s connection clock terms why.Suspended denial)
    (λ h. denial_up s connection clock terms denial))

waits_up : (s : Session) (connection now : ℕ) (waiting : Option Waiting) → Ups s.day (waits_for s connection now waiting)
waits_up s connection now None = same s.day _ refl refl refl
waits_up s connection now (Some waiting) =
    choice (Ups s.day) (waiting.connection == connection) _ _ (λ h. same s.day _ refl refl refl) (λ h. same s.day _ refl refl refl)

judged_by_up : (s : Session) (connection : ℕ) (clock : Clock) (terms : Terms) (denial : Option Denial) (p : Phase) → Ups s.day (judged_by s connection clock terms denial p)
judged_by_up s connection clock terms denial phase.Away =
    judged_up (record s { waiting = without connection s.waiting }) connection clock terms denial
judged_by_up s connection clock terms denial (phase.On line) = waits_up s connection clock.moment s.waiting
judged_by_up s connection clock terms denial (phase.Leaving last since) = waits_up s connection clock.moment s.waiting

first_by_up : (s : Session) (connection : ℕ) (clock : Clock) (is_known : Bool) (denial : Option Denial) (terms : Option Terms) → Ups s.day (first_by s connection clock is_known denial terms)
first_by_up s connection clock is_known denial None = same s.day _ refl refl refl
first_by_up s connection clock is_known denial (Some terms) =
    choice (Ups s.day) is_known _ _ (λ h. judged_by_up s connection clock terms denial s.phase) (λ h. same s.day _ refl refl refl)

pub first_up : (names : Names) (s : Session) (connection : ℕ) (clock : Clock) (bytes : List ℕ) (is_known : Bool) (denial : Option Denial)
    → Ups s.day (came_first names s connection clock bytes is_known denial)
first_up names s connection clock bytes is_known denial = first_by_up s connection clock is_known denial (logon_of names bytes)
