-- How bytes move the expected number: a Logon.
use Rattle.std.proofs.Common.{◌≡◌, ℕ, ◌+◌, Bool, true, false, ◌==◌, ◌&&◌, not, nat_lt, nat_le, ◌⊎◌, inl, inr, Option, Some, None, refl, sym, ap, subst, ◌∙◌, arith, if◌then◌else◌}
use Rattle.std.proofs.lemmas.Bool.{false≢true}
use Rattle.std.proofs.lemmas.Bool.Decides.{nat_tests}
use Rattle.fix_sessions.specs.Logons.{locked, shows_loss, refuses, refuses_early, refused, refused_early, refused_for, logout_of, refusal_day, is_safe, too_low, accepts, answer_number, expected_by, is_ahead, may_reset, judged_ahead, judged_number, judged_reset, judged_terms, judged_denial, judged, judged_by, waits_for, value_or_zero, is_heartbeat, is_in_time, without}
use Rattle.fix_sessions.specs.declared.messages.Terms.{Terms}
use Rattle.fix_sessions.specs.declared.state.Clock.{Clock}
use Rattle.fix_sessions.specs.declared.state.Day.{Day}
use Rattle.fix_sessions.specs.declared.state.Phase.{Phase}
use Rattle.fix_sessions.specs.declared.state.Phase.TheVariants as phase
use Rattle.fix_sessions.specs.declared.state.Session.{Session}
use Rattle.fix_sessions.specs.declared.state.Waiting.{Waiting}
use Rattle.fix_sessions.specs.declared.turns.Denial.{Denial}
use Rattle.fix_sessions.specs.declared.turns.Notice.{Notice}
use Rattle.fix_sessions.specs.declared.turns.Notice.TheVariants as notice
use Rattle.fix_sessions.specs.declared.turns.Turn.{Turn}
use Rattle.fix_sessions.specs.declared.turns.Why.{Why}
use Rattle.fix_sessions.specs.declared.turns.Why.TheVariants as why
use Rattle.fix_sessions.specs.declared.turns.Word.{Word}
use Rattle.fix_sessions.specs.declared.turns.Word.TheVariants as word
use Rattle.laws_sessions.proofs.Choices.{choice}
use Rattle.laws_sessions.proofs.MovedOutcomes.{same_number}
use Rattle.laws_sessions.specs.Moves.{IsLogonCounted, IsRestart, IsStill}

-- A Logon.

abbrev pub LogonMoves : Terms → Day → Turn → Type 0
LogonMoves terms d t = IsStill d t ⊎ (IsLogonCounted (Some terms) d t ⊎ IsRestart (Some terms) d t)

-- it resets numbers only with number 1, while the venue was given nothing
abbrev MayReset : Day → Terms → Type 0
MayReset d terms = terms.resets ≡ true → (terms.number ≡ 1) × (d.was_taken ≡ false)

refusal_still : (d : Day) → (refusal_day d).expected ≡ d.expected
refusal_still d = choice (λ (e : Day). e.expected ≡ d.expected) d.is_one_free _ _ (λ h. refl) (λ h. refl)

refuses_still : (s : Session) (connection : ℕ) (terms : Terms) (w : Word) (told : Notice)
    → IsStill s.day (refuses s connection terms w told)
refuses_still s connection terms w told =
    choice (IsStill s.day) (is_safe s.day terms) _ _ (λ h. refusal_still s.day) (λ h. refl)

refused_moves : (s : Session) (connection : ℕ) (terms : Terms) (y : Why)
    → LogonMoves terms s.day (refused s connection terms y)
refused_moves s connection terms y =
    inl (refuses_still s connection terms (word.Logout y) (notice.Refused y))

early_still : (s : Session) (connection : ℕ) (clock : Clock) (terms : Terms) (w : Word) (told : Notice)
    → IsStill s.day (refuses_early s connection clock terms w told)
early_still s connection clock terms w told =
    choice (IsStill s.day) (shows_loss s.day clock terms) _ _
    (λ h. refuses_still (locked s) connection terms w notice.LostStore)
    (λ h. refuses_still s connection terms w told)

refused_early_moves : (s : Session) (connection : ℕ) (clock : Clock) (terms : Terms) (y : Why)
    → LogonMoves terms s.day (refused_early s connection clock terms y)
refused_early_moves s connection clock terms y =
    inl (early_still s connection clock terms (word.Logout y) (notice.Refused y))

refused_for_moves : (s : Session) (connection : ℕ) (clock : Clock) (terms : Terms) (y : Why)
    (denial : Option Denial) → LogonMoves terms s.day (refused_for s connection clock terms y denial)
refused_for_moves s connection clock terms y denial =
    inl (early_still s connection clock terms (logout_of y denial) (notice.Refused y))

too_low_moves : (s : Session) (connection : ℕ) (terms : Terms) → LogonMoves terms s.day (too_low s connection terms)
too_low_moves s connection terms =
    let low = why.TooLow s.day.expected in
    choice (LogonMoves terms s.day) (nat_lt s.day.last_logon (value_or_zero terms.sent)) _ _
    (λ h. inl (refuses_still (locked s) connection terms (word.Logout low) notice.LostStore))
    (λ h. refused_moves s connection terms low)

-- the number that is expected once a Logon is accepted, by its 141 and its 34
abbrev begun : Bool → ℕ → ℕ
begun resets expected = if resets then 1 else expected

abbrev next_expected : Bool → ℕ → ℕ → ℕ
next_expected resets number expected =
    if nat_lt (begun resets expected) number then begun resets expected else begun resets expected + 1

counted_or_missing : (number expected : ℕ) → nat_lt number expected ≡ false
    → (next_expected false number expected ≡ expected)
    ⊎ ((number ≡ expected) × (next_expected false number expected ≡ expected + 1))
counted_or_missing number expected low =
    choice (λ (n : ℕ). (n ≡ expected) ⊎ ((number ≡ expected) × (n ≡ expected + 1))) (nat_lt expected number) _ _
    (λ h. inl refl) (λ h. inr (same_by number expected low h, refl))
  where
    same_by : (m n : ℕ) → nat_lt m n ≡ false → nat_lt n m ≡ false → m ≡ n
    same_by m n h k = grind (arith, nat_tests)

accepts_moves : (s : Session) (connection now : ℕ) (terms : Terms) → MayReset s.day terms
    → nat_lt terms.number (expected_by s.day terms) ≡ false
    → LogonMoves terms s.day (accepts s connection now terms)
accepts_moves s connection now terms may low = by_resets terms.resets refl
  where
    by_resets : (b : Bool) → terms.resets ≡ b → LogonMoves terms s.day (accepts s connection now terms)
    by_resets true is =
        (let can = may is in
        inr (inr (record {
          logon = terms;
          is = refl;
          resets = is;
          numbered = can.0;
          nothing_taken = can.1;
          counted = ap (λ r. next_expected r terms.number s.day.expected) is
              ∙ ap (λ n. next_expected true n s.day.expected) can.0;
          answered = refl;
        })))
    by_resets false is =
        (let same : (accepts s connection now terms).session.day.expected ≡ next_expected false terms.number s.day.expected =
        ap (λ r. next_expected r terms.number s.day.expected) is in
        elim (counted_or_missing terms.number s.day.expected
        (subst (λ r. nat_lt terms.number (begun r s.day.expected) ≡ false) is low)) [
          | inl still ↦ inl (same ∙ still)
          | inr counted ↦ inr (inl (record {
            logon = terms;
            is = refl;
            numbered = counted.0;
            by_one = same ∙ counted.1;
            answered = refl;
          }))
        ])

ahead_moves : (s : Session) (connection now : ℕ) (terms : Terms) → MayReset s.day terms
    → nat_lt terms.number (expected_by s.day terms) ≡ false
    → LogonMoves terms s.day (judged_ahead s connection now terms)
ahead_moves s connection now terms may low =
    choice (LogonMoves terms s.day) (is_ahead terms.expects (answer_number s.day terms)) _ _
    (λ h. refused_moves s connection terms why.Ahead) (λ h. accepts_moves s connection now terms may low)

number_moves : (s : Session) (connection now : ℕ) (terms : Terms) → MayReset s.day terms
    → LogonMoves terms s.day (judged_number s connection now terms)
number_moves s connection now terms may =
    choice (LogonMoves terms s.day) s.day.is_locked _ _ (λ h. refused_moves s connection terms why.Lost)
    (λ h. choice (LogonMoves terms s.day) (s.day.is_reset && not terms.resets && not (terms.number == 1)) _ _
    (λ h. refused_moves s connection terms why.Begin)
    (λ h. choice (LogonMoves terms s.day) (nat_lt terms.number (expected_by s.day terms)) _ _
    (λ h. too_low_moves s connection terms) (λ h. ahead_moves s connection now terms may h)))

may_is : (resets first may : Bool) → (resets && not (first && may)) ≡ false → resets ≡ true
    → (first ≡ true) × (may ≡ true)
may_is true true true h e = (refl, refl)
may_is true true false h e = absurd (false≢true (sym h))
may_is true false may h e = absurd (false≢true (sym h))
may_is false first may h e = absurd (false≢true e)

not_taken : (was known : Bool) → (not was && not known) ≡ true → was ≡ false
not_taken true known h = absurd (false≢true h)
not_taken false known h = refl

reset_moves : (s : Session) (connection now : ℕ) (terms : Terms)
    → LogonMoves terms s.day (judged_reset s connection now terms)
reset_moves s connection now terms =
    choice (LogonMoves terms s.day) (terms.resets && not ((terms.number == 1) && may_reset s.day)) _ _
    (λ h. refused_moves s connection terms why.Reset)
    (λ h. number_moves s connection now terms
    (λ e. let can = may_is terms.resets (terms.number == 1) (may_reset s.day) h e in (
      same_number terms.number 1 can.0,
      not_taken s.day.was_taken (nat_lt 0 s.day.first_given && nat_le s.day.first_given s.day.had) can.1,
    )))

terms_moves : (s : Session) (connection : ℕ) (clock : Clock) (terms : Terms)
    → LogonMoves terms s.day (judged_terms s connection clock terms)
terms_moves s connection clock terms =
    choice (LogonMoves terms s.day) (not terms.is_plain) _ _ (λ h. refused_early_moves s connection clock terms why.Encrypted)
    (λ h. choice (LogonMoves terms s.day) (not terms.is_fix50) _ _ (λ h. refused_early_moves s connection clock terms why.Version)
    (λ h. choice (LogonMoves terms s.day) (not (is_heartbeat terms.seconds)) _ _ (λ h. refused_early_moves s connection clock terms why.Heartbeat)
    (λ h. choice (LogonMoves terms s.day) (not (is_in_time clock terms.sent)) _ _ (λ h. refused_early_moves s connection clock terms why.Clock)
    (λ h. reset_moves s connection clock.moment terms))))

denial_moves : (s : Session) (connection : ℕ) (clock : Clock) (terms : Terms) (denial : Option Denial)
    → LogonMoves terms s.day (judged_denial s connection clock terms denial)
denial_moves s connection clock terms None = terms_moves s connection clock terms
denial_moves s connection clock terms (Some denial) =
    inl (early_still s connection clock terms (word.LogoutFor denial.text) notice.Denied)

judged_moves : (s : Session) (connection : ℕ) (clock : Clock) (terms : Terms) (denial : Option Denial)
    → LogonMoves terms s.day (judged s connection clock terms denial)
judged_moves s connection clock terms denial =
    choice (LogonMoves terms s.day) (not s.day.is_open) _ _
    (λ h. refused_for_moves s connection clock terms why.Closed denial)
    (λ h. choice (LogonMoves terms s.day) s.day.is_suspended _ _
    (λ h. refused_for_moves s connection clock terms why.Suspended denial)
    (λ h. denial_moves s connection clock terms denial))

waits_still : (s : Session) (connection now : ℕ) (waiting : Option Waiting)
    → IsStill s.day (waits_for s connection now waiting)
waits_still s connection now None = refl
waits_still s connection now (Some waiting) =
    choice (IsStill s.day) (waiting.connection == connection) _ _ (λ h. refl) (λ h. refl)

pub judged_by_moves : (s : Session) (connection : ℕ) (clock : Clock) (terms : Terms) (denial : Option Denial) (p : Phase)
    → LogonMoves terms s.day (judged_by s connection clock terms denial p)
judged_by_moves s connection clock terms denial phase.Away =
    judged_moves (record s { waiting = without connection s.waiting }) connection clock terms denial
judged_by_moves s connection clock terms denial (phase.On line) = inl (waits_still s connection clock.moment s.waiting)
judged_by_moves s connection clock terms denial (phase.Leaving last since) =
    inl (waits_still s connection clock.moment s.waiting)
