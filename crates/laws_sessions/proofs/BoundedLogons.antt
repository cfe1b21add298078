-- The numbers of a session stay in their bounds: the first message of a connection.
use Rattle.std.proofs.Common.{◌≡◌, ℕ, ◌+◌, ◌*◌, ◌≤◌, Bool, true, false, ◌==◌, ◌&&◌, not, nat_lt, nat_le, Option, Some, None, refl, sym, arith}
use Rattle.std.proofs.lemmas.Bool.{false≢true}
use Rattle.std.proofs.lemmas.Bool.Decides.{nat_tests}
use Rattle.fix_sessions.specs.Outcomes.{ended}
use Rattle.fix_sessions.specs.Logons.{locked, shows_loss, refuses, refuses_early, refused, refused_early, refused_for, logout_of, refusal_day, refusal_number, is_safe, too_low, accepts, accepted_day, answer_number, has_one, has_gap, first_wanted, split_of, expected_by, is_ahead, may_reset, judged_ahead, judged_number, judged_reset, judged_terms, judged_denial, judged, judged_by, waits_for, probed, first_by, value_or_zero, is_heartbeat, is_in_time, without}
use Rattle.fix_sessions.specs.declared.messages.Reading.{Reading}
use Rattle.fix_sessions.specs.declared.messages.Reading.TheVariants as reading
use Rattle.fix_sessions.specs.declared.messages.Terms.{Terms}
use Rattle.fix_sessions.specs.declared.state.Clock.{Clock}
use Rattle.fix_sessions.specs.declared.state.Day.{Day}
use Rattle.fix_sessions.specs.declared.state.Phase.{Phase}
use Rattle.fix_sessions.specs.declared.state.Phase.TheVariants as phase
use Rattle.fix_sessions.specs.declared.state.Session.{Session}
use Rattle.fix_sessions.specs.declared.state.Waiting.{Waiting}
use Rattle.fix_sessions.specs.declared.turns.Denial.{Denial}
use Rattle.fix_sessions.specs.declared.turns.Notice.{Notice}
use Rattle.fix_sessions.specs.declared.turns.Notice.TheVariants as notice
use Rattle.fix_sessions.specs.declared.turns.Why.{Why}
use Rattle.fix_sessions.specs.declared.turns.Why.TheVariants as why
use Rattle.fix_sessions.specs.declared.turns.Word.{Word}
use Rattle.fix_sessions.specs.declared.turns.Word.TheVariants as word
use Rattle.laws_sessions.proofs.BoundedBytes.{TermsFit}
use Rattle.laws_sessions.proofs.BoundedOutcomes.{has_room, one_is, one_more, up_to, zero_is}
use Rattle.laws_sessions.proofs.Choices.{choice}
use Rattle.laws_sessions.specs.Bounds.{DayFits, IsNumber, PhaseFits, SessionFits, TurnFits}

-- A session whose numbers are not used up.
pub record Fit (s : Session) : Type 0 where
  pub fits : SessionFits s
  pub next : s.day.next ≤ 999999990
  pub expected : s.day.expected ≤ 999999990

pub ended_fit : (s : Session) (connection : ℕ) (told : Option Notice) → SessionFits s
    → TurnFits (record (ended s connection) { notice = told })
ended_fit s connection told f = record { session = f; first = tt; second = tt }

refusal_fits : (d : Day) → DayFits d → d.next ≤ 999999990 → DayFits (refusal_day d)
refusal_fits d f room =
    choice DayFits d.is_one_free _ _
    (λ h. record {
      expected = f.expected;
      next = f.next;
      had = f.had;
      first_given = f.first_given;
      last_given = f.last_given;
      last_kept = f.last_kept;
    })
    (λ h. record {
      expected = f.expected;
      next = one_more d.next room;
      had = f.had;
      first_given = f.first_given;
      last_given = f.last_given;
      last_kept = f.last_kept;
    })

number_is : (d : Day) → d.next ≤ 999999990 → IsNumber (refusal_number d)
number_is d room = choice IsNumber d.is_one_free 1 d.next (λ h. one_is) (λ h. has_room d.next room)

refuses_fit : (s : Session) (connection : ℕ) (terms : Terms) (w : Word) (told : Notice) → Fit s
    → TurnFits (refuses s connection terms w told)
refuses_fit s connection terms w told f =
    choice TurnFits (is_safe s.day terms) _ _
    (λ h. record {
      session = record { day = refusal_fits s.day f.fits.day f.next; phase = f.fits.phase };
      first = number_is s.day f.next;
      second = tt;
    })
    (λ h. ended_fit s connection (Some told) f.fits)

refused_fit : (s : Session) (connection : ℕ) (terms : Terms) (y : Why) → Fit s
    → TurnFits (refused s connection terms y)
refused_fit s connection terms y f = refuses_fit s connection terms (word.Logout y) (notice.Refused y) f

locked_fits : (d : Day) → DayFits d → DayFits (record d { is_locked = true })
locked_fits d f = record {
  expected = f.expected;
  next = f.next;
  had = f.had;
  first_given = f.first_given;
  last_given = f.last_given;
  last_kept = f.last_kept;
}

locked_fit : (s : Session) → Fit s → Fit (locked s)
locked_fit s f = record {
  fits = record { day = locked_fits s.day f.fits.day; phase = f.fits.phase };
  next = f.next;
  expected = f.expected;
}

early_fit : (s : Session) (connection : ℕ) (clock : Clock) (terms : Terms) (w : Word) (told : Notice)
    → Fit s → TurnFits (refuses_early s connection clock terms w told)
early_fit s connection clock terms w told f =
    choice TurnFits (shows_loss s.day clock terms) _ _
    (λ h. refuses_fit (locked s) connection terms w notice.LostStore (locked_fit s f))
    (λ h. refuses_fit s connection terms w told f)

refused_early_fit : (s : Session) (connection : ℕ) (clock : Clock) (terms : Terms) (y : Why) → Fit s
    → TurnFits (refused_early s connection clock terms y)
refused_early_fit s connection clock terms y f =
    early_fit s connection clock terms (word.Logout y) (notice.Refused y) f

refused_for_fit : (s : Session) (connection : ℕ) (clock : Clock) (terms : Terms) (y : Why)
    (denial : Option Denial) → Fit s → TurnFits (refused_for s connection clock terms y denial)
refused_for_fit s connection clock terms y denial f =
    early_fit s connection clock terms (logout_of y denial) (notice.Refused y) f

too_low_fit : (s : Session) (connection : ℕ) (terms : Terms) → Fit s → TurnFits (too_low s connection terms)
too_low_fit s connection terms f =
    let low = why.TooLow s.day.expected in
    choice TurnFits (nat_lt s.day.last_logon (value_or_zero terms.sent)) _ _
    (λ h. refuses_fit (locked s) connection terms (word.Logout low) notice.LostStore (locked_fit s f))
    (λ h. refused_fit s connection terms low f)

-- A Logon that is accepted.

before_low : (d : Day) (terms : Terms) → d.expected ≤ 999999990 → expected_by d terms ≤ 999999990
before_low d terms low =
    choice (λ (n : ℕ). n ≤ 999999990) terms.resets 1 d.expected (λ h. omega arith) (λ h. low)

accepted_fits : (d : Day) (terms : Terms) → DayFits d → d.next ≤ 999999990 → d.expected ≤ 999999990
    → DayFits (accepted_day d terms)
accepted_fits d terms f room low =
    let before = before_low d terms low in
    record {
      expected = choice IsNumber (has_gap d terms) (expected_by d terms) (expected_by d terms + 1)
          (λ h. has_room (expected_by d terms) before) (λ h. one_more (expected_by d terms) before);
      next = choice IsNumber (has_one d terms) d.next (d.next + 1) (λ h. f.next) (λ h. one_more d.next room);
      had = f.had;
      first_given = f.first_given;
      last_given = f.last_given;
      last_kept = choice IsNumber terms.resets d.last_given d.last_kept (λ h. f.last_given) (λ h. f.last_kept);
    }

answer_is : (d : Day) (terms : Terms) → d.next ≤ 999999990 → IsNumber (answer_number d terms)
answer_is d terms room =
    choice IsNumber (has_one d terms) 1 d.next (λ h. one_is) (λ h. has_room d.next room)

wanted_is : (expects : Reading) (answer : ℕ) → IsNumber answer → IsNumber (first_wanted expects answer)
wanted_is reading.Missing answer is = is
wanted_is reading.Faulty answer is = is
wanted_is (reading.Is number) answer is =
    choice IsNumber (nat_lt number answer) number answer
    (λ h. up_to number answer (less_is number answer h) is) (λ h. is)
  where
    less_is : (m n : ℕ) → nat_lt m n ≡ true → m ≤ n
    less_is m n h = grind (arith, nat_tests)

split_is : (before after : Day) (terms : Terms) → IsNumber before.next → IsNumber after.next
    → IsNumber (split_of before after terms)
split_is before after terms b a =
    choice IsNumber (not (has_one before terms)) _ _ (λ h. b)
    (λ h. choice IsNumber (after.next == 2) 1 after.next (λ k. one_is) (λ k. a))

seconds_fit : (seconds : Reading) → is_heartbeat seconds ≡ true → value_or_zero seconds * 1000 ≤ 300000
seconds_fit reading.Missing h = absurd (false≢true h)
seconds_fit reading.Faulty h = absurd (false≢true h)
seconds_fit (reading.Is seconds) h = in_thousandths seconds (at_most seconds h)
  where
    at_most : (n : ℕ) → (nat_le 1 n && nat_le n 300) ≡ true → n ≤ 300
    at_most n h = grind (arith, nat_tests)

    in_thousandths : (n : ℕ) → n ≤ 300 → n * 1000 ≤ 300000
    in_thousandths n h = omega (arith, h)

none_overtook : 0 ≤ 999999990
none_overtook = omega arith

accepts_fit : (s : Session) (connection now : ℕ) (terms : Terms) → Fit s → IsNumber terms.number
    → is_heartbeat terms.seconds ≡ true → TurnFits (accepts s connection now terms)
accepts_fit s connection now terms f number beats =
    let day = accepted_fits s.day terms f.fits.day f.next f.expected in
    let answer = answer_is s.day terms f.next in
    record {
      session = record {
        day = day;
        phase = record {
          heartbeat = seconds_fit terms.seconds beats;
          gap = choice IsNumber (has_gap s.day terms) terms.number 0 (λ h. number) (λ h. zero_is);
          again = wanted_is terms.expects (answer_number s.day terms) answer;
          again_end = answer;
          fresh = day.next;
          split = split_is s.day (accepted_day s.day terms) terms f.fits.day.next day.next;
          first_test = zero_is;
          last_test = zero_is;
          overtook = none_overtook;
        };
      };
      first = answer;
      second = tt;
    }

ahead_fit : (s : Session) (connection now : ℕ) (terms : Terms) → Fit s → IsNumber terms.number
    → is_heartbeat terms.seconds ≡ true → TurnFits (judged_ahead s connection now terms)
ahead_fit s connection now terms f number beats =
    choice TurnFits (is_ahead terms.expects (answer_number s.day terms)) _ _
    (λ h. refused_fit s connection terms why.Ahead f) (λ h. accepts_fit s connection now terms f number beats)

number_fit : (s : Session) (connection now : ℕ) (terms : Terms) → Fit s → IsNumber terms.number
    → is_heartbeat terms.seconds ≡ true → TurnFits (judged_number s connection now terms)
number_fit s connection now terms f number beats =
    choice TurnFits s.day.is_locked _ _ (λ h. refused_fit s connection terms why.Lost f)
    (λ h. choice TurnFits (s.day.is_reset && not terms.resets && not (terms.number == 1)) _ _
    (λ h. refused_fit s connection terms why.Begin f)
    (λ h. choice TurnFits (nat_lt terms.number (expected_by s.day terms)) _ _
    (λ h. too_low_fit s connection terms f) (λ h. ahead_fit s connection now terms f number beats)))

reset_fit : (s : Session) (connection now : ℕ) (terms : Terms) → Fit s → IsNumber terms.number
    → is_heartbeat terms.seconds ≡ true → TurnFits (judged_reset s connection now terms)
reset_fit s connection now terms f number beats =
    choice TurnFits (terms.resets && not ((terms.number == 1) && may_reset s.day)) _ _
    (λ h. refused_fit s connection terms why.Reset f)
    (λ h. number_fit s connection now terms f number beats)

not_not : (b : Bool) → not b ≡ false → b ≡ true
not_not true h = refl
not_not false h = absurd (false≢true (sym h))

terms_fit : (s : Session) (connection : ℕ) (clock : Clock) (terms : Terms) → Fit s → IsNumber terms.number
    → TurnFits (judged_terms s connection clock terms)
terms_fit s connection clock terms f number =
    choice TurnFits (not terms.is_plain) _ _ (λ h. refused_early_fit s connection clock terms why.Encrypted f)
    (λ h. choice TurnFits (not terms.is_fix50) _ _ (λ h. refused_early_fit s connection clock terms why.Version f)
    (λ h. choice TurnFits (not (is_heartbeat terms.seconds)) _ _ (λ h. refused_early_fit s connection clock terms why.Heartbeat f)
    (λ beats. choice TurnFits (not (is_in_time clock terms.sent)) _ _ (λ h. refused_early_fit s connection clock terms why.Clock f)
    (λ h. reset_fit s connection clock.moment terms f number (not_not (is_heartbeat terms.seconds) beats)))))

denial_fit : (s : Session) (connection : ℕ) (clock : Clock) (terms : Terms) (denial : Option Denial) → Fit s
    → IsNumber terms.number → TurnFits (judged_denial s connection clock terms denial)
denial_fit s connection clock terms None f number = terms_fit s connection clock terms f number
denial_fit s connection clock terms (Some denial) f number =
    early_fit s connection clock terms (word.LogoutFor denial.text) notice.Denied f

judged_fit : (s : Session) (connection : ℕ) (clock : Clock) (terms : Terms) (denial : Option Denial) → Fit s
    → IsNumber terms.number → TurnFits (judged s connection clock terms denial)
judged_fit s connection clock terms denial f number =
    choice TurnFits (not s.day.is_open) _ _ (λ h. refused_for_fit s connection clock terms why.Closed denial f)
    (λ h. choice TurnFits s.day.is_suspended _ _ (λ h. refused_for_fit s connection clock terms why.Suspended denial f)
    (λ h. denial_fit s connection clock terms denial f number))

probed_fits : (p : Phase) → PhaseFits p → PhaseFits (probed p)
probed_fits phase.Away f = tt
probed_fits (phase.On line) f = record {
  heartbeat = f.heartbeat;
  gap = f.gap;
  again = f.again;
  again_end = f.again_end;
  fresh = f.fresh;
  split = f.split;
  first_test = f.first_test;
  last_test = f.last_test;
  overtook = f.overtook;
}
probed_fits (phase.Leaving connection since) f = tt

waits_fit : (s : Session) (connection now : ℕ) (waiting : Option Waiting) → Fit s
    → TurnFits (waits_for s connection now waiting)
waits_fit s connection now None f = record {
  session = record { day = f.fits.day; phase = probed_fits s.phase f.fits.phase };
  first = tt;
  second = tt;
}
waits_fit s connection now (Some waiting) f =
    choice TurnFits (waiting.connection == connection) _ _
    (λ h. record { session = f.fits; first = tt; second = tt })
    (λ h. ended_fit s connection None f.fits)

judged_by_fit : (s : Session) (connection : ℕ) (clock : Clock) (terms : Terms) (denial : Option Denial)
    (p : Phase) → Fit s → IsNumber terms.number → TurnFits (judged_by s connection clock terms denial p)
judged_by_fit s connection clock terms denial phase.Away f number =
    judged_fit (record s { waiting = without connection s.waiting }) connection clock terms denial
    (record {
      fits = record { day = f.fits.day; phase = f.fits.phase };
      next = f.next;
      expected = f.expected;
    })
    number
judged_by_fit s connection clock terms denial (phase.On line) f number =
    waits_fit s connection clock.moment s.waiting f
judged_by_fit s connection clock terms denial (phase.Leaving last since) f number =
    waits_fit s connection clock.moment s.waiting f

pub first_fit : (s : Session) (connection : ℕ) (clock : Clock) (is_known : Bool) (denial : Option Denial)
    (terms : Option Terms) → Fit s → TermsFit terms
    → TurnFits (first_by s connection clock is_known denial terms)
first_fit s connection clock is_known denial None f fits = ended_fit s connection None f.fits
first_fit s connection clock is_known denial (Some terms) f fits =
    choice TurnFits is_known _ _ (λ h. judged_by_fit s connection clock terms denial s.phase f fits)
    (λ h. ended_fit s connection (Some notice.Credentials) f.fits)
