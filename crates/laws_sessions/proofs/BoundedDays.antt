-- The numbers of a session stay in their bounds: each event, and every list of them.
use Rattle.std.proofs.Common.{◌≡◌, ℕ, suc, ◌+◌, ◌-◌, ◌≤◌, Bool, true, false, ◌==◌, ◌||◌, not, nat_lt, nat_le, List, [], ◌∷◌, ◌++◌, length, Option, Some, None, refl, sym, subst, arith}
use Rattle.std.proofs.lemmas.Bool.{false≢true}
use Rattle.std.proofs.lemmas.Bool.Decides.{nat_tests}
use Rattle.fix_fields.specs.Frame.{Field}
use Rattle.fix_sessions.specs.Heard.{as_taken, heard_of, is_logout, logon_of}
use Rattle.fix_sessions.specs.Outcomes.{are_bounded, free, is_free, is_spent, live}
use Rattle.fix_sessions.specs.Sending.{hands, hands_by}
use Rattle.fix_sessions.specs.Steps.{at_most, came, came_by, came_leaving, came_leaving_as, decided, freed_of, given, given_by, gone, has, is_decided, is_expected, last_copy, last_counted, log_out, logged_out, logged_out_by, new_session, ordered, ordered_day, reset_day, resets, tick, tick_by, tick_waiting, waits_away}
use Rattle.fix_sessions.specs.declared.messages.Heard.{Heard}
use Rattle.fix_sessions.specs.declared.messages.Heard.TheVariants as heard
use Rattle.fix_sessions.specs.declared.orders.Order.{Order}
use Rattle.fix_sessions.specs.declared.orders.Order.TheVariants as order
use Rattle.fix_sessions.specs.declared.state.Clock.{Clock}
use Rattle.fix_sessions.specs.declared.state.Day.{Day}
use Rattle.fix_sessions.specs.declared.state.Line.{Line}
use Rattle.fix_sessions.specs.declared.state.Phase.{Phase}
use Rattle.fix_sessions.specs.declared.state.Phase.TheVariants as phase
use Rattle.fix_sessions.specs.declared.state.Session.{Session}
use Rattle.fix_sessions.specs.declared.state.TheConstants.{LAST_NUMBER, LOGOUT_WAIT}
use Rattle.fix_sessions.specs.declared.state.Waiting.{Waiting}
use Rattle.fix_sessions.specs.declared.texts.Names.{Names}
use Rattle.fix_sessions.specs.declared.turns.Denial.{Denial}
use Rattle.fix_sessions.specs.declared.turns.Said.{Said}
use Rattle.fix_sessions.specs.declared.turns.Stored.{Stored}
use Rattle.fix_sessions.specs.declared.turns.Turn.{Turn}
use Rattle.fix_sessions.specs.declared.turns.Why.TheVariants as why
use Rattle.fix_sessions.specs.declared.turns.Word.{Word}
use Rattle.fix_sessions.specs.declared.turns.Word.TheVariants as word
use Rattle.laws_sessions.proofs.BoundedBytes.{bytes_fit, logon_fits}
use Rattle.laws_sessions.proofs.BoundedLogons.{Fit, first_fit}
use Rattle.laws_sessions.proofs.BoundedOutcomes.{Fits, has_room, one_is, one_more, parts_fit, zero_is}
use Rattle.laws_sessions.proofs.BoundedRows.{live_fit}
use Rattle.laws_sessions.proofs.BoundedSent.{given_fits, given_on_fit, hands_on_fit, tick_on_fit}
use Rattle.laws_sessions.proofs.Choices.{choice}
use Rattle.laws_sessions.specs.Bounds.{DayFits, IsNumber, PhaseFits, SaidFits, SessionFits, TurnFits, sent_by, sent_of}
use Rattle.laws_sessions.specs.Days.{Event, turn, after}
use Rattle.laws_sessions.specs.Days.{Came, Gone, Given, Handed, Tick, Ordered, LoggedOut}
use Rattle.laws_sessions.specs.Logons.{is_leaving}

-- A session whose numbers are not used up has room.

room_of : (n : ℕ) → nat_lt LAST_NUMBER n ≡ false → n ≤ 999999990
room_of n h = grind (arith, nat_tests)

none_of : (a b c : Bool) → ((a || b) || not c) ≡ false → (a ≡ false) × (b ≡ false)
none_of true b c h = absurd (false≢true (sym h))
none_of false true c h = absurd (false≢true (sym h))
none_of false false c h = (refl, refl)

with_room : (s : Session) → SessionFits s → is_spent s ≡ false → Fit s
with_room s f h =
    let parts = none_of (nat_lt LAST_NUMBER s.day.next) (nat_lt LAST_NUMBER s.day.expected)
    (are_bounded s.day s.phase) h in
    record {
      fits = f;
      next = room_of s.day.next parts.0;
      expected = room_of s.day.expected parts.1;
    }

on_line : (s : Session) (line : Line) → Fit s → s.phase ≡ phase.On line → Fits (live s line)
on_line s line f is = record {
  day = f.fits.day;
  line = subst PhaseFits is f.fits.phase;
  room = f.next;
}

-- nothing is said
quiet_fit : (t : Turn) → SessionFits t.session → t.first ≡ None → t.second ≡ None → TurnFits t
quiet_fit t f first second = record {
  session = f;
  first = subst SaidFits (sym first) tt;
  second = subst SaidFits (sym second) tt;
}

freed_fits : (s : Session) (connection : ℕ) → SessionFits s → SessionFits (freed_of s connection)
freed_fits s connection f =
    choice SessionFits (has s.phase connection) _ _
    (λ h. record { day = f.day; phase = tt }) (λ h. record { day = f.day; phase = f.phase })

free_fits : (s : Session) → SessionFits s → SessionFits (free s)
free_fits s f = record { day = f.day; phase = tt }

-- Bytes came.

counted_day : (d : Day) → DayFits d → d.expected ≤ 999999990 → DayFits (record d { expected = d.expected + 1 })
counted_day d f low = record {
  expected = one_more d.expected low;
  next = f.next;
  had = f.had;
  first_given = f.first_given;
  last_given = f.last_given;
  last_kept = f.last_kept;
}

last_fits : (s : Session) (number : Option ℕ) → Fit s → SessionFits (last_counted s number)
last_fits s number f =
    choice SessionFits (is_expected s.day number) _ _
    (λ h. record { day = counted_day s.day f.fits.day f.expected; phase = f.fits.phase })
    (λ h. f.fits)

leaving_as_fit : (s : Session) (connection : ℕ) (said : Heard) → Fit s
    → TurnFits (came_leaving_as s connection said)
leaving_as_fit s connection (heard.Message m) f =
    quiet_fit _ (free_fits (last_counted s m.origin.number) (last_fits s m.origin.number f)) refl refl
leaving_as_fit s connection heard.Garbled f = quiet_fit _ f.fits refl refl
leaving_as_fit s connection (heard.TooLong number) f = quiet_fit _ f.fits refl refl

leaving_fit : (names : Names) (s : Session) (connection : ℕ) (bytes : List ℕ) → Fit s
    → TurnFits (came_leaving names s connection bytes)
leaving_fit names s connection bytes f =
    choice TurnFits (is_logout bytes) _ _ (λ h. leaving_as_fit s connection (heard_of names bytes) f)
    (λ h. quiet_fit _ f.fits refl refl)

came_by_fit : (names : Names) (s : Session) (connection : ℕ) (clock : Clock) (bytes : List ℕ)
    (is_known : Bool) (denial : Option Denial) (p : Phase) → Fit s → s.phase ≡ p
    → TurnFits (came_by names s connection clock bytes is_known denial p)
came_by_fit names s connection clock bytes is_known denial phase.Away f is =
    first_fit s connection clock is_known denial (logon_of names bytes) f (logon_fits names bytes)
came_by_fit names s connection clock bytes is_known denial (phase.On line) f is =
    choice TurnFits (line.connection == connection) _ _
    (λ h. live_fit (live s line) clock (as_taken denial (heard_of names bytes)) (on_line s line f is)
    f.expected (bytes_fit names bytes denial))
    (λ h. first_fit s connection clock is_known denial (logon_of names bytes) f (logon_fits names bytes))
came_by_fit names s connection clock bytes is_known denial (phase.Leaving last since) f is =
    choice TurnFits (last == connection) _ _ (λ h. leaving_fit names s connection bytes f)
    (λ h. first_fit s connection clock is_known denial (logon_of names bytes) f (logon_fits names bytes))

came_fit : (names : Names) (s : Session) (connection : ℕ) (clock : Clock) (bytes : List ℕ)
    (is_known : Bool) (denial : Option Denial) → SessionFits s
    → TurnFits (came names s connection clock bytes is_known denial)
unfolding came
came_fit names s connection clock bytes is_known denial f =
    choice TurnFits (is_spent s) _ _ (λ h. quiet_fit _ (freed_fits s connection f) refl refl)
    (λ h. came_by_fit names s connection clock bytes is_known denial s.phase (with_room s f h) refl)

-- The other events.

waits_fit : (s : Session) (connection : ℕ) (body : List Field) → Fit s
    → TurnFits (waits_away s connection body)
waits_fit s connection body f = record {
  session = record { day = given_fits s.day f.fits.day f.next; phase = f.fits.phase };
  first = has_room s.day.next f.next;
  second = tt;
}

given_by_fit : (s : Session) (now : ℕ) (body : List Field) (p : Phase) → Fit s → s.phase ≡ p
    → TurnFits (given_by s now body p)
given_by_fit s now body phase.Away f is = waits_fit s 0 body f
given_by_fit s now body (phase.On line) f is = given_on_fit (live s line) now body (on_line s line f is)
given_by_fit s now body (phase.Leaving connection since) f is = waits_fit s connection body f

given_fit : (s : Session) (now : ℕ) (body : List Field) → SessionFits s → TurnFits (given s now body)
unfolding given
given_fit s now body f =
    choice TurnFits (is_spent s) _ _ (λ h. quiet_fit _ f refl refl)
    (λ h. given_by_fit s now body s.phase (with_room s f h) refl)

hands_by_fit : (s : Session) (now next_kept : ℕ) (stored : Option Stored) (p : Phase) → Fit s
    → s.phase ≡ p → TurnFits (hands_by s now next_kept stored p)
hands_by_fit s now next_kept stored phase.Away f is = quiet_fit _ f.fits refl refl
hands_by_fit s now next_kept stored (phase.On line) f is =
    hands_on_fit (live s line) now next_kept stored (on_line s line f is)
hands_by_fit s now next_kept stored (phase.Leaving connection since) f is = quiet_fit _ f.fits refl refl

hands_fit : (s : Session) (now next_kept : ℕ) (stored : Option Stored) → SessionFits s
    → TurnFits (hands s now next_kept stored)
unfolding hands
hands_fit s now next_kept stored f =
    choice TurnFits (is_spent s) _ _ (λ h. quiet_fit _ (free_fits s f) refl refl)
    (λ h. hands_by_fit s now next_kept stored s.phase (with_room s f h) refl)

tick_by_fit : (s : Session) (now : ℕ) (p : Phase) → Fit s → s.phase ≡ p → TurnFits (tick_by s now p)
tick_by_fit s now phase.Away f is = quiet_fit _ f.fits refl refl
tick_by_fit s now (phase.On line) f is = tick_on_fit (live s line) now (on_line s line f is)
tick_by_fit s now (phase.Leaving connection since) f is =
    choice TurnFits (nat_le LOGOUT_WAIT (now - since)) _ _
    (λ h. quiet_fit _ (free_fits s f.fits) refl refl) (λ h. quiet_fit _ f.fits refl refl)

decided_fit : (s : Session) (waiting : Waiting) → Fit s → TurnFits (decided s waiting)
decided_fit s waiting f =
    choice TurnFits waiting.is_alive _ _
    (λ h. quiet_fit _ (record { day = f.fits.day; phase = f.fits.phase }) refl refl)
    (λ h. quiet_fit _ (free_fits s f.fits) refl refl)

waiting_fit : (s : Session) (now : ℕ) (waiting : Option Waiting) → Fit s
    → TurnFits (tick_waiting s now waiting)
waiting_fit s now None f = tick_by_fit s now s.phase f refl
waiting_fit s now (Some waiting) f =
    choice TurnFits (is_decided s.phase waiting now) _ _ (λ h. decided_fit s waiting f)
    (λ h. tick_by_fit s now s.phase f refl)

tick_fit : (s : Session) (now : ℕ) → SessionFits s → TurnFits (tick s now)
unfolding tick
tick_fit s now f =
    choice TurnFits (is_spent s) _ _ (λ h. quiet_fit _ (free_fits s f) refl refl)
    (λ h. waiting_fit s now s.waiting (with_room s f h))

logged_out_by_fit : (s : Session) (now : ℕ) (w : Word) (p : Phase) → Fit s → s.phase ≡ p
    → TurnFits (logged_out_by s now w p)
logged_out_by_fit s now w phase.Away f is = quiet_fit _ f.fits refl refl
logged_out_by_fit s now w (phase.On line) f is = parts_fit (live s line) now w (on_line s line f is)
logged_out_by_fit s now w (phase.Leaving connection since) f is = quiet_fit _ f.fits refl refl

logged_out_fit : (s : Session) (now : ℕ) (w : Word) → SessionFits s
    → TurnFits (logged_out s now w s.phase)
logged_out_fit s now w f =
    choice TurnFits (is_spent s) _ _ (λ h. quiet_fit _ (free_fits s f) refl refl)
    (λ h. logged_out_by_fit s now w s.phase (with_room s f h) refl)

log_out_fit : (s : Session) (now : ℕ) (reason : List ℕ) → SessionFits s → TurnFits (log_out s now reason)
unfolding log_out
log_out_fit s now reason f = logged_out_fit s now (word.LogoutFor reason) f

-- An operator.

copies_fit : (copies : ℕ) → at_most LAST_NUMBER copies ≤ 999999990
copies_fit copies =
    choice (λ (n : ℕ). n ≤ 999999990) (nat_lt LAST_NUMBER copies) LAST_NUMBER copies
    (λ h. last_is) (λ h. room_of copies h)
  where
    last_is : LAST_NUMBER ≤ 999999990
    last_is = omega arith

two_is : 2 ≤ 999999999
two_is = omega arith

reset_fits : (d : Day) (clock : Clock) (copies : ℕ) → DayFits (reset_day d clock copies)
reset_fits d clock copies =
    let some = at_most LAST_NUMBER copies in
    let few = copies_fit copies in
    record {
      expected = one_is;
      next = next_is some few;
      had = zero_is;
      first_given = choice IsNumber (some == 0) 0 2 (λ h. zero_is) (λ h. two_is);
      last_given = last_is some few;
      last_kept = last_is some few;
    }
  where
    next_is : (n : ℕ) → n ≤ 999999990 → n + 2 ≤ 999999999
    next_is n h = omega (arith, h)

    last_is : (n : ℕ) → n ≤ 999999990 → IsNumber (last_copy n)
    last_is n h = choice IsNumber (n == 0) 0 (n + 1) (λ k. zero_is) (λ k. one_more n h)

marked_fits : (d e : Day) → DayFits d → e.expected ≡ d.expected → e.next ≡ d.next → e.had ≡ d.had
    → e.first_given ≡ d.first_given → e.last_given ≡ d.last_given → e.last_kept ≡ d.last_kept → DayFits e
marked_fits d e f expected next had first last kept = record {
  expected = subst IsNumber (sym expected) f.expected;
  next = subst IsNumber (sym next) f.next;
  had = subst IsNumber (sym had) f.had;
  first_given = subst IsNumber (sym first) f.first_given;
  last_given = subst IsNumber (sym last) f.last_given;
  last_kept = subst IsNumber (sym kept) f.last_kept;
}

ordered_day_fits : (d : Day) (clock : Clock) (o : Order) → DayFits d → DayFits (ordered_day d clock o)
ordered_day_fits d clock order.Open f = marked_fits d _ f refl refl refl refl refl refl
ordered_day_fits d clock order.Close f = marked_fits d _ f refl refl refl refl refl refl
ordered_day_fits d clock order.Suspend f = marked_fits d _ f refl refl refl refl refl refl
ordered_day_fits d clock order.Resume f = marked_fits d _ f refl refl refl refl refl refl
ordered_day_fits d clock order.Release f = marked_fits d _ f refl refl refl refl refl refl
ordered_day_fits d clock (order.Reset copies) f = reset_fits d clock copies

resets_fit : (s : Session) → SessionFits s → TurnFits (resets s)
resets_fit s f =
    choice TurnFits (is_free s.phase) _ _ (λ h. quiet_fit _ f refl refl)
    (λ h. quiet_fit _ (free_fits s f) refl refl)

ordered_fit : (s : Session) (clock : Clock) (o : Order) → SessionFits s → TurnFits (ordered s clock o)
unfolding ordered
ordered_fit s clock order.Open f =
    quiet_fit _ (record { day = ordered_day_fits s.day clock order.Open f.day; phase = f.phase }) refl refl
ordered_fit s clock order.Resume f =
    quiet_fit _ (record { day = ordered_day_fits s.day clock order.Resume f.day; phase = f.phase }) refl refl
ordered_fit s clock order.Release f =
    quiet_fit _ (record { day = ordered_day_fits s.day clock order.Release f.day; phase = f.phase }) refl refl
ordered_fit s clock order.Close f =
    logged_out_fit (record s { day = ordered_day s.day clock order.Close }) clock.moment (word.Logout why.Closed)
    (record { day = ordered_day_fits s.day clock order.Close f.day; phase = f.phase })
ordered_fit s clock order.Suspend f =
    logged_out_fit (record s { day = ordered_day s.day clock order.Suspend }) clock.moment (word.Logout why.Suspended)
    (record { day = ordered_day_fits s.day clock order.Suspend f.day; phase = f.phase })
ordered_fit s clock (order.Reset copies) f =
    resets_fit (record s { day = ordered_day s.day clock (order.Reset copies) })
    (record { day = ordered_day_fits s.day clock (order.Reset copies) f.day; phase = f.phase })

-- Every event, and every list of them.

pub event_fit : (names : Names) (s : Session) (e : Event) → SessionFits s → TurnFits (turn names s e)
event_fit names s (Came connection clock bytes is_known denial) f =
    came_fit names s connection clock bytes is_known denial f
event_fit names s (Gone connection) f = quiet_fit (gone s connection) (freed_fits s connection f) refl refl
event_fit names s (Given moment body) f = given_fit s moment body f
event_fit names s (Handed moment next_kept stored) f = hands_fit s moment next_kept stored f
event_fit names s (Tick moment) f = tick_fit s moment f
event_fit names s (Ordered clock o) f = ordered_fit s clock o f
event_fit names s (LoggedOut moment reason) f = log_out_fit s moment reason f

pub days_fit : (names : Names) (s : Session) (events : List Event) → SessionFits s
    → SessionFits (after names s events)
days_fit names s [] f = f
days_fit names s (e ∷ es) f = days_fit names (turn names s e).session es (event_fit names s e f).session

pub days_turn_fit : (names : Names) (s : Session) (events : List Event) (e : Event) → SessionFits s
    → TurnFits (turn names (after names s events) e)
days_turn_fit names s events e f = event_fit names (after names s events) e (days_fit names s events f)

-- a session that begins
pub new_fits : SessionFits new_session
new_fits = record {
  day = record {
    expected = one_is;
    next = two_is;
    had = zero_is;
    first_given = zero_is;
    last_given = zero_is;
    last_kept = zero_is;
  };
  phase = tt;
}

-- A turn sends at most two messages.

one_sent : (said : Option Said) → length (sent_of said) ≤ 1
one_sent None = omega arith
one_sent (Some said) =
    choice (λ (x : List Said). length x ≤ 1) (is_leaving said.way) (said ∷ []) [] (λ h. omega arith) (λ h. omega arith)

two_lists : (xs ys : List Said) → length xs ≤ 1 → length ys ≤ 1 → length (xs ++ ys) ≤ 2
two_lists [] ys a b = omega (arith, b)
two_lists (x ∷ []) ys a b = omega (arith, b)
two_lists (x ∷ (y ∷ zs)) ys a b = absurd (too_many a)
  where
    too_many : suc (suc (length zs)) ≤ 1 → ⊥
    too_many h = omega (arith, h)

pub two_sent : (t : Turn) → length (sent_by t) ≤ 2
two_sent t = two_lists (sent_of t.first) (sent_of t.second) (one_sent t.first) (one_sent t.second)
