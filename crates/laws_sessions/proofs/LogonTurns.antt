-- Nothing without a Logon: of each event whose the session is then, and on whose connection something
-- leaves.
use Rattle.std.proofs.Common.{◌≡◌, ℕ, ◌-◌, ◌≤◌, Bool, true, false, ◌==◌, ◌&&◌, ◌||◌, not, nat_lt, nat_le, List, ◌⊎◌, inl, inr, Option, Some, None, refl, sym, ap, subst, ◌∙◌, arith}
use Rattle.std.proofs.Common.{eq-eqb}
use Rattle.std.proofs.lemmas.Bool.{and_parts, false≢true}
use Rattle.std.proofs.lemmas.Bool.Decides.{nat_tests}
use Rattle.fix_fields.specs.Frame.{Field}
use Rattle.fix_sessions.specs.Heard.{as_taken, heard_of, logon_of, is_logout}
use Rattle.fix_sessions.specs.Outcomes.{parts, live, is_free, is_spent, are_bounded}
use Rattle.fix_sessions.specs.Logons.{came_first}
use Rattle.fix_sessions.specs.Sending.{hands_on, hands_by, hands, given_on}
use Rattle.laws_sessions.specs.Days.{Event, turn}
use Rattle.laws_sessions.specs.Days.{Came, Gone, Given, Handed, Tick, Ordered, LoggedOut}
use Rattle.laws_sessions.specs.Logons.{sends, IsLogon}
use Rattle.laws_sessions.specs.Sent.{is_own_word}
use Rattle.laws_sessions.proofs.Choices.{choice}
use Rattle.fix_sessions.specs.Steps.{came_as, came_leaving_as, came_leaving, came_by, came, freed_of, has, gone, given_by, given, tick_on, tick_by, decided, is_decided, tick_waiting, tick, logged_out, logged_out_by, log_out, ordered, ordered_day, resets}
use Rattle.fix_sessions.specs.declared.state.TheConstants.{LAST_NUMBER, LOGOUT_WAIT}
use Rattle.fix_sessions.specs.declared.state.Clock.{Clock}
use Rattle.fix_sessions.specs.declared.state.Line.{Line}
use Rattle.fix_sessions.specs.declared.state.Phase.{Phase}
use Rattle.fix_sessions.specs.declared.state.Phase.TheVariants as phase
use Rattle.fix_sessions.specs.declared.state.Session.{Session}
use Rattle.fix_sessions.specs.declared.state.Waiting.{Waiting}
use Rattle.fix_sessions.specs.declared.messages.Heard.{Heard}
use Rattle.fix_sessions.specs.declared.messages.Heard.TheVariants as heard
use Rattle.fix_sessions.specs.declared.orders.Order.{Order}
use Rattle.fix_sessions.specs.declared.orders.Order.TheVariants as order
use Rattle.fix_sessions.specs.declared.texts.Names.{Names}
use Rattle.fix_sessions.specs.declared.turns.Denial.{Denial}
use Rattle.fix_sessions.specs.declared.turns.Stored.{Stored}
use Rattle.fix_sessions.specs.declared.turns.Turn.{Turn}
use Rattle.fix_sessions.specs.declared.turns.Why.TheVariants as why
use Rattle.fix_sessions.specs.declared.turns.Word.{Word}
use Rattle.fix_sessions.specs.declared.turns.Word.TheVariants as word
use Rattle.laws_sessions.proofs.TurnOutcomes.{Does, IsOf, parts_does}
use Rattle.laws_sessions.proofs.TurnRows.{came_as_does}
use Rattle.laws_sessions.proofs.TurnLogons.{first_by_first, first_cases}
use Rattle.laws_sessions.proofs.TurnSent.{given_on_does, hands_on_does, tick_on_does}

-- What leaves in a turn leaves on the connection that had the session, or the event is a Logon; and
-- who has the session then had it, or the event is its Logon.
pub record Mine (names : Names) (p : Phase) (e : Event) (t : Turn) : Type 0 where
  pub sent : sends t ≡ true → (has p t.connection ≡ true) ⊎ IsLogon names t.connection e
  pub whose : (k : ℕ) → has t.session.phase k ≡ true → (has p k ≡ true) ⊎ IsLogon names k e

number_is : (a b : ℕ) → (a == b) ≡ true → a ≡ b
number_is a b h = grind (arith, nat_tests)

-- Of the connection that has the session.

of_has : (connection k : ℕ) (p : Phase) → IsOf connection p → has p k ≡ true → connection ≡ k
of_has connection k phase.Away of h = absurd (false≢true h)
of_has connection k (phase.On line) of h = sym of ∙ number_is line.connection k h
of_has connection k (phase.Leaving last since) of h = sym of ∙ number_is last k h

live_mine : (names : Names) (line : Line) (e : Event) (t : Turn) (is_own : Bool) (next fresh : ℕ)
    → Does is_own line.connection next fresh t → Mine names (phase.On line) e t
live_mine names line e t is_own next fresh does = record {
  sent = λ h. inl (eq-eqb line.connection t.connection (sym does.on));
  whose = λ k h. inl (eq-eqb line.connection k
      (of_has line.connection k t.session.phase does.whose h));
}

-- nothing leaves, and the session stays whose it was, or is no one's
silent_mine : (names : Names) (p : Phase) (e : Event) (t : Turn) → sends t ≡ false
    → ((k : ℕ) → has t.session.phase k ≡ true → has p k ≡ true) → Mine names p e t
silent_mine names p e t silent whose = record {
  sent = λ h. absurd (false≢true (sym silent ∙ h));
  whose = λ k h. inl (whose k h);
}

no_one : (p : Phase) (k : ℕ) → false ≡ true → has p k ≡ true
no_one p k h = absurd (false≢true h)

-- The first message of a connection.

first_mine : (names : Names) (s : Session) (connection : ℕ) (clock : Clock) (bytes : List ℕ)
    (is_known : Bool) (denial : Option Denial)
    → Mine names s.phase (Came connection clock bytes is_known denial)
    (came_first names s connection clock bytes is_known denial)
first_mine names s connection clock bytes is_known denial =
    let t = came_first names s connection clock bytes is_known denial in
    let first = first_by_first s connection clock is_known denial (logon_of names bytes) in
    elim (first_cases s connection clock is_known denial (logon_of names bytes)) [
      | inl nothing ↦
          silent_mine names s.phase (Came connection clock bytes is_known denial) t nothing.silent
          (λ k h. subst (λ (x : Session). has x.phase k ≡ true) nothing.is h)
      | inr known ↦
          record {
            sent = λ h. inr (record {
              clock = clock;
              bytes = bytes;
              denial = denial;
              came = ap (λ c. Came c clock bytes is_known denial) (sym first.on)
                  ∙ ap (λ b. Came t.connection clock bytes b denial) known.0;
              logon = known.1;
            });
            whose = λ k h. (elim (first.whose k h) [
              | inl had ↦ inl had
              | inr is ↦ inr (record {
                clock = clock;
                bytes = bytes;
                denial = denial;
                came = ap (λ c. Came c clock bytes is_known denial) is
                    ∙ ap (λ b. Came k clock bytes b denial) known.0;
                logon = known.1;
              })
            ]);
          }
    ]

-- Bytes came.

leaving_mine : (names : Names) (s : Session) (connection : ℕ) (e : Event) (bytes : List ℕ)
    → Mine names s.phase e (came_leaving names s connection bytes)
leaving_mine names s connection e bytes =
    choice (Mine names s.phase e) (is_logout bytes) _ _
    (λ h. leaving_as (heard_of names bytes))
    (λ h. silent_mine names s.phase e _ refl (λ k h. h))
  where
    leaving_as : (said : Heard) → Mine names s.phase e (came_leaving_as s connection said)
    leaving_as (heard.Message m) = silent_mine names s.phase e _ refl (no_one s.phase)
    leaving_as heard.Garbled = silent_mine names s.phase e _ refl (λ k h. h)
    leaving_as (heard.TooLong number) = silent_mine names s.phase e _ refl (λ k h. h)

came_by_mine : (names : Names) (s : Session) (connection : ℕ) (clock : Clock) (bytes : List ℕ)
    (is_known : Bool) (denial : Option Denial) (p : Phase) → s.phase ≡ p
    → Mine names s.phase (Came connection clock bytes is_known denial)
    (came_by names s connection clock bytes is_known denial p)
came_by_mine names s connection clock bytes is_known denial phase.Away is =
    first_mine names s connection clock bytes is_known denial
came_by_mine names s connection clock bytes is_known denial (phase.On line) is =
    let e = Came connection clock bytes is_known denial in
    choice (Mine names s.phase e) (line.connection == connection) _ _
    (λ h. subst (λ q. Mine names q e (came_as (live s line) clock (as_taken denial (heard_of names bytes)))) (sym is)
    (live_mine names line e _ true s.day.next line.fresh
    (came_as_does (live s line) clock (as_taken denial (heard_of names bytes)))))
    (λ h. first_mine names s connection clock bytes is_known denial)
came_by_mine names s connection clock bytes is_known denial (phase.Leaving last since) is =
    choice (Mine names s.phase (Came connection clock bytes is_known denial)) (last == connection) _ _
    (λ h. leaving_mine names s connection (Came connection clock bytes is_known denial) bytes)
    (λ h. first_mine names s connection clock bytes is_known denial)

freed_has : (s : Session) (connection k : ℕ) → has (freed_of s connection).phase k ≡ true
    → has s.phase k ≡ true
freed_has s connection k =
    choice (λ (t : Session). has t.phase k ≡ true → has s.phase k ≡ true) (has s.phase connection) _ _
    (λ h g. no_one s.phase k g) (λ h g. g)

came_mine : (names : Names) (s : Session) (connection : ℕ) (clock : Clock) (bytes : List ℕ)
    (is_known : Bool) (denial : Option Denial)
    → Mine names s.phase (Came connection clock bytes is_known denial)
    (came names s connection clock bytes is_known denial)
unfolding came
came_mine names s connection clock bytes is_known denial =
    choice (Mine names s.phase (Came connection clock bytes is_known denial)) (is_spent s) _ _
    (λ h. silent_mine names s.phase _ _ refl (freed_has s connection))
    (λ h. came_by_mine names s connection clock bytes is_known denial s.phase refl)

-- The other events.

given_by_mine : (names : Names) (s : Session) (e : Event) (now : ℕ) (body : List Field) (p : Phase)
    → s.phase ≡ p → Mine names s.phase e (given_by s now body p)
given_by_mine names s e now body phase.Away is = silent_mine names s.phase e _ refl (λ k h. h)
given_by_mine names s e now body (phase.On line) is =
    subst (λ q. Mine names q e (given_on (live s line) now body)) (sym is)
    (live_mine names line e _ false s.day.next line.fresh (given_on_does (live s line) now body))
given_by_mine names s e now body (phase.Leaving connection since) is =
    silent_mine names s.phase e _ refl (λ k h. h)

given_mine : (names : Names) (s : Session) (e : Event) (now : ℕ) (body : List Field)
    → Mine names s.phase e (given s now body)
unfolding given
given_mine names s e now body =
    choice (Mine names s.phase e) (is_spent s) _ _ (λ h. silent_mine names s.phase e _ refl (λ k h. h))
    (λ h. given_by_mine names s e now body s.phase refl)

-- numbers that are not used up have their bounds
pub bounded_by : (s : Session) (line : Line) → is_spent s ≡ false → s.phase ≡ phase.On line
    → (line.fresh ≤ s.day.next) × (line.again_end ≤ s.day.next)
bounded_by s line h is =
    let bounded = not_or (nat_lt LAST_NUMBER s.day.next) (nat_lt LAST_NUMBER s.day.expected)
    (are_bounded s.day s.phase) h in
    let parts = and_parts (nat_le line.fresh s.day.next && nat_le line.again_end s.day.next)
    (nat_le line.overtook s.day.next) (ap (are_bounded s.day) (sym is) ∙ bounded) in
    let two = and_parts (nat_le line.fresh s.day.next) (nat_le line.again_end s.day.next) parts.0 in
    (up_to line.fresh s.day.next two.0, up_to line.again_end s.day.next two.1)
  where
    not_or : (a b c : Bool) → ((a || b) || not c) ≡ false → c ≡ true
    not_or true b c h = absurd (false≢true (sym h))
    not_or false true c h = absurd (false≢true (sym h))
    not_or false false true h = refl
    not_or false false false h = absurd (false≢true (sym h))

    up_to : (m n : ℕ) → nat_le m n ≡ true → m ≤ n
    up_to m n h = grind (arith, nat_tests)

hands_by_mine : (names : Names) (s : Session) (e : Event) (now next_kept : ℕ) (stored : Option Stored)
    (p : Phase) → s.phase ≡ p → is_spent s ≡ false
    → Mine names s.phase e (hands_by s now next_kept stored p)
hands_by_mine names s e now next_kept stored phase.Away is spent =
    silent_mine names s.phase e _ refl (λ k h. h)
hands_by_mine names s e now next_kept stored (phase.On line) is spent =
    subst (λ q. Mine names q e (hands_on (live s line) now next_kept stored)) (sym is)
    (live_mine names line e _ false s.day.next line.fresh
    (hands_on_does (live s line) now next_kept stored (bounded_by s line spent is).1))
hands_by_mine names s e now next_kept stored (phase.Leaving connection since) is spent =
    silent_mine names s.phase e _ refl (λ k h. h)

hands_mine : (names : Names) (s : Session) (e : Event) (now next_kept : ℕ) (stored : Option Stored)
    → Mine names s.phase e (hands s now next_kept stored)
unfolding hands
hands_mine names s e now next_kept stored =
    choice (Mine names s.phase e) (is_spent s) _ _
    (λ h. silent_mine names s.phase e _ refl (no_one s.phase))
    (λ h. hands_by_mine names s e now next_kept stored s.phase refl h)

tick_by_mine : (names : Names) (s : Session) (e : Event) (now : ℕ) (p : Phase) → s.phase ≡ p
    → Mine names s.phase e (tick_by s now p)
tick_by_mine names s e now phase.Away is = silent_mine names s.phase e _ refl (λ k h. h)
tick_by_mine names s e now (phase.On line) is =
    subst (λ q. Mine names q e (tick_on (live s line) now)) (sym is)
    (live_mine names line e _ true s.day.next line.fresh (tick_on_does (live s line) now))
tick_by_mine names s e now (phase.Leaving connection since) is =
    choice (Mine names s.phase e) (nat_le LOGOUT_WAIT (now - since)) _ _
    (λ h. silent_mine names s.phase e _ refl (no_one s.phase))
    (λ h. silent_mine names s.phase e _ refl (λ k h. h))

decided_mine : (names : Names) (s : Session) (e : Event) (waiting : Waiting)
    → Mine names s.phase e (decided s waiting)
decided_mine names s e waiting =
    choice (Mine names s.phase e) waiting.is_alive _ _
    (λ h. silent_mine names s.phase e _ refl (λ k h. h))
    (λ h. silent_mine names s.phase e _ refl (no_one s.phase))

waiting_mine : (names : Names) (s : Session) (e : Event) (now : ℕ) (waiting : Option Waiting)
    → Mine names s.phase e (tick_waiting s now waiting)
waiting_mine names s e now None = tick_by_mine names s e now s.phase refl
waiting_mine names s e now (Some waiting) =
    choice (Mine names s.phase e) (is_decided s.phase waiting now) _ _
    (λ h. decided_mine names s e waiting) (λ h. tick_by_mine names s e now s.phase refl)

tick_mine : (names : Names) (s : Session) (e : Event) (now : ℕ) → Mine names s.phase e (tick s now)
unfolding tick
tick_mine names s e now =
    choice (Mine names s.phase e) (is_spent s) _ _
    (λ h. silent_mine names s.phase e _ refl (no_one s.phase))
    (λ h. waiting_mine names s e now s.waiting)

logged_out_by_mine : (names : Names) (s : Session) (e : Event) (now : ℕ) (w : Word) (p : Phase)
    → s.phase ≡ p → is_own_word w ≡ true → Mine names s.phase e (logged_out_by s now w p)
logged_out_by_mine names s e now w phase.Away is own = silent_mine names s.phase e _ refl (λ k h. h)
logged_out_by_mine names s e now w (phase.On line) is own =
    subst (λ q. Mine names q e (parts (live s line) now w)) (sym is)
    (live_mine names line e _ true s.day.next line.fresh (parts_does (live s line) now w own))
logged_out_by_mine names s e now w (phase.Leaving connection since) is own =
    silent_mine names s.phase e _ refl (λ k h. h)

logged_out_mine : (names : Names) (s : Session) (e : Event) (now : ℕ) (w : Word)
    → is_own_word w ≡ true → Mine names s.phase e (logged_out s now w s.phase)
logged_out_mine names s e now w own =
    choice (Mine names s.phase e) (is_spent s) _ _
    (λ h. silent_mine names s.phase e _ refl (no_one s.phase))
    (λ h. logged_out_by_mine names s e now w s.phase refl own)

log_out_mine : (names : Names) (s : Session) (e : Event) (now : ℕ) (reason : List ℕ)
    → Mine names s.phase e (log_out s now reason)
unfolding log_out
log_out_mine names s e now reason = logged_out_mine names s e now (word.LogoutFor reason) refl

resets_mine : (names : Names) (s : Session) (e : Event) → Mine names s.phase e (resets s)
resets_mine names s e =
    choice (Mine names s.phase e) (is_free s.phase) _ _
    (λ h. silent_mine names s.phase e _ refl (λ k h. h))
    (λ h. silent_mine names s.phase e _ refl (no_one s.phase))

ordered_mine : (names : Names) (s : Session) (e : Event) (clock : Clock) (o : Order)
    → Mine names s.phase e (ordered s clock o)
unfolding ordered
ordered_mine names s e clock order.Open = silent_mine names s.phase e _ refl (λ k h. h)
ordered_mine names s e clock order.Resume = silent_mine names s.phase e _ refl (λ k h. h)
ordered_mine names s e clock order.Release = silent_mine names s.phase e _ refl (λ k h. h)
ordered_mine names s e clock order.Close =
    logged_out_mine names (record s { day = record s.day { is_open = false } }) e clock.moment (word.Logout why.Closed) refl
ordered_mine names s e clock order.Suspend =
    logged_out_mine names (record s { day = record s.day { is_suspended = true } }) e clock.moment
    (word.Logout why.Suspended) refl
ordered_mine names s e clock (order.Reset copies) =
    resets_mine names (record s { day = ordered_day s.day clock (order.Reset copies) }) e

gone_mine : (names : Names) (s : Session) (e : Event) (connection : ℕ)
    → Mine names s.phase e (gone s connection)
gone_mine names s e connection = silent_mine names s.phase e _ refl (freed_has s connection)

pub event_mine : (names : Names) (s : Session) (e : Event) → Mine names s.phase e (turn names s e)
event_mine names s (Came connection clock bytes is_known denial) =
    came_mine names s connection clock bytes is_known denial
event_mine names s (Gone connection) = gone_mine names s (Gone connection) connection
event_mine names s (Given moment body) = given_mine names s (Given moment body) moment body
event_mine names s (Handed moment next_kept stored) =
    hands_mine names s (Handed moment next_kept stored) moment next_kept stored
event_mine names s (Tick moment) = tick_mine names s (Tick moment) moment
event_mine names s (Ordered clock o) = ordered_mine names s (Ordered clock o) clock o
event_mine names s (LoggedOut moment reason) = log_out_mine names s (LoggedOut moment reason) moment reason
