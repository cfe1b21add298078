-- Which numbers an event uses, and what it says.
use Rattle.std.proofs.Common.{◌≡◌, ℕ, ◌+◌, ◌-◌, ◌≤◌, Bool, true, false, ◌==◌, nat_le, List, [], ◌++◌, Option, Some, None, refl, sym, ap, subst, ◌∙◌, arith, if◌then◌else◌}
use Rattle.std.proofs.lemmas.Bool.{false≢true}
use Rattle.fix_fields.specs.Frame.{Field}
use Rattle.fix_sessions.specs.Heard.{as_taken, heard_of, logon_of, is_logout}
use Rattle.fix_sessions.specs.Outcomes.{parts, live, free, holder, is_spent, ended}
use Rattle.fix_sessions.specs.Logons.{without}
use Rattle.fix_sessions.specs.Sending.{hands_on, hands_by, hands, given_on}
use Rattle.laws_sessions.specs.Days.{Event, turn, is_reset, is_order_to_reset}
use Rattle.laws_sessions.specs.Days.{Came, Gone, Given, Handed, Tick, Ordered, LoggedOut}
use Rattle.laws_sessions.specs.Kept.{entered, Within}
use Rattle.laws_sessions.specs.Sent.{new_of, news, front_by, front}
use Rattle.laws_sessions.proofs.Choices.{choice}
use Rattle.fix_sessions.specs.Steps.{came_as, is_expected, last_counted, came_leaving_as, came_leaving, came_by, came, freed_of, has, waits_away, given_by, given, tick_on, tick_by, decided, is_decided, tick_waiting, tick, logged_out, logged_out_by, log_out, ordered}
use Rattle.fix_sessions.specs.declared.state.TheConstants.{LOGOUT_WAIT}
use Rattle.fix_sessions.specs.declared.state.Clock.{Clock}
use Rattle.fix_sessions.specs.declared.state.Day.{Day}
use Rattle.fix_sessions.specs.declared.state.Line.{Line}
use Rattle.fix_sessions.specs.declared.state.Phase.{Phase}
use Rattle.fix_sessions.specs.declared.state.Phase.TheVariants as phase
use Rattle.fix_sessions.specs.declared.state.Session.{Session}
use Rattle.fix_sessions.specs.declared.state.Waiting.{Waiting}
use Rattle.fix_sessions.specs.declared.messages.Heard.{Heard}
use Rattle.fix_sessions.specs.declared.messages.Heard.TheVariants as heard
use Rattle.fix_sessions.specs.declared.orders.Order.{Order}
use Rattle.fix_sessions.specs.declared.orders.Order.TheVariants as order
use Rattle.fix_sessions.specs.declared.texts.Names.{Names}
use Rattle.fix_sessions.specs.declared.turns.Denial.{Denial}
use Rattle.fix_sessions.specs.declared.turns.Notice.{Notice}
use Rattle.fix_sessions.specs.declared.turns.Notice.TheVariants as notice
use Rattle.fix_sessions.specs.declared.turns.Stored.{Stored}
use Rattle.fix_sessions.specs.declared.turns.Turn.{Turn}
use Rattle.fix_sessions.specs.declared.turns.Why.TheVariants as why
use Rattle.fix_sessions.specs.declared.turns.Word.{Word}
use Rattle.fix_sessions.specs.declared.turns.Word.TheVariants as word
use Rattle.laws_sessions.proofs.TurnOutcomes.{Does, IsOwn, OwnSaid, OwnTurn, parts_does}
use Rattle.laws_sessions.proofs.TurnRows.{came_as_does}
use Rattle.laws_sessions.proofs.TurnLogons.{First, first_by_first}
use Rattle.laws_sessions.proofs.TurnSent.{given_on_does, hands_on_does, tick_on_does}
use Rattle.laws_sessions.proofs.LogonTurns.{bounded_by}

-- What a turn keeps gets the next number; what is kept and leaves for the first time has one from the
-- first on that has not left; and both go on. It may say nothing but what is the session's own.
pub record Counts (is_own : Bool) (d : Day) (p : Phase) (t : Turn) : Type 0 where
  pub most : t.session.day.next ≤ d.next + 2
  pub kept : Within d.next t.session.day.next (entered t.first)
  pub new : front_by d.next p ≤ d.next → Within (front_by d.next p) (front t.session) (news t)
  pub sound : front_by d.next p ≤ d.next → front t.session ≤ t.session.day.next
  pub own : is_own ≡ true → OwnTurn t

live_counts : (is_own : Bool) (d : Day) (line : Line) (t : Turn)
    → Does is_own line.connection d.next line.fresh t → Counts is_own d (phase.On line) t
live_counts is_own d line t does =
    record { most = does.most; kept = does.kept; new = does.new; sound = does.sound; own = does.own }

first_counts : (s : Session) (connection : ℕ) (t : Turn) → First s connection t
    → Counts true s.day s.phase t
first_counts s connection t first =
    record { most = first.most; kept = first.kept; new = first.new; sound = first.sound; own = λ o. first.own }

-- nothing is said, and the session stays whose it is
same_counts : (is_own : Bool) (d : Day) (p : Phase) (t : Turn) → t.session.day.next ≡ d.next
    → t.session.phase ≡ p → t.first ≡ None → t.second ≡ None → Counts is_own d p t
same_counts is_own d p t next same first second = record {
  most = omega (arith, next);
  kept = subst (λ x. Within d.next t.session.day.next (entered x)) (sym first) (omega (arith, next));
  new = λ h. subst (λ x. Within (front_by d.next p) (front t.session) (new_of x ++ new_of t.second)) (sym first)
      (subst (λ x. Within (front_by d.next p) (front t.session) ([] ++ new_of x)) (sym second)
      (let there = front_is in omega (arith, there)));
  sound = λ h. (let there = front_is in omega (arith, there, next, h));
  own = λ o. (subst OwnSaid (sym first) tt, subst OwnSaid (sym second) tt);
}
  where
    front_is : front t.session ≡ front_by d.next p
    front_is = ap (λ n. front_by n t.session.phase) next ∙ ap (front_by d.next) same

-- nothing is said, and the session is no one's
free_counts : (is_own : Bool) (d : Day) (p : Phase) (s : Session) (connection : ℕ) (told : Option Notice)
    → s.day.next ≡ d.next → Counts is_own d p (record (ended (free s) connection) { notice = told })
free_counts is_own d p s connection told next = record {
  most = omega (arith, next);
  kept = omega (arith, next);
  new = λ h. omega (arith, next, h);
  sound = λ h. omega arith;
  own = λ o. (tt, tt);
}

-- Bytes came.

last_next : (s : Session) (number : Option ℕ) → (last_counted s number).day.next ≡ s.day.next
last_next s number =
    choice (λ (t : Session). t.day.next ≡ s.day.next) (is_expected s.day number) _ _ (λ h. refl) (λ h. refl)

leaving_counts : (names : Names) (s : Session) (connection : ℕ) (bytes : List ℕ)
    → Counts true s.day s.phase (came_leaving names s connection bytes)
leaving_counts names s connection bytes =
    choice (Counts true s.day s.phase) (is_logout bytes) _ _
    (λ h. leaving_as (heard_of names bytes))
    (λ h. same_counts true s.day s.phase _ refl refl refl refl)
  where
    leaving_as : (said : Heard) → Counts true s.day s.phase (came_leaving_as s connection said)
    leaving_as (heard.Message m) =
        free_counts true s.day s.phase (last_counted s m.origin.number) connection None
        (last_next s m.origin.number)
    leaving_as heard.Garbled = same_counts true s.day s.phase _ refl refl refl refl
    leaving_as (heard.TooLong number) = same_counts true s.day s.phase _ refl refl refl refl

came_by_counts : (names : Names) (s : Session) (connection : ℕ) (clock : Clock) (bytes : List ℕ)
    (is_known : Bool) (denial : Option Denial) (p : Phase) → s.phase ≡ p
    → Counts true s.day s.phase (came_by names s connection clock bytes is_known denial p)
came_by_counts names s connection clock bytes is_known denial phase.Away is =
    first_counts s connection _ (first_by_first s connection clock is_known denial (logon_of names bytes))
came_by_counts names s connection clock bytes is_known denial (phase.On line) is =
    choice (Counts true s.day s.phase) (line.connection == connection) _ _
    (λ h. subst (λ q. Counts true s.day q (came_as (live s line) clock (as_taken denial (heard_of names bytes)))) (sym is)
    (live_counts true s.day line _ (came_as_does (live s line) clock (as_taken denial (heard_of names bytes)))))
    (λ h. first_counts s connection _ (first_by_first s connection clock is_known denial (logon_of names bytes)))
came_by_counts names s connection clock bytes is_known denial (phase.Leaving last since) is =
    choice (Counts true s.day s.phase) (last == connection) _ _
    (λ h. leaving_counts names s connection bytes)
    (λ h. first_counts s connection _ (first_by_first s connection clock is_known denial (logon_of names bytes)))

freed_counts : (s : Session) (connection : ℕ) (e : Turn) → e.session ≡ freed_of s connection
    → e.first ≡ None → e.second ≡ None → Counts true s.day s.phase e
freed_counts s connection e is first second = by_has (has s.phase connection) refl
  where
    by_has : (b : Bool) → has s.phase connection ≡ b → Counts true s.day s.phase e
    by_has true h =
        (let away : e.session ≡ free s = is ∙ ap (λ b. if b then free s else record s { waiting = without connection s.waiting }) h in
        let day = ap (λ (x : Session). x.day.next) away in
        let front_is = ap front away in
        record {
          most = omega (arith, day);
          kept = subst (λ x. Within s.day.next e.session.day.next (entered x)) (sym first) (omega (arith, day));
          new = λ g. subst (λ x. Within (front s) (front e.session) (new_of x ++ new_of e.second)) (sym first)
              (subst (λ x. Within (front s) (front e.session) ([] ++ new_of x)) (sym second) (omega (arith, front_is, g)));
          sound = λ g. omega (arith, front_is, day);
          own = λ o. (subst OwnSaid (sym first) tt, subst OwnSaid (sym second) tt);
        })
    by_has false h =
        (let stays : e.session ≡ record s { waiting = without connection s.waiting } = is ∙ ap (λ b. if b then free s else record s { waiting = without connection s.waiting }) h in
        same_counts true s.day s.phase e (ap (λ (x : Session). x.day.next) stays)
        (ap (λ (x : Session). x.phase) stays) first second)

came_counts : (names : Names) (s : Session) (connection : ℕ) (clock : Clock) (bytes : List ℕ)
    (is_known : Bool) (denial : Option Denial) → Counts true s.day s.phase (came names s connection clock bytes is_known denial)
unfolding came
came_counts names s connection clock bytes is_known denial =
    choice (Counts true s.day s.phase) (is_spent s) _ _
    (λ h. freed_counts s connection _ refl refl refl)
    (λ h. came_by_counts names s connection clock bytes is_known denial s.phase refl)

-- The other events.

waits_counts : (d : Day) (p : Phase) (s : Session) (connection : ℕ) (body : List Field) → s.day ≡ d
    → s.phase ≡ p → Counts false d p (waits_away s connection body)
waits_counts d p s connection body day same = record {
  most = omega (arith, next);
  kept = (omega (arith, next), omega arith);
  new = λ h. (let up = goes_up in omega (arith, up));
  sound = λ h. subst (λ q. front_by (s.day.next + 1) q ≤ s.day.next + 1) (sym same) (below p h);
  own = λ o. absurd (false≢true o);
}
  where
    next : s.day.next ≡ d.next
    next = ap (λ (x : Day). x.next) day

    up : (q : Phase) → front_by d.next q ≤ front_by (s.day.next + 1) q
    up phase.Away = omega (arith, next)
    up (phase.On line) = omega arith
    up (phase.Leaving connection since) = omega (arith, next)

    goes_up : front_by d.next p ≤ front_by (s.day.next + 1) s.phase
    goes_up = subst (λ q. front_by d.next p ≤ front_by (s.day.next + 1) q) (sym same) (up p)

    below : (q : Phase) → front_by d.next q ≤ d.next → front_by (s.day.next + 1) q ≤ s.day.next + 1
    below phase.Away h = omega arith
    below (phase.On line) h = omega (arith, next, h)
    below (phase.Leaving connection since) h = omega arith

given_by_counts : (s : Session) (now : ℕ) (body : List Field) (p : Phase) → s.phase ≡ p
    → Counts false s.day s.phase (given_by s now body p)
given_by_counts s now body phase.Away is = waits_counts s.day s.phase s 0 body refl refl
given_by_counts s now body (phase.On line) is =
    subst (λ q. Counts false s.day q (given_on (live s line) now body)) (sym is)
    (live_counts false s.day line _ (given_on_does (live s line) now body))
given_by_counts s now body (phase.Leaving connection since) is =
    waits_counts s.day s.phase s connection body refl refl

given_counts : (s : Session) (now : ℕ) (body : List Field) → Counts false s.day s.phase (given s now body)
unfolding given
given_counts s now body =
    choice (Counts false s.day s.phase) (is_spent s) _ _
    (λ h. same_counts false s.day s.phase _ refl refl refl refl)
    (λ h. given_by_counts s now body s.phase refl)

hands_by_counts : (s : Session) (now next_kept : ℕ) (stored : Option Stored) (p : Phase) → s.phase ≡ p
    → is_spent s ≡ false → Counts false s.day s.phase (hands_by s now next_kept stored p)
hands_by_counts s now next_kept stored phase.Away is spent =
    same_counts false s.day s.phase _ refl refl refl refl
hands_by_counts s now next_kept stored (phase.On line) is spent =
    subst (λ q. Counts false s.day q (hands_on (live s line) now next_kept stored)) (sym is)
    (live_counts false s.day line _
    (hands_on_does (live s line) now next_kept stored (bounded_by s line spent is).1))
hands_by_counts s now next_kept stored (phase.Leaving connection since) is spent =
    same_counts false s.day s.phase _ refl refl refl refl

hands_counts : (s : Session) (now next_kept : ℕ) (stored : Option Stored)
    → Counts false s.day s.phase (hands s now next_kept stored)
unfolding hands
hands_counts s now next_kept stored =
    choice (Counts false s.day s.phase) (is_spent s) _ _
    (λ h. free_counts false s.day s.phase s (holder s.phase) None refl)
    (λ h. hands_by_counts s now next_kept stored s.phase refl h)

tick_by_counts : (s : Session) (now : ℕ) (p : Phase) → s.phase ≡ p
    → Counts true s.day s.phase (tick_by s now p)
tick_by_counts s now phase.Away is = same_counts true s.day s.phase _ refl refl refl refl
tick_by_counts s now (phase.On line) is =
    subst (λ q. Counts true s.day q (tick_on (live s line) now)) (sym is)
    (live_counts true s.day line _ (tick_on_does (live s line) now))
tick_by_counts s now (phase.Leaving connection since) is =
    choice (Counts true s.day s.phase) (nat_le LOGOUT_WAIT (now - since)) _ _
    (λ h. free_counts true s.day s.phase s connection None refl)
    (λ h. same_counts true s.day s.phase _ refl refl refl refl)

decided_counts : (s : Session) (waiting : Waiting) → Counts true s.day s.phase (decided s waiting)
decided_counts s waiting =
    choice (Counts true s.day s.phase) waiting.is_alive _ _
    (λ h. same_counts true s.day s.phase _ refl refl refl refl)
    (λ h. free_counts true s.day s.phase s (holder s.phase) (Some notice.Dead) refl)

waiting_counts : (s : Session) (now : ℕ) (waiting : Option Waiting)
    → Counts true s.day s.phase (tick_waiting s now waiting)
waiting_counts s now None = tick_by_counts s now s.phase refl
waiting_counts s now (Some waiting) =
    choice (Counts true s.day s.phase) (is_decided s.phase waiting now) _ _
    (λ h. decided_counts s waiting) (λ h. tick_by_counts s now s.phase refl)

tick_counts : (s : Session) (now : ℕ) → Counts true s.day s.phase (tick s now)
unfolding tick
tick_counts s now =
    choice (Counts true s.day s.phase) (is_spent s) _ _
    (λ h. free_counts true s.day s.phase s (holder s.phase) None refl)
    (λ h. waiting_counts s now s.waiting)

logged_out_by_counts : (s : Session) (now : ℕ) (w : Word) (p : Phase) → s.phase ≡ p → IsOwn w
    → Counts true s.day s.phase (logged_out_by s now w p)
logged_out_by_counts s now w phase.Away is own = same_counts true s.day s.phase _ refl refl refl refl
logged_out_by_counts s now w (phase.On line) is own =
    subst (λ q. Counts true s.day q (parts (live s line) now w)) (sym is)
    (live_counts true s.day line _ (parts_does (live s line) now w own))
logged_out_by_counts s now w (phase.Leaving connection since) is own =
    same_counts true s.day s.phase _ refl refl refl refl

logged_out_counts : (s : Session) (now : ℕ) (w : Word) → IsOwn w
    → Counts true s.day s.phase (logged_out s now w s.phase)
logged_out_counts s now w own =
    choice (Counts true s.day s.phase) (is_spent s) _ _
    (λ h. free_counts true s.day s.phase s (holder s.phase) None refl)
    (λ h. logged_out_by_counts s now w s.phase refl own)

log_out_counts : (s : Session) (now : ℕ) (reason : List ℕ)
    → Counts true s.day s.phase (log_out s now reason)
unfolding log_out
log_out_counts s now reason = logged_out_counts s now (word.LogoutFor reason) refl

ordered_counts : (s : Session) (clock : Clock) (o : Order) → is_order_to_reset o ≡ false
    → Counts true s.day s.phase (ordered s clock o)
unfolding ordered
ordered_counts s clock order.Open unless = same_counts true s.day s.phase _ refl refl refl refl
ordered_counts s clock order.Resume unless = same_counts true s.day s.phase _ refl refl refl refl
ordered_counts s clock order.Release unless = same_counts true s.day s.phase _ refl refl refl refl
ordered_counts s clock order.Close unless =
    let r = logged_out_counts (record s { day = record s.day { is_open = false } }) clock.moment (word.Logout why.Closed) refl in
    record { most = r.most; kept = r.kept; new = r.new; sound = r.sound; own = r.own }
ordered_counts s clock order.Suspend unless =
    let r = logged_out_counts (record s { day = record s.day { is_suspended = true } }) clock.moment (word.Logout why.Suspended) refl in
    record { most = r.most; kept = r.kept; new = r.new; sound = r.sound; own = r.own }
ordered_counts s clock (order.Reset copies) unless = absurd (false≢true (sym unless))

-- whether an event says nothing but what is the session's own
abbrev pub is_own_event : Event → Bool
is_own_event (Given moment body) = false
is_own_event (Handed moment next_kept stored) = false
is_own_event other = true

pub event_counts : (names : Names) (s : Session) (e : Event) → is_reset e ≡ false
    → Counts (is_own_event e) s.day s.phase (turn names s e)
event_counts names s (Came connection clock bytes is_known denial) unless =
    came_counts names s connection clock bytes is_known denial
event_counts names s (Gone connection) unless = freed_counts s connection _ refl refl refl
event_counts names s (Given moment body) unless = given_counts s moment body
event_counts names s (Handed moment next_kept stored) unless = hands_counts s moment next_kept stored
event_counts names s (Tick moment) unless = tick_counts s moment
event_counts names s (Ordered clock o) unless = ordered_counts s clock o unless
event_counts names s (LoggedOut moment reason) unless = log_out_counts s moment reason
