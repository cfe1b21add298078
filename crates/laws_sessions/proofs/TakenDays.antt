-- Each message once: over every event, and every list of them.
use Rattle.std.proofs.Common.{◌≡◌, ℕ, ◌+◌, ◌-◌, ◌≤◌, Bool, true, false, ◌==◌, ◌&&◌, ◌||◌, not, nat_lt, nat_le, List, [], ◌∷◌, ◌++◌, inl, inr, Option, Some, None, refl, sym, ap, subst, ◌∙◌, arith, if◌then◌else◌}
use Rattle.std.proofs.lemmas.Bool.{false≢true}
use Rattle.fix_fields.specs.Frame.{Field}
use Rattle.fix_sessions.specs.Heard.{as_taken, heard_of, is_logout}
use Rattle.fix_sessions.specs.Outcomes.{is_clear, live, is_spent}
use Rattle.fix_sessions.specs.Sending.{is_resending, requests, is_answer, is_reject, again_of, fresh_of, hands_on, hands_by, hands, given_on}
use Rattle.laws_sessions.specs.Days.{Event, turn, is_reset, without_resets, is_order_to_reset}
use Rattle.laws_sessions.specs.Days.{Came, Gone, Given, Handed, Tick, Ordered, LoggedOut}
use Rattle.laws_sessions.specs.Numbers.{Rises, taken, listed}
use Rattle.fix_sessions.specs.Steps.{is_expected, last_counted, came_leaving_as, came_leaving, came_by, came, freed_of, has, gone, given_by, given, due, made_due, still_settling, is_over, is_dead, tick_on, tick_by, decided, is_decided, tick_waiting, tick, logged_out, logged_out_by, log_out, ordered}
use Rattle.fix_sessions.specs.declared.state.TheConstants.{LOGOUT_WAIT}
use Rattle.fix_sessions.specs.declared.state.Clock.{Clock}
use Rattle.fix_sessions.specs.declared.state.Day.{Day}
use Rattle.fix_sessions.specs.declared.state.Live.{Live}
use Rattle.fix_sessions.specs.declared.state.Phase.{Phase}
use Rattle.fix_sessions.specs.declared.state.Phase.TheVariants as phase
use Rattle.fix_sessions.specs.declared.state.Session.{Session}
use Rattle.fix_sessions.specs.declared.state.Waiting.{Waiting}
use Rattle.fix_sessions.specs.declared.messages.Heard.{Heard}
use Rattle.fix_sessions.specs.declared.messages.Heard.TheVariants as heard
use Rattle.fix_sessions.specs.declared.orders.Order.{Order}
use Rattle.fix_sessions.specs.declared.orders.Order.TheVariants as order
use Rattle.fix_sessions.specs.declared.texts.Names.{Names}
use Rattle.fix_sessions.specs.declared.turns.Denial.{Denial}
use Rattle.fix_sessions.specs.declared.turns.Stored.{Stored}
use Rattle.fix_sessions.specs.declared.turns.Why.TheVariants as why
use Rattle.fix_sessions.specs.declared.turns.Word.{Word}
use Rattle.fix_sessions.specs.declared.turns.Word.TheVariants as word
use Rattle.laws_sessions.proofs.Choices.{choice}
use Rattle.laws_sessions.proofs.TakenRows.{Grows, Ups, Turns, same, same_grows, more_grows, live_turns, disconnects_up, leaves_up, parts_up, says_up, stays_up}
use Rattle.laws_sessions.proofs.TakenLogons.{first_up}

-- Behind a Logout.

last_grows : (s : Session) (number : Option ℕ) → Grows s.day (last_counted s number).day
last_grows s number =
    choice (λ (t : Session). Grows s.day t.day) (is_expected s.day number) _ _
    (λ h. more_grows s.day _ (omega arith) refl) (λ h. same_grows s.day _ refl refl)

leaving_as_up : (s : Session) (connection : ℕ) (said : Heard) → Ups s.day (came_leaving_as s connection said)
leaving_as_up s connection (heard.Message m) = record { nothing = refl; grows = last_grows s m.origin.number }
leaving_as_up s connection heard.Garbled = same s.day _ refl refl refl
leaving_as_up s connection (heard.TooLong number) = same s.day _ refl refl refl

pub leaving_up : (names : Names) (s : Session) (connection : ℕ) (bytes : List ℕ) → Ups s.day (came_leaving names s connection bytes)
leaving_up names s connection bytes =
    choice (Ups s.day) (is_logout bytes) _ _ (λ h. leaving_as_up s connection (heard_of names bytes)) (λ h. same s.day _ refl refl refl)

-- The events.

freed_same : (s : Session) (connection : ℕ) → (freed_of s connection).day ≡ s.day
freed_same s connection = choice (λ (t : Session). t.day ≡ s.day) (has s.phase connection) _ _ (λ h. refl) (λ h. refl)

came_by_turns : (names : Names) (s : Session) (connection : ℕ) (clock : Clock) (bytes : List ℕ) (is_known : Bool) (denial : Option Denial) (p : Phase)
    → Turns s.day (came_by names s connection clock bytes is_known denial p)
came_by_turns names s connection clock bytes is_known denial phase.Away = inl (first_up names s connection clock bytes is_known denial)
came_by_turns names s connection clock bytes is_known denial (phase.On line) =
    choice (Turns s.day) (line.connection == connection) _ _
    (λ h. live_turns (live s line) clock (as_taken denial (heard_of names bytes))) (λ h. inl (first_up names s connection clock bytes is_known denial))
came_by_turns names s connection clock bytes is_known denial (phase.Leaving last since) =
    choice (Turns s.day) (last == connection) _ _
    (λ h. inl (leaving_up names s connection bytes)) (λ h. inl (first_up names s connection clock bytes is_known denial))

pub came_turns : (names : Names) (s : Session) (connection : ℕ) (clock : Clock) (bytes : List ℕ) (is_known : Bool) (denial : Option Denial)
    → Turns s.day (came names s connection clock bytes is_known denial)
unfolding came
came_turns names s connection clock bytes is_known denial =
    choice (Turns s.day) (is_spent s) _ _
    (λ h. inl (let d = freed_same s connection in same s.day _ refl (ap (λ (e : Day). e.expected) d) (ap (λ (e : Day). e.was_taken) d)))
    (λ h. came_by_turns names s connection clock bytes is_known denial s.phase)

pub gone_up : (s : Session) (connection : ℕ) → Ups s.day (gone s connection)
gone_up s connection = (let d = freed_same s connection in same s.day _ refl (ap (λ (e : Day). e.expected) d) (ap (λ (e : Day). e.was_taken) d))

given_on_up : (a : Live) (now : ℕ) (body : List Field) → Ups a.day (given_on a now body)
given_on_up a now body =
    choice (Ups a.day) (is_clear a && (a.line.is_settled || not (is_reject body))) _ _ (λ h. same a.day _ refl refl refl) (λ h. same a.day _ refl refl refl)

given_by_up : (s : Session) (now : ℕ) (body : List Field) (p : Phase) → Ups s.day (given_by s now body p)
given_by_up s now body phase.Away = same s.day _ refl refl refl
given_by_up s now body (phase.On line) = given_on_up (live s line) now body
given_by_up s now body (phase.Leaving connection since) = same s.day _ refl refl refl

pub given_up : (s : Session) (now : ℕ) (body : List Field) → Ups s.day (given s now body)
unfolding given
given_up s now body = choice (Ups s.day) (is_spent s) _ _ (λ h. same s.day _ refl refl refl) (λ h. given_by_up s now body s.phase)

again_up : (a : Live) (now next_kept : ℕ) (stored : Option Stored) → Ups a.day (again_of a now next_kept stored)
again_up a now next_kept None = same a.day _ refl refl refl
again_up a now next_kept (Some stored) =
    choice (Ups a.day) (is_answer stored) _ _ (λ h. same a.day _ refl refl refl) (λ h. same a.day _ refl refl refl)

fresh_up : (a : Live) (now : ℕ) (stored : Option Stored) → Ups a.day (fresh_of a now stored)
fresh_up a now None = same a.day _ refl refl refl
fresh_up a now (Some stored) =
    choice (Ups a.day) (is_reject stored.body && not a.line.is_settled) _ _ (λ h. same a.day _ refl refl refl) (λ h. same a.day _ refl refl refl)

hands_on_up : (a : Live) (now next_kept : ℕ) (stored : Option Stored) → Ups a.day (hands_on a now next_kept stored)
hands_on_up a now next_kept stored =
    choice (Ups a.day) (is_resending a.line) _ _ (λ h. again_up a now next_kept stored)
    (λ h. choice (Ups a.day) (not a.line.is_held && nat_lt a.line.fresh a.day.next) _ _ (λ h. fresh_up a now stored) (λ h. stays_up a))

hands_by_up : (s : Session) (now next_kept : ℕ) (stored : Option Stored) (p : Phase) → Ups s.day (hands_by s now next_kept stored p)
hands_by_up s now next_kept stored phase.Away = same s.day _ refl refl refl
hands_by_up s now next_kept stored (phase.On line) = hands_on_up (live s line) now next_kept stored
hands_by_up s now next_kept stored (phase.Leaving connection since) = same s.day _ refl refl refl

pub hands_up : (s : Session) (now next_kept : ℕ) (stored : Option Stored) → Ups s.day (hands s now next_kept stored)
unfolding hands
hands_up s now next_kept stored =
    choice (Ups s.day) (is_spent s) _ _ (λ h. same s.day _ refl refl refl) (λ h. hands_by_up s now next_kept stored s.phase)

due_up : (a : Live) (now : ℕ) → Ups a.day (due a now)
due_up a now =
    choice (Ups a.day) (is_resending a.line || (not a.line.is_held && not (is_clear a))) _ _ (λ h. stays_up a)
    (λ h. choice (Ups a.day) (is_clear a && requests a.line) _ _ (λ h. same a.day _ refl refl refl)
    (λ h. choice (Ups a.day) a.line.is_test_due _ _ (λ h. same a.day _ refl refl refl)
    (λ h. choice (Ups a.day) (is_clear a && nat_le a.line.heartbeat (now - a.line.sent)) _ _ (λ h. says_up a now word.Heartbeat) (λ h. stays_up a))))

tick_on_up : (a : Live) (now : ℕ) → Ups a.day (tick_on a now)
tick_on_up a now =
    let b = still_settling a now in
    choice (Ups a.day) (is_over b.line now) _ _ (λ h. disconnects_up b)
    (λ h. choice (Ups a.day) (is_dead b.line now) _ _ (λ h. leaves_up b why.Silent) (λ h. due_up (made_due b now) now))

tick_by_up : (s : Session) (now : ℕ) (p : Phase) → Ups s.day (tick_by s now p)
tick_by_up s now phase.Away = same s.day _ refl refl refl
tick_by_up s now (phase.On line) = tick_on_up (live s line) now
tick_by_up s now (phase.Leaving connection since) =
    choice (Ups s.day) (nat_le LOGOUT_WAIT (now - since)) _ _ (λ h. same s.day _ refl refl refl) (λ h. same s.day _ refl refl refl)

decided_up : (s : Session) (waiting : Waiting) → Ups s.day (decided s waiting)
decided_up s waiting = choice (Ups s.day) waiting.is_alive _ _ (λ h. same s.day _ refl refl refl) (λ h. same s.day _ refl refl refl)

waiting_up : (s : Session) (now : ℕ) (waiting : Option Waiting) → Ups s.day (tick_waiting s now waiting)
waiting_up s now None = tick_by_up s now s.phase
waiting_up s now (Some waiting) =
    choice (Ups s.day) (is_decided s.phase waiting now) _ _ (λ h. decided_up s waiting) (λ h. tick_by_up s now s.phase)

pub tick_up : (s : Session) (now : ℕ) → Ups s.day (tick s now)
unfolding tick
tick_up s now = choice (Ups s.day) (is_spent s) _ _ (λ h. same s.day _ refl refl refl) (λ h. waiting_up s now s.waiting)

logged_out_by_up : (s : Session) (now : ℕ) (w : Word) (p : Phase) → Ups s.day (logged_out_by s now w p)
logged_out_by_up s now w phase.Away = same s.day _ refl refl refl
logged_out_by_up s now w (phase.On line) = parts_up (live s line) now w
logged_out_by_up s now w (phase.Leaving connection since) = same s.day _ refl refl refl

logged_out_up : (s : Session) (now : ℕ) (w : Word) (p : Phase) → Ups s.day (logged_out s now w p)
logged_out_up s now w p = choice (Ups s.day) (is_spent s) _ _ (λ h. same s.day _ refl refl refl) (λ h. logged_out_by_up s now w p)

pub log_out_up : (s : Session) (now : ℕ) (reason : List ℕ) → Ups s.day (log_out s now reason)
unfolding log_out
log_out_up s now reason = logged_out_up s now (word.LogoutFor reason) s.phase

-- an operator's order, but for a reset
pub ordered_up : (s : Session) (clock : Clock) (o : Order) → is_order_to_reset o ≡ false → Ups s.day (ordered s clock o)
unfolding ordered
ordered_up s clock order.Open unless = same s.day _ refl refl refl
ordered_up s clock order.Resume unless = same s.day _ refl refl refl
ordered_up s clock order.Release unless = same s.day _ refl refl refl
ordered_up s clock order.Close unless =
    let u = logged_out_up (record s { day = record s.day { is_open = false } }) clock.moment (word.Logout why.Closed) s.phase in
    record { nothing = u.nothing; grows = record { up = u.grows.up; one = u.grows.one; was = u.grows.was } }
ordered_up s clock order.Suspend unless =
    let u = logged_out_up (record s { day = record s.day { is_suspended = true } }) clock.moment (word.Logout why.Suspended) s.phase in
    record { nothing = u.nothing; grows = record { up = u.grows.up; one = u.grows.one; was = u.grows.was } }
ordered_up s clock (order.Reset copies) unless = absurd (false≢true (sym unless))

-- every event
pub event_turns : (names : Names) (s : Session) (e : Event) → is_reset e ≡ false → Turns s.day (turn names s e)
event_turns names s (Came connection clock bytes is_known denial) unless = came_turns names s connection clock bytes is_known denial
event_turns names s (Gone connection) unless = inl (gone_up s connection)
event_turns names s (Given moment body) unless = inl (given_up s moment body)
event_turns names s (Handed moment next_kept stored) unless = inl (hands_up s moment next_kept stored)
event_turns names s (Tick moment) unless = inl (tick_up s moment)
event_turns names s (Ordered clock o) unless = inl (ordered_up s clock o unless)
event_turns names s (LoggedOut moment reason) unless = inl (log_out_up s moment reason)

-- The numbers of what the venue is given.

abbrev low : Day → ℕ
low d = if d.was_taken then d.expected else 1

low_grows : (d e : Day) → 1 ≤ d.expected → Grows d e → low d ≤ low e
low_grows d e one g =
    choice (λ (n : ℕ). n ≤ low e) d.was_taken d.expected 1
    (λ was. let up = g.up was in let w = g.was ∙ was in rw w up)
    (λ not. let w = g.was ∙ not in rw w (omega arith))

low_is : (d : Day) → 1 ≤ d.expected → low d ≤ d.expected
low_is d one = choice (λ (n : ℕ). n ≤ d.expected) d.was_taken d.expected 1 (λ h. omega arith) (λ h. one)

rises_from : (a b : ℕ) (ns : List ℕ) → a ≤ b → Rises b ns → Rises a ns
rises_from a b [] less rises = rises
rises_from a b (n ∷ ns) less rises = (let at = rises.0 in omega (arith, less, at), rises.1)

not_both : (a b : Bool) → (not a && b) ≡ true → (a ≡ false) × (b ≡ true)
not_both true b h = absurd (false≢true h)
not_both false b h = (refl, h)

pub taken_rises : (names : Names) (s : Session) (events : List Event) → without_resets events ≡ true → 1 ≤ s.day.expected
    → Rises (low s.day) (taken names s events)
taken_rises names s [] none one = tt
taken_rises names s (e ∷ es) none one =
    let t = turn names s e in
    let parts = not_both (is_reset e) (without_resets es) none in
    elim (event_turns names s e parts.0) [
      | inl u ↦
          (let rest = taken_rises names t.session es parts.1 (u.grows.one one) in
          subst (λ ns. Rises (low s.day) (ns ++ taken names t.session es)) (sym (ap listed u.nothing))
          (rises_from (low s.day) (low t.session.day) (taken names t.session es) (low_grows s.day t.session.day one u.grows) rest))
      | inr v ↦
          (let after_one : 1 ≤ t.session.day.expected = omega (arith, v.counted_is) in
          let rest = taken_rises names t.session es parts.1 after_one in
          let low_after : low t.session.day ≡ s.day.expected + 1 =
          ap (λ b. if b then t.session.day.expected else 1) v.was ∙ v.counted_is in
          subst (λ ns. Rises (low s.day) (ns ++ taken names t.session es)) (sym (ap listed v.given))
          (low_is s.day one, subst (λ n. Rises n (taken names t.session es)) low_after rest))
    ]
