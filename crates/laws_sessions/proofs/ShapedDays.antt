-- What the notes of a turn say: of every event.
use Rattle.std.proofs.Common.{◌≡◌, ℕ, ◌-◌, Bool, true, false, ◌==◌, ◌&&◌, ◌||◌, not, nat_lt, nat_le, List, Option, Some, None, refl, sym, ap, ◌∙◌, arith}
use Rattle.std.proofs.lemmas.Bool.{false≢true}
use Rattle.fix_sessions.specs.Heard.{as_taken, heard_of, is_logout}
use Rattle.fix_sessions.specs.Outcomes.{is_clear, live, is_spent}
use Rattle.fix_sessions.specs.Sending.{is_resending, requests, is_answer, is_reject, again_of, fresh_of, hands_on, hands_by, hands}
use Rattle.fix_sessions.specs.Steps.{is_expected, last_counted, came_leaving_as, came_leaving, came_by, came, freed_of, has, gone, due, made_due, still_settling, is_over, is_dead, tick_on, tick_by, decided, is_decided, tick_waiting, tick, logged_out, logged_out_by, log_out, ordered}
use Rattle.fix_sessions.specs.declared.state.TheConstants.{LOGOUT_WAIT}
use Rattle.fix_sessions.specs.declared.state.Clock.{Clock}
use Rattle.fix_sessions.specs.declared.state.Live.{Live}
use Rattle.fix_sessions.specs.declared.state.Phase.{Phase}
use Rattle.fix_sessions.specs.declared.state.Phase.TheVariants as phase
use Rattle.fix_sessions.specs.declared.state.Session.{Session}
use Rattle.fix_sessions.specs.declared.state.Waiting.{Waiting}
use Rattle.fix_sessions.specs.declared.messages.Heard.{Heard}
use Rattle.fix_sessions.specs.declared.messages.Heard.TheVariants as heard
use Rattle.fix_sessions.specs.declared.orders.Order.TheVariants as order
use Rattle.fix_sessions.specs.declared.texts.Names.{Names}
use Rattle.fix_sessions.specs.declared.turns.Denial.{Denial}
use Rattle.fix_sessions.specs.declared.turns.Stored.{Stored}
use Rattle.fix_sessions.specs.declared.turns.Why.TheVariants as why
use Rattle.fix_sessions.specs.declared.turns.Word.{Word}
use Rattle.fix_sessions.specs.declared.turns.Word.TheVariants as word
use Rattle.fix_sessions.specs.Outcomes.{ended, quiet}
use Rattle.laws_sessions.proofs.Choices.{choice}
use Rattle.laws_sessions.proofs.Shapes.{Goes, Onto, Own, goes, onto, silent, still}
use Rattle.laws_sessions.proofs.ShapedRows.{disconnects_goes, leaves_goes, live_goes, parts_goes, says_goes, stays_goes}
use Rattle.laws_sessions.proofs.ShapedLogons.{Turned, calmly, first_goes, is_on, lively, stays_quiet}
use Rattle.session_recovery.specs.Puts.{kind_of}
use Rattle.session_recovery.specs.declared.notes.NoteKind.TheVariants as note
use Rattle.laws_sessions.specs.Memory.{Event, turn}
use Rattle.laws_sessions.specs.Memory.{Came, Gone, Handed, Tick, Opened, Closed, Suspended, Resumed, LoggedOut}

-- Behind a Logout.

last_onto : (s : Session) (number : Option ℕ) → Onto s.day (last_counted s number).day
last_onto s number =
    choice (λ (t : Session). Onto s.day t.day) (is_expected s.day number) _ _
    (λ h. record { same = refl; expected = omega arith; had = omega arith; was = refl }) (λ h. still s.day _ refl refl refl refl)

not_on : {A : Type 0} → false ≡ true → A
not_on h = absurd (false≢true h)

leaving_as_goes : (s : Session) (connection : ℕ) (said : Heard) → Turned s (came_leaving_as s connection said)
leaving_as_goes s connection (heard.Message m) =
    calmly s _
    (onto s.day (last_counted s m.origin.number).day _ (last_onto s m.origin.number)
    (silent _ _ (λ l. refl) (λ l. refl) refl refl refl refl refl refl)) not_on
leaving_as_goes s connection heard.Garbled = stays_quiet s _ (λ l. refl) (λ l. refl) refl refl refl refl refl refl (λ h. h)
leaving_as_goes s connection (heard.TooLong number) = stays_quiet s _ (λ l. refl) (λ l. refl) refl refl refl refl refl refl (λ h. h)

leaving_goes : (names : Names) (s : Session) (connection : ℕ) (bytes : List ℕ) → Turned s (came_leaving names s connection bytes)
leaving_goes names s connection bytes =
    choice (Turned s) (is_logout bytes) _ _ (λ h. leaving_as_goes s connection (heard_of names bytes))
    (λ h. stays_quiet s _ (λ l. refl) (λ l. refl) refl refl refl refl refl refl (λ h. h))

-- The events.

freed_is : (s : Session) (connection : ℕ) → Turned s (gone s connection)
freed_is s connection =
    choice (λ (t : Session). Turned s (quiet t connection)) (has s.phase connection) _ _
    (λ h. stays_quiet s _ (λ l. refl) (λ l. refl) refl refl refl refl refl refl not_on)
    (λ h. stays_quiet s _ (λ l. refl) (λ l. refl) refl refl refl refl refl refl (λ h. h))

ended_is : (s : Session) (connection : ℕ) → Turned s (ended (freed_of s connection) connection)
ended_is s connection =
    choice (λ (t : Session). Turned s (ended t connection)) (has s.phase connection) _ _
    (λ h. stays_quiet s _ (λ l. refl) (λ l. refl) refl refl refl refl refl refl not_on)
    (λ h. stays_quiet s _ (λ l. refl) (λ l. refl) refl refl refl refl refl refl (λ h. h))

came_by_goes : (names : Names) (s : Session) (connection : ℕ) (clock : Clock) (bytes : List ℕ) (is_known : Bool) (denial : Option Denial) (p : Phase)
    → s.phase ≡ p → Turned s (came_by names s connection clock bytes is_known denial p)
came_by_goes names s connection clock bytes is_known denial phase.Away e = first_goes names s connection clock bytes is_known denial
came_by_goes names s connection clock bytes is_known denial (phase.On line) e =
    choice (Turned s) (line.connection == connection) _ _
    (λ h. lively s _ (ap is_on e) (live_goes (live s line) clock (as_taken denial (heard_of names bytes))))
    (λ h. first_goes names s connection clock bytes is_known denial)
came_by_goes names s connection clock bytes is_known denial (phase.Leaving last since) e =
    choice (Turned s) (last == connection) _ _
    (λ h. leaving_goes names s connection bytes) (λ h. first_goes names s connection clock bytes is_known denial)

came_goes : (names : Names) (s : Session) (connection : ℕ) (clock : Clock) (bytes : List ℕ) (is_known : Bool) (denial : Option Denial)
    → Turned s (came names s connection clock bytes is_known denial)
unfolding came
came_goes names s connection clock bytes is_known denial =
    choice (Turned s) (is_spent s) _ _ (λ h. ended_is s connection)
    (λ h. came_by_goes names s connection clock bytes is_known denial s.phase refl)

again_goes : (a : Live) (now next_kept : ℕ) (stored : Option Stored) → Goes true a.day (again_of a now next_kept stored)
again_goes a now next_kept None = silent a.day _ (λ l. refl) (λ l. refl) refl refl refl refl refl refl
again_goes a now next_kept (Some stored) =
    choice (Goes true a.day) (is_answer stored) _ _ (λ h. silent a.day _ (λ l. refl) (λ l. refl) refl refl refl refl refl refl)
    (λ h. silent a.day _ (λ l. refl) (λ l. refl) refl refl refl refl refl refl)

fresh_goes : (a : Live) (now : ℕ) (stored : Option Stored) → Goes true a.day (fresh_of a now stored)
fresh_goes a now None = silent a.day _ (λ l. refl) (λ l. refl) refl refl refl refl refl refl
fresh_goes a now (Some stored) =
    choice (Goes true a.day) (is_reject stored.body && not a.line.is_settled) _ _
    (λ h. silent a.day _ (λ l. refl) (λ l. refl) refl refl refl refl refl refl)
    (λ h. silent a.day _ (λ l. refl) (λ l. refl) refl refl refl refl refl refl)

hands_on_goes : (a : Live) (now next_kept : ℕ) (stored : Option Stored) → Goes true a.day (hands_on a now next_kept stored)
hands_on_goes a now next_kept stored =
    choice (Goes true a.day) (is_resending a.line) _ _ (λ h. again_goes a now next_kept stored)
    (λ h. choice (Goes true a.day) (not a.line.is_held && nat_lt a.line.fresh a.day.next) _ _ (λ h. fresh_goes a now stored) (λ h. stays_goes a))

hands_by_goes : (s : Session) (now next_kept : ℕ) (stored : Option Stored) (p : Phase) → s.phase ≡ p
    → Turned s (hands_by s now next_kept stored p)
hands_by_goes s now next_kept stored phase.Away e = stays_quiet s _ (λ l. refl) (λ l. refl) refl refl refl refl refl refl (λ h. h)
hands_by_goes s now next_kept stored (phase.On line) e =
    lively s _ (ap is_on e) (hands_on_goes (live s line) now next_kept stored)
hands_by_goes s now next_kept stored (phase.Leaving connection since) e =
    stays_quiet s _ (λ l. refl) (λ l. refl) refl refl refl refl refl refl (λ h. h)

hands_goes : (s : Session) (now next_kept : ℕ) (stored : Option Stored) → Turned s (hands s now next_kept stored)
unfolding hands
hands_goes s now next_kept stored =
    choice (Turned s) (is_spent s) _ _ (λ h. stays_quiet s _ (λ l. refl) (λ l. refl) refl refl refl refl refl refl not_on)
    (λ h. hands_by_goes s now next_kept stored s.phase refl)

due_goes : (a : Live) (now : ℕ) → Goes true a.day (due a now)
due_goes a now =
    choice (Goes true a.day) (is_resending a.line || (not a.line.is_held && not (is_clear a))) _ _ (λ h. stays_goes a)
    (λ h. choice (Goes true a.day) (is_clear a && requests a.line) _ _
    (λ h. goes a.day _ (Own (record { number = refl; noted = λ l. refl; second = λ l. refl; day = refl })) refl refl refl refl refl)
    (λ h. choice (Goes true a.day) a.line.is_test_due _ _
    (λ h. goes a.day _ (Own (record { number = refl; noted = λ l. refl; second = λ l. refl; day = refl })) refl refl refl refl refl)
    (λ h. choice (Goes true a.day) (is_clear a && nat_le a.line.heartbeat (now - a.line.sent)) _ _
    (λ h. says_goes a now word.Heartbeat (λ l. refl)) (λ h. stays_goes a))))

tick_on_goes : (a : Live) (now : ℕ) → Goes true a.day (tick_on a now)
tick_on_goes a now =
    let b = still_settling a now in
    choice (Goes true a.day) (is_over b.line now) _ _ (λ h. disconnects_goes b)
    (λ h. choice (Goes true a.day) (is_dead b.line now) _ _ (λ h. leaves_goes b why.Silent) (λ h. due_goes (made_due b now) now))

tick_by_goes : (s : Session) (now : ℕ) (p : Phase) → s.phase ≡ p → Turned s (tick_by s now p)
tick_by_goes s now phase.Away e = stays_quiet s _ (λ l. refl) (λ l. refl) refl refl refl refl refl refl (λ h. h)
tick_by_goes s now (phase.On line) e = lively s _ (ap is_on e) (tick_on_goes (live s line) now)
tick_by_goes s now (phase.Leaving connection since) e =
    choice (Turned s) (nat_le LOGOUT_WAIT (now - since)) _ _
    (λ h. stays_quiet s _ (λ l. refl) (λ l. refl) refl refl refl refl refl refl not_on)
    (λ h. stays_quiet s _ (λ l. refl) (λ l. refl) refl refl refl refl refl refl (λ h. h))

decided_goes : (s : Session) (waiting : Waiting) → Turned s (decided s waiting)
decided_goes s waiting =
    choice (Turned s) waiting.is_alive _ _
    (λ h. stays_quiet s _ (λ l. refl) (λ l. refl) refl refl refl refl refl refl (λ h. h))
    (λ h. stays_quiet s _ (λ l. refl) (λ l. refl) refl refl refl refl refl refl not_on)

waiting_goes : (s : Session) (now : ℕ) (waiting : Option Waiting) → Turned s (tick_waiting s now waiting)
waiting_goes s now None = tick_by_goes s now s.phase refl
waiting_goes s now (Some waiting) =
    choice (Turned s) (is_decided s.phase waiting now) _ _ (λ h. decided_goes s waiting) (λ h. tick_by_goes s now s.phase refl)

tick_goes : (s : Session) (now : ℕ) → Turned s (tick s now)
unfolding tick
tick_goes s now =
    choice (Turned s) (is_spent s) _ _ (λ h. stays_quiet s _ (λ l. refl) (λ l. refl) refl refl refl refl refl refl not_on)
    (λ h. waiting_goes s now s.waiting)

-- a word that is noted as a Logout
abbrev IsLogout : Word → Type 0
IsLogout w = (l : ℕ) → kind_of l w ≡ Some note.Logout

-- of a session whose day may differ in what operators say
logged_out_by_goes : (s b : Session) (now : ℕ) (w : Word) (p : Phase) → IsLogout w → Onto s.day b.day → b.phase ≡ p
    → s.phase ≡ p → Turned s (logged_out_by b now w p)
logged_out_by_goes s b now w phase.Away k o e f =
    calmly s _ (onto s.day b.day _ o (silent b.day _ (λ l. refl) (λ l. refl) refl refl refl refl refl refl)) (λ h. ap is_on (f ∙ sym e) ∙ h)
logged_out_by_goes s b now w (phase.On line) k o e f =
    lively s _ (ap is_on f) (onto s.day b.day _ o (parts_goes (live b line) now w k))
logged_out_by_goes s b now w (phase.Leaving connection since) k o e f =
    calmly s _ (onto s.day b.day _ o (silent b.day _ (λ l. refl) (λ l. refl) refl refl refl refl refl refl)) (λ h. ap is_on (f ∙ sym e) ∙ h)

logged_out_goes : (s b : Session) (now : ℕ) (w : Word) → IsLogout w → Onto s.day b.day → b.phase ≡ s.phase
    → Turned s (logged_out b now w s.phase)
logged_out_goes s b now w k o e =
    choice (Turned s) (is_spent b) _ _
    (λ h. calmly s _ (onto s.day b.day _ o (silent b.day _ (λ l. refl) (λ l. refl) refl refl refl refl refl refl)) not_on)
    (λ h. logged_out_by_goes s b now w s.phase k o e refl)

log_out_goes : (s : Session) (now : ℕ) (reason : List ℕ) → Turned s (log_out s now reason)
unfolding log_out
log_out_goes s now reason = logged_out_goes s s now (word.LogoutFor reason) (λ l. refl) (still s.day s.day refl refl refl refl) refl

opened_goes : (s : Session) (clock : Clock) → Turned s (ordered s clock order.Open)
unfolding ordered
opened_goes s clock = stays_quiet s _ (λ l. refl) (λ l. refl) refl refl refl refl refl refl (λ h. h)

resumed_goes : (s : Session) (clock : Clock) → Turned s (ordered s clock order.Resume)
unfolding ordered
resumed_goes s clock = stays_quiet s _ (λ l. refl) (λ l. refl) refl refl refl refl refl refl (λ h. h)

closed_goes : (s : Session) (clock : Clock) → Turned s (ordered s clock order.Close)
unfolding ordered
closed_goes s clock =
    let b = record s { day = record s.day { is_open = false } } in
    logged_out_goes s b clock.moment (word.Logout why.Closed) (λ l. refl) (still s.day b.day refl refl refl refl) refl

suspended_goes : (s : Session) (clock : Clock) → Turned s (ordered s clock order.Suspend)
unfolding ordered
suspended_goes s clock =
    let b = record s { day = record s.day { is_suspended = true } } in
    logged_out_goes s b clock.moment (word.Logout why.Suspended) (λ l. refl) (still s.day b.day refl refl refl refl) refl

-- every event
pub event_goes : (names : Names) (s : Session) (e : Event) → Turned s (turn names s e)
event_goes names s (Came connection clock bytes is_known denial) = came_goes names s connection clock bytes is_known denial
event_goes names s (Gone connection) = freed_is s connection
event_goes names s (Handed moment next_kept stored) = hands_goes s moment next_kept stored
event_goes names s (Tick moment) = tick_goes s moment
event_goes names s (Opened clock) = opened_goes s clock
event_goes names s (Closed clock) = closed_goes s clock
event_goes names s (Suspended clock) = suspended_goes s clock
event_goes names s (Resumed clock) = resumed_goes s clock
event_goes names s (LoggedOut moment reason) = log_out_goes s moment reason
