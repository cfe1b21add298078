-- Nothing moves the expected number but bytes and an operator; and what the day's mark says.
use Rattle.std.proofs.Common.{◌≡◌, ℕ, ◌-◌, Bool, true, false, ◌&&◌, ◌||◌, not, nat_lt, nat_le, List, [], ◌∷◌, ◌++◌, inl, inr, Option, Some, None, refl, sym, ap, ◌∙◌}
use Rattle.std.proofs.lemmas.Bool.{false≢true}
use Rattle.fix_fields.specs.Frame.{Field}
use Rattle.fix_sessions.specs.Outcomes.{parts, leaves, is_clear, may_log_out, live, is_spent}
use Rattle.fix_sessions.specs.Sending.{is_resending, requests, is_answer, is_reject, again_of, fresh_of, hands_by, hands}
use Rattle.fix_sessions.specs.Steps.{given_by, given, due, made_due, still_settling, is_over, is_dead, tick_on, tick_by, decided, is_decided, tick_waiting, tick, logged_out, logged_out_by, log_out, ordered}
use Rattle.fix_sessions.specs.declared.orders.Order.{Order}
use Rattle.fix_sessions.specs.declared.orders.Order.TheVariants as order
use Rattle.fix_sessions.specs.declared.state.Clock.{Clock}
use Rattle.fix_sessions.specs.declared.state.Day.{Day}
use Rattle.fix_sessions.specs.declared.state.Live.{Live}
use Rattle.fix_sessions.specs.declared.state.Phase.{Phase}
use Rattle.fix_sessions.specs.declared.state.Phase.TheVariants as phase
use Rattle.fix_sessions.specs.declared.state.Session.{Session}
use Rattle.fix_sessions.specs.declared.state.TheConstants.{LOGOUT_WAIT}
use Rattle.fix_sessions.specs.declared.state.Waiting.{Waiting}
use Rattle.fix_sessions.specs.declared.texts.Names.{Names}
use Rattle.fix_sessions.specs.declared.turns.Stored.{Stored}
use Rattle.fix_sessions.specs.declared.turns.Turn.{Turn}
use Rattle.fix_sessions.specs.declared.turns.Why.{Why}
use Rattle.fix_sessions.specs.declared.turns.Why.TheVariants as why
use Rattle.fix_sessions.specs.declared.turns.Word.{Word}
use Rattle.fix_sessions.specs.declared.turns.Word.TheVariants as word
use Rattle.laws_sessions.proofs.Choices.{choice}
use Rattle.laws_sessions.proofs.MovedCame.{freed_still}
use Rattle.laws_sessions.proofs.TakenDays.{event_turns}
use Rattle.laws_sessions.proofs.TakenRows.{Turns}
use Rattle.laws_sessions.specs.Days.{Event, turn, after, is_reset, without_resets, is_order_to_reset}
use Rattle.laws_sessions.specs.Days.{Came, Gone, Given, Handed, Tick, Ordered, LoggedOut}
use Rattle.laws_sessions.specs.Moves.{IsStill, is_bytes}
use Rattle.laws_sessions.specs.Numbers.{listed, taken}

given_by_still : (s : Session) (now : ℕ) (body : List Field) (p : Phase) → IsStill s.day (given_by s now body p)
given_by_still s now body phase.Away = refl
given_by_still s now body (phase.On line) =
    choice (IsStill s.day) (is_clear (live s line) && (line.is_settled || not (is_reject body))) _ _ (λ h. refl) (λ h. refl)
given_by_still s now body (phase.Leaving connection since) = refl

given_still : (s : Session) (now : ℕ) (body : List Field) → IsStill s.day (given s now body)
unfolding given
given_still s now body = choice (IsStill s.day) (is_spent s) _ _ (λ h. refl) (λ h. given_by_still s now body s.phase)

again_still : (a : Live) (now next_kept : ℕ) (stored : Option Stored) → IsStill a.day (again_of a now next_kept stored)
again_still a now next_kept None = refl
again_still a now next_kept (Some stored) = choice (IsStill a.day) (is_answer stored) _ _ (λ h. refl) (λ h. refl)

fresh_still : (a : Live) (now : ℕ) (stored : Option Stored) → IsStill a.day (fresh_of a now stored)
fresh_still a now None = refl
fresh_still a now (Some stored) =
    choice (IsStill a.day) (is_reject stored.body && not a.line.is_settled) _ _ (λ h. refl) (λ h. refl)

hands_by_still : (s : Session) (now next_kept : ℕ) (stored : Option Stored) (p : Phase)
    → IsStill s.day (hands_by s now next_kept stored p)
hands_by_still s now next_kept stored phase.Away = refl
hands_by_still s now next_kept stored (phase.On line) =
    choice (IsStill s.day) (is_resending line) _ _ (λ h. again_still (live s line) now next_kept stored)
    (λ h. choice (IsStill s.day) (not line.is_held && nat_lt line.fresh s.day.next) _ _
    (λ h. fresh_still (live s line) now stored) (λ h. refl))
hands_by_still s now next_kept stored (phase.Leaving connection since) = refl

hands_still : (s : Session) (now next_kept : ℕ) (stored : Option Stored) → IsStill s.day (hands s now next_kept stored)
unfolding hands
hands_still s now next_kept stored =
    choice (IsStill s.day) (is_spent s) _ _ (λ h. refl) (λ h. hands_by_still s now next_kept stored s.phase)

parts_still : (a : Live) (now : ℕ) (w : Word) → IsStill a.day (parts a now w)
parts_still a now w = choice (IsStill a.day) (may_log_out a) _ _ (λ h. refl) (λ h. refl)

leaves_still : (a : Live) (y : Why) → IsStill a.day (leaves a y)
leaves_still a y = choice (IsStill a.day) (may_log_out a) _ _ (λ h. refl) (λ h. refl)

due_still : (a : Live) (now : ℕ) → IsStill a.day (due a now)
due_still a now =
    choice (IsStill a.day) (is_resending a.line || (not a.line.is_held && not (is_clear a))) _ _ (λ h. refl)
    (λ h. choice (IsStill a.day) (is_clear a && requests a.line) _ _ (λ h. refl)
    (λ h. choice (IsStill a.day) a.line.is_test_due _ _ (λ h. refl)
    (λ h. choice (IsStill a.day) (is_clear a && nat_le a.line.heartbeat (now - a.line.sent)) _ _ (λ h. refl) (λ h. refl))))

tick_on_still : (a : Live) (now : ℕ) → IsStill a.day (tick_on a now)
tick_on_still a now =
    let b = still_settling a now in
    choice (IsStill a.day) (is_over b.line now) _ _ (λ h. refl)
    (λ h. choice (IsStill a.day) (is_dead b.line now) _ _ (λ h. leaves_still b why.Silent)
    (λ h. due_still (made_due b now) now))

tick_by_still : (s : Session) (now : ℕ) (p : Phase) → IsStill s.day (tick_by s now p)
tick_by_still s now phase.Away = refl
tick_by_still s now (phase.On line) = tick_on_still (live s line) now
tick_by_still s now (phase.Leaving connection since) =
    choice (IsStill s.day) (nat_le LOGOUT_WAIT (now - since)) _ _ (λ h. refl) (λ h. refl)

decided_still : (s : Session) (waiting : Waiting) → IsStill s.day (decided s waiting)
decided_still s waiting = choice (IsStill s.day) waiting.is_alive _ _ (λ h. refl) (λ h. refl)

waiting_still : (s : Session) (now : ℕ) (waiting : Option Waiting) → IsStill s.day (tick_waiting s now waiting)
waiting_still s now None = tick_by_still s now s.phase
waiting_still s now (Some waiting) =
    choice (IsStill s.day) (is_decided s.phase waiting now) _ _ (λ h. decided_still s waiting) (λ h. tick_by_still s now s.phase)

tick_still : (s : Session) (now : ℕ) → IsStill s.day (tick s now)
unfolding tick
tick_still s now = choice (IsStill s.day) (is_spent s) _ _ (λ h. refl) (λ h. waiting_still s now s.waiting)

logged_out_by_still : (s : Session) (now : ℕ) (w : Word) (p : Phase) → IsStill s.day (logged_out_by s now w p)
logged_out_by_still s now w phase.Away = refl
logged_out_by_still s now w (phase.On line) = parts_still (live s line) now w
logged_out_by_still s now w (phase.Leaving connection since) = refl

logged_out_still : (s : Session) (now : ℕ) (w : Word) (p : Phase) → IsStill s.day (logged_out s now w p)
logged_out_still s now w p =
    choice (IsStill s.day) (is_spent s) _ _ (λ h. refl) (λ h. logged_out_by_still s now w p)

log_out_still : (s : Session) (now : ℕ) (reason : List ℕ) → IsStill s.day (log_out s now reason)
unfolding log_out
log_out_still s now reason = logged_out_still s now (word.LogoutFor reason) s.phase

ordered_still : (s : Session) (clock : Clock) (o : Order) → is_order_to_reset o ≡ false → IsStill s.day (ordered s clock o)
unfolding ordered
ordered_still s clock order.Open unless = refl
ordered_still s clock order.Resume unless = refl
ordered_still s clock order.Release unless = refl
ordered_still s clock order.Close unless =
    logged_out_still (record s { day = record s.day { is_open = false } }) clock.moment (word.Logout why.Closed) s.phase
ordered_still s clock order.Suspend unless =
    logged_out_still (record s { day = record s.day { is_suspended = true } }) clock.moment (word.Logout why.Suspended) s.phase
ordered_still s clock (order.Reset copies) unless = absurd (false≢true (sym unless))

pub others_still : (names : Names) (s : Session) (e : Event) → is_bytes e ≡ false → is_reset e ≡ false
    → IsStill s.day (turn names s e)
others_still names s (Came connection clock bytes is_known denial) bytes_not unless = absurd (false≢true (sym bytes_not))
others_still names s (Gone connection) bytes_not unless = freed_still s connection
others_still names s (Given moment body) bytes_not unless = given_still s moment body
others_still names s (Handed moment next_kept stored) bytes_not unless = hands_still s moment next_kept stored
others_still names s (Tick moment) bytes_not unless = tick_still s moment
others_still names s (Ordered clock o) bytes_not unless = ordered_still s clock o unless
others_still names s (LoggedOut moment reason) bytes_not unless = log_out_still s moment reason

-- The day's mark.

both_parts : (a b : Bool) → (not a && b) ≡ true → (a ≡ false) × (b ≡ true)
both_parts true b h = absurd (false≢true h)
both_parts false b h = (refl, h)

turns_marked : (d : Day) (t : Turn) → d.was_taken ≡ true → Turns d t → t.session.day.was_taken ≡ true
turns_marked d t was (inl ups) = ups.grows.was ∙ was
turns_marked d t was (inr takes) = takes.was

stays_marked : (names : Names) (s : Session) (events : List Event) → without_resets events ≡ true
    → s.day.was_taken ≡ true → (after names s events).day.was_taken ≡ true
stays_marked names s [] none was = was
stays_marked names s (e ∷ es) none was =
    let parts = both_parts (is_reset e) (without_resets es) none in
    stays_marked names (turn names s e).session es parts.1
    (turns_marked s.day (turn names s e) was (event_turns names s e parts.0))

pub nothing_marked : (names : Names) (s : Session) (events : List Event) → without_resets events ≡ true
    → (after names s events).day.was_taken ≡ false → taken names s events ≡ []
nothing_marked names s [] none was_not = refl
nothing_marked names s (e ∷ es) none was_not =
    let t = turn names s e in
    let parts = both_parts (is_reset e) (without_resets es) none in
    elim (event_turns names s e parts.0) [
      | inl ups ↦ ap (λ x. listed x ++ taken names t.session es) ups.nothing
          ∙ nothing_marked names t.session es parts.1 was_not
      | inr takes ↦ absurd (false≢true (sym was_not ∙ stays_marked names t.session es parts.1 takes.was))
    ]
