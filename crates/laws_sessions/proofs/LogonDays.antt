-- Nothing without a Logon, after every list of events.
use Rattle.std.proofs.Common.{◌≡◌, ℕ, Bool, true, false, ◌==◌, ◌&&◌, List, [], ◌∷◌, ◌⊎◌, inl, inr, Option, Some, None, is_some, refl, sym, ap, subst, ◌∙◌}
use Rattle.std.proofs.Common.{eq-eqb}
use Rattle.std.proofs.lemmas.Bool.{false≢true}
use Rattle.fix_sessions.specs.Heard.{logon_of}
use Rattle.fix_sessions.specs.Outcomes.{is_free, is_spent}
use Rattle.fix_sessions.specs.Logons.{came_first}
use Rattle.laws_sessions.specs.Days.{Event, turn, after}
use Rattle.laws_sessions.specs.Days.{Came, Gone, Given, Handed, Tick, Ordered, LoggedOut}
use Rattle.laws_sessions.specs.Logons.{sends, IsLogon, IsLoggedOn, CameOn, keeps}
use Rattle.laws_sessions.proofs.Choices.{choice}
use Rattle.fix_sessions.specs.Steps.{came_by, came, freed_of, has, ordered, ordered_day, resets}
use Rattle.fix_sessions.specs.declared.state.Clock.{Clock}
use Rattle.fix_sessions.specs.declared.state.Day.{Day}
use Rattle.fix_sessions.specs.declared.state.Phase.{Phase}
use Rattle.fix_sessions.specs.declared.state.Phase.TheVariants as phase
use Rattle.fix_sessions.specs.declared.state.Session.{Session}
use Rattle.fix_sessions.specs.declared.orders.Order.{Order}
use Rattle.fix_sessions.specs.declared.orders.Order.TheVariants as order
use Rattle.fix_sessions.specs.declared.texts.Names.{Names}
use Rattle.fix_sessions.specs.declared.turns.Denial.{Denial}
use Rattle.fix_sessions.specs.declared.turns.Turn.{Turn}
use Rattle.laws_sessions.proofs.LogonTurns.{event_mine}
use Rattle.laws_sessions.proofs.TakenRows.{Ups}
use Rattle.laws_sessions.proofs.TakenLogons.{first_up}
use Rattle.laws_sessions.proofs.TakenDays.{given_up, gone_up, hands_up, leaving_up, log_out_up, ordered_up, tick_up}
use Rattle.laws_sessions.proofs.TurnLogons.{first_cases}

both : (a b : Bool) → a ≡ true → b ≡ true → (a && b) ≡ true
both a b p q = ap (λ x. x && b) p ∙ q

-- who has the session had it before these events and keeps it, or is logged on by one of them
kept_or_logged : (names : Names) (s : Session) (events : List Event) (k : ℕ)
    → has (after names s events).phase k ≡ true
    → ((has s.phase k ≡ true) × (keeps names s k events ≡ true)) ⊎ IsLoggedOn names s events k
kept_or_logged names s [] k h = inl (h, refl)
kept_or_logged names s (e ∷ es) k h =
    let t = turn names s e in
    elim (kept_or_logged names t.session es k h) [
      | inr logged ↦ inr (record {
        before = e ∷ logged.before;
        logon = logged.logon;
        behind = logged.behind;
        text = ap (λ rest. e ∷ rest) logged.text;
        is_logon = logged.is_logon;
        stood = logged.stood;
      })
      | inl had ↦ (elim ((event_mine names s e).whose k had.0) [
        | inl here ↦ inl (here, both _ _ had.0 had.1)
        | inr logon ↦ inr (record {
          before = [];
          logon = e;
          behind = es;
          text = refl;
          is_logon = logon;
          stood = both _ _ had.0 had.1;
        })
      ])
    ]

logged_on : (names : Names) (s : Session) (events : List Event) (k : ℕ) → s.phase ≡ phase.Away
    → has (after names s events).phase k ≡ true → IsLoggedOn names s events k
logged_on names s events k away h =
    elim (kept_or_logged names s events k h) [
      | inl had ↦ absurd (false≢true (ap (λ p. has p k) (sym away) ∙ had.0))
      | inr logged ↦ logged
    ]

pub sent_by_logon : (names : Names) (s : Session) (events : List Event) (e : Event)
    → s.phase ≡ phase.Away → sends (turn names (after names s events) e) ≡ true
    → IsLoggedOn names s events (turn names (after names s events) e).connection
    ⊎ IsLogon names (turn names (after names s events) e).connection e
sent_by_logon names s events e away sent =
    elim ((event_mine names (after names s events) e).sent sent) [
      | inl here ↦ inl (logged_on names s events _ away here)
      | inr logon ↦ inr logon
    ]

-- What the venue is given.

pub record Taking (s : Session) (e : Event) : Type 0 where
  pub connection : ℕ
  pub here : has s.phase connection ≡ true
  pub came : CameOn connection e

none_some : (x : Option ℕ) (n : ℕ) → x ≡ None → x ≡ Some n → ⊥
none_some x n none some = false≢true (ap is_some (sym none) ∙ ap is_some some)

not_up : (s : Session) (e : Event) (t : Turn) (n : ℕ) (d : Day) → Ups d t → t.takes ≡ Some n
    → Taking s e
not_up s e t n d up some = absurd (none_some t.takes n up.nothing some)

taking_by : (names : Names) (s : Session) (connection : ℕ) (clock : Clock) (bytes : List ℕ)
    (is_known : Bool) (denial : Option Denial) (n : ℕ) (p : Phase) → s.phase ≡ p
    → (came_by names s connection clock bytes is_known denial p).takes ≡ Some n
    → Taking s (Came connection clock bytes is_known denial)
taking_by names s connection clock bytes is_known denial n phase.Away is =
    λ some. not_up s _ _ n s.day (first_up names s connection clock bytes is_known denial) some
taking_by names s connection clock bytes is_known denial n (phase.On line) is =
    choice (λ (t : Turn). t.takes ≡ Some n → Taking s (Came connection clock bytes is_known denial))
    (line.connection == connection) _ _
    (λ h some. record {
      connection = connection;
      here = ap (λ p. has p connection) is ∙ h;
      came = record { clock = clock; bytes = bytes; is_known = is_known; denial = denial; came = refl };
    })
    (λ h some. not_up s _ _ n s.day (first_up names s connection clock bytes is_known denial) some)
taking_by names s connection clock bytes is_known denial n (phase.Leaving last since) is =
    choice (λ (t : Turn). t.takes ≡ Some n → Taking s (Came connection clock bytes is_known denial))
    (last == connection) _ _
    (λ h some. not_up s _ _ n s.day (leaving_up names s connection bytes) some)
    (λ h some. not_up s _ _ n s.day (first_up names s connection clock bytes is_known denial) some)

came_taking : (names : Names) (s : Session) (connection : ℕ) (clock : Clock) (bytes : List ℕ)
    (is_known : Bool) (denial : Option Denial) (n : ℕ)
    → (came names s connection clock bytes is_known denial).takes ≡ Some n
    → Taking s (Came connection clock bytes is_known denial)
unfolding came
came_taking names s connection clock bytes is_known denial n =
    choice (λ (t : Turn). t.takes ≡ Some n → Taking s (Came connection clock bytes is_known denial))
    (is_spent s) _ _
    (λ h some. absurd (false≢true (ap is_some some)))
    (λ h. taking_by names s connection clock bytes is_known denial n s.phase refl)

resets_nothing : (s : Session) → (resets s).takes ≡ None
resets_nothing s = choice (λ (t : Turn). t.takes ≡ None) (is_free s.phase) _ _ (λ h. refl) (λ h. refl)

ordered_nothing : (s : Session) (clock : Clock) (o : Order) → (ordered s clock o).takes ≡ None
unfolding ordered
ordered_nothing s clock order.Open = (ordered_up s clock order.Open refl).nothing
ordered_nothing s clock order.Close = (ordered_up s clock order.Close refl).nothing
ordered_nothing s clock order.Suspend = (ordered_up s clock order.Suspend refl).nothing
ordered_nothing s clock order.Resume = (ordered_up s clock order.Resume refl).nothing
ordered_nothing s clock order.Release = (ordered_up s clock order.Release refl).nothing
ordered_nothing s clock (order.Reset copies) =
    resets_nothing (record s { day = ordered_day s.day clock (order.Reset copies) })

taking : (names : Names) (s : Session) (e : Event) (n : ℕ) → (turn names s e).takes ≡ Some n
    → Taking s e
taking names s (Came connection clock bytes is_known denial) n some =
    came_taking names s connection clock bytes is_known denial n some
taking names s (Gone connection) n some = not_up s _ _ n s.day (gone_up s connection) some
taking names s (Given moment body) n some = not_up s _ _ n s.day (given_up s moment body) some
taking names s (Handed moment next_kept stored) n some =
    not_up s _ _ n s.day (hands_up s moment next_kept stored) some
taking names s (Tick moment) n some = not_up s _ _ n s.day (tick_up s moment) some
taking names s (Ordered clock o) n some = absurd (none_some _ n (ordered_nothing s clock o) some)
taking names s (LoggedOut moment reason) n some = not_up s _ _ n s.day (log_out_up s moment reason) some

pub taken_by_logon : (names : Names) (s : Session) (events : List Event) (e : Event) (number : ℕ)
    → s.phase ≡ phase.Away → (turn names (after names s events) e).takes ≡ Some number
    → (connection : ℕ) × IsLoggedOn names s events connection × CameOn connection e
taken_by_logon names s events e number away some =
    let takes = taking names (after names s events) e number some in
    (takes.connection, logged_on names s events takes.connection away takes.here, takes.came)

-- What moves the expected number.

still : (d e : Day) → d.expected ≡ e.expected → (d.expected == e.expected) ≡ false → ⊥
still d e same moved = false≢true (sym moved ∙ eq-eqb d.expected e.expected same)

freed_expected : (s : Session) (connection : ℕ) → (freed_of s connection).day.expected ≡ s.day.expected
freed_expected s connection =
    choice (λ (t : Session). t.day.expected ≡ s.day.expected) (has s.phase connection) _ _ (λ h. refl) (λ h. refl)

first_moved : (names : Names) (s : Session) (connection : ℕ) (clock : Clock) (bytes : List ℕ)
    (is_known : Bool) (denial : Option Denial)
    → ((came_first names s connection clock bytes is_known denial).session.day.expected == s.day.expected) ≡ false
    → (has s.phase connection ≡ true) ⊎ IsLogon names connection (Came connection clock bytes is_known denial)
first_moved names s connection clock bytes is_known denial moved =
    elim (first_cases s connection clock is_known denial (logon_of names bytes)) [
      | inl nothing ↦ absurd (still (came_first names s connection clock bytes is_known denial).session.day s.day
          (ap (λ (x : Session). x.day.expected) nothing.is) moved)
      | inr known ↦ inr (record {
        clock = clock;
        bytes = bytes;
        denial = denial;
        came = ap (λ b. Came connection clock bytes b denial) known.0;
        logon = known.1;
      })
    ]

moved_by : (names : Names) (s : Session) (connection : ℕ) (clock : Clock) (bytes : List ℕ)
    (is_known : Bool) (denial : Option Denial) (p : Phase) → s.phase ≡ p
    → ((came_by names s connection clock bytes is_known denial p).session.day.expected == s.day.expected) ≡ false
    → (has s.phase connection ≡ true) ⊎ IsLogon names connection (Came connection clock bytes is_known denial)
moved_by names s connection clock bytes is_known denial phase.Away is =
    λ moved. first_moved names s connection clock bytes is_known denial moved
moved_by names s connection clock bytes is_known denial (phase.On line) is =
    choice (λ (t : Turn). (t.session.day.expected == s.day.expected) ≡ false
    → (has s.phase connection ≡ true) ⊎ IsLogon names connection (Came connection clock bytes is_known denial))
    (line.connection == connection) _ _
    (λ h moved. inl (ap (λ p. has p connection) is ∙ h))
    (λ h moved. first_moved names s connection clock bytes is_known denial moved)
moved_by names s connection clock bytes is_known denial (phase.Leaving last since) is =
    choice (λ (t : Turn). (t.session.day.expected == s.day.expected) ≡ false
    → (has s.phase connection ≡ true) ⊎ IsLogon names connection (Came connection clock bytes is_known denial))
    (last == connection) _ _
    (λ h moved. inl (ap (λ p. has p connection) is ∙ h))
    (λ h moved. first_moved names s connection clock bytes is_known denial moved)

came_moved : (names : Names) (s : Session) (connection : ℕ) (clock : Clock) (bytes : List ℕ)
    (is_known : Bool) (denial : Option Denial)
    → ((came names s connection clock bytes is_known denial).session.day.expected == s.day.expected) ≡ false
    → (has s.phase connection ≡ true) ⊎ IsLogon names connection (Came connection clock bytes is_known denial)
unfolding came
came_moved names s connection clock bytes is_known denial =
    choice (λ (t : Turn). (t.session.day.expected == s.day.expected) ≡ false
    → (has s.phase connection ≡ true) ⊎ IsLogon names connection (Came connection clock bytes is_known denial))
    (is_spent s) _ _
    (λ h moved. absurd (still (freed_of s connection).day s.day (freed_expected s connection) moved))
    (λ h. moved_by names s connection clock bytes is_known denial s.phase refl)

on_this : (names : Names) (s : Session) (e : Event) (connection : ℕ) → CameOn connection e
    → ((turn names s e).session.day.expected == s.day.expected) ≡ false
    → (has s.phase connection ≡ true) ⊎ IsLogon names connection e
on_this names s e connection on =
    subst (λ x. ((turn names s x).session.day.expected == s.day.expected) ≡ false
    → (has s.phase connection ≡ true) ⊎ IsLogon names connection x) (sym on.came)
    (came_moved names s connection on.clock on.bytes on.is_known on.denial)

pub moved_by_logon : (names : Names) (s : Session) (events : List Event) (e : Event) (connection : ℕ)
    → s.phase ≡ phase.Away → CameOn connection e
    → ((turn names (after names s events) e).session.day.expected
    == (after names s events).day.expected) ≡ false
    → IsLoggedOn names s events connection ⊎ IsLogon names connection e
moved_by_logon names s events e connection away on moved =
    elim (on_this names (after names s events) e connection on moved) [
      | inl here ↦ inl (logged_on names s events connection away here)
      | inr logon ↦ inr logon
    ]
