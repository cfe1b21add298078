-- What a session is once its connections are gone, and what a start gives again.
use Rattle.std.proofs.Common.{◌≡◌, ℕ, Bool, true, false, ◌||◌, ◌&&◌, not, nat_lt, List, Option, Some, None, ap, refl, sym, subst, ◌∙◌, if◌then◌else◌}
use Rattle.std.proofs.Common.{eq-eqb}
use Rattle.std.proofs.lemmas.Bool.{false≢true}
use Rattle.fix_fields.specs.Frame.{Field}
use Rattle.fix_sessions.specs.Logons.{without}
use Rattle.fix_sessions.specs.Outcomes.{are_bounded, free, is_clear, is_spent, live, said}
use Rattle.fix_sessions.specs.Sending.{given_on, hands, hands_by, is_answer, is_reject, is_resending, keeps_one}
use Rattle.fix_sessions.specs.Steps.{given, given_by, gone, has}
use Rattle.fix_sessions.specs.declared.state.Day.{Day}
use Rattle.fix_sessions.specs.declared.state.Line.{Line}
use Rattle.fix_sessions.specs.declared.state.Live.{Live}
use Rattle.fix_sessions.specs.declared.state.Phase.{Phase}
use Rattle.fix_sessions.specs.declared.state.Phase.TheVariants as phase
use Rattle.fix_sessions.specs.declared.state.Session.{Session}
use Rattle.fix_sessions.specs.declared.state.Waiting.{Waiting}
use Rattle.fix_sessions.specs.declared.state.TheConstants.{LAST_NUMBER}
use Rattle.fix_sessions.specs.declared.texts.Names.{Names}
use Rattle.fix_sessions.specs.declared.turns.Stored.{Stored}
use Rattle.fix_sessions.specs.declared.turns.Turn.{Turn}
use Rattle.fix_sessions.specs.declared.turns.Way.TheVariants as way
use Rattle.fix_sessions.specs.declared.turns.Word.TheVariants as word
use Rattle.laws_sessions.proofs.Choices.{choice}
use Rattle.laws_sessions.specs.Days.{Event, turns}
use Rattle.laws_sessions.specs.Kept.{entered}
use Rattle.laws_sessions.specs.Restarts.{restarted}

-- The connection that has the session is gone.

freed_is : (s : Session) (connection : ℕ) → has s.phase connection ≡ true
    → (gone s connection).session ≡ free s
freed_is s connection here =
    ap (λ b. if b then free s else record s { waiting = without connection s.waiting }) here

none_waits : (s : Session) (waiting : Option Waiting) → s.waiting ≡ waiting
    → free s ≡ record { day = s.day; phase = phase.Away; waiting = waiting }
none_waits s waiting is = ap (λ w. record s { phase = phase.Away; waiting = w }) is

pub one_gone : (s : Session) (connection : ℕ) → has s.phase connection ≡ true → s.waiting ≡ None
    → (gone s connection).session ≡ restarted s.day
one_gone s connection here none = freed_is s connection here ∙ none_waits s None none

-- who waits is gone
without_itself : (waiting : Waiting) → without waiting.connection (Some waiting) ≡ None
without_itself waiting =
    ap (λ b. if b then None else Some waiting) (eq-eqb waiting.connection waiting.connection refl)

waiting_gone : (d : Day) (waiting : Waiting)
    → (gone (record { day = d; phase = phase.Away; waiting = Some waiting }) waiting.connection).session
    ≡ restarted d
waiting_gone d waiting =
    ap (λ w. record { day = d; phase = phase.Away; waiting = w }) (without_itself waiting)

pub two_gone : (s : Session) (connection : ℕ) (waiting : Waiting) → has s.phase connection ≡ true
    → s.waiting ≡ Some waiting
    → (gone (gone s connection).session waiting.connection).session ≡ restarted s.day
two_gone s connection waiting here waits =
    ap (λ t. (gone t waiting.connection).session)
    (freed_is s connection here ∙ none_waits s (Some waiting) waits)
    ∙ waiting_gone s.day waiting

-- and where no connection has the session, who waits is all that is left
only_waits : (s : Session) (waiting : Waiting) → s.phase ≡ phase.Away → s.waiting ≡ Some waiting
    → s ≡ record { day = s.day; phase = phase.Away; waiting = Some waiting }
only_waits s waiting away waits =
    ap (λ p. record s { phase = p }) away
    ∙ ap (λ w. record s { phase = phase.Away; waiting = w }) waits

pub last_gone : (s : Session) (waiting : Waiting) → s.phase ≡ phase.Away → s.waiting ≡ Some waiting
    → (gone s waiting.connection).session ≡ restarted s.day
last_gone s waiting away waits =
    ap (λ t. (gone t waiting.connection).session) (only_waits s waiting away waits)
    ∙ waiting_gone s.day waiting

pub same_from_then_on : (names : Names) (s : Session) (connection : ℕ) (events : List Event)
    → has s.phase connection ≡ true → s.waiting ≡ None
    → turns names (gone s connection).session events ≡ turns names (restarted s.day) events
same_from_then_on names s connection events here none =
    ap (λ t. turns names t events) (one_gone s connection here none)

-- What is kept leaves as a resend.

abbrev Resends : Line → Stored → Turn → Type 0
Resends line stored t =
    t.first ≡ said line.again way.Leaves (word.Again stored.body stored.is_copy stored.first)

pub resend_gives : (s : Session) (line : Line) (now next_kept : ℕ) (stored : Stored) → is_spent s ≡ false
    → s.phase ≡ phase.On line → is_resending line ≡ true → is_answer stored ≡ false
    → (hands s now next_kept (Some stored)).first
    ≡ said line.again way.Leaves (word.Again stored.body stored.is_copy stored.first)
unfolding hands
resend_gives s line now next_kept stored spent is asks answer =
    choice (Resends line stored) (is_spent s) _ _ (λ h. absurd (false≢true (sym spent ∙ h)))
    (λ h. subst (λ p. Resends line stored (hands_by s now next_kept (Some stored) p)) (sym is)
    (choice (Resends line stored) (is_resending line) _ _
    (λ k. choice (Resends line stored) (is_answer stored) _ _ (λ g. absurd (false≢true (sym answer ∙ g))) (λ g. refl))
    (λ k. absurd (false≢true (sym k ∙ asks)))))

-- A message of the venue is given again.

-- numbers that are not used up are not used up after a restart
spent_parts : (a b c : Bool) → ((a || b) || not c) ≡ false → ((a || b) || not true) ≡ false
spent_parts true b c h = absurd (false≢true (sym h))
spent_parts false true c h = absurd (false≢true (sym h))
spent_parts false false c h = refl

not_spent : (s : Session) → is_spent s ≡ false → is_spent (restarted s.day) ≡ false
not_spent s h =
    spent_parts (nat_lt LAST_NUMBER s.day.next) (nat_lt LAST_NUMBER s.day.expected)
    (are_bounded s.day s.phase) h

-- what it does in any phase: it is kept under the next number
pub record IsGiven (d : Day) (body : List Field) (t : Turn) : Type 0 where
  pub day : t.session.day ≡ keeps_one d
  pub kept : entered t.first ≡ entered (given_by (restarted d) 0 body phase.Away).first

given_on_is : (a : Live) (now : ℕ) (body : List Field) → IsGiven a.day body (given_on a now body)
given_on_is a now body =
    choice (IsGiven a.day body) (is_clear a && (a.line.is_settled || not (is_reject body))) _ _
    (λ h. record { day = refl; kept = refl }) (λ h. record { day = refl; kept = refl })

given_by_is : (s : Session) (now : ℕ) (body : List Field) (p : Phase)
    → IsGiven s.day body (given_by s now body p)
given_by_is s now body phase.Away = record { day = refl; kept = refl }
given_by_is s now body (phase.On line) = given_on_is (live s line) now body
given_by_is s now body (phase.Leaving connection since) = record { day = refl; kept = refl }

pub given_is : (s : Session) (now : ℕ) (body : List Field) → is_spent s ≡ false
    → IsGiven s.day body (given s now body)
unfolding given
given_is s now body h =
    choice (IsGiven s.day body) (is_spent s) _ _ (λ e. absurd (false≢true (sym h ∙ e)))
    (λ e. given_by_is s now body s.phase)

pub day_again : (s : Session) (moment later : ℕ) (body : List Field) → is_spent s ≡ false
    → (given (restarted s.day) later body).session.day ≡ (given s moment body).session.day
day_again s moment later body h =
    (given_is (restarted s.day) later body (not_spent s h)).day
    ∙ sym (given_is s moment body h).day

pub kept_again : (s : Session) (moment later : ℕ) (body : List Field) → is_spent s ≡ false
    → entered (given (restarted s.day) later body).first ≡ entered (given s moment body).first
kept_again s moment later body h =
    (given_is (restarted s.day) later body (not_spent s h)).kept
    ∙ sym (given_is s moment body h).kept
