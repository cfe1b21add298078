-- What is told of a turn, where what C handed in is known by other names.
use Rattle.std.proofs.Common.{◌≡◌, ◌==◌, ℕ, Bool, true, false, List, [], length, arith, Some, None, is_some, subst, sym, ap, if◌then◌else◌}
use Rattle.std.proofs.lemmas.Bool.{false≢true}
use Rattle.std.proofs.lemmas.Bool.Decides.{nat_tests}
use Rattle.std.proofs.lemmas.List.{nil_from_length}
use Rattle.std.proofs.lemmas.Option.{same_Some}
use Rattle.fix_fields.specs.Frame.{Field}
use Rattle.fix_sessions.specs.declared.texts.Names.{Names}
use Rattle.fix_sessions.specs.declared.turns.Turn.{Turn}
use Rattle.fix_sessions.specs.declared.state.Clock.{Clock}
use Rattle.fix_sessions_c.specs.Told.{IsClock, IsTold}
use Rattle.fix_sessions_c.specs.declared.states.SessionState.{SessionState}
use Rattle.fix_sessions_c.specs.declared.told.Told.{Told}

pub told_as : (names : Names) (date date_too : List ℕ) (moment moment_too : ℕ) (turn turn_too : Turn)
    (session : SessionState) (out : List ℕ) (report : Told)
    → date ≡ date_too → moment ≡ moment_too → turn ≡ turn_too
    → IsTold names date moment turn session out report
    → IsTold names date_too moment_too turn_too session out report
told_as names date date_too moment moment_too turn turn_too session out report d m t told =
    subst (λ x. IsTold names date_too moment_too x session out report) t
    (subst (λ x. IsTold names date_too x turn session out report) m
    (subst (λ x. IsTold names x moment turn session out report) d told))

-- a frame that leaves room for the header is what is kept
pub body_is : (b : Bool) (frame body : List Field)
    → Some body ≡ (if b then Some frame else None) → frame ≡ body
body_is true frame body is = same_Some frame body (sym is)
body_is false frame body is = absurd (false≢true (sym (ap is_some is)))

pub clock_as : (date date_too : List ℕ) (moment moment_too : ℕ) (clock : Clock)
    → date ≡ date_too → moment ≡ moment_too → IsClock date moment clock
    → IsClock date_too moment_too clock
clock_as date date_too moment moment_too clock d m is =
    subst (λ x. IsClock date_too x clock) m (subst (λ x. IsClock x moment clock) d is)

-- no bytes
pub empty_is : (bytes : List ℕ) → true ≡ (length bytes == 0) → bytes ≡ []
empty_is bytes is = nil_from_length bytes (none (length bytes) is)
  where
    none : (n : ℕ) → true ≡ (n == 0) → n ≡ 0
    none n is = grind (arith, nat_tests)
