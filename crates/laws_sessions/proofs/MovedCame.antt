-- How bytes move the expected number, whoever sent them.
use Rattle.std.proofs.Common.{◌≡◌, ℕ, Bool, ◌==◌, ◌&&◌, ◌||◌, List, ◌⊎◌, inl, inr, Option, Some, None, refl, sym, ap, subst, ◌∙◌}
use Rattle.fix_sessions.specs.Heard.{as_taken, heard_of, is_logout, logon_of}
use Rattle.fix_sessions.specs.Outcomes.{live, is_spent}
use Rattle.fix_sessions.specs.Logons.{first_by}
use Rattle.fix_sessions.specs.Steps.{came_leaving, came_by, came, freed_of, has}
use Rattle.fix_sessions.specs.declared.messages.Terms.{Terms}
use Rattle.fix_sessions.specs.declared.state.Clock.{Clock}
use Rattle.fix_sessions.specs.declared.state.Day.{Day}
use Rattle.fix_sessions.specs.declared.state.Phase.{Phase}
use Rattle.fix_sessions.specs.declared.state.Phase.TheVariants as phase
use Rattle.fix_sessions.specs.declared.state.Session.{Session}
use Rattle.fix_sessions.specs.declared.texts.Names.{Names}
use Rattle.fix_sessions.specs.declared.turns.Denial.{Denial}
use Rattle.fix_sessions.specs.declared.turns.Turn.{Turn}
use Rattle.laws_sessions.proofs.Choices.{choice}
use Rattle.laws_sessions.proofs.MovedRows.{live_moves}
use Rattle.laws_sessions.specs.Moves.{IsLogonCounted, IsMoved, IsRestart, IsStill, is_own, is_message, kind_in}
use Rattle.laws_sessions.proofs.MovedBytes.{Moved, borne, by_heard, leaving_as_moves}
use Rattle.laws_sessions.proofs.MovedLogons.{LogonMoves, judged_by_moves}

by_logon : (names : Names) (bytes : List ℕ) (terms : Terms) (d : Day) (t : Turn) → logon_of names bytes ≡ Some terms
    → LogonMoves terms d t → Moved names bytes d t
by_logon names bytes terms d t is (inl still) = inl still
by_logon names bytes terms d t is (inr rest) =
    elim rest [
      | inl counted ↦ inr (inr (inr (inl (subst (λ x. IsLogonCounted x d t) (sym is) counted))))
      | inr begun_anew ↦ inr (inr (inr (inr (subst (λ x. IsRestart x d t) (sym is) begun_anew))))
    ]

first_moves : (names : Names) (s : Session) (connection : ℕ) (clock : Clock) (bytes : List ℕ) (is_known : Bool) (denial : Option Denial)
    (terms : Option Terms) → logon_of names bytes ≡ terms
    → Moved names bytes s.day (first_by s connection clock is_known denial terms)
first_moves names s connection clock bytes is_known denial None is = inl refl
first_moves names s connection clock bytes is_known denial (Some terms) is =
    choice (Moved names bytes s.day) is_known _ _
    (λ h. by_logon names bytes terms s.day _ is (judged_by_moves s connection clock terms denial s.phase)) (λ h. inl refl)

came_leaving_moves : (names : Names) (s : Session) (connection : ℕ) (bytes : List ℕ)
    → Moved names bytes s.day (came_leaving names s connection bytes)
came_leaving_moves names s connection bytes =
    choice (Moved names bytes s.day) (is_logout bytes) _ _
    (λ h. elim (leaving_as_moves s connection (heard_of names bytes)) [
      | inl still ↦ inl still
      | inr counted ↦ inr (inl (record {
        numbered = sym (borne names bytes) ∙ counted.0;
        by_one = counted.1;
        dealt = inr (inr (inl (ap (λ b. b || (is_message bytes && is_own (kind_in bytes))) h)));
      }))
    ])
    (λ h. inl refl)

came_by_moves : (names : Names) (s : Session) (connection : ℕ) (clock : Clock) (bytes : List ℕ) (is_known : Bool) (denial : Option Denial)
    (p : Phase) → Moved names bytes s.day (came_by names s connection clock bytes is_known denial p)
came_by_moves names s connection clock bytes is_known denial phase.Away =
    first_moves names s connection clock bytes is_known denial (logon_of names bytes) refl
came_by_moves names s connection clock bytes is_known denial (phase.On line) =
    choice (Moved names bytes s.day) (line.connection == connection) _ _
    (λ h. by_heard names bytes denial s.day _ (live_moves (live s line) clock (as_taken denial (heard_of names bytes))))
    (λ h. first_moves names s connection clock bytes is_known denial (logon_of names bytes) refl)
came_by_moves names s connection clock bytes is_known denial (phase.Leaving last since) =
    choice (Moved names bytes s.day) (last == connection) _ _
    (λ h. came_leaving_moves names s connection bytes)
    (λ h. first_moves names s connection clock bytes is_known denial (logon_of names bytes) refl)

pub freed_still : (s : Session) (connection : ℕ) → (freed_of s connection).day.expected ≡ s.day.expected
freed_still s connection =
    choice (λ (t : Session). t.day.expected ≡ s.day.expected) (has s.phase connection) _ _ (λ h. refl) (λ h. refl)

pub came_moves : (names : Names) (s : Session) (connection : ℕ) (clock : Clock) (bytes : List ℕ) (is_known : Bool) (denial : Option Denial)
    → IsStill s.day (came names s connection clock bytes is_known denial)
    ⊎ IsMoved names bytes s.day (came names s connection clock bytes is_known denial)
unfolding came
came_moves names s connection clock bytes is_known denial =
    choice (Moved names bytes s.day) (is_spent s) _ _ (λ h. inl (freed_still s connection))
    (λ h. came_by_moves names s connection clock bytes is_known denial s.phase)
