-- Until an investor hits a quote, no dealer can tell what other dealers do: two days that differ in
-- their steps alone, and in which nobody hits, are one to it.
use Rattle.std.specs.Prelude.{◌≡◌, ℕ, ◌==◌, ◌&&◌, not, Bool, true, false, List, filter}
use Rattle.std.specs.Prelude.{Option, Some, None, is_some, codes}
use Rattle.std.specs.List.{list_any}
use Rattle.fix_fields.specs.Frame.{Field, frame_of}
use Rattle.market_terms.specs.declared.duties.Duty.{Duty}
use Rattle.market_terms.specs.declared.duties.Duty.TheVariants as duty
use Rattle.quote_messages.specs.SessionLines.{has_number, text_at}
use Rattle.venue_rows.specs.Texts.{same_text}
use Rattle.venue_rows.specs.Rows.{Configuration, dealer_numbered}
use Rattle.venue_steps.specs.declared.actors.Actor.{Actor}
use Rattle.venue_steps.specs.declared.actors.Actor.TheVariants as actor
use Rattle.step_replay.specs.AuditTrail.{Caused, audit_trail}
use Rattle.step_replay.specs.declared.steps.Step.{Step}
use Rattle.step_replay.specs.declared.steps.Step.TheVariants as step

-- whether a firm is a dealer, and not this one
abbrev pub is_another : Configuration → ℕ → ℕ → Bool
is_another config dealer firm =
    is_some (dealer_numbered config firm) && not (firm == dealer)

-- whether an actor is
abbrev pub acts_as_another : Configuration → ℕ → Actor → Bool
acts_as_another config dealer (actor.Firm firm) = is_another config dealer firm
acts_as_another config dealer actor.Clock = false

-- whether a step is one of another dealer: a message of its, whatever it is, or its turn
abbrev pub is_of_another : Configuration → ℕ → Step → Bool
is_of_another config dealer (step.In firm moment message) = is_another config dealer firm
is_of_another config dealer (step.Turn by) = acts_as_another config dealer by
is_of_another config dealer (step.Expire room moment) = false

-- a day without the steps of other dealers
abbrev pub without_others : Configuration → ℕ → List Step → List Step
without_others config dealer steps = filter (λ s. not (is_of_another config dealer s)) steps

-- whether a duty brings a hit to its room
abbrev pub is_hit : Duty → Bool
is_hit (duty.Hit room response word moment) = true
is_hit other = false

-- Whether an investor hit a quote that it was shown. A hit of a quote that it was not shown is
-- refused at its own desk, and leaves nothing.
abbrev pub has_hit : Configuration → List Step → Bool
has_hit config steps =
    list_any (λ (caused : Caused). is_hit caused.duty) (audit_trail config steps).caused

-- two days that are one but for the steps of other dealers, and in neither of which anyone hits
pub record AreOneBesides (config : Configuration) (dealer : ℕ) (steps others : List Step)
    : Type 0 where
  pub steps_are : without_others config dealer steps ≡ without_others config dealer others
  pub none_hits : has_hit config steps ≡ false
  pub none_hits_too : has_hit config others ≡ false

-- Messages that hit.

-- whether a frame is a hit: a QuoteResponse (35=AJ) whose QuoteRespType (694) is 1
abbrev pub says_hit : Option (List Field) → Bool
says_hit None = false
says_hit (Some fields) =
    same_text (codes "AJ") (text_at 35 fields) && has_number 694 1 fields

-- whether a step brings one of a firm that is no dealer
abbrev pub brings_hit : Configuration → Step → Bool
brings_hit config (step.In firm moment message) =
    not (is_some (dealer_numbered config firm)) && says_hit (frame_of message)
brings_hit config (step.Turn by) = false
brings_hit config (step.Expire room moment) = false
