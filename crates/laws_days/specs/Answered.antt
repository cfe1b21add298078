-- What becomes of a message that a firm sends in its turn.
use Rattle.std.specs.Prelude.{◌≡◌, ℕ, Bool, true, false, List, [], ◌∷◌, ◌++◌, count_by, is_some}
use Rattle.std.specs.Prelude.{if◌then◌else◌}
use Rattle.std.specs.List.{list_any}
use Rattle.market_terms.specs.declared.duties.Duty.{Duty}
use Rattle.market_terms.specs.declared.duties.Duty.TheVariants as duty
use Rattle.venue_rows.specs.Rows.{Configuration, dealer_numbered}
use Rattle.venue_steps.specs.declared.actors.Actor.TheVariants as actor
use Rattle.dealer_desk.specs.DealerFacts as at_dealer
use Rattle.investor_desk.specs.InvestorFacts as at_investor
use Rattle.step_replay.specs.AuditTrail.{AuditTrail, Caused, sent_to}
use Rattle.step_replay.specs.DealerTrail as dealer_trail
use Rattle.step_replay.specs.InvestorTrail as investor_trail
use Rattle.step_replay.specs.VenueFacts.{of_dealer, of_investor}

-- how many messages of a firm have used up their numbers (34)
abbrev pub numbers_used : Configuration → ℕ → AuditTrail → ℕ
numbers_used config firm day =
    if is_some (dealer_numbered config firm)
    then count_by at_dealer.used_number (dealer_trail.facts_of (of_dealer firm day.facts))
    else count_by at_investor.used_number (investor_trail.facts_of (of_investor firm day.facts))

-- whether a duty is one of those by which a message waits for its answer: a hit or a pass, on which
-- the room decides, or the drops of a cancel of all
abbrev pub is_awaited : Duty → Bool
is_awaited (duty.Hit room response word moment) = true
is_awaited (duty.Pass room response moment) = true
is_awaited (duty.Drop last moment) = true
is_awaited other = false

abbrev pub is_awaited_duty : Caused → Bool
is_awaited_duty caused = is_awaited caused.duty

-- Between these two days the firm was sent one message more, and no duty was left by which it would
-- wait for another.
pub record IsAnsweredOnce (config : Configuration) (firm : ℕ) (before after : AuditTrail) : Type 0 where
  pub message : List ℕ
  pub sent : sent_to config firm after ≡ sent_to config firm before ++ message ∷ []
  pub left : List Caused
  pub caused : after.caused ≡ before.caused ++ left
  pub none_awaited : list_any is_awaited_duty left ≡ false

-- Between these two days the firm was sent nothing, and one duty of its own was left, by which it
-- waits for its answer.
pub record Awaits (config : Configuration) (firm : ℕ) (before after : AuditTrail) : Type 0 where
  pub sent : sent_to config firm after ≡ sent_to config firm before
  pub duty : Duty
  pub caused : after.caused ≡ before.caused ++ record { by = actor.Firm firm; duty = duty } ∷ []
  pub awaited : is_awaited duty ≡ true
