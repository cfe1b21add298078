-- Firms that are on two sides of a venue: where each request names dealers of its investor's side
-- alone, nothing on one side changes what is due on the other.
--
-- That two investors ask no dealer in common is not enough. A third one may ask a dealer of each:
-- while a request of the first stays open, the quote on it takes from the exposure of its dealer,
-- and this dealer's quote to the third is refused; so the third has no `Q2` to hit, its request
-- stays open too, and takes from the exposure of the dealer that the second asks. So a side has,
-- with a dealer, every investor that asks it, and with an investor every dealer that it asks. Nor
-- may the clock have duties left: it has one queue, in which the notices of one room stand behind
-- those of another. It has none left in a day whose steps come one by one.
use Rattle.std.specs.Prelude.{◌≡◌, ℕ, not, Bool, true, false, List, filter}
use Rattle.std.specs.List.{list_any}
use Rattle.market_terms.specs.declared.duties.Duty.{Duty}
use Rattle.market_terms.specs.declared.duties.Duty.TheVariants as duty
use Rattle.venue_rows.specs.Rows.{Configuration}
use Rattle.venue_steps.specs.declared.actors.Actor.{Actor}
use Rattle.venue_steps.specs.declared.actors.Actor.TheVariants as actor
use Rattle.step_replay.specs.AuditTrail.{AuditTrail, Caused}
use Rattle.step_replay.specs.LiveDays.{live_trail}
use Rattle.step_replay.specs.declared.steps.Step.{Step}
use Rattle.step_replay.specs.declared.steps.Step.TheVariants as step

-- whether of two firms one is on this side and one on the other
abbrev pub are_parted : Bool → Bool → Bool
are_parted true other = not other
are_parted false other = other

-- whether a duty opens a request that names a dealer of the other side
abbrev pub asks_across : (ℕ → Bool) → Duty → Bool
asks_across side (duty.Open room ask dealers moment) =
    list_any (λ dealer. are_parted (side room.investor) (side dealer)) dealers
asks_across side other = false

-- Whether in a day an investor asked a dealer of the other side. A request that is refused leaves
-- nothing to open, so it is none that asks.
abbrev pub has_ask_across : (ℕ → Bool) → AuditTrail → Bool
has_ask_across side trail =
    list_any (λ (caused : Caused). asks_across side caused.duty) trail.caused

-- whether an actor is on this side: the clock is on none
abbrev pub acts_there : (ℕ → Bool) → Actor → Bool
acts_there side (actor.Firm firm) = side firm
acts_there side actor.Clock = false

-- whether a step is one of this side: a message or a turn of a firm there, or a sweep of the room
-- of an investor there
abbrev pub is_there : (ℕ → Bool) → Step → Bool
is_there side (step.In firm moment message) = side firm
is_there side (step.Turn by) = acts_there side by
is_there side (step.Expire room moment) = side room.investor

-- the steps of one side
abbrev pub steps_there : (ℕ → Bool) → List Step → List Step
steps_there side steps = filter (is_there side) steps

-- Two days whose steps come one by one have the same steps on one side, and in neither anybody asks
-- across. A side is given by which firms are on it.
pub record AreOneThere (config : Configuration) (side : ℕ → Bool) (steps others : List Step)
    : Type 0 where
  pub steps_are : steps_there side steps ≡ steps_there side others
  pub none_across : has_ask_across side (live_trail config steps) ≡ false
  pub none_across_too : has_ask_across side (live_trail config others) ≡ false
