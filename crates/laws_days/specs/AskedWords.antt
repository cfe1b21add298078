-- Which step of a day asks the word of a quote: a message of its dealer, or the turn of a drop of
-- its dealer, which would withdraw the quote; or the turn of a hit, which would lift it.
use Rattle.std.specs.Prelude.{◌≡◌, ℕ, List, ◌∷◌, ◌++◌, Some}
use Rattle.market_terms.specs.declared.duties.Duty.{Duty}
use Rattle.market_terms.specs.declared.duties.Duty.TheVariants as duty
use Rattle.market_terms.specs.declared.rooms.ResponseRef.{ResponseRef}
use Rattle.market_terms.specs.declared.rooms.RoomRef.{RoomRef}
use Rattle.venue_rows.specs.Rows.{Configuration}
use Rattle.venue_rows.specs.declared.dealer_rows.DealerRow.{DealerRow}
use Rattle.dealer_desk.specs.DealerFacts.{number_to_drop}
use Rattle.dealer_desk.specs.DealerOutput.{word_asked}
use Rattle.venue_steps.specs.RoomDuties.{hit_word}
use Rattle.venue_steps.specs.Dealers.{dealer_of}
use Rattle.venue_steps.specs.declared.actors.Actor.{Actor}
use Rattle.venue_steps.specs.declared.actors.Actor.TheVariants as actor
use Rattle.step_replay.specs.Actions.{quote_asked, verdict_on}
use Rattle.step_replay.specs.AuditTrail.{AuditTrail, audit_trail, pending}
use Rattle.step_replay.specs.DealerTrail.{book_by}
use Rattle.step_replay.specs.VenueFacts.{of_dealer, of_room}
use Rattle.step_replay.specs.declared.steps.Step.{Step}
use Rattle.step_replay.specs.declared.steps.Step.TheVariants as step

-- one of the steps is so, by the day before it
pub record HasStep (config : Configuration) (steps : List Step) (P : AuditTrail → Step → Type 0)
    : Type 0 where
  pub before : List Step
  pub now : Step
  pub after : List Step
  pub parts : steps ≡ before ++ now ∷ after
  pub is_so : P (audit_trail config before) now

module _ (config : Configuration) (dealer : ℕ) (quote : ℕ) (venue : AuditTrail) where
  -- the verdict on a message of the dealer asks the word of this quote
  pub record IsAskedBy (row : DealerRow) (firm moment : ℕ) (bytes : List ℕ) : Type 0 where
    pub firm_is : firm ≡ dealer
    pub asks : word_asked (verdict_on config venue.facts moment bytes (dealer_of dealer row))
        ≡ Some quote

  -- the oldest duty of the dealer is a drop, which takes this quote
  pub record IsDropped (by : Actor) : Type 0 where
    pub last : ℕ
    pub moment : ℕ
    pub rest : List Duty
    pub by_is : by ≡ actor.Firm dealer
    pub duty_is : pending by venue ≡ duty.Drop last moment ∷ rest
    pub takes : number_to_drop (book_by (of_dealer dealer venue.facts)) last ≡ Some quote

  -- the oldest duty of an actor is a hit, which asks the word of this quote
  pub record IsHit (by : Actor) : Type 0 where
    pub room : RoomRef
    pub response : ResponseRef
    pub word : ℕ
    pub moment : ℕ
    pub rest : List Duty
    pub duty_is : pending by venue ≡ duty.Hit room response word moment ∷ rest
    pub asks : quote_asked config (hit_word (of_room room venue.facts) word moment)
        ≡ Some (record { dealer = dealer; quote = quote })

-- a step would withdraw a quote of a dealer with this row
abbrev pub WouldWithdraw : Configuration → ℕ → DealerRow → ℕ → AuditTrail → Step → Type 0
WouldWithdraw config dealer row quote venue (step.In firm moment bytes) =
    IsAskedBy config dealer quote venue row firm moment bytes
WouldWithdraw config dealer row quote venue (step.Turn by) = IsDropped config dealer quote venue by
WouldWithdraw config dealer row quote venue (step.Expire room moment) = ⊥

-- a step would lift a quote of a dealer
abbrev pub WouldLift : Configuration → ℕ → ℕ → AuditTrail → Step → Type 0
WouldLift config dealer quote venue (step.Turn by) = IsHit config dealer quote venue by
WouldLift config dealer quote venue other = ⊥
