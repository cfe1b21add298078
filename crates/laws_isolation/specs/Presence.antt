-- Presence: two days of one venue, side by side, that are the same but for what dealers other than
-- one do, and but for which quote a hit names. The same requests are awarded to the same dealers in
-- both, message by message.
use Rattle.std.specs.Prelude.{◌≡◌, ℕ, ◌⊎◌, true, false, List, [], filter_map, take, Option, Some}
use Rattle.std.specs.Prelude.{None, is_some, if◌then◌else◌}
use Rattle.std.specs.List.{AllZip}
use Rattle.std.specs.Option.{option_map}
use Rattle.fix_fields.specs.Frame.{Field, IsFrame}
use Rattle.market_terms.specs.declared.rooms.RoomRef.{RoomRef}
use Rattle.venue_rows.specs.Rows.{Configuration, dealer_numbered}
use Rattle.request_room.specs.RoomFacts.{RoomFact, Ended, is_awarded_kind}
use Rattle.venue_steps.specs.declared.actors.Actor.{Actor}
use Rattle.step_replay.specs.AuditTrail.{AuditTrail, Caused, audit_trail, pending}
use Rattle.step_replay.specs.Lists.{Every}
use Rattle.step_replay.specs.LiveDays.{live_trail}
use Rattle.step_replay.specs.VenueFacts.{Fact, AtDealer, InRoom, AtInvestor}
use Rattle.step_replay.specs.declared.steps.Step.{Step}
use Rattle.step_replay.specs.declared.steps.Step.TheVariants as step
use Rattle.laws_isolation.specs.Silence.{is_hit, is_of_another, says_hit}

-- Two days, side by side.

-- a step of the first day alone, a step of the second alone, or a step of each
pub data Beside : Type 0 where
  First : Step → Beside
  Second : Step → Beside
  Both : Step → Step → Beside

abbrev pub in_first : Beside → Option Step
in_first (First s) = Some s
in_first (Second s) = None
in_first (Both one other) = Some one

abbrev pub in_second : Beside → Option Step
in_second (First s) = None
in_second (Second s) = Some s
in_second (Both one other) = Some other

-- the steps of each day
abbrev pub first_day : List Beside → List Step
first_day days = filter_map in_first days

abbrev pub second_day : List Beside → List Step
second_day days = filter_map in_second days

-- What may differ.

-- two fields are the same, or both are a QuoteID (117)
abbrev pub IsSameOrQuote : Field → Field → Type 0
IsSameOrQuote one other = (one ≡ other) ⊎ ((one.0 ≡ 117) × (other.0 ≡ 117))

-- Two steps are one message of a firm that is no dealer, at one moment: a hit, in which the quote
-- that it names (117) alone may differ. BodyLength (9) and CheckSum (10), which are no fields of a
-- body, may differ with it.
pub record AreHitsOfQuotes (config : Configuration) (one other : Step) : Type 0 where
  pub firm : ℕ
  pub no_dealer : is_some (dealer_numbered config firm) ≡ false
  pub moment : ℕ
  pub message : List ℕ
  pub message_too : List ℕ
  pub one_is : one ≡ step.In firm moment message
  pub other_is : other ≡ step.In firm moment message_too
  pub fields : List Field
  pub fields_too : List Field
  pub is_frame : IsFrame message fields
  pub is_frame_too : IsFrame message_too fields_too
  pub hits : says_hit (Some fields) ≡ true
  pub fields_are : AllZip IsSameOrQuote fields fields_too

-- a step of one day alone is another dealer's: a message of its, or its turn; a step of both is the
-- same, or a hit
abbrev pub IsBeside : Configuration → ℕ → Beside → Type 0
IsBeside config dealer (First s) = is_of_another config dealer s ≡ true
IsBeside config dealer (Second s) = is_of_another config dealer s ≡ true
IsBeside config dealer (Both one other) = (one ≡ other) ⊎ AreHitsOfQuotes config one other

-- Awards and hits.

-- a request that was awarded, and the dealer whose quote was hit
pub record Award : Type 0 where
  pub room : RoomRef
  pub winner : Option ℕ

-- the award that a fact of a room is, if it is one
abbrev pub awarded_by : RoomRef → RoomFact → Option Award
awarded_by room (Ended end moment) =
    if is_awarded_kind end.kind
    then Some (record { room = room; winner = option_map (λ (won : ℕ × ℕ). won.0) end.winner })
    else None
awarded_by room fact = None

abbrev pub award_in : Fact → Option Award
award_in (AtDealer dealer entry) = None
award_in (InRoom room fact) = awarded_by room fact
award_in (AtInvestor investor entry) = None

-- what was awarded in a day, to whom, in its order
abbrev pub awards : AuditTrail → List Award
awards day = filter_map award_in day.facts

-- who left a hit to be done, where a duty is one
abbrev pub hit_left : Caused → Option Actor
hit_left caused = if is_hit caused.duty then Some caused.by else None

-- who left hits in a day, in its order: a hit of a quote that its firm was not shown leaves none
abbrev pub hits_left : AuditTrail → List Actor
hits_left day = filter_map hit_left day.caused

-- Two days that are the same to a dealer but for the presence of others.
pub record AreOneButForPresence (config : Configuration) (dealer : ℕ) (days : List Beside)
    : Type 0 where
  pub are_beside : Every (IsBeside config dealer) days
  -- behind each step the same requests have been awarded, to the same dealers
  pub awards_are : (so_far : ℕ)
      → awards (audit_trail config (first_day (take so_far days)))
      ≡ awards (audit_trail config (second_day (take so_far days)))
  -- and the same messages have left a hit
  pub hits_are : (so_far : ℕ)
      → hits_left (audit_trail config (first_day (take so_far days)))
      ≡ hits_left (audit_trail config (second_day (take so_far days)))

-- Two live days that are so: all turns of a step's actor are done behind it, and behind each step
-- no work is left in either. Which messages leave a hit may differ.
pub record AreOneButForPresenceLive (config : Configuration) (dealer : ℕ) (days : List Beside)
    : Type 0 where
  pub are_beside : Every (IsBeside config dealer) days
  pub awards_are : (so_far : ℕ)
      → awards (live_trail config (first_day (take so_far days)))
      ≡ awards (live_trail config (second_day (take so_far days)))
  pub none_left : (so_far : ℕ) (by : Actor)
      → pending by (live_trail config (first_day (take so_far days))) ≡ []
  pub none_left_too : (so_far : ℕ) (by : Actor)
      → pending by (live_trail config (second_day (take so_far days))) ≡ []
