-- Actions that are done only where a test holds, or where there is such a firm: a property that the
-- idle action has, and the action where it is done, holds of it anyway. The same of the actions of
-- two days.
use Rattle.std.proofs.Common.{◌≡◌, ℕ, Bool, true, false, List, [], Option, Some, None, option_map}
use Rattle.std.proofs.Common.{refl, sym, ap, ◌∙◌, if◌then◌else◌}
use Rattle.market_terms.specs.declared.closes.Close.{Close}
use Rattle.market_terms.specs.declared.rooms.RoomRef.{RoomRef}
use Rattle.venue_rows.specs.Rows.{Configuration, dealer_numbered, investor_numbered}
use Rattle.venue_rows.specs.declared.dealer_rows.DealerRow.{DealerRow}
use Rattle.venue_rows.specs.declared.investor_rows.InvestorRow.{InvestorRow}
use Rattle.dealer_desk.specs.DealerOutput.{number_in}
use Rattle.dealer_desk.specs.declared.events.DealerEvent.TheVariants as at_desk
use Rattle.investor_desk.specs.InvestorDesk.{market_for, market_of}
use Rattle.investor_desk.specs.InvestorRules.{InvestorMarket}
use Rattle.step_replay.specs.Actions.{Dealer, Effect, at_dealer, dealer_at, dealer_of, done_by}
use Rattle.step_replay.specs.Actions.{done_for, nothing, received_by_dealer, received_by_investor}
use Rattle.step_replay.specs.Actions.{told_of, told_to}
use Rattle.step_replay.specs.DealerTrail.{DealerEntry, rooms_by}
use Rattle.step_replay.specs.VenueFacts.{Fact, of_dealer}

-- what a message of a firm does that is a dealer, or that is none
abbrev pub message_of : Configuration → List Fact → ℕ → ℕ → List ℕ → Bool → Effect
message_of config facts firm moment bytes b =
    if b
    then done_by (dealer_at config firm) (received_by_dealer config facts moment bytes)
    else done_for (market_for config firm) (received_by_investor facts moment bytes)

module _ (R : Effect → Type 0) (idle : R nothing) where
  pub if_does : (b : Bool) (effect : Effect) → R effect → R (if b then effect else nothing)
  if_does true effect is = is
  if_does false effect is = idle

  pub unless_does : (b : Bool) (effect : Effect) → R effect → R (if b then nothing else effect)
  unless_does true effect is = idle
  unless_does false effect is = is

  pub by_does : (found : Option Dealer) (act : Dealer → Effect)
      → ((dealer : Dealer) → R (act dealer)) → R (done_by found act)
  by_does None act each = idle
  by_does (Some dealer) act each = each dealer

  module _ (config : Configuration) where
    pub numbered_does : (number : ℕ) (act : Dealer → Effect)
        → ((row : DealerRow) → dealer_numbered config number ≡ Some row
        → R (act (dealer_of number row))) → R (done_by (dealer_at config number) act)
    numbered_does number act each = by_row (dealer_numbered config number) refl
      where
        by_row : (found : Option DealerRow) → dealer_numbered config number ≡ found
            → R (done_by (option_map (dealer_of number) found) act)
        by_row None is = idle
        by_row (Some row) is = each row is

    pub invested_does : (number : ℕ) (act : InvestorMarket → Effect)
        → ((row : InvestorRow) → R (act (market_of config number row)))
        → R (done_for (market_for config number) act)
    invested_does number act each = by_row (investor_numbered config number)
      where
        by_row : (found : Option InvestorRow)
            → R (done_for (option_map (market_of config number) found) act)
        by_row None = idle
        by_row (Some row) = each row

    pub told_does : (facts : List Fact) (dealer : Dealer) (close : Close) (moment : ℕ)
        (request : Option ℕ)
        → ((number : ℕ) → R (at_dealer config facts dealer (at_desk.Told number close moment) []))
        → R (told_of config facts dealer close moment request)
    told_does facts dealer close moment None each = idle
    told_does facts dealer close moment (Some number) each =
        if_does _ (at_dealer config facts dealer (at_desk.Told number close moment) [])
        (each number)

-- in two days
module _ (R : Effect → Effect → Type 0) (idle : R nothing nothing) where
  pub if_both : (b c : Bool) (one other : Effect) → b ≡ c → R one other
      → R (if b then one else nothing) (if c then other else nothing)
  if_both true true one other same is = is
  if_both true false one other same is = cc
  if_both false true one other same is = cc
  if_both false false one other same is = idle

  pub by_both : (found : Option Dealer) (one other : Dealer → Effect)
      → ((dealer : Dealer) → R (one dealer) (other dealer))
      → R (done_by found one) (done_by found other)
  by_both None one other each = idle
  by_both (Some dealer) one other each = each dealer

  module _ (config : Configuration) where
    pub numbered_both : (number : ℕ) (one other : Dealer → Effect)
        → ((row : DealerRow) → dealer_numbered config number ≡ Some row
        → R (one (dealer_of number row)) (other (dealer_of number row)))
        → R (done_by (dealer_at config number) one) (done_by (dealer_at config number) other)
    numbered_both number one other each = by_row (dealer_numbered config number) refl
      where
        by_row : (found : Option DealerRow) → dealer_numbered config number ≡ found
            → R (done_by (option_map (dealer_of number) found) one)
            (done_by (option_map (dealer_of number) found) other)
        by_row None is = idle
        by_row (Some row) is = each row is

    pub invested_both : (number : ℕ) (one other : InvestorMarket → Effect)
        → ((row : InvestorRow)
        → R (one (market_of config number row)) (other (market_of config number row)))
        → R (done_for (market_for config number) one) (done_for (market_for config number) other)
    invested_both number one other each = by_row (investor_numbered config number)
      where
        by_row : (found : Option InvestorRow)
            → R (done_for (option_map (market_of config number) found) one)
            (done_for (option_map (market_of config number) found) other)
        by_row None = idle
        by_row (Some row) = each row

-- what a dealer is told is the same by the same trail
module _ (config : Configuration) (facts others : List Fact) (dealer : Dealer)
    (trails : of_dealer dealer.number others ≡ of_dealer dealer.number facts) where
  told_of_same : (close : Close) (moment : ℕ) (request : Option ℕ)
      → told_of config facts dealer close moment request
      ≡ told_of config others dealer close moment request
  told_of_same close moment None = refl
  told_of_same close moment (Some request) = rw trails refl

  pub told_to_same : (room : RoomRef) (close : Close) (moment : ℕ)
      → told_to config facts room close moment dealer
      ≡ told_to config others room close moment dealer
  told_to_same room close moment =
      ap (λ (trail : List DealerEntry).
      told_of config facts dealer close moment (number_in (rooms_by trail) room)) (sym trails)
      ∙ told_of_same close moment (number_in (rooms_by (of_dealer dealer.number others)) room)
