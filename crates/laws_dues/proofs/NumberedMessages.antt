-- A message of a firm, by what it adds at investors' desks and by what it leaves: a dealer's leaves a
-- post only with a quote that it accepts.
use Rattle.std.proofs.Common.{◌≡◌, ℕ, ◌+◌, Bool, true, false, List, [], ◌∷◌, map}
use Rattle.std.proofs.Common.{option_map, option_to_list, Option, Some, None, is_some}
use Rattle.std.proofs.Common.{if◌then◌else◌, sym, ap, ◌∙◌, subst, arith}
use Rattle.venue_rows.specs.Rows.{Configuration, dealer_numbered, investor_numbered}
use Rattle.venue_rows.specs.declared.dealer_rows.DealerRow.{DealerRow}
use Rattle.venue_rows.specs.declared.investor_rows.InvestorRow.{InvestorRow}
use Rattle.dealer_desk.specs.DealerFacts.{Came}
use Rattle.dealer_desk.specs.DealerOutput as dealer_output
use Rattle.dealer_desk.specs.DealerOutput.{uses_number, verdict_facts}
use Rattle.dealer_desk.specs.declared.events.DealerEvent.TheVariants as at_desk
use Rattle.investor_desk.specs.InvestorDesk.{market_for, market_of}
use Rattle.investor_desk.specs.InvestorOutput as investor_output
use Rattle.investor_desk.specs.InvestorRules.{InvestorMarket, investor_verdict}
use Rattle.investor_desk.specs.declared.events.InvestorEvent.TheVariants as at_investor
use Rattle.investor_desk.specs.declared.verdicts.InvestorVerdict.{InvestorVerdict}
use Rattle.investor_desk.specs.declared.verdicts.InvestorVerdict.TheVariants as answer
use Rattle.venue_steps.specs.Dealers.{dealer_at, dealer_of}
use Rattle.venue_steps.specs.declared.actors.Actor.{Actor}
use Rattle.venue_steps.specs.declared.actors.Actor.TheVariants as actor
use Rattle.step_replay.specs.Actions.{Effect, at_dealer, done_by, done_for, left_by}
use Rattle.step_replay.specs.Actions.{left_by_investor, nothing, received_by_dealer}
use Rattle.step_replay.specs.Actions.{received_by_investor, settlement_of, verdict_on}
use Rattle.step_replay.specs.DealerTrail as dealer_trail
use Rattle.step_replay.specs.DealerTrail.{DealerEntry, entries_of, message_by, rooms_by}
use Rattle.step_replay.specs.DutyEffects.{message_effect}
use Rattle.step_replay.specs.Lists.{Every}
use Rattle.step_replay.specs.PlaceLemmas.{own_trail}
use Rattle.step_replay.specs.TrailLemmas.{facts_added}
use Rattle.step_replay.specs.VenueFacts.{AtDealer, Fact, of_dealer}
use Rattle.laws_dues.proofs.NumberedActions.{no_quote, quoted_at}
use Rattle.laws_dues.proofs.NumberedDesks.{FactNumbers, VerdictNumbers, own_plain, plain_few}
use Rattle.laws_dues.proofs.NumberedDesks.{verdict_numbers}
use Rattle.laws_dues.proofs.NumberedDuties.{AreFew, none_few, said_few}
use Rattle.laws_dues.proofs.NumberedEffects.{EffectNumbers, at_dealer_numbers, book_at}
use Rattle.laws_dues.proofs.NumberedEffects.{desk_facts, market_numbers, nothing_numbers}
use Rattle.laws_dues.proofs.OfferCounts.{count, is_quoted}

module _ (config : Configuration) (facts : List Fact)
    (numbers : (investor : ℕ) → Every (FactNumbers config.dealers) (desk_facts facts investor))
    (firm moment : ℕ) (bytes : List ℕ) where
  abbrev by : Actor
  by = actor.Firm firm

  -- what a message of the firm brings
  abbrev Brings : Effect → Type 0
  Brings effect =
      EffectNumbers config facts (actor.Firm firm) (quoted_at effect.facts firm) no_quote effect

  if_brings : (b : Bool) (effect : Effect) → Brings effect
      → Brings (if b then effect else nothing)
  if_brings true effect own = own
  if_brings false effect own = nothing_numbers config facts (actor.Firm firm) _ no_quote

  -- of a dealer
  dealer_brings : (row : DealerRow)
      → Brings (received_by_dealer config facts moment bytes (dealer_of firm row))
  unfolding entries_of dealer_output.event_facts
  dealer_brings row =
      let own = of_dealer firm facts in
      let v = verdict_on config facts moment bytes (dealer_of firm row) in
      let settlement = settlement_of own v in
      let received = at_desk.Received moment bytes settlement in
      let entries = entries_of config.date row own received in
      let desk = Came moment bytes (uses_number v) ∷ verdict_facts v settlement in
      let messages = option_to_list (message_by config.date row own received) in
      let same : dealer_trail.facts_of (of_dealer firm (map (AtDealer firm) entries)) ≡ desk =
      ap dealer_trail.facts_of (own_trail firm entries) ∙ facts_added desk [] messages in
      let counted : quoted_at (map (AtDealer firm) entries) firm
      ≡ count is_quoted (verdict_facts v settlement) = ap (count is_quoted) same
      ∙ first (count is_quoted (verdict_facts v settlement)) in
      if_brings _ (at_dealer config facts (dealer_of firm row) received (left_by own moment v))
      (at_dealer_numbers config facts (actor.Firm firm) _ no_quote firm entries
      (left_by own moment v)
      (subst (λ (n : ℕ). AreFew config (actor.Firm firm) n (left_by own moment v)) (sym counted)
      (said_few config (actor.Firm firm) (rooms_by own) moment v settlement)))
    where
      first : (n : ℕ) → 0 + n ≡ n
      first n = omega arith

  -- of an investor
  asks_few : (most : ℕ) (market : InvestorMarket) (v : InvestorVerdict) → VerdictNumbers v
      → AreFew config (actor.Firm firm) most
      (option_to_list (investor_output.verdict_duty market moment v))
  asks_few most market (answer.RequestAccepted id request) says =
      record { numbers = (tt, tt); few = omega arith }
  asks_few most market (answer.Hits request response word) says =
      record { numbers = (says, tt); few = omega arith }
  asks_few most market (answer.Passes request response) says =
      record { numbers = (says, tt); few = omega arith }
  asks_few most market other says = none_few config (actor.Firm firm) most

  investor_brings : (row : InvestorRow)
      → Brings (received_by_investor facts moment bytes (market_of config firm row))
  unfolding investor_output.event_facts
  investor_brings row =
      let market = market_of config firm row in
      let book = book_at config facts (actor.Firm firm) firm in
      market_numbers config facts (actor.Firm firm) _ no_quote firm row
      (at_investor.Received moment bytes) (left_by_investor facts moment bytes market)
      (asks_few _ market (investor_verdict market book moment bytes)
      (verdict_numbers config.dealers (desk_facts facts firm) (numbers firm) market moment bytes))
      (plain_few config.dealers no_quote _
      (own_plain moment bytes (investor_verdict market book moment bytes)))

  pub message_numbers : Brings (message_effect config facts firm moment bytes)
  unfolding message_effect
  message_numbers = either (is_some (dealer_numbered config firm))
    where
      by_dealer : (found : Option DealerRow) → Brings (done_by (option_map (dealer_of firm) found)
          (received_by_dealer config facts moment bytes))
      by_dealer None = nothing_numbers config facts (actor.Firm firm) _ no_quote
      by_dealer (Some row) = dealer_brings row

      by_investor : (found : Option InvestorRow)
          → Brings (done_for (option_map (market_of config firm) found)
          (received_by_investor facts moment bytes))
      by_investor None = nothing_numbers config facts (actor.Firm firm) _ no_quote
      by_investor (Some row) = investor_brings row

      either : (b : Bool) → Brings
          (if b
          then done_by (dealer_at config firm) (received_by_dealer config facts moment bytes)
          else done_for (market_for config firm) (received_by_investor facts moment bytes))
      either true = by_dealer (dealer_numbered config firm)
      either false = by_investor (investor_numbered config firm)
