-- A duty to tell a withdrawal stands in the queue of the dealer whose quote it is; and what stands at the desk
-- of an investor of the quotes that it was shown.
use Rattle.std.proofs.Common.{◌≡◌, ◌&&◌, ℕ, true, nat_le, List, map}
use Rattle.std.proofs.Common.{◌+◌, arith, Some, IfSome, refl, sym, ap, ◌∙◌, subst}
use Rattle.std.proofs.lemmas.Option.{same_Some}
use Rattle.dealer_desk.specs.DealerFacts.{DealerFact, Quoted}
use Rattle.dealer_desk.specs.declared.verdicts.DealerVerdict.{DealerVerdict}
use Rattle.dealer_desk.specs.declared.verdicts.DealerVerdict.TheVariants as said
use Rattle.market_terms.specs.declared.duties.Duty.{Duty}
use Rattle.market_terms.specs.declared.duties.Duty.TheVariants as duty
use Rattle.market_terms.specs.declared.rooms.RoomRef.{RoomRef}
use Rattle.venue_rows.specs.Rows.{Configuration, dealer_numbered, has_room, investor_numbered}
use Rattle.venue_rows.specs.declared.dealer_rows.DealerRow.{DealerRow}
use Rattle.venue_rows.specs.declared.investor_rows.InvestorRow.{InvestorRow}
use Rattle.venue_steps.specs.Dealers.{dealer_of, has_word_for, word_for}
use Rattle.venue_steps.specs.declared.actors.Actor.{Actor}
use Rattle.venue_steps.specs.declared.actors.Actor.TheVariants as actor
use Rattle.investor_desk.specs.InvestorDesk.{market_of}
use Rattle.investor_desk.specs.InvestorOutput as investor_output
use Rattle.investor_desk.specs.InvestorRules.{InvestorMarket, investor_verdict}
use Rattle.investor_desk.specs.declared.verdicts.InvestorVerdict.{InvestorVerdict}
use Rattle.investor_desk.specs.declared.verdicts.InvestorVerdict.TheVariants as asks
use Rattle.venue_steps.specs.RoomSteps.{where_follows}
use Rattle.request_room.specs.Book.{event_facts, may_unpost}
use Rattle.request_room.specs.RoomFacts.{hears}
use Rattle.request_room.specs.declared.events.RoomEvent.TheVariants as at_room
use Rattle.step_replay.specs.Actions.{Effect, nothing, verdict_on}
use Rattle.step_replay.specs.LineActions.{unposted_by}
use Rattle.step_replay.specs.AuditTrail.{AuditTrail, audit_trail}
use Rattle.step_replay.specs.DealerTrail.{AtDesk}
use Rattle.step_replay.specs.DutyEffects.{duty_effect, message_effect, sweep_effect}
use Rattle.step_replay.specs.GrowthLemmas.{all_in}
use Rattle.step_replay.specs.Lists.{Every}
use Rattle.step_replay.specs.OwnerLemmas.{owner_among, quote_at}
use Rattle.step_replay.specs.VenueFacts.{Fact, InRoom, of_room}
use Rattle.step_replay.specs.declared.steps.Step.{Step}
use Rattle.laws_days.specs.ActionCases.{if_does, numbered_does}
use Rattle.laws_days.specs.KeptItems.{every_all}
use Rattle.laws_days.specs.LeftBehind.{LeftBy, duty_each, sweep_each}
use Rattle.laws_days.specs.LeftDuties.{Leaves, message_leaves}
use Rattle.laws_days.specs.MayLeave.{MaySay, follows}
use Rattle.laws_shown.specs.ShownRequests.{at_dealer}
use Rattle.laws_shown.proofs.ShownDay.{day_ok}
use Rattle.laws_shown.proofs.ShownLaws.{dealer_facts, quote_shown}
use Rattle.laws_shown.proofs.ShownParts.{DealerOk}
use Rattle.laws_days.proofs.VenueInvariant.{DutyOk, UnpostsIn}
use Rattle.laws_rooms.proofs.GoneLemmas.{of_offer}
use Rattle.laws_rooms.proofs.NumberDays.{numbered}
use Rattle.laws_rooms.proofs.TellingLemmas.{DeskFits, GoneOk}

module _ (config : Configuration) (facts : List Fact) where
  none : (by : Actor) → Leaves (GoneOk config by) nothing
  none by = record { each = tt }

  -- A withdrawal.

  zero_more : (n : ℕ) → 0 + n ≡ n
  zero_more n = omega arith

  unpost_left : (number : ℕ) (row : DealerRow) → dealer_numbered config number ≡ Some row → (at : RoomRef)
      (quote moment : ℕ) → (nat_le 1 quote && nat_le quote row.quotes) ≡ true
      → Leaves (GoneOk config (actor.Firm number))
      (duty_effect config facts (actor.Firm number) (duty.Unpost at quote moment))
  unfolding duty_effect
  unpost_left number row row_is at quote moment within =
      numbered_does (Leaves (GoneOk config (actor.Firm number))) (none (actor.Firm number)) config number
      (unposted_by config facts at quote moment)
      (λ found found_is.
      let own = dealer_of number found in
      let its : (nat_le 1 quote && nat_le quote found.quotes) ≡ true =
      subst (λ (r : DealerRow). (nat_le 1 quote && nat_le quote r.quotes) ≡ true)
      (same_Some row found (sym row_is ∙ found_is)) within in
      let known = of_room at facts in
      let effect : Effect = record {
        facts = map (InRoom at) (event_facts known (at_room.Unpost number (word_for config own quote)));
        duties = where_follows (hears known number && may_unpost known number (word_for config own quote))
            (duty.Gone at (word_for config own quote) moment);
      } in
      if_does (Leaves (GoneOk config (actor.Firm number))) (none (actor.Firm number))
      (has_room config at.investor at.n && (has_word_for config own quote && hears known number)) effect
      (record {
        each = follows (GoneOk config (actor.Firm number))
            (hears known number && may_unpost known number (word_for config own quote))
            (duty.Gone at (word_for config own quote) moment)
            (record {
              whose = number;
              quote = quote;
              by_is = refl;
              word_is = owner_among 0 config.dealers number found quote found_is its
                  ∙ ap (λ (n : ℕ). Some (quote_at n quote)) (zero_more number);
            });
      }))

  unpost_goes : (by : Actor) (at : RoomRef) (quote moment : ℕ) (venue : AuditTrail)
      → UnpostsIn config by at quote venue
      → Leaves (GoneOk config by) (duty_effect config facts by (duty.Unpost at quote moment))
  unpost_goes by at quote moment venue ok =
      let who = ok.named.who in
      subst (λ (a : Actor). Leaves (GoneOk config a) (duty_effect config facts a (duty.Unpost at quote moment)))
      (sym who.by_is) (unpost_left who.dealer who.row who.row_is at quote moment ok.within)

  -- All duties.

  abbrev IsQuiet : Duty → Type 0
  IsQuiet (duty.Unpost at quote moment) = ⊥
  IsQuiet other = Unit {0}

  quiet_leaves : (by : Actor) (d : Duty) → IsQuiet d → Every (GoneOk config by) (duty_effect config facts by d).duties
  quiet_leaves by d isnt = duty_each (GoneOk config by) config facts by d (λ more left. each more d isnt left)
    where
      each : (more one : Duty) → IsQuiet one → LeftBy more one → GoneOk config by more
      each (duty.Gone at word when) (duty.Unpost other quote moment) so left = absurd so
      each (duty.Gone at word when) one so left = absurd left
      each more one so left = tt

  pub duty_gones : (venue : AuditTrail) (by : Actor) (d : Duty) → DutyOk config by d venue
      → Every (GoneOk config by) (duty_effect config facts by d).duties
  duty_gones venue by (duty.Unpost at quote moment) ok = (unpost_goes by at quote moment venue ok).each
  duty_gones venue by other ok = quiet_leaves by other tt

  pub message_gones : (by : Actor) (firm moment : ℕ) (bytes : List ℕ)
      → Every (GoneOk config by) (message_effect config facts firm moment bytes).duties
  message_gones by firm moment bytes =
      (message_leaves (GoneOk config by) config facts firm moment bytes
      (λ found at_row. says firm moment (verdict_on config facts moment bytes _))
      (λ found at_row. asks_none moment (market_of config firm found) (investor_verdict _ _ moment bytes))).each
    where
      says : (number at : ℕ) (v : DealerVerdict) → MaySay (GoneOk config by) config facts number at v
      says number at (said.QuoteAccepted request id quote replaced) = every_all _ (λ r. tt) _
      says number at (said.CancelAccepted id quote request) = every_all _ (λ r. tt) _
      says number at (said.DropsFollow last) = tt
      says number at (said.DeclineAccepted request declined) = every_all _ (λ r. tt) _
      says number at other = tt

      asks_none : (at : ℕ) (market : InvestorMarket) (v : InvestorVerdict)
          → IfSome (investor_output.verdict_duty market at v) (GoneOk config by)
      asks_none at market (asks.RequestAccepted id request) = tt
      asks_none at market (asks.Hits request response word) = tt
      asks_none at market (asks.Passes request response) = tt
      asks_none at market other = tt

  pub sweep_gones : (by : Actor) (at : RoomRef) (moment : ℕ)
      → Every (GoneOk config by) (sweep_effect config facts at moment).duties
  sweep_gones by at moment =
      sweep_each (GoneOk config by) config facts at moment tt (λ d close. tt)

-- What stands at the desk of an investor.

pub desk_fits : (config : Configuration) (dealer : ℕ) (row : DealerRow)
    (is : dealer_numbered config dealer ≡ Some row) (room : RoomRef) (investor : InvestorRow)
    (is_investor : investor_numbered config room.investor ≡ Some investor) (steps : List Step)
    → DeskFits dealer config row is room investor is_investor (audit_trail config steps).facts
desk_fits config dealer row is room investor is_investor steps = record {
  numbered = numbered config room.investor steps;
  offers = λ one there.
      let facts = (audit_trail config steps).facts in
      let comes = quote_shown config steps room.investor one there in
      let wrote = comes.is_shown.is_written.is_quote in
      let was = all_in (λ (fact : DealerFact). DealerOk config facts comes.dealer (AtDesk fact))
      (Quoted comes.quote) (at_dealer comes.dealer facts)
      (dealer_facts config facts (day_ok config steps).stood.each comes.dealer) wrote.accepted in
      let own = was.is_quote.is_written.is_quote in
      let within : (nat_le 1 comes.quote.number && nat_le comes.quote.number wrote.row.quotes) ≡ true =
      subst (λ (r : DealerRow). (nat_le 1 comes.quote.number && nat_le comes.quote.number r.quotes) ≡ true)
      (same_Some own.row wrote.row (sym own.is_dealer ∙ wrote.is_dealer)) was.is_quote.within in (
        comes.dealer,
        of_offer config dealer row is room one.offer comes.dealer wrote.row comes.quote.number comes.quote.price
            comes.quote.valid_until wrote.is_dealer within comes.is_shown.offer,
      );
}
