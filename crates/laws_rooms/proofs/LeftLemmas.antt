-- What is left of a request that is accepted, and of a quote and a decline that take effect in a room.
use Rattle.std.proofs.Common.{◌≡◌, ◌+◌, ℕ, Bool, true, false, List, [], ◌∷◌, ◌++◌, map}
use Rattle.std.proofs.Common.{Option, Some, None, is_some, refl, inl}
use Rattle.std.proofs.Common.{if◌then◌else◌, length, Result, Ok, Err, ◌&&◌}
use Rattle.std.specs.Option.{option_to_list}
use Rattle.market_terms.specs.declared.closes.HitRefusal.{HitRefusal}
use Rattle.market_terms.specs.declared.duties.Duty.{Duty}
use Rattle.market_terms.specs.declared.duties.Duty.TheVariants as duty
use Rattle.market_terms.specs.declared.rooms.Offer.{Offer}
use Rattle.market_terms.specs.declared.rooms.ResponseRef.{ResponseRef}
use Rattle.market_terms.specs.declared.rooms.RoomRef.{RoomRef}
use Rattle.venue_rows.specs.Rows.{Configuration, dealer_numbered, has_room}
use Rattle.venue_rows.specs.declared.investor_rows.InvestorRow.{InvestorRow}
use Rattle.venue_steps.specs.Dealers.{Dealer, dealer_at, dealer_of, has_word_for, offer_of}
use Rattle.venue_steps.specs.Dealers.{word_for}
use Rattle.venue_rows.specs.declared.dealer_rows.DealerRow.{DealerRow}
use Rattle.venue_steps.specs.declared.actors.Actor.{Actor}
use Rattle.venue_steps.specs.declared.actors.Actor.TheVariants as actor
use Rattle.dealer_desk.specs.declared.events.DealerEvent.{DealerEvent}
use Rattle.dealer_desk.specs.declared.events.DealerEvent.TheVariants as at_desk
use Rattle.investor_desk.specs.InvestorDesk.{market_for, market_of}
use Rattle.investor_desk.specs.InvestorFacts.{Asked, InvestorFact}
use Rattle.investor_desk.specs.InvestorFacts as investor_facts
use Rattle.investor_desk.specs.InvestorOutput as investor_output
use Rattle.investor_desk.specs.InvestorRules.{InvestorMarket, investor_verdict}
use Rattle.investor_desk.specs.declared.events.InvestorEvent.{InvestorEvent}
use Rattle.investor_desk.specs.declared.events.InvestorEvent.TheVariants as at_investor
use Rattle.investor_desk.specs.declared.verdicts.InvestorVerdict.{InvestorVerdict}
use Rattle.investor_desk.specs.declared.verdicts.InvestorVerdict.TheVariants as asks
use Rattle.request_room.specs.Book.{event_facts, hit_outcome}
use Rattle.request_room.specs.Book.{quote_posted, fact_if}
use Rattle.request_room.specs.RoomFacts.{Noted, Posted, RoomFact, hears}
use Rattle.request_room.specs.RoomFacts.{takes_quotes}
use Rattle.request_room.specs.declared.ends.End.{End}
use Rattle.request_room.specs.declared.quotes.PostedQuote.{PostedQuote}
use Rattle.request_room.specs.declared.events.RoomEvent.{RoomEvent}
use Rattle.request_room.specs.declared.events.RoomEvent.TheVariants as at_room
use Rattle.quote_word.specs.declared.settled.Settled.{Settled}
use Rattle.venue_steps.specs.RoomSteps.{where_follows}
use Rattle.step_replay.specs.ActionKinds.{event_in}
use Rattle.step_replay.specs.Actions.{Effect, QuoteRef, at_dealer, at_market, done_by, done_for}
use Rattle.step_replay.specs.Actions.{hit_with}
use Rattle.step_replay.specs.Actions.{left_by, lifting, nothing, quote_with_word}
use Rattle.step_replay.specs.Actions.{settlement_of, verdict_on}
use Rattle.step_replay.specs.Actions.{received_by_dealer, received_by_investor}
use Rattle.step_replay.specs.LineActions.{declined_by, posted_by}
use Rattle.step_replay.specs.AuditTrail.{AuditTrail}
use Rattle.step_replay.specs.DealerTrail.{entries_of}
use Rattle.step_replay.specs.DutyEffects.{duty_effect, message_effect, sweep_effect}
use Rattle.step_replay.specs.EachLemmas.{every_both, every_weaker}
use Rattle.step_replay.specs.InvestorTrail as investor_trail
use Rattle.step_replay.specs.InvestorTrail.{InvestorEntry}
use Rattle.step_replay.specs.Lists.{Every, In}
use Rattle.step_replay.specs.VenueFacts.{AtDealer, AtInvestor, Fact, InRoom, of_dealer, of_investor}
use Rattle.step_replay.specs.VenueFacts.{of_room}
use Rattle.laws_days.specs.DutyWalk.{AnyDealer, InvestorMay, RoomMay, Walks, any_dealer, duty_walks}
use Rattle.laws_days.specs.DutyWalk.{settlement_found, sweep_walks}
use Rattle.laws_days.specs.ActionCases.{if_does, invested_does, numbered_does}
use Rattle.laws_days.specs.KeptItems.{every_map}
use Rattle.laws_shown.specs.ShownRequests.{room_of}
use Rattle.laws_days.proofs.VenueParts.{duties_by}
use Rattle.laws_days.proofs.NewsWalk.{any_news, news_adds, offer_adds, reply_adds}
use Rattle.laws_rooms.specs.Told.{IsItsOffer}
use Rattle.laws_rooms.proofs.RoomWalk.{MayHappen, event_each}

-- What adds no accepted request, and no quote and no decline of a room.

abbrev pub IsOther : Fact → Type 0
IsOther (InRoom room (Posted quote)) = ⊥
IsOther (InRoom room (Noted dealer)) = ⊥
IsOther (AtInvestor investor (investor_trail.AtDesk (Asked request))) = ⊥
IsOther fact = Unit {0}

pub record Quiet (effect : Effect) : Type 0 where
  pub facts : Every IsOther effect.facts

mapped : {A B : Type 0} (P : B → Type 0) (f : A → B) (xs : List A)
    → Every (λ (x : A). P (f x)) xs → Every P (map f xs)
mapped P f [] every = tt
mapped P f (x ∷ xs) every = (every.0, mapped P f xs every.1)

module _ (config : Configuration) (facts : List Fact) where
  none : Quiet nothing
  none = record { facts = tt }

  desk_quiet : (dealer : Dealer) (event : DealerEvent) (duties : List Duty)
      → Quiet (at_dealer config facts dealer event duties)
  desk_quiet dealer event duties =
      record {
        facts = every_map IsOther (AtDealer dealer.number) (λ entry. tt)
            (entries_of config.date dealer.row (of_dealer dealer.number facts) event);
      }

  pub received_quiet : (dealer : Dealer) (moment : ℕ) (bytes : List ℕ)
      → Quiet (received_by_dealer config facts moment bytes dealer)
  received_quiet dealer moment bytes =
      let found = verdict_on config facts moment bytes dealer in
      let trail = of_dealer dealer.number facts in
      if_does Quiet none _ (at_dealer config facts dealer
      (at_desk.Received moment bytes (settlement_of trail found)) (left_by trail moment found))
      (desk_quiet dealer (at_desk.Received moment bytes (settlement_of trail found)) (left_by trail moment found))

  abbrev AtRoom : RoomRef → RoomFact → Type 0
  AtRoom room fact = IsOther (InRoom room fact)

  abbrev IsNoPost : RoomEvent → Type 0
  IsNoPost (at_room.Post dealer word price until) = ⊥
  IsNoPost (at_room.Decline dealer) = ⊥
  IsNoPost event = Unit {0}

  quiet_may : (room : RoomRef) (event : RoomEvent) → IsNoPost event → MayHappen (AtRoom room) event
  quiet_may room (at_room.Post dealer word price until) isnt = absurd isnt
  quiet_may room (at_room.Decline dealer) isnt = absurd isnt
  quiet_may room (at_room.Hit word moment settlement) isnt = λ end. tt
  quiet_may room other isnt = tt

  event_quiet : (room : RoomRef) (known : List RoomFact) (event : RoomEvent) → IsNoPost event
      → Every (AtRoom room) (event_facts known event)
  event_quiet room known event isnt =
      event_each (AtRoom room) known event (quiet_may room event isnt)

  room_quiet : (room : RoomRef) (event : RoomEvent) (left : List Duty) → IsNoPost event
      → Quiet (event_in config facts room event left)
  room_quiet room event left isnt = record {
    facts = mapped IsOther (InRoom room) (event_facts (of_room room facts) event)
        (event_quiet room (of_room room facts) event isnt);
  }

  -- What comes to an investor, and is no message of its own.
  module _ (market : InvestorMarket) where
    abbrev AtDesk : InvestorFact → Type 0
    AtDesk fact = IsOther (AtInvestor market.firm (investor_trail.AtDesk fact))

    abbrev AtThis : InvestorEntry → Type 0
    AtThis entry = IsOther (AtInvestor market.firm entry)

    market_quiet : (event : InvestorEvent) (duties : List Duty)
        → Every AtDesk (investor_output.event_facts market
        (investor_trail.book_by (of_investor market.firm facts)) event)
        → Quiet (at_market facts market event duties)
    unfolding investor_trail.entries_of
    market_quiet event duties each =
        let trail = of_investor market.firm facts in
        let added = investor_output.event_facts market (investor_trail.book_by trail) event in
        let messages = investor_output.written_from market (length (investor_trail.sent_by trail) + 1)
        (investor_output.moment_of event)
        (investor_output.event_messages market (investor_trail.book_by trail) event) in
        record {
          facts = mapped IsOther (AtInvestor market.firm)
              (investor_trail.Happened event
              ∷ map investor_trail.AtDesk added ++ map investor_trail.Sent messages) (
                tt,
                every_both AtThis (map investor_trail.AtDesk added) (map investor_trail.Sent messages)
                    (mapped AtThis investor_trail.AtDesk added each)
                    (every_map AtThis investor_trail.Sent (λ bytes. tt) messages),
              );
        }

  lifted_quiet : (found : Option QuoteRef) (outcome : Result End HitRefusal)
      → Every IsOther (lifting found outcome)
  lifted_quiet None outcome = tt
  lifted_quiet (Some hit) (Ok award) = (tt, tt)
  lifted_quiet (Some hit) (Err why) = tt

  hit_quiet : (room : RoomRef) (response : ResponseRef) (word moment : ℕ) (settlement : Option Settled)
      → Quiet (hit_with config facts room response word moment settlement)
  hit_quiet room response word moment settlement =
      let known = of_room room facts in
      let lifted = lifting (quote_with_word config word) (hit_outcome known word moment settlement) in
      let happened = event_facts known (at_room.Hit word moment settlement) in
      record {
        facts = every_both IsOther lifted (map (InRoom room) happened)
            (lifted_quiet (quote_with_word config word) (hit_outcome known word moment settlement))
            (mapped IsOther (InRoom room) happened
            (event_quiet room known (at_room.Hit word moment settlement) tt));
      }

  abbrev pub IsNoPosting : Duty → Type 0
  IsNoPosting (duty.Post room quote price valid_until moment) = ⊥
  IsNoPosting (duty.Decline room moment) = ⊥
  IsNoPosting d = Unit {0}

  -- Duties.

  -- an event at an investor's desk that adds no accepted request
  abbrev AddsOther : ℕ → InvestorRow → InvestorEvent → Type 0
  AddsOther number row event =
      Every (AtDesk (market_of config number row)) (investor_output.event_facts (market_of config number row)
      (investor_trail.book_by (of_investor number facts)) event)

  abbrev AddsNoPost : RoomRef → RoomEvent → List Duty → Type 0
  AddsNoPost room event left = IsNoPost event

  walks : Walks AnyDealer AddsOther AddsNoPost config facts Quiet
  walks = record {
    idle = none;
    at_a_dealer = λ number row found event left any. desk_quiet (dealer_of number row) event left;
    at_an_investor = λ number row found event each. market_quiet (market_of config number row) event [] each;
    in_a_room = λ room there event no_hit left isnt. room_quiet room event left isnt;
    by_a_hit = λ room there response word moment isnt.
        hit_quiet room response word moment (settlement_found config facts room word moment);
  }

  at_desks : (d : Duty) → InvestorMay AddsOther config d
  unfolding investor_output.event_facts
  at_desks (duty.Relay room offer moment) = λ row found.
      let book = investor_trail.book_by (of_investor room.investor facts) in
      offer_adds (AtDesk (market_of config room.investor row)) book room.n offer (λ quote. tt) tt
      (investor_facts.open_request book room.n)
  at_desks (duty.Answer room response answer moment) = λ fits row found.
      let book = investor_trail.book_by (of_investor room.investor facts) in
      reply_adds (AtDesk (market_of config room.investor row)) book room.n response answer
      (λ how. tt) (investor_facts.request_numbered book room.n)
  at_desks other = any_news AddsOther config other tt (λ number row found event news.
      news_adds (AtDesk (market_of config number row)) (market_of config number row)
      (investor_trail.book_by (of_investor number facts)) event news
      (λ request word moment is quote. tt) (λ request. tt))

  in_rooms : (by : Actor) (d : Duty) → IsNoPosting d → RoomMay AddsNoPost config facts by d
  in_rooms by (duty.Post room quote price valid_until moment) isnt = absurd isnt
  in_rooms by (duty.Decline room moment) isnt = absurd isnt
  in_rooms (actor.Firm number) (duty.Unpost room quote moment) isnt = λ row found. tt
  in_rooms by other isnt = tt

  pub duty_quiet : (by : Actor) (d : Duty) → IsNoPosting d → Quiet (duty_effect config facts by d)
  duty_quiet by d isnt =
      duty_walks AnyDealer AddsOther AddsNoPost config facts Quiet walks by d
      (any_dealer AnyDealer config facts by d (λ number row event left is. tt)) (at_desks d)
      (in_rooms by d isnt)

  pub sweep_quiet : (room : RoomRef) (moment : ℕ) → Quiet (sweep_effect config facts room moment)
  sweep_quiet room moment =
      sweep_walks AnyDealer AddsOther AddsNoPost config facts Quiet walks room moment tt

-- What is left of a request that is accepted, the opening of its room, and of a quote of a room, that
-- it is relayed to its investor.

pub record Relays (config : Configuration) (room : RoomRef) (quote : PostedQuote) (duties : List Duty)
    : Type 0 where
  pub offer : Offer
  pub moment : ℕ
  pub is_its : IsItsOffer config quote offer
  pub left : In (duty.Relay room offer moment) duties

abbrev pub FactIs : Configuration → Fact → AuditTrail → Type 0
FactIs config (AtInvestor investor (investor_trail.AtDesk (Asked request))) venue =
    (moment : ℕ) × In (duty.Open (room_of investor request.number) request.ask request.dealers moment)
    (duties_by (actor.Firm investor) venue.caused)
FactIs config (InRoom room (Posted quote)) venue =
    (by : Actor) × Relays config room quote (duties_by by venue.caused)
FactIs config (InRoom room (Noted dealer)) venue =
    (moment : ℕ) × In (duty.Declined room moment) (duties_by (actor.Firm dealer) venue.caused)
FactIs config fact venue = Unit {0}

-- What an effect leaves of each of them.

abbrev pub LeavesOf : Configuration → Actor → List Duty → Fact → Type 0
LeavesOf config by duties (AtInvestor investor (investor_trail.AtDesk (Asked request))) =
    (by ≡ actor.Firm investor) × (moment : ℕ)
    × In (duty.Open (room_of investor request.number) request.ask request.dealers moment) duties
LeavesOf config by duties (InRoom room (Posted quote)) = Relays config room quote duties
LeavesOf config by duties (InRoom room (Noted dealer)) =
    (by ≡ actor.Firm dealer) × (moment : ℕ) × In (duty.Declined room moment) duties
LeavesOf config by duties fact = Unit {0}

pub record Leaves (config : Configuration) (by : Actor) (effect : Effect) : Type 0 where
  pub facts : Every (LeavesOf config by effect.duties) effect.facts

pub quiet_leaves : (config : Configuration) (by : Actor) (effect : Effect) → Quiet effect → Leaves config by effect
quiet_leaves config by effect quiet = record {
  facts = every_weaker IsOther (LeavesOf config by effect.duties) each effect.facts quiet.facts;
}
  where
    each : (fact : Fact) → IsOther fact → LeavesOf config by effect.duties fact
    each (AtInvestor investor (investor_trail.AtDesk (Asked request))) is = absurd is
    each (InRoom room (Posted quote)) is = absurd is
    each (InRoom room (Noted dealer)) is = absurd is
    each other is = tt

-- a quote that is posted is relayed where it takes effect
module _ (config : Configuration) (facts : List Fact) (by : Actor) (room : RoomRef)
    (quote price : ℕ) (valid_until : Option ℕ) (moment number : ℕ) (row : DealerRow)
    (found : dealer_numbered config number ≡ Some row) where
  abbrev offer : Offer
  offer = offer_of config (dealer_of number row) quote price valid_until

  abbrev posted : PostedQuote
  posted = quote_posted number (word_for config (dealer_of number row) quote) price valid_until

  where_both : (is_room has_word hears_it takes : Bool) → Leaves config by (if is_room && (has_word && hears_it)
      then record {
        facts = map (InRoom room) (fact_if takes (Posted posted));
        duties = where_follows (hears_it && takes) (duty.Relay room offer moment);
      }
      else nothing)
  where_both true true true true =
      record {
        facts = (
          record {
            offer = offer;
            moment = moment;
            is_its = record {
              row = row;
              is_dealer = found;
              name = refl;
              word = refl;
              price = refl;
              valid_until = refl;
            };
            left = inl refl;
          },
          tt,
        );
      }
  where_both true true true false = record { facts = tt }
  where_both true true false takes = record { facts = tt }
  where_both true false hears_it takes = record { facts = tt }
  where_both false has_word hears_it takes = record { facts = tt }

  posted_leaves : Leaves config by
      (posted_by config facts room quote price valid_until moment (dealer_of number row))
  unfolding event_facts
  posted_leaves =
      where_both (has_room config room.investor room.n) (has_word_for config (dealer_of number row) quote)
      (hears (of_room room facts) number) (takes_quotes (of_room room facts))

-- a decline is told where it takes effect
declined_leaves : (config : Configuration) (facts : List Fact) (room : RoomRef) (moment number : ℕ) (row : DealerRow)
    → Leaves config (actor.Firm number) (declined_by config facts room moment (dealer_of number row))
unfolding event_facts
declined_leaves config facts room moment number row =
    where_both (has_room config room.investor room.n) (hears (of_room room facts) number)
    (takes_quotes (of_room room facts))
  where
    where_both : (is_room hears_it takes : Bool) → Leaves config (actor.Firm number) (if is_room && hears_it
        then record {
          facts = map (InRoom room) (fact_if takes (Noted number));
          duties = where_follows (hears_it && takes) (duty.Declined room moment);
        }
        else nothing)
    where_both true true true = record { facts = ((refl, moment, inl refl), tt) }
    where_both true true false = record { facts = tt }
    where_both true false takes = record { facts = tt }
    where_both false hears_it takes = record { facts = tt }

module _ (config : Configuration) (facts : List Fact) where
  pub duty_leaves : (by : Actor) (d : Duty) → Leaves config by (duty_effect config facts by d)
  unfolding duty_effect
  duty_leaves (actor.Firm number) (duty.Post room quote price valid_until moment) =
      numbered_does (Leaves config (actor.Firm number)) (record { facts = tt }) config number
      (posted_by config facts room quote price valid_until moment)
      (λ row found.
      posted_leaves config facts (actor.Firm number) room quote price valid_until moment number row found)
  duty_leaves actor.Clock (duty.Post room quote price valid_until moment) = record { facts = tt }
  duty_leaves (actor.Firm number) (duty.Decline room moment) =
      numbered_does (Leaves config (actor.Firm number)) (record { facts = tt }) config number
      (declined_by config facts room moment) (λ row found. declined_leaves config facts room moment number row)
  duty_leaves actor.Clock (duty.Decline room moment) = record { facts = tt }
  duty_leaves by other =
      quiet_leaves config by (duty_effect config facts by other) (duty_quiet config facts by other tt)

module _ (config : Configuration) (facts : List Fact) (firm : ℕ) where
  idle_leaves : Leaves config (actor.Firm firm) nothing
  idle_leaves = record { facts = tt }

  module _ (row : InvestorRow) (moment : ℕ) (bytes : List ℕ) where
    abbrev own : InvestorMarket
    own = market_of config firm row

    abbrev trail : List InvestorEntry
    trail = of_investor firm facts

    abbrev found : InvestorVerdict
    found = investor_verdict own (investor_trail.book_by trail) moment bytes

    abbrev waiting : List Duty
    waiting = option_to_list (investor_output.verdict_duty own moment found)

    abbrev AtFirm : InvestorEntry → Type 0
    AtFirm entry = LeavesOf config (actor.Firm firm) waiting (AtInvestor firm entry)

    by_verdict : (v : InvestorVerdict)
        → Every (λ (fact : InvestorFact). LeavesOf config (actor.Firm firm)
        (option_to_list (investor_output.verdict_duty own moment v)) (AtInvestor firm (investor_trail.AtDesk fact)))
        (investor_output.verdict_facts v)
    by_verdict (asks.RequestAccepted id request) = ((refl, moment, inl refl), tt)
    by_verdict other = tt

    asked_leaves : Leaves config (actor.Firm firm) (received_by_investor facts moment bytes own)
    unfolding investor_trail.entries_of investor_output.event_facts
    asked_leaves =
        let added = investor_output.own_facts moment bytes found in
        let messages = investor_output.written_from own (length (investor_trail.sent_by trail) + 1) moment
        (investor_output.event_messages own (investor_trail.book_by trail) (at_investor.Received moment bytes)) in
        record {
          facts = mapped (LeavesOf config (actor.Firm firm) waiting) (AtInvestor firm)
              (investor_trail.Happened (at_investor.Received moment bytes)
              ∷ map investor_trail.AtDesk added ++ map investor_trail.Sent messages) (
                tt,
                every_both AtFirm (map investor_trail.AtDesk added) (map investor_trail.Sent messages)
                    (mapped AtFirm investor_trail.AtDesk added (tt, by_verdict found))
                    (every_map AtFirm investor_trail.Sent (λ text. tt) messages),
              );
        }

  pub message_leaves : (moment : ℕ) (bytes : List ℕ)
      → Leaves config (actor.Firm firm) (message_effect config facts firm moment bytes)
  unfolding message_effect
  message_leaves moment bytes = either (is_some (dealer_numbered config firm))
    where
      either : (b : Bool) → Leaves config (actor.Firm firm) (if b
          then done_by (dealer_at config firm) (received_by_dealer config facts moment bytes)
          else done_for (market_for config firm) (received_by_investor facts moment bytes))
      either true = numbered_does (Leaves config (actor.Firm firm)) idle_leaves config firm
          (received_by_dealer config facts moment bytes)
          (λ row is. quiet_leaves config (actor.Firm firm) (received_by_dealer config facts moment bytes (dealer_of firm row))
          (received_quiet config facts (dealer_of firm row) moment bytes))
      either false = invested_does (Leaves config (actor.Firm firm)) idle_leaves config firm
          (received_by_investor facts moment bytes) (λ row. asked_leaves row moment bytes)
