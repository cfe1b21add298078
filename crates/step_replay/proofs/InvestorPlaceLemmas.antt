-- Looking an investor of a replay up, and what happens at its desk: it does what it should, wherever
-- the places stood, and the rooms and all other places stay.
use Rattle.step_replay.proofs.Common.{◌≡◌, ◌≤◌, ◌<◌, ℕ, ◌+◌, ◌-◌, Bool, List, length, nat_le, Some}
use Rattle.step_replay.proofs.Common.{None, sym, ap, ◌∙◌, subst, arith, if◌then◌else◌, false, ◌≡◌}
use Rattle.step_replay.proofs.Common.{ℕ, ◌+◌, Bool, true, false, ◌&&◌, List, [], ◌∷◌, ◌++◌, length, map}
use Rattle.step_replay.proofs.Common.{Some, None, option_map, if◌then◌else◌, refl, sym, ap, ◌∙◌}
use Rattle.step_replay.proofs.Common.{subst, slice_get, slice_get, nat_tests, slice_get_past}
use Rattle.step_replay.proofs.Common.{Configuration, investor_numbered, Configuration}
use Rattle.step_replay.proofs.Common.{investor_numbered, InvestorRow, Fact, Fact, AtInvestor}
use Rattle.step_replay.proofs.Common.{of_investor, InvestorStands, Stands, RoomIs, Stands, Does}
use Rattle.step_replay.proofs.Common.{slots, InvestorPlace, InvestorPlace, Floor, Floor}
use Rattle.step_replay.proofs.Common.{numbered_at, own_investor, room_stays, room_at_investor}
use Rattle.step_replay.proofs.Common.{option_to_list, with_item, append-nil, Duty, InvestorMarket}
use Rattle.step_replay.proofs.Common.{market_of, market_for, InvestorEvent, InvestorEntry, Effect}
use Rattle.step_replay.proofs.Common.{nothing, done_for, at_market, received_by_investor}
use Rattle.step_replay.proofs.Common.{where_known, investor_gets, desk_of}
use Rattle.step_replay.specs.InvestorEvents.{events_of}
use Rattle.step_replay.specs.PlaceLemmas.{investor_grown, other_investor, trail_at_investor}
use Rattle.step_replay.proofs.FloorLemmas.{dealer_count, at_investor_stands}
use Rattle.step_replay.proofs.MatchLemmas.{found, missing, kept}
use Rattle.investor_desk.specs.InvestorFacts.{InvestorBook, book_of, knows}
use Rattle.investor_desk.specs.InvestorRules.{investor_verdict}
use Rattle.investor_desk.specs.InvestorDesk.{DeskEvents, with_event, book_at}
use Rattle.investor_desk.specs.InvestorOutput.{DeskState, after_event, desk_after, verdict_duty}
use Rattle.investor_desk.specs.declared.events.InvestorEvent.TheVariants as event
use Rattle.venue_steps.specs.InvestorSteps.{desk_after_own, duties_of_own, with_event_if, replies_to}
use Rattle.venue_steps.specs.Brought.{investor_with}
use Rattle.venue_steps.specs.declared.arrivals.ForInvestor.{ForInvestor}
use Rattle.venue_steps.specs.declared.arrivals.ForInvestor.TheVariants as to_investor
use Rattle.step_replay.specs.InvestorTrail.{book_by, entries_of}
use Rattle.step_replay.specs.InvestorGrowth.{desk_push, events_grown, trail_push}
use Rattle.step_replay.proofs.FoundDealers.{idle_does}
use Rattle.step_replay.specs.NotedGrowth.{noted_push}
use Rattle.step_replay.specs.NotedTrail.{NotedAs}

-- the row of an investor, by its place behind the dealers
pub numbered_as : (config : Configuration) (number index : ℕ)
    → number ≡ length config.dealers + index
    → investor_numbered config number ≡ slice_get config.investors index
numbered_as config number index is =
    let behind : length config.dealers ≤ number = omega arith in
    let place : number - length config.dealers ≡ index = omega arith in
    numbered_at config number behind ∙ ap (slice_get config.investors) place

-- an investor that stands has a place and a row
pub record InvestorFound (config : Configuration) (facts : List Fact) (number index : ℕ)
    (place : InvestorPlace) : Type 0 where
  pub row : InvestorRow
  pub there : slice_get config.investors index ≡ Some row
  pub row_is : investor_numbered config number ≡ Some row
  pub stands : InvestorStands config facts number row place

module _ {config : Configuration} {facts : List Fact} {floor : Floor}
    (before : Stands config facts floor) where
  pub investor_found : {number : ℕ} {place : InvestorPlace} (index : ℕ)
      → number ≡ length config.dealers + index
      → slice_get floor.investors.items index ≡ Some place
      → InvestorFound config facts number index place
  investor_found {number} {place} index at is =
      let there = found (InvestorStands config facts) (length config.dealers) config.investors
      floor.investors.items index place before.investors_are is in
      record {
        row = there.item;
        there = there.there;
        row_is = numbered_as config number index at ∙ there.there;
        stands = subst (λ (n : ℕ). InvestorStands config facts n there.item place) (sym at) there.so;
      }

  -- the number of an investor, by the dealers' places
  pub behind_places : {number : ℕ} (index : ℕ) → number ≡ length floor.dealers.items + index
      → number ≡ length config.dealers + index
  behind_places index at = at ∙ ap (λ (n : ℕ). n + index) (dealer_count config facts floor before)

  -- there is no investor where there is no place, nor by the number of a dealer
  pub no_investor : (number index : ℕ) → number ≡ length floor.dealers.items + index
      → length floor.investors.items ≤ index → investor_numbered config number ≡ None
  no_investor number index at past =
      numbered_as config number index (behind_places index at)
      ∙ missing (InvestorStands config facts) (length config.dealers) config.investors
      floor.investors.items index before.investors_are
      (slice_get_past floor.investors.items index past)

  pub dealers_number : (number : ℕ) → number < length floor.dealers.items
      → investor_numbered config number ≡ None
  dealers_number number below =
      let count : length floor.dealers.items ≡ length config.dealers =
      dealer_count config facts floor before in
      let test : nat_le (length config.dealers) number ≡ false = grind (arith, nat_tests) in
      ap (λ (b : Bool). if b then slice_get config.investors (number - length config.dealers)
      else None) test

-- where there is no such investor
pub no_investor_does : {config : Configuration} {facts : List Fact} {floor : Floor}
    {duties : List Duty} (number : ℕ) (action : InvestorMarket → Effect)
    → Stands config facts floor → investor_numbered config number ≡ None → duties ≡ []
    → Does config facts (done_for (market_for config number) action) floor duties
no_investor_does {config} {facts} {floor} {duties} number action before none leaves =
    idle_does config facts floor _ duties before leaves
    (ap (λ row. done_for (option_map (market_of config number) row) action) none)

module _ {config : Configuration} {facts : List Fact} {floor : Floor} {number : ℕ}
    {place : InvestorPlace} (at : ℕ) (before : Stands config facts floor)
    (is : number ≡ length config.dealers + at)
    (stood : slice_get floor.investors.items at ≡ Some place) where
  own : InvestorFound config facts number at place
  own = investor_found before at is stood

  -- its market and its trail
  abbrev market : InvestorMarket
  market = market_of config number own.row

  abbrev trail : List InvestorEntry
  trail = of_investor number facts

  module _ (desk : DeskEvents) where
    -- the floor with this desk at the investor's place
    abbrev after : Floor
    after = record floor { investors = with_item floor.investors at (record place { desk = desk }) }

    -- an action of the investor that was own
    by_market : (action : InvestorMarket → Effect) (duties : List Duty)
        → Does config facts (action market) after duties
        → Does config facts (done_for (market_for config number) action) after duties
    by_market action duties does = rw own.row_is does

    -- where its desk has come as far as its trail
    desk_stands : (added : List InvestorEntry) → desk.market ≡ place.desk.market
        → desk.events ≡ events_of (trail ++ added)
        → desk_after market desk.events ≡ desk_of (trail ++ added)
        → NotedAs market desk.events (trail ++ added)
        → Stands config (facts ++ map (AtInvestor number) added) after
    desk_stands added same events state noted =
        let more : List Fact = map (AtInvestor number) added in
        at_investor_stands more at (record place { desk = desk }) is own.there before
        (λ n. trail_at_investor n number added)
        (λ n differs. record {
          trail = other_investor n number differs added;
          rooms = λ k. room_at_investor (record { investor = n; n = k }) number added;
        })
        (record {
          market_is = same ∙ own.stands.market_is;
          events_are = events ∙ ap (λ (l : List InvestorEntry). events_of l)
              (sym (investor_grown number facts more
              ∙ ap (λ l. trail ++ l) (own_investor number added)));
          state_is = state ∙ ap (λ (l : List InvestorEntry). desk_of l)
              (sym (investor_grown number facts more
              ∙ ap (λ l. trail ++ l) (own_investor number added)));
          notes_are = subst (NotedAs market desk.events) (sym (investor_grown number facts more
              ∙ ap (λ l. trail ++ l) (own_investor number added))) noted;
          rooms_are = kept (RoomIs facts number) (RoomIs (facts ++ more) number) 1 (slots own.row)
              place.rooms.items
              (λ n slot events least known. known
              ∙ sym (room_stays (record { investor = number; n = n }) facts more
              (room_at_investor (record { investor = number; n = n }) number added)))
              own.stands.rooms_are;
        })

    -- one event at its desk
    event_stands : (more : InvestorEvent) → desk ≡ with_event place.desk more
        → Stands config (facts ++ map (AtInvestor number) (entries_of market trail more)) after
    event_stands more same =
        desk_stands (entries_of market trail more) (ap (λ (d : DeskEvents). d.market) same)
        (ap (λ (d : DeskEvents). d.events) same
        ∙ ap (λ (l : List InvestorEvent). l ++ more ∷ []) own.stands.events_are
        ∙ sym (events_grown market trail more))
        (ap (λ (d : DeskEvents). desk_after market d.events) same
        ∙ desk_push market place.desk.events more
        ∙ ap (λ (state : DeskState). after_event market state more) own.stands.state_is
        ∙ trail_push market trail more)
        (subst (λ (d : DeskEvents).
        NotedAs market d.events (trail ++ entries_of market trail more)) (sym same)
        (noted_push market place.desk.events trail more own.stands.state_is own.stands.notes_are))

    -- one event at its desk, where it may come
    event_if : (may : Bool) (more : InvestorEvent) → desk ≡ with_event_if may place.desk more
        → Does config facts (if may then at_market facts market more [] else nothing) after []
    event_if true more same = record { stands = event_stands more same; leaves = refl }
    event_if false more same = record {
      stands = desk_stands [] (ap (λ (d : DeskEvents). d.market) same)
          (ap (λ (d : DeskEvents). d.events) same ∙ own.stands.events_are
          ∙ ap (λ (l : List InvestorEntry). events_of l) (sym (append-nil trail)))
          (ap (λ (d : DeskEvents). desk_after market d.events) same ∙ own.stands.state_is
          ∙ ap (λ (l : List InvestorEntry). desk_of l) (sym (append-nil trail)))
          (subst (λ (d : DeskEvents). NotedAs market d.events (trail ++ [])) (sym same)
          (subst (NotedAs market place.desk.events) (sym (append-nil trail))
          own.stands.notes_are));
      leaves = refl;
    }

    -- the book of the desk is that of the trail
    book_is : book_at place.desk ≡ book_by trail
    book_is =
        ap (λ (m : InvestorMarket). book_of (desk_after m place.desk.events).facts)
        own.stands.market_is
        ∙ ap (λ (state : DeskState). book_of state.facts) own.stands.state_is

    -- what a message leaves, by the book
    abbrev left_by : ℕ → List ℕ → InvestorMarket → InvestorBook → List Duty
    left_by moment bytes m b =
        option_to_list (verdict_duty m moment (investor_verdict m b moment bytes))

    -- The actions.

    pub said_does : (moment : ℕ) (bytes : List ℕ)
        → desk ≡ desk_after_own place.desk moment bytes
        → Does config facts
        (done_for (market_for config number) (received_by_investor facts moment bytes))
        after (duties_of_own place.desk moment bytes)
    said_does moment bytes same =
        by_market (received_by_investor facts moment bytes) _
        (record {
          stands = event_stands (event.Received moment bytes) same;
          leaves = ap (left_by moment bytes place.desk.market) book_is
              ∙ ap (λ (m : InvestorMarket). left_by moment bytes m (book_by trail))
              own.stands.market_is;
        })

    known_does : (request : ℕ) (more : InvestorEvent) (action : InvestorMarket → Effect)
        → action market ≡ where_known facts request None more market
        → desk ≡ with_event_if (knows (book_at place.desk) request None) place.desk more
        → Does config facts (done_for (market_for config number) action) after []
    known_does request more action is same =
        by_market action []
        (subst (λ (e : Effect). Does config facts e after []) (sym is)
        (event_if (knows (book_by trail) request None) more
        (same ∙ ap (λ (b : InvestorBook).
        with_event_if (knows b request None) place.desk more) book_is)))

    -- where an answer is known, and answers such a response
    answer_if : (known fits : Bool) (more : InvestorEvent)
        → desk ≡ with_event_if (known && fits) place.desk more
        → Does config facts
        (if fits then (if known then at_market facts market more [] else nothing) else nothing)
        after []
    answer_if true true more same = event_if true more same
    answer_if true false more same = event_if false more same
    answer_if false true more same = event_if false more same
    answer_if false false more same = event_if false more same

    -- what comes to its desk does what it should
    pub investor_does : (what : ForInvestor) → desk ≡ investor_with place.desk what
        → Does config facts (done_for (market_for config number) (investor_gets facts what)) after []
    unfolding investor_with investor_gets
    investor_does (to_investor.Answer request response reply moment) same =
        by_market (investor_gets facts (to_investor.Answer request response reply moment)) []
        (answer_if (knows (book_by trail) request response.k)
        (replies_to response.k reply) (event.Answered request response reply moment)
        (same ∙ ap (λ (b : InvestorBook).
        with_event_if (knows b request response.k && replies_to response.k reply) place.desk
        (event.Answered request response reply moment)) book_is))
    investor_does other same = known_does _ _ _ refl same
