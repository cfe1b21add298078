-- Every duty, message and sweep: what it adds for a dealer and what it leaves may be said.
use Rattle.std.proofs.Common.{◌≡◌, ℕ, ◌<◌, Bool, true, false, List, [], ◌∷◌, ◌++◌, map}
use Rattle.std.proofs.Common.{Option, Some, None, option_map, option_to_list, Result, Ok, Err, refl}
use Rattle.std.proofs.Common.{if◌then◌else◌, is_some}
use Rattle.fix_fields.specs.declared.limits.TheConstants.{A_DAY}
use Rattle.market_terms.specs.declared.closes.Close.{Close}
use Rattle.market_terms.specs.declared.closes.HitRefusal.{HitRefusal}
use Rattle.market_terms.specs.declared.duties.Duty.{Duty}
use Rattle.market_terms.specs.declared.duties.Duty.TheVariants as duty
use Rattle.market_terms.specs.declared.rooms.ResponseRef.{ResponseRef}
use Rattle.market_terms.specs.declared.rooms.RoomRef.{RoomRef}
use Rattle.quote_word.specs.declared.settled.Settled.{Settled}
use Rattle.venue_rows.specs.Rows.{Configuration, dealer_numbered, investor_numbered}
use Rattle.venue_rows.specs.declared.dealer_rows.DealerRow.{DealerRow}
use Rattle.venue_rows.specs.declared.investor_rows.InvestorRow.{InvestorRow}
use Rattle.dealer_desk.specs.DealerOutput.{event_facts}
use Rattle.dealer_desk.specs.DealerOutput.{shown_room}
use Rattle.dealer_desk.specs.DealerOutput.{post_of}
use Rattle.dealer_desk.specs.declared.verdicts.DealerVerdict.{DealerVerdict}
use Rattle.dealer_desk.specs.declared.verdicts.DealerVerdict.TheVariants as verdict
use Rattle.dealer_desk.specs.declared.events.DealerEvent.{DealerEvent}
use Rattle.dealer_desk.specs.declared.events.DealerEvent.TheVariants as at_desk
use Rattle.investor_desk.specs.InvestorDesk.{market_for, market_of}
use Rattle.investor_desk.specs.InvestorFacts.{InvestorFact}
use Rattle.investor_desk.specs.InvestorRules.{InvestorMarket, investor_verdict}
use Rattle.investor_desk.specs.declared.events.InvestorEvent.{InvestorEvent}
use Rattle.investor_desk.specs.declared.events.InvestorEvent.TheVariants as at_investor
use Rattle.request_room.specs.Book as room
use Rattle.request_room.specs.Book.{hit_outcome}
use Rattle.request_room.specs.RoomFacts.{RoomFact, is_open, is_vacant, request_of}
use Rattle.request_room.specs.declared.ends.End.{End}
use Rattle.request_room.specs.declared.events.RoomEvent.{RoomEvent}
use Rattle.request_room.specs.declared.events.RoomEvent.TheVariants as at_room
use Rattle.venue_steps.specs.Dealers.{Dealer, QuoteRef, dealer_at, dealer_of}
use Rattle.venue_steps.specs.Dealers.{quote_with_word}
use Rattle.venue_steps.specs.declared.actors.Actor.{Actor}
use Rattle.venue_steps.specs.declared.actors.Actor.TheVariants as actor
use Rattle.venue_steps.specs.RoomSteps.{dealers_of, duties_of_hit, shown_then_ready, told_in}
use Rattle.step_replay.specs.Actions.{Effect, at_dealer, at_market}
use Rattle.step_replay.specs.Actions.{done_by, done_for}
use Rattle.step_replay.specs.Actions.{hit_with, left_by, left_by_investor}
use Rattle.step_replay.specs.Actions.{lifting, nothing, received_by_dealer}
use Rattle.step_replay.specs.Actions.{received_by_investor, settlement_of}
use Rattle.step_replay.specs.Actions.{verdict_on}
use Rattle.step_replay.specs.DealerTrail as dealer_trail
use Rattle.step_replay.specs.DealerTrail.{book_by, entries_of, rooms_by}
use Rattle.step_replay.specs.DutyEffects.{duty_effect, message_effect, sweep_effect}
use Rattle.step_replay.specs.EachLemmas.{every_both}
use Rattle.step_replay.specs.InvestorTrail as investor_trail
use Rattle.step_replay.specs.Lists.{Every}
use Rattle.step_replay.specs.VenueFacts.{AtDealer, AtInvestor, Fact, InRoom, of_dealer}
use Rattle.step_replay.specs.VenueFacts.{of_investor, of_room}
use Rattle.laws_days.specs.DutyWalk.{DealerMay, InvestorMay, RoomMay, Walks}
use Rattle.laws_days.specs.DutyWalk.{duty_walks, settlement_found, sweep_walks}
use Rattle.laws_days.specs.KeptItems.{every_all, every_map}
use Rattle.laws_days.specs.MayLeave.{AreTold, InRooms, MaySay, drop_each, follows, if_each}
use Rattle.laws_days.specs.MayLeave.{outcome_each, shown_each, told_each, verdict_each}
use Rattle.laws_wire.proofs.DealerTexts as dealer
use Rattle.laws_wire.proofs.DealerTexts.{event_adds}
use Rattle.laws_wire.proofs.InvestorTexts as investor
use Rattle.laws_wire.proofs.DutyTexts.{AreNamed, DutyGiven, EffectGiven, EntryGiven, FactGiven}
use Rattle.laws_wire.proofs.DutyTexts.{each_mapped, investor_leaves}
use Rattle.laws_wire.proofs.MessageFields.{AskGiven}

module _ (D : ℕ → Type 0) (of_day : (n : ℕ) → n < A_DAY → D n) (config : Configuration)
    (named : AreNamed config) (facts : List Fact) where
  -- Effects.

  nothing_given : EffectGiven D nothing
  nothing_given = record { facts = tt; duties = tt }

  when : (b : Bool) (effect : Effect) → EffectGiven D effect
      → EffectGiven D (if b then effect else nothing)
  when true effect given = given
  when false effect given = nothing_given

  rooms : (at : RoomRef) (added : List RoomFact) → Every (FactGiven D) (map (InRoom at) added)
  rooms at added = every_map (FactGiven D) (InRoom at) (λ fact. tt) added

  -- what an event at an investor's desk adds behind it
  behind_given : (number : ℕ) (added : List InvestorFact) (sent : List (List ℕ))
      → Every (FactGiven D) (map (AtInvestor number)
      (map investor_trail.AtDesk added ++ map investor_trail.Sent sent))
  behind_given number (fact ∷ added) sent = (tt, behind_given number added sent)
  behind_given number [] (message ∷ sent) = (tt, behind_given number [] sent)
  behind_given number [] [] = tt

  market_given : (market : InvestorMarket) (event : InvestorEvent) (duties : List Duty)
      → investor.EventGiven D event → Every (DutyGiven D) duties
      → EffectGiven D (at_market facts market event duties)
  unfolding investor_trail.entries_of
  market_given market event duties given left = record {
    facts = (given, behind_given market.firm _ _);
    duties = left;
  }

  invested : (number : ℕ) (action : InvestorMarket → Effect)
      → ((row : InvestorRow) → investor_numbered config number ≡ Some row
      → EffectGiven D (action (market_of config number row)))
      → EffectGiven D (done_for (market_for config number) action)
  invested number action each = by_row (investor_numbered config number) refl
    where
      by_row : (found : Option InvestorRow) → investor_numbered config number ≡ found
          → EffectGiven D (done_for (option_map (market_of config number) found) action)
      by_row None is = nothing_given
      by_row (Some row) is = each row is

  numbered : (number : ℕ) (action : Dealer → Effect)
      → ((row : DealerRow) → dealer_numbered config number ≡ Some row
      → EffectGiven D (action (dealer_of number row)))
      → EffectGiven D (done_by (dealer_at config number) action)
  numbered number action each = by_row (dealer_numbered config number) refl
    where
      by_row : (found : Option DealerRow) → dealer_numbered config number ≡ found
          → EffectGiven D (done_by (option_map (dealer_of number) found) action)
      by_row None is = nothing_given
      by_row (Some row) is = each row is

  desk_given : (number : ℕ) (row : DealerRow) (event : DealerEvent) (duties : List Duty)
      → dealer.EventGiven D event → Every (DutyGiven D) duties
      → EffectGiven D (at_dealer config facts (dealer_of number row) event duties)
  unfolding entries_of
  desk_given number row event duties given left =
      let trail = of_dealer number facts in
      let happened = event_facts config.date row (book_by trail) event in
      let shown = option_to_list (shown_room event) in
      let sent = option_to_list (dealer_trail.message_by config.date row trail event) in
      record {
        facts = each_mapped (FactGiven D) (AtDealer number)
            (map dealer_trail.AtDesk happened ++ map dealer_trail.ShownIn shown
            ++ map dealer_trail.Sent sent)
            (every_both (EntryGiven D) (map dealer_trail.AtDesk happened
            ++ map dealer_trail.ShownIn shown)
            (map dealer_trail.Sent sent)
            (every_both (EntryGiven D) (map dealer_trail.AtDesk happened)
            (map dealer_trail.ShownIn shown)
            (each_mapped (EntryGiven D) dealer_trail.AtDesk happened
            (event_adds D of_day config.date row (book_by trail) event given))
            (every_map (EntryGiven D) dealer_trail.ShownIn (λ at. tt) shown))
            (every_map (EntryGiven D) dealer_trail.Sent (λ bytes. tt) sent));
        duties = left;
      }

  -- A hit.

  lifted : (found : Option QuoteRef) (outcome : Result End HitRefusal)
      → Every (FactGiven D) (lifting found outcome)
  lifted None outcome = tt
  lifted (Some hit) (Ok award) = (tt, tt)
  lifted (Some hit) (Err reason) = tt

  hit_given : (at : RoomRef) (response : ResponseRef) (word moment : ℕ)
      (settlement : Option Settled) → Every (DutyGiven D)
      (duties_of_hit (of_room at facts) at response word moment true settlement)
      → EffectGiven D (hit_with config facts at response word moment settlement)
  hit_given at response word moment settlement left =
      let before = of_room at facts in
      let outcome = hit_outcome before word moment settlement in
      let happened = room.event_facts before (at_room.Hit word moment settlement) in
      record {
        facts = every_both (FactGiven D) (lifting (quote_with_word config word) outcome)
            (map (InRoom at) happened) (lifted (quote_with_word config word) outcome)
            (rooms at happened);
        duties = left;
      }

  -- Duties.

  abbrev DealerGiven : ℕ → DealerRow → DealerEvent → List Duty → Type 0
  DealerGiven number row event left = dealer.EventGiven D event × Every (DutyGiven D) left

  abbrev InvestorGiven : ℕ → InvestorRow → InvestorEvent → Type 0
  InvestorGiven number row event = investor.EventGiven D event

  abbrev RoomGiven : RoomRef → RoomEvent → List Duty → Type 0
  RoomGiven at event left = Every (DutyGiven D) left

  walks : Walks DealerGiven InvestorGiven RoomGiven config facts (EffectGiven D)
  walks = record {
    idle = nothing_given;
    at_a_dealer = λ number row found event left given. desk_given number row event left given.0 given.1;
    at_an_investor = λ number row found event given.
        market_given (market_of config number row) event [] given tt;
    in_a_room = λ at there event no_hit left given.
        record { facts = rooms at (room.event_facts (of_room at facts) event); duties = given };
    by_a_hit = λ at there response word moment given.
        hit_given at response word moment (settlement_found config facts at word moment) given;
  }

  in_each : (dealer : ℕ) (does : RoomRef → Duty) → ((at : RoomRef) → DutyGiven D (does at))
      → InRooms (DutyGiven D) config facts dealer does
  in_each dealer does given =
      every_all (λ (at : RoomRef). DutyGiven D (does at)) given (rooms_by (of_dealer dealer facts))

  at_dealers : (by : Actor) (left : Duty) → DutyGiven D left → DealerMay DealerGiven config facts by left
  at_dealers by (duty.Show dealer at ask moment) given = λ row found none. (given, tt)
  at_dealers by (duty.Tell dealer at close moment) given =
      λ row found request there may. (given, tt)
  at_dealers (actor.Firm number) (duty.Drop last moment) given = λ row found. (
    given,
    drop_each (DutyGiven D) config facts number last moment row (
      λ quote. in_each number (λ at. duty.Unpost at quote moment) (λ at. given),
      given,
    ),
  )
  at_dealers by other given = tt

  at_investors : (left : Duty) → DutyGiven D left → InvestorMay InvestorGiven config left
  at_investors (duty.Relay at offer moment) given = λ row found. given
  at_investors (duty.Gone at word moment) given = λ row found. given
  at_investors (duty.Declined at moment) given =
      λ number dealer is row found. (named.dealers number dealer is, given)
  at_investors (duty.Answer at response reply moment) given = λ fits row found. given
  at_investors (duty.Close at moment) given = λ row found. given
  at_investors other given = tt

  told : (at : RoomRef) (moment : ℕ) → D moment → AreTold (DutyGiven D) config facts at moment
  told at moment day =
      every_all (λ (dealer : ℕ). (close : Close) → D moment) (λ dealer close. day)
      (dealers_of (request_of (of_room at facts)))

  in_rooms : (by : Actor) (left : Duty) → DutyGiven D left → RoomMay RoomGiven config facts by left
  in_rooms by (duty.Open at ask dealers moment) given =
      if_each (DutyGiven D) (is_vacant (of_room at facts)) (shown_then_ready at ask dealers moment)
      (shown_each (DutyGiven D) config facts at moment (λ dealer. duty.Show dealer at ask moment) dealers
      (every_all (λ (dealer : ℕ). AskGiven D ask × D moment) (λ dealer. given) dealers, given.1))
  in_rooms (actor.Firm number) (duty.Post at quote price valid_until moment) given = λ row found.
      follows (DutyGiven D) _ _ ((named.dealers number row found, given.0), given.1)
  in_rooms (actor.Firm number) (duty.Unpost at quote moment) given =
      λ row found. follows (DutyGiven D) _ _ given
  in_rooms (actor.Firm number) (duty.Decline at moment) given =
      λ row found. follows (DutyGiven D) _ _ given
  in_rooms by (duty.Hit at response word moment) given = (
    given,
    outcome_each (DutyGiven D) config facts at moment (told at moment given.1)
        (hit_outcome (of_room at facts) word moment (settlement_found config facts at word moment)),
  )
  in_rooms by (duty.Pass at response moment) given = (
    given,
    if_each (DutyGiven D) (is_open (of_room at facts)) (told_in (of_room at facts) at room.passed moment)
        (told_each (DutyGiven D) config facts at room.passed moment (told at moment given.1)),
  )
  in_rooms by other given = tt

  pub duty_given : (by : Actor) (left : Duty) → DutyGiven D left
      → EffectGiven D (duty_effect config facts by left)
  duty_given by left given =
      duty_walks DealerGiven InvestorGiven RoomGiven config facts (EffectGiven D) walks by left
      (at_dealers by left given) (at_investors left given) (in_rooms by left given)

  pub sweep_given : (at : RoomRef) (moment : ℕ) → D moment
      → EffectGiven D (sweep_effect config facts at moment)
  sweep_given at moment day =
      sweep_walks DealerGiven InvestorGiven RoomGiven config facts (EffectGiven D) walks at moment
      (if_each (DutyGiven D) (room.may_expire (of_room at facts) moment)
      (duty.Close at moment ∷ told_in (of_room at facts) at room.expired moment)
      (day, told_each (DutyGiven D) config facts at room.expired moment (told at moment day)))

  -- A message.

  verdict_leaves : (number moment : ℕ) (v : DealerVerdict) → dealer.VerdictGiven D v → D moment
      → MaySay (DutyGiven D) config facts number moment v
  verdict_leaves number moment (verdict.QuoteAccepted request id quote replaced) given day =
      in_each number (post_of quote) (λ at. (given.3, given.4))
  verdict_leaves number moment (verdict.CancelAccepted id quote request) given day =
      in_each number (λ at. duty.Unpost at quote moment) (λ at. day)
  verdict_leaves number moment (verdict.DropsFollow last) given day = day
  verdict_leaves number moment (verdict.DeclineAccepted request quote) given day =
      in_each number (λ at. duty.Decline at moment) (λ at. day)
  verdict_leaves number moment other given day = tt

  dealer_says : (moment : ℕ) (bytes : List ℕ) (number : ℕ) (row : DealerRow) → D moment
      → EffectGiven D (received_by_dealer config facts moment bytes (dealer_of number row))
  dealer_says moment bytes number row day =
      let own = of_dealer number facts in
      let v = verdict_on config facts moment bytes (dealer_of number row) in
      let settlement = settlement_of own v in
      when _ (at_dealer config facts (dealer_of number row)
      (at_desk.Received moment bytes settlement) (left_by own moment v))
      (desk_given number row (at_desk.Received moment bytes settlement) (left_by own moment v) day
      (verdict_each (DutyGiven D) config facts number moment v settlement (verdict_leaves number moment v
      (dealer.verdict_given D of_day config.date row (book_by own) moment bytes day) day)))

  investor_says : (moment : ℕ) (bytes : List ℕ) (number : ℕ) (row : InvestorRow)
      → investor_numbered config number ≡ Some row → D moment
      → EffectGiven D (received_by_investor facts moment bytes (market_of config number row))
  investor_says moment bytes number row is day =
      let market = market_of config number row in
      let book = investor_trail.book_by (of_investor number facts) in
      market_given market (at_investor.Received moment bytes)
      (left_by_investor facts moment bytes market) day
      (investor_leaves D market moment (investor_verdict market book moment bytes)
      (investor.verdict_given D of_day market (named.investors number row is) book moment bytes)
      day)

  pub message_given : (firm moment : ℕ) (bytes : List ℕ) → D moment
      → EffectGiven D (message_effect config facts firm moment bytes)
  unfolding message_effect
  message_given firm moment bytes day = by_role (is_some (dealer_numbered config firm))
    where
      by_role : (b : Bool) → EffectGiven D
          (if b
          then done_by (dealer_at config firm) (received_by_dealer config facts moment bytes)
          else done_for (market_for config firm) (received_by_investor facts moment bytes))
      by_role true =
          numbered firm (received_by_dealer config facts moment bytes)
          (λ row is. dealer_says moment bytes firm row day)
      by_role false =
          invested firm (received_by_investor facts moment bytes)
          (λ row is. investor_says moment bytes firm row is day)
