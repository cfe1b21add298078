-- The events at investors' desks can be said: what a duty or a message brings there.
use Rattle.std.proofs.Common.{◌≡◌, ◌<◌, ◌≤◌, ℕ, zero, suc, ◌==◌, ◌&&◌, not, Bool, true, false, nat_le}
use Rattle.std.proofs.Common.{List, [], ◌∷◌, ◌++◌, map, length, Option, Some, None}
use Rattle.std.proofs.Common.{Result, Ok, Err, IsTrue, is_some, ap, ◌∙◌, refl, subst, arith}
use Rattle.std.specs.List.{AllByRecursion}
use Rattle.std.specs.Prelude.{slice_get}
use Rattle.std.proofs.lemmas.Bool.{and_from}
use Rattle.std.proofs.lemmas.Bool.Decides.{nat_tests}
use Rattle.std.proofs.lemmas.List.Elements.{recursion_from_All}
use Rattle.std.proofs.lemmas.Option.{same_Some}
use Rattle.market_terms.specs.declared.closes.HitRefusal.{HitRefusal}
use Rattle.market_terms.specs.declared.duties.Duty.{Duty}
use Rattle.market_terms.specs.declared.duties.Duty.TheVariants as duty
use Rattle.market_terms.specs.declared.rooms.RoomRef.{RoomRef}
use Rattle.venue_rows.specs.Rows.{Configuration, KeepsLimits, dealer_numbered, firm_names}
use Rattle.venue_rows.specs.Rows.{investor_numbered, may_request}
use Rattle.venue_rows.specs.Texts.{is_firm_name}
use Rattle.venue_rows.specs.declared.dealer_rows.DealerRow.{DealerRow}
use Rattle.venue_rows.specs.declared.investor_rows.InvestorRow.{InvestorRow}
use Rattle.dealer_desk.specs.declared.events.DealerEvent.TheVariants as at_desk
use Rattle.investor_desk.specs.InvestorDesk.{market_of}
use Rattle.investor_desk.specs.InvestorFacts.{InvestorFact, book_of, request_numbered}
use Rattle.investor_desk.specs.InvestorRules.{InvestorMarket}
use Rattle.investor_desk.specs.declared.events.InvestorEvent.{InvestorEvent}
use Rattle.investor_desk.specs.declared.events.InvestorEvent.TheVariants as at_investor
use Rattle.request_room.specs.Book.{event_facts, hit_outcome}
use Rattle.request_room.specs.declared.ends.End.{End}
use Rattle.request_room.specs.declared.events.RoomEvent.TheVariants as at_room
use Rattle.venue_steps.specs.Dealers.{QuoteRef, dealer_of, quote_with_word}
use Rattle.venue_steps.specs.declared.actors.Actor.{Actor}
use Rattle.step_replay.specs.Actions.{Effect, at_dealer, at_market, left_by, left_by_investor, lifting}
use Rattle.step_replay.specs.Actions.{received_by_dealer, received_by_investor, settlement_of}
use Rattle.step_replay.specs.Actions.{verdict_on}
use Rattle.step_replay.specs.DutyEffects.{duty_effect, message_effect, sweep_effect}
use Rattle.step_replay.specs.EachLemmas.{every_both}
use Rattle.step_replay.specs.InvestorTrail.{AtDesk, Happened, Sent, entries_of}
use Rattle.step_replay.specs.Lists.{Every}
use Rattle.step_replay.specs.VenueFacts.{AtDealer, AtInvestor, Fact, InRoom, of_dealer, of_room}
use Rattle.investor_views.specs.InvestorDues.{due_by}
use Rattle.investor_texts.specs.ReadBack.{is_sayable, is_short_if}
use Rattle.venue_text.specs.ReadBack.{is_short}
use Rattle.laws_days.specs.ActionCases.{if_does, invested_does, message_of, numbered_does}
use Rattle.laws_days.specs.DutyWalk.{AnyDealer, AnyRoom, InvestorMay, Walks, any_dealer, any_room}
use Rattle.laws_days.specs.DutyWalk.{duty_walks, settlement_found, sweep_walks}
use Rattle.laws_days.specs.KeptItems.{every_map}
use Rattle.laws_dues.proofs.RoomCounts.{HasRoom}
use Rattle.laws_dues.proofs.DealerNames.{name_at}
use Rattle.laws_dues.proofs.NumberedDuties.{DutyNumbers}

-- Numbers and names.

request_short : (found : Option InvestorRow) (n : ℕ) → may_request found n ≡ true
    → is_short n ≡ true
request_short None n may = cc
request_short (Some row) n may =
    let within : (nat_le 1 n && nat_le n row.requests) ≡ true = may in
    let most : row.requests ≤ 1024 = row.requests_to in
    let few : n ≤ row.requests = grind (arith, nat_tests) in
    let low : n < 1000000000 = omega arith in
    grind (arith, nat_tests)

room_short : (config : Configuration) (room : RoomRef) → HasRoom config room
    → is_short room.n ≡ true
room_short config room has = request_short (investor_numbered config room.investor) room.n has

abbrev Named : List ℕ → Type 0
Named name = IsTrue (is_firm_name name)

all_at : (texts : List (List ℕ)) (place : ℕ) (text : List ℕ) → slice_get texts place ≡ Some text
    → AllByRecursion Named texts → is_firm_name text ≡ true
all_at [] place text at each = cc
all_at (first ∷ texts) zero text at each = subst Named (same_Some first text at) each.0
all_at (first ∷ texts) (suc place) text at each = all_at texts place text at each.1

dealer_named : (config : Configuration) → KeepsLimits config → (dealer : ℕ) (row : DealerRow)
    → dealer_numbered config dealer ≡ Some row → is_firm_name row.name ≡ true
dealer_named config limits dealer row is =
    all_at (firm_names config) dealer row.name (name_at config dealer row is)
    (recursion_from_All Named (firm_names config) limits.firms_named)

-- What is to be said of an event: its item, at a desk where nothing stands yet. So the number of a
-- quote that is taken back is the desk's to say.
abbrev pub EventSaid : InvestorEvent → Type 0
EventSaid event = is_sayable (due_by (book_of []) event) ≡ true

-- a fact, where it is such an event
abbrev pub FactSaid : Fact → Type 0
FactSaid (AtInvestor number (Happened event)) = EventSaid event
FactSaid fact = Unit {0}

abbrev pub AreSaid : Effect → Type 0
AreSaid effect = Every FactSaid effect.facts

module _ (config : Configuration) (limits : KeepsLimits config) (facts : List Fact) where
  -- One event.

  behind_said : (number : ℕ) (added : List InvestorFact) (sent : List (List ℕ))
      → Every FactSaid (map (AtInvestor number) (map AtDesk added ++ map Sent sent))
  behind_said number (fact ∷ added) sent = (tt, behind_said number added sent)
  behind_said number [] (message ∷ sent) = (tt, behind_said number [] sent)
  behind_said number [] [] = tt

  market_said : (market : InvestorMarket) (event : InvestorEvent) (left : List Duty)
      → EventSaid event → AreSaid (at_market facts market event left)
  unfolding entries_of
  market_said market event left said = (said, behind_said market.firm _ _)

  lifted_said : (found : Option QuoteRef) (outcome : Result End HitRefusal)
      → Every FactSaid (lifting found outcome)
  lifted_said None outcome = tt
  lifted_said (Some hit) (Ok award) = (tt, tt)
  lifted_said (Some hit) (Err refused) = tt

  -- All duties.

  abbrev InvestorSaid : ℕ → InvestorRow → InvestorEvent → Type 0
  InvestorSaid number row event = EventSaid event

  walks : Walks AnyDealer InvestorSaid AnyRoom config facts AreSaid
  walks = record {
    idle = tt;
    at_a_dealer = λ number row found event left any.
        every_map FactSaid (AtDealer number) (λ entry. tt) _;
    at_an_investor = λ number row found event said.
        market_said (market_of config number row) event [] said;
    in_a_room = λ at there event no_hit left any. every_map FactSaid (InRoom at) (λ fact. tt) _;
    by_a_hit = λ at there response word moment any.
        let settlement = settlement_found config facts at word moment in
        let outcome = hit_outcome (of_room at facts) word moment settlement in
        every_both FactSaid (lifting (quote_with_word config word) outcome)
        (map (InRoom at) (event_facts (of_room at facts) (at_room.Hit word moment settlement)))
        (lifted_said (quote_with_word config word) outcome)
        (every_map FactSaid (InRoom at) (λ fact. tt) _);
  }

  at_investors : (by : Actor) (left : Duty) → DutyNumbers config by left
      → InvestorMay InvestorSaid config left
  unfolding due_by request_numbered
  at_investors by (duty.Relay room offer moment) says = λ row found.
      and_from (is_short room.n) (is_firm_name offer.dealer) (room_short config room says.0)
      (ap is_firm_name says.1.name_is
      ∙ dealer_named config limits says.1.dealer says.1.row says.1.row_is)
  at_investors by (duty.Gone room word moment) says = λ row found.
      and_from (is_short room.n) true (room_short config room says) refl
  at_investors by (duty.Declined room moment) says = λ number dealer is row found.
      and_from (is_short room.n) (is_firm_name dealer.name) (room_short config room says)
      (dealer_named config limits number dealer is)
  at_investors by (duty.Answer room response reply moment) says = λ fits row found.
      and_from (is_short room.n) (is_short_if response.k) (room_short config room says.0) says.1
  at_investors by (duty.Close room moment) says = λ row found. room_short config room says
  at_investors by other says = tt

  pub duty_said : (by : Actor) (left : Duty) → DutyNumbers config by left
      → AreSaid (duty_effect config facts by left)
  duty_said by left says =
      duty_walks AnyDealer InvestorSaid AnyRoom config facts AreSaid walks by left
      (any_dealer AnyDealer config facts by left (λ number row event more at. tt))
      (at_investors by left says)
      (any_room AnyRoom config facts by left (λ room event more at. tt))

  pub sweep_said : (room : RoomRef) (moment : ℕ) → AreSaid (sweep_effect config facts room moment)
  sweep_said room moment =
      sweep_walks AnyDealer InvestorSaid AnyRoom config facts AreSaid walks room moment tt

  -- A message.

  pub message_said : (firm moment : ℕ) (bytes : List ℕ) → not (length bytes == 0) ≡ true
      → AreSaid (message_effect config facts firm moment bytes)
  unfolding message_effect due_by
  message_said firm moment bytes has = by_role (is_some (dealer_numbered config firm))
    where
      by_role : (b : Bool) → AreSaid (message_of config facts firm moment bytes b)
      by_role true =
          numbered_does AreSaid tt config firm (received_by_dealer config facts moment bytes)
          (λ row found.
          let trail = of_dealer firm facts in
          let v = verdict_on config facts moment bytes (dealer_of firm row) in
          if_does AreSaid tt _ (at_dealer config facts (dealer_of firm row)
          (at_desk.Received moment bytes (settlement_of trail v)) (left_by trail moment v))
          (every_map FactSaid (AtDealer firm) (λ entry. tt) _))
      by_role false =
          invested_does AreSaid tt config firm (received_by_investor facts moment bytes)
          (λ row. market_said (market_of config firm row) (at_investor.Received moment bytes)
          (left_by_investor facts moment bytes (market_of config firm row)) has)
