-- What an action says to an investor of some kind of things, whatever the kind: what its messages say
-- of each, in their order.
use Rattle.std.proofs.Common.{◌≡◌, ◌==◌, ◌+◌, ℕ, Bool, true, false, List, [], ◌∷◌, ◌++◌, map, filter_map, length}
use Rattle.std.proofs.Common.{Option, Some, None, is_some, option_map, refl, sym, ap, ◌∙◌, subst, if◌then◌else◌}
use Rattle.std.proofs.Common.{Result, Ok, Err, inl, inr}
use Rattle.std.specs.List.{cons_option}
use Rattle.std.proofs.lemmas.Bool.{cases_Bool, eqb-true}
use Rattle.std.proofs.lemmas.List.{map-append}
use Rattle.std.proofs.lemmas.List.Elements.{filter_map-append}
use Rattle.std.proofs.lemmas.Option.{same_Some}
use Rattle.market_terms.specs.declared.closes.HitRefusal.{HitRefusal}
use Rattle.market_terms.specs.declared.closes.Reply.{Reply}
use Rattle.market_terms.specs.declared.duties.Duty.{Duty}
use Rattle.market_terms.specs.declared.duties.Duty.TheVariants as duty
use Rattle.market_terms.specs.declared.rooms.ResponseRef.{ResponseRef}
use Rattle.market_terms.specs.declared.rooms.RoomRef.{RoomRef}
use Rattle.quote_messages.specs.declared.out_messages.OutMessage.{OutMessage}
use Rattle.quote_word.specs.declared.settled.Settled.{Settled}
use Rattle.venue_rows.specs.Rows.{Configuration, dealer_numbered, investor_numbered}
use Rattle.venue_rows.specs.declared.dealer_rows.DealerRow.{DealerRow}
use Rattle.venue_rows.specs.declared.investor_rows.InvestorRow.{InvestorRow}
use Rattle.venue_steps.specs.Dealers.{Dealer, dealer_at, dealer_of}
use Rattle.venue_steps.specs.declared.actors.Actor.{Actor}
use Rattle.venue_steps.specs.InvestorSteps.{replies_to}
use Rattle.dealer_desk.specs.declared.events.DealerEvent.{DealerEvent}
use Rattle.dealer_desk.specs.declared.events.DealerEvent.TheVariants as at_desk
use Rattle.investor_desk.specs.InvestorDesk.{market_for, market_of}
use Rattle.investor_desk.specs.InvestorFacts.{InvestorBook}
use Rattle.investor_desk.specs.InvestorOutput as investor_output
use Rattle.investor_desk.specs.InvestorRules.{InvestorMarket}
use Rattle.investor_desk.specs.declared.events.InvestorEvent.{InvestorEvent}
use Rattle.investor_desk.specs.declared.events.InvestorEvent.TheVariants as at_investor
use Rattle.request_room.specs.Book.{event_facts, hit_outcome}
use Rattle.request_room.specs.declared.ends.End.{End}
use Rattle.request_room.specs.declared.events.RoomEvent.{RoomEvent}
use Rattle.request_room.specs.declared.events.RoomEvent.TheVariants as at_room
use Rattle.step_replay.specs.ActionKinds.{event_in}
use Rattle.step_replay.specs.Actions.{Effect, QuoteRef, at_dealer, at_market, done_by}
use Rattle.step_replay.specs.Actions.{done_for, hit_with, left_by}
use Rattle.step_replay.specs.Actions.{lifting, nothing, quote_with_word}
use Rattle.step_replay.specs.Actions.{received_by_dealer, received_by_investor, settlement_of}
use Rattle.step_replay.specs.Actions.{verdict_on}
use Rattle.step_replay.specs.DealerTrail.{entries_of}
use Rattle.step_replay.specs.DutyEffects.{duty_effect, message_effect, sweep_effect}
use Rattle.step_replay.specs.InvestorTrail as investor_trail
use Rattle.step_replay.specs.InvestorTrail.{InvestorEntry}
use Rattle.step_replay.specs.AuditTrail.{AuditTrail, sent_to}
use Rattle.step_replay.specs.PlaceLemmas.{behind_dealers}
use Rattle.std.proofs.Common.{arith, ◌<◌, ◌≤◌}
use Rattle.std.proofs.lemmas.Option.{slice_get_within}
use Rattle.step_replay.specs.PlaceLemmas.{everything_of, investor_at_dealer, investor_in_room, nothing_of}
use Rattle.step_replay.specs.PlaceLemmas.{investor_grown, other_investor, own_investor}
use Rattle.step_replay.specs.VenueFacts.{Fact, InRoom, of_dealer, of_investor}
use Rattle.step_replay.specs.VenueFacts.{of_room}
use Rattle.laws_days.specs.DutyWalk.{AnyDealer, AnyRoom, InvestorMay, Walks, any_dealer, any_room}
use Rattle.laws_days.specs.DutyWalk.{duty_walks, settlement_found, sweep_walks}
use Rattle.laws_days.specs.ActionCases.{if_does, numbered_does}
use Rattle.laws_rooms.specs.Responses.{Said, said_to}

-- What an investor is sent.

pub sent_grown : (investor : ℕ) (facts more : List Fact)
    → investor_trail.sent_by (of_investor investor (facts ++ more))
    ≡ investor_trail.sent_by (of_investor investor facts) ++ investor_trail.sent_by (of_investor investor more)
sent_grown investor facts more =
    ap (λ (l : List InvestorEntry). investor_trail.sent_by l) (investor_grown investor facts more)
    ∙ filter_map-append investor_trail.message_in (of_investor investor facts) (of_investor investor more)

pub investor_sent : (config : Configuration) (investor : ℕ) (row : InvestorRow)
    → investor_numbered config investor ≡ Some row → (venue : AuditTrail)
    → sent_to config investor venue ≡ investor_trail.sent_by (of_investor investor venue.facts)
investor_sent config investor row is venue = rw (by_found (dealer_numbered config investor) refl) refl
  where
    by_found : (found : Option DealerRow) → dealer_numbered config investor ≡ found → is_some found ≡ false
    by_found None at = refl
    by_found (Some other) at =
        let within : investor < length config.dealers = slice_get_within config.dealers investor other at in
        let behind : length config.dealers ≤ investor = behind_dealers config investor row is in
        absurd (omega arith)

-- one event at its desk
pub event_sent : (facts : List Fact) (market : InvestorMarket) (event : InvestorEvent) (duties : List Duty)
    → investor_trail.sent_by (of_investor market.firm (at_market facts market event duties).facts)
    ≡ investor_output.written_from market (length (investor_trail.sent_by (of_investor market.firm facts)) + 1)
    (investor_output.moment_of event)
    (investor_output.event_messages market (investor_trail.book_by (of_investor market.firm facts)) event)
unfolding investor_trail.entries_of
event_sent facts market event duties =
    let trail = of_investor market.firm facts in
    let added = investor_output.event_facts market (investor_trail.book_by trail) event in
    let messages = investor_output.written_from market (length (investor_trail.sent_by trail) + 1)
    (investor_output.moment_of event) (investor_output.event_messages market (investor_trail.book_by trail) event) in
    let entries = investor_trail.Happened event
    ∷ map investor_trail.AtDesk added ++ map investor_trail.Sent messages in
    ap (λ (l : List InvestorEntry). investor_trail.sent_by l) (own_investor market.firm entries)
    ∙ filter_map-append investor_trail.message_in (map investor_trail.AtDesk added) (map investor_trail.Sent messages)
    ∙ ap (λ (l : List (List ℕ)). l ++ filter_map investor_trail.message_in (map investor_trail.Sent messages))
    (nothing_of investor_trail.message_in investor_trail.AtDesk (λ fact. refl) added)
    ∙ everything_of investor_trail.message_in investor_trail.Sent (λ m. refl) messages

-- A kind of things, by what a message says of one at its moment.
module _ {X : Type 0} (f : ℕ → OutMessage → Option X) where
  -- Messages, and what they say.

  pub record Says (market : InvestorMarket) (sent : List (List ℕ)) (items : List X) : Type 0 where
    pub says : List Said
    pub sent_are : sent ≡ map (said_to market) says
    pub items_are : filter_map (λ (said : Said). f said.moment said.message) says ≡ items

  pub says_none : (market : InvestorMarket) → Says market [] []
  says_none market = record { says = []; sent_are = refl; items_are = refl }

  pub says_both : (market : InvestorMarket) (sent more : List (List ℕ)) (items also : List X)
      → Says market sent items → Says market more also → Says market (sent ++ more) (items ++ also)
  says_both market sent more items also one other = record {
    says = one.says ++ other.says;
    sent_are = ap (λ (l : List (List ℕ)). l ++ more) one.sent_are
        ∙ ap (λ (l : List (List ℕ)). map (said_to market) one.says ++ l) other.sent_are
        ∙ sym (map-append (said_to market) one.says other.says);
    items_are = filter_map-append (λ (said : Said). f said.moment said.message) one.says other.says
        ∙ ap (λ (l : List X). l ++ filter_map (λ (said : Said). f said.moment said.message) other.says)
        one.items_are
        ∙ ap (λ (l : List X). items ++ l) other.items_are;
  }

  pub says_written : (market : InvestorMarket) (number moment : ℕ) (messages : List OutMessage)
      → Says market (investor_output.written_from market number moment messages)
      (filter_map (f moment) messages)
  says_written market number moment [] = says_none market
  says_written market number moment (message ∷ messages) =
      let rest = says_written market (number + 1) moment messages in
      let first : Said = record { number = number; moment = moment; message = message } in
      record {
        says = first ∷ rest.says;
        sent_are = ap (λ (l : List (List ℕ)). said_to market first ∷ l) rest.sent_are;
        items_are = ap (λ (l : List X). cons_option (f moment message) l) rest.items_are;
      }

  -- an event that says nothing of them
  abbrev pub Silent : InvestorMarket → InvestorBook → InvestorEvent → Type 0
  Silent market book event = filter_map (f (investor_output.moment_of event))
      (investor_output.event_messages market book event) ≡ []

  abbrev pub IsSilent : InvestorEvent → Type 0
  IsSilent event = (market : InvestorMarket) (book : InvestorBook) → Silent market book event

  -- a duty that brings an investor nothing but such an event
  abbrev pub Silently : ℕ → InvestorRow → InvestorEvent → Type 0
  Silently number row event = IsSilent event

  abbrev pub IsHushed : Configuration → Duty → Type 0
  IsHushed config d = InvestorMay Silently config d

  -- What an effect says to one investor.

  module _ (config : Configuration) (facts : List Fact) (investor : ℕ) (row : InvestorRow)
      (is : investor_numbered config investor ≡ Some row) where
    abbrev market : InvestorMarket
    market = market_of config investor row

    abbrev book_at : ℕ → InvestorBook
    book_at number = investor_trail.book_by (of_investor number facts)

    -- the messages that it is sent by it
    abbrev pub sent_in : Effect → List (List ℕ)
    sent_in effect = investor_trail.sent_by (of_investor investor effect.facts)

    -- none of them says anything of the kind
    pub record Quiet (effect : Effect) : Type 0 where
      pub says : Says market (sent_in effect) []

    none_sent : (effect : Effect) → of_investor investor effect.facts ≡ [] → Quiet effect
    none_sent effect none = record {
      says = subst (λ (l : List InvestorEntry). Says market (investor_trail.sent_by l) []) (sym none)
          (says_none market);
    }

    pub idle : Quiet nothing
    unfolding of_investor
    idle = none_sent nothing refl

    -- one event at its desk
    pub event_says : (event : InvestorEvent) (duties : List Duty)
        → Says market (sent_in (at_market facts market event duties))
        (filter_map (f (investor_output.moment_of event))
        (investor_output.event_messages market (book_at investor) event))
    event_says event duties =
        let trail = of_investor investor facts in
        let said = investor_output.event_messages market (book_at investor) event in
        subst (λ (l : List (List ℕ)). Says market l (filter_map (f (investor_output.moment_of event)) said))
        (sym (event_sent facts market event duties))
        (says_written market (length (investor_trail.sent_by trail) + 1) (investor_output.moment_of event) said)

    -- an event that says nothing of the kind
    silent_own : (event : InvestorEvent) (duties : List Duty) → Silent market (book_at investor) event
        → Quiet (at_market facts market event duties)
    silent_own event duties silent = record {
      says = subst (Says market (sent_in (at_market facts market event duties))) silent
          (event_says event duties);
    }

    pub other_quiet : (number : ℕ) (other : InvestorRow) (event : InvestorEvent) (duties : List Duty)
        → (number == investor) ≡ false → Quiet (at_market facts (market_of config number other) event duties)
    other_quiet number other event duties differs =
        none_sent (at_market facts (market_of config number other) event duties)
        (other_investor investor number differs _)

    market_quiet : (number : ℕ) (other : InvestorRow) → investor_numbered config number ≡ Some other
        → (event : InvestorEvent) (duties : List Duty) → IsSilent event
        → Quiet (at_market facts (market_of config number other) event duties)
    market_quiet number other found event duties silent = elim (cases_Bool (number == investor)) [
      | inl same ↦
          (let one : number ≡ investor = eqb-true number investor same in
          let row_is : other ≡ row = same_Some other row
          (sym found ∙ ap (λ (n : ℕ). investor_numbered config n) one ∙ is) in
          subst (λ (n : ℕ). Quiet (at_market facts (market_of config n other) event duties)) (sym one)
          (subst (λ (r : InvestorRow). Quiet (at_market facts (market_of config investor r) event duties)) (sym row_is)
          (silent_own event duties (silent market (book_at investor)))))
      | inr differs ↦ other_quiet number other event duties differs
    ]

    -- where there is such an investor
    pub invested : (P : Effect → Type 0) → P nothing → (number : ℕ) (act : InvestorMarket → Effect)
        → ((other : InvestorRow) → investor_numbered config number ≡ Some other
        → P (act (market_of config number other))) → P (done_for (market_for config number) act)
    invested P none number act each = by_row (investor_numbered config number) refl
      where
        by_row : (found : Option InvestorRow) → investor_numbered config number ≡ found
            → P (done_for (option_map (market_of config number) found) act)
        by_row None at = none
        by_row (Some other) at = each other at

    desk_quiet : (dealer : Dealer) (event : DealerEvent) (duties : List Duty)
        → Quiet (at_dealer config facts dealer event duties)
    desk_quiet dealer event duties =
        none_sent (at_dealer config facts dealer event duties)
        (investor_at_dealer investor dealer.number
        (entries_of config.date dealer.row (of_dealer dealer.number facts) event))

    room_quiet : (at : RoomRef) (event : RoomEvent) (left : List Duty)
        → Quiet (event_in config facts at event left)
    room_quiet at event left =
        none_sent (event_in config facts at event left)
        (investor_in_room investor at (event_facts (of_room at facts) event))

    lifted_none : (found : Option QuoteRef) (outcome : Result End HitRefusal)
        → of_investor investor (lifting found outcome) ≡ []
    unfolding of_investor
    lifted_none None outcome = refl
    lifted_none (Some hit) (Ok award) = refl
    lifted_none (Some hit) (Err why) = refl

    hit_quiet : (room : RoomRef) (response : ResponseRef) (word moment : ℕ) (settlement : Option Settled)
        → Quiet (hit_with config facts room response word moment settlement)
    hit_quiet room response word moment settlement =
        let known = of_room room facts in
        let lifted = lifting (quote_with_word config word) (hit_outcome known word moment settlement) in
        let happened = event_facts known (at_room.Hit word moment settlement) in
        none_sent (hit_with config facts room response word moment settlement)
        (investor_grown investor lifted (map (InRoom room) happened)
        ∙ ap (λ (l : List InvestorEntry). l ++ of_investor investor (map (InRoom room) happened))
        (lifted_none (quote_with_word config word) (hit_outcome known word moment settlement))
        ∙ investor_in_room investor room happened)

    -- Duties.

    walks : Walks AnyDealer Silently AnyRoom config facts Quiet
    walks = record {
      idle = idle;
      at_a_dealer = λ number other found event left any. desk_quiet (dealer_of number other) event left;
      at_an_investor = λ number other found event silent. market_quiet number other found event [] silent;
      in_a_room = λ at there event no_hit left any. room_quiet at event left;
      by_a_hit = λ at there response word moment any.
          hit_quiet at response word moment (settlement_found config facts at word moment);
    }

    pub duty_quiet : (by : Actor) (d : Duty) → IsHushed config d → Quiet (duty_effect config facts by d)
    duty_quiet by d hushed =
        duty_walks AnyDealer Silently AnyRoom config facts Quiet walks by d
        (any_dealer AnyDealer config facts by d (λ number other event left is. tt)) hushed
        (any_room AnyRoom config facts by d (λ at event left is. tt))

    pub sweep_quiet : (room : RoomRef) (moment : ℕ) → Quiet (sweep_effect config facts room moment)
    sweep_quiet room moment =
        sweep_walks AnyDealer Silently AnyRoom config facts Quiet walks room moment tt

    -- What is for another investor.

    pub answer_other : (by : Actor) (room : RoomRef) (response : ResponseRef) (reply : Reply) (moment : ℕ)
        → (room.investor == investor) ≡ false
        → Quiet (duty_effect config facts by (duty.Answer room response reply moment))
    unfolding duty_effect
    answer_other by room response reply moment differs =
        invested Quiet idle room.investor _ (λ other found. if_does Quiet idle (replies_to response.k reply) _
        (if_does Quiet idle _ (at_market facts (market_of config room.investor other)
        (at_investor.Answered room.n response reply moment) [])
        (other_quiet room.investor other (at_investor.Answered room.n response reply moment) [] differs)))

    pub close_other : (by : Actor) (room : RoomRef) (moment : ℕ) → (room.investor == investor) ≡ false
        → Quiet (duty_effect config facts by (duty.Close room moment))
    unfolding duty_effect
    close_other by room moment differs =
        invested Quiet idle room.investor _ (λ other found.
        if_does Quiet idle _ (at_market facts (market_of config room.investor other)
        (at_investor.Closed room.n moment) [])
        (other_quiet room.investor other (at_investor.Closed room.n moment) [] differs))

    -- Messages of firms.

    received_quiet : (dealer : Dealer) (moment : ℕ) (bytes : List ℕ)
        → Quiet (received_by_dealer config facts moment bytes dealer)
    received_quiet dealer moment bytes =
        let found = verdict_on config facts moment bytes dealer in
        let trail = of_dealer dealer.number facts in
        if_does Quiet idle _ (at_dealer config facts dealer
        (at_desk.Received moment bytes (settlement_of trail found)) (left_by trail moment found))
        (desk_quiet dealer (at_desk.Received moment bytes (settlement_of trail found)) (left_by trail moment found))

    pub message_quiet : (firm moment : ℕ) (bytes : List ℕ) → IsSilent (at_investor.Received moment bytes)
        → Quiet (message_effect config facts firm moment bytes)
    unfolding message_effect
    message_quiet firm moment bytes silent = either (is_some (dealer_numbered config firm))
      where
        either : (b : Bool) → Quiet (if b
            then done_by (dealer_at config firm) (received_by_dealer config facts moment bytes)
            else done_for (market_for config firm) (received_by_investor facts moment bytes))
        either true = numbered_does Quiet idle config firm (received_by_dealer config facts moment bytes)
            (λ other found. received_quiet (dealer_of firm other) moment bytes)
        either false = invested Quiet idle firm (received_by_investor facts moment bytes) (λ other found.
            market_quiet firm other found (at_investor.Received moment bytes) _ silent)
