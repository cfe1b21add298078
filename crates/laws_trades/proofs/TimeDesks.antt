-- What an action at a firm's desk brings of the moments of trades.
use Rattle.std.proofs.Common.{◌≡◌, ℕ, Bool, true, false, List, [], ◌∷◌, ◌++◌, map, length, ◌+◌}
use Rattle.std.proofs.Common.{Option, Some, None, is_some, option_map, refl, sym, ap, ◌∙◌, subst}
use Rattle.std.proofs.Common.{inl, if◌then◌else◌}
use Rattle.std.specs.Option.{option_to_list}
use Rattle.std.proofs.lemmas.List.{append_assoc, append-nil}
use Rattle.std.proofs.lemmas.List.Elements.{filter_map-append}
use Rattle.market_terms.specs.declared.asks.Ask.{Ask}
use Rattle.market_terms.specs.declared.closes.Close.{Close}
use Rattle.market_terms.specs.declared.closes.Close.TheVariants as closes
use Rattle.market_terms.specs.declared.closes.Reply.{Reply}
use Rattle.market_terms.specs.declared.closes.Reply.TheVariants as reply
use Rattle.market_terms.specs.declared.duties.Duty.{Duty}
use Rattle.market_terms.specs.declared.duties.Duty.TheVariants as duty
use Rattle.market_terms.specs.declared.rooms.ResponseRef.{ResponseRef}
use Rattle.market_terms.specs.declared.rooms.RoomRef.{RoomRef}
use Rattle.quote_messages.specs.declared.out_messages.OutMessage.{OutMessage}
use Rattle.quote_word.specs.declared.settled.Settled.{Settled}
use Rattle.quote_word.specs.declared.settled.Settled.TheVariants as settled
use Rattle.venue_rows.specs.Rows.{Configuration, investor_numbered}
use Rattle.venue_rows.specs.declared.dealer_rows.DealerRow.{DealerRow}
use Rattle.venue_rows.specs.declared.investor_rows.InvestorRow.{InvestorRow}
use Rattle.venue_steps.specs.Dealers.{Dealer, dealer_of}
use Rattle.venue_steps.specs.InvestorSteps.{replies_to}
use Rattle.dealer_desk.specs.DealerFacts.{DealerFact, Quoted, number_to_drop}
use Rattle.dealer_desk.specs.DealerOutput.{answer_facts, closable, event_facts, goes_through}
use Rattle.dealer_desk.specs.DealerOutput.{number_in, post_of, settled_facts, shown_room}
use Rattle.dealer_desk.specs.DealerOutput.{verdict_facts}
use Rattle.dealer_desk.specs.declared.events.DealerEvent.{DealerEvent}
use Rattle.dealer_desk.specs.declared.events.DealerEvent.TheVariants as at_desk
use Rattle.dealer_desk.specs.declared.standing.Withdrawal.{Withdrawal}
use Rattle.dealer_desk.specs.declared.standing.Withdrawal.TheVariants as by_way
use Rattle.dealer_desk.specs.declared.verdicts.DealerVerdict.{DealerVerdict}
use Rattle.dealer_desk.specs.declared.verdicts.DealerVerdict.TheVariants as said
use Rattle.investor_desk.specs.InvestorDesk.{market_for, market_of}
use Rattle.investor_desk.specs.InvestorOutput as investor_output
use Rattle.investor_desk.specs.InvestorRules.{InvestorMarket}
use Rattle.investor_desk.specs.declared.events.InvestorEvent.{InvestorEvent}
use Rattle.investor_desk.specs.declared.events.InvestorEvent.TheVariants as at_investor
use Rattle.step_replay.specs.Actions.{Effect, answer_to_drop, at_dealer, at_market, done_for}
use Rattle.step_replay.specs.Actions.{drop_at, left_by, left_by_drop, received_by_dealer}
use Rattle.step_replay.specs.Actions.{settlement_of, verdict_on}
use Rattle.step_replay.specs.DealerTrail as dealer_trail
use Rattle.step_replay.specs.DealerTrail.{DealerEntry}
use Rattle.step_replay.specs.EachLemmas.{every_both}
use Rattle.step_replay.specs.GrowthLemmas.{in_right, number_grown}
use Rattle.step_replay.specs.InvestorTrail as investor_trail
use Rattle.step_replay.specs.InvestorTrail.{InvestorEntry}
use Rattle.step_replay.specs.Lists.{Every, In}
use Rattle.step_replay.specs.PlaceLemmas.{dealer_grown, investor_grown, own_investor}
use Rattle.step_replay.specs.VenueFacts.{AtDealer, AtInvestor, Fact, of_dealer, of_investor}
use Rattle.laws_days.specs.ActionCases.{if_does}
use Rattle.laws_days.specs.KeptItems.{every_all, every_map}
use Rattle.laws_days.specs.MayLeave.{MaySay, drop_each, verdict_each}
use Rattle.laws_trades.specs.TradeTimes.{IsAwarded, IsToldAt, room_at}
use Rattle.laws_trades.proofs.TimeParts.{Brings, DutyTimed, FactTimed, award_grown, mapped, none}
use Rattle.laws_trades.proofs.TimeParts.{of_tell, told_at}

module _ (config : Configuration) (facts : List Fact) where
  -- At a dealer.

  module _ (dealer : Dealer) (event : DealerEvent) (duties : List Duty) where
    abbrev at_it : Effect
    at_it = at_dealer config facts dealer event duties

    abbrev then_facts : List Fact
    then_facts = facts ++ at_it.facts

    abbrev AtIt : DealerEntry → Type 0
    AtIt entry = FactTimed config then_facts (AtDealer dealer.number entry)

    desk_brings : Every (λ (fact : DealerFact). AtIt (dealer_trail.AtDesk fact))
        (event_facts config.date dealer.row (dealer_trail.book_by (of_dealer dealer.number facts)) event)
        → Every (DutyTimed config then_facts) duties → Brings config facts at_it
    unfolding dealer_trail.entries_of
    desk_brings each left =
        let trail = of_dealer dealer.number facts in
        let added = event_facts config.date dealer.row (dealer_trail.book_by trail) event in
        let rooms = option_to_list (shown_room event) in
        let messages = option_to_list (dealer_trail.message_by config.date dealer.row trail event) in
        record {
          facts_are = mapped (FactTimed config then_facts) (AtDealer dealer.number)
              (map dealer_trail.AtDesk added ++ map dealer_trail.ShownIn rooms ++ map dealer_trail.Sent messages)
              (every_both AtIt (map dealer_trail.AtDesk added ++ map dealer_trail.ShownIn rooms)
              (map dealer_trail.Sent messages)
              (every_both AtIt (map dealer_trail.AtDesk added) (map dealer_trail.ShownIn rooms)
              (mapped AtIt dealer_trail.AtDesk added each)
              (every_map AtIt dealer_trail.ShownIn (λ room. tt) rooms))
              (every_map AtIt dealer_trail.Sent (λ bytes. tt) messages));
          duties_are = left;
        }

    abbrev AtDesk : DealerFact → Type 0
    AtDesk fact = AtIt (dealer_trail.AtDesk fact)

    answered_so : (quote : ℕ) (how : Withdrawal) (settlement : Option Settled)
        → Every AtDesk (answer_facts quote how settlement)
    answered_so quote how None = tt
    answered_so quote how (Some settled.Withdrawn) = (tt, tt)
    answered_so quote how (Some settled.Lifted) = (tt, tt)

    settled_so : (quote : Option ℕ) (how : Withdrawal) (settlement : Option Settled)
        → Every AtDesk (settled_facts quote how settlement)
    settled_so None how settlement = tt
    settled_so (Some quote) how settlement = answered_so quote how settlement

    verdict_so : (v : DealerVerdict) (settlement : Option Settled)
        → Every AtDesk (verdict_facts v settlement)
    verdict_so (said.QuoteAccepted request id quote replaced) settlement =
        every_both AtDesk (settled_facts replaced by_way.Replacement settlement)
        (if goes_through replaced settlement then Quoted quote ∷ [] else [])
        (settled_so replaced by_way.Replacement settlement) (if_quoted (goes_through replaced settlement))
      where
        if_quoted : (b : Bool) → Every AtDesk (if b then Quoted quote ∷ [] else [])
        if_quoted true = (tt, tt)
        if_quoted false = tt
    verdict_so (said.CancelAccepted id quote request) settlement = answered_so quote by_way.Cancel settlement
    verdict_so (said.DeclineAccepted request number) settlement = (tt, tt)
    verdict_so other settlement = tt

  -- what may be left by a dealer's verdict is no hit
  says_so : (now : List Fact) (dealer moment : ℕ) (v : DealerVerdict)
      → MaySay (DutyTimed config now) config facts dealer moment v
  says_so now dealer moment (said.QuoteAccepted request id quote replaced) =
      every_all (λ (room : RoomRef). DutyTimed config now (post_of quote room)) (λ room. tt)
      (dealer_trail.rooms_by (of_dealer dealer facts))
  says_so now dealer moment (said.CancelAccepted id quote request) =
      every_all (λ (room : RoomRef). DutyTimed config now (duty.Unpost room quote moment)) (λ room. tt)
      (dealer_trail.rooms_by (of_dealer dealer facts))
  says_so now dealer moment (said.DropsFollow last) = tt
  says_so now dealer moment (said.DeclineAccepted request number) =
      every_all (λ (room : RoomRef). DutyTimed config now (duty.Decline room moment)) (λ room. tt)
      (dealer_trail.rooms_by (of_dealer dealer facts))
  says_so now dealer moment other = tt

  pub said_brings : (dealer : ℕ) (row : DealerRow) (moment : ℕ) (bytes : List ℕ)
      → Brings config facts (received_by_dealer config facts moment bytes (dealer_of dealer row))
  unfolding event_facts
  said_brings dealer row moment bytes =
      let trail = of_dealer dealer facts in
      let v = verdict_on config facts moment bytes (dealer_of dealer row) in
      let settlement = settlement_of trail v in
      let event = at_desk.Received moment bytes settlement in
      let duties = left_by trail moment v in
      if_does (Brings config facts) (none config facts) _ (at_dealer config facts (dealer_of dealer row) event duties)
      (desk_brings (dealer_of dealer row) event duties
      (tt, verdict_so (dealer_of dealer row) event duties v settlement)
      (verdict_each (DutyTimed config (then_facts (dealer_of dealer row) event duties)) config facts dealer moment v settlement
      (says_so (then_facts (dealer_of dealer row) event duties) dealer moment v)))

  pub dropped_brings : (dealer : ℕ) (row : DealerRow) (last moment : ℕ)
      → Brings config facts (at_dealer config facts (dealer_of dealer row) (drop_at (of_dealer dealer facts) last moment)
      (left_by_drop config facts last moment (dealer_of dealer row)))
  unfolding event_facts
  dropped_brings dealer row last moment =
      let event = drop_at (of_dealer dealer facts) last moment in
      let duties = left_by_drop config facts last moment (dealer_of dealer row) in
      desk_brings (dealer_of dealer row) event duties (
        tt,
        settled_so (dealer_of dealer row) event duties
            (number_to_drop (dealer_trail.book_by (of_dealer dealer facts)) last) by_way.Cancel
            (answer_to_drop (of_dealer dealer facts) last),
      )
      (drop_each (DutyTimed config (then_facts (dealer_of dealer row) event duties)) config facts dealer last moment row (
        (λ quote. every_all (λ (room : RoomRef).
            DutyTimed config (then_facts (dealer_of dealer row) event duties) (duty.Unpost room quote moment)) (λ room. tt)
            (dealer_trail.rooms_by (of_dealer dealer facts))),
        tt,
      ))

  pub shown_brings : (dealer : Dealer) (room : RoomRef) (ask : Ask) (moment : ℕ)
      → Brings config facts (at_dealer config facts dealer (at_desk.Shown room ask moment) [])
  unfolding event_facts
  shown_brings dealer room ask moment =
      desk_brings dealer (at_desk.Shown room ask moment) [] (tt, tt) tt

  module _ (dealer : Dealer) (room : RoomRef) (close : Close) (moment : ℕ)
      (is : DutyTimed config facts (duty.Tell dealer.number room close moment)) (request : ℕ)
      (found : number_in (dealer_trail.rooms_by (of_dealer dealer.number facts)) room ≡ Some request) where
    abbrev telling : DealerEvent
    telling = at_desk.Told request close moment

    abbrev told_facts : List Fact
    told_facts = (at_dealer config facts dealer telling []).facts

    is_told : close ≡ closes.Hit → IsToldAt (facts ++ told_facts) dealer.number request moment
    is_told hit = record {
      room = room;
      shown = rw (dealer_grown dealer.number facts told_facts, filter_map-append)
          (number_grown 1 (dealer_trail.rooms_by (of_dealer dealer.number facts)) _ room request found);
      award = award_grown config facts told_facts room moment (of_tell config facts dealer.number room close moment is hit);
    }

    told_so : (b : Bool)
        → is_some (closable (dealer_trail.book_by (of_dealer dealer.number facts)) request) ≡ b
        → Every (AtDesk dealer telling [])
        (event_facts config.date dealer.row (dealer_trail.book_by (of_dealer dealer.number facts)) telling)
    unfolding event_facts
    told_so true test = rw test (told_at config (facts ++ told_facts) dealer.number request moment close is_told, tt)
    told_so false test = rw test tt

    pub told_brings : Brings config facts (at_dealer config facts dealer telling [])
    told_brings =
        desk_brings dealer telling []
        (told_so (is_some (closable (dealer_trail.book_by (of_dealer dealer.number facts)) request)) refl) tt

  -- At an investor.

  module _ (investor : ℕ) (row : InvestorRow) (is_investor : investor_numbered config investor ≡ Some row)
      (event : InvestorEvent) (duties : List Duty) where
    abbrev market : InvestorMarket
    market = market_of config investor row

    abbrev trail : List InvestorEntry
    trail = of_investor investor facts

    abbrev at_this : Effect
    at_this = at_market facts market event duties

    abbrev pub so_facts : List Fact
    so_facts = facts ++ at_this.facts

    abbrev AtThis : InvestorEntry → Type 0
    AtThis entry = FactTimed config so_facts (AtInvestor investor entry)

    -- it replies to a response where it may, and an award where the room was awarded
    pub record MayReply : Type 0 where
      pub replies : (request : ℕ) (response : ResponseRef) (answer : Reply) (moment : ℕ)
          → event ≡ at_investor.Answered request response answer moment
          → replies_to response.k answer ≡ true
      pub award : (request : ℕ) (response : ResponseRef) (moment : ℕ)
          → event ≡ at_investor.Answered request response reply.Awarded moment
          → IsAwarded facts (room_at investor request) moment

    pub grown : of_investor investor so_facts
        ≡ trail ++ investor_trail.entries_of market trail event
    grown =
        investor_grown investor facts at_this.facts
        ∙ ap (λ (l : List InvestorEntry). trail ++ l)
        (own_investor investor (investor_trail.entries_of market trail event))

    messages_so : MayReply → (number : ℕ) (some : List OutMessage)
        → Every (λ (m : OutMessage). In m (investor_output.event_messages market (investor_trail.book_by trail) event)) some
        → Every (λ (bytes : List ℕ). AtThis (investor_trail.Sent bytes))
        (investor_output.written_from market number (investor_output.moment_of event) some)
    messages_so may number [] are = tt
    messages_so may number (m ∷ some) are = (
      record {
        row = row;
        is_investor = is_investor;
        stood = trail;
        event = event;
        after = [];
        trail_is = grown ∙ sym (append-nil (trail ++ investor_trail.entries_of market trail event));
        number = number;
        message = m;
        says = are.0;
        bytes_are = refl;
        replies = may.replies;
        award = λ request response moment at. award_grown config facts at_this.facts (room_at investor request) moment
            (may.award request response moment at);
      },
      messages_so may (number + 1) some are.1,
    )

    all_among : (before some : List OutMessage)
        → Every (λ (m : OutMessage). In m (before ++ some)) some
    all_among before [] = tt
    all_among before (m ∷ some) = (
      in_right m before (m ∷ some) (inl refl),
      subst (λ (l : List OutMessage). Every (λ (x : OutMessage). In x l) some) (append_assoc before (m ∷ []) some)
          (all_among (before ++ m ∷ []) some),
    )

    pub market_brings : MayReply → Every (DutyTimed config so_facts) duties → Brings config facts at_this
    unfolding investor_trail.entries_of
    market_brings may left =
        let added = investor_output.event_facts market (investor_trail.book_by trail) event in
        let some = investor_output.event_messages market (investor_trail.book_by trail) event in
        let messages = investor_output.written_from market (length (investor_trail.sent_by trail) + 1)
        (investor_output.moment_of event) some in
        record {
          facts_are = mapped (FactTimed config so_facts) (AtInvestor investor)
              (investor_trail.Happened event
              ∷ map investor_trail.AtDesk added ++ map investor_trail.Sent messages) (
                tt,
                every_both AtThis (map investor_trail.AtDesk added) (map investor_trail.Sent messages)
                    (every_map AtThis investor_trail.AtDesk (λ fact. tt) added)
                    (mapped AtThis investor_trail.Sent messages (messages_so may
                    (length (investor_trail.sent_by trail) + 1) some (all_among [] some))),
              );
          duties_are = left;
        }

  pub invested_brings : (investor : ℕ) (act : InvestorMarket → Effect)
      → ((row : InvestorRow) → investor_numbered config investor ≡ Some row
      → Brings config facts (act (market_of config investor row)))
      → Brings config facts (done_for (market_for config investor) act)
  invested_brings investor act each = by_row (investor_numbered config investor) refl
    where
      by_row : (found : Option InvestorRow) → investor_numbered config investor ≡ found
          → Brings config facts (done_for (option_map (market_of config investor) found) act)
      by_row None is = none config facts
      by_row (Some row) is = each row is
