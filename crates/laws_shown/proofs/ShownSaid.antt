-- What a message and a drop of a dealer bring of what is shown.
use Rattle.std.proofs.Common.{◌≡◌, ℕ, ◌+◌, ◌-◌, Bool, true, false, List, [], ◌∷◌, ◌++◌, Option}
use Rattle.std.proofs.Common.{Some, None, IfSome, option_map, refl, sym, ap, ◌∙◌, subst, arith, inl}
use Rattle.std.proofs.Common.{inr, if◌then◌else◌}
use Rattle.std.specs.Option.{option_to_list}
use Rattle.std.specs.Prelude.{slice_get}
use Rattle.std.proofs.lemmas.Option.{same_Some}
use Rattle.quote_word.specs.declared.settled.Settled.{Settled}
use Rattle.quote_word.specs.declared.settled.Settled.TheVariants as settled
use Rattle.market_terms.specs.declared.asks.Ask.{Ask}
use Rattle.market_terms.specs.declared.duties.Duty.{Duty}
use Rattle.market_terms.specs.declared.duties.Duty.TheVariants as duty
use Rattle.market_terms.specs.declared.rooms.RoomRef.{RoomRef}
use Rattle.quote_messages.specs.declared.out_messages.OutMessage.{OutMessage}
use Rattle.venue_rows.specs.Rows.{Configuration, dealer_numbered}
use Rattle.venue_rows.specs.declared.dealer_rows.DealerRow.{DealerRow}
use Rattle.venue_steps.specs.declared.actors.Actor.{Actor}
use Rattle.venue_steps.specs.declared.actors.Actor.TheVariants as actor
use Rattle.dealer_desk.specs.DealerFacts.{Came, DealerFact, Quoted, number_to_drop}
use Rattle.dealer_desk.specs.DealerFacts.{quote_to_drop}
use Rattle.dealer_desk.specs.DealerOutput.{answer_facts, drop_message, event_facts, event_message}
use Rattle.dealer_desk.specs.DealerOutput.{goes_through, is_withdrawn, post_of, room_of}
use Rattle.dealer_desk.specs.DealerOutput.{settled_facts, uses_number, verdict_duty, verdict_facts}
use Rattle.dealer_desk.specs.DealerOutput.{verdict_message}
use Rattle.dealer_desk.specs.DealerRules.{dealer_verdict}
use Rattle.dealer_desk.specs.declared.accepted.AcceptedQuote.{AcceptedQuote}
use Rattle.dealer_desk.specs.declared.events.DealerEvent.TheVariants as event
use Rattle.dealer_desk.specs.declared.standing.StandingQuote.{StandingQuote}
use Rattle.dealer_desk.specs.declared.standing.Withdrawal.{Withdrawal}
use Rattle.dealer_desk.specs.declared.standing.Withdrawal.TheVariants as by_way
use Rattle.dealer_desk.specs.declared.verdicts.DealerVerdict.{DealerVerdict}
use Rattle.dealer_desk.specs.declared.verdicts.DealerVerdict.TheVariants as verdict
use Rattle.step_replay.specs.Actions.{answer_to_drop, dealer_of, drop_at, left_by}
use Rattle.step_replay.specs.Actions.{left_by_drop, received_by_dealer, settlement_of}
use Rattle.step_replay.specs.DealerTrail.{AtDesk, DealerEntry, book_by, facts_of, rooms_by}
use Rattle.step_replay.specs.EachLemmas.{every_both}
use Rattle.step_replay.specs.GrowthLemmas.{in_right}
use Rattle.step_replay.specs.Lists.{Every, In}
use Rattle.step_replay.specs.VenueFacts.{Fact, of_dealer}
use Rattle.laws_days.specs.ActionCases.{if_does}
use Rattle.laws_days.specs.KeptItems.{every_all}
use Rattle.laws_days.specs.MayLeave.{drop_each}
use Rattle.laws_shown.specs.ShownRequests.{at_dealer}
use Rattle.laws_shown.proofs.AcceptedQuotes.{AcceptOk, AcceptsQuote, asks_of, verdict_accepts}
use Rattle.laws_shown.proofs.ListLemmas.{cases_some, get_grown, paired_at}
use Rattle.laws_shown.proofs.Messages.{shows}
use Rattle.laws_shown.proofs.ShownDesk.{Brings, Stood, desk_brings, effect, happened_now, idle}
use Rattle.laws_shown.proofs.ShownDesk.{plain_sent, settled_ask, verdict_ask}
use Rattle.laws_shown.proofs.ShownParts.{DealerOk, DutyOk, IsAsked, IsQuoteOf, WasQuoted}
use Rattle.laws_shown.proofs.ShownParts.{request_later, rooms_grown}

module _ (config : Configuration) (facts : List Fact) (stood : Stood config facts) (number : ℕ)
    (row : DealerRow) (row_is : dealer_numbered config number ≡ Some row) where
  -- the trail of the dealer, and its rooms
  abbrev trail : List DealerEntry
  trail = of_dealer number facts

  abbrev rooms : List RoomRef
  rooms = rooms_by trail

  -- A message, whatever comes behind.

  module _ (moment : ℕ) (bytes : List ℕ) (more : List Fact) where
    abbrev now : List Fact
    now = facts ++ more

    -- a quote that was accepted, in a room that the dealer was shown
    quoted_in : (quote : AcceptedQuote)
        → AcceptsQuote config.date row (facts_of trail) moment bytes quote → (room : RoomRef)
        → room_of rooms quote.request ≡ Some room
        → In (Came moment bytes true) (at_dealer number now)
        → In (Quoted quote) (at_dealer number now) → IsQuoteOf config now room number quote
    quoted_in quote accepts room found came quoted =
        let pair = paired_at (λ (ask : Ask) (shown : RoomRef). IsAsked config facts shown ask)
        (asks_of (facts_of trail)) rooms (stood.asks number) accepts.place accepts.ask
        accepts.ask_is in
        let request_is : quote.request ≡ 1 + accepts.place = accepts.request_is in
        let place : accepts.place ≡ quote.request - 1 = omega arith in
        let same : pair.0 ≡ room =
        same_Some pair.0 room (sym pair.1 ∙ ap (slice_get rooms) place ∙ found) in
        let asked : IsAsked config facts room accepts.ask =
        subst (λ (r : RoomRef). IsAsked config facts r accepts.ask) same pair.2 in
        record {
          is_written = record {
            is_quote = record {
              row = row;
              wrote = accepts.fields;
              is_dealer = row_is;
              accepted = quoted;
              answers = rw (rooms_grown number facts more)
                  (get_grown rooms (rooms_by (of_dealer number more)) (quote.request - 1) room
                  found);
              came = record {
                bytes = bytes;
                came = rw (accepts.moment_is) came;
                frame = accepts.frame;
              };
              says = accepts.says;
            };
            request = asked.request;
            is_request = request_later config facts more room asked.request asked.is_request;
            bond = accepts.bond ∙ ap (λ (a : Ask). a.bond) (sym asked.ask_is);
            side = accepts.side ∙ ap (λ (a : Ask). a.side) (sym asked.ask_is);
            quantity = accepts.quantity ∙ ap (λ (a : Ask). a.quantity) (sym asked.ask_is);
          };
          within = accepts.within;
        }

    -- the room of a quote that was accepted
    room_there : (quote : AcceptedQuote)
        → AcceptsQuote config.date row (facts_of trail) moment bytes quote
        → (room : RoomRef) × (room_of rooms quote.request ≡ Some room)
    room_there quote accepts =
        let pair = paired_at (λ (ask : Ask) (shown : RoomRef). IsAsked config facts shown ask)
        (asks_of (facts_of trail)) rooms (stood.asks number) accepts.place accepts.ask
        accepts.ask_is in
        let request_is : quote.request ≡ 1 + accepts.place = accepts.request_is in
        let place : quote.request - 1 ≡ accepts.place = omega arith in
        (pair.0, ap (slice_get rooms) place ∙ pair.1)

    -- Facts.

    abbrev Ok : DealerFact → Type 0
    Ok fact = DealerOk config now number (AtDesk fact)

    answers_ok : (quote : ℕ) (how : Withdrawal) (settlement : Option Settled)
        → Every Ok (answer_facts quote how settlement)
    answers_ok quote how None = tt
    answers_ok quote how (Some settled.Withdrawn) = (tt, tt)
    answers_ok quote how (Some settled.Lifted) = (tt, tt)

    settled_ok : (asked : Option ℕ) (how : Withdrawal) (settlement : Option Settled)
        → Every Ok (settled_facts asked how settlement)
    settled_ok None how settlement = tt
    settled_ok (Some quote) how settlement = answers_ok quote how settlement

    kept_ok : (b : Bool) (quote : AcceptedQuote) → (b ≡ true → WasQuoted config now number quote)
        → Every Ok (if b then Quoted quote ∷ [] else [])
    kept_ok true quote is = (is refl, tt)
    kept_ok false quote is = tt

    kept_there : (b : Bool) (quote : AcceptedQuote) → b ≡ true
        → In (Quoted quote) (if b then Quoted quote ∷ [] else [])
    kept_there true quote is = inl refl
    kept_there false quote is = cc

    -- that what a verdict adds stands then
    abbrev Added : DealerVerdict → Option Settled → Type 0
    Added v settlement = (fact : DealerFact)
        → In fact (Came moment bytes (uses_number v) ∷ verdict_facts v settlement)
        → In fact (at_dealer number now)

    quote_there : (name id : List ℕ) (quote : AcceptedQuote) (old : Option ℕ)
        (settlement : Option Settled)
        → AcceptsQuote config.date row (facts_of trail) moment bytes quote
        → Added (verdict.QuoteAccepted name id quote old) settlement
        → goes_through old settlement ≡ true → (room : RoomRef)
        → room_of rooms quote.request ≡ Some room → IsQuoteOf config now room number quote
    quote_there name id quote old settlement accepts added goes room found =
        quoted_in quote accepts room found (added (Came moment bytes true) (inl refl))
        (added (Quoted quote) (inr (in_right (Quoted quote)
        (settled_facts old by_way.Replacement settlement) _
        (kept_there (goes_through old settlement) quote goes))))

    said_ok : (v : DealerVerdict) (settlement : Option Settled)
        → AcceptOk config.date row (facts_of trail) moment bytes v → Added v settlement
        → Every Ok (verdict_facts v settlement)
    said_ok (verdict.QuoteAccepted name id quote old) settlement accepts added =
        every_both Ok (settled_facts old by_way.Replacement settlement)
        (if goes_through old settlement then Quoted quote ∷ [] else [])
        (settled_ok old by_way.Replacement settlement)
        (kept_ok (goes_through old settlement) quote (λ goes.
        let room = room_there quote accepts in
        record {
          room = room.0;
          is_quote = quote_there name id quote old settlement accepts added goes room.0 room.1;
        }))
    said_ok (verdict.CancelAccepted id quote request) settlement accepts added =
        answers_ok quote by_way.Cancel settlement
    said_ok (verdict.DeclineAccepted request name) settlement accepts added = (tt, tt)
    said_ok other settlement accepts added = tt

    -- The message that answers.

    said_plain : (v : DealerVerdict) (settlement : Option Settled)
        → AcceptOk config.date row (facts_of trail) moment bytes v
        → IfSome (verdict_message v settlement) (λ (m : OutMessage). shows m ≡ false)
    said_plain verdict.Dropped settlement accepts = tt
    said_plain (verdict.OutOfSequence reject) settlement accepts = refl
    said_plain (verdict.Rejected reject) settlement accepts = refl
    said_plain (verdict.QuoteRefused request id refusal) settlement accepts = refl
    said_plain (verdict.CancelRefused id refusal) settlement accepts = refl
    said_plain (verdict.DeclineRefused request refusal) settlement accepts = refl
    said_plain (verdict.QuoteAccepted name id quote old) settlement accepts = refl
    said_plain (verdict.CancelAccepted id quote request) settlement accepts = refl
    said_plain (verdict.DropsFollow last) settlement accepts = tt
    said_plain (verdict.DeclineAccepted request name) settlement accepts = refl

    -- The duty that is left.

    module _ (by : Actor) (by_is : by ≡ actor.Firm number) where
      abbrev LeftOk : Option Duty → Type 0
      LeftOk left = Every (DutyOk config now by) (option_to_list left)

      in_room : (b : Bool) (request : ℕ) (left : RoomRef → Duty)
          → (b ≡ true → (room : RoomRef) → room_of rooms request ≡ Some room
          → DutyOk config now by (left room))
          → LeftOk (if b then option_map left (room_of rooms request) else None)
      in_room false request left is = tt
      in_room true request left is = elim (cases_some (room_of rooms request)) [
        | inl none ↦ rw none tt
        | inr some ↦ rw (some.1) (is refl some.0 some.1, tt)
      ]

      said_left : (v : DealerVerdict) (settlement : Option Settled)
          → AcceptOk config.date row (facts_of trail) moment bytes v → Added v settlement
          → LeftOk (verdict_duty rooms moment v settlement)
      said_left (verdict.QuoteAccepted name id quote old) settlement accepts added =
          in_room (goes_through old settlement) quote.request (post_of quote)
          (λ goes room found. record {
            dealer = number;
            by_is = by_is;
            quote = quote;
            is_quote = quote_there name id quote old settlement accepts added goes room found;
            number_is = refl;
            price_is = refl;
            until_is = refl;
          })
      said_left (verdict.CancelAccepted id quote request) settlement accepts added =
          in_room (is_withdrawn settlement) request (λ room. duty.Unpost room quote moment)
          (λ is room found. tt)
      said_left (verdict.DropsFollow last) settlement accepts added = (tt, tt)
      said_left (verdict.DeclineAccepted request name) settlement accepts added =
          in_room true name (λ room. duty.Decline room moment) (λ is room found. tt)
      said_left other settlement accepts added = tt

  -- Events.

  pub said_brings : (by : Actor) → by ≡ actor.Firm number → (moment : ℕ) (bytes : List ℕ)
      → Brings config facts by (received_by_dealer config facts moment bytes (dealer_of number row))
  unfolding event_facts event_message
  said_brings by by_is moment bytes =
      let v = dealer_verdict config.date row (book_by trail) moment bytes in
      let settlement = settlement_of trail v in
      let more = event.Received moment bytes settlement in
      let duties = left_by trail moment v in
      let grown = (effect config facts by number row more duties).facts in
      let accepts = verdict_accepts config.date row (facts_of trail) moment bytes in
      let added = happened_now config facts by number row more duties in
      if_does (Brings config facts by) (idle config facts by) _ _
      (desk_brings config facts by number row more duties
      (tt, said_ok moment bytes grown v settlement accepts added)
      (plain_sent config facts by number row more duties
      (said_plain moment bytes grown v settlement accepts))
      (rw (verdict_ask v settlement) tt)
      (said_left moment bytes grown by by_is v settlement accepts added))

  pub dropped_brings : (by : Actor) → by ≡ actor.Firm number → (last moment : ℕ)
      → Brings config facts by (effect config facts by number row (drop_at trail last moment)
      (left_by_drop config facts last moment (dealer_of number row)))
  unfolding event_facts event_message
  dropped_brings by by_is last moment =
      let more = drop_at trail last moment in
      let duties = left_by_drop config facts last moment (dealer_of number row) in
      let grown = (effect config facts by number row more duties).facts in
      let settlement = answer_to_drop trail last in
      desk_brings config facts by number row more duties
      (tt, settled_ok moment [] grown (number_to_drop (book_by trail) last) by_way.Cancel settlement)
      (plain_sent config facts by number row more duties (report (quote_to_drop (book_by trail) last)))
      (rw (settled_ask (number_to_drop (book_by trail) last) by_way.Cancel settlement) tt)
      (drop_each (DutyOk config (facts ++ grown) by) config facts number last moment row
      ((λ quote. every_all _ (λ room. tt) rooms), tt))
    where
      report : (found : Option StandingQuote)
          → IfSome (option_map (drop_message (answer_to_drop trail last)) found)
          (λ (m : OutMessage). shows m ≡ false)
      report None = tt
      report (Some own) = refl
