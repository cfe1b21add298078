-- What an event at a dealer's desk brings of what is shown.
use Rattle.std.proofs.Common.{◌≡◌, ℕ, ◌+◌, ◌==◌, Bool, true, false, List, [], ◌∷◌, ◌++◌}
use Rattle.std.proofs.Common.{map, length, Option, Some, None, IfSome, option_map, refl}
use Rattle.std.proofs.Common.{◌∙◌, subst, inl, inr, is_some, if◌then◌else◌}
use Rattle.std.specs.Option.{option_to_list}
use Rattle.std.proofs.lemmas.Bool.{cases_Bool, eqb-true}
use Rattle.std.proofs.lemmas.List.Elements.{filter_map-append}
use Rattle.quote_word.specs.declared.settled.Settled.{Settled}
use Rattle.quote_word.specs.declared.settled.Settled.TheVariants as settled
use Rattle.market_terms.specs.declared.asks.Ask.{Ask}
use Rattle.market_terms.specs.declared.closes.Close.{Close}
use Rattle.market_terms.specs.declared.duties.Duty.{Duty}
use Rattle.market_terms.specs.declared.rooms.RoomRef.{RoomRef}
use Rattle.quote_messages.specs.declared.out_messages.Head.{Head}
use Rattle.quote_messages.specs.declared.out_messages.OutMessage.{OutMessage}
use Rattle.venue_rows.specs.Rows.{Configuration, dealer_numbered}
use Rattle.venue_rows.specs.declared.dealer_rows.DealerRow.{DealerRow}
use Rattle.venue_steps.specs.declared.actors.Actor.{Actor}
use Rattle.dealer_desk.specs.DealerFacts.{Came, DealerBook, DealerFact, Dropped, Quoted}
use Rattle.dealer_desk.specs.DealerFacts.{number_to_drop, quote_to_drop}
use Rattle.dealer_desk.specs.DealerFacts as dealer_facts
use Rattle.dealer_desk.specs.DealerOutput as dealer_output
use Rattle.dealer_desk.specs.DealerOutput.{answer_facts, closable, drop_message, event_facts}
use Rattle.dealer_desk.specs.DealerOutput.{event_message, goes_through, is_withdrawn, next_message}
use Rattle.dealer_desk.specs.DealerOutput.{notice_of, post_of, settled_facts, shown_room, uses_number}
use Rattle.dealer_desk.specs.DealerOutput.{verdict_duty, verdict_facts, verdict_message}
use Rattle.dealer_desk.specs.declared.accepted.AcceptedQuote.{AcceptedQuote}
use Rattle.dealer_desk.specs.declared.events.DealerEvent.{DealerEvent}
use Rattle.dealer_desk.specs.declared.events.DealerEvent.TheVariants as event
use Rattle.dealer_desk.specs.declared.standing.StandingRequest.{StandingRequest}
use Rattle.dealer_desk.specs.declared.standing.Withdrawal.{Withdrawal}
use Rattle.dealer_desk.specs.declared.standing.Withdrawal.TheVariants as by_way
use Rattle.dealer_desk.specs.declared.verdicts.DealerVerdict.{DealerVerdict}
use Rattle.dealer_desk.specs.declared.verdicts.DealerVerdict.TheVariants as verdict
use Rattle.step_replay.specs.Actions.{Effect, at_dealer as at_desk, dealer_of}
use Rattle.step_replay.specs.Actions.{nothing}
use Rattle.step_replay.specs.DealerTrail.{AtDesk, DealerEntry, Sent, ShownIn, book_by, entries_of}
use Rattle.step_replay.specs.DealerTrail.{facts_of, message_by, rooms_by, sent_by}
use Rattle.step_replay.specs.EachLemmas.{every_both}
use Rattle.step_replay.specs.GrowthLemmas.{in_right}
use Rattle.step_replay.specs.Lists.{Every, In}
use Rattle.step_replay.specs.PlaceLemmas.{investor_at_dealer, other_trail, own_trail}
use Rattle.step_replay.specs.TrailLemmas.{facts_added, rooms_added}
use Rattle.step_replay.specs.VenueFacts.{AtDealer, Fact, of_dealer, of_investor}
use Rattle.laws_days.specs.KeptItems.{every_in, every_map}
use Rattle.step_replay.specs.InvestorTrail.{sent_by as sent_by_investor}
use Rattle.laws_shown.specs.ShownQuotes.{AreShownInTurn, shown_to}
use Rattle.laws_shown.proofs.ShownParts.{turn_none}
use Rattle.laws_shown.specs.ShownRequests.{ComesFromARequest, ShowsWhatWasAsked, at_dealer}
use Rattle.laws_shown.specs.ShownRequests.{at_investor}
use Rattle.laws_shown.proofs.AcceptedQuotes.{asks_of}
use Rattle.laws_shown.proofs.LawfulFields.{dealer_value}
use Rattle.laws_shown.proofs.ListLemmas.{AreFrom}
use Rattle.laws_shown.proofs.Messages.{plain_to_dealer, shows}
use Rattle.laws_shown.proofs.ShownParts.{AreAsked, AsksIt, DealerOk, DutyOk, FactOk, IsAsked}
use Rattle.laws_shown.proofs.ShownParts.{asked_of, dealer_facts_grown, it_later}
use Rattle.laws_shown.proofs.ShownParts.{number_asked}
use Rattle.laws_shown.proofs.ShownTexts.{request_text}

-- What stands of the facts of a venue.
pub record Stood (config : Configuration) (facts : List Fact) : Type 0 where
  pub each : Every (FactOk config facts) facts
  pub asks : (dealer : ℕ) → AreAsked config facts (asks_of (at_dealer dealer facts))
      (rooms_by (of_dealer dealer facts))
  pub numbered : (investor : ℕ) → AreFrom number_asked 1 (asked_of (at_investor investor facts))
  pub sent : (investor : ℕ) → AreShownInTurn config facts investor
      (sent_by_investor (of_investor investor facts)) (shown_to investor facts)

-- Facts that ask nothing.

answers_ask : (quote : ℕ) (how : Withdrawal) (settlement : Option Settled)
    → asks_of (answer_facts quote how settlement) ≡ []
answers_ask quote how None = refl
answers_ask quote how (Some settled.Withdrawn) = refl
answers_ask quote how (Some settled.Lifted) = refl

pub settled_ask : (asked : Option ℕ) (how : Withdrawal) (settlement : Option Settled)
    → asks_of (settled_facts asked how settlement) ≡ []
settled_ask None how settlement = refl
settled_ask (Some quote) how settlement = answers_ask quote how settlement

kept_ask : (b : Bool) (quote : AcceptedQuote) → asks_of (if b then Quoted quote ∷ [] else []) ≡ []
kept_ask true quote = refl
kept_ask false quote = refl

pub verdict_ask : (v : DealerVerdict) (settlement : Option Settled)
    → asks_of (verdict_facts v settlement) ≡ []
verdict_ask (verdict.QuoteAccepted request id quote replaced) settlement =
    filter_map-append _ (settled_facts replaced by_way.Replacement settlement)
    (if goes_through replaced settlement then Quoted quote ∷ [] else [])
    ∙ rw (settled_ask replaced by_way.Replacement settlement)
    (kept_ask (goes_through replaced settlement) quote)
verdict_ask (verdict.CancelAccepted id quote request) settlement =
    answers_ask quote by_way.Cancel settlement
verdict_ask (verdict.DeclineAccepted request number) settlement = refl
verdict_ask other settlement = refl

module _ (config : Configuration) (facts : List Fact) (by : Actor) where
  -- what an effect has to bring
  pub record Brings (effect : Effect) : Type 0 where
    pub stands : Every (FactOk config (facts ++ effect.facts)) effect.facts
    pub left : Every (DutyOk config (facts ++ effect.facts) by) effect.duties
    pub asks : (dealer : ℕ) → AreAsked config (facts ++ effect.facts)
        (asks_of (at_dealer dealer effect.facts)) (rooms_by (of_dealer dealer effect.facts))
    pub numbered : (investor : ℕ)
        → AreFrom number_asked (1 + length (asked_of (at_investor investor facts)))
        (asked_of (at_investor investor effect.facts))
    pub sent : (investor : ℕ) → AreShownInTurn config (facts ++ effect.facts) investor
        (sent_by_investor (of_investor investor effect.facts)) (shown_to investor effect.facts)

  pub idle : Brings nothing
  unfolding of_dealer of_investor
  idle = record {
    stands = tt;
    left = tt;
    asks = λ dealer. tt;
    numbered = λ investor. tt;
    sent = λ investor. turn_none config (facts ++ []) investor;
  }

  -- At a desk.

  module _ (number : ℕ) (row : DealerRow) (more : DealerEvent) (duties : List Duty) where
    abbrev pub trail : List DealerEntry
    trail = of_dealer number facts

    abbrev pub effect : Effect
    effect = at_desk config facts (dealer_of number row) more duties

    abbrev pub now : List Fact
    now = facts ++ effect.facts

    -- what happened
    abbrev pub happened : List DealerFact
    happened = event_facts config.date row (book_by trail) more

    abbrev entries : List DealerEntry
    entries = entries_of config.date row trail more

    abbrev rooms : List RoomRef
    rooms = option_to_list (shown_room more)

    abbrev pub sent : List (List ℕ)
    sent = option_to_list (message_by config.date row trail more)

    entries_facts : facts_of entries ≡ happened
    unfolding entries_of
    entries_facts = facts_added happened rooms sent

    entries_rooms : rooms_by entries ≡ rooms
    unfolding entries_of
    entries_rooms = rooms_added happened rooms sent

    -- what happened is what the effect has of the desk
    pub happened_here : (fact : DealerFact) → In fact happened
        → In fact (at_dealer number effect.facts)
    happened_here fact is = rw (own_trail number entries, entries_facts) is

    -- the facts of the desk stand then
    pub happened_now : (fact : DealerFact) → In fact happened → In fact (at_dealer number now)
    happened_now fact is = rw (
      dealer_facts_grown number facts effect.facts,
      own_trail number entries,
      entries_facts,
    ) (in_right fact (at_dealer number facts) happened is)

    entries_ok : Every (λ fact. DealerOk config now number (AtDesk fact)) happened
        → Every (λ message. DealerOk config now number (Sent message)) sent
        → Every (DealerOk config now number) entries
    unfolding entries_of
    entries_ok stand say =
        let Ok = DealerOk config now number in
        every_both Ok (map AtDesk happened ++ map ShownIn rooms) (map Sent sent)
        (every_both Ok (map AtDesk happened) (map ShownIn rooms)
        (every_in (λ fact. Ok (AtDesk fact)) Ok AtDesk (λ fact ok. ok) happened stand)
        (every_map Ok ShownIn (λ room. tt) rooms))
        (every_in (λ message. Ok (Sent message)) Ok Sent (λ message ok. ok) sent say)

    pub desk_brings : Every (λ fact. DealerOk config now number (AtDesk fact)) happened
        → Every (λ message. DealerOk config now number (Sent message)) sent
        → AreAsked config now (asks_of happened) rooms → Every (DutyOk config now by) duties
        → Brings effect
    desk_brings stand say pair left = record {
      stands = every_in (DealerOk config now number) (FactOk config now) (AtDealer number)
          (λ entry ok. ok) entries (entries_ok stand say);
      left = left;
      asks = λ dealer. elim (cases_Bool (number == dealer)) [
        | inl same ↦
            subst (λ d. AreAsked config now (asks_of (at_dealer d effect.facts))
            (rooms_by (of_dealer d effect.facts))) (eqb-true number dealer same)
            (rw (own_trail number entries, entries_facts, entries_rooms) pair)
        | inr differs ↦ rw (other_trail dealer number differs entries) tt
      ];
      numbered = λ investor. rw (investor_at_dealer investor number entries) tt;
      sent = λ investor. rw (investor_at_dealer investor number entries)
          (turn_none config now investor);
    }

    -- a message that shows nothing
    pub plain_sent : IfSome (event_message config.date row (book_by trail) more)
        (λ (message : OutMessage). shows message ≡ false)
        → Every (λ message. DealerOk config now number (Sent message)) sent
    plain_sent plain = by_message (event_message config.date row (book_by trail) more) plain
      where
        by_message : (message : Option OutMessage)
            → IfSome message (λ (m : OutMessage). shows m ≡ false)
            → Every (λ text. DealerOk config now number (Sent text))
            (option_to_list (option_map (next_message config.date row (sent_by trail)
            (dealer_output.moment_of more)) message))
        by_message None is = tt
        by_message (Some message) is =
            (λ limits. plain_to_dealer (ShowsWhatWasAsked config now number) _ message is, tt)

  -- A dealer is shown a request.

  pub shown_brings : (number : ℕ) (row : DealerRow) → dealer_numbered config number ≡ Some row
      → (room : RoomRef) (ask : Ask) (moment : ℕ) → AsksIt config facts room ask number
      → Brings (at_desk config facts (dealer_of number row) (event.Shown room ask moment) [])
  unfolding event_facts event_message
  shown_brings number row row_is room ask moment is =
      let more = event.Shown room ask moment in
      let day = now number row more [] in
      let added = (effect number row more []).facts in
      let later = it_later config facts added room ask number is in
      let asked : IsAsked config day room ask = record {
        request = later.request;
        is_request = later.is_request;
        ask_is = later.ask_is;
      } in
      let from : ComesFromARequest config day number ask = record {
        room = room;
        request = later.request;
        is_written = later.is_request;
        ask_is = later.ask_is;
        named = later.named;
      } in
      let head : Head = record {
        date = config.date;
        firm = row.name;
        number = length (sent_by (of_dealer number facts)) + 1;
        moment = moment;
      } in
      desk_brings number row more [] (from, tt) (
        λ limits. request_text config day head refl (dealer_value config limits number row row_is)
            number _ ask from,
        tt,
      ) (asked, tt) tt

  -- A dealer is told how a request ended.

  pub told_brings : (number : ℕ) (row : DealerRow) (request : ℕ) (close : Close) (moment : ℕ)
      → Brings (at_desk config facts (dealer_of number row) (event.Told request close moment) [])
  unfolding event_facts event_message
  told_brings number row request close moment =
      let more = event.Told request close moment in
      desk_brings number row more []
      (by_test (is_some (closable (book_by (of_dealer number facts)) request)))
      (plain_sent number row more [] (notice (closable (book_by (of_dealer number facts)) request)))
      (rw (asks (is_some (closable (book_by (of_dealer number facts)) request))) tt) tt
    where
      by_test : (b : Bool) → Every (λ fact. DealerOk config
          (now number row (event.Told request close moment) []) number (AtDesk fact))
          (if b then dealer_facts.Told request close moment ∷ [] else [])
      by_test true = (tt, tt)
      by_test false = tt

      asks : (b : Bool)
          → asks_of (if b then dealer_facts.Told request close moment ∷ [] else []) ≡ []
      asks true = refl
      asks false = refl

      notice : (found : Option StandingRequest)
          → IfSome (option_map (notice_of (book_by (of_dealer number facts)) close) found)
          (λ (m : OutMessage). shows m ≡ false)
      notice None = tt
      notice (Some shown) = refl
