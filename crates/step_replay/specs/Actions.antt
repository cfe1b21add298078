-- What each action of the venue adds to the facts that stand, at its one place, and what it leaves
-- to be done, in its order: a message of a firm, a duty, or a sweep. An action whose condition does
-- not hold (a room shown before, a room that is not vacant, a word that the venue does not have)
-- adds nothing and leaves nothing.
use Rattle.std.specs.Prelude.{ℕ, Bool, true, ◌&&◌, List, [], ◌∷◌, ◌++◌, map, Option, Some, None}
use Rattle.std.specs.Prelude.{is_some, if◌then◌else◌, Result, Ok}
use Rattle.std.specs.Option.{option_map, option_to_list}
use Rattle.market_terms.specs.declared.asks.Ask.{Ask}
use Rattle.market_terms.specs.declared.closes.Close.{Close}
use Rattle.market_terms.specs.declared.closes.HitRefusal.{HitRefusal}
use Rattle.market_terms.specs.declared.duties.Duty.{Duty}
use Rattle.market_terms.specs.declared.rooms.ResponseRef.{ResponseRef}
use Rattle.market_terms.specs.declared.rooms.RoomRef.{RoomRef}
use Rattle.quote_word.specs.declared.settled.Settled.{Settled}
use Rattle.venue_rows.specs.Rows.{Configuration, has_room}
use Rattle.dealer_desk.specs.DealerFacts.{number_to_drop, quote_to_drop}
use Rattle.dealer_desk.specs.DealerRules.{dealer_verdict}
use Rattle.dealer_desk.specs.DealerOutput.{number_in, closable, word_asked}
use Rattle.dealer_desk.specs.DealerOutput as dealer_output
use Rattle.dealer_desk.specs.declared.verdicts.DealerVerdict.{DealerVerdict}
use Rattle.dealer_desk.specs.declared.events.DealerEvent.{DealerEvent}
use Rattle.dealer_desk.specs.declared.events.DealerEvent.TheVariants as at_desk
use Rattle.investor_desk.specs.InvestorFacts.{knows}
use Rattle.investor_desk.specs.InvestorRules.{InvestorMarket, investor_verdict}
use Rattle.investor_desk.specs.InvestorOutput as investor_output
use Rattle.investor_desk.specs.declared.events.InvestorEvent.{InvestorEvent}
use Rattle.investor_desk.specs.declared.events.InvestorEvent.TheVariants as at_investor
use Rattle.request_room.specs.Book.{event_facts, hit_outcome}
use Rattle.request_room.specs.declared.ends.End.{End}
use Rattle.request_room.specs.declared.events.RoomEvent.{RoomEvent}
use Rattle.request_room.specs.declared.events.RoomEvent.TheVariants as at_room
use Rattle.venue_steps.specs.RoomDuties.{duties_of_hit, hit_word}
use Rattle.venue_steps.specs.WordNumbers.{has_word}
use Rattle.step_replay.specs.DealerTrail.{DealerEntry, Lifted, book_by, rooms_by, answer_to_dealer}
use Rattle.step_replay.specs.DealerTrail.{answer_to_investor, entries_of}
use Rattle.step_replay.specs.InvestorTrail as investor_trail
use Rattle.step_replay.specs.VenueFacts.{Fact, AtDealer, InRoom, AtInvestor, of_dealer, of_room}
use Rattle.step_replay.specs.VenueFacts.{of_investor}
pub use Rattle.venue_steps.specs.Dealers.{Dealer, dealer_of, dealer_at, acting_dealer, QuoteRef}
pub use Rattle.venue_steps.specs.Dealers.{quotes_of, words_of, first_word, word_for, has_word_for}
pub use Rattle.venue_steps.specs.Dealers.{quote_among, quote_with_word, offer_of}

-- what an action adds, and what it leaves to be done
pub record Effect : Type 0 where
  pub facts : List Fact
  pub duties : List Duty

-- nothing happens
abbrev pub nothing : Effect
nothing = record { facts = []; duties = [] }

-- At a dealer.

-- what a dealer does, where there is one
abbrev pub done_by : Option Dealer → (Dealer → Effect) → Effect
done_by None action = nothing
done_by (Some dealer) action = action dealer

-- one event at a dealer's desk
abbrev pub at_dealer : Configuration → List Fact → Dealer → DealerEvent → List Duty → Effect
at_dealer config facts dealer event duties = record {
  facts = map (AtDealer dealer.number)
      (entries_of config.date dealer.row (of_dealer dealer.number facts) event);
  duties = duties;
}

-- A message of a dealer: the word that its verdict asks is withdrawn where it is open, and the
-- verdict leaves a post, an unpost, a decline, the first drop of a cancel of all, or nothing.

-- the settlement of the word that a verdict asks, where it asks one
abbrev pub settlement_of : List DealerEntry → DealerVerdict → Option Settled
settlement_of trail verdict = option_map (answer_to_dealer trail) (word_asked verdict)

-- what a verdict leaves
abbrev pub left_by : List DealerEntry → ℕ → DealerVerdict → List Duty
left_by trail moment verdict = option_to_list
    (dealer_output.verdict_duty (rooms_by trail) moment verdict (settlement_of trail verdict))

-- a message with this verdict, where the venue has the word that it asks
abbrev pub dealer_receives : Configuration → List Fact → Dealer → ℕ → List ℕ → DealerVerdict
    → Effect
dealer_receives config facts dealer moment bytes verdict =
    let trail = of_dealer dealer.number facts in
    if has_word (words_of config) (option_map (word_for config dealer) (word_asked verdict))
    then at_dealer config facts dealer (at_desk.Received moment bytes (settlement_of trail verdict))
    (left_by trail moment verdict)
    else nothing

-- the verdict on a message
abbrev pub verdict_on : Configuration → List Fact → ℕ → List ℕ → Dealer → DealerVerdict
verdict_on config facts moment bytes dealer =
    dealer_verdict config.date dealer.row (book_by (of_dealer dealer.number facts)) moment bytes

-- a message
abbrev pub received_by_dealer : Configuration → List Fact → ℕ → List ℕ → Dealer → Effect
received_by_dealer config facts moment bytes dealer =
    dealer_receives config facts dealer moment bytes (verdict_on config facts moment bytes dealer)

-- A drop: the first quote of a cancel of all that can still be dropped is withdrawn where its word
-- is open, and taken out of its room; where another one is left, the same drop follows.

-- the settlement of its word, where there is such a quote
abbrev pub answer_to_drop : List DealerEntry → ℕ → Option Settled
answer_to_drop trail last =
    option_map (answer_to_dealer trail) (number_to_drop (book_by trail) last)

-- the drop of the quotes up to this one as an event
abbrev pub drop_at : List DealerEntry → ℕ → ℕ → DealerEvent
drop_at trail last moment = at_desk.Drop last moment (answer_to_drop trail last)

-- what it leaves
abbrev pub left_by_drop : Configuration → List Fact → ℕ → ℕ → Dealer → List Duty
left_by_drop config facts last moment dealer =
    let trail = of_dealer dealer.number facts in
    let after = trail ++ entries_of config.date dealer.row trail (drop_at trail last moment) in
    option_to_list (dealer_output.unpost_dropped (rooms_by trail) moment (answer_to_drop trail last)
    (quote_to_drop (book_by trail) last))
    ++ option_to_list (dealer_output.further_drop (book_by after) last moment)

-- a drop, where the venue has the word that it asks
abbrev pub dropped_by : Configuration → List Fact → ℕ → ℕ → Dealer → Effect
dropped_by config facts last moment dealer =
    let trail = of_dealer dealer.number facts in
    if has_word (words_of config)
    (option_map (word_for config dealer) (number_to_drop (book_by trail) last))
    then at_dealer config facts dealer (drop_at trail last moment)
    (left_by_drop config facts last moment dealer)
    else nothing

-- A dealer is shown a request, once a room.
abbrev pub shown_to : Configuration → List Fact → RoomRef → Ask → ℕ → Dealer → Effect
shown_to config facts room ask moment dealer =
    if is_some (number_in (rooms_by (of_dealer dealer.number facts)) room)
    then nothing
    else at_dealer config facts dealer (at_desk.Shown room ask moment) []

-- A dealer is told how the request with this number ended, once, where it was shown.
abbrev pub told_of : Configuration → List Fact → Dealer → Close → ℕ → Option ℕ → Effect
told_of config facts dealer close moment None = nothing
told_of config facts dealer close moment (Some request) =
    if is_some (closable (book_by (of_dealer dealer.number facts)) request)
    then at_dealer config facts dealer (at_desk.Told request close moment) []
    else nothing

-- the same of a request by its room
abbrev pub told_to : Configuration → List Fact → RoomRef → Close → ℕ → Dealer → Effect
told_to config facts room close moment dealer =
    told_of config facts dealer close moment
    (number_in (rooms_by (of_dealer dealer.number facts)) room)

-- In a room.

-- an event in a room of the venue, where its step takes place there
abbrev pub in_room : Configuration → List Fact → RoomRef → Bool → RoomEvent → List Duty → Effect
in_room config facts room may event duties =
    if has_room config room.investor room.n && may
    then record {
      facts = map (InRoom room) (event_facts (of_room room facts) event);
      duties = duties;
    }
    else nothing

-- A hit: where no check of the room refuses it, the word of the quote is lifted where it is open.

-- the settlement of a quote's word to an investor that would lift it
abbrev pub answer_to_hit : List Fact → QuoteRef → Settled
answer_to_hit facts hit = answer_to_investor (of_dealer hit.dealer facts) hit.quote

-- that a quote was lifted, where the hit of it awards
abbrev pub lifting : Option QuoteRef → Result End HitRefusal → List Fact
lifting (Some hit) (Ok award) = AtDealer hit.dealer (Lifted hit.quote) ∷ []
lifting hit outcome = []

-- a hit with the settlement of the word that it asks, where it asks one
abbrev pub hit_with : Configuration → List Fact → RoomRef → ResponseRef → ℕ → ℕ → Option Settled
    → Effect
hit_with config facts room response word moment settlement =
    let known = of_room room facts in
    record {
      facts = lifting (quote_with_word config word) (hit_outcome known word moment settlement)
          ++ map (InRoom room) (event_facts known (at_room.Hit word moment settlement));
      duties = duties_of_hit known room response word moment true settlement;
    }

-- the word that a hit asks of the venue, where it asks one
abbrev pub quote_asked : Configuration → Option ℕ → Option QuoteRef
quote_asked config None = None
quote_asked config (Some word) = quote_with_word config word

-- a hit in a room of the venue, where the venue has the word that it asks
abbrev pub hit_in : Configuration → List Fact → RoomRef → ResponseRef → ℕ → ℕ → Effect
hit_in config facts room response word moment =
    let asked = hit_word (of_room room facts) word moment in
    if has_room config room.investor room.n && has_word (words_of config) asked
    then hit_with config facts room response word moment
    (option_map (answer_to_hit facts) (quote_asked config asked))
    else nothing

-- At an investor.

-- one event at an investor's desk
abbrev pub at_market : List Fact → InvestorMarket → InvestorEvent → List Duty → Effect
at_market facts market event duties = record {
  facts = map (AtInvestor market.firm)
      (investor_trail.entries_of market (of_investor market.firm facts) event);
  duties = duties;
}

-- what a message of an investor leaves: an opening, a hit, a pass, or nothing
abbrev pub left_by_investor : List Fact → ℕ → List ℕ → InvestorMarket → List Duty
left_by_investor facts moment bytes market =
    let book = investor_trail.book_by (of_investor market.firm facts) in
    option_to_list (investor_output.verdict_duty market moment
    (investor_verdict market book moment bytes))

-- a message of an investor
abbrev pub received_by_investor : List Fact → ℕ → List ℕ → InvestorMarket → Effect
received_by_investor facts moment bytes market =
    at_market facts market (at_investor.Received moment bytes)
    (left_by_investor facts moment bytes market)

-- an event at an investor's desk on its request with this number, where it knows that request and
-- the quote on it that is meant, if one is
abbrev pub where_known : List Fact → ℕ → Option ℕ → InvestorEvent → InvestorMarket → Effect
where_known facts request quote event market =
    if knows (investor_trail.book_by (of_investor market.firm facts)) request quote
    then at_market facts market event []
    else nothing

-- what comes to an investor, where there is one
abbrev pub done_for : Option InvestorMarket → (InvestorMarket → Effect) → Effect
done_for None action = nothing
done_for (Some market) action = action market
