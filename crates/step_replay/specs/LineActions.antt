-- What some lines of the market's table do, by names of their own, of which laws speak.
use Rattle.std.specs.Prelude.{ℕ, true, ◌&&◌, List, Option}
use Rattle.std.specs.Prelude.{if◌then◌else◌}
use Rattle.market_terms.specs.declared.asks.Ask.{Ask}
use Rattle.market_terms.specs.declared.closes.Reply.{Reply}
use Rattle.market_terms.specs.declared.rooms.ResponseRef.{ResponseRef}
use Rattle.market_terms.specs.declared.rooms.RoomRef.{RoomRef}
use Rattle.venue_rows.specs.Rows.{Configuration}
use Rattle.investor_desk.specs.InvestorRules.{InvestorMarket}
use Rattle.investor_desk.specs.InvestorDesk as investor_desk
use Rattle.investor_desk.specs.declared.events.InvestorEvent.TheVariants as at_investor
use Rattle.request_room.specs.RoomFacts.{hears}
use Rattle.request_room.specs.declared.events.RoomEvent.TheVariants as at_room
use Rattle.venue_steps.specs.Replies.{replies_to}
use Rattle.venue_steps.specs.RoomDuties.{duties_of_open, duties_of_post, duties_of_unpost}
use Rattle.venue_steps.specs.RoomDuties.{duties_of_decline}
use Rattle.step_replay.specs.VenueFacts.{Fact, of_room}
use Rattle.venue_steps.specs.Dealers.{Dealer, has_word_for, offer_of, word_for}
use Rattle.step_replay.specs.Actions.{Effect, done_for, in_room, nothing, where_known}

-- the room of a request is opened
abbrev pub opened : Configuration → List Fact → RoomRef → Ask → List ℕ → ℕ → Effect
opened config facts room ask dealers moment =
    in_room config facts room true (at_room.Open (record { ask = ask; dealers = dealers }))
    (duties_of_open (of_room room facts) room ask dealers moment)

-- a quote is posted, where the venue has its word
abbrev pub posted_by : Configuration → List Fact → RoomRef → ℕ → ℕ → Option ℕ → ℕ → Dealer → Effect
posted_by config facts room quote price valid_until moment dealer =
    let known = of_room room facts in
    in_room config facts room (has_word_for config dealer quote && hears known dealer.number)
    (at_room.Post dealer.number (word_for config dealer quote) price valid_until)
    (duties_of_post known room dealer.number (offer_of config dealer quote price valid_until) moment)

-- a quote is taken out, where the venue has its word
abbrev pub unposted_by : Configuration → List Fact → RoomRef → ℕ → ℕ → Dealer → Effect
unposted_by config facts room quote moment dealer =
    let known = of_room room facts in
    in_room config facts room (has_word_for config dealer quote && hears known dealer.number)
    (at_room.Unpost dealer.number (word_for config dealer quote))
    (duties_of_unpost known room dealer.number (word_for config dealer quote) moment)

-- a dealer declines
abbrev pub declined_by : Configuration → List Fact → RoomRef → ℕ → Dealer → Effect
declined_by config facts room moment dealer =
    let known = of_room room facts in
    in_room config facts room (hears known dealer.number) (at_room.Decline dealer.number)
    (duties_of_decline known room dealer.number moment)

-- what comes to the investor of a request
abbrev pub at_investor_of : Configuration → RoomRef → (InvestorMarket → Effect) → Effect
at_investor_of config room action =
    done_for (investor_desk.market_for config room.investor) action

-- the room's reply to a response
abbrev pub answered_by : List Fact → RoomRef → ResponseRef → Reply → ℕ → InvestorMarket → Effect
answered_by facts room response reply moment market =
    if replies_to response.k reply
    then where_known facts room.n response.k (at_investor.Answered room.n response reply moment)
    market
    else nothing
