-- The tests that actions make before anything happens, each as a question of the facts that stand:
-- a room that the venue has, a dealer that the room hears, a request that the investor knows. An
-- action whose test fails does nothing.
use Rattle.std.specs.Prelude.{ℕ, Bool, ◌&&◌, not, false, List, Option, Some, None, is_some}
use Rattle.std.specs.Option.{option_map}
use Rattle.market_terms.specs.declared.closes.Reply.{Reply}
use Rattle.market_terms.specs.declared.duties.Duty.{Duty}
use Rattle.market_terms.specs.declared.duties.Duty.TheVariants as duty
use Rattle.market_terms.specs.declared.rooms.ResponseRef.{ResponseRef}
use Rattle.market_terms.specs.declared.rooms.RoomRef.{RoomRef}
use Rattle.venue_rows.specs.Rows.{Configuration, has_room}
use Rattle.dealer_desk.specs.DealerFacts.{number_to_drop}
use Rattle.dealer_desk.specs.DealerOutput.{closable, number_in, word_asked}
use Rattle.investor_desk.specs.InvestorFacts.{knows}
use Rattle.investor_desk.specs.InvestorDesk.{market_for}
use Rattle.investor_desk.specs.InvestorRules.{InvestorMarket}
use Rattle.request_room.specs.RoomFacts.{hears, is_opening, is_vacant}
use Rattle.venue_steps.specs.Replies.{replies_to}
use Rattle.venue_steps.specs.RoomDuties.{hit_word}
use Rattle.venue_steps.specs.WordNumbers.{has_word}
use Rattle.step_replay.specs.Actions.{Dealer, acting_dealer, dealer_at, has_word_for, verdict_on}
use Rattle.step_replay.specs.Actions.{word_for, words_of}
use Rattle.step_replay.specs.DealerTrail.{DealerEntry, book_by, rooms_by}
use Rattle.step_replay.specs.InvestorTrail as investor_trail
use Rattle.step_replay.specs.VenueFacts.{Fact, of_dealer, of_investor, of_room}
use Rattle.venue_steps.specs.declared.actors.Actor.{Actor}

-- whether there is something of which a test holds
abbrev pub holds_for : {A : Type 0} → Option A → (A → Bool) → Bool
holds_for None test = false
holds_for (Some x) test = test x

-- Rooms.

-- whether the venue has a room
abbrev pub is_room : Configuration → RoomRef → Bool
is_room config room = has_room config room.investor room.n

-- whether a room may be opened: the venue has it, and it is vacant
abbrev pub may_open : Configuration → List Fact → RoomRef → Bool
may_open config facts room = is_room config room && is_vacant (of_room room facts)

-- whether a room may be made ready: the venue has it, and it is opening
abbrev pub may_ready : Configuration → List Fact → RoomRef → Bool
may_ready config facts room = is_room config room && is_opening (of_room room facts)

-- whether a room of the venue hears a dealer
abbrev pub is_heard : Configuration → List Fact → RoomRef → Dealer → Bool
is_heard config facts room dealer =
    is_room config room && hears (of_room room facts) dealer.number

-- whether it hears it on a quote whose word the venue has
abbrev pub is_heard_on : Configuration → List Fact → RoomRef → ℕ → Dealer → Bool
is_heard_on config facts room quote dealer =
    has_word_for config dealer quote && is_heard config facts room dealer

-- whether a hit may be tried: the venue has the room, and the word that the hit asks
abbrev pub may_hit : Configuration → List Fact → RoomRef → ℕ → ℕ → Bool
may_hit config facts room word moment =
    is_room config room && has_word (words_of config) (hit_word (of_room room facts) word moment)

-- Desks.

-- whether the request of a room was not yet shown to a dealer
abbrev pub is_unshown : List Fact → RoomRef → Dealer → Bool
is_unshown facts room dealer =
    not (is_some (number_in (rooms_by (of_dealer dealer.number facts)) room))

-- whether a closing notice of a request may be sent
abbrev pub is_closable : List DealerEntry → ℕ → Bool
is_closable trail request = is_some (closable (book_by trail) request)

-- whether a dealer was shown the request of a room, and not yet told how it ended
abbrev pub is_untold : List Fact → RoomRef → Dealer → Bool
is_untold facts room dealer =
    let trail = of_dealer dealer.number facts in
    holds_for (number_in (rooms_by trail) room) (is_closable trail)

-- whether the venue has the word of the quote that a drop takes, where it takes one
abbrev pub may_drop : Configuration → List Fact → ℕ → Dealer → Bool
may_drop config facts last dealer =
    has_word (words_of config) (option_map (word_for config dealer)
    (number_to_drop (book_by (of_dealer dealer.number facts)) last))

-- whether an investor knows a request, and the quote on it that is meant, if one is
abbrev pub is_known_to : List Fact → ℕ → Option ℕ → InvestorMarket → Bool
is_known_to facts request quote market =
    knows (investor_trail.book_by (of_investor market.firm facts)) request quote

-- whether the investor of a room knows its request, and the quote that is meant, if one is
abbrev pub is_known : Configuration → List Fact → RoomRef → Option ℕ → Bool
is_known config facts room quote =
    holds_for (market_for config room.investor) (is_known_to facts room.n quote)

-- whether a reply to a response may come to the investor of a room
abbrev pub may_reply : Configuration → List Fact → RoomRef → ResponseRef → Reply → Bool
may_reply config facts room response reply =
    replies_to response.k reply && is_known config facts room response.k

-- All duties.

-- Whether a duty of an actor meets the test that its action makes, line by line of the market's
-- table.
unfoldable pub is_met : Configuration → List Fact → Actor → Duty → Bool
is_met config facts actor (duty.Open room ask dealers moment) = may_open config facts room
is_met config facts actor (duty.Show dealer room ask moment) =
    holds_for (dealer_at config dealer) (is_unshown facts room)
is_met config facts actor (duty.Ready room moment) = may_ready config facts room
is_met config facts actor (duty.Post room quote price valid_until moment) =
    holds_for (acting_dealer config actor) (is_heard_on config facts room quote)
is_met config facts actor (duty.Relay room offer moment) = is_known config facts room None
is_met config facts actor (duty.Unpost room quote moment) =
    holds_for (acting_dealer config actor) (is_heard_on config facts room quote)
is_met config facts actor (duty.Gone room word moment) = is_known config facts room None
is_met config facts actor (duty.Decline room moment) =
    holds_for (acting_dealer config actor) (is_heard config facts room)
is_met config facts actor (duty.Declined room moment) =
    is_some (acting_dealer config actor) && is_known config facts room None
is_met config facts actor (duty.Hit room response word moment) =
    may_hit config facts room word moment
is_met config facts actor (duty.Pass room response moment) = is_room config room
is_met config facts actor (duty.Answer room response reply moment) =
    may_reply config facts room response reply
is_met config facts actor (duty.Close room moment) = is_known config facts room None
is_met config facts actor (duty.Tell dealer room close moment) =
    holds_for (dealer_at config dealer) (is_untold facts room)
is_met config facts actor (duty.Drop last moment) =
    holds_for (acting_dealer config actor) (may_drop config facts last)

-- Whether the venue has the word that a message of a dealer asks, where it asks one.
unfoldable pub has_word_asked : Configuration → List Fact → ℕ → List ℕ → Dealer → Bool
has_word_asked config facts moment bytes dealer =
    has_word (words_of config) (option_map (word_for config dealer)
    (word_asked (verdict_on config facts moment bytes dealer)))
