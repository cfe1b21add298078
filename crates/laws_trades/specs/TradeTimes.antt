-- When a trade was made, and which messages say so.
use Rattle.std.specs.Prelude.{◌≡◌, ℕ, true, List, ◌++◌, Some}
use Rattle.market_terms.specs.declared.closes.Reply.{Reply}
use Rattle.market_terms.specs.declared.closes.Reply.TheVariants as reply
use Rattle.market_terms.specs.declared.rooms.ResponseRef.{ResponseRef}
use Rattle.market_terms.specs.declared.rooms.RoomRef.{RoomRef}
use Rattle.quote_messages.specs.Written.{written}
use Rattle.quote_messages.specs.declared.out_messages.OutMessage.{OutMessage}
use Rattle.venue_rows.specs.Rows.{Configuration, investor_numbered}
use Rattle.venue_rows.specs.declared.investor_rows.InvestorRow.{InvestorRow}
use Rattle.dealer_desk.specs.DealerOutput.{number_in}
use Rattle.investor_desk.specs.InvestorDesk.{market_of}
use Rattle.investor_desk.specs.InvestorFacts.{Asked, Came}
use Rattle.investor_desk.specs.InvestorOutput.{event_messages, head_of, moment_of}
use Rattle.investor_desk.specs.InvestorRules.{investor_verdict}
use Rattle.investor_desk.specs.declared.events.InvestorEvent.{InvestorEvent}
use Rattle.investor_desk.specs.declared.events.InvestorEvent.TheVariants as at_investor
use Rattle.investor_desk.specs.declared.standing.AcceptedRequest.{AcceptedRequest}
use Rattle.investor_desk.specs.declared.verdicts.InvestorVerdict.TheVariants as verdict
use Rattle.request_room.specs.RoomFacts.{Ended, is_awarded_kind}
use Rattle.request_room.specs.declared.ends.End.{End}
use Rattle.venue_steps.specs.Replies.{replies_to}
use Rattle.step_replay.specs.DealerTrail.{rooms_by}
use Rattle.step_replay.specs.InvestorTrail.{InvestorEntry, book_by, entries_of, facts_of}
use Rattle.step_replay.specs.Lists.{In}
use Rattle.step_replay.specs.VenueFacts.{Fact, of_dealer, of_investor, of_room}

-- the room of an investor's request
abbrev pub room_at : ℕ → ℕ → RoomRef
room_at investor request = record { investor = investor; n = request }

-- A room was awarded at this moment.
pub record IsAwarded (facts : List Fact) (room : RoomRef) (moment : ℕ) : Type 0 where
  pub end : End
  pub is_award : is_awarded_kind end.kind ≡ true
  pub stands : In (Ended end moment) (of_room room facts)

-- At this moment a message of the room's investor came in its turn by which it hit the quote with this
-- word on the request of the room: by what stood in the investor's trail before the message came.
pub record IsHitAt (config : Configuration) (facts : List Fact) (room : RoomRef)
    (word moment : ℕ) : Type 0 where
  pub row : InvestorRow
  pub is_investor : investor_numbered config room.investor ≡ Some row
  pub stood : List InvestorEntry
  pub bytes : List ℕ
  pub after : List InvestorEntry
  pub trail_is : of_investor room.investor facts
      ≡ stood
      ++ entries_of (market_of config room.investor row) stood (at_investor.Received moment bytes)
      ++ after
  pub came : In (Came moment bytes true) (facts_of (of_investor room.investor facts))
  pub response : ResponseRef
  pub hits : investor_verdict (market_of config room.investor row) (book_by stood) moment bytes
      ≡ verdict.Hits room.n response word

-- This end awards the room to the quote that was hit at this moment.
pub record IsHitOf (config : Configuration) (facts : List Fact) (room : RoomRef) (award : End)
    (moment : ℕ) : Type 0 where
  pub dealer : ℕ
  pub word : ℕ
  pub winner : award.winner ≡ Some (dealer, word)
  pub hit : IsHitAt config facts room word moment

-- A dealer was shown the request of a room under this number, and the room was awarded at this
-- moment.
pub record IsToldAt (facts : List Fact) (dealer request moment : ℕ) : Type 0 where
  pub room : RoomRef
  pub shown : number_in (rooms_by (of_dealer dealer facts)) room ≡ Some request
  pub award : IsAwarded facts room moment

-- An investor asked under this QuoteReqID (131), and the room of that request was awarded at this
-- moment.
pub record IsAnsweredAt (facts : List Fact) (investor : ℕ) (id : List ℕ) (moment : ℕ)
    : Type 0 where
  pub asked : AcceptedRequest
  pub was_asked : In (Asked asked) (facts_of (of_investor investor facts))
  pub id_is : asked.id ≡ id
  pub award : IsAwarded facts (room_at investor asked.number) moment

-- An investor was sent these bytes by an event at its desk: this stood in its trail as the event
-- came, the bytes are a message that the event says, and they bear the event's moment (52). A reply
-- to a hit or a pass is one to which it may reply; where it is an award, the room of the request was
-- awarded at that moment.
pub record IsSaidTo (config : Configuration) (facts : List Fact) (investor : ℕ) (bytes : List ℕ)
    : Type 0 where
  pub row : InvestorRow
  pub is_investor : investor_numbered config investor ≡ Some row
  pub stood : List InvestorEntry
  pub event : InvestorEvent
  pub after : List InvestorEntry
  pub trail_is : of_investor investor facts
      ≡ stood ++ entries_of (market_of config investor row) stood event ++ after
  pub number : ℕ
  pub message : OutMessage
  pub says : In message
      (event_messages (market_of config investor row) (book_by stood) event)
  pub bytes_are : bytes
      ≡ written (head_of (market_of config investor row) number (moment_of event)) message
  pub replies : (request : ℕ) (response : ResponseRef) (answer : Reply) (moment : ℕ)
      → event ≡ at_investor.Answered request response answer moment
      → replies_to response.k answer ≡ true
  pub award : (request : ℕ) (response : ResponseRef) (moment : ℕ)
      → event ≡ at_investor.Answered request response reply.Awarded moment
      → IsAwarded facts (room_at investor request) moment
