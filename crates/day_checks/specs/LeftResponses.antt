-- The responses of an investor, however the threads of a day ran: each hit and each pass that a
-- message of its own makes is answered at its desk, in the order of these messages, and as what it
-- was: of the request that it is to, under the QuoteRespID (693) and with the quote (117) of its
-- message, and at the moment of that message. Nothing else is answered.
--
-- The investor's own session brings each reply to the desk before it takes the next message. So
-- they come in that order, also where a hit or a pass is refused, and whatever else comes between.
use Rattle.std.specs.Prelude.{List, [], ◌∷◌, Option, Some, None}
use Rattle.std.specs.List.{cons_option, filter_map}
use Rattle.std.specs.Option.{option_and_then}
use Rattle.investor_desk.specs.InvestorDesk.{DeskEvents, no_events, verdict_at, with_event}
use Rattle.investor_desk.specs.InvestorOutput.{verdict_duty}
use Rattle.investor_desk.specs.declared.events.InvestorEvent.{InvestorEvent}
use Rattle.investor_desk.specs.declared.events.InvestorEvent.TheVariants as at_investor
use Rattle.market_terms.specs.declared.duties.Duty.{Duty}
use Rattle.market_terms.specs.declared.duties.Duty.TheVariants as duty
use Rattle.day_checks.specs.declared.left_responses.LeftResponse.{LeftResponse}

-- the response that a duty brings to a room
abbrev pub response_of : Duty → Option LeftResponse
response_of (duty.Hit room response word moment) =
    Some (record { request = room.n; response = response; moment = moment })
response_of (duty.Pass room response moment) =
    Some (record { request = room.n; response = response; moment = moment })
response_of other = None

-- the response that an event at a desk leaves, where a message of the investor's own makes one
abbrev pub response_left : DeskEvents → InvestorEvent → Option LeftResponse
response_left desk (at_investor.Received moment message) =
    option_and_then response_of (verdict_duty desk.market moment (verdict_at desk moment message))
response_left desk other = None

-- the responses that events leave at a desk, in their order
abbrev pub left_from : DeskEvents → List InvestorEvent → List LeftResponse
left_from desk [] = []
left_from desk (event ∷ later) =
    cons_option (response_left desk event) (left_from (with_event desk event) later)

-- all responses that the messages of an investor left, by the events at its desk
abbrev pub responses_left : DeskEvents → List LeftResponse
responses_left desk = left_from (no_events desk.market) desk.events

-- the response that an event answers
abbrev pub response_answered : InvestorEvent → Option LeftResponse
response_answered (at_investor.Answered request response reply moment) =
    Some (record { request = request; response = response; moment = moment })
response_answered other = None

-- all responses that were answered, in their order
abbrev pub responses_answered : List InvestorEvent → List LeftResponse
responses_answered events = filter_map response_answered events
