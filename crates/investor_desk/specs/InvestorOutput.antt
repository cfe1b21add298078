-- What an investor is sent, as a function of the venue's configuration and of the events at its
-- desk, and what its messages leave to be done in the rooms of its requests.
use Rattle.std.specs.Prelude.{ℕ, ◌+◌, Bool, true, false, List, [], ◌∷◌, ◌++◌, length, map}
use Rattle.std.specs.Prelude.{Option, Some, None, fold}
use Rattle.std.specs.Option.{option_map, option_to_list}
use Rattle.quote_messages.specs.Written.{written}
use Rattle.market_terms.specs.declared.closes.HitRefusal.{HitRefusal}
use Rattle.market_terms.specs.declared.closes.Reply.{Reply}
use Rattle.market_terms.specs.declared.closes.Reply.TheVariants as reply
use Rattle.market_terms.specs.declared.rooms.RoomRef.{RoomRef}
use Rattle.market_terms.specs.declared.rooms.Offer.{Offer}
use Rattle.market_terms.specs.declared.rooms.ResponseRef.{ResponseRef}
use Rattle.market_terms.specs.declared.duties.Duty.{Duty}
use Rattle.market_terms.specs.declared.duties.Duty.TheVariants as duty
use Rattle.quote_messages.specs.declared.out_messages.Head.{Head}
use Rattle.quote_messages.specs.declared.out_messages.OutMessage.{OutMessage}
use Rattle.quote_messages.specs.declared.out_messages.OutMessage.TheVariants as out
use Rattle.quote_messages.specs.declared.out_messages.PassStatus.{PassStatus}
use Rattle.quote_messages.specs.declared.out_messages.PassStatus.TheVariants as status
use Rattle.investor_desk.specs.InvestorFacts.{InvestorFact, Came, Asked, Offered, Gone, Closed}
use Rattle.investor_desk.specs.InvestorFacts.{InvestorBook, StandingRequest, book_of, offers_shown}
use Rattle.investor_desk.specs.InvestorFacts.{request_numbered, open_request, offer_numbered}
use Rattle.investor_desk.specs.InvestorFacts.{offer_of_dealer, offer_with_word}
use Rattle.investor_desk.specs.InvestorRules.{InvestorMarket, investor_verdict}
use Rattle.investor_desk.specs.Refusals.{request_reason}
use Rattle.investor_desk.specs.declared.notes.InvestorNote.{InvestorNote}
use Rattle.investor_desk.specs.declared.notes.InvestorNote.TheVariants as note
use Rattle.investor_desk.specs.declared.standing.RequestClose.{RequestClose}
use Rattle.investor_desk.specs.declared.standing.RequestClose.TheVariants as close
use Rattle.investor_desk.specs.declared.standing.ShownOffer.{ShownOffer}
use Rattle.investor_desk.specs.declared.events.InvestorEvent.{InvestorEvent}
use Rattle.investor_desk.specs.declared.events.InvestorEvent.TheVariants as event
use Rattle.investor_desk.specs.declared.verdicts.InvestorVerdict.{InvestorVerdict}
use Rattle.investor_desk.specs.declared.verdicts.InvestorVerdict.TheVariants as verdict

-- The investor's own messages.

-- whether a message with this verdict used up its number
abbrev pub uses_number : InvestorVerdict → Bool
uses_number verdict.Dropped = false
uses_number (verdict.OutOfSequence reject) = false
uses_number other = true

-- the facts that a verdict adds
abbrev pub verdict_facts : InvestorVerdict → List InvestorFact
verdict_facts (verdict.RequestAccepted id request) = Asked request ∷ []
verdict_facts other = []

-- The message that answers a verdict, if one does. A hit of a known quote and a pass of a known
-- request get their reply once their room has decided.
abbrev pub verdict_message : InvestorVerdict → Option OutMessage
verdict_message verdict.Dropped = None
verdict_message (verdict.OutOfSequence reject) = Some (out.Reject reject)
verdict_message (verdict.Rejected reject) = Some (out.Reject reject)
verdict_message (verdict.RequestRefused request bond refusal) =
    Some (out.RequestRefused request bond (request_reason refusal))
verdict_message (verdict.HitUnknown id quote) = Some (out.HitUnknown id quote)
verdict_message (verdict.PassUnknown id request) = Some (out.PassReport id request status.Unknown)
verdict_message (verdict.RequestAccepted id request) = Some (out.RequestAccepted id)
verdict_message (verdict.Hits request response word) = None
verdict_message (verdict.Passes request response) = None

-- A quote came for an open request: where a quote of its dealer stands there, that one is reported
-- gone, and then the new one is shown under the next number.

-- the new quote, as the investor is shown it
abbrev pub next_offer : InvestorBook → ℕ → Offer → ShownOffer
next_offer book number offer =
    record { number = offers_shown book + 1; request = number; offer = offer }

-- that a quote on this request is gone, where there is one
abbrev pub gone_facts : ℕ → Option ShownOffer → List InvestorFact
gone_facts number None = []
gone_facts number (Some shown) = Gone number shown.number ∷ []

-- the facts of a quote that came for this request
abbrev pub offer_facts : InvestorBook → ℕ → Offer → Option StandingRequest → List InvestorFact
offer_facts book number offer None = []
offer_facts book number offer (Some own) =
    gone_facts number (offer_of_dealer own offer.dealer)
    ++ Offered (next_offer book number offer) ∷ []

-- the report that a quote on this request is gone
abbrev pub gone_message : StandingRequest → ShownOffer → OutMessage
gone_message own shown = out.QuoteGone own.request.id shown.number

-- a quote on this request, as the investor is shown it
abbrev pub offer_message : StandingRequest → ShownOffer → OutMessage
offer_message own shown = out.OfferedQuote (record {
  request = own.request.id;
  number = shown.number;
  bond = own.request.ask.bond;
  side = own.request.ask.side;
  price = shown.offer.price;
  quantity = own.request.ask.quantity;
  valid_until = shown.offer.valid_until;
  dealer = shown.offer.dealer;
})

-- the messages of a quote that came for this request
abbrev pub offer_messages : InvestorBook → ℕ → Offer → Option StandingRequest → List OutMessage
offer_messages book number offer None = []
offer_messages book number offer (Some own) =
    option_to_list (option_map (gone_message own) (offer_of_dealer own offer.dealer))
    ++ offer_message own (next_offer book number offer) ∷ []

-- A quote of an open request is gone, or a dealer declined it.

-- the facts of a quote with this word that is gone from this request
abbrev pub withdrawal_facts : ℕ → ℕ → Option StandingRequest → List InvestorFact
withdrawal_facts number word None = []
withdrawal_facts number word (Some own) = gone_facts number (offer_with_word own word)

-- the message of it
abbrev pub withdrawal_messages : ℕ → Option StandingRequest → List OutMessage
withdrawal_messages word None = []
withdrawal_messages word (Some own) =
    option_to_list (option_map (gone_message own) (offer_with_word own word))

-- the message of a dealer that declined this request
abbrev pub decline_messages : List ℕ → Option StandingRequest → List OutMessage
decline_messages dealer None = []
decline_messages dealer (Some own) = out.DealerDeclined own.request.id dealer ∷ []

-- The room's reply to a hit or a pass: what is not refused closes the request, a hit by the award
-- of its quote.

-- why a response is refused, where it is
abbrev pub refusal_of : Reply → Option HitRefusal
refusal_of reply.Awarded = None
refusal_of reply.Passed = None
refusal_of (reply.Refused refusal) = Some refusal

-- the award of a quote
abbrev pub award_of : ShownOffer → RequestClose
award_of shown = close.Awarded shown.number shown.offer.dealer shown.offer.price

-- how a response that is not refused closes its request: a hit by the award of its quote, and a
-- pass
abbrev pub close_by : InvestorBook → Option ℕ → Option RequestClose
close_by book None = Some close.Passed
close_by book (Some quote) = option_map award_of (offer_numbered book quote)

-- how the reply to a response closes its request, where it does
abbrev pub close_by_answer : InvestorBook → ResponseRef → Option HitRefusal → Option RequestClose
close_by_answer book response None = close_by book response.k
close_by_answer book response (Some refusal) = None

-- that this request is closed, where it is
abbrev pub closed_facts : ℕ → Option RequestClose → List InvestorFact
closed_facts number None = []
closed_facts number (Some close) = Closed number close ∷ []

-- the facts of the reply to a response to this request
abbrev pub answer_facts : InvestorBook → ℕ → ResponseRef → Reply → Option StandingRequest
    → List InvestorFact
answer_facts book number response reply None = []
answer_facts book number response reply (Some own) =
    closed_facts number (close_by_answer book response (refusal_of reply))

-- the status of a pass
abbrev pub pass_status : Option HitRefusal → PassStatus
pass_status None = status.Passed
pass_status (Some refusal) = status.NotOpen

-- the message of the reply to a hit of this quote, or to a pass
abbrev pub response_message : StandingRequest → List ℕ → Option ℕ → Option HitRefusal → OutMessage
response_message own id None refusal = out.PassReport id own.request.id (pass_status refusal)
response_message own id (Some quote) refusal = out.HitReport id own.request.id quote refusal

-- the message of the reply to a response to this request
abbrev pub answer_messages : ResponseRef → Reply → Option StandingRequest → List OutMessage
answer_messages response reply None = []
answer_messages response reply (Some own) =
    response_message own response.id response.k (refusal_of reply) ∷ []

-- A request expired.

-- the facts of it
abbrev pub expiry_facts : ℕ → Option StandingRequest → List InvestorFact
expiry_facts number None = []
expiry_facts number (Some own) = Closed number close.Expired ∷ []

-- the message of it
abbrev pub expiry_messages : Option StandingRequest → List OutMessage
expiry_messages None = []
expiry_messages (Some own) = out.RequestExpired own.request.id ∷ []

-- All events.

-- the facts that bytes add that came at a moment, with their verdict
abbrev pub own_facts : ℕ → List ℕ → InvestorVerdict → List InvestorFact
own_facts moment bytes verdict = Came moment bytes (uses_number verdict) ∷ verdict_facts verdict

-- the facts that an event adds, given the book as it stood
unfoldable pub event_facts : InvestorMarket → InvestorBook → InvestorEvent → List InvestorFact
event_facts market book (event.Received moment bytes) =
    own_facts moment bytes (investor_verdict market book moment bytes)
event_facts market book (event.QuoteCame request offer moment) =
    offer_facts book request offer (open_request book request)
event_facts market book (event.QuoteGone request word moment) =
    withdrawal_facts request word (open_request book request)
event_facts market book (event.DealerDeclined request dealer moment) = []
event_facts market book (event.Answered request response reply moment) =
    answer_facts book request response reply (request_numbered book request)
event_facts market book (event.Closed request moment) =
    expiry_facts request (request_numbered book request)

-- The messages that an event sends. What comes for a request that is closed at the desk, but for
-- the reply to a response, sends nothing.
unfoldable pub event_messages : InvestorMarket → InvestorBook → InvestorEvent → List OutMessage
event_messages market book (event.Received moment bytes) =
    option_to_list (verdict_message (investor_verdict market book moment bytes))
event_messages market book (event.QuoteCame request offer moment) =
    offer_messages book request offer (open_request book request)
event_messages market book (event.QuoteGone request word moment) =
    withdrawal_messages word (open_request book request)
event_messages market book (event.DealerDeclined request dealer moment) =
    decline_messages dealer (open_request book request)
event_messages market book (event.Answered request response reply moment) =
    answer_messages response reply (request_numbered book request)
event_messages market book (event.Closed request moment) =
    expiry_messages (request_numbered book request)

-- What is noted beside the messages of an event: what they themselves do not say.

-- the name of the line that refuses a request
abbrev pub verdict_note : InvestorVerdict → Option InvestorNote
verdict_note (verdict.RequestRefused request bond refusal) = Some (note.Refused refusal)
verdict_note other = None

-- the trade with the dealer to which a hit was awarded
abbrev pub award_note : Option RequestClose → Option InvestorNote
award_note (Some (close.Awarded quote dealer price)) = Some (note.Trade dealer)
award_note other = None

-- what is noted of the reply to a response to this request
abbrev pub answer_note : InvestorBook → ResponseRef → Reply → Option StandingRequest
    → Option InvestorNote
answer_note book response reply None = None
answer_note book response reply (Some own) =
    award_note (close_by_answer book response (refusal_of reply))

-- what is noted of an event, given the book as it stood
unfoldable pub event_note : InvestorMarket → InvestorBook → InvestorEvent → Option InvestorNote
event_note market book (event.Received moment bytes) =
    verdict_note (investor_verdict market book moment bytes)
event_note market book (event.Answered request response reply moment) =
    answer_note book response reply (request_numbered book request)
event_note market book other = None

-- the moment of an event, which its messages bear
abbrev pub moment_of : InvestorEvent → ℕ
moment_of (event.Received moment bytes) = moment
moment_of (event.QuoteCame request offer moment) = moment
moment_of (event.QuoteGone request word moment) = moment
moment_of (event.DealerDeclined request dealer moment) = moment
moment_of (event.Answered request response reply moment) = moment
moment_of (event.Closed request moment) = moment

-- The desk, event by event.

-- the facts that stand at a desk, and the messages that its investor was sent
pub record DeskState : Type 0 where
  pub facts : List InvestorFact
  pub sent : List (List ℕ)

-- a desk at the start of the day
abbrev pub no_facts : DeskState
no_facts = record { facts = []; sent = [] }

-- the header of a message to the investor
abbrev pub head_of : InvestorMarket → ℕ → ℕ → Head
head_of market number moment =
    record { date = market.date; firm = market.row.name; number = number; moment = moment }

-- messages as the investor is sent them, with the MsgSeqNum (34) from this number on
abbrev pub written_from : InvestorMarket → ℕ → ℕ → List OutMessage → List (List ℕ)
written_from market number moment [] = []
written_from market number moment (message ∷ messages) =
    written (head_of market number moment) message
    ∷ written_from market (number + 1) moment messages

-- what is sent with these messages more: MsgSeqNum (34) counts what the investor was sent, the
-- message included
abbrev pub sent_with : InvestorMarket → List (List ℕ) → ℕ → List OutMessage → List (List ℕ)
sent_with market sent moment messages =
    sent ++ written_from market (length sent + 1) moment messages

-- a desk after one event more
abbrev pub after_event : InvestorMarket → DeskState → InvestorEvent → DeskState
after_event market desk event = record {
  facts = desk.facts ++ event_facts market (book_of desk.facts) event;
  sent = sent_with market desk.sent (moment_of event)
      (event_messages market (book_of desk.facts) event);
}

-- a desk after these events
unfoldable pub desk_after : InvestorMarket → List InvestorEvent → DeskState
desk_after market events = fold (after_event market) no_facts events

-- what an investor is sent: nothing but the day, the bonds, the names of the dealers, its own
-- number and row, and the events at its desk goes into it
abbrev pub investor_output : InvestorMarket → List InvestorEvent → List (List ℕ)
investor_output market events = (desk_after market events).sent

-- beside each message of an event stands what is noted of the event
abbrev pub beside_each : List OutMessage → Option InvestorNote → List (Option InvestorNote)
beside_each messages note = map (λ message. note) messages

-- what is noted beside the messages of these events, from this desk on
abbrev pub notes_from : InvestorMarket → DeskState → List InvestorEvent
    → List (Option InvestorNote)
notes_from market desk [] = []
notes_from market desk (event ∷ events) =
    beside_each (event_messages market (book_of desk.facts) event)
    (event_note market (book_of desk.facts) event)
    ++ notes_from market (after_event market desk event) events

-- what is noted beside the messages that an investor is sent, one by one: nothing else goes into it
abbrev pub investor_notes : InvestorMarket → List InvestorEvent → List (Option InvestorNote)
investor_notes market events = notes_from market no_facts events

-- Duties.

-- the room of a request
abbrev pub room_of : InvestorMarket → ℕ → RoomRef
room_of market request = record { investor = market.firm; n = request }

-- what a message leaves to be done: the room of an accepted request is opened, and a hit or a pass
-- goes to the room of its request
abbrev pub verdict_duty : InvestorMarket → ℕ → InvestorVerdict → Option Duty
verdict_duty market moment (verdict.RequestAccepted id request) =
    Some (duty.Open (room_of market request.number) request.ask request.dealers moment)
verdict_duty market moment (verdict.Hits request response word) =
    Some (duty.Hit (room_of market request) response word moment)
verdict_duty market moment (verdict.Passes request response) =
    Some (duty.Pass (room_of market request) response moment)
verdict_duty market moment other = None
