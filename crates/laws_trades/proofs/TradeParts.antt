-- What stands where a trade is made: at each fact, at each duty that is left, and behind each that
-- is done.
use Rattle.laws_days.proofs.Common.{List, Option, Some, ℕ, filter_map, nat_le, true}
use Rattle.laws_days.proofs.Common.{◌&&◌, ◌≡◌, Ask, Duty, ResponseRef, RoomRef, slice_get}
use Rattle.laws_days.proofs.Common.{Configuration, dealer_numbered, DealerRow, Quoted}
use Rattle.laws_days.proofs.Common.{AcceptedQuote, AcceptedRequest, ShownOffer}
use Rattle.laws_days.proofs.Common.{Asked, InvestorFact, Offered, book_of, Ended, end_of, End, Actor}
use Rattle.laws_days.proofs.Common.{AuditTrail, dealer_of, word_for, Lifted, ShownIn}
use Rattle.laws_days.proofs.Common.{facts_of, rooms_by, was_lifted, In, Every, AtDealer}
use Rattle.laws_days.proofs.Common.{AtInvestor, Fact, InRoom, of_dealer, of_room}
use Rattle.venue_rows.specs.Rows.{investor_numbered}
use Rattle.venue_rows.specs.declared.investor_rows.InvestorRow.{InvestorRow}
use Rattle.fix_fields.specs.Frame.{AreBody, Field, IsValue, frame_of, frame_text, value_of}
use Rattle.quote_messages.specs.Written.{quote_name}
use Rattle.market_terms.specs.declared.closes.Reply.TheVariants as reply
use Rattle.market_terms.specs.declared.duties.Duty.TheVariants as duty
use Rattle.market_terms.specs.declared.rooms.Offer.{Offer}
use Rattle.investor_desk.specs.InvestorFacts.{Closed, offer_numbered}
use Rattle.investor_desk.specs.declared.standing.RequestClose.TheVariants.{Awarded}
use Rattle.request_room.specs.declared.ends.EndKind.{EndKind}
use Rattle.request_room.specs.declared.ends.EndKind.TheVariants as ends
use Rattle.step_replay.specs.Actions.{offer_of}
use Rattle.step_replay.specs.InvestorTrail as investor_trail
use Rattle.venue_steps.specs.declared.actors.Actor.TheVariants as actor
use Rattle.laws_days.proofs.ShownRequests.{shown_in}
use Rattle.laws_days.proofs.Common.{of_investor}
use Rattle.laws_days.proofs.VenueParts.{QuotedIn, Still, did_in, duties_by, investor_facts}
use Rattle.laws_days.proofs.VenueParts.{number_for}
use Rattle.laws_trades.specs.SentTrades.{is_answer}
use Rattle.laws_trades.specs.Trades.{room_of}

-- what is asked for in a room is what its investor asked for
pub record AskOf (facts : List Fact) (room : RoomRef) (ask : Ask) : Type 0 where
  pub asked : AcceptedRequest
  pub was_asked : In (Asked asked) (investor_facts facts room.investor)
  pub number_is : asked.number ≡ room.n
  pub ask_is : asked.ask ≡ ask

-- a room that was shown to a dealer, and what was shown with it
pub record ShownAs (facts : List Fact) (dealer : ℕ) (room : RoomRef) : Type 0 where
  pub place : ℕ
  pub ask : Ask
  pub there : slice_get (rooms_by (of_dealer dealer facts)) place ≡ Some room
  pub shows : slice_get (filter_map shown_in (facts_of (of_dealer dealer facts))) place ≡ Some ask
  pub ask_of : AskOf facts room ask

-- a quote that was accepted on the request of a room, as it is posted
pub record QuoteOf (facts : List Fact) (dealer : ℕ) (room : RoomRef) (quote price : ℕ)
    (valid_until : Option ℕ) : Type 0 where
  pub own : AcceptedQuote
  pub quoted : In (Quoted own) (facts_of (of_dealer dealer facts))
  pub request_is : number_for facts dealer room ≡ Some own.request
  pub number_is : own.number ≡ quote
  pub price_is : own.price ≡ price
  pub valid_is : own.valid_until ≡ valid_until

-- the quote that a hit means, as it was shown; its QuoteRespID (693) may stand in a field
pub record HitOf (facts : List Fact) (room : RoomRef) (response : ResponseRef) (word : ℕ)
    : Type 0 where
  pub shown : ShownOffer
  pub found : offer_numbered (book_of (investor_facts facts room.investor)) shown.number
      ≡ Some shown
  pub request_is : shown.request ≡ room.n
  pub response_is : response.k ≡ Some shown.number
  pub word_is : shown.offer.word ≡ word
  pub id_is : IsValue response.id

-- a room was awarded to the quote of this dealer with this word
pub record AwardedTo (facts : List Fact) (room : RoomRef) (dealer word : ℕ) : Type 0 where
  pub end : End
  pub end_is : end_of (of_room room facts) ≡ Some end
  pub kind_is : end.kind ≡ ends.Awarded
  pub winner_is : end.winner ≡ Some (dealer, word)

-- an award is answered to a hit of the quote that won
pub record AnswerOf (facts : List Fact) (room : RoomRef) (response : ResponseRef) : Type 0 where
  pub winner : ℕ
  pub word : ℕ
  pub hit : HitOf facts room response word
  pub award : AwardedTo facts room winner word

-- fields are an answer 297=0 to a hit of the quote with this number
pub record IsAnswerTo (fields : List Field) (quote : ℕ) : Type 0 where
  pub is : is_answer fields ≡ true
  pub names : value_of 117 fields ≡ Some (quote_name quote)

-- what stands in each message to an investor may stand in a field: the date, the investor's name,
-- and the ids of its requests
pub record MayBeRead (date name : List ℕ) (facts : List InvestorFact) : Type 0 where
  pub dated : IsValue date
  pub named : IsValue name
  pub ids : (asked : AcceptedRequest) → In (Asked asked) facts → IsValue asked.id

-- a message is read as such an answer: it is one, and its request is closed so
pub record ReadsAnswer (facts : List Fact) (investor : ℕ) (bytes : List ℕ) (fields : List Field)
    : Type 0 where
  pub text : bytes ≡ frame_text fields
  pub request : ℕ
  pub quote : ℕ
  pub dealer : List ℕ
  pub price : ℕ
  pub names : value_of 117 fields ≡ Some (quote_name quote)
  pub closed : In (Closed request (Awarded quote dealer price)) (investor_facts facts investor)

-- so it is of each message that an investor was sent, whoever reads it
abbrev pub SentAs : Configuration → List Fact → ℕ → List ℕ → Type 0
SentAs config facts investor bytes = (row : InvestorRow)
    → investor_numbered config investor ≡ Some row
    → MayBeRead config.date row.name (investor_facts facts investor) → (fields : List Field)
    → frame_of bytes ≡ Some fields → is_answer fields ≡ true
    → ReadsAnswer facts investor bytes fields

-- a request was closed by the award of a quote that the investor was shown on it
pub record ClosedBy (config : Configuration) (facts : List Fact) (investor request quote : ℕ)
    (dealer : List ℕ) (price : ℕ) : Type 0 where
  pub shown : ShownOffer
  pub winner : ℕ
  pub found : offer_numbered (book_of (investor_facts facts investor)) quote ≡ Some shown
  pub request_is : shown.request ≡ request
  pub dealer_is : shown.offer.dealer ≡ dealer
  pub price_is : shown.offer.price ≡ price
  pub award : AwardedTo facts (room_of investor request) winner shown.offer.word
  pub fields : List Field
  pub sent : In (investor_trail.Sent (frame_text fields)) (of_investor investor facts)
  pub is : IsAnswerTo fields quote
  pub body : (row : InvestorRow) → investor_numbered config investor ≡ Some row
      → MayBeRead config.date row.name (investor_facts facts investor) → AreBody fields

-- the request of a room was closed by an award
pub record IsClosed (facts : List Fact) (room : RoomRef) : Type 0 where
  pub quote : ℕ
  pub dealer : List ℕ
  pub price : ℕ
  pub closed : In (Closed room.n (Awarded quote dealer price))
      (investor_facts facts room.investor)

-- what stands where a duty was done
abbrev pub TradeDone : Duty → AuditTrail → Type 0
TradeDone (duty.Answer room response reply.Awarded moment) venue = IsClosed venue.facts room
TradeDone other venue = Unit {0}

module _ (config : Configuration) where
  -- a quote as the investor of a room is shown it
  pub record OfferOf (facts : List Fact) (room : RoomRef) (offer : Offer) : Type 0 where
    pub dealer : ℕ
    pub row : DealerRow
    pub own : AcceptedQuote
    pub row_is : dealer_numbered config dealer ≡ Some row
    pub quoted : In (Quoted own) (facts_of (of_dealer dealer facts))
    pub within : (nat_le 1 own.number && nat_le own.number row.quotes) ≡ true
    pub request_is : number_for facts dealer room ≡ Some own.request
    pub offer_is : offer
        ≡ offer_of config (dealer_of dealer row) own.number own.price own.valid_until

  -- a request bears the name of its investor
  pub record AskedBy (investor : ℕ) (asked : AcceptedRequest) : Type 0 where
    pub row : InvestorRow
    pub row_is : investor_numbered config investor ≡ Some row
    pub name_is : asked.ask.investor ≡ row.name

  -- a quote of a dealer that was lifted in a room
  pub record LiftedAt (facts : List Fact) (dealer quote : ℕ) (room : RoomRef) : Type 0 where
    pub row : DealerRow
    pub row_is : dealer_numbered config dealer ≡ Some row
    pub within : (nat_le 1 quote && nat_le quote row.quotes) ≡ true
    pub quoted : QuotedIn facts dealer room quote
    pub award : AwardedTo facts room dealer (word_for config (dealer_of dealer row) quote)

  abbrev pub LiftedBy : ℕ → ℕ → List Fact → Type 0
  LiftedBy dealer quote facts = (room : RoomRef) × LiftedAt facts dealer quote room

  -- an award lifted the quote of its winner, and leaves its answer
  pub record AwardLeft (room : RoomRef) (venue : AuditTrail) : Type 0 where
    pub dealer : ℕ
    pub quote : ℕ
    pub response : ResponseRef
    pub moment : ℕ
    pub lift : LiftedAt venue.facts dealer quote room
    pub lifted : was_lifted (of_dealer dealer venue.facts) quote ≡ true
    pub left : In (duty.Answer room response reply.Awarded moment)
        (duties_by (actor.Firm room.investor) venue.caused)

  abbrev pub EndLeft : EndKind → RoomRef → AuditTrail → Type 0
  EndLeft ends.Awarded room venue = AwardLeft room venue
  EndLeft other room venue = Unit {0}

  -- what stands at a fact
  abbrev pub TradeFact : Fact → AuditTrail → Type 0
  TradeFact (AtDealer dealer (Lifted quote)) venue = LiftedBy dealer quote venue.facts
  TradeFact (AtDealer dealer (ShownIn room)) venue = ShownAs venue.facts dealer room
  TradeFact (AtDealer dealer entry) venue = Unit {0}
  TradeFact (InRoom room (Ended end moment)) venue = EndLeft end.kind room venue
  TradeFact (InRoom room fact) venue = Unit {0}
  TradeFact (AtInvestor investor (investor_trail.AtDesk (Asked asked))) venue = AskedBy investor asked
  TradeFact (AtInvestor investor (investor_trail.AtDesk (Offered shown))) venue =
      OfferOf venue.facts (room_of investor shown.request) shown.offer
  TradeFact (AtInvestor investor (investor_trail.AtDesk (Closed request (Awarded quote dealer price))))
      venue = ClosedBy config venue.facts investor request quote dealer price
  TradeFact (AtInvestor investor (investor_trail.Sent bytes)) venue =
      SentAs config venue.facts investor bytes
  TradeFact (AtInvestor investor entry) venue = Unit {0}

  -- what stands where a duty was left
  abbrev pub TradeDuty : Actor → Duty → AuditTrail → Type 0
  TradeDuty by (duty.Open room ask dealers moment) venue = AskOf venue.facts room ask
  TradeDuty by (duty.Show dealer room ask moment) venue = AskOf venue.facts room ask
  TradeDuty by (duty.Post room quote price valid_until moment) venue =
      (dealer : ℕ) × (by ≡ actor.Firm dealer)
      × QuoteOf venue.facts dealer room quote price valid_until
  TradeDuty by (duty.Relay room offer moment) venue = OfferOf venue.facts room offer
  TradeDuty by (duty.Hit room response word moment) venue = HitOf venue.facts room response word
  TradeDuty by (duty.Pass room response moment) venue = IsValue response.id
  TradeDuty by (duty.Answer room response reply.Awarded moment) venue =
      (by ≡ actor.Firm room.investor) × AnswerOf venue.facts room response
  TradeDuty by (duty.Answer room response reply moment) venue = IsValue response.id
  TradeDuty by other venue = Unit {0}

  -- what stands in a venue
  pub record TradeOk (venue : AuditTrail) : Type 0 where
    pub facts : Every (λ fact. Still (TradeFact fact) venue) venue.facts
    pub left : (by : Actor)
        → Every (λ left. Still (TradeDuty by left) venue) (duties_by by venue.caused)
    pub done : (by : Actor) → Every (λ left. Still (TradeDone left) venue) (did_in venue by)
