-- What an investor was told of the answers of one dealer on one request, in its order: each quote that
-- it was shown, each that is gone, and that the dealer declined.
use Rattle.std.specs.Prelude.{◌≡◌, ℕ, Bool, true, List, [], ◌++◌, ◌∷◌, Option, Some, None}
use Rattle.std.specs.Prelude.{is_some}
use Rattle.quote_messages.specs.declared.out_messages.OutMessage.{OutMessage}
use Rattle.quote_messages.specs.declared.out_messages.OutMessage.TheVariants as out
use Rattle.investor_desk.specs.InvestorFacts.{Asked, Gone, InvestorFact, Offered, book_of}
use Rattle.investor_desk.specs.InvestorFacts.{offer_numbered, open_request}
use Rattle.investor_desk.specs.InvestorRules.{InvestorMarket}
use Rattle.investor_desk.specs.declared.standing.AcceptedRequest.{AcceptedRequest}
use Rattle.investor_desk.specs.declared.standing.ShownOffer.{ShownOffer}
use Rattle.request_room.specs.RoomFacts.{RoomFact}
use Rattle.request_room.specs.declared.quotes.PostedQuote.{PostedQuote}
use Rattle.step_replay.specs.InvestorTrail.{AtDesk, InvestorEntry, Sent, facts_of}
use Rattle.step_replay.specs.Lists.{Every, In}
use Rattle.step_replay.specs.LiveDays.{live_trail}
use Rattle.step_replay.specs.declared.steps.Step.{Step}
use Rattle.laws_days.specs.LiveDuties.{NoDutyIsLeft}
use Rattle.venue_rows.specs.Rows.{Configuration}
use Rattle.laws_rooms.specs.Answered.{Answer, Declines, Quotes, Withdraws, answers_in, changes_in}
use Rattle.laws_rooms.specs.Offers.{quotes_shown, shown_of}
use Rattle.laws_rooms.specs.Responses.{Said, said_to}

-- What has to be told.

-- that the quote with this word is gone, where there is one
abbrev pub gone_first : Option ℕ → List Answer
gone_first None = []
gone_first (Some word) = Withdraws word ∷ []

-- What an investor has to be told of these, where the dealer's quote with this word stands, or none: a
-- quote that another one replaces is gone before that one is shown.
abbrev pub as_told : Option ℕ → List Answer → List Answer
as_told standing [] = []
as_told standing (Quotes quote ∷ later) =
    gone_first standing ++ Quotes quote ∷ as_told (Some quote.word) later
as_told standing (Withdraws word ∷ later) = Withdraws word ∷ as_told None later
as_told standing (Declines ∷ later) = Declines ∷ as_told standing later

-- What was told.

-- A message says that the dealer with this name declined a request: 35=AI with 297=11, the QuoteReqID
-- (131) of the request with this number that stands among these facts, and the name (448).
pub record IsDecline (known : List InvestorFact) (request : ℕ) (name : List ℕ) (message : OutMessage)
    : Type 0 where
  pub own : AcceptedRequest
  pub accepted : In (Asked own) known
  pub number_is : own.number ≡ request
  pub says : message ≡ out.DealerDeclined own.id name

-- The same of a message that was sent.
pub record SaysDecline (market : InvestorMarket) (known : List InvestorFact) (request : ℕ)
    (name : List ℕ) (bytes : List ℕ) : Type 0 where
  pub said : Said
  pub bytes_are : bytes ≡ said_to market said
  pub is_it : IsDecline known request name said.message

-- By its number a quote that was shown, as these facts say, is this dealer's with this word, on this
-- request.
pub record IsIts (config : Configuration) (dealer request : ℕ) (known : List InvestorFact)
    (number word : ℕ) : Type 0 where
  pub shown : ShownOffer
  pub was_shown : offer_numbered (book_of known) number ≡ Some shown
  pub quote : PostedQuote
  pub is_its : shown_of config dealer request shown ≡ Some quote
  pub word_is : quote.word ≡ word

-- It is not this dealer's, or on another request.
pub record IsAnothers (config : Configuration) (dealer request : ℕ) (known : List InvestorFact)
    (number : ℕ) : Type 0 where
  pub shown : ShownOffer
  pub was_shown : offer_numbered (book_of known) number ≡ Some shown
  pub is_anothers : shown_of config dealer request shown ≡ None

module _ (config : Configuration) (market : InvestorMarket) (dealer : ℕ) (name : List ℕ) (request : ℕ)
    (known : List InvestorFact) where
  -- An entry of the investor's trail says an answer of this dealer on this request: a quote is shown; a
  -- quote is gone; a message says the decline.
  abbrev pub Says : Answer → InvestorEntry → Type 0
  Says (Quotes quote) (AtDesk (Offered shown)) = shown_of config dealer request shown ≡ Some quote
  Says (Withdraws word) (AtDesk (Gone on number)) =
      (on ≡ request) × IsIts config dealer request known number word
  Says Declines (Sent bytes) = SaysDecline market known request name bytes
  Says answer entry = ⊥

  -- entries that show no quote of this dealer on this request
  abbrev pub ShowNone : List InvestorEntry → Type 0
  ShowNone entries = quotes_shown config dealer request (facts_of entries) ≡ []

  -- a fact that shows no quote of this dealer on this request, and does not say that one is gone
  abbrev pub IsOther : InvestorFact → Type 0
  IsOther (Offered shown) = shown_of config dealer request shown ≡ None
  IsOther (Gone on number) = on ≡ request → IsAnothers config dealer request known number
  IsOther fact = Unit {0}

  -- entries that have such facts alone
  abbrev pub SayNone : List InvestorEntry → Type 0
  SayNone entries = Every IsOther (facts_of entries)

  -- entries that say this answer behind some that may stand beside, and go on so
  pub record First (Beside : List InvestorEntry → Type 0) (answer : Answer)
      (rest : List InvestorEntry → Type 0) (entries : List InvestorEntry) : Type 0 where
    pub before : List InvestorEntry
    pub entry : InvestorEntry
    pub after : List InvestorEntry
    pub are : entries ≡ before ++ entry ∷ after
    pub none_before : Beside before
    pub says : Says answer entry
    pub then_rest : rest after

  -- entries that say these answers in this order, and beside them what may stand beside
  abbrev pub Tell : (List InvestorEntry → Type 0) → List Answer → List InvestorEntry → Type 0
  Tell Beside [] entries = Beside entries
  Tell Beside (answer ∷ answers) entries = First Beside answer (Tell Beside answers) entries

  -- entries that tell these quotes and declines, and no other quote of the dealer
  abbrev pub TellQuotes : List Answer → List InvestorEntry → Type 0
  TellQuotes answers entries = Tell ShowNone answers entries

  -- entries that tell these quotes, withdrawals and declines, and no other quote or withdrawal of the
  -- dealer
  abbrev pub TellAll : List Answer → List InvestorEntry → Type 0
  TellAll answers entries = Tell SayNone answers entries

-- Of the quotes and declines of this dealer that took effect in a room with these facts an investor with
-- this trail was told the first, in their order, and all of them while the request is open at its desk.
pub record AreToldFirst (config : Configuration) (market : InvestorMarket) (dealer : ℕ) (name : List ℕ)
    (request : ℕ) (room : List RoomFact) (trail : List InvestorEntry) : Type 0 where
  pub told : List Answer
  pub rest : List Answer
  pub begins : answers_in dealer room ≡ told ++ rest
  pub tell : TellQuotes config market dealer name request (facts_of trail) told trail
  pub whole : is_some (open_request (book_of (facts_of trail)) request) ≡ true → rest ≡ []

-- whether the request with this number is open at the desk of an investor with this trail
abbrev pub is_open_there : ℕ → List InvestorEntry → Bool
is_open_there request trail = is_some (open_request (book_of (facts_of trail)) request)

-- The same of its quotes, withdrawals and declines.
pub record AreToldInTurn (config : Configuration) (market : InvestorMarket) (dealer : ℕ)
    (name : List ℕ) (request : ℕ) (room : List RoomFact) (trail : List InvestorEntry) : Type 0 where
  pub told : List Answer
  pub rest : List Answer
  pub begins : changes_in dealer room ≡ told ++ rest
  pub tell : TellAll config market dealer name request (facts_of trail) (as_told None told) trail
  pub whole : is_open_there request trail ≡ true → rest ≡ []

-- A day whose steps come one by one, none of which leaves a duty.
abbrev pub IsLive : Configuration → List Step → Type 0
IsLive config steps = (before after : List Step) → steps ≡ before ++ after
    → NoDutyIsLeft (live_trail config before)

-- All quotes and declines of this dealer that took effect in a room with these facts an investor with
-- this trail was told, in their order.
pub record AreAllTold (config : Configuration) (market : InvestorMarket) (dealer : ℕ) (name : List ℕ)
    (request : ℕ) (room : List RoomFact) (trail : List InvestorEntry) : Type 0 where
  pub tell : TellQuotes config market dealer name request (facts_of trail) (answers_in dealer room) trail

-- The same of its quotes, withdrawals and declines.
pub record AreAllToldInTurn (config : Configuration) (market : InvestorMarket) (dealer : ℕ)
    (name : List ℕ) (request : ℕ) (room : List RoomFact) (trail : List InvestorEntry) : Type 0 where
  pub tell : TellAll config market dealer name request (facts_of trail)
      (as_told None (changes_in dealer room)) trail
