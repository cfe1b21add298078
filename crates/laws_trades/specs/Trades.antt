-- A trade, as its two sides have it: an investor whose hit of a quote was answered 297=0, and a
-- dealer that was told 694=1 of that quote.
use Rattle.std.specs.Prelude.{◌≡◌, ℕ, true, List, [], ◌∷◌, ◌++◌, Some}
use Rattle.market_terms.specs.declared.asks.Ask.{Ask}
use Rattle.market_terms.specs.declared.closes.Close.TheVariants.{Hit}
use Rattle.market_terms.specs.declared.rooms.RoomRef.{RoomRef}
use Rattle.quote_messages.specs.declared.out_messages.OutMessage.{OutMessage}
use Rattle.quote_messages.specs.declared.out_messages.OutMessage.TheVariants as out
use Rattle.venue_rows.specs.Rows.{Configuration, dealer_numbered}
use Rattle.venue_rows.specs.declared.dealer_rows.DealerRow.{DealerRow}
use Rattle.venue_steps.specs.Dealers.{quote_with_word}
use Rattle.dealer_desk.specs.DealerFacts.{Quoted, Told}
use Rattle.dealer_desk.specs.DealerOutput.{next_message, number_in}
use Rattle.dealer_desk.specs.declared.accepted.AcceptedQuote.{AcceptedQuote}
use Rattle.investor_desk.specs.InvestorFacts.{InvestorFact, Asked, Offered, Closed}
use Rattle.investor_desk.specs.declared.standing.AcceptedRequest.{AcceptedRequest}
use Rattle.investor_desk.specs.declared.standing.RequestClose.TheVariants.{Awarded}
use Rattle.investor_desk.specs.declared.standing.ShownOffer.{ShownOffer}
use Rattle.step_replay.specs.DealerTrail.{DealerEntry, AtDesk, facts_of, rooms_by, sent_by, was_lifted}
use Rattle.step_replay.specs.InvestorTrail as investor_trail
use Rattle.step_replay.specs.Lists.{In}
use Rattle.step_replay.specs.VenueFacts.{Fact, of_dealer, of_investor}
use Rattle.laws_days.specs.Notices.{notices_of, next_sent}

-- the room of an investor's request
abbrev pub room_of : ℕ → ℕ → RoomRef
room_of investor request = record { investor = investor; n = request }

-- what stands at the desk of an investor
abbrev pub at_investor : ℕ → List Fact → List InvestorFact
at_investor investor facts = investor_trail.facts_of (of_investor investor facts)

-- that its hit of this quote on this request was answered 297=0: the request is closed by the award
-- of the quote, with the name of its dealer and its price
abbrev pub answered : ℕ → ℕ → List ℕ → ℕ → InvestorFact
answered request quote dealer price = Closed request (Awarded quote dealer price)

-- the notice 694=1 of a dealer's quote on what was asked for: it bears the QuoteID (117) and the
-- price of the quote, and the bond, the side and the quantity of what was asked for
abbrev pub notice_of : ℕ → Ask → AcceptedQuote → OutMessage
notice_of number ask quote = out.ClosingNotice (record {
  number = number;
  request = record { number = quote.request; ask = ask };
  close = Hit;
  quote = Some (record { id = quote.id; price = quote.price });
})

-- where a dealer was told 694=1 of a quote's request, it was sent this notice with it
abbrev pub IsSentNotice : List ℕ → DealerRow → List DealerEntry → Ask → AcceptedQuote → Type 0
IsSentNotice date row trail ask quote = (moment : ℕ) (before after : List DealerEntry)
    → trail ≡ before ++ AtDesk (Told quote.request Hit moment) ∷ after
    → (number : ℕ) × (next_sent after
    ≡ Some (next_message date row (sent_by before) moment (notice_of number ask quote)))

-- of the quotes on the request of this room none is lifted but this one of this dealer
abbrev pub NoOtherIsLifted : List Fact → RoomRef → ℕ → AcceptedQuote → Type 0
NoOtherIsLifted facts room dealer quote = (other : ℕ) (own : AcceptedQuote)
    → In (Quoted own) (facts_of (of_dealer other facts))
    → number_in (rooms_by (of_dealer other facts)) room ≡ Some own.request
    → was_lifted (of_dealer other facts) own.number ≡ true → (other ≡ dealer) × (own ≡ quote)

-- of the request of this room no dealer but this one was told 694=1
abbrev pub NoOtherIsTold : List Fact → RoomRef → ℕ → Type 0
NoOtherIsTold facts room dealer = (other request moment : ℕ)
    → number_in (rooms_by (of_dealer other facts)) room ≡ Some request
    → In (Told request Hit moment) (facts_of (of_dealer other facts)) → other ≡ dealer

-- What was traded: the quote that an investor hit on its request, as its dealer gave it and as the
-- investor was shown it.
pub record Deal (config : Configuration) (facts : List Fact) : Type 0 where
  pub investor : ℕ  -- its number among the firms
  pub asked : AcceptedRequest  -- its request
  pub shown : ShownOffer  -- the quote that it hit, as it was shown: Qk
  pub dealer : ℕ  -- the number of the dealer among the firms
  pub row : DealerRow
  pub quote : AcceptedQuote  -- the quote of its that Qk showed
  -- the investor asked, and was shown Qk on that request
  pub was_asked : In (Asked asked) (at_investor investor facts)
  pub was_shown : In (Offered shown) (at_investor investor facts)
  pub is_on : shown.request ≡ asked.number
  -- the dealer is the one that Qk names, and has given this quote on that request
  pub is_dealer : dealer_numbered config dealer ≡ Some row
  pub is_named : shown.offer.dealer ≡ row.name
  pub was_quoted : In (Quoted quote) (facts_of (of_dealer dealer facts))
  pub is_there : number_in (rooms_by (of_dealer dealer facts)) (room_of investor asked.number)
      ≡ Some quote.request
  -- both have one bond, side, quantity, price and valid-until
  pub bond : quote.bond ≡ asked.ask.bond
  pub side : quote.side ≡ asked.ask.side
  pub quantity : quote.quantity ≡ asked.ask.quantity
  pub price : quote.price ≡ shown.offer.price
  pub valid_until : quote.valid_until ≡ shown.offer.valid_until
  -- the quote that has the word of Qk is this one, and its word is lifted
  pub word : quote_with_word config shown.offer.word
      ≡ Some (record { dealer = dealer; quote = quote.number })
  pub lifted : was_lifted (of_dealer dealer facts) quote.number ≡ true

-- Who was told of it: the investor, that Qk is awarded, and the dealer, by a notice of this quote.
pub record AreTold (config : Configuration) (facts : List Fact) (deal : Deal config facts)
    : Type 0 where
  pub is_answered : In (answered deal.asked.number deal.shown.number deal.row.name deal.quote.price)
      (at_investor deal.investor facts)
  -- the dealer was told 694=1 once of that request
  pub moment : ℕ
  pub once : notices_of deal.quote.request (of_dealer deal.dealer facts)
      ≡ Told deal.quote.request Hit moment ∷ []
  pub notice : IsSentNotice config.date deal.row (of_dealer deal.dealer facts) deal.asked.ask
      deal.quote

-- Who was not: no other dealer was told 694=1 of that request, and no other quote on it is lifted.
pub record NoOtherIs (config : Configuration) (facts : List Fact) (deal : Deal config facts)
    : Type 0 where
  pub told : NoOtherIsTold facts (room_of deal.investor deal.asked.number) deal.dealer
  pub lifted : NoOtherIsLifted facts (room_of deal.investor deal.asked.number) deal.dealer
      deal.quote

-- One trade, and that its two sides agree.
pub record Trade (config : Configuration) (facts : List Fact) : Type 0 where
  pub deal : Deal config facts
  pub told : AreTold config facts deal
  pub untold : NoOtherIs config facts deal
