-- What a verdict accepts: a quote is one of its dealer's day, so its word is the dealer's; and a
-- request names few dealers.
use Rattle.std.proofs.Common.{◌≡◌, ◌≤◌, ℕ, ◌+◌, true, false, ◌&&◌, nat_le, nat_lt, List, [], ◌∷◌}
use Rattle.std.proofs.Common.{filter_map, length, take, Option, Some, None, refl, ap, ◌∙◌}
use Rattle.std.proofs.Common.{arith}
use Rattle.std.specs.List.{cons_option}
use Rattle.std.proofs.lemmas.Bool.Decides.{nat_tests}
use Rattle.market_terms.specs.declared.rooms.TheConstants.AskedDealers.{MOST}
use Rattle.quote_messages.specs.Arrivals.{investor_arrival}
use Rattle.quote_messages.specs.declared.arrivals.Arrival.{Arrival}
use Rattle.quote_messages.specs.declared.arrivals.Arrival.TheVariants as arrival
use Rattle.quote_messages.specs.declared.requests.QuoteHit.{QuoteHit}
use Rattle.quote_messages.specs.declared.requests.QuoteRequest.{QuoteRequest}
use Rattle.quote_messages.specs.declared.requests.RequestPass.{RequestPass}
use Rattle.quote_messages.specs.declared.requests.InvestorMessage.{InvestorMessage}
use Rattle.quote_messages.specs.declared.requests.InvestorMessage.TheVariants as asked
use Rattle.investor_desk.specs.declared.refusals.RequestRefusal.{RequestRefusal}
use Rattle.venue_rows.specs.Rows.{Configuration, dealer_numbered}
use Rattle.venue_rows.specs.declared.bond_rows.BondRow.{BondRow}
use Rattle.venue_rows.specs.declared.dealer_rows.DealerRow.{DealerRow}
use Rattle.investor_desk.specs.InvestorFacts as investor_facts
use Rattle.investor_desk.specs.InvestorFacts.{InvestorBook, offer_named, request_with_id}
use Rattle.investor_desk.specs.InvestorRules as investor_rules
use Rattle.investor_desk.specs.InvestorRules.{InvestorMarket, investor_verdict, request_answer}
use Rattle.investor_desk.specs.InvestorRules.{request_checks, request_refusal, request_verdict}
use Rattle.investor_desk.specs.InvestorRules.{bond_with_id, dealer_named, dealer_numbers, hit_of}
use Rattle.investor_desk.specs.InvestorRules.{hit_verdict, pass_of, pass_verdict}
use Rattle.investor_desk.specs.declared.standing.ShownOffer.{ShownOffer}
use Rattle.investor_desk.specs.declared.verdicts.InvestorVerdict.{InvestorVerdict}
use Rattle.investor_desk.specs.declared.verdicts.InvestorVerdict.TheVariants as on_investor
use Rattle.venue_steps.specs.Words.{word_of}
use Rattle.step_replay.specs.Actions.{quote_with_word, quotes_of}
use Rattle.step_replay.specs.OwnerLemmas.{owner_among, quote_at}
use Rattle.laws_days.specs.AcceptedQuotes.{none_holds}

-- A dealer's word.

-- the word of a quote of the day is its dealer's
pub owner_is : (config : Configuration) (number : ℕ) (row : DealerRow) (quote : ℕ)
    → dealer_numbered config number ≡ Some row
    → (nat_le 1 quote && nat_le quote row.quotes) ≡ true
    → quote_with_word config (word_of (quotes_of (take number config.dealers)) quote)
    ≡ Some (quote_at number quote)
owner_is config number row quote is within =
    let same : 0 + number ≡ number = omega arith in
    owner_among 0 config.dealers number row quote is within
    ∙ ap (λ (n : ℕ). Some (quote_at n quote)) same

-- An investor's verdict.

-- an accepted request names few dealers
abbrev pub AsksFew : InvestorVerdict → Type 0
AsksFew (on_investor.RequestAccepted id request) = length request.dealers ≤ MOST
AsksFew other = Unit {0}

not_more : (most count : ℕ) → nat_lt most count ≡ false → count ≤ most
not_more most count isnt = grind (arith, nat_tests)

length_found : {X Y : Type 0} (h : X → Option Y) (xs : List X)
    → length (filter_map h xs) ≤ length xs
length_found h [] = omega arith
length_found {X} {Y} h (x ∷ xs) = by_found (h x) (length_found h xs)
  where
    by_found : (o : Option Y) → length (filter_map h xs) ≤ length xs
        → length (cons_option o (filter_map h xs)) ≤ length (x ∷ xs)
    by_found None rest = omega arith
    by_found (Some y) rest = omega arith

module _ (market : InvestorMarket) (book : InvestorBook) (moment : ℕ) where
  request_few : (request : QuoteRequest) (bond : Option BondRow)
      (refusal : Option RequestRefusal)
      → request_refusal market book moment request ≡ refusal
      → AsksFew (request_answer market book moment request bond refusal)
  unfolding request_refusal
  request_few request bond (Some reason) is = tt
  request_few request None None is = tt
  request_few request (Some bond) None is =
      let few : length request.dealers ≤ MOST =
      not_more MOST (length request.dealers)
      (none_holds (request_checks market book moment request) is).1.1.1.1.1.1.0 in
      let found : length (dealer_numbers market request.dealers) ≤ length request.dealers =
      length_found (dealer_named market) request.dealers in
      omega arith

  hit_few : (hit : QuoteHit) (found : Option ShownOffer) → AsksFew (hit_of hit found)
  hit_few hit None = tt
  hit_few hit (Some shown) = tt

  pass_few : (pass : RequestPass) (found : Option investor_facts.StandingRequest)
      → AsksFew (pass_of pass found)
  pass_few pass None = tt
  pass_few pass (Some own) = tt

  message_few : (m : InvestorMessage)
      → AsksFew (investor_rules.message_verdict market book moment m)
  unfolding request_verdict hit_verdict pass_verdict
  message_few (asked.Request request) =
      request_few request (bond_with_id market request.bond)
      (request_refusal market book moment request) refl
  message_few (asked.Hit hit) = hit_few hit (offer_named book hit.quote)
  message_few (asked.Pass pass) = pass_few pass (request_with_id book pass.request)

  arrival_few : (came : Arrival InvestorMessage)
      → AsksFew (investor_rules.arrival_verdict market book moment came)
  arrival_few (arrival.Taken m) = message_few m
  arrival_few other = tt

  pub verdict_few : (bytes : List ℕ) → AsksFew (investor_verdict market book moment bytes)
  unfolding investor_verdict
  verdict_few bytes =
      arrival_few
      (investor_arrival market.date market.row (investor_facts.expected_number book) bytes)
