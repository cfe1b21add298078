-- The quotes that an investor was told are gone, and the messages that say so.
use Rattle.std.specs.Prelude.{◌≡◌, ℕ, List, filter_map, map, Option, Some, None}
use Rattle.quote_messages.specs.declared.out_messages.OutMessage.{OutMessage}
use Rattle.quote_messages.specs.declared.out_messages.OutMessage.TheVariants as out
use Rattle.investor_desk.specs.InvestorFacts.{Asked, Gone, InvestorFact}
use Rattle.investor_desk.specs.InvestorRules.{InvestorMarket}
use Rattle.investor_desk.specs.declared.standing.AcceptedRequest.{AcceptedRequest}
use Rattle.step_replay.specs.Lists.{Every, In}
use Rattle.laws_rooms.specs.Responses.{Said, said_to}

-- By the facts.

-- the quote that a fact says is gone, behind the number of its request
abbrev pub gone_in : InvestorFact → Option (ℕ × ℕ)
gone_in (Gone request quote) = Some (request, quote)
gone_in fact = None

-- By the messages.

-- the quote that a message says is gone, k of its QuoteID (117) Qk, behind the QuoteReqID (131) of its
-- request: a 35=AI with 297=17
abbrev pub reports : ℕ → OutMessage → Option (List ℕ × ℕ)
reports moment (out.QuoteGone request quote) = Some (request, quote)
reports moment other = None

-- the same of a message that was sent
abbrev pub reported_by : Said → Option (List ℕ × ℕ)
reported_by said = reports said.moment said.message

-- An investor with these facts was sent these messages. Those with 297=17 name, in order, these quotes,
-- each on a request that was accepted; and these are, in order, those that are gone by the facts.
pub record AreReported (market : InvestorMarket) (facts : List InvestorFact) (sent : List (List ℕ))
    : Type 0 where
  pub says : List Said
  pub sent_are : sent ≡ map (said_to market) says
  pub quotes : List (AcceptedRequest × ℕ)
  pub accepted : Every (λ (quote : AcceptedRequest × ℕ). In (Asked quote.0) facts) quotes
  pub reported_are : filter_map reported_by says
      ≡ map (λ (quote : AcceptedRequest × ℕ). (quote.0.id, quote.1)) quotes
  pub gone_are : filter_map gone_in facts
      ≡ map (λ (quote : AcceptedRequest × ℕ). (quote.0.number, quote.1)) quotes
