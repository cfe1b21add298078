-- What stands at each entry of a firm, after every list of steps.
use Rattle.std.proofs.Common.{◌≡◌, ℕ, ◌==◌, false, List, [], ◌∷◌, Option, Some, None}
use Rattle.std.proofs.Common.{IfSome, codes, subst, refl, ap, is_some, length}
use Rattle.std.proofs.Common.{◌≤◌, inl, inr, suc, zero, arith}
use Rattle.std.specs.Prelude.{slice_get}
use Rattle.std.proofs.lemmas.Bool.{cond_both, eqb-true}
use Rattle.venue_rows.specs.Rows.{Configuration, KeepsLimits, dealer_numbered, investor_numbered}
use Rattle.venue_rows.specs.declared.dealer_rows.DealerRow.{DealerRow}
use Rattle.venue_rows.specs.declared.investor_rows.InvestorRow.{InvestorRow}
use Rattle.market_terms.specs.declared.asks.Ask.{Ask}
use Rattle.dealer_desk.specs.DealerFacts.{DealerFact, Quoted, Shown}
use Rattle.dealer_desk.specs.declared.accepted.AcceptedQuote.{AcceptedQuote}
use Rattle.investor_desk.specs.InvestorFacts.{Asked, InvestorFact, Offered, offers_of}
use Rattle.investor_desk.specs.declared.standing.AcceptedRequest.{AcceptedRequest}
use Rattle.investor_desk.specs.declared.standing.ShownOffer.{ShownOffer}
use Rattle.step_replay.specs.AuditTrail.{audit_trail, sent_to}
use Rattle.step_replay.specs.DealerTrail as dealer_trail
use Rattle.step_replay.specs.DealerTrail.{DealerEntry}
use Rattle.step_replay.specs.GrowthLemmas.{all_in}
use Rattle.step_replay.specs.InvestorTrail as investor_trail
use Rattle.step_replay.specs.InvestorTrail.{InvestorEntry}
use Rattle.step_replay.specs.Lists.{Every, In}
use Rattle.step_replay.specs.PlaceLemmas.{behind_dealers}
use Rattle.step_replay.specs.VenueFacts.{AtDealer, AtInvestor, Fact, InRoom, entry_at_dealer}
use Rattle.step_replay.specs.VenueFacts.{entry_at_investor, of_dealer, of_investor}
use Rattle.step_replay.specs.declared.steps.Step.{Step}
use Rattle.laws_days.specs.KeptItems.{every_found}
use Rattle.laws_shown.specs.Said.{SaysWhenRead}
use Rattle.laws_shown.specs.ShownQuotes.{ComesFromAQuote, ShowsWhatWasQuoted, WasWritten, shown_to}
use Rattle.laws_shown.specs.ShownRequests.{ComesFromARequest, IsWrittenRequest, ShowsWhatWasAsked}
use Rattle.laws_shown.specs.ShownRequests.{at_dealer, at_investor, room_of}
use Rattle.laws_shown.specs.ShownQuotes.{AreShownInTurn}
use Rattle.laws_shown.proofs.ShownDay.{day_ok}
use Rattle.laws_shown.proofs.ShownParts.{DealerOk, FactOk, InvestorOk}

module _ (config : Configuration) (facts : List Fact) where
  investor_entry : (investor : ℕ) (fact : Fact) → FactOk config facts fact
      → IfSome (entry_at_investor investor fact) (InvestorOk config facts investor)
  investor_entry investor (AtDealer dealer entry) ok = tt
  investor_entry investor (InRoom room fact) ok = tt
  investor_entry investor (AtInvestor other entry) ok =
      cond_both (other == investor) (Some entry) None
      (λ (found : Option InvestorEntry). IfSome found (InvestorOk config facts investor))
      (λ same. subst (λ i. InvestorOk config facts i entry) (eqb-true other investor same) ok)
      (λ differs. tt)

  dealer_entry : (dealer : ℕ) (fact : Fact) → FactOk config facts fact
      → IfSome (entry_at_dealer dealer fact) (DealerOk config facts dealer)
  dealer_entry dealer (AtInvestor investor entry) ok = tt
  dealer_entry dealer (InRoom room fact) ok = tt
  dealer_entry dealer (AtDealer other entry) ok =
      cond_both (other == dealer) (Some entry) None
      (λ (found : Option DealerEntry). IfSome found (DealerOk config facts dealer))
      (λ same. subst (λ d. DealerOk config facts d entry) (eqb-true other dealer same) ok)
      (λ differs. tt)

  module _ (all : Every (FactOk config facts) facts) where
    investor_entries : (investor : ℕ)
        → Every (InvestorOk config facts investor) (of_investor investor facts)
    unfolding of_investor
    investor_entries investor =
        every_found (FactOk config facts) (InvestorOk config facts investor)
        (entry_at_investor investor) (investor_entry investor) facts all

    dealer_entries : (dealer : ℕ)
        → Every (DealerOk config facts dealer) (of_dealer dealer facts)
    unfolding of_dealer
    dealer_entries dealer =
        every_found (FactOk config facts) (DealerOk config facts dealer) (entry_at_dealer dealer)
        (dealer_entry dealer) facts all

    fact_of_investor : (investor : ℕ) (entry : InvestorEntry)
        → InvestorOk config facts investor entry
        → IfSome (investor_trail.fact_in entry)
        (λ (fact : InvestorFact). InvestorOk config facts investor (investor_trail.AtDesk fact))
    fact_of_investor investor (investor_trail.AtDesk fact) ok = ok
    fact_of_investor investor other ok = tt

    message_of_investor : (investor : ℕ) (entry : InvestorEntry)
        → InvestorOk config facts investor entry
        → IfSome (investor_trail.message_in entry)
        (λ (message : List ℕ). InvestorOk config facts investor (investor_trail.Sent message))
    message_of_investor investor (investor_trail.Sent message) ok = ok
    message_of_investor investor other ok = tt

    fact_of_dealer : (dealer : ℕ) (entry : DealerEntry) → DealerOk config facts dealer entry
        → IfSome (dealer_trail.fact_in entry)
        (λ (fact : DealerFact). DealerOk config facts dealer (dealer_trail.AtDesk fact))
    fact_of_dealer dealer (dealer_trail.AtDesk fact) ok = ok
    fact_of_dealer dealer other ok = tt

    message_of_dealer : (dealer : ℕ) (entry : DealerEntry) → DealerOk config facts dealer entry
        → IfSome (dealer_trail.message_in entry)
        (λ (message : List ℕ). DealerOk config facts dealer (dealer_trail.Sent message))
    message_of_dealer dealer (dealer_trail.Sent message) ok = ok
    message_of_dealer dealer other ok = tt

    pub investor_facts : (investor : ℕ)
        → Every (λ fact. InvestorOk config facts investor (investor_trail.AtDesk fact))
        (at_investor investor facts)
    investor_facts investor =
        every_found (InvestorOk config facts investor)
        (λ fact. InvestorOk config facts investor (investor_trail.AtDesk fact))
        investor_trail.fact_in (fact_of_investor investor) (of_investor investor facts)
        (investor_entries investor)

    pub investor_sent : (investor : ℕ)
        → Every (λ message. InvestorOk config facts investor (investor_trail.Sent message))
        (investor_trail.sent_by (of_investor investor facts))
    investor_sent investor =
        every_found (InvestorOk config facts investor)
        (λ message. InvestorOk config facts investor (investor_trail.Sent message))
        investor_trail.message_in (message_of_investor investor) (of_investor investor facts)
        (investor_entries investor)

    pub dealer_facts : (dealer : ℕ)
        → Every (λ fact. DealerOk config facts dealer (dealer_trail.AtDesk fact))
        (at_dealer dealer facts)
    dealer_facts dealer =
        every_found (DealerOk config facts dealer)
        (λ fact. DealerOk config facts dealer (dealer_trail.AtDesk fact)) dealer_trail.fact_in
        (fact_of_dealer dealer) (of_dealer dealer facts) (dealer_entries dealer)

    pub dealer_sent : (dealer : ℕ)
        → Every (λ message. DealerOk config facts dealer (dealer_trail.Sent message))
        (dealer_trail.sent_by (of_dealer dealer facts))
    dealer_sent dealer =
        every_found (DealerOk config facts dealer)
        (λ message. DealerOk config facts dealer (dealer_trail.Sent message))
        dealer_trail.message_in (message_of_dealer dealer) (of_dealer dealer facts)
        (dealer_entries dealer)

-- what was shown is a fact of the desk
shown_fact : (shown : ShownOffer) (facts : List InvestorFact) → In shown (offers_of facts)
    → In (Offered shown) facts
shown_fact shown [] is = absurd is
shown_fact shown (Offered other ∷ facts) (inl is) = inl (ap Offered is)
shown_fact shown (Offered other ∷ facts) (inr is) = inr (shown_fact shown facts is)
shown_fact shown (fact ∷ facts) is = inr (shown_fact shown facts is)

none_beyond : {A : Type 0} (xs : List A) (place : ℕ) → length xs ≤ place
    → is_some (slice_get xs place) ≡ false
none_beyond [] place beyond = refl
none_beyond (x ∷ xs) zero beyond = absurd (omega arith)
none_beyond (x ∷ xs) (suc place) beyond = none_beyond xs place (omega arith)

module _ (config : Configuration) (steps : List Step) where
  abbrev known : List Fact
  known = (audit_trail config steps).facts

  all : Every (FactOk config known) known
  all = (day_ok config steps).stood.each

  pub request_accepted : (investor : ℕ) (request : AcceptedRequest)
      → In (Asked request) (at_investor investor known)
      → IsWrittenRequest config known (room_of investor request.number) request
  request_accepted investor request is =
      all_in (λ fact. InvestorOk config known investor (investor_trail.AtDesk fact)) (Asked request)
      (at_investor investor known) (investor_facts config known all investor) is

  pub request_shown : (dealer : ℕ) (ask : Ask) (moment : ℕ)
      → In (Shown ask moment) (at_dealer dealer known)
      → ComesFromARequest config known dealer ask
  request_shown dealer ask moment is =
      all_in (λ fact. DealerOk config known dealer (dealer_trail.AtDesk fact)) (Shown ask moment)
      (at_dealer dealer known) (dealer_facts config known all dealer) is

  pub quote_accepted : (dealer : ℕ) (quote : AcceptedQuote)
      → In (Quoted quote) (at_dealer dealer known) → WasWritten config known dealer quote
  quote_accepted dealer quote is =
      let was = all_in (λ fact. DealerOk config known dealer (dealer_trail.AtDesk fact))
      (Quoted quote) (at_dealer dealer known) (dealer_facts config known all dealer) is in
      record { room = was.room; is_written = was.is_quote.is_written }

  pub quote_shown : (investor : ℕ) (shown : ShownOffer) → In shown (shown_to investor known)
      → ComesFromAQuote config known investor shown
  quote_shown investor shown is =
      all_in (λ fact. InvestorOk config known investor (investor_trail.AtDesk fact)) (Offered shown)
      (at_investor investor known) (investor_facts config known all investor)
      (shown_fact shown (at_investor investor known) is)

  pub sent_to_dealer : (dealer : ℕ) (row : DealerRow) (message : List ℕ) → KeepsLimits config
      → dealer_numbered config dealer ≡ Some row
      → In message (sent_to config dealer (audit_trail config steps))
      → SaysWhenRead (codes "R") (ShowsWhatWasAsked config known dealer) message
  sent_to_dealer dealer row message limits is sent =
      all_in (λ text. DealerOk config known dealer (dealer_trail.Sent text)) message
      (dealer_trail.sent_by (of_dealer dealer known)) (dealer_sent config known all dealer)
      (rw is at sent) limits

  no_dealer : (investor : ℕ) (row : InvestorRow) → investor_numbered config investor ≡ Some row
      → is_some (dealer_numbered config investor) ≡ false
  no_dealer investor row is =
      none_beyond config.dealers investor (behind_dealers config investor row is)

  pub sent_to_investor : (investor : ℕ) (row : InvestorRow) (message : List ℕ)
      → investor_numbered config investor ≡ Some row
      → In message (sent_to config investor (audit_trail config steps))
      → SaysWhenRead (codes "S") (ShowsWhatWasQuoted config known investor) message
  sent_to_investor investor row message is sent =
      all_in (λ text. InvestorOk config known investor (investor_trail.Sent text)) message
      (investor_trail.sent_by (of_investor investor known))
      (investor_sent config known all investor) (rw (no_dealer investor row is) at sent)

  pub sent_in_turn : (investor : ℕ) (row : InvestorRow)
      → investor_numbered config investor ≡ Some row
      → AreShownInTurn config known investor (sent_to config investor (audit_trail config steps))
      (shown_to investor known)
  sent_in_turn investor row is =
      rw (no_dealer investor row is) ((day_ok config steps).stood.sent investor)
