-- What comes to an investor of a decline: it is told, or the request was closed before.
use Rattle.std.proofs.Common.{◌≡◌, ◌==◌, ◌+◌, ℕ, Bool, true, false, List, [], ◌∷◌, ◌++◌, length}
use Rattle.std.proofs.Common.{Option, Some, None, is_some, refl, sym, ap, ◌∙◌, inl, inr, find}
use Rattle.std.proofs.lemmas.Bool.{and_parts, cases_Bool, eqb-true, false≢true}
use Rattle.std.proofs.lemmas.Option.{same_Some}
use Rattle.market_terms.specs.declared.duties.Duty.TheVariants as duty
use Rattle.market_terms.specs.declared.rooms.RoomRef.{RoomRef}
use Rattle.venue_rows.specs.Rows.{Configuration, dealer_numbered, investor_numbered}
use Rattle.venue_rows.specs.declared.dealer_rows.DealerRow.{DealerRow}
use Rattle.venue_rows.specs.declared.investor_rows.InvestorRow.{InvestorRow}
use Rattle.venue_steps.specs.declared.actors.Actor.TheVariants as actor
use Rattle.quote_messages.specs.declared.out_messages.OutMessage.TheVariants as out
use Rattle.investor_desk.specs.InvestorDesk.{market_of}
use Rattle.investor_desk.specs.InvestorFacts.{Asked, Closed, InvestorBook, InvestorFact, StandingRequest}
use Rattle.investor_desk.specs.InvestorFacts.{is_open, request_numbered, requests_of}
use Rattle.investor_desk.specs.InvestorOutput as investor_output
use Rattle.investor_desk.specs.InvestorRules.{InvestorMarket}
use Rattle.investor_desk.specs.declared.events.InvestorEvent.{InvestorEvent}
use Rattle.investor_desk.specs.declared.events.InvestorEvent.TheVariants as at_investor
use Rattle.step_replay.specs.Actions.{Effect, at_market}
use Rattle.step_replay.specs.DutyEffects.{duty_effect}
use Rattle.step_replay.specs.GrowthLemmas.{in_left, in_right}
use Rattle.step_replay.specs.InvestorTrail as investor_trail
use Rattle.step_replay.specs.Lists.{In}
use Rattle.step_replay.specs.VenueFacts.{Fact, of_investor}
use Rattle.laws_shown.proofs.ShownMarket.{requests_in}
use Rattle.laws_shown.specs.ShownRequests.{at_investor as market_facts}
use Rattle.laws_days.specs.Conditions.{is_met}
use Rattle.laws_rooms.specs.Declines.{IsToldSo}
use Rattle.laws_rooms.specs.Responses.{Said, said_to}
use Rattle.laws_rooms.proofs.SaidLemmas.{event_sent, sent_grown}
use Rattle.laws_rooms.proofs.TellLemmas.{found_closed, market_grown, some_close}

-- what is found stands in the list, and passes the test
pub found_there : {A : Type 0} (test : A → Bool) (xs : List A) (x : A) → find test xs ≡ Some x
    → In x xs × (test x ≡ true)
found_there test [] x at = cc
found_there test (y ∷ xs) x at = elim (cases_Bool (test y)) [
  | inl passes ↦
      (let same = same_Some y x (rw passes at at) in
      (inl same, ap test (sym same) ∙ passes))
  | inr fails ↦ (let rest = found_there test xs x (rw fails at at) in (inr rest.0, rest.1))
]

pub declined_grown : (config : Configuration) (facts more : List Fact) (room : RoomRef) (dealer : ℕ)
    → IsToldSo config facts room dealer → IsToldSo config (facts ++ more) room dealer
declined_grown config facts more room dealer (inl was) = inl (record {
  investor = was.investor;
  is_investor = was.is_investor;
  row = was.row;
  is_dealer = was.is_dealer;
  request = was.request;
  accepted = rw (market_grown room.investor facts more)
      (in_left (Asked was.request) (market_facts room.investor facts) (market_facts room.investor more) was.accepted);
  number = was.number;
  said = was.said;
  says = was.says;
  sent = rw (sent_grown room.investor facts more)
      (in_left (said_to (market_of config room.investor was.investor) was.said)
      (investor_trail.sent_by (of_investor room.investor facts))
      (investor_trail.sent_by (of_investor room.investor more)) was.sent);
})
declined_grown config facts more room dealer (inr closed) = inr (record {
  how = closed.how;
  there = rw (market_grown room.investor facts more)
      (in_left (Closed room.n closed.how) (market_facts room.investor facts) (market_facts room.investor more)
      closed.there);
})

module _ (config : Configuration) (facts : List Fact) (room : RoomRef) (dealer moment : ℕ) where
  abbrev known : List InvestorFact
  known = market_facts room.investor facts

  abbrev book : InvestorBook
  book = investor_trail.book_by (of_investor room.investor facts)

  module _ (row : DealerRow) (is : dealer_numbered config dealer ≡ Some row) (investor : InvestorRow)
      (is_investor : investor_numbered config room.investor ≡ Some investor) where
    abbrev market : InvestorMarket
    market = market_of config room.investor investor

    abbrev declines : InvestorEvent
    declines = at_investor.DealerDeclined room.n row.name moment

    abbrev comes : Effect
    comes = at_market facts market declines []

    abbrev said : StandingRequest → Said
    said own = record {
      number = length (investor_trail.sent_by (of_investor room.investor facts)) + 1;
      moment = moment;
      message = out.DealerDeclined own.request.id row.name;
    }

    messages_are : (own : StandingRequest) → request_numbered book room.n ≡ Some own → is_open own ≡ true
        → investor_output.event_messages market book declines
        ≡ out.DealerDeclined own.request.id row.name ∷ []
    unfolding investor_output.event_messages
    messages_are own found opens = rw (found, opens) refl

    sent_so : (own : StandingRequest) → request_numbered book room.n ≡ Some own → is_open own ≡ true
        → In (said_to market (said own)) (investor_trail.sent_by (of_investor room.investor (facts ++ comes.facts)))
    sent_so own found opens =
        rw (sent_grown room.investor facts comes.facts, event_sent facts market declines [], messages_are own found opens)
        (in_right (said_to market (said own)) (investor_trail.sent_by (of_investor room.investor facts))
        (said_to market (said own) ∷ []) (inl refl))

    stands_as : (own : StandingRequest) → request_numbered book room.n ≡ Some own
        → In own (requests_of known) × ((own.request.number ≡ room.n))
    unfolding request_numbered
    stands_as own found =
        let there = found_there (λ (r : StandingRequest). r.request.number == room.n) book.requests own found in
        (there.0, eqb-true own.request.number room.n there.1)

    closed_so : (own : StandingRequest) → request_numbered book room.n ≡ Some own → is_open own ≡ false
        → IsToldSo config (facts ++ comes.facts) room dealer
    unfolding request_numbered
    closed_so own found shut =
        let how = some_close own.close shut in
        declined_grown config facts comes.facts room dealer
        (inr (record { how = how.0; there = found_closed room.n known own how.0 found how.1 }))

    by_own : (found : Option StandingRequest) → request_numbered book room.n ≡ found → is_some found ≡ true
        → IsToldSo config (facts ++ comes.facts) room dealer
    by_own None at some = absurd (false≢true some)
    by_own (Some own) at some = elim (cases_Bool (is_open own)) [
      | inl opens ↦
          (let there = stands_as own at in
          inl (record {
            investor = investor;
            is_investor = is_investor;
            row = row;
            is_dealer = is;
            request = own.request;
            accepted = rw (market_grown room.investor facts comes.facts)
                (in_left (Asked own.request) known (market_facts room.investor comes.facts)
                (requests_in known own there.0));
            number = there.1;
            said = said own;
            says = refl;
            sent = sent_so own at opens;
          }))
      | inr shut ↦ closed_so own at shut
    ]

    told_by : is_met config facts (actor.Firm dealer) (duty.Declined room moment) ≡ true
        → IsToldSo config (facts ++ (duty_effect config facts (actor.Firm dealer) (duty.Declined room moment)).facts)
        room dealer
    unfolding is_met duty_effect
    told_by fit =
        let knows = and_parts (is_some (request_numbered book room.n)) true (rw (is, is_investor) at fit) in
        rw (is, is_investor, knows.0) (by_own (request_numbered book room.n) refl knows.0)

  pub decline_told : is_met config facts (actor.Firm dealer) (duty.Declined room moment) ≡ true
      → IsToldSo config (facts ++ (duty_effect config facts (actor.Firm dealer) (duty.Declined room moment)).facts)
      room dealer
  unfolding is_met
  decline_told fit = by_dealer (dealer_numbered config dealer) refl
    where
      by_investor : (row : DealerRow) → dealer_numbered config dealer ≡ Some row
          → (found : Option InvestorRow) → investor_numbered config room.investor ≡ found
          → IsToldSo config
          (facts ++ (duty_effect config facts (actor.Firm dealer) (duty.Declined room moment)).facts) room dealer
      by_investor row at None none = absurd (false≢true (rw (at, none) at fit))
      by_investor row at (Some investor) is_there = told_by row at investor is_there fit

      by_dealer : (found : Option DealerRow) → dealer_numbered config dealer ≡ found
          → IsToldSo config
          (facts ++ (duty_effect config facts (actor.Firm dealer) (duty.Declined room moment)).facts) room dealer
      by_dealer None none = absurd (false≢true (rw none at fit))
      by_dealer (Some row) at = by_investor row at (investor_numbered config room.investor) refl
