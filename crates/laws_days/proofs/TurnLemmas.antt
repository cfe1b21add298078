-- A message that used up a number is answered, or leaves a duty by which it waits.
use Rattle.std.proofs.Common.{◌≡◌, ◌≢◌, ◌⊎◌, ℕ, ◌+◌, Bool, true, false, List, [], ◌∷◌, ◌++◌, map}
use Rattle.std.proofs.Common.{length}
use Rattle.std.proofs.Common.{count_by, Option, Some, None, is_some, option_map, fold, refl, sym}
use Rattle.std.proofs.Common.{ap, ◌∙◌, subst, arith}
use Rattle.std.proofs.Common.{inl, inr, if◌then◌else◌, ◌||◌}
use Rattle.std.specs.List.{list_any}
use Rattle.std.specs.Option.{option_to_list}
use Rattle.std.proofs.lemmas.List.{append-nil}
use Rattle.std.proofs.lemmas.List.Sums.{fold-append, sum_by-append}
use Rattle.market_terms.specs.declared.duties.Duty.{Duty}
use Rattle.market_terms.specs.declared.duties.Duty.TheVariants as duty
use Rattle.market_terms.specs.declared.rooms.RoomRef.{RoomRef}
use Rattle.quote_messages.specs.declared.out_messages.OutMessage.{OutMessage}
use Rattle.quote_word.specs.declared.settled.Settled.{Settled}
use Rattle.venue_rows.specs.Rows.{Configuration, dealer_numbered, investor_numbered}
use Rattle.venue_rows.specs.declared.dealer_rows.DealerRow.{DealerRow}
use Rattle.venue_rows.specs.declared.investor_rows.InvestorRow.{InvestorRow}
use Rattle.venue_steps.specs.declared.actors.Actor.{Actor}
use Rattle.venue_steps.specs.declared.actors.Actor.TheVariants as actor
use Rattle.dealer_desk.specs.DealerFacts as at_dealer
use Rattle.dealer_desk.specs.DealerOutput as dealer_output
use Rattle.dealer_desk.specs.DealerOutput.{event_facts, event_message}
use Rattle.dealer_desk.specs.DealerRules.{dealer_verdict}
use Rattle.dealer_desk.specs.declared.events.DealerEvent.{DealerEvent}
use Rattle.dealer_desk.specs.declared.events.DealerEvent.TheVariants as event
use Rattle.dealer_desk.specs.declared.verdicts.DealerVerdict.{DealerVerdict}
use Rattle.dealer_desk.specs.declared.verdicts.DealerVerdict.TheVariants as verdict
use Rattle.investor_desk.specs.InvestorDesk.{market_for, market_of}
use Rattle.investor_desk.specs.InvestorFacts as at_investor
use Rattle.investor_desk.specs.InvestorOutput as investor_output
use Rattle.investor_desk.specs.InvestorRules.{InvestorMarket, investor_verdict}
use Rattle.investor_desk.specs.declared.events.InvestorEvent.{InvestorEvent}
use Rattle.investor_desk.specs.declared.events.InvestorEvent.TheVariants as investor_event
use Rattle.investor_desk.specs.declared.verdicts.InvestorVerdict.{InvestorVerdict}
use Rattle.investor_desk.specs.declared.verdicts.InvestorVerdict.TheVariants as investor_said
use Rattle.step_replay.specs.Actions.{at_dealer as at_dealers_desk, dealer_of}
use Rattle.step_replay.specs.Actions.{done_for, left_by, left_by_investor, nothing}
use Rattle.step_replay.specs.Actions.{received_by_dealer, received_by_investor, settlement_of}
use Rattle.step_replay.specs.AuditTrail.{AuditTrail, Caused, after_step, audit_trail, no_steps}
use Rattle.step_replay.specs.AuditTrail.{sent_to, with_effect}
use Rattle.step_replay.specs.DealerGrowth.{facts_grown, sent_grown}
use Rattle.step_replay.specs.DealerTrail as dealer_trail
use Rattle.step_replay.specs.DealerTrail.{DealerEntry, book_by, entries_of, message_by, rooms_by}
use Rattle.step_replay.specs.DutyEffects.{message_effect}
use Rattle.step_replay.specs.InvestorGrowth as investor_growth
use Rattle.step_replay.specs.InvestorTrail as investor_trail
use Rattle.step_replay.specs.InvestorTrail.{InvestorEntry}
use Rattle.step_replay.specs.PlaceLemmas.{dealer_grown, investor_grown, own_investor, own_trail}
use Rattle.step_replay.specs.VenueFacts.{AtDealer, AtInvestor, Fact, of_dealer, of_investor}
use Rattle.step_replay.specs.declared.steps.Step.{Step}
use Rattle.step_replay.specs.declared.steps.Step.TheVariants as step
use Rattle.laws_days.specs.Answered.{Awaits, IsAnsweredOnce, is_awaited, is_awaited_duty}
use Rattle.laws_days.specs.Answered.{numbers_used}

abbrev caused_by : Actor → Duty → Caused
caused_by by more = record { by = by; duty = more }

abbrev used_by : Configuration → ℕ → List Fact → ℕ
used_by config firm facts =
    if is_some (dealer_numbered config firm)
    then count_by at_dealer.used_number (dealer_trail.facts_of (of_dealer firm facts))
    else count_by at_investor.used_number (investor_trail.facts_of (of_investor firm facts))

-- What a verdict does: it uses no number; or it sends one message and leaves nothing that is awaited; or
-- it sends none and leaves what is awaited.
data Does (uses : Bool) (sent : List (List ℕ)) (left : List Duty) : Type 0 where
  unused : uses ≡ false → Does uses sent left
  answered : (message : List ℕ) → sent ≡ message ∷ [] → list_any is_awaited left ≡ false
      → Does uses sent left
  awaited : (more : Duty) → sent ≡ [] → left ≡ more ∷ [] → is_awaited more ≡ true → Does uses sent left

none_in : (b : Bool) (rooms : Option RoomRef) (does : RoomRef → Duty)
    → ((room : RoomRef) → is_awaited (does room) ≡ false)
    → list_any is_awaited (option_to_list (if b then option_map does rooms else None)) ≡ false
none_in false rooms does isnt = refl
none_in true None does isnt = refl
none_in true (Some room) does isnt = rw (isnt room) refl

-- A dealer's.

dealer_does : (written : OutMessage → List ℕ) (rooms : List RoomRef) (moment : ℕ) (v : DealerVerdict)
    (settlement : Option Settled)
    → Does (dealer_output.uses_number v)
    (option_to_list (option_map written (dealer_output.verdict_message v settlement)))
    (option_to_list (dealer_output.verdict_duty rooms moment v settlement))
dealer_does written rooms moment verdict.Dropped settlement = unused refl
dealer_does written rooms moment (verdict.OutOfSequence reject) settlement = unused refl
dealer_does written rooms moment (verdict.QuoteAccepted request id quote replaced) settlement =
    answered _ refl (none_in (dealer_output.goes_through replaced settlement)
    (dealer_output.room_of rooms quote.request) (dealer_output.post_of quote) (λ room. refl))
dealer_does written rooms moment (verdict.CancelAccepted id quote request) settlement =
    answered _ refl (none_in (dealer_output.is_withdrawn settlement) (dealer_output.room_of rooms request)
    (λ room. duty.Unpost room quote moment) (λ room. refl))
dealer_does written rooms moment (verdict.DropsFollow last) settlement =
    awaited (duty.Drop last moment) refl refl refl
dealer_does written rooms moment (verdict.DeclineAccepted request number) settlement =
    answered _ refl (none_in true (dealer_output.room_of rooms number)
    (λ room. duty.Decline room moment) (λ room. refl))
dealer_does written rooms moment other settlement = answered _ refl refl

dealer_unused : (moment : ℕ) (bytes : List ℕ) (v : DealerVerdict) (settlement : Option Settled)
    → dealer_output.uses_number v ≡ false
    → count_by at_dealer.used_number (dealer_output.came moment bytes v settlement) ≡ 0
dealer_unused moment bytes verdict.Dropped settlement is = refl
dealer_unused moment bytes (verdict.OutOfSequence reject) settlement is = refl
dealer_unused moment bytes other settlement is = cc

-- An investor's.

investor_does : (market : InvestorMarket) (number moment : ℕ) (v : InvestorVerdict)
    → Does (investor_output.uses_number v)
    (investor_output.written_from market number moment (option_to_list (investor_output.verdict_message v)))
    (option_to_list (investor_output.verdict_duty market moment v))
investor_does market number moment investor_said.Dropped = unused refl
investor_does market number moment (investor_said.OutOfSequence reject) = unused refl
investor_does market number moment (investor_said.Hits request response word) = awaited _ refl refl refl
investor_does market number moment (investor_said.Passes request response) = awaited _ refl refl refl
investor_does market number moment other = answered _ refl refl

investor_unused : (moment : ℕ) (bytes : List ℕ) (v : InvestorVerdict) → investor_output.uses_number v ≡ false
    → count_by at_investor.used_number (investor_output.own_facts moment bytes v) ≡ 0
investor_unused moment bytes investor_said.Dropped is = refl
investor_unused moment bytes (investor_said.OutOfSequence reject) is = refl
investor_unused moment bytes other is = cc

-- In a venue.

plus_none : (n : ℕ) → n + 0 ≡ n
plus_none n = omega arith

count_behind : {A : Type 0} (test : A → Bool) (xs ys : List A) → count_by test ys ≡ 0
    → count_by test (xs ++ ys) ≡ count_by test xs
count_behind test xs ys none =
    sum_by-append (λ x. if test x then 1 else 0) xs ys ∙ ap (λ (n : ℕ). count_by test xs + n) none
    ∙ plus_none (count_by test xs)

awaited_left : (by : Actor) (left : List Duty)
    → list_any is_awaited_duty (map (caused_by by) left) ≡ list_any is_awaited left
awaited_left by [] = refl
awaited_left by (more ∷ left) = ap (λ (b : Bool). is_awaited more || b) (awaited_left by left)

module _ (config : Configuration) (firm moment : ℕ) (bytes : List ℕ) (day : AuditTrail) where
  abbrev Outcome : AuditTrail → Type 0
  Outcome after = numbers_used config firm after ≢ numbers_used config firm day
      → IsAnsweredOnce config firm day after ⊎ Awaits config firm day after

  outcome : (after : AuditTrail) (uses : Bool) (sent : List (List ℕ)) (left : List Duty)
      → (uses ≡ false → numbers_used config firm after ≡ numbers_used config firm day)
      → sent_to config firm after ≡ sent_to config firm day ++ sent
      → after.caused ≡ day.caused ++ map (caused_by (actor.Firm firm)) left
      → Does uses sent left → Outcome after
  outcome after uses sent left same sent_is caused_is (unused is) differs = absurd (differs (same is))
  outcome after uses sent left same sent_is caused_is (answered message is none) differs = inl (record {
    message = message;
    sent = sent_is ∙ ap (λ (l : List (List ℕ)). sent_to config firm day ++ l) is;
    left = map (caused_by (actor.Firm firm)) left;
    caused = caused_is;
    none_awaited = awaited_left (actor.Firm firm) left ∙ none;
  })
  outcome after uses sent left same sent_is caused_is (awaited more is left_is is_it) differs = inr (record {
    sent = sent_is ∙ ap (λ (l : List (List ℕ)). sent_to config firm day ++ l) is
        ∙ append-nil (sent_to config firm day);
    duty = more;
    caused = caused_is
        ∙ ap (λ (l : List Duty). day.caused ++ map (caused_by (actor.Firm firm)) l) left_is;
    awaited = is_it;
  })

  -- the day as it was, with nothing more
  idle : Outcome (with_effect (actor.Firm firm) day nothing)
  idle differs = absurd (differs (ap (λ (l : List Fact). used_by config firm l) (append-nil day.facts)))

  module _ (row : DealerRow) (is : dealer_numbered config firm ≡ Some row) where
    trail : List DealerEntry
    trail = of_dealer firm day.facts

    abbrev v : DealerVerdict
    v = dealer_verdict config.date row (book_by (of_dealer firm day.facts)) moment bytes

    abbrev settlement : Option Settled
    settlement = settlement_of (of_dealer firm day.facts) v

    abbrev said : DealerEvent
    said = event.Received moment bytes settlement

    abbrev duties : List Duty
    duties = left_by (of_dealer firm day.facts) moment v

    abbrev desk : AuditTrail
    desk = with_effect (actor.Firm firm) day
        (at_dealers_desk config day.facts (dealer_of firm row) said duties)

    sent_dealer : (d : AuditTrail)
        → sent_to config firm d ≡ dealer_trail.sent_by (of_dealer firm d.facts)
    sent_dealer d = rw is refl

    used_dealer : (d : AuditTrail) → numbers_used config firm d
        ≡ count_by at_dealer.used_number (dealer_trail.facts_of (of_dealer firm d.facts))
    used_dealer d = rw is refl

    grown : of_dealer firm desk.facts
        ≡ of_dealer firm day.facts ++ entries_of config.date row (of_dealer firm day.facts) said
    grown =
        dealer_grown firm day.facts
        (map (AtDealer firm) (entries_of config.date row (of_dealer firm day.facts) said))
        ∙ ap (λ (l : List DealerEntry). of_dealer firm day.facts ++ l)
        (own_trail firm (entries_of config.date row (of_dealer firm day.facts) said))

    dealer_uses : dealer_output.uses_number v ≡ false
        → numbers_used config firm desk ≡ numbers_used config firm day
    unfolding event_facts
    dealer_uses isnt =
        used_dealer desk
        ∙ ap (λ (l : List DealerEntry). count_by at_dealer.used_number (dealer_trail.facts_of l)) grown
        ∙ ap (count_by at_dealer.used_number)
        (facts_grown config.date row (of_dealer firm day.facts) said)
        ∙ count_behind at_dealer.used_number (dealer_trail.facts_of (of_dealer firm day.facts))
        (dealer_output.came moment bytes v settlement) (dealer_unused moment bytes v settlement isnt)
        ∙ sym (used_dealer day)

    dealer_sent : sent_to config firm desk
        ≡ sent_to config firm day
        ++ option_to_list (message_by config.date row (of_dealer firm day.facts) said)
    dealer_sent =
        sent_dealer desk
        ∙ ap (λ (l : List DealerEntry). dealer_trail.sent_by l) grown
        ∙ sent_grown config.date row (of_dealer firm day.facts) said
        ∙ ap (λ (l : List (List ℕ)). l
        ++ option_to_list (message_by config.date row (of_dealer firm day.facts) said))
        (sym (sent_dealer day))

    desk_outcome : Outcome desk
    unfolding event_message
    desk_outcome =
        outcome desk (dealer_output.uses_number v)
        (option_to_list (message_by config.date row (of_dealer firm day.facts) said)) duties dealer_uses
        dealer_sent refl
        (dealer_does (dealer_output.next_message config.date row
        (dealer_trail.sent_by (of_dealer firm day.facts)) moment) (rooms_by (of_dealer firm day.facts))
        moment v settlement)

    by_word : (b : Bool) → Outcome (with_effect (actor.Firm firm) day (if b
        then at_dealers_desk config day.facts (dealer_of firm row) said duties else nothing))
    by_word true = desk_outcome
    by_word false = idle

    dealer_after : after_step config day (step.In firm moment bytes)
        ≡ with_effect (actor.Firm firm) day
        (received_by_dealer config day.facts moment bytes (dealer_of firm row))
    unfolding after_step message_effect
    dealer_after = rw is refl

    dealer_outcome : Outcome (after_step config day (step.In firm moment bytes))
    dealer_outcome = subst Outcome (sym dealer_after) (by_word _)

  module _ (row : InvestorRow) (is_no_dealer : dealer_numbered config firm ≡ None) where
    abbrev market : InvestorMarket
    market = market_of config firm row

    abbrev own_trail_of : List InvestorEntry
    own_trail_of = of_investor firm day.facts

    abbrev asks : InvestorVerdict
    asks = investor_verdict market (investor_trail.book_by own_trail_of) moment bytes

    abbrev asked : InvestorEvent
    asked = investor_event.Received moment bytes

    abbrev market_day : AuditTrail
    market_day = with_effect (actor.Firm firm) day
        (received_by_investor day.facts moment bytes market)

    sent_investor : (d : AuditTrail)
        → sent_to config firm d ≡ investor_trail.sent_by (of_investor firm d.facts)
    sent_investor d = rw is_no_dealer refl

    used_investor : (d : AuditTrail) → numbers_used config firm d
        ≡ count_by at_investor.used_number (investor_trail.facts_of (of_investor firm d.facts))
    used_investor d = rw is_no_dealer refl

    market_grown : of_investor firm market_day.facts
        ≡ own_trail_of ++ investor_trail.entries_of market own_trail_of asked
    market_grown =
        investor_grown firm day.facts
        (map (AtInvestor firm) (investor_trail.entries_of market own_trail_of asked))
        ∙ ap (λ (l : List InvestorEntry). own_trail_of ++ l)
        (own_investor firm (investor_trail.entries_of market own_trail_of asked))

    pushed : investor_growth.desk_of (own_trail_of ++ investor_trail.entries_of market own_trail_of asked)
        ≡ investor_output.after_event market (investor_growth.desk_of own_trail_of) asked
    pushed = sym (investor_growth.trail_push market own_trail_of asked)

    investor_uses : investor_output.uses_number asks ≡ false
        → numbers_used config firm market_day ≡ numbers_used config firm day
    unfolding investor_output.event_facts
    investor_uses isnt =
        used_investor market_day
        ∙ ap (λ (l : List InvestorEntry). count_by at_investor.used_number (investor_trail.facts_of l))
        market_grown
        ∙ ap (λ (d : investor_output.DeskState). count_by at_investor.used_number d.facts) pushed
        ∙ count_behind at_investor.used_number (investor_trail.facts_of own_trail_of)
        (investor_output.own_facts moment bytes asks) (investor_unused moment bytes asks isnt)
        ∙ sym (used_investor day)

    investor_sent : sent_to config firm market_day
        ≡ sent_to config firm day
        ++ investor_output.written_from market (length (investor_trail.sent_by own_trail_of) + 1) moment
        (option_to_list (investor_output.verdict_message asks))
    unfolding investor_output.event_messages
    investor_sent =
        sent_investor market_day
        ∙ ap (λ (l : List InvestorEntry). investor_trail.sent_by l) market_grown
        ∙ ap (λ (d : investor_output.DeskState). d.sent) pushed
        ∙ ap (λ (l : List (List ℕ)). l
        ++ investor_output.written_from market (length (investor_trail.sent_by own_trail_of) + 1) moment
        (option_to_list (investor_output.verdict_message asks))) (sym (sent_investor day))

    market_outcome : Outcome market_day
    market_outcome =
        outcome market_day (investor_output.uses_number asks)
        (investor_output.written_from market (length (investor_trail.sent_by own_trail_of) + 1) moment
        (option_to_list (investor_output.verdict_message asks)))
        (left_by_investor day.facts moment bytes market) investor_uses investor_sent refl
        (investor_does market (length (investor_trail.sent_by own_trail_of) + 1) moment asks)

  after_none : dealer_numbered config firm ≡ None
      → after_step config day (step.In firm moment bytes)
      ≡ with_effect (actor.Firm firm) day (done_for (market_for config firm)
      (received_by_investor day.facts moment bytes))
  unfolding after_step message_effect
  after_none is = rw is refl

  by_investor : dealer_numbered config firm ≡ None → (found : Option InvestorRow)
      → Outcome (with_effect (actor.Firm firm) day (done_for (option_map (market_of config firm) found)
      (received_by_investor day.facts moment bytes)))
  by_investor is None = idle
  by_investor is (Some row) = market_outcome row is

  by_dealer : (found : Option DealerRow) → dealer_numbered config firm ≡ found
      → Outcome (after_step config day (step.In firm moment bytes))
  by_dealer None is = subst Outcome (sym (after_none is)) (by_investor is (investor_numbered config firm))
  by_dealer (Some row) is = dealer_outcome row is

  pub message_outcome : Outcome (after_step config day (step.In firm moment bytes))
  message_outcome = by_dealer (dealer_numbered config firm) refl

pub turn_outcome : (config : Configuration) (steps : List Step) (firm moment : ℕ) (bytes : List ℕ)
    → numbers_used config firm (audit_trail config (steps ++ step.In firm moment bytes ∷ []))
    ≢ numbers_used config firm (audit_trail config steps)
    → IsAnsweredOnce config firm (audit_trail config steps)
    (audit_trail config (steps ++ step.In firm moment bytes ∷ []))
    ⊎ Awaits config firm (audit_trail config steps)
    (audit_trail config (steps ++ step.In firm moment bytes ∷ []))
unfolding audit_trail
turn_outcome config steps firm moment bytes =
    subst (λ (after : AuditTrail). Outcome config firm moment bytes (fold (after_step config) no_steps steps) after)
    (sym (fold-append (after_step config) no_steps steps (step.In firm moment bytes ∷ [])))
    (message_outcome config firm moment bytes (fold (after_step config) no_steps steps))
