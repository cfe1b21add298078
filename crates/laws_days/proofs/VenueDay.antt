-- What every duty, message and sweep brings, line by line of the market's table. So what stands in
-- a venue stands after every list of steps.
use Rattle.laws_days.proofs.Common.{List, ℕ, [], arith, fold, inl, inr, option_map}
use Rattle.laws_days.proofs.Common.{refl, ◌∷◌, ◌≡◌, ◌≤◌, not-true, Duty, Configuration}
use Rattle.laws_days.proofs.Common.{dealer_numbered, has_room, Posted}
use Rattle.laws_days.proofs.Common.{hit_word, Actor, Effect, dealer_of}
use Rattle.laws_days.proofs.Common.{word_for, AuditTrail, after_step, after_turn}
use Rattle.laws_days.proofs.Common.{audit_trail, no_steps, pending, duty_effect, message_effect}
use Rattle.laws_days.proofs.Common.{sweep_effect, in_right, start_seen, of_dealer, of_investor}
use Rattle.laws_days.proofs.Common.{Step}
use Rattle.market_terms.specs.declared.duties.Duty.TheVariants as duty
use Rattle.request_room.specs.Book.{event_facts, may_unpost, quote_posted}
use Rattle.request_room.specs.RoomFacts.{Noted, Unposted, takes_quotes}
use Rattle.venue_steps.specs.declared.actors.Actor.TheVariants as actor
use Rattle.step_replay.specs.Actions.{answer_to_hit, quote_asked}
use Rattle.step_replay.specs.StepLemmas.{duty_keeps, message_keeps, sweep_keeps}
use Rattle.step_replay.specs.declared.steps.Step.TheVariants as step
use Rattle.laws_days.specs.DutyWalk.{AnyInvestor, Walks, any_investor, duty_walks}
use Rattle.laws_days.proofs.ConditionMet.{show_met, tell_met}
use Rattle.laws_days.proofs.KnownDesks.{start_fit}
use Rattle.laws_days.proofs.ListLemmas.{cases_some}
use Rattle.laws_days.proofs.LiveQuotes.{LoneQuotes}
use Rattle.laws_days.proofs.NoticeLemmas.{start_noticed}
use Rattle.laws_days.proofs.VenueDesk.{WordsOfDay, dropped_brings, said_brings}
use Rattle.laws_days.proofs.VenueEnds.{expired_brings, passed_brings}
use Rattle.laws_days.proofs.VenueHits.{hit_brings}
use Rattle.laws_days.proofs.VenueInvariant.{DutyOk, VenueOk}
use Rattle.laws_days.proofs.VenueKinds.{DoneNow, acting_brings, known, nothing_brings}
use Rattle.laws_days.proofs.VenueKinds.{when_brings}
use Rattle.laws_days.proofs.VenueKnown.{named_dealer, opened_by, pending_ok, shown_ended}
use Rattle.laws_days.proofs.VenueMarkets.{asked_brings, investor_brings, market_brings}
use Rattle.laws_days.proofs.VenueParts.{OrderOk, did_in, later_same, mark_of, marks, named_later}
use Rattle.laws_days.proofs.VenueParts.{quoted_later}
use Rattle.laws_days.proofs.VenueRooms.{may_bring, opened_brings, readied_brings, shown_brings}
use Rattle.laws_days.proofs.VenueRooms.{told_brings}
use Rattle.laws_days.proofs.VenueSteps.{Brings, DoneThen, Here, ok_then, to_now}
use Rattle.laws_days.proofs.VenueTurns.{Doing, beside, own_did, turn}

module _ (lone : LoneQuotes) (words : WordsOfDay) (h : Here) where
  -- what comes to an investor's desk
  at_investors : Walks (λ number row event left. ⊥) AnyInvestor (λ room event left. ⊥) h.config
      h.venue.facts (Brings h)
  at_investors = record {
    idle = nothing_brings h;
    at_a_dealer = λ number row found event left none. absurd none;
    at_an_investor = λ number row found event any. market_brings h number row found event [] tt;
    in_a_room = λ room there event no_hit left none. absurd none;
    by_a_hit = λ room there response word moment none. absurd none;
  }

  -- a turn: what it brings, and what stands as its duty is done
  abbrev Does : Duty → Effect → Type 0
  Does left effect = Brings h effect × DoneThen h effect (left ∷ [])

  pub turn_does : (left : Duty) → DutyOk h.config h.by left h.venue
      → OrderOk h.venue (marks (did_in h.venue h.by)) (mark_of left) → DoneNow h left
      → Does left (duty_effect h.config h.venue.facts h.by left)
  unfolding duty_effect event_facts
  turn_does (duty.Open room ask dealers moment) ok order did =
      (opened_brings h room ask dealers moment ok did, (λ now later. tt, tt))
  turn_does (duty.Show dealer room ask moment) ok order did =
      let found = named_dealer h.stood room dealer ok.named in
      let yet = not-true _ (rw found.1 at
      (show_met h.stood h.by dealer room ask ok order.0)) in
      let does = shown_brings h dealer found.0 found.1 room moment yet ask ok.bears did in
      rw found.1 (does.0, (does.1, tt))
  turn_does (duty.Ready room moment) ok order did =
      (readied_brings h room moment order.1 did, (λ now later. tt, tt))
  turn_does (duty.Post room quote price valid_until moment) ok order did =
      let who = ok.0.named.who in
      let word = word_for h.config (dealer_of who.dealer who.row) quote in (
        acting_brings h who _ (may_bring h room _ (takes_quotes (known h room)) _
            (Posted (quote_posted who.dealer word price valid_until)) _ refl
            (λ effect now later. record {
              row = who.row;
              quote = quote;
              row_is = who.row_is;
              within = ok.0.within;
              word_is = refl;
              quoted = quoted_later (to_now h effect later) who.dealer room quote ok.1;
            })
            (λ effect now later. opened_by room now.facts who.dealer
            (named_later (to_now h effect later) room who.dealer ok.0.named.named))),
        tt,
      )
  turn_does (duty.Unpost room quote moment) ok order did =
      let who = ok.named.who in
      let word = word_for h.config (dealer_of who.dealer who.row) quote in (
        acting_brings h who _ (may_bring h room _ (may_unpost (known h room) who.dealer word) _
            (Unposted who.dealer word) _ refl (λ effect now later. tt)
            (λ effect now later. opened_by room now.facts who.dealer
            (named_later (to_now h effect later) room who.dealer ok.named.named))),
        tt,
      )
  turn_does (duty.Decline room moment) ok order did = (
    acting_brings h ok.who _ (may_bring h room _ (takes_quotes (known h room)) _
        (Noted ok.who.dealer) _ refl (λ effect now later. tt)
        (λ effect now later. record {
          who = ok.who;
          named = named_later (to_now h effect later) room ok.who.dealer ok.named;
        })),
    tt,
  )
  turn_does (duty.Hit room response word moment) ok order did = (
    when_brings h _ _ (λ test. hit_brings h room response word moment
        (option_map (answer_to_hit h.venue.facts)
        (quote_asked h.config (hit_word (known h room) word moment))) ok),
    tt,
  )
  turn_does (duty.Pass room response moment) ok order did =
      (passed_brings h room response moment ok, tt)
  turn_does (duty.Tell dealer room close moment) ok order did =
      let found = named_dealer h.stood room dealer ok.named in
      let number = shown_ended h.stood room ok.end dealer ok.end_is ok.named in
      let may = rw (found.1, number.1) at
      (tell_met h.stood h.by dealer room close ok order.0) in
      let does = told_brings h dealer found.0 found.1 room moment lone close ok number.0 number.1
      may did in
      rw found.1 (does.0, (does.1, tt))
  turn_does (duty.Drop last moment) ok order did = (
    acting_brings h ok _
        (dropped_brings words h ok.dealer ok.row ok.row_is ok.by_is last moment),
    tt,
  )
  turn_does other ok order did = (
    duty_walks _ AnyInvestor _ h.config h.venue.facts (Brings h) at_investors h.by other tt
        (any_investor AnyInvestor h.config h.by other (λ number row event at. tt)) tt,
    tt,
  )

  pub message_brings : (firm moment : ℕ) (bytes : List ℕ) → h.by ≡ actor.Firm firm
      → Brings h (message_effect h.config h.venue.facts firm moment bytes)
  unfolding message_effect
  message_brings firm moment bytes by_is = elim (cases_some (dealer_numbered h.config firm)) [
    | inl none ↦ rw none
        (investor_brings h firm _ (λ row is. asked_brings h firm row is by_is moment bytes))
    | inr some ↦ rw (some.1) (said_brings words h firm some.0 some.1 by_is moment bytes)
  ]

module _ (lone : LoneQuotes) (words : WordsOfDay) (config : Configuration) where
  module _ (venue : AuditTrail) (stood : VenueOk config venue) where
    -- an actor does something
    abbrev here : (by : Actor) → Doing venue by → Here
    here by doing =
        record { config = config; venue = venue; stood = stood; by = by; doing = doing }

    turn_stands : (by : Actor) (duties : List Duty) → pending by venue ≡ duties
        → VenueOk config (after_turn config by venue duties)
    turn_stands by [] is = stood
    turn_stands by (left ∷ rest) is =
        let h = here by (turn left rest is) in
        let fits = pending_ok stood by left rest is in
        let does = turn_does lone words h left (fits.0 venue (later_same venue)) fits.1
        (λ effect now later. record {
          by = by;
          ok = fits.0 now (to_now h effect later);
          done = later.did by left (rw (own_did venue by effect (stood.queues by).within
              (turn left rest is)) (in_right left (did_in venue by) (left ∷ []) (inl refl)));
        }) in
        ok_then h (duty_effect config venue.facts by left) (λ dealer row found P kept.
        duty_keeps config dealer row found P kept venue.facts by left) does.0 does.1

    pub step_stands : (more : Step) → VenueOk config (after_step config venue more)
    unfolding after_step
    step_stands (step.In firm moment message) =
        let h = here (actor.Firm firm) beside in
        ok_then h (message_effect config venue.facts firm moment message)
        (λ dealer row is P kept.
        message_keeps config dealer row is P kept venue.facts firm moment message)
        (message_brings lone words h firm moment message refl) tt
    step_stands (step.Turn by) = turn_stands by (pending by venue) refl
    step_stands (step.Expire room moment) =
        let h = here actor.Clock beside in
        ok_then h (sweep_effect config venue.facts room moment)
        (λ dealer row is P kept. sweep_keeps config dealer row is P kept venue.facts room moment)
        (expired_brings h room moment refl) tt

  steps_stand : (venue : AuditTrail) (steps : List Step) → VenueOk config venue
      → VenueOk config (fold (after_step config) venue steps)
  steps_stand venue [] stood = stood
  steps_stand venue (more ∷ steps) stood =
      steps_stand (after_step config venue more) steps (step_stands venue stood more)

  pub venue_ok : (steps : List Step) → VenueOk config (audit_trail config steps)
  unfolding audit_trail of_dealer of_investor
  venue_ok steps = steps_stand no_steps steps record {
    facts = tt;
    queues = λ by. record { left = tt; done = tt; within = none };
    desks = λ dealer row is. record {
      seen = start_seen config.date row;
      one_of = λ quote. refl;
      noticed = start_noticed;
      numbered = λ place room found. cc;
      names = tt;
    };
    markets = λ investor. start_fit (has_room config investor);
  }
    where
      none : 0 ≤ 0
      none = omega arith
