-- After every list of steps, what a dealer's messages and drops left for a room is what stands at its
-- desk on the room's request.
use Rattle.std.proofs.Common.{◌≡◌, ◌==◌, ℕ, Bool, true, false, List, [], ◌∷◌, ◌++◌, map}
use Rattle.std.proofs.Common.{Option, Some, None, is_some, refl, sym, ap, ◌∙◌, subst, inl, inr}
use Rattle.std.proofs.Common.{if◌then◌else◌, Result, Ok, Err}
use Rattle.std.specs.List.{list_any}
use Rattle.std.specs.Option.{option_to_list}
use Rattle.std.proofs.lemmas.Bool.{cases_Bool, eqb-true}
use Rattle.std.proofs.lemmas.List.{append-nil, append_assoc}
use Rattle.std.proofs.lemmas.List.Elements.{filter_map-append}
use Rattle.std.proofs.lemmas.Option.{same_Some}
use Rattle.market_terms.specs.declared.asks.Ask.{Ask}
use Rattle.market_terms.specs.declared.closes.Close.{Close}
use Rattle.market_terms.specs.declared.closes.HitRefusal.{HitRefusal}
use Rattle.market_terms.specs.declared.duties.Duty.{Duty}
use Rattle.market_terms.specs.declared.duties.Duty.TheVariants as duty
use Rattle.market_terms.specs.declared.rooms.ResponseRef.{ResponseRef}
use Rattle.market_terms.specs.declared.rooms.RoomRef.{RoomRef}
use Rattle.quote_word.specs.declared.settled.Settled.{Settled}
use Rattle.venue_rows.specs.Rows.{Configuration, dealer_numbered}
use Rattle.venue_rows.specs.declared.dealer_rows.DealerRow.{DealerRow}
use Rattle.venue_steps.specs.Dealers.{Dealer, QuoteRef, acting_dealer, dealer_at, dealer_of, quote_with_word}
use Rattle.venue_steps.specs.declared.actors.Actor.{Actor}
use Rattle.venue_steps.specs.declared.actors.Actor.TheVariants as actor
use Rattle.dealer_desk.specs.DealerFacts.{Came, DealerFact, Dropped, Told, number_to_drop, tells}
use Rattle.dealer_desk.specs.DealerOutput.{closable, event_facts, number_in, settled_facts, shown_room}
use Rattle.dealer_desk.specs.DealerOutput.{uses_number, verdict_facts}
use Rattle.dealer_desk.specs.declared.events.DealerEvent.{DealerEvent}
use Rattle.dealer_desk.specs.declared.events.DealerEvent.TheVariants as at_desk
use Rattle.dealer_desk.specs.declared.standing.Withdrawal.TheVariants as by_way
use Rattle.investor_desk.specs.InvestorDesk.{market_for, market_of}
use Rattle.investor_desk.specs.InvestorRules.{InvestorMarket}
use Rattle.investor_desk.specs.declared.events.InvestorEvent.{InvestorEvent}
use Rattle.investor_desk.specs.declared.events.InvestorEvent.TheVariants as at_investor
use Rattle.request_room.specs.Book.{event_facts as room_facts, hit_outcome}
use Rattle.request_room.specs.RoomFacts.{RoomFact}
use Rattle.request_room.specs.declared.ends.End.{End}
use Rattle.request_room.specs.declared.events.RoomEvent.TheVariants as at_room
use Rattle.step_replay.specs.Actions.{Effect, answer_to_drop, at_dealer, at_market, drop_at}
use Rattle.step_replay.specs.Actions.{done_by, done_for, dropped_by, hit_with, left_by, left_by_drop}
use Rattle.step_replay.specs.Actions.{lifting, nothing, received_by_dealer, received_by_investor}
use Rattle.step_replay.specs.Actions.{settlement_of, verdict_on}
use Rattle.step_replay.specs.AuditTrail.{AuditTrail, after_step, after_turn, audit_trail, is_same_actor, pending}
use Rattle.step_replay.specs.DealerGrowth.{facts_grown, rooms_grown}
use Rattle.step_replay.specs.DealerTrail.{DealerEntry, Lifted, book_by, entries_of, fact_in, facts_of, room_in}
use Rattle.step_replay.specs.DealerTrail.{rooms_by}
use Rattle.step_replay.specs.DutyEffects.{duty_effect, message_effect, sweep_effect}
use Rattle.step_replay.specs.PlaceLemmas.{dealer_grown, other_trail, own_trail, trail_at_investor, trail_in_room}
use Rattle.step_replay.specs.VenueFacts.{Fact, InRoom, of_dealer, of_room}
use Rattle.step_replay.specs.declared.steps.Step.{Step}
use Rattle.step_replay.specs.declared.steps.Step.TheVariants as step
use Rattle.laws_days.specs.ActionCases.{if_does, invested_does, numbered_does}
use Rattle.laws_days.specs.DutyWalk.{AnyInvestor, AnyRoom, DealerMay, Walks, any_investor, any_room, duty_walks}
use Rattle.laws_days.specs.DutyWalk.{settlement_found, sweep_walks}
use Rattle.laws_days.proofs.LiveQuotes.{LoneQuotes}
use Rattle.laws_days.proofs.VenueDay.{venue_ok}
use Rattle.laws_days.proofs.VenueDesk.{WordsOfDay}
use Rattle.laws_days.proofs.VenueInvariant.{DeskOk, VenueOk}
use Rattle.laws_days.proofs.VenueParts.{duties_by}
use Rattle.laws_days.proofs.VenueSteps.{Here, day}
use Rattle.laws_days.proofs.VenueTurns.{beside, turn}
use Rattle.laws_rooms.specs.Answered.{Answer, answers_at, answers_on}
use Rattle.laws_rooms.proofs.ChangeLemmas.{IsNoDrop, change_of, leaves_none, lefts}
use Rattle.laws_rooms.proofs.DeskAnswers.{DealerFits, dealer_fits}
use Rattle.laws_rooms.proofs.DeskLinks.{drop_left, none_dropped_now, none_said_now, on_more_facts, shown_same}
use Rattle.laws_rooms.proofs.DeskLinks.{verdict_left}
use Rattle.laws_rooms.proofs.DeskUntold.{verdict_open}
use Rattle.laws_rooms.proofs.DeskVerdicts.{verdict_says}
use Rattle.laws_rooms.proofs.RoomLemmas.{one_more}
use Rattle.laws_rooms.proofs.TurnLists.{Fit}
use Rattle.laws_rooms.proofs.TurnShares.{anothers, its_own, share}

module _ (config : Configuration) (dealer : ℕ) (row : DealerRow)
    (is : dealer_numbered config dealer ≡ Some row) (room : RoomRef) where
  abbrev me : Actor
  me = actor.Firm dealer

  abbrev own : Dealer
  own = dealer_of dealer row

  abbrev left : List Duty → List Answer
  left duties = lefts dealer config row is room duties

  -- what stands at the desk
  abbrev said : List DealerEntry → List Answer
  said trail = answers_at config own room trail

  module _ (facts : List Fact) (desk : DeskOk config facts dealer row)
      (fits : (request : ℕ) → DealerFits config own request (facts_of (of_dealer dealer facts))) where
    abbrev trail : List DealerEntry
    trail = of_dealer dealer facts

    abbrev known : List DealerFact
    known = facts_of trail

    abbrev rooms : List RoomRef
    rooms = rooms_by trail

    -- what an action adds at the desk says no answer
    record Stays (effect : Effect) : Type 0 where
      pub says : said (trail ++ of_dealer dealer effect.facts) ≡ said trail

    -- it says what the action leaves
    record Linked (effect : Effect) : Type 0 where
      pub says : said (trail ++ of_dealer dealer effect.facts) ≡ said trail ++ left effect.duties

    -- Elsewhere.

    stays : (effect : Effect) → of_dealer dealer effect.facts ≡ [] → Stays effect
    stays effect none =
        record { says = ap (λ (l : List DealerEntry). said (trail ++ l)) none ∙ ap said (append-nil trail) }

    idle : Stays nothing
    unfolding of_dealer
    idle = stays nothing refl

    idle_too : Linked nothing
    idle_too = record { says = idle.says ∙ sym (append-nil (said trail)) }

    happened_stays : (at : RoomRef) (happened : List RoomFact) (duties : List Duty)
        → Stays (record { facts = map (InRoom at) happened; duties = duties })
    happened_stays at happened duties = stays _ (trail_in_room dealer at happened)

    market_stays : (market : InvestorMarket) (event : InvestorEvent) (duties : List Duty)
        → Stays (at_market facts market event duties)
    market_stays market event duties = stays _ (trail_at_investor dealer market.firm _)

    -- a quote that is hit
    lifted_same : (quote : ℕ) → said (trail ++ Lifted quote ∷ []) ≡ said trail
    lifted_same quote =
        ap (λ (l : List DealerFact). answers_on config own l (number_in (rooms_by (trail ++ Lifted quote ∷ [])) room))
        (filter_map-append fact_in trail (Lifted quote ∷ []) ∙ append-nil known)
        ∙ ap (λ (l : List RoomRef). answers_on config own known (number_in l room))
        (filter_map-append room_in trail (Lifted quote ∷ []) ∙ append-nil rooms)

    lifting_same : (found : Option QuoteRef) (outcome : Result End HitRefusal)
        → said (trail ++ of_dealer dealer (lifting found outcome)) ≡ said trail
    unfolding of_dealer
    lifting_same None outcome = ap said (append-nil trail)
    lifting_same (Some hit) (Err why) = ap said (append-nil trail)
    lifting_same (Some hit) (Ok award) = elim (cases_Bool (hit.dealer == dealer)) [
      | inl same ↦ rw same (lifted_same hit.quote)
      | inr differs ↦ rw differs (ap said (append-nil trail))
    ]

    hit_stays : (at : RoomRef) (response : ResponseRef) (word moment : ℕ) (settlement : Option Settled)
        → Stays (hit_with config facts at response word moment settlement)
    hit_stays at response word moment settlement =
        let happened = room_facts (of_room at facts) (at_room.Hit word moment settlement) in
        let lifted = lifting (quote_with_word config word)
        (hit_outcome (of_room at facts) word moment settlement) in
        record {
          says = ap (λ (l : List DealerEntry). said (trail ++ l))
              (dealer_grown dealer lifted (map (InRoom at) happened)
              ∙ ap (λ (l : List DealerEntry). of_dealer dealer lifted ++ l) (trail_in_room dealer at happened)
              ∙ append-nil (of_dealer dealer lifted))
              ∙ lifting_same (quote_with_word config word)
              (hit_outcome (of_room at facts) word moment settlement);
        }

    -- At a desk.

    grown : (other : DealerRow) (event : DealerEvent)
        → said (trail ++ entries_of config.date other trail event)
        ≡ answers_on config own (known ++ event_facts config.date other (book_by trail) event)
        (number_in (rooms ++ option_to_list (shown_room event)) room)
    grown other event =
        ap (λ (l : List DealerFact). answers_on config own l
        (number_in (rooms_by (trail ++ entries_of config.date other trail event)) room))
        (facts_grown config.date other trail event)
        ∙ ap (λ (l : List RoomRef). answers_on config own
        (known ++ event_facts config.date other (book_by trail) event) (number_in l room))
        (rooms_grown config.date other trail event)

    desk_stays : (number : ℕ) (other : DealerRow) (event : DealerEvent) (duties : List Duty)
        → said (trail ++ entries_of config.date other trail event) ≡ said trail
        → Stays (at_dealer config facts (dealer_of number other) event duties)
    desk_stays number other event duties same = elim (cases_Bool (number == dealer)) [
      | inr differs ↦ stays _ (other_trail dealer number differs _)
      | inl one ↦ subst (λ (n : ℕ). Stays (at_dealer config facts (dealer_of n other) event duties))
          (sym (eqb-true number dealer one))
          (record {
            says = ap (λ (l : List DealerEntry). said (trail ++ l))
                (own_trail dealer (entries_of config.date other trail event)) ∙ same;
          })
    ]

    shown_says : (other : DealerRow) (at : RoomRef) (ask : Ask) (moment : ℕ)
        → said (trail ++ entries_of config.date other trail (at_desk.Shown at ask moment)) ≡ said trail
    unfolding event_facts
    shown_says other at ask moment =
        grown other (at_desk.Shown at ask moment)
        ∙ shown_same config dealer row is room known rooms desk.numbered desk.noticed.counted fits at ask moment

    told_says : (other : DealerRow) (number : ℕ) (close : Close) (moment : ℕ)
        → said (trail ++ entries_of config.date other trail (at_desk.Told number close moment)) ≡ said trail
    unfolding event_facts
    told_says other number close moment =
        grown other (at_desk.Told number close moment)
        ∙ ap (λ (l : List RoomRef). answers_on config own
        (known ++ event_facts config.date other (book_by trail) (at_desk.Told number close moment)) (number_in l room))
        (append-nil rooms)
        ∙ by_test (is_some (closable (book_by trail) number)) (number_in rooms room)
      where
        by_test : (b : Bool) (found : Option ℕ)
            → answers_on config own (known ++ (if b then Told number close moment ∷ [] else [])) found
            ≡ answers_on config own known found
        by_test false found = ap (λ (l : List DealerFact). answers_on config own l found) (append-nil known)
        by_test true None = refl
        by_test true (Some request) =
            on_more_facts config dealer row is room known (Told number close moment ∷ []) (Some request)
            ∙ append-nil (answers_on config own known (Some request))

    -- Duties but drops.

    -- an event at a dealer's desk that says no answer
    abbrev SaysNone : ℕ → DealerRow → DealerEvent → List Duty → Type 0
    SaysNone number other event duties = said (trail ++ entries_of config.date other trail event) ≡ said trail

    walks : Walks SaysNone AnyInvestor AnyRoom config facts Stays
    walks = record {
      idle = idle;
      at_a_dealer = λ number other found event duties same. desk_stays number other event duties same;
      at_an_investor = λ number other found event any. market_stays (market_of config number other) event [];
      in_a_room = λ at there event no_hit duties any.
          happened_stays at (room_facts (of_room at facts) event) duties;
      by_a_hit = λ at there response word moment any.
          hit_stays at response word moment (settlement_found config facts at word moment);
    }

    at_dealers : (by : Actor) (d : Duty) → IsNoDrop d → DealerMay SaysNone config facts by d
    at_dealers by (duty.Show number at ask moment) so = λ other found none. shown_says other at ask moment
    at_dealers by (duty.Tell number at close moment) so =
        λ other found request there may. told_says other request close moment
    at_dealers by (duty.Drop last moment) so = absurd so
    at_dealers by other so = tt

    duty_stays : (by : Actor) (d : Duty) → IsNoDrop d → Stays (duty_effect config facts by d)
    duty_stays by d so =
        duty_walks SaysNone AnyInvestor AnyRoom config facts Stays walks by d (at_dealers by d so)
        (any_investor AnyInvestor config by d (λ number other event is. tt))
        (any_room AnyRoom config facts by d (λ at event duties is. tt))

    -- Its own messages and drops.

    linked : (first : DealerFact) (more : List DealerFact) (event : DealerEvent) (duties : List Duty)
        → event_facts config.date row (book_by trail) event ≡ first ∷ more → shown_room event ≡ None
        → answers_on config own (known ++ first ∷ more) (number_in rooms room) ≡ said trail ++ left duties
        → Linked (at_dealer config facts own event duties)
    linked first more event duties facts_are none says = record {
      says = ap (λ (l : List DealerEntry). said (trail ++ l)) (own_trail dealer (entries_of config.date row trail event))
          ∙ grown row event
          ∙ ap (λ (l : List DealerFact). answers_on config own (known ++ l)
          (number_in (rooms ++ option_to_list (shown_room event)) room)) facts_are
          ∙ ap (λ (o : Option RoomRef). answers_on config own (known ++ first ∷ more)
          (number_in (rooms ++ option_to_list o) room)) none
          ∙ ap (λ (l : List RoomRef). answers_on config own (known ++ first ∷ more) (number_in l room))
          (append-nil rooms)
          ∙ says;
    }

    received_linked : (moment : ℕ) (bytes : List ℕ) → Linked (received_by_dealer config facts moment bytes own)
    unfolding event_facts
    received_linked moment bytes =
        let v = verdict_on config facts moment bytes own in
        let settlement = settlement_of trail v in
        let first = Came moment bytes (uses_number v) in
        if_does Linked idle_too _ _
        (linked first (verdict_facts v settlement) (at_desk.Received moment bytes settlement) (left_by trail moment v)
        refl refl
        (on_more_facts config dealer row is room known (first ∷ verdict_facts v settlement) (number_in rooms room)
        ∙ ap (λ (l : List Answer). said trail ++ l)
        (sym (verdict_left config dealer row is room known rooms desk.numbered desk.noticed.counted fits first
        (record { untold = λ request. refl; accepts_none = λ request number. refl }) moment v settlement
        (verdict_says known row moment config.date bytes)))))

    dropped_linked : (last moment : ℕ) → Linked (dropped_by config facts last moment own)
    unfolding event_facts
    dropped_linked last moment =
        let first = Dropped last moment in
        let settlement = answer_to_drop trail last in
        let more = settled_facts (number_to_drop (book_by trail) last) by_way.Cancel settlement in
        let after = trail ++ entries_of config.date row trail (drop_at trail last moment) in
        if_does Linked idle_too _ _
        (linked first more (drop_at trail last moment) (left_by_drop config facts last moment own) refl refl
        (on_more_facts config dealer row is room known (first ∷ more) (number_in rooms room)
        ∙ ap (λ (l : List Answer). said trail ++ l)
        (sym (drop_left config dealer row is room known rooms desk.numbered desk.noticed.counted fits first
        (record { untold = λ request. refl; accepts_none = λ request number. refl }) moment last settlement
        (book_by after)))))

    by_own : (act : Dealer → Effect) → Linked (act own) → Linked (done_by (dealer_at config dealer) act)
    by_own act does =
        numbered_does Linked idle_too config dealer act (λ other found.
        subst (λ (r : DealerRow). Linked (act (dealer_of dealer r))) (same_Some row other (sym is ∙ found)) does)

    -- All actions, of the dealer and of others.

    turn_mine : (by : Actor) (d : Duty) → by ≡ me → Linked (duty_effect config facts by d)
    unfolding duty_effect
    turn_mine by (duty.Drop last moment) one =
        subst (λ (a : Actor). Linked (done_by (acting_dealer config a) (dropped_by config facts last moment))) (sym one)
        (by_own (dropped_by config facts last moment) (dropped_linked last moment))
    turn_mine by other one = record {
      says = (duty_stays by other tt).says ∙ sym (append-nil (said trail))
          ∙ ap (λ (l : List Answer). said trail ++ l)
          (sym (leaves_none dealer config row is room facts by other tt));
    }

    turn_other : (by : Actor) (d : Duty) → is_same_actor by me ≡ false → Stays (duty_effect config facts by d)
    unfolding duty_effect
    turn_other (actor.Firm number) (duty.Drop last moment) differs =
        numbered_does Stays idle config number (dropped_by config facts last moment)
        (λ other found. if_does Stays idle _ _ (stays _ (other_trail dealer number differs _)))
    turn_other actor.Clock (duty.Drop last moment) differs = idle
    turn_other by other differs = duty_stays by other tt

    message_mine : (moment : ℕ) (bytes : List ℕ) → Linked (message_effect config facts dealer moment bytes)
    unfolding message_effect
    message_mine moment bytes =
        rw (ap is_some is) (by_own (received_by_dealer config facts moment bytes) (received_linked moment bytes))

    message_other : (firm moment : ℕ) (bytes : List ℕ) → (firm == dealer) ≡ false
        → Stays (message_effect config facts firm moment bytes)
    unfolding message_effect
    message_other firm moment bytes differs = either (is_some (dealer_numbered config firm))
      where
        either : (b : Bool) → Stays (if b
            then done_by (dealer_at config firm) (received_by_dealer config facts moment bytes)
            else done_for (market_for config firm) (received_by_investor facts moment bytes))
        either true = numbered_does Stays idle config firm (received_by_dealer config facts moment bytes)
            (λ other found. if_does Stays idle _ _ (stays _ (other_trail dealer firm differs _)))
        either false = invested_does Stays idle config firm (received_by_investor facts moment bytes)
            (λ other. market_stays (market_of config firm other) (at_investor.Received moment bytes) _)

    sweep_other : (at : RoomRef) (moment : ℕ) → Stays (sweep_effect config facts at moment)
    sweep_other at moment = sweep_walks SaysNone AnyInvestor AnyRoom config facts Stays walks at moment tt

    -- Where the notice of the request was told.

    module _ (request : ℕ) (asked : number_in (rooms_by (of_dealer dealer facts)) room ≡ Some request)
        (told : list_any (tells request) (facts_of (of_dealer dealer facts)) ≡ true) where
      -- an effect that leaves nothing
      record LeavesNone (effect : Effect) : Type 0 where
        pub none : left effect.duties ≡ []

      at_own : (event : DealerEvent) (duties : List Duty) → left duties ≡ []
          → LeavesNone (at_dealer config facts own event duties)
      at_own event duties none = record { none = none }

      by_own_none : (act : Dealer → Effect) → LeavesNone (act own) → LeavesNone (done_by (dealer_at config dealer) act)
      by_own_none act does =
          numbered_does LeavesNone (record { none = refl }) config dealer act (λ other found.
          subst (λ (r : DealerRow). LeavesNone (act (dealer_of dealer r))) (same_Some row other (sym is ∙ found)) does)

      message_none : (moment : ℕ) (bytes : List ℕ) → LeavesNone (message_effect config facts dealer moment bytes)
      unfolding message_effect
      message_none moment bytes =
          let v = verdict_on config facts moment bytes own in
          rw (ap is_some is) (by_own_none (received_by_dealer config facts moment bytes)
          (if_does LeavesNone (record { none = refl }) _ _
          (at_own (at_desk.Received moment bytes (settlement_of trail v)) (left_by trail moment v)
          (none_said_now config dealer row is room known rooms desk.numbered desk.noticed.counted fits request
          asked told moment v (settlement_of trail v) (verdict_says known row moment config.date bytes)
          (verdict_open known rooms desk.noticed row moment config.date bytes)))))

      turn_none : (by : Actor) (d : Duty) → by ≡ me → LeavesNone (duty_effect config facts by d)
      unfolding duty_effect
      turn_none by (duty.Drop last moment) one =
          subst (λ (a : Actor). LeavesNone (done_by (acting_dealer config a) (dropped_by config facts last moment)))
          (sym one) (by_own_none (dropped_by config facts last moment)
          (if_does LeavesNone (record { none = refl }) _ _
          (at_own (drop_at trail last moment) (left_by_drop config facts last moment own)
          (none_dropped_now config dealer row is room known rooms desk.numbered desk.noticed.counted fits request
          asked told moment last (answer_to_drop trail last)
          (book_by (trail ++ entries_of config.date row trail (drop_at trail last moment)))))))
      turn_none by other one = record { none = leaves_none dealer config row is room facts by other tt }

      pub none_by_message : (moment : ℕ) (bytes : List ℕ)
          → left (message_effect config facts dealer moment bytes).duties ≡ []
      none_by_message moment bytes = (message_none moment bytes).none

      pub none_by_turn : (by : Actor) (d : Duty) → by ≡ me → left (duty_effect config facts by d).duties ≡ []
      none_by_turn by d one = (turn_none by d one).none

  -- A day.

  -- what was left is what stands
  record Kept (venue : AuditTrail) : Type 0 where
    pub links : left (duties_by me venue.caused) ≡ said (of_dealer dealer venue.facts)

  module _ (h : Here) (effect : Effect) (desk : DeskOk config h.venue.facts dealer row)
      (fits : (request : ℕ) → DealerFits config own request (facts_of (of_dealer dealer h.venue.facts)))
      (mine : h.by ≡ me → Linked h.venue.facts desk fits effect)
      (others : is_same_actor h.by me ≡ false → Stays h.venue.facts desk fits effect) (kept : Kept h.venue) where
    abbrev trail_now : List DealerEntry
    trail_now = of_dealer dealer h.venue.facts

    kept_then : Kept (day h effect)
    kept_then = elim (share h effect me) [
      | its_own one did_is left_is ↦ record {
        links = ap (λ (l : List Duty). left l) left_is
            ∙ filter_map-append (change_of dealer config row is room) (duties_by me h.venue.caused) effect.duties
            ∙ ap (λ (l : List Answer). l ++ left effect.duties) kept.links
            ∙ sym (mine one).says ∙ sym (ap said (dealer_grown dealer h.venue.facts effect.facts));
      }
      | anothers differs did_is left_is ↦ record {
        links = ap (λ (l : List Duty). left l) (left_is ∙ append-nil (duties_by me h.venue.caused))
            ∙ kept.links ∙ sym (others differs).says
            ∙ sym (ap said (dealer_grown dealer h.venue.facts effect.facts));
      }
    ]

  module _ (lone : LoneQuotes) (words : WordsOfDay) (before : List Step) where
    abbrev venue : AuditTrail
    venue = audit_trail config before

    stood : VenueOk config venue
    stood = venue_ok lone words config before

    abbrev desk_now : DeskOk config venue.facts dealer row
    desk_now = stood.desks dealer row is

    fits_now : (request : ℕ) → DealerFits config own request (facts_of (of_dealer dealer venue.facts))
    fits_now request = dealer_fits config own request dealer row is before

    abbrev here_beside : Actor → Here
    here_beside by = record { config = config; venue = venue; stood = stood; by = by; doing = beside }

    turn_kept : (by : Actor) (duties : List Duty) → pending by venue ≡ duties → Kept venue
        → Kept (after_turn config by venue duties)
    turn_kept by [] waits kept = kept
    turn_kept by (d ∷ rest) waits kept =
        kept_then
        (record { config = config; venue = venue; stood = stood; by = by; doing = turn d rest waits })
        (duty_effect config venue.facts by d) desk_now fits_now
        (λ one. turn_mine venue.facts desk_now fits_now by d one)
        (λ differs. turn_other venue.facts desk_now fits_now by d differs) kept

    same_firm : (one other : ℕ) → actor.Firm one ≡ actor.Firm other → one ≡ other
    same_firm one other same = ap number_of same
      where
        number_of : Actor → ℕ
        number_of (actor.Firm number) = number
        number_of actor.Clock = 0

    step_kept : (more : Step) → Kept venue → Kept (after_step config venue more)
    unfolding after_step
    step_kept (step.In firm moment bytes) kept =
        kept_then (here_beside (actor.Firm firm)) (message_effect config venue.facts firm moment bytes) desk_now fits_now
        (λ one. subst (λ (n : ℕ). Linked venue.facts desk_now fits_now (message_effect config venue.facts n moment bytes))
        (sym (same_firm firm dealer one)) (message_mine venue.facts desk_now fits_now moment bytes))
        (λ differs. message_other venue.facts desk_now fits_now firm moment bytes differs) kept
    step_kept (step.Turn by) kept = turn_kept by (pending by venue) refl kept
    step_kept (step.Expire at moment) kept =
        kept_then (here_beside actor.Clock) (sweep_effect config venue.facts at moment) desk_now fits_now
        (λ one. cc) (λ differs. sweep_other venue.facts desk_now fits_now at moment) kept

  module _ (lone : LoneQuotes) (words : WordsOfDay) where
    steps_kept : (before steps : List Step) → Kept (audit_trail config before)
        → Kept (audit_trail config (before ++ steps))
    steps_kept before [] kept = subst (λ (l : List Step). Kept (audit_trail config l)) (sym (append-nil before)) kept
    steps_kept before (more ∷ steps) kept =
        subst (λ (l : List Step). Kept (audit_trail config l)) (append_assoc before (more ∷ []) steps)
        (steps_kept (before ++ more ∷ []) steps
        (subst Kept (sym (one_more lone words config before more)) (step_kept lone words before more kept)))

    start_kept : Kept (audit_trail config [])
    unfolding audit_trail of_dealer
    start_kept = record { links = refl }

    pub all_linked : (steps : List Step)
        → left (duties_by me (audit_trail config steps).caused)
        ≡ said (of_dealer dealer (audit_trail config steps).facts)
    all_linked steps = (steps_kept [] steps start_kept).links

    -- each withdrawal that was left is of the quote that stands
    pub all_fit : (steps : List Step) → Fit None (left (duties_by me (audit_trail config steps).caused))
    all_fit steps =
        let trail_now = of_dealer dealer (audit_trail config steps).facts in
        subst (Fit None) (sym (all_linked steps)) (by_found (number_in (rooms_by trail_now) room))
      where
        by_found : (found : Option ℕ) → Fit None (answers_on config own
            (facts_of (of_dealer dealer (audit_trail config steps).facts)) found)
        by_found None = tt
        by_found (Some request) = (dealer_fits config own request dealer row is steps).fit
