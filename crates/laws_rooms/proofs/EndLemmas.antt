-- What ends a room, and what is left and done of its end: its request is closed at the desk of its
-- investor.
use Rattle.std.proofs.Common.{◌≡◌, ◌&&◌, ℕ, Bool, true, false, List, [], ◌∷◌, ◌++◌, map}
use Rattle.std.proofs.Common.{Option, Some, None, is_none, is_some, option_map, refl, sym, ap, ◌∙◌, subst, inl, inr}
use Rattle.std.proofs.Common.{◌⊎◌, if◌then◌else◌, Result, Ok, Err}
use Rattle.std.specs.List.{list_any}
use Rattle.std.specs.Option.{option_or}
use Rattle.std.proofs.lemmas.Bool.{and_parts, cases_Bool, false≢true}
use Rattle.dealer_desk.specs.DealerOutput.{is_same_room}
use Rattle.market_terms.specs.declared.closes.HitRefusal.{HitRefusal}
use Rattle.market_terms.specs.declared.closes.Reply.{Reply}
use Rattle.market_terms.specs.declared.duties.Duty.{Duty}
use Rattle.market_terms.specs.declared.duties.Duty.TheVariants as duty
use Rattle.market_terms.specs.declared.rooms.ResponseRef.{ResponseRef}
use Rattle.market_terms.specs.declared.rooms.RoomRef.{RoomRef}
use Rattle.quote_word.specs.declared.settled.Settled.{Settled}
use Rattle.venue_rows.specs.Rows.{Configuration, investor_numbered}
use Rattle.venue_rows.specs.declared.investor_rows.InvestorRow.{InvestorRow}
use Rattle.venue_steps.specs.Dealers.{quote_with_word}
use Rattle.venue_steps.specs.declared.actors.Actor.{Actor}
use Rattle.venue_steps.specs.declared.actors.Actor.TheVariants as actor
use Rattle.venue_steps.specs.InvestorSteps.{replies_to}
use Rattle.venue_steps.specs.RoomSteps.{duties_of_expire, duties_of_pass, hit_duties, hit_word}
use Rattle.venue_steps.specs.RoomSteps.{reply_to_pass, told_in}
use Rattle.investor_desk.specs.InvestorDesk.{market_of}
use Rattle.investor_desk.specs.InvestorFacts.{Closed, InvestorBook, InvestorFact}
use Rattle.investor_desk.specs.InvestorFacts.{knows_quote, offer_numbered, request_numbered}
use Rattle.investor_desk.specs.InvestorFacts.{was_shown_on}
use Rattle.investor_desk.specs.InvestorOutput as investor_output
use Rattle.investor_desk.specs.declared.events.InvestorEvent.{InvestorEvent}
use Rattle.investor_desk.specs.declared.events.InvestorEvent.TheVariants as at_investor
use Rattle.investor_desk.specs.declared.standing.RequestClose.{RequestClose}
use Rattle.investor_desk.specs.declared.standing.RequestClose.TheVariants as close
use Rattle.investor_desk.specs.declared.standing.ShownOffer.{ShownOffer}
use Rattle.request_room.specs.Book.{end_by, event_facts, expired, hit_outcome, may_expire, passed, fact_if}
use Rattle.request_room.specs.RoomFacts.{Ended, RoomFact, ended_as, is_ended, is_open}
use Rattle.request_room.specs.RoomFacts as room_facts
use Rattle.request_room.specs.declared.ends.End.{End}
use Rattle.request_room.specs.declared.events.RoomEvent.{RoomEvent}
use Rattle.request_room.specs.declared.events.RoomEvent.TheVariants as at_room
use Rattle.step_replay.specs.Actions.{Effect, answer_to_hit, at_market, done_for, hit_with, lifting}
use Rattle.step_replay.specs.Actions.{nothing, quote_asked, where_known}
use Rattle.step_replay.specs.LineActions.{answered_by}
use Rattle.step_replay.specs.DutyEffects.{duty_effect, message_effect, sweep_effect}
use Rattle.step_replay.specs.GrowthLemmas.{same_room}
use Rattle.step_replay.specs.InvestorTrail as investor_trail
use Rattle.step_replay.specs.Lists.{Every}
use Rattle.step_replay.specs.PlaceLemmas.{other_room, own_room, room_grown}
use Rattle.step_replay.specs.VenueFacts.{Fact, InRoom, of_investor, of_room}
use Rattle.laws_days.specs.ActionCases.{if_does}
use Rattle.laws_days.specs.DutyWalk.{RoomMay}
use Rattle.laws_shown.specs.ShownRequests.{at_investor as market_facts}
use Rattle.laws_days.specs.Conditions.{holds_for, is_known, is_known_to, is_met}
use Rattle.laws_days.proofs.VenueEnds.{none_lifted}
use Rattle.laws_days.proofs.VenueKnown.{room_self}
use Rattle.laws_rooms.proofs.RoomLemmas.{some_of}
use Rattle.laws_rooms.proofs.RoomWalk.{Adds, MayHappen, OfKind, kind_adds, lifted_none, message_adds}
use Rattle.laws_rooms.proofs.ShutLemmas.{shut_by, shut_in}
use Rattle.laws_rooms.proofs.TellLemmas.{desk_grown}

-- Facts of a room.

-- a room that has ended by more facts had ended, or ends by these
pub ended_split : (known added : List RoomFact) → is_ended (known ++ added) ≡ true
    → (is_ended known ≡ true) ⊎ (is_ended added ≡ true)
ended_split [] added is = inr is
ended_split (fact ∷ known) added is = either (ended_as fact) (λ rest. ended_split known added rest) is
  where
    either : (o : Option End)
        → (is_ended (known ++ added) ≡ true → (is_ended known ≡ true) ⊎ (is_ended added ≡ true))
        → is_some (option_or o (room_facts.first_said ended_as (known ++ added))) ≡ true
        → (is_some (option_or o (room_facts.first_said ended_as known)) ≡ true) ⊎ (is_ended added ≡ true)
    either None later said = later said
    either (Some end) later said = inl refl

abbrev pub IsNoEnd : RoomFact → Type 0
IsNoEnd fact = ended_as fact ≡ None

no_end : (added : List RoomFact) → Every IsNoEnd added → is_ended added ≡ false
no_end [] every = refl
no_end (fact ∷ added) every = rw (every.0) (no_end added every.1)

-- A duty that closes a request at its desk: a close, or an answer that is no refusal.

abbrev pub closes_it : RoomRef → Duty → Bool
closes_it room (duty.Answer at response reply moment) =
    is_same_room at room && is_none (investor_output.refusal_of reply)
closes_it room (duty.Close at moment) = is_same_room at room
closes_it room other = false

-- a duty that ends no room
abbrev pub NoEnding : Duty → Type 0
NoEnding (duty.Hit at response word moment) = ⊥
NoEnding (duty.Pass at response moment) = ⊥
NoEnding d = Unit {0}

module _ (config : Configuration) (facts : List Fact) (room : RoomRef) where
  abbrev known : List RoomFact
  known = of_room room facts

  -- What ends the room leaves such a duty.

  pub record Ends (effect : Effect) : Type 0 where
    pub so : is_ended (of_room room effect.facts) ≡ true → list_any (closes_it room) effect.duties ≡ true

  idle : Ends nothing
  unfolding of_room
  idle = record { so = λ is. absurd (false≢true is) }

  never : (effect : Effect) → Adds IsNoEnd config facts room effect → Ends effect
  never effect adds = record {
    so = λ is. absurd (false≢true (sym (no_end (of_room room effect.facts) adds.each) ∙ is));
  }

  -- another room's
  elsewhere : (at : RoomRef) (happened : List RoomFact) (duties : List Duty) → is_same_room at room ≡ false
      → Ends (record { facts = map (InRoom at) happened; duties = duties })
  elsewhere at happened duties differs = record {
    so = λ is. absurd (false≢true (sym (ap is_ended (other_room room at differs happened)) ∙ is));
  }

  -- by a pass
  pass_here : (response : ResponseRef) (moment : ℕ) (open_yet : Bool) (told : List Duty)
      → Ends (record {
        facts = map (InRoom room) (fact_if open_yet (Ended passed moment));
        duties = duty.Answer room response (reply_to_pass open_yet) moment ∷ told;
      })
  pass_here response moment true told = record { so = λ is. rw (room_self room) refl }
  pass_here response moment false told = record {
    so = λ is. absurd (false≢true (sym (ap is_ended (own_room room [])) ∙ is));
  }

  -- by a sweep
  sweep_here : (moment : ℕ) (may : Bool) (told : List Duty)
      → Ends (record {
        facts = map (InRoom room) (fact_if may (Ended expired moment));
        duties = if may then duty.Close room moment ∷ told else [];
      })
  sweep_here moment true told = record { so = λ is. rw (room_self room) refl }
  sweep_here moment false told = record {
    so = λ is. absurd (false≢true (sym (ap is_ended (own_room room [])) ∙ is));
  }

  -- by a hit
  hit_here : (response : ResponseRef) (word moment : ℕ) (settlement : Option Settled)
      → Ends (hit_with config facts room response word moment settlement)
  unfolding event_facts
  hit_here response word moment settlement = by_outcome (hit_outcome known word moment settlement)
    where
      none : (why : HitRefusal)
          → of_room room (lifting (quote_with_word config word) (Err why) ++ map (InRoom room) []) ≡ []
      none why =
          ap (λ (l : List Fact). of_room room (l ++ [])) (none_lifted (quote_with_word config word) why)
          ∙ own_room room []

      by_outcome : (outcome : Result End HitRefusal) → Ends (record {
        facts = lifting (quote_with_word config word) outcome ++ map (InRoom room) (end_by outcome moment);
        duties = hit_duties known room response moment outcome;
      })
      by_outcome (Ok award) = record { so = λ is. rw (room_self room) refl }
      by_outcome (Err why) = record { so = λ is. absurd (false≢true (sym (ap is_ended (none why)) ∙ is)) }

  hit_away : (at : RoomRef) (response : ResponseRef) (word moment : ℕ) (settlement : Option Settled)
      → is_same_room at room ≡ false → Ends (hit_with config facts at response word moment settlement)
  hit_away at response word moment settlement differs =
      let lifted = lifting (quote_with_word config word)
      (hit_outcome (of_room at facts) word moment settlement) in
      let happened = event_facts (of_room at facts) (at_room.Hit word moment settlement) in
      let none : of_room room (lifted ++ map (InRoom at) happened) ≡ [] =
      room_grown room lifted (map (InRoom at) happened)
      ∙ ap (λ (l : List RoomFact). l ++ of_room room (map (InRoom at) happened))
      (lifted_none room (quote_with_word config word) (hit_outcome (of_room at facts) word moment settlement))
      ∙ other_room room at differs happened in
      record { so = λ is. absurd (false≢true (sym (ap is_ended none) ∙ is)) }

  -- the settlement of the word that a hit asks
  abbrev pub settled : RoomRef → ℕ → ℕ → Option Settled
  settled at word moment =
      option_map (answer_to_hit facts) (quote_asked config (hit_word (of_room at facts) word moment))

  hit_ends : (by : Actor) (at : RoomRef) (response : ResponseRef) (word moment : ℕ)
      → Ends (duty_effect config facts by (duty.Hit at response word moment))
  unfolding duty_effect
  hit_ends by at response word moment = elim (cases_Bool (is_same_room at room)) [
    | inl same ↦ subst (λ (r : RoomRef). Ends (duty_effect config facts by (duty.Hit r response word moment)))
        (sym (same_room at room same))
        (if_does Ends idle _ (hit_with config facts room response word moment (settled room word moment))
        (hit_here response word moment (settled room word moment)))
    | inr differs ↦ if_does Ends idle _
        (hit_with config facts at response word moment (settled at word moment))
        (hit_away at response word moment (settled at word moment) differs)
  ]

  pass_ends : (by : Actor) (at : RoomRef) (response : ResponseRef) (moment : ℕ)
      → Ends (duty_effect config facts by (duty.Pass at response moment))
  unfolding duty_effect event_facts
  pass_ends by at response moment = elim (cases_Bool (is_same_room at room)) [
    | inl same ↦ subst (λ (r : RoomRef). Ends (duty_effect config facts by (duty.Pass r response moment)))
        (sym (same_room at room same))
        (if_does Ends idle _ _ (pass_here response moment (is_open known)
        (if is_open known then told_in known room passed moment else [])))
    | inr differs ↦ if_does Ends idle _ _
        (elsewhere at (fact_if (is_open (of_room at facts)) (Ended passed moment))
        (duties_of_pass (of_room at facts) at response moment) differs)
  ]

  pub sweep_ends : (at : RoomRef) (moment : ℕ) → Ends (sweep_effect config facts at moment)
  unfolding sweep_effect event_facts
  sweep_ends at moment = elim (cases_Bool (is_same_room at room)) [
    | inl same ↦ subst (λ (r : RoomRef). Ends (sweep_effect config facts r moment))
        (sym (same_room at room same))
        (if_does Ends idle _ _ (sweep_here moment (may_expire known moment) (told_in known room expired moment)))
    | inr differs ↦ if_does Ends idle _ _
        (elsewhere at (fact_if (may_expire (of_room at facts) moment) (Ended expired moment))
        (duties_of_expire (of_room at facts) at moment) differs)
  ]

  -- an event that ends no room
  abbrev LeavesOpen : RoomEvent → Type 0
  LeavesOpen (at_room.Hit word moment settlement) = ⊥
  LeavesOpen (at_room.Pass moment) = ⊥
  LeavesOpen (at_room.Expire moment) = ⊥
  LeavesOpen other = Unit {0}

  open_says : (event : RoomEvent) → LeavesOpen event → MayHappen IsNoEnd event
  open_says (at_room.Hit word moment settlement) is = absurd is
  open_says (at_room.Pass moment) is = absurd is
  open_says (at_room.Expire moment) is = absurd is
  open_says other is = refl

  may : (by : Actor) (d : Duty) → NoEnding d → RoomMay (OfKind LeavesOpen) config facts by d
  may (actor.Firm number) (duty.Post at quote price until moment) isnt = λ row found. tt
  may actor.Clock (duty.Post at quote price until moment) isnt = tt
  may (actor.Firm number) (duty.Unpost at quote moment) isnt = λ row found. tt
  may actor.Clock (duty.Unpost at quote moment) isnt = tt
  may (actor.Firm number) (duty.Decline at moment) isnt = λ row found. tt
  may actor.Clock (duty.Decline at moment) isnt = tt
  may by (duty.Hit at response word moment) isnt = absurd isnt
  may by (duty.Pass at response moment) isnt = absurd isnt
  may by other isnt = tt

  adds_no_end : (by : Actor) (d : Duty) → NoEnding d
      → Adds IsNoEnd config facts room (duty_effect config facts by d)
  adds_no_end by d isnt = kind_adds IsNoEnd config facts room LeavesOpen open_says by d (may by d isnt)

  pub ends_none : (by : Actor) (d : Duty) → NoEnding d
      → is_ended (of_room room (duty_effect config facts by d).facts) ≡ false
  ends_none by d isnt =
      no_end (of_room room (duty_effect config facts by d).facts) (adds_no_end by d isnt).each

  pub message_ends_none : (firm moment : ℕ) (bytes : List ℕ)
      → is_ended (of_room room (message_effect config facts firm moment bytes).facts) ≡ false
  message_ends_none firm moment bytes =
      no_end (of_room room (message_effect config facts firm moment bytes).facts)
      (message_adds IsNoEnd config facts room firm moment bytes).each

  pub duty_ends : (by : Actor) (d : Duty) → Ends (duty_effect config facts by d)
  duty_ends by (duty.Hit at response word moment) = hit_ends by at response word moment
  duty_ends by (duty.Pass at response moment) = pass_ends by at response moment
  duty_ends by other = never _ (adds_no_end by other tt)

  pub message_ends : (firm moment : ℕ) (bytes : List ℕ) → Ends (message_effect config facts firm moment bytes)
  message_ends firm moment bytes = never _ (message_adds IsNoEnd config facts room firm moment bytes)

-- At the desk.

module _ (config : Configuration) (facts : List Fact) (room : RoomRef) where
  abbrev at_desk : List InvestorFact
  at_desk = market_facts room.investor facts

  abbrev book : InvestorBook
  book = investor_trail.book_by (of_investor room.investor facts)

  -- what closes the request at the desk
  pub record Shuts (effect : Effect) : Type 0 where
    pub so : shut_in room.n (market_facts room.investor (facts ++ effect.facts)) ≡ true

  module _ (row : InvestorRow) where
    shuts_with : (event : InvestorEvent) (how : RequestClose)
        → investor_output.event_facts (market_of config room.investor row) book event ≡ Closed room.n how ∷ []
        → is_some (request_numbered book room.n) ≡ true
        → Shuts (at_market facts (market_of config room.investor row) event [])
    shuts_with event how is found = record {
      so = subst (λ (l : List InvestorFact). shut_in room.n l ≡ true)
          (sym (desk_grown config facts room row event ∙ ap (λ (l : List InvestorFact). at_desk ++ l) is))
          (shut_by room.n how at_desk found);
    }

    closed_facts : (moment : ℕ) → is_some (request_numbered book room.n) ≡ true
        → investor_output.event_facts (market_of config room.investor row) book (at_investor.Closed room.n moment)
        ≡ Closed room.n close.Expired ∷ []
    unfolding investor_output.event_facts
    closed_facts moment found = let own = some_of (request_numbered book room.n) found in rw (own.1) refl

    -- how a response closes its request
    closing : (k : Option ℕ) → knows_quote book room.n k ≡ true
        → (how : RequestClose) × (investor_output.close_by book k ≡ Some how)
    closing None is = (close.Passed, refl)
    closing (Some quote) is = by_offer (offer_numbered book quote) is
      where
        by_offer : (found : Option ShownOffer) → was_shown_on room.n found ≡ true
            → (how : RequestClose) × (option_map investor_output.award_of found ≡ Some how)
        by_offer None so = absurd (false≢true so)
        by_offer (Some shown) so = (investor_output.award_of shown, refl)

    answered_facts : (response : ResponseRef) (reply : Reply) (moment : ℕ) (how : RequestClose)
        → investor_output.refusal_of reply ≡ None → investor_output.close_by book response.k ≡ Some how
        → is_some (request_numbered book room.n) ≡ true
        → investor_output.event_facts (market_of config room.investor row) book
        (at_investor.Answered room.n response reply moment) ≡ Closed room.n how ∷ []
    unfolding investor_output.event_facts
    answered_facts response reply moment how taken how_is found =
        let own = some_of (request_numbered book room.n) found in
        rw (own.1, taken, how_is) refl

  close_shuts : (by : Actor) (moment : ℕ) → is_met config facts by (duty.Close room moment) ≡ true
      → Shuts (duty_effect config facts by (duty.Close room moment))
  unfolding is_met duty_effect
  close_shuts by moment fit = by_row (investor_numbered config room.investor) fit
    where
      if_known : (row : InvestorRow) (knows_it : Bool) → knows_it ≡ true
          → is_some (request_numbered book room.n) ≡ true
          → Shuts (if knows_it
          then at_market facts (market_of config room.investor row) (at_investor.Closed room.n moment) []
          else nothing)
      if_known row true so found =
          shuts_with row (at_investor.Closed room.n moment) close.Expired (closed_facts row moment found) found
      if_known row false so found = absurd (false≢true so)

      by_row : (found : Option InvestorRow)
          → holds_for (option_map (market_of config room.investor) found) (is_known_to facts room.n None) ≡ true
          → Shuts (done_for (option_map (market_of config room.investor) found)
          (where_known facts room.n None (at_investor.Closed room.n moment)))
      by_row None so = absurd (false≢true so)
      by_row (Some row) so =
          if_known row (is_known_to facts room.n None (market_of config room.investor row)) so
          (and_parts (is_some (request_numbered book room.n)) true so).0

  answer_shuts : (by : Actor) (response : ResponseRef) (reply : Reply) (moment : ℕ)
      → investor_output.refusal_of reply ≡ None
      → is_met config facts by (duty.Answer room response reply moment) ≡ true
      → Shuts (duty_effect config facts by (duty.Answer room response reply moment))
  unfolding is_met duty_effect
  answer_shuts by response reply moment taken fit =
      let both = and_parts (replies_to response.k reply) (is_known config facts room response.k) fit in
      by_row (investor_numbered config room.investor) both.0 both.1
    where
      if_known : (row : InvestorRow) (replies knows_it : Bool) → replies ≡ true → knows_it ≡ true
          → (is_some (request_numbered book room.n) && knows_quote book room.n response.k) ≡ true
          → Shuts (if replies
          then (if knows_it
          then at_market facts (market_of config room.investor row)
          (at_investor.Answered room.n response reply moment) []
          else nothing)
          else nothing)
      if_known row true true first second knows =
          let parts = and_parts (is_some (request_numbered book room.n)) (knows_quote book room.n response.k) knows in
          let how = closing row response.k parts.1 in
          shuts_with row (at_investor.Answered room.n response reply moment) how.0
          (answered_facts row response reply moment how.0 taken how.1 parts.0) parts.0
      if_known row true false first second knows = absurd (false≢true second)
      if_known row false knows_it first second knows = absurd (false≢true first)

      by_row : (found : Option InvestorRow) → replies_to response.k reply ≡ true
          → holds_for (option_map (market_of config room.investor) found) (is_known_to facts room.n response.k) ≡ true
          → Shuts (done_for (option_map (market_of config room.investor) found)
          (answered_by facts room response reply moment))
      by_row None replies so = absurd (false≢true so)
      by_row (Some row) replies so =
          if_known row (replies_to response.k reply)
          (is_known_to facts room.n response.k (market_of config room.investor row)) replies so so

  no_refusal : (found : Option HitRefusal) → is_none found ≡ true → found ≡ None
  no_refusal None is = refl
  no_refusal (Some why) is = absurd (false≢true is)

  pub turn_shuts : (by : Actor) (d : Duty) → closes_it room d ≡ true → is_met config facts by d ≡ true
      → Shuts (duty_effect config facts by d)
  turn_shuts by (duty.Answer at response reply moment) is fit =
      let both = and_parts (is_same_room at room) (is_none (investor_output.refusal_of reply)) is in
      subst (λ (r : RoomRef). is_met config facts by (duty.Answer r response reply moment) ≡ true
      → Shuts (duty_effect config facts by (duty.Answer r response reply moment)))
      (sym (same_room at room both.0))
      (answer_shuts by response reply moment (no_refusal (investor_output.refusal_of reply) both.1)) fit
  turn_shuts by (duty.Close at moment) is fit =
      subst (λ (r : RoomRef). is_met config facts by (duty.Close r moment) ≡ true
      → Shuts (duty_effect config facts by (duty.Close r moment)))
      (sym (same_room at room is)) (close_shuts by moment) fit
  turn_shuts by other is fit = absurd (false≢true is)
