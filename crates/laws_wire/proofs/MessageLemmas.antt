-- Each message that a firm is sent is written by a desk, and so of one of the venue's types.
use Rattle.std.proofs.Common.{◌≡◌, ◌==◌, ℕ, Bool, true, false, List, [], ◌∷◌, ◌++◌, fold}
use Rattle.std.proofs.Common.{map, length, Option, Some, None, is_some, option_map, refl, sym, ap, ◌∙◌}
use Rattle.std.proofs.Common.{subst, inl, inr, ◌+◌}
use Rattle.std.specs.Option.{option_to_list}
use Rattle.std.specs.Prelude.{codes, nat_eq}
use Rattle.std.specs.Cmp.Lexicographic.{pointwise}
use Rattle.std.proofs.lemmas.Bool.{cases_Bool}
use Rattle.std.proofs.lemmas.Option.{same_Some}
use Rattle.fix_fields.specs.Frame.{Field, frame_of, value_of}
use Rattle.market_terms.specs.declared.duties.Duty.{Duty}
use Rattle.market_terms.specs.declared.rooms.RoomRef.{RoomRef}
use Rattle.quote_messages.specs.Written.{msg_type_of}
use Rattle.quote_messages.specs.declared.out_messages.OutMessage.{OutMessage}
use Rattle.quote_messages.specs.declared.out_messages.OutMessage.TheVariants as out
use Rattle.venue_rows.specs.Rows.{Configuration, dealer_numbered}
use Rattle.venue_rows.specs.declared.dealer_rows.DealerRow.{DealerRow}
use Rattle.venue_steps.specs.declared.actors.Actor.{Actor}
use Rattle.dealer_desk.specs.DealerOutput as dealer_output
use Rattle.dealer_desk.specs.declared.events.DealerEvent.{DealerEvent}
use Rattle.investor_desk.specs.InvestorDesk.{market_of}
use Rattle.investor_desk.specs.InvestorOutput as investor_output
use Rattle.investor_desk.specs.InvestorRules.{InvestorMarket}
use Rattle.investor_desk.specs.declared.events.InvestorEvent.{InvestorEvent}
use Rattle.request_room.specs.Book.{event_facts, hit_outcome}
use Rattle.request_room.specs.RoomFacts.{RoomFact}
use Rattle.request_room.specs.declared.events.RoomEvent.TheVariants as at_room
use Rattle.request_room.specs.declared.ends.End.{End}
use Rattle.market_terms.specs.declared.closes.HitRefusal.{HitRefusal}
use Rattle.std.proofs.Common.{Result, Ok, Err}
use Rattle.step_replay.specs.ActionKinds.{IsAction, by_dealer, by_hit, by_investor, by_room, idle}
use Rattle.step_replay.specs.ActionKinds.{duty_action, message_action, sweep_action}
use Rattle.step_replay.specs.Actions.{Effect, QuoteRef, answer_to_hit, lifting, quote_asked}
use Rattle.step_replay.specs.Actions.{quote_with_word}
use Rattle.step_replay.specs.AuditTrail.{AuditTrail, after_step, after_turn, audit_trail, no_steps}
use Rattle.step_replay.specs.AuditTrail.{pending, sent_to}
use Rattle.step_replay.specs.DealerTrail.{DealerEntry}
use Rattle.step_replay.specs.DealerTrail as dealer_trail
use Rattle.step_replay.specs.DutyEffects.{duty_effect, message_effect, sweep_effect}
use Rattle.step_replay.specs.EachLemmas.{every_both}
use Rattle.step_replay.specs.GrowthLemmas.{all_in}
use Rattle.step_replay.specs.InvestorTrail.{InvestorEntry}
use Rattle.step_replay.specs.InvestorTrail as investor_trail
use Rattle.step_replay.specs.Lists.{Every, In}
use Rattle.step_replay.specs.VenueFacts.{AtDealer, AtInvestor, Fact, InRoom}
use Rattle.step_replay.specs.VenueFacts.{of_dealer, of_investor, of_room}
use Rattle.venue_steps.specs.RoomSteps.{hit_word}
use Rattle.step_replay.specs.declared.steps.Step.{Step}
use Rattle.step_replay.specs.declared.steps.Step.TheVariants as step
use Rattle.laws_sessions.specs.Kept.{is_answer_body}
use Rattle.laws_shown.proofs.ReadBack.{type_read}
use Rattle.wire_messages.specs.ToFirm.{venue_fields}
use Rattle.laws_wire.specs.Carried.{IsMade}
use Rattle.laws_wire.specs.VenueMessages.{IsWritten, venue_types}

-- what an action adds: where it sends a message, that is written
abbrev IsSo : Fact → Type 0
IsSo (AtDealer dealer (dealer_trail.Sent bytes)) = IsWritten bytes
IsSo (AtDealer dealer entry) = Unit {0}
IsSo (InRoom room fact) = Unit {0}
IsSo (AtInvestor investor (investor_trail.Sent bytes)) = IsWritten bytes
IsSo (AtInvestor investor entry) = Unit {0}

-- a list that is made of another
each_made : {A B : Type 0} (P : B → Type 0) (f : A → B) → ((x : A) → P (f x)) → (xs : List A)
    → Every P (map f xs)
each_made P f each [] = tt
each_made P f each (x ∷ xs) = (each x, each_made P f each xs)

mapped : {A B : Type 0} (P : B → Type 0) (f : A → B) (xs : List A)
    → Every (λ (x : A). P (f x)) xs → Every P (map f xs)
mapped P f [] every = tt
mapped P f (x ∷ xs) every = (every.0, mapped P f xs every.1)

-- At a dealer.
module _ (date : List ℕ) (row : DealerRow) (trail : List DealerEntry) (event : DealerEvent)
    (number : ℕ) where
  abbrev AtIt : DealerEntry → Type 0
  AtIt entry = IsSo (AtDealer number entry)

  dealer_message : (said : Option OutMessage)
      → Every (λ (bytes : List ℕ). AtIt (dealer_trail.Sent bytes)) (option_to_list (option_map
      (dealer_output.next_message date row (dealer_trail.sent_by trail) (dealer_output.moment_of event)) said))
  dealer_message None = tt
  dealer_message (Some said) = (record { head = _; message = said; is = refl }, tt)

  dealer_entries : Every IsSo (map (AtDealer number) (dealer_trail.entries_of date row trail event))
  unfolding dealer_trail.entries_of
  dealer_entries =
      let facts = dealer_output.event_facts date row (dealer_trail.book_by trail) event in
      let rooms = option_to_list (dealer_output.shown_room event) in
      let messages = option_to_list (dealer_trail.message_by date row trail event) in
      mapped IsSo (AtDealer number) (map dealer_trail.AtDesk facts ++ map dealer_trail.ShownIn rooms ++ map dealer_trail.Sent messages)
      (every_both AtIt (map dealer_trail.AtDesk facts ++ map dealer_trail.ShownIn rooms) (map dealer_trail.Sent messages)
      (every_both AtIt (map dealer_trail.AtDesk facts) (map dealer_trail.ShownIn rooms)
      (each_made AtIt dealer_trail.AtDesk (λ fact. tt) facts)
      (each_made AtIt dealer_trail.ShownIn (λ room. tt) rooms))
      (mapped AtIt dealer_trail.Sent messages
      (dealer_message (dealer_output.event_message date row (dealer_trail.book_by trail) event))))

-- At an investor.
module _ (market : InvestorMarket) (trail : List InvestorEntry) (event : InvestorEvent) where
  abbrev AtThis : InvestorEntry → Type 0
  AtThis entry = IsSo (AtInvestor market.firm entry)

  investor_messages : (number moment : ℕ) (said : List OutMessage)
      → Every (λ (bytes : List ℕ). AtThis (investor_trail.Sent bytes))
      (investor_output.written_from market number moment said)
  investor_messages number moment [] = tt
  investor_messages number moment (more ∷ said) = (
    record { head = investor_output.head_of market number moment; message = more; is = refl },
    investor_messages (number + 1) moment said,
  )

  investor_entries : Every IsSo (map (AtInvestor market.firm) (investor_trail.entries_of market trail event))
  unfolding investor_trail.entries_of
  investor_entries =
      let facts = investor_output.event_facts market (investor_trail.book_by trail) event in
      let said = investor_output.event_messages market (investor_trail.book_by trail) event in
      let number = length (investor_trail.sent_by trail) + 1 in
      let moment = investor_output.moment_of event in
      let messages = investor_output.written_from market number moment said in
      mapped IsSo (AtInvestor market.firm) (investor_trail.Happened event
      ∷ map investor_trail.AtDesk facts ++ map investor_trail.Sent messages) (
        tt,
        every_both AtThis (map investor_trail.AtDesk facts) (map investor_trail.Sent messages)
            (each_made AtThis investor_trail.AtDesk (λ fact. tt) facts)
            (mapped AtThis investor_trail.Sent messages (investor_messages number moment said)),
      )

-- In a room.

room_facts : (room : RoomRef) (facts : List RoomFact) → Every IsSo (map (InRoom room) facts)
room_facts room facts = each_made IsSo (InRoom room) (λ fact. tt) facts

lifted_facts : (found : Option QuoteRef) (outcome : Result End HitRefusal)
    → Every IsSo (lifting found outcome)
lifted_facts None outcome = tt
lifted_facts (Some hit) (Ok award) = (tt, tt)
lifted_facts (Some hit) (Err reason) = tt

-- In a venue.
module _ (config : Configuration) where
  action_so : (facts : List Fact) (desk : Option ℕ) (at : Option RoomRef) (effect : Effect)
      → IsAction config facts desk at effect → Every IsSo effect.facts
  action_so facts desk at effect (idle is) = subst (λ (e : Effect). Every IsSo e.facts) (sym is) tt
  action_so facts desk at effect (by_dealer number row event duties desk_is found comes is) =
      subst (λ (e : Effect). Every IsSo e.facts) (sym is)
      (dealer_entries config.date row (of_dealer number facts) event number)
  action_so facts desk at effect (by_investor number row event duties desk_is found fit is) =
      subst (λ (e : Effect). Every IsSo e.facts) (sym is)
      (investor_entries (market_of config number row) (of_investor number facts) event)
  action_so facts desk at effect (by_room here event duties at_is is) =
      subst (λ (e : Effect). Every IsSo e.facts) (sym is)
      (room_facts here (event_facts (of_room here facts) event))
  action_so facts desk at effect (by_hit here response word moment at_is is) =
      let known = of_room here facts in
      let settlement = option_map (answer_to_hit facts) (quote_asked config (hit_word known word moment)) in
      let outcome = hit_outcome known word moment settlement in
      let happened = event_facts known (at_room.Hit word moment settlement) in
      subst (λ (e : Effect). Every IsSo e.facts) (sym is)
      (every_both IsSo (lifting (quote_with_word config word) outcome) (map (InRoom here) happened)
      (lifted_facts (quote_with_word config word) outcome) (room_facts here happened))

  more_so : (facts : List Fact) (desk : Option ℕ) (at : Option RoomRef) (effect : Effect)
      → IsAction config facts desk at effect → Every IsSo facts → Every IsSo (facts ++ effect.facts)
  more_so facts desk at effect action before =
      every_both IsSo facts effect.facts before (action_so facts desk at effect action)

  turn_so : (by : Actor) (day : AuditTrail) (duties : List Duty) → Every IsSo day.facts
      → Every IsSo (after_turn config by day duties).facts
  turn_so by day [] before = before
  turn_so by day (duty ∷ rest) before =
      more_so day.facts _ _ (duty_effect config day.facts by duty)
      (duty_action config day.facts by duty) before

  step_so : (day : AuditTrail) (s : Step) → Every IsSo day.facts
      → Every IsSo (after_step config day s).facts
  unfolding after_step
  step_so day (step.In firm moment bytes) before =
      more_so day.facts _ _ (message_effect config day.facts firm moment bytes)
      (message_action config day.facts firm moment bytes) before
  step_so day (step.Turn by) before = turn_so by day (pending by day) before
  step_so day (step.Expire at moment) before =
      more_so day.facts _ _ (sweep_effect config day.facts at moment)
      (sweep_action config day.facts at moment) before

  steps_so : (steps : List Step) (day : AuditTrail) → Every IsSo day.facts
      → Every IsSo (fold (after_step config) day steps).facts
  steps_so [] day before = before
  steps_so (s ∷ steps) day before = steps_so steps (after_step config day s) (step_so day s before)

  all_so : (steps : List Step) → Every IsSo (audit_trail config steps).facts
  unfolding audit_trail
  all_so steps = steps_so steps no_steps tt

-- Of one firm.

dealer_so : (number : ℕ) (facts : List Fact) → Every IsSo facts
    → Every (λ (entry : DealerEntry). IsSo (AtDealer number entry)) (of_dealer number facts)
unfolding of_dealer
dealer_so number [] every = tt
dealer_so number (AtDealer other entry ∷ facts) every = elim (cases_Bool (other == number)) [
  | inl same ↦ rw same (as_own entry every.0, dealer_so number facts every.1)
  | inr differs ↦ rw differs (dealer_so number facts every.1)
] where
  as_own : (one : DealerEntry) → IsSo (AtDealer other one) → IsSo (AtDealer number one)
  as_own (dealer_trail.Sent bytes) is = is
  as_own (dealer_trail.AtDesk fact) is = tt
  as_own (dealer_trail.ShownIn room) is = tt
  as_own (dealer_trail.Lifted quote) is = tt
dealer_so number (InRoom room fact ∷ facts) every = dealer_so number facts every.1
dealer_so number (AtInvestor investor entry ∷ facts) every = dealer_so number facts every.1

investor_so : (number : ℕ) (facts : List Fact) → Every IsSo facts
    → Every (λ (entry : InvestorEntry). IsSo (AtInvestor number entry)) (of_investor number facts)
unfolding of_investor
investor_so number [] every = tt
investor_so number (AtInvestor other entry ∷ facts) every = elim (cases_Bool (other == number)) [
  | inl same ↦ rw same (as_own entry every.0, investor_so number facts every.1)
  | inr differs ↦ rw differs (investor_so number facts every.1)
] where
  as_own : (one : InvestorEntry) → IsSo (AtInvestor other one) → IsSo (AtInvestor number one)
  as_own (investor_trail.Sent bytes) is = is
  as_own other is = tt
investor_so number (InRoom room fact ∷ facts) every = investor_so number facts every.1
investor_so number (AtDealer dealer entry ∷ facts) every = investor_so number facts every.1

dealer_sent : (number : ℕ) (trail : List DealerEntry)
    → Every (λ (entry : DealerEntry). IsSo (AtDealer number entry)) trail
    → Every IsWritten (dealer_trail.sent_by trail)
dealer_sent number [] every = tt
dealer_sent number (dealer_trail.Sent bytes ∷ trail) every = (every.0, dealer_sent number trail every.1)
dealer_sent number (entry ∷ trail) every = dealer_sent number trail every.1

investor_sent : (number : ℕ) (trail : List InvestorEntry)
    → Every (λ (entry : InvestorEntry). IsSo (AtInvestor number entry)) trail
    → Every IsWritten (investor_trail.sent_by trail)
investor_sent number [] every = tt
investor_sent number (investor_trail.Sent bytes ∷ trail) every = (every.0, investor_sent number trail every.1)
investor_sent number (entry ∷ trail) every = investor_sent number trail every.1

pub sent_written : (config : Configuration) (steps : List Step) (firm : ℕ) (bytes : List ℕ)
    → In bytes (sent_to config firm (audit_trail config steps)) → IsWritten bytes
sent_written config steps firm bytes sent =
    by_role (is_some (dealer_numbered config firm)) refl
  where
    facts : List Fact
    facts = (audit_trail config steps).facts

    by_role : (dealer : Bool) → is_some (dealer_numbered config firm) ≡ dealer → IsWritten bytes
    by_role true is =
        all_in IsWritten bytes (dealer_trail.sent_by (of_dealer firm (audit_trail config steps).facts))
        (dealer_sent firm (of_dealer firm (audit_trail config steps).facts)
        (dealer_so firm (audit_trail config steps).facts (all_so config steps))) (rw is at sent)
    by_role false is =
        all_in IsWritten bytes (investor_trail.sent_by (of_investor firm (audit_trail config steps).facts))
        (investor_sent firm (of_investor firm (audit_trail config steps).facts)
        (investor_so firm (audit_trail config steps).facts (all_so config steps))) (rw is at sent)

-- Types.

pub type_known : (message : OutMessage) → In (msg_type_of message) venue_types
type_known (out.Reject reject) = inl refl
type_known (out.Request request) = inr (inl refl)
type_known (out.OfferedQuote quote) = inr (inr (inl refl))
type_known (out.RequestRefused request bond reason) = inr (inr (inr (inl refl)))
type_known (out.ClosingNotice notice) = inr (inr (inr (inr (inr (inl refl)))))
type_known other = inr (inr (inr (inr (inl refl))))

pub of_a_type : (bytes : List ℕ) (fields : List Field) → IsWritten bytes → frame_of bytes ≡ Some fields
    → (kind : List ℕ) × (value_of 35 fields ≡ Some kind) × In kind venue_types
of_a_type bytes fields is read = (
  msg_type_of is.message,
  type_read is.head is.message fields (ap frame_of (sym is.is) ∙ read),
  type_known is.message,
)

no_heartbeat : (message : OutMessage) → pointwise nat_eq (msg_type_of message) (codes "0") ≡ false
no_heartbeat (out.Reject reject) = refl
no_heartbeat (out.Request request) = refl
no_heartbeat (out.OfferedQuote quote) = refl
no_heartbeat (out.RequestRefused request bond reason) = refl
no_heartbeat (out.ClosingNotice notice) = refl
no_heartbeat other = refl

pub no_answer : (bytes : List ℕ) (number : ℕ) (told : Option Field) (body : List Field) → IsWritten bytes
    → IsMade bytes number told body → is_answer_body body ≡ false
no_answer bytes number told body is made =
    let kind : made.message.kind ≡ msg_type_of is.message =
    same_Some made.message.kind (msg_type_of is.message)
    (type_read is.head is.message (venue_fields made.message)
    (ap frame_of (sym is.is) ∙ made.of_venue.frame)) in
    ap is_answer_body made.is ∙ ap (λ (k : List ℕ). pointwise nat_eq k (codes "0")) kind
    ∙ no_heartbeat is.message
