-- A room is awarded by a hit that no check refuses, to the quote that its word means.
use Rattle.std.proofs.Common.{◌≡◌, ◌<◌, ℕ, Bool, true, false, not, nat_le, List, [], ◌∷◌, ◌++◌, map}
use Rattle.std.proofs.Common.{find, fold}
use Rattle.std.proofs.Common.{Option, Some, None, IfSome, is_none, is_some, option_map, Result, Ok}
use Rattle.std.proofs.Common.{Err, refl, sym, ◌↔◌, ◌&&◌}
use Rattle.std.proofs.Common.{ap, ◌∙◌, subst, arith}
use Rattle.std.proofs.Common.{inl, inr, ◌==◌}
use Rattle.std.proofs.lemmas.Bool.{cases_Bool, false≢true, not-false}
use Rattle.std.proofs.lemmas.Bool.Decides.{nat_tests}
use Rattle.std.proofs.lemmas.List.{append_assoc}
use Rattle.std.proofs.lemmas.Option.{same_Some}
use Rattle.market_terms.specs.Checks.{first_refusal, is_not_after}
use Rattle.market_terms.specs.declared.asks.Side.{Side}
use Rattle.market_terms.specs.declared.closes.HitRefusal.{HitRefusal}
use Rattle.market_terms.specs.declared.duties.Duty.{Duty}
use Rattle.market_terms.specs.declared.rooms.RoomRef.{RoomRef}
use Rattle.quote_word.specs.declared.settled.Settled.{Settled}
use Rattle.venue_rows.specs.Rows.{Configuration}
use Rattle.venue_steps.specs.declared.actors.Actor.{Actor}
use Rattle.dealer_desk.specs.DealerOutput.{is_same_room}
use Rattle.request_room.specs.Book.{IsBest, award_of, book_of, cover_for, cover_of, end_by}
use Rattle.request_room.specs.Book.{event_facts, expired, hit_checks, others}
use Rattle.request_room.specs.Book.{hit_outcome, hit_refusal}
use Rattle.request_room.specs.Book.{hit_settled, is_expired, is_lift, is_past_deadline, may_expire}
use Rattle.request_room.specs.Book.{passed}
use Rattle.request_room.specs.Book.{quote_meant, fact_if}
use Rattle.request_room.specs.RoomFacts.{Ended, Readied, RoomFact}
use Rattle.request_room.specs.RoomFacts.{is_awarded_kind, is_ended, is_ready, opened_for}
use Rattle.request_room.specs.RoomFacts.{is_open, is_opening, request_of}
use Rattle.request_room.specs.declared.ends.End.{End}
use Rattle.request_room.specs.declared.events.RoomEvent.{RoomEvent}
use Rattle.request_room.specs.declared.events.RoomEvent.TheVariants as at_room
use Rattle.request_room.specs.declared.quotes.PostedQuote.{PostedQuote}
use Rattle.request_room.specs.declared.requests.RoomRequest.{RoomRequest}
use Rattle.step_replay.specs.ActionKinds.{IsAction, by_dealer, by_hit, by_investor, by_room}
use Rattle.step_replay.specs.ActionKinds.{duty_action, idle}
use Rattle.step_replay.specs.ActionKinds.{message_action, sweep_action}
use Rattle.step_replay.specs.Actions.{Effect, QuoteRef, answer_to_hit, lifting, quote_asked}
use Rattle.step_replay.specs.Actions.{quote_with_word}
use Rattle.venue_steps.specs.RoomSteps.{hit_word}
use Rattle.step_replay.specs.AuditTrail.{AuditTrail, after_step, after_turn, audit_trail, no_steps}
use Rattle.step_replay.specs.AuditTrail.{pending}
use Rattle.step_replay.specs.DutyEffects.{duty_effect, message_effect, sweep_effect}
use Rattle.step_replay.specs.EachLemmas.{Each, each_append, each_of}
use Rattle.step_replay.specs.GrowthLemmas.{said_grown, same_room}
use Rattle.step_replay.specs.Lists.{Every, In}
use Rattle.step_replay.specs.PlaceLemmas.{other_room, own_room, room_at_dealer, room_at_investor}
use Rattle.step_replay.specs.PlaceLemmas.{room_grown}
use Rattle.step_replay.specs.VenueFacts.{Fact, InRoom, of_room}
use Rattle.step_replay.specs.declared.steps.Step.{Step}
use Rattle.step_replay.specs.declared.steps.Step.TheVariants as step
use Rattle.laws_trades.specs.Awards.{IsBestCover, IsInTime, NamesBestCover}

-- A hit.

found_in : {A : Type 0} (test : A → Bool) (xs : List A) (x : A) → find test xs ≡ Some x → In x xs
found_in test [] x is = cc
found_in test (y ∷ xs) x is = elim (cases_Bool (test y)) [
  | inl holds ↦ inl (same_Some y x (rw holds at is))
  | inr fails ↦ inr (found_in test xs x (rw fails at is))
]

none_holds : {A : Type 0} (checks : List (Bool × A)) → first_refusal checks ≡ None
    → Every (λ (check : Bool × A). check.0 ≡ false) checks
none_holds [] none = tt
none_holds (check ∷ checks) none = elim (cases_Bool check.0) [
  | inl holds ↦ cc (rw holds at none)
  | inr fails ↦ (fails, none_holds checks (rw fails at none))
]

same_end : (one other : End) → ◌≡◌ {A = Result End HitRefusal} (Ok one) (Ok other) → one ≡ other
same_end one other is = cc

settled : (refused : Option HitRefusal) (settlement : Option Settled) (award end : End)
    → hit_settled refused settlement award ≡ Ok end → (refused ≡ None) × (award ≡ end)
settled (Some reason) settlement award end is = cc
settled None settlement award end is = elim (cases_Bool (is_lift settlement)) [
  | inl lifts ↦ (refl, same_end award end (rw lifts at is))
  | inr fails ↦ cc (rw fails at is)
]

later : (bound moment : ℕ) → nat_le bound moment ≡ false → moment < bound
later bound moment is = grind (arith, nat_tests)

hit_checked : (facts : List RoomFact) (w moment : ℕ) → hit_refusal facts w moment ≡ None
    → Every (λ (check : Bool × HitRefusal). check.0 ≡ false) (hit_checks facts w moment)
unfolding hit_refusal
hit_checked facts w moment none = none_holds (hit_checks facts w moment) none

abbrev winner_of : PostedQuote → ℕ × ℕ
winner_of quote = (quote.dealer, quote.word)

by_quote : (facts : List RoomFact) (w moment : ℕ) (award : End) → award_of facts w ≡ award
    → not (is_open facts) ≡ false → is_past_deadline (request_of facts) moment ≡ false
    → (found : Option PostedQuote) → quote_meant (book_of facts) w ≡ found → is_none found ≡ false
    → is_expired found moment ≡ false → IsInTime facts award moment
by_quote facts w moment award award_is open_yet early None found there fresh = cc
by_quote facts w moment award award_is open_yet early (Some quote) found there fresh = record {
  was_open = not-false (is_open facts) open_yet;
  quote = quote;
  stands = found_in (λ (q : PostedQuote). q.word == w) (book_of facts) quote found;
  winner = ap (λ (e : End). e.winner) (sym award_is) ∙ ap (option_map winner_of) found;
  deadline = λ request asked. later request.ask.deadline moment
      (ap (λ (r : Option RoomRequest). is_past_deadline r moment) (sym asked) ∙ early);
  valid = λ until is_until. later until moment
      (ap (λ (u : Option ℕ). is_not_after moment u) (sym is_until) ∙ fresh);
}

in_time : (facts : List RoomFact) (w moment : ℕ) (settlement : Option Settled) (award : End)
    → hit_outcome facts w moment settlement ≡ Ok award → IsInTime facts award moment
in_time facts w moment settlement award is =
    let both = settled (hit_refusal facts w moment) settlement (award_of facts w) award is in
    let checks = hit_checked facts w moment both.0 in
    by_quote facts w moment award both.1 checks.0 checks.1.0 (quote_meant (book_of facts) w) refl
    checks.1.1.0 checks.1.1.1.0

-- an award of the quote that a word means
record IsAwardOf (stood : List RoomFact) (award : End) : Type 0 where
  pub word : ℕ
  pub quote : PostedQuote
  pub meant : quote_meant (book_of stood) word ≡ Some quote
  pub award_is : award ≡ award_of stood word

is_meant : (found : Option PostedQuote) → is_none found ≡ false
    → (quote : PostedQuote) × (found ≡ Some quote)
is_meant None there = cc
is_meant (Some quote) there = (quote, refl)

award_is_of : (facts : List RoomFact) (w moment : ℕ) (settlement : Option Settled) (award : End)
    → hit_outcome facts w moment settlement ≡ Ok award → IsAwardOf facts award
award_is_of facts w moment settlement award is =
    let both = settled (hit_refusal facts w moment) settlement (award_of facts w) award is in
    let checks = hit_checked facts w moment both.0 in
    let found = is_meant (quote_meant (book_of facts) w) checks.1.1.0 in
    record { word = w; quote = found.0; meant = found.1; award_is = sym both.1 }

-- In a room.

-- where a fact awards the room, that is in time, and of a quote; and where it readies the room, a
-- request stands there
abbrev AwardsInTime : List RoomFact → RoomFact → List RoomFact → Type 0
AwardsInTime before (Ended end moment) after =
    is_awarded_kind end.kind ≡ true → IsInTime before end moment × IsAwardOf before end
AwardsInTime before Readied after = is_some (request_of before) ≡ true
AwardsInTime before fact after = Unit {0}

stays : (before : List RoomFact) (fact : RoomFact) (after more : List RoomFact)
    → AwardsInTime before fact after → AwardsInTime before fact (after ++ more)
stays before (Ended end moment) after more is = is
stays before Readied after more is = is
stays before fact after more is = tt

so_each : (b : Bool) (facts : List RoomFact) (fact : RoomFact) → AwardsInTime facts fact []
    → Each AwardsInTime facts (fact_if b fact)
so_each true facts fact is = (is, tt)
so_each false facts fact is = tt

and_first : (one other : Bool) → (one && other) ≡ true → one ≡ true
and_first true other is = refl
and_first false other is = is

ready_each : (facts : List RoomFact) (b : Bool) → is_opening facts ≡ b
    → Each AwardsInTime facts (fact_if b Readied)
ready_each facts true opening = (
  and_first (is_some (request_of facts)) (not (is_ready facts))
      (and_first (is_some (request_of facts) && not (is_ready facts)) (not (is_ended facts)) opening),
  tt,
)
ready_each facts false opening = tt

event_each : (facts : List RoomFact) (event : RoomEvent)
    → Each AwardsInTime facts (event_facts facts event)
unfolding event_facts
event_each facts at_room.Ready = ready_each facts (is_opening facts) refl
event_each facts (at_room.Hit w moment settlement) =
    by_outcome (hit_outcome facts w moment settlement) refl
  where
    by_outcome : (outcome : Result End HitRefusal) → hit_outcome facts w moment settlement ≡ outcome
        → Each AwardsInTime facts (end_by outcome moment)
    by_outcome (Ok award) is = (
      (λ kind. (
        in_time facts w moment settlement award is,
        award_is_of facts w moment settlement award is,
      )),
      tt,
    )
    by_outcome (Err reason) is = tt
event_each facts (at_room.Pass moment) =
    so_each (is_open facts) facts (Ended passed moment) (λ kind. cc)
event_each facts (at_room.Expire moment) =
    so_each (may_expire facts moment) facts (Ended expired moment) (λ kind. cc)
event_each facts other = so_each _ facts _ tt

-- The cover.

-- the request of a room that is ready
ready_split : (facts : List RoomFact) → is_ready facts ≡ true
    → (front : List RoomFact) × (rest : List RoomFact) × (facts ≡ front ++ Readied ∷ rest)
ready_split [] ready = absurd (false≢true ready)
ready_split (Readied ∷ facts) ready = ([], facts, refl)
ready_split (fact ∷ facts) ready =
    let later = ready_split facts ready in
    (fact ∷ later.0, later.1, ap (λ (l : List RoomFact). fact ∷ l) later.2)

some_request : (found : Option RoomRequest) → is_some found ≡ true
    → (request : RoomRequest) × (found ≡ Some request)
some_request None is = cc
some_request (Some request) is = (request, refl)

abbrev dealer_in : PostedQuote → ℕ
dealer_in quote = quote.dealer

best_cover : (side : Side) (quotes : List PostedQuote) (found : Option PostedQuote)
    → IfSome found (λ cover. IsBest side quotes cover) → (found ≡ None → quotes ≡ [])
    → IsBestCover side quotes (option_map dealer_in found)
best_cover side quotes None best none = none refl
best_cover side quotes (Some cover) best none = (cover, best, refl)

names_cover : ((side : Side) (winner : ℕ) (book : List PostedQuote)
    → IfSome (cover_of side winner book) (λ cover. IsBest side (others winner book) cover))
    → ((side : Side) (winner : ℕ) (book : List PostedQuote)
    → (cover_of side winner book ≡ None) ↔ (others winner book ≡ []))
    → (stood : List RoomFact) (award : End) → IsAwardOf stood award → (request : RoomRequest)
    → request_of stood ≡ Some request → NamesBestCover stood award
names_cover best none stood award of request asked =
    let book = book_of stood in
    let side = request.ask.side in
    let winner = of.quote.dealer in
    let cover : award.cover ≡ option_map dealer_in (cover_of side winner book) =
    ap (λ (e : End). e.cover) of.award_is
    ∙ ap (λ (r : Option RoomRequest).
    option_map dealer_in (cover_for r (quote_meant book of.word) book)) asked
    ∙ ap (λ (q : Option PostedQuote). option_map dealer_in (cover_for (Some request) q book)) of.meant in
    record {
      request = request;
      is_request = asked;
      winner = of.quote;
      stands = found_in (λ (q : PostedQuote). q.word == of.word) book of.quote of.meant;
      is_winner = ap (λ (e : End). e.winner) of.award_is ∙ ap (option_map winner_of) of.meant;
      cover = subst (IsBestCover side (others winner book)) (sym cover)
          (best_cover side (others winner book) (cover_of side winner book) (best side winner book)
          (none side winner book).0);
    }

-- In a venue.

nothing_lifted : (room : RoomRef) (found : Option QuoteRef) (outcome : Result End HitRefusal)
    → of_room room (lifting found outcome) ≡ []
unfolding of_room
nothing_lifted room None outcome = refl
nothing_lifted room (Some hit) (Err reason) = refl
nothing_lifted room (Some hit) (Ok award) = refl

empty_room : (room : RoomRef) → of_room room [] ≡ []
unfolding of_room
empty_room room = refl

module _ (config : Configuration) (room : RoomRef) where
  abbrev Kept : List Fact → Type 0
  Kept facts = Each AwardsInTime [] (of_room room facts)

  with_more : (facts added : List Fact) (happened : List RoomFact) → of_room room added ≡ happened
      → Each AwardsInTime (of_room room facts) happened → Kept facts → Kept (facts ++ added)
  with_more facts added happened is each kept =
      subst (Each AwardsInTime [])
      (sym (room_grown room facts added ∙ ap (λ (l : List RoomFact). of_room room facts ++ l) is))
      (each_append AwardsInTime stays [] (of_room room facts) happened kept each)

  behind : (lifted added : List Fact) → of_room room lifted ≡ []
      → of_room room (lifted ++ added) ≡ of_room room added
  behind lifted added none =
      room_grown room lifted added ∙ ap (λ (l : List RoomFact). l ++ of_room room added) none

  in_room : (facts lifted : List Fact) → of_room room lifted ≡ [] → (at : RoomRef) (event : RoomEvent)
      → Kept facts → Kept (facts ++ (lifted ++ map (InRoom at) (event_facts (of_room at facts) event)))
  in_room facts lifted none at event kept = elim (cases_Bool (is_same_room at room)) [
    | inl same ↦
        subst (λ (r : RoomRef). Kept (facts
        ++ (lifted ++ map (InRoom r) (event_facts (of_room r facts) event))))
        (sym (same_room at room same))
        (with_more facts (lifted ++ map (InRoom room) (event_facts (of_room room facts) event))
        (event_facts (of_room room facts) event)
        (behind lifted (map (InRoom room) (event_facts (of_room room facts) event)) none
        ∙ own_room room (event_facts (of_room room facts) event))
        (event_each (of_room room facts) event) kept)
    | inr differs ↦
        with_more facts (lifted ++ map (InRoom at) (event_facts (of_room at facts) event)) []
        (behind lifted (map (InRoom at) (event_facts (of_room at facts) event)) none
        ∙ other_room room at differs (event_facts (of_room at facts) event)) tt kept
  ]

  action_keeps : (facts : List Fact) (desk : Option ℕ) (at : Option RoomRef) (effect : Effect)
      → IsAction config facts desk at effect → Kept facts → Kept (facts ++ effect.facts)
  action_keeps facts desk at effect (idle is) kept =
      subst (λ (e : Effect). Kept (facts ++ e.facts)) (sym is)
      (with_more facts [] [] (empty_room room) tt kept)
  action_keeps facts desk at effect (by_dealer number row event duties desk_is found comes is) kept =
      subst (λ (e : Effect). Kept (facts ++ e.facts)) (sym is)
      (with_more facts _ [] (room_at_dealer room number _) tt kept)
  action_keeps facts desk at effect (by_investor number row event duties desk_is found fit is) kept =
      subst (λ (e : Effect). Kept (facts ++ e.facts)) (sym is)
      (with_more facts _ [] (room_at_investor room number _) tt kept)
  action_keeps facts desk at effect (by_room here event duties at_is is) kept =
      subst (λ (e : Effect). Kept (facts ++ e.facts)) (sym is)
      (in_room facts [] (empty_room room) here event kept)
  action_keeps facts desk at effect (by_hit here response word moment at_is is) kept =
      let known = of_room here facts in
      let settlement = option_map (answer_to_hit facts) (quote_asked config (hit_word known word moment)) in
      let lifted = lifting (quote_with_word config word) (hit_outcome known word moment settlement) in
      subst (λ (e : Effect). Kept (facts ++ e.facts)) (sym is)
      (in_room facts lifted
      (nothing_lifted room (quote_with_word config word) (hit_outcome known word moment settlement)) here
      (at_room.Hit word moment settlement) kept)

  turn_keeps : (by : Actor) (day : AuditTrail) (duties : List Duty) → Kept day.facts
      → Kept (after_turn config by day duties).facts
  turn_keeps by day [] kept = kept
  turn_keeps by day (duty ∷ rest) kept =
      action_keeps day.facts _ _ (duty_effect config day.facts by duty)
      (duty_action config day.facts by duty) kept

  step_keeps : (day : AuditTrail) (s : Step) → Kept day.facts → Kept (after_step config day s).facts
  unfolding after_step
  step_keeps day (step.In firm moment bytes) kept =
      action_keeps day.facts _ _ (message_effect config day.facts firm moment bytes)
      (message_action config day.facts firm moment bytes) kept
  step_keeps day (step.Turn by) kept = turn_keeps by day (pending by day) kept
  step_keeps day (step.Expire at moment) kept =
      action_keeps day.facts _ _ (sweep_effect config day.facts at moment)
      (sweep_action config day.facts at moment) kept

  steps_keep : (steps : List Step) (day : AuditTrail) → Kept day.facts
      → Kept (fold (after_step config) day steps).facts
  steps_keep [] day kept = kept
  steps_keep (s ∷ steps) day kept = steps_keep steps (after_step config day s) (step_keeps day s kept)

  awards_kept : (steps : List Step) → Kept (audit_trail config steps).facts
  unfolding audit_trail of_room
  awards_kept steps = steps_keep steps no_steps tt

  pub award_in_time : (steps : List Step) (before after : List RoomFact) (award : End) (moment : ℕ)
      → of_room room (audit_trail config steps).facts ≡ before ++ Ended award moment ∷ after
      → is_awarded_kind award.kind ≡ true → IsInTime before award moment
  award_in_time steps before after award moment is kind =
      (each_of AwardsInTime (of_room room (audit_trail config steps).facts) before
      (Ended award moment) after (awards_kept steps) is kind).0

  pub award_covered : ((side : Side) (winner : ℕ) (book : List PostedQuote)
      → IfSome (cover_of side winner book) (λ cover. IsBest side (others winner book) cover))
      → ((side : Side) (winner : ℕ) (book : List PostedQuote)
      → (cover_of side winner book ≡ None) ↔ (others winner book ≡ []))
      → (steps : List Step) (before after : List RoomFact) (award : End) (moment : ℕ)
      → of_room room (audit_trail config steps).facts ≡ before ++ Ended award moment ∷ after
      → is_awarded_kind award.kind ≡ true → NamesBestCover before award
  award_covered best none steps before after award moment is kind =
      let known = of_room room (audit_trail config steps).facts in
      let both = each_of AwardsInTime known before (Ended award moment) after (awards_kept steps) is kind in
      let split = ready_split before
      (and_first (is_ready before) (not (is_ended before)) both.0.was_open) in
      let rest = split.1 ++ Ended award moment ∷ after in
      let whole : known ≡ split.0 ++ Readied ∷ rest =
      is ∙ ap (λ (l : List RoomFact). l ++ Ended award moment ∷ after) split.2
      ∙ append_assoc split.0 (Readied ∷ split.1) (Ended award moment ∷ after) in
      let asked = some_request (request_of split.0)
      (each_of AwardsInTime known split.0 Readied rest (awards_kept steps) whole) in
      names_cover best none before award both.1 asked.0
      (ap request_of split.2
      ∙ said_grown opened_for split.0 (Readied ∷ split.1) asked.0 asked.1)
