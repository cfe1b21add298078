-- A sweep ends an open room whose deadline has come, and opens none.
use Rattle.std.proofs.Common.{◌≡◌, ◌≤◌, ◌<◌, ℕ, zero, suc, ◌+◌, ◌-◌, ◌==◌, Bool, true, false, ◌&&◌}
use Rattle.std.proofs.Common.{not, nat_le}
use Rattle.std.proofs.Common.{List, [], ◌∷◌, ◌++◌, map, length, fold, Option, Some, None, is_some}
use Rattle.std.proofs.Common.{refl, sym, ap}
use Rattle.std.proofs.Common.{◌∙◌, subst, arith, inl, inr, if◌then◌else◌}
use Rattle.std.specs.Prelude.{slice_get}
use Rattle.std.specs.Option.{option_or}
use Rattle.std.proofs.lemmas.Bool.{cases_Bool, eqb-true}
use Rattle.std.proofs.lemmas.Bool.Decides.{nat_tests}
use Rattle.std.proofs.lemmas.List.{append-nil}
use Rattle.std.proofs.lemmas.List.Sums.{fold-append}
use Rattle.market_terms.specs.declared.rooms.RoomRef.{RoomRef}
use Rattle.venue_rows.specs.Rows.{Configuration, has_room, investor_numbered, may_request}
use Rattle.venue_rows.specs.declared.investor_rows.InvestorRow.{InvestorRow}
use Rattle.dealer_desk.specs.DealerOutput.{is_same_room}
use Rattle.request_room.specs.Book.{event_facts, expired, is_past_deadline, may_expire, fact_if}
use Rattle.request_room.specs.RoomFacts.{Ended, RoomFact, ended_as, first_said, is_ended}
use Rattle.request_room.specs.RoomFacts.{is_open, is_ready, request_of}
use Rattle.request_room.specs.declared.ends.End.{End}
use Rattle.request_room.specs.declared.events.RoomEvent.TheVariants as at_room
use Rattle.request_room.specs.declared.requests.RoomRequest.{RoomRequest}
use Rattle.step_replay.specs.Actions.{Effect, nothing}
use Rattle.step_replay.specs.AuditTrail.{AuditTrail, after_step, audit_trail, no_steps}
use Rattle.venue_steps.specs.RoomSteps.{duties_of_expire}
use Rattle.step_replay.specs.DutyEffects.{sweep_effect}
use Rattle.step_replay.specs.GrowthLemmas.{in_left, in_right, same_room}
use Rattle.step_replay.specs.Lists.{In}
use Rattle.step_replay.specs.PlaceLemmas.{other_room, own_room, room_grown, room_stays}
use Rattle.step_replay.specs.VenueFacts.{Fact, InRoom, of_room}
use Rattle.step_replay.specs.VenueRooms.{requests_of, rooms_behind, rooms_from, rooms_of, sweeps_at}
use Rattle.step_replay.specs.declared.steps.Step.{Step}
use Rattle.step_replay.specs.declared.steps.Step.TheVariants as step
use Rattle.laws_days.specs.Overdue.{deadline_has_come, is_overdue}

-- In a room.

and_false : (b : Bool) → (b && false) ≡ false
and_false true = refl
and_false false = refl

ended_behind : (facts : List RoomFact) (end : End) (moment : ℕ)
    → is_ended (facts ++ Ended end moment ∷ []) ≡ true
ended_behind [] end moment = refl
ended_behind (fact ∷ facts) end moment = by_said (ended_as fact) (ended_behind facts end moment)
  where
    by_said : (said : Option End)
        → is_some (first_said ended_as (facts ++ Ended end moment ∷ [])) ≡ true
        → is_some (option_or said (first_said ended_as (facts ++ Ended end moment ∷ []))) ≡ true
    by_said (Some one) rest = refl
    by_said None rest = rest

same_come : (moment : ℕ) (request : Option RoomRequest)
    → deadline_has_come moment request ≡ is_past_deadline request moment
same_come moment None = refl
same_come moment (Some request) = refl

-- whether facts of a room are those of one that is overdue
abbrev overdue : ℕ → List RoomFact → Bool
overdue moment facts = is_open facts && deadline_has_come moment (request_of facts)

overdue_ended : (facts : List RoomFact) (moment : ℕ) → is_ended facts ≡ true → overdue moment facts ≡ false
overdue_ended facts moment is = rw is (rw (and_false (is_ready facts)) refl)

swept_room : (facts : List RoomFact) (moment : ℕ)
    → overdue moment (facts ++ event_facts facts (at_room.Expire moment)) ≡ false
unfolding event_facts
swept_room facts moment = by_test (may_expire facts moment) refl
  where
    by_test : (b : Bool) → may_expire facts moment ≡ b
        → overdue moment (facts ++ fact_if b (Ended expired moment)) ≡ false
    by_test true is =
        overdue_ended (facts ++ Ended expired moment ∷ []) moment (ended_behind facts expired moment)
    by_test false is =
        ap (overdue moment) (append-nil facts)
        ∙ ap (λ (b : Bool). is_open facts && b) (same_come moment (request_of facts)) ∙ is

-- In a venue.

module _ (config : Configuration) (moment : ℕ) (room : RoomRef) where
  -- the room is not overdue
  abbrev Kept : AuditTrail → Type 0
  Kept day = is_overdue moment day room ≡ false

  swept_own : (day : AuditTrail) → has_room config room.investor room.n ≡ true
      → Kept (after_step config day (step.Expire room moment))
  unfolding after_step sweep_effect
  swept_own day here = rw here
      (ap (overdue moment) (room_grown room day.facts (map (InRoom room) happened)
      ∙ ap (λ (l : List RoomFact). of_room room day.facts ++ l) (own_room room happened))
      ∙ swept_room (of_room room day.facts) moment)
    where
      happened : List RoomFact
      happened = event_facts (of_room room day.facts) (at_room.Expire moment)

  -- a sweep of another room, or of none
  elsewhere : (day : AuditTrail) (b : Bool) (effect : Effect) → of_room room effect.facts ≡ [] → Kept day
      → overdue moment (of_room room (day.facts ++ (if b && true then effect else nothing).facts)) ≡ false
  elsewhere day true effect none kept = ap (overdue moment) (room_stays room day.facts effect.facts none) ∙ kept
  elsewhere day false effect none kept =
      ap (λ (l : List Fact). overdue moment (of_room room l)) (append-nil day.facts) ∙ kept

  swept_other : (day : AuditTrail) (other : RoomRef) → is_same_room other room ≡ false → Kept day
      → Kept (after_step config day (step.Expire other moment))
  unfolding after_step sweep_effect
  swept_other day other differs kept =
      elsewhere day (has_room config other.investor other.n) (record {
        facts = map (InRoom other) (event_facts (of_room other day.facts) (at_room.Expire moment));
        duties = duties_of_expire (of_room other day.facts) other moment;
      }) (other_room room other differs (event_facts (of_room other day.facts) (at_room.Expire moment))) kept

  swept_kept : has_room config room.investor room.n ≡ true → (day : AuditTrail) (other : RoomRef)
      → Kept day → Kept (after_step config day (step.Expire other moment))
  swept_kept here day other kept = elim (cases_Bool (is_same_room other room)) [
    | inl same ↦
        subst (λ (r : RoomRef). Kept (after_step config day (step.Expire r moment)))
        (sym (same_room other room same)) (swept_own day here)
    | inr differs ↦ swept_other day other differs kept
  ]

  all_kept : has_room config room.investor room.n ≡ true → (rooms : List RoomRef) (day : AuditTrail)
      → Kept day → Kept (fold (after_step config) day (sweeps_at moment rooms))
  all_kept here [] day kept = kept
  all_kept here (other ∷ rooms) day kept =
      all_kept here rooms (after_step config day (step.Expire other moment))
      (swept_kept here day other kept)

  all_swept : has_room config room.investor room.n ≡ true → (rooms : List RoomRef) → In room rooms
      → (day : AuditTrail) → Kept (fold (after_step config) day (sweeps_at moment rooms))
  all_swept here [] is day = absurd is
  all_swept here (other ∷ rooms) (inl is) day =
      all_kept here rooms (after_step config day (step.Expire other moment))
      (subst (λ (r : RoomRef). Kept (after_step config day (step.Expire r moment))) (sym is)
      (swept_own day here))
  all_swept here (other ∷ rooms) (inr is) day =
      all_swept here rooms is (after_step config day (step.Expire other moment))

  pub room_swept : (steps : List Step) → has_room config room.investor room.n ≡ true
      → Kept (audit_trail config (steps ++ step.Expire room moment ∷ []))
  unfolding audit_trail
  room_swept steps here =
      rw (fold-append (after_step config) no_steps steps (step.Expire room moment ∷ []))
      (swept_own (fold (after_step config) no_steps steps) here)

  pub rooms_swept : (steps : List Step) (rooms : List RoomRef) → In room rooms
      → has_room config room.investor room.n ≡ true
      → Kept (audit_trail config (steps ++ sweeps_at moment rooms))
  unfolding audit_trail
  rooms_swept steps rooms is here =
      rw (fold-append (after_step config) no_steps steps (sweeps_at moment rooms))
      (all_swept here rooms is (fold (after_step config) no_steps steps))

-- Each room of a venue is among those that a `clock` line sweeps.

abbrev room_at : ℕ → ℕ → RoomRef
room_at investor n = record { investor = investor; n = n }

in_behind : (investor first more n : ℕ) → first < n → n ≤ first + more
    → In (room_at investor n) (rooms_behind investor first more)
in_behind investor first zero n above within = absurd (omega arith)
in_behind investor first (suc more) n above within = elim (cases_Bool (first + 1 == n)) [
  | inl same ↦ inl (ap (room_at investor) (eqb-true (first + 1) n same))
  | inr differs ↦
      let later : first + 1 < n = grind (arith, nat_tests) in
      let left : n ≤ first + 1 + more = omega arith in
      inr (in_behind investor (first + 1) more n later left)
]

in_from : (first : ℕ) (counts : List ℕ) (place n most : ℕ) → slice_get counts place ≡ Some most
    → 1 ≤ n → n ≤ most → In (room_at (first + place) n) (rooms_from first counts)
in_from first [] place n most is least within = cc
in_from first (count ∷ counts) zero n most is least within =
    let same : count ≡ most = cc in
    let place : first ≡ first + zero = omega arith in
    let below : n ≤ 0 + count = omega arith in
    subst (λ (i : ℕ). In (room_at i n) (rooms_from first (count ∷ counts))) place
    (in_left (room_at first n) (rooms_behind first 0 count) (rooms_from (first + 1) counts)
    (in_behind first 0 count n least below))
in_from first (count ∷ counts) (suc place) n most is least within =
    let same : first + 1 + place ≡ first + suc place = omega arith in
    subst (λ (i : ℕ). In (room_at i n) (rooms_from first (count ∷ counts))) same
    (in_right (room_at (first + 1 + place) n) (rooms_behind first 0 count) (rooms_from (first + 1) counts)
    (in_from (first + 1) counts place n most is least within))

requests_at : (rows : List InvestorRow) (place : ℕ) (row : InvestorRow) → slice_get rows place ≡ Some row
    → slice_get (requests_of rows) place ≡ Some row.requests
requests_at [] place row is = cc
requests_at (first ∷ rows) zero row is =
    let same : first ≡ row = cc in
    ap (λ (r : InvestorRow). Some r.requests) same
requests_at (first ∷ rows) (suc place) row is = requests_at rows place row is

pub in_rooms : (config : Configuration) (room : RoomRef) → has_room config room.investor room.n ≡ true
    → In room (rooms_of config)
in_rooms config room here = by_row (investor_numbered config room.investor) refl here
  where
    found : (row : InvestorRow) (b : Bool) → nat_le (length config.dealers) room.investor ≡ b
        → (if b then slice_get config.investors (room.investor - length config.dealers) else None) ≡ Some row
        → (nat_le 1 room.n && nat_le room.n row.requests) ≡ true → In room (rooms_of config)
    found row true behind is may =
        let least : 1 ≤ room.n = grind (arith, nat_tests) in
        let within : room.n ≤ row.requests = grind (arith, nat_tests) in
        let place : length config.dealers + (room.investor - length config.dealers) ≡ room.investor =
        grind (arith, nat_tests) in
        subst (λ (i : ℕ). In (room_at i room.n) (rooms_of config)) place
        (in_from (length config.dealers) (requests_of config.investors)
        (room.investor - length config.dealers) room.n row.requests
        (requests_at config.investors (room.investor - length config.dealers) row is) least within)
    found row false behind is may = cc

    by_row : (o : Option InvestorRow) → investor_numbered config room.investor ≡ o
        → may_request o room.n ≡ true → In room (rooms_of config)
    by_row None is may = cc
    by_row (Some row) is may = found row (nat_le (length config.dealers) room.investor) refl is may
