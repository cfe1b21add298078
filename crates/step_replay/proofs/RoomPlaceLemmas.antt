-- Where the rooms of a replay stand, and the places after more facts in one of them.
use Rattle.step_replay.proofs.Common.{◌≡◌, ◌<◌, ◌≤◌, ℕ, ◌+◌, ◌-◌, Bool, true, false, ◌&&◌, List}
use Rattle.step_replay.proofs.Common.{length, get_or, nat_le, nat_lt, Option, Some, None}
use Rattle.step_replay.proofs.Common.{if◌then◌else◌, refl, sym, ap, ◌∙◌, subst, arith, ◌++◌, map}
use Rattle.step_replay.proofs.Common.{◌==◌, slice_get, nat_tests, length-replicate}
use Rattle.step_replay.proofs.Common.{get_or_from_slice_get, slice_get_within, with_item}
use Rattle.step_replay.proofs.Common.{Configuration, investor_numbered, has_room, may_request}
use Rattle.step_replay.proofs.Common.{InvestorRow, RoomRef, room_after, RoomEvent, RoomFact, Fact}
use Rattle.step_replay.proofs.Common.{of_room, InRoom, InvestorStands, RoomIs, Stands, slots}
use Rattle.step_replay.proofs.Common.{InvestorPlace, Floor, behind_dealers, lent, numbered_at}
use Rattle.step_replay.proofs.Common.{investor_stays, other_room, room_grown, room_stays, desk_of}
use Rattle.step_replay.proofs.Common.{and_left, market_of, InvestorEntry}
use Rattle.step_replay.specs.InvestorEvents.{events_of}
use Rattle.step_replay.specs.NotedTrail.{NotedAs}
use Rattle.std.proofs.lemmas.Option.{cond_some}
use Rattle.step_replay.specs.RoomPlaces.{within, room_place}
use Rattle.step_replay.specs.PlaceLemmas.{own_room, investor_in_room, trail_in_room}
use Rattle.step_replay.proofs.FloorLemmas.{dealer_count, at_investor_stands}
use Rattle.step_replay.proofs.InvestorPlaceLemmas.{investor_found}
use Rattle.step_replay.proofs.MatchLemmas.{as_many, found, flipped, changed}
use Rattle.std.proofs.lemmas.Bool.{and_right}

-- the place that the code found for a room
pub record PlaceOf (floor : Floor) (at : RoomRef) (investor index : ℕ) : Type 0 where
  pub investor_is : at.investor ≡ length floor.dealers.items + investor
  pub n_is : at.n ≡ 1 + index
  pub place : InvestorPlace
  pub there : slice_get floor.investors.items investor ≡ Some place
  pub inside : index < length place.rooms.items

when_some : {A : Type 0} (b : Bool) (x : Option A) (y : A) → (if b then x else None) ≡ Some y
    → (b ≡ true) × (x ≡ Some y)
when_some true x y is = (refl, is)
when_some false x y is = cc

pub place_of : (floor : Floor) (at : RoomRef) (investor index : ℕ)
    → Some (investor, index) ≡ room_place floor at → PlaceOf floor at investor index
place_of floor at investor index is =
    by_place (slice_get floor.investors.items first) refl outer.1
  where
    first : ℕ
    first = at.investor - length floor.dealers.items

    outer : ((nat_le (length floor.dealers.items) at.investor && nat_le 1 at.n) ≡ true)
        × (within first (at.n - 1) (slice_get floor.investors.items first) ≡ Some (investor, index))
    outer = when_some (nat_le (length floor.dealers.items) at.investor && nat_le 1 at.n)
        (within first (at.n - 1) (slice_get floor.investors.items first)) (investor, index) (sym is)

    by_place : (place : Option InvestorPlace) → slice_get floor.investors.items first ≡ place
        → within first (at.n - 1) place ≡ Some (investor, index)
        → PlaceOf floor at investor index
    by_place None there same = cc
    by_place (Some place) there same =
        let parts = cond_some (nat_lt (at.n - 1) (length place.rooms.items)) (first, at.n - 1)
        (investor, index) same in
        let inner : nat_lt (at.n - 1) (length place.rooms.items) ≡ true = parts.0 in
        let one : at.investor - length floor.dealers.items ≡ investor =
        ap (λ (p : ℕ × ℕ). p.0) parts.1 in
        let two : at.n - 1 ≡ index = ap (λ (p : ℕ × ℕ). p.1) parts.1 in
        let from : length floor.dealers.items ≤ at.investor = grind (arith, nat_tests, outer.0) in
        let least : 1 ≤ at.n = grind (arith, nat_tests, outer.0) in
        record {
          investor_is = omega arith;
          n_is = omega arith;
          place = place;
          there = ap (slice_get floor.investors.items) (sym one) ∙ there;
          inside = grind (arith, nat_tests, inner);
        }

-- a room that stands where its facts have come
pub record FoundRoom (config : Configuration) (facts : List Fact) (at : RoomRef)
    (investor index : ℕ) (old : InvestorPlace) (events : List RoomEvent) : Type 0 where
  pub row : InvestorRow
  pub row_is : slice_get config.investors investor ≡ Some row
  pub investor_is : at.investor ≡ length config.dealers + investor
  pub slot : Unit {0}
  pub slot_is : slice_get (slots row) index ≡ Some slot
  pub n_is : at.n ≡ 1 + index
  pub has : has_room config at.investor at.n ≡ true
  pub stands : InvestorStands config facts at.investor row old
  pub known : room_after events ≡ of_room at facts

-- where the code found a room, by what a floor keeps of it
pub record RoomAt (config : Configuration) (investors : List InvestorPlace) (at : RoomRef)
    (investor index : ℕ) (old : InvestorPlace) (events : List RoomEvent) : Type 0 where
  pub investor_is : at.investor ≡ length config.dealers + investor
  pub n_is : at.n ≡ 1 + index
  pub there : slice_get investors investor ≡ Some old
  pub events_there : slice_get old.rooms.items index ≡ Some events

module _ {config : Configuration} {facts : List Fact} {floor : Floor} {at : RoomRef}
    {investor index : ℕ} {old : InvestorPlace} {events : List RoomEvent}
    (before : Stands config facts floor) where
  pub room_found : RoomAt config floor.investors.items at investor index old events
      → FoundRoom config facts at investor index old events
  room_found place =
      let own = investor_found before investor place.investor_is place.there in
      let room = found (RoomIs facts at.investor) 1 (slots own.row) old.rooms.items index events
      own.stands.rooms_are place.events_there in
      let within : index < length (slots own.row) =
      slice_get_within (slots own.row) index room.item room.there in
      let count : length (slots own.row) ≡ own.row.requests = length-replicate own.row.requests tt in
      let n_is : at.n ≡ 1 + index = place.n_is in
      let in_day : (nat_le 1 at.n && nat_le at.n own.row.requests) ≡ true =
      grind (arith, nat_tests) in
      record {
        row = own.row;
        row_is = own.there;
        investor_is = place.investor_is;
        slot = room.item;
        slot_is = room.there;
        n_is = n_is;
        has = ap (λ row. may_request row at.n) own.row_is ∙ in_day;
        stands = own.stands;
        known = room.so
            ∙ ap (λ (n : ℕ). of_room (record { investor = at.investor; n = n }) facts) (sym n_is);
      }

-- what the code found there is there
pub item_there : {X : Type 0} (xs : List X) (i : ℕ) (x y : X) → slice_get xs i ≡ Some y
    → x ≡ get_or xs i x → y ≡ x
item_there xs i x y there value = sym (value ∙ get_or_from_slice_get xs i y x there)

pub investor_inside : (floor : Floor) (at : RoomRef) (investor index : ℕ)
    → Some (investor, index) ≡ room_place floor at → investor < length floor.investors.items
investor_inside floor at investor index is =
    let place = place_of floor at investor index is in
    slice_get_within floor.investors.items investor place.place place.there

pub room_inside : (floor : Floor) (at : RoomRef) (investor index : ℕ) (old : InvestorPlace)
    → Some (investor, index) ≡ room_place floor at
    → old ≡ get_or floor.investors.items investor old
    → index < length old.rooms.items
room_inside floor at investor index old is value =
    let place = place_of floor at investor index is in
    subst (λ (p : InvestorPlace). index < length p.rooms.items)
    (item_there floor.investors.items investor old place.place place.there value) place.inside

pub room_at : (config : Configuration) (facts : List Fact) (floor : Floor) (at : RoomRef)
    (investor index : ℕ) (old : InvestorPlace) (events : List RoomEvent)
    → Stands config facts floor → Some (investor, index) ≡ room_place floor at
    → old ≡ get_or floor.investors.items investor old
    → events ≡ get_or old.rooms.items index events
    → RoomAt config floor.investors.items at investor index old events
room_at config facts floor at investor index old events before is value events_value =
    let place = place_of floor at investor index is in
    let count : length floor.dealers.items ≡ length config.dealers =
    dealer_count config facts floor before in
    record {
      investor_is = place.investor_is ∙ ap (λ (n : ℕ). n + investor) count;
      n_is = place.n_is;
      there = place.there ∙ ap Some
          (item_there floor.investors.items investor old place.place place.there value);
      events_there = lent old.rooms.items index events
          (room_inside floor at investor index old is value) events_value;
    }

pub found_by_code : (config : Configuration) (facts : List Fact) (floor : Floor) (at : RoomRef)
    (investor index : ℕ) (old : InvestorPlace) (events : List RoomEvent)
    → Stands config facts floor → Some (investor, index) ≡ room_place floor at
    → old ≡ get_or floor.investors.items investor old
    → events ≡ get_or old.rooms.items index events
    → FoundRoom config facts at investor index old events
found_by_code config facts floor at investor index old events before is value events_value =
    room_found before
    (room_at config facts floor at investor index old events before is value events_value)

-- a room that the code does not find is none of the venue
pub no_room : (config : Configuration) (facts : List Fact) (floor : Floor) (at : RoomRef)
    → Stands config facts floor → room_place floor at ≡ None
    → has_room config at.investor at.n ≡ false
no_room config facts floor at before none = by_row (investor_numbered config at.investor) refl
  where
    first : ℕ
    first = at.investor - length floor.dealers.items

    by_row : (row : Option InvestorRow) → investor_numbered config at.investor ≡ row
        → may_request row at.n ≡ false
    by_row None is = refl
    by_row (Some row) is = by_day (nat_le 1 at.n && nat_le at.n row.requests) refl
      where
        by_day : (b : Bool) → (nat_le 1 at.n && nat_le at.n row.requests) ≡ b → b ≡ false
        by_day false test = refl
        by_day true test =
            let behind : length config.dealers ≤ at.investor =
            behind_dealers config at.investor row is in
            let own = found (λ (n : ℕ) (p : InvestorPlace) (r : InvestorRow).
            InvestorStands config facts n r p) (length config.dealers) floor.investors.items
            config.investors (at.investor - length config.dealers) row
            (flipped (InvestorStands config facts) (length config.dealers) config.investors
            floor.investors.items before.investors_are)
            (sym (numbered_at config at.investor behind) ∙ is) in
            let place : InvestorPlace = own.item in
            let number : ℕ = length config.dealers + (at.investor - length config.dealers) in
            let many : length place.rooms.items ≡ row.requests =
            as_many (RoomIs facts number) 1 (slots row) place.rooms.items own.so.rooms_are
            ∙ length-replicate row.requests tt in
            let count : length floor.dealers.items ≡ length config.dealers =
            dealer_count config facts floor before in
            let there : slice_get floor.investors.items first ≡ Some place =
            ap (λ (n : ℕ). slice_get floor.investors.items (at.investor - n)) count ∙ own.there in
            let from_test : nat_le (length floor.dealers.items) at.investor ≡ true =
            grind (arith, nat_tests, count, behind) in
            let least_test : nat_le 1 at.n ≡ true = grind (arith, nat_tests, test) in
            let inside_test : nat_lt (at.n - 1) (length place.rooms.items) ≡ true =
            grind (arith, nat_tests, test, many) in
            let is_found : room_place floor at ≡ Some (first, at.n - 1) =
            rw (from_test, least_test, there, inside_test) refl in
            cc

-- the floor with new events in a room
abbrev pub floor_with : Floor → ℕ → ℕ → InvestorPlace → List RoomEvent → Floor
floor_with floor investor index old new = record floor {
  investors = with_item floor.investors investor
      (record old { rooms = with_item old.rooms index new });
}

module _ {config : Configuration} {facts : List Fact} {floor : Floor} {at : RoomRef}
    {investor index : ℕ} {old : InvestorPlace} {events : List RoomEvent}
    (before : Stands config facts floor)
    (found : FoundRoom config facts at investor index old events) where
  pub in_room_stands : (added : List RoomFact) (new : List RoomEvent)
      → room_after new ≡ of_room at facts ++ added
      → Stands config (facts ++ map (InRoom at) added) (floor_with floor investor index old new)
  in_room_stands added new grown =
      let more : List Fact = map (InRoom at) added in
      at_investor_stands more investor (record old { rooms = with_item old.rooms index new })
      found.investor_is found.row_is before
      (λ n. trail_in_room n at added)
      (λ n differs. record {
        trail = investor_in_room n at added;
        rooms = λ k. other_room (record { investor = n; n = k }) at
            (and_left (at.investor == n) (at.n == k) differs) added;
      })
      (record {
        market_is = found.stands.market_is;
        events_are = found.stands.events_are ∙ ap (λ (l : List InvestorEntry). events_of l)
            (sym (investor_stays at.investor facts more (investor_in_room at.investor at added)));
        state_is = found.stands.state_is ∙ ap desk_of
            (sym (investor_stays at.investor facts more (investor_in_room at.investor at added)));
        notes_are = subst (NotedAs (market_of config at.investor found.row) old.desk.events)
            (sym (investor_stays at.investor facts more (investor_in_room at.investor at added)))
            found.stands.notes_are;
        rooms_are = changed (RoomIs facts at.investor) (RoomIs (facts ++ more) at.investor) 1
            (slots found.row) old.rooms.items index at.n found.slot new found.n_is found.slot_is
            (grown ∙ ap (λ l. of_room at facts ++ l) (sym (own_room at added))
            ∙ sym (room_grown at facts more))
            (λ n slot events differs known. known
            ∙ sym (room_stays (record { investor = at.investor; n = n }) facts more
            (other_room (record { investor = at.investor; n = n }) at
            (and_right (at.investor == at.investor) (at.n == n) differs) added)))
            found.stands.rooms_are;
      })
