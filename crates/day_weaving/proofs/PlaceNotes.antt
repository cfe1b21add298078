-- What is noted of the places where actions stand.
use Rattle.std.proofs.Common.{length, ◌≡◌, ◌<◌, ◌≤◌, ℕ, ◌+◌, ◌-◌, ◌==◌, nat_lt, Bool, true, false}
use Rattle.std.proofs.Common.{◌⊎◌, inl, inr, Option, Some, None, is_some, arith, refl, sym, ap}
use Rattle.std.proofs.Common.{subst, ◌∙◌, eq-eqb}
use Rattle.std.specs.HashMap.{get}
use borrow.Author.Count.{below_more}
use Rattle.std.proofs.lemmas.Option.{slice_get_within}
use Rattle.std.specs.Prelude.{option_and_then, slice_get, List}
use Rattle.std.specs.Option.{option_map}
use Rattle.std.proofs.lemmas.Bool.Decides.{nat_tests}
use Rattle.venue_rows.specs.Rows.{Configuration, has_room, investor_numbered, may_request}
use Rattle.venue_rows.specs.declared.investor_rows.InvestorRow.{InvestorRow}
use Rattle.step_replay.specs.StepFaults.{firms_of}
use Rattle.venue_steps.specs.declared.actors.Actor.{Actor}
use Rattle.venue_steps.specs.declared.actors.Actor.TheVariants as actor
use Rattle.day_weaving.specs.DayForm.{AreMisnamed, AreNamedOnce, HasFirmsOf, IsNamed, NamedNowhere}
use Rattle.day_weaving.specs.DayForm.{NamedTwice}
use Rattle.day_weaving.specs.DayOrder.{StandsAt, order_at}
use Rattle.day_weaving.specs.OrderCounts.{key_of}
use Rattle.day_weaving.specs.OrderPlaces.{AreNoted, AreNotedBy, AreNotedOf, AreTrue, Grow}
use Rattle.day_weaving.specs.OrderPlaces.{IsNotedAt, Places, SetsPlace, Spot, place_in, same_key}
use Rattle.recorded_days.specs.Records.{ActionRef, FirmLists, RecordedDay, RoomLists, action_in}
use Rattle.recorded_days.specs.Records.{actions_of, room_in}
use Rattle.recorded_days.specs.declared.actions.Action.{Action}
use Rattle.day_weaving.specs.declared.sites.Site.{Site}
use Rattle.day_weaving.specs.declared.sites.Site.TheVariants as site
use Rattle.day_weaving.proofs.DayFormLemmas.{action_within}
use Rattle.day_weaving.proofs.NumberedLemmas.{some_is}
use Rattle.day_weaving.proofs.RecordRoomLemmas.{firm_beyond, room_of_firm}

-- Keys.

-- two actors have two keys

pub key_apart : (one other : Actor) → key_of one ≡ key_of other → one ≡ other
key_apart (actor.Firm one) (actor.Firm other) same =
    let equal : one ≡ other = omega arith in
    ap (λ (n : ℕ). actor.Firm n) equal
key_apart (actor.Firm one) actor.Clock same = absurd (omega arith)
key_apart actor.Clock (actor.Firm other) same = absurd (omega arith)
key_apart actor.Clock actor.Clock same = refl

-- two actions are one or have two keys
pub one_or_two : (one other : ActionRef)
    → (one ≡ other) ⊎ (same_key (key_of one.0, one.1) (key_of other.0, other.1) ≡ false)
one_or_two one other = by_actor (key_of one.0 == key_of other.0) refl
  where
    pair_is : (a b : ActionRef) → a.0 ≡ b.0 → a.1 ≡ b.1 → a ≡ b
    pair_is a b first second =
        ap (λ (by : Actor). (by, a.1)) first ∙ ap (λ (n : ℕ). (b.0, n)) second

    by_number : (b : Bool) → (one.1 == other.1) ≡ b → key_of one.0 ≡ key_of other.0
        → (one ≡ other) ⊎ (same_key (key_of one.0, one.1) (key_of other.0, other.1) ≡ false)
    by_number true test keys =
        let numbers : one.1 ≡ other.1 = grind (arith, nat_tests) in
        let actors : one.0 ≡ other.0 = key_apart one.0 other.0 keys in
        inl (pair_is one other actors numbers)
    by_number false test keys =
        let first : (key_of one.0 == key_of other.0) ≡ true = eq-eqb _ _ keys in
        inr (rw (first, test) refl)

    by_actor : (b : Bool) → (key_of one.0 == key_of other.0) ≡ b
        → (one ≡ other) ⊎ (same_key (key_of one.0, one.1) (key_of other.0, other.1) ≡ false)
    by_actor true test =
        let keys : key_of one.0 ≡ key_of other.0 = grind (arith, nat_tests) in
        by_number (one.1 == other.1) refl keys
    by_actor false test = inr (rw test refl)

pub sets_place : (before after : Places) (action : ActionRef) (place : Spot) (key : ℕ)
    → key ≡ key_of action.0 → get same_key after (key, action.1) ≡ Some place
    → ((other : ℕ × ℕ) → same_key (key, action.1) other ≡ false
    → get same_key after other ≡ get same_key before other)
    → SetsPlace before after action place
sets_place before after action place key key_is set others = record {
  set = ap (λ (k : ℕ). get same_key after (k, action.1)) (sym key_is) ∙ set;
  others = λ other differs. by_key other differs (one_or_two action other);
}
  where
    by_key : (other : ActionRef) → (other ≡ action → ⊥) → (action ≡ other)
        ⊎ (same_key (key_of action.0, action.1) (key_of other.0, other.1) ≡ false)
        → place_in after other ≡ place_in before other
    by_key other differs (inl same) = absurd (differs (sym same))
    by_key other differs (inr apart) =
        others (key_of other.0, other.1)
        (ap (λ (k : ℕ). same_key (k, action.1) (key_of other.0, other.1)) key_is ∙ apart)

-- What is noted stays.

-- what was noted of an order stays noted
pub noted_stay : (day : RecordedDay) (before after : Places) (at : Site) → Grow before after
    → AreNoted day before at → AreNoted day after at
noted_stay day before after at grow noted spot action stands =
    let was = noted spot action stands in
    record {
      place_is = grow action (at, spot) was.place_is;
      is_action = was.is_action;
    }

pub firm_stays : (config : Configuration) (day : RecordedDay) (before after : Places) (firm : ℕ)
    → Grow before after → AreNotedOf config day before firm → AreNotedOf config day after firm
firm_stays config day before after firm grow noted = record {
  desk = noted_stay day before after (site.Desk firm) grow noted.desk;
  rooms = λ n has. noted_stay day before after
      (site.Room (record { investor = firm; n = n })) grow (noted.rooms n has);
}

pub grow_twice : (one two three : Places) → Grow one two → Grow two three → Grow one three
grow_twice one two three first then action place is = then action place (first action place is)

-- one place more
pub spots_more : (day : RecordedDay) (before after : Places) (at : Site) (spot : ℕ)
    → Grow before after → IsNotedAt day after at spot
    → ((earlier : ℕ) → earlier < spot → IsNotedAt day before at earlier)
    → (earlier : ℕ) → earlier < spot + 1 → IsNotedAt day after at earlier
spots_more day before after at spot grow now noted =
    below_more (IsNotedAt day after at) spot earlier_ones now
  where
    earlier_ones : (earlier : ℕ) → earlier < spot → IsNotedAt day after at earlier
    earlier_ones earlier under action stands =
        let was = noted earlier under action stands in
        record {
          place_is = grow action (at, earlier) was.place_is;
          is_action = was.is_action;
        }

-- all of an order
pub spots_all : (day : RecordedDay) (places : Places) (at : Site) (order : List ActionRef)
    (up_to : ℕ) → Some order ≡ order_at day at → length order ≤ up_to
    → ((spot : ℕ) → spot < up_to → IsNotedAt day places at spot) → AreNoted day places at
spots_all day places at order up_to is ended noted spot action stands =
    let there : slice_get order spot ≡ Some action =
    ap (λ (found : Option (List ActionRef)). option_and_then
    (λ (list : List ActionRef). slice_get list spot) found) is ∙ stands in
    let inside : spot < length order = slice_get_within order spot action there in
    let below : spot < up_to = omega arith in
    noted spot below action stands

-- one room more of an investor, and all
pub rooms_more : (day : RecordedDay) (before after : Places) (investor index : ℕ)
    → Grow before after
    → AreNoted day after (site.Room (record { investor = investor; n = index + 1 }))
    → ((n : ℕ) → n < index
    → AreNoted day before (site.Room (record { investor = investor; n = n + 1 })))
    → (n : ℕ) → n < index + 1
    → AreNoted day after (site.Room (record { investor = investor; n = n + 1 }))
rooms_more day before after investor index grow now noted =
    below_more (λ (n : ℕ). AreNoted day after (site.Room (record { investor = investor; n = n + 1 })))
    index
    (λ n under. noted_stay day before after (site.Room (record { investor = investor; n = n + 1 }))
    grow (noted n under))
    now

-- a dealer has no rooms
pub desk_alone : (config : Configuration) (day : RecordedDay) (places : Places) (firm : ℕ)
    → AreNoted day places (site.Desk firm) → None ≡ investor_numbered config firm
    → AreNotedOf config day places firm
desk_alone config day places firm noted none = record {
  desk = noted;
  rooms = λ n has. absurd (never n has);
}
  where
    never : (n : ℕ) → has_room config firm n ≡ true → ⊥
    never n has =
        let clash : false ≡ true =
        ap (λ (row : Option InvestorRow). may_request row n) none ∙ has in
        absurd cc

pub with_rooms : (config : Configuration) (day : RecordedDay) (before after : Places) (firm : ℕ)
    (row : InvestorRow) → AreNoted day before (site.Desk firm) → Grow before after
    → Some row ≡ investor_numbered config firm
    → ((n : ℕ) → n < row.requests
    → AreNoted day after (site.Room (record { investor = firm; n = n + 1 })))
    → AreNotedOf config day after firm
with_rooms config day before after firm row noted grow is rooms = record {
  desk = noted_stay day before after (site.Desk firm) grow noted;
  rooms = λ n has. room n has;
}
  where
    room : (n : ℕ) → has_room config firm n ≡ true
        → AreNoted day after (site.Room (record { investor = firm; n = n }))
    room n has =
        let found = room_of_firm config firm n has in
        let both : Some row ≡ Some found.0 = is ∙ found.1 in
        let same : found.0 ≡ row = cc in
        let most : n ≤ row.requests =
        subst (λ (one : InvestorRow). n ≤ one.requests) same found.4 in
        let least : 0 < n = found.3 in
        let within : n - 1 < row.requests = omega arith in
        let number : (n - 1) + 1 ≡ n = omega arith in
        subst (λ (k : ℕ). AreNoted day after (site.Room (record { investor = firm; n = k })))
        number (rooms (n - 1) within)

-- one firm more
pub firms_more : (config : Configuration) (day : RecordedDay) (before after : Places) (firm : ℕ)
    → Grow before after → AreNotedOf config day after firm
    → ((earlier : ℕ) → earlier < firm → AreNotedOf config day before earlier)
    → (earlier : ℕ) → earlier < firm + 1 → AreNotedOf config day after earlier
firms_more config day before after firm grow now noted =
    below_more (AreNotedOf config day after) firm
    (λ earlier under. firm_stays config day before after earlier grow (noted earlier under)) now

-- all actions of an actor
pub by_numbers : (day : RecordedDay) (places : Places) (by : Actor) (actions : List Action)
    (up_to : ℕ) → actions_of day by ≡ Some actions → length actions ≤ up_to
    → ((n : ℕ) → n < up_to → is_some (place_in places (by, n + 1)) ≡ true)
    → AreNotedBy day places by
by_numbers day places by actions up_to are ended noted number is =
    let found = action_within day by number is in
    let both : Some found.0 ≡ Some actions = sym found.1 ∙ are in
    let same : found.0 ≡ actions = cc in
    let most : number ≤ length actions =
    subst (λ (list : List Action). number ≤ length list) same found.3 in
    let least : 0 < number = found.2 in
    let below : number - 1 < up_to = omega arith in
    let back : (number - 1) + 1 ≡ number = omega arith in
    subst (λ (k : ℕ). is_some (place_in places (by, k)) ≡ true) back (noted (number - 1) below)

-- nothing stands where there is no order
pub none_stands : (day : RecordedDay) (places : Places) (at : Site) → order_at day at ≡ None
    → AreNoted day places at
none_stands day places at none spot action stands =
    let clash : None ≡ Some action =
    sym (ap (λ (order : Option (List ActionRef)). option_and_then
    (λ (there : List ActionRef). slice_get there spot) order) none) ∙ stands in
    cc

-- all desks and rooms
pub all_noted : (config : Configuration) (day : RecordedDay) (places : Places)
    → HasFirmsOf config day
    → ((firm : ℕ) → firm < firms_of config → AreNotedOf config day places firm)
    → (at : Site) → AreNoted day places at
all_noted config day places has noted (site.Desk firm) = by_test (nat_lt firm (firms_of config)) refl
  where
    by_test : (b : Bool) → nat_lt firm (firms_of config) ≡ b
        → AreNoted day places (site.Desk firm)
    by_test true test =
        let within : firm < firms_of config = grind (arith, nat_tests) in
        (noted firm within).desk
    by_test false test =
        let beyond : firms_of config ≤ firm = grind (arith, nat_tests) in
        none_stands day places (site.Desk firm)
        (ap (option_map (λ (lists : FirmLists). lists.order)) (firm_beyond config day has firm beyond))
all_noted config day places has noted (site.Room room) = by_room (room_in day room) refl
  where
    by_room : (found : Option RoomLists) → room_in day room ≡ found
        → AreNoted day places (site.Room room)
    by_room None none =
        none_stands day places (site.Room room)
        (ap (option_map (λ (lists : RoomLists). lists.order)) none)
    by_room (Some lists) is =
        let known = has.rooms room (ap is_some is) in
        let within = (room_of_firm config room.investor room.n known).2 in
        (noted room.investor within).rooms room.n known

-- each action once
pub are_named_once : (day : RecordedDay) (places : Places) → AreTrue day places
    → ((at : Site) → AreNoted day places at) → ((by : Actor) → AreNotedBy day places by)
    → AreNamedOnce day
are_named_once day places stand noted all = record {
  each = λ action is.
      let there = some_is (place_in places action) (all action.0 action.1 is) in
      record { at = there.0.0; spot = there.0.1; stands = stand action there.0 there.1 };
  once = λ action at other spot other_spot one two. same_spot at other spot other_spot
      (place_in places action) (noted at spot action one).place_is
      (noted other other_spot action two).place_is;
  nothing_else = λ action at spot stands. (noted at spot action stands).is_action;
}
  where
    same_spot : (at other : Site) (spot other_spot : ℕ) (found : Option Spot)
        → found ≡ Some (at, spot) → found ≡ Some (other, other_spot)
        → (at ≡ other) × (spot ≡ other_spot)
    same_spot at other spot other_spot found one two =
        let first : Spot = (at, spot) in
        let second : Spot = (other, other_spot) in
        let both : Some first ≡ Some second = sym one ∙ two in
        let pair : first ≡ second = cc in
        (ap (λ (place : Spot). place.0) pair, ap (λ (place : Spot). place.1) pair)

pub named_twice : (day : RecordedDay) (places : Places) (action : ActionRef) (one place : Spot)
    → AreTrue day places → Some one ≡ place_in places action
    → StandsAt day place.0 place.1 action → ((one.0 ≡ place.0) × (one.1 ≡ place.1) → ⊥)
    → AreMisnamed day
named_twice day places action one place stand is stands differs =
    NamedTwice action one.0 place.0 one.1 place.1 (stand action one (sym is)) stands differs

pub named_nowhere : (day : RecordedDay) (places : Places) (action : ActionRef)
    → ((at : Site) → AreNoted day places at) → is_some (action_in day action) ≡ true
    → place_in places action ≡ None → AreMisnamed day
named_nowhere day places action noted is none = NamedNowhere action is never
  where
    never : IsNamed day action → ⊥
    never named =
        let spot : Spot = (named.at, named.spot) in
        let clash : None ≡ Some spot =
        sym none ∙ (noted named.at named.spot action named.stands).place_is in
        absurd cc
