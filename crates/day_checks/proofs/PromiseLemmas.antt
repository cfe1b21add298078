-- The checks of a day decide what it promises: each finds no fault exactly where the promise is kept.
use Rattle.std.proofs.Common.{◌≡◌, refl, ◌∙◌, sym, ap, subst, ℕ, ◌+◌, Bool, true, false, ◌&&◌, ◌==◌}
use Rattle.std.proofs.Common.{List, [], ◌∷◌, length, count_by, Option, Some, None, is_some}
use Rattle.std.proofs.Common.{if◌then◌else◌, arith}
use Rattle.std.proofs.lemmas.Bool.{and_parts}
use Rattle.std.proofs.lemmas.List.Sums.{sum_by-cons}
use Rattle.std.proofs.lemmas.Slice.Eq.{bytes_eq-Decides}
use Rattle.std.specs.List.{list_all, list_any}
use Rattle.std.specs.Str.{bytes_eq}
use Rattle.bond_prices.specs.Band.{same_band}
use Rattle.bond_prices.specs.declared.band.Band.{Band}
use Rattle.dealer_desk.specs.declared.events.DealerEvent.{DealerEvent}
use Rattle.dealer_desk.specs.declared.events.DealerEvent.TheVariants as at_dealer
use Rattle.market_terms.specs.Codes.{close_code, side_code}
use Rattle.market_terms.specs.Rooms.{is_same_room}
use Rattle.market_terms.specs.declared.asks.Ask.{Ask}
use Rattle.market_terms.specs.declared.asks.Side.{Side}
use Rattle.market_terms.specs.declared.asks.Side.TheVariants.{Buy, Sell}
use Rattle.market_terms.specs.declared.closes.Close.{Close}
use Rattle.market_terms.specs.declared.closes.Close.TheVariants as closes
use Rattle.market_terms.specs.declared.rooms.RoomRef.{RoomRef}
use Rattle.request_room.specs.Book.{room_after}
use Rattle.request_room.specs.RoomFacts.{names, request_of}
use Rattle.request_room.specs.declared.requests.RoomRequest.{RoomRequest}
use Rattle.step_replay.specs.EachLemmas.{every_weaker}
use Rattle.step_replay.specs.Lists.{Every}
use Rattle.recorded_days.specs.Records.{DealerLists}
use Rattle.day_checks.specs.DayChecks.{DayRoom, close_due, is_of}
use Rattle.day_checks.specs.DayChecks.{is_settled, is_told, notices_told, owes, says}
use Rattle.day_checks.specs.DayChecks.{untold_from}
use Rattle.day_checks.specs.DayPromises.{EachNumbered, IsOfEnded, IsOnly, IsShownOnce}
use Rattle.day_checks.specs.DayPromises.{IsToldOnce, WasShown}
use Rattle.day_checks.specs.DayPromises.{WasTold}
use Rattle.day_checks.specs.ShownRequests.{ask_due, ask_for, ask_shown, is_ask}
use Rattle.day_checks.specs.ShownRequests.{is_asked, is_shown, is_shown_where, is_showing}
use Rattle.day_checks.specs.ShownRequests.{same_ask, shows, shows_room, unshown_from}
use Rattle.day_checks.specs.declared.notices.Notice.{Notice}
use Rattle.day_checks.proofs.ActionWalks.{both_true, every_passes, passes_each}
use Rattle.day_checks.proofs.OnceLemmas.{AreApart, no_fewer, none_other, only_is_counted}
use Rattle.day_checks.proofs.OnceLemmas.{only_is_said, only_one}
use Rattle.day_checks.proofs.RoomsApart.{is_room_named, number_itself, room_itself, room_same}
use Rattle.day_checks.proofs.SweptLemmas.{number_same}

-- the end that a code names
abbrev close_of : ℕ → Close
close_of n = if n == 1 then closes.Hit else if n == 3 then closes.Expired else if n == 4
    then closes.Cover else if n == 5 then closes.DoneAway else closes.Pass

close_back : (close : Close) → close_of (close_code close) ≡ close
close_back closes.Hit = refl
close_back closes.Expired = refl
close_back closes.Cover = refl
close_back closes.DoneAway = refl
close_back closes.Pass = refl

close_same : (one other : Close) → (close_code one == close_code other) ≡ true → one ≡ other
close_same one other e = sym (close_back one)
    ∙ ap close_of (number_same (close_code one) (close_code other) e) ∙ close_back other

side_same : (one other : Side) → (side_code one == side_code other) ≡ true → one ≡ other
side_same Buy Buy e = refl
side_same Buy Sell e = cc
side_same Sell Buy e = cc
side_same Sell Sell e = refl

pub text_same : (one other : List ℕ) → bytes_eq one other ≡ true → one ≡ other
text_same one other e = (bytes_eq-Decides one other).0 e

text_itself : (text : List ℕ) → bytes_eq text text ≡ true
text_itself text = (bytes_eq-Decides text text).1 refl

band_same : (one other : Band) → same_band one other ≡ true → one ≡ other
band_same one other e =
    let ends = and_parts (one.low == other.low) (one.high == other.high) e in
    let low = number_same one.low other.low ends.0 in
    let high = number_same one.high other.high ends.1 in
    rw (low, high) refl

band_itself : (band : Band) → same_band band band ≡ true
band_itself band =
    both_true (band.low == band.low) (band.high == band.high) (number_itself band.low)
    (number_itself band.high)

-- requests that ask for the same are equal
ask_same : (one other : Ask) → same_ask one other ≡ true → other ≡ one
unfolding same_ask
ask_same one other e =
    let upto_grid = and_parts (bytes_eq one.investor other.investor
    && bytes_eq one.bond other.bond && (side_code one.side == side_code other.side)
    && (one.quantity == other.quantity) && (one.deadline == other.deadline)
    && (one.grid == other.grid)) (same_band one.band other.band) e in
    let upto_deadline = and_parts (bytes_eq one.investor other.investor
    && bytes_eq one.bond other.bond && (side_code one.side == side_code other.side)
    && (one.quantity == other.quantity) && (one.deadline == other.deadline))
    (one.grid == other.grid) upto_grid.0 in
    let upto_quantity = and_parts (bytes_eq one.investor other.investor
    && bytes_eq one.bond other.bond && (side_code one.side == side_code other.side)
    && (one.quantity == other.quantity)) (one.deadline == other.deadline) upto_deadline.0 in
    let upto_side = and_parts (bytes_eq one.investor other.investor
    && bytes_eq one.bond other.bond && (side_code one.side == side_code other.side))
    (one.quantity == other.quantity) upto_quantity.0 in
    let upto_bond = and_parts (bytes_eq one.investor other.investor
    && bytes_eq one.bond other.bond) (side_code one.side == side_code other.side) upto_side.0 in
    let texts = and_parts (bytes_eq one.investor other.investor) (bytes_eq one.bond other.bond)
    upto_bond.0 in
    let investor = text_same one.investor other.investor texts.0 in
    let bond = text_same one.bond other.bond texts.1 in
    let side = side_same one.side other.side upto_bond.1 in
    let quantity = number_same one.quantity other.quantity upto_side.1 in
    let deadline = number_same one.deadline other.deadline upto_quantity.1 in
    let grid = number_same one.grid other.grid upto_deadline.1 in
    let band = band_same one.band other.band upto_grid.1 in
    sym (rw (investor, bond, side, quantity, deadline, grid, band) refl)

ask_itself : (ask : Ask) → same_ask ask ask ≡ true
unfolding same_ask
ask_itself ask =
    both_true (bytes_eq ask.investor ask.investor && bytes_eq ask.bond ask.bond
    && (side_code ask.side == side_code ask.side) && (ask.quantity == ask.quantity)
    && (ask.deadline == ask.deadline) && (ask.grid == ask.grid)) (same_band ask.band ask.band)
    (both_true (bytes_eq ask.investor ask.investor && bytes_eq ask.bond ask.bond
    && (side_code ask.side == side_code ask.side) && (ask.quantity == ask.quantity)
    && (ask.deadline == ask.deadline)) (ask.grid == ask.grid)
    (both_true (bytes_eq ask.investor ask.investor && bytes_eq ask.bond ask.bond
    && (side_code ask.side == side_code ask.side) && (ask.quantity == ask.quantity))
    (ask.deadline == ask.deadline)
    (both_true (bytes_eq ask.investor ask.investor && bytes_eq ask.bond ask.bond
    && (side_code ask.side == side_code ask.side)) (ask.quantity == ask.quantity)
    (both_true (bytes_eq ask.investor ask.investor && bytes_eq ask.bond ask.bond)
    (side_code ask.side == side_code ask.side)
    (both_true (bytes_eq ask.investor ask.investor) (bytes_eq ask.bond ask.bond)
    (text_itself ask.investor) (text_itself ask.bond)) (number_itself (side_code ask.side)))
    (number_itself ask.quantity)) (number_itself ask.deadline)) (number_itself ask.grid))
    (band_itself ask.band)

-- where numbers are counted to be the same
count_same : (m n : ℕ) → m ≡ n → (m == n) ≡ true
count_same m n e = ap (λ k. k == n) e ∙ number_itself n

-- all items of a list are counted
all_counted : {A : Type 0} (items : List A) → count_by (λ (item : A). true) items ≡ length items
all_counted [] = refl
all_counted {A} (item ∷ later) =
    let rest : count_by (λ (other : A). true) later ≡ length later = all_counted later in
    let first = sum_by-cons (λ (other : A). 1) item later in
    omega (arith, rest, first)

-- Notices.

-- a notice that says how a room ended is this one
notice_said : (room : RoomRef) (close : Close) (notice : Notice) → says room close notice ≡ true
    → notice ≡ record { room = Some room; close = close }
notice_said room close notice e =
    let both = and_parts (is_of room notice) (close_code notice.close == close_code close) e in
    let named = is_room_named room notice.room both.0 in
    let how = close_same notice.close close both.1 in
    ap (λ named. let own : Notice = record { room = named; close = notice.close } in own) named
    ∙ ap (λ how. let own : Notice = record { room = Some room; close = how } in own) how

notice_says : (room : RoomRef) (close : Close)
    → says room close (record { room = Some room; close = close }) ≡ true
notice_says room close = both_true (is_same_room room room) (close_code close == close_code close)
    (room_itself room) (number_itself (close_code close))

says_of : (room : RoomRef) (close : Close) (notice : Notice) → says room close notice ≡ true
    → is_of room notice ≡ true
says_of room close notice e =
    (and_parts (is_of room notice) (close_code notice.close == close_code close) e).0

told_once : (notices : List Notice) (room : RoomRef) (due : Option Close)
    → is_settled notices room due ≡ true → IsToldOnce notices room due
told_once notices room None e = tt
told_once notices room (Some close) e =
    let both = and_parts (count_by (is_of room) notices == 1) (list_any (says room close) notices)
    e in
    let own = only_one (is_of room) (says room close) (says_of room close) notices
    (number_same (count_by (is_of room) notices) 1 both.0) both.1 in
    subst (λ notice. IsOnly (is_of room) notice notices) (notice_said room close own.item own.said)
    own.only

settled_once : (notices : List Notice) (room : RoomRef) (due : Option Close)
    → IsToldOnce notices room due → is_settled notices room due ≡ true
settled_once notices room None e = refl
settled_once notices room (Some close) e =
    let notice : Notice = record { room = Some room; close = close } in
    both_true (count_by (is_of room) notices == 1) (list_any (says room close) notices)
    (count_same (count_by (is_of room) notices) 1
    (only_is_counted (is_of room) notice notices e))
    (only_is_said (is_of room) (says room close) notice notices e (notice_says room close))

-- what is due of a room was told once
due_once : (notices : List Notice) (room : RoomRef) (due : Option Close)
    → IsToldOnce notices room due → is_some due ≡ true → count_by (is_of room) notices ≡ 1
due_once notices room None e some = cc
due_once notices room (Some close) e some =
    only_is_counted (is_of room) (record { room = Some room; close = close }) notices e

module _ (rooms : List DayRoom)
    (apart : AreApart (λ (room : DayRoom) (notice : Notice). is_of room.at notice) rooms)
    (number : ℕ) (notices : List Notice) where
  -- each room of which something is due was told once
  dues_once : Every (λ (room : DayRoom). IsToldOnce notices room.at (close_due number room)) rooms
      → Every (λ (room : DayRoom). owes number room ≡ true
      → count_by (is_of room.at) notices ≡ 1) rooms
  dues_once each = every_weaker
      (λ (room : DayRoom). IsToldOnce notices room.at (close_due number room))
      (λ (room : DayRoom). owes number room ≡ true → count_by (is_of room.at) notices ≡ 1)
      (λ room e. due_once notices room.at (close_due number room) e) rooms each

  none_more : Every (λ (room : DayRoom). IsToldOnce notices room.at (close_due number room)) rooms
      → length notices ≡ count_by (owes number) rooms → Every (IsOfEnded rooms number) notices
  none_more each many =
      every_weaker (λ (notice : Notice). true ≡ true → IsOfEnded rooms number notice)
      (IsOfEnded rooms number) (λ notice so. so refl) notices
      (none_other (λ (room : DayRoom) (notice : Notice). is_of room.at notice) (owes number)
      (λ (notice : Notice). true) (λ room notice is. refl) rooms notices apart (dues_once each)
      (all_counted notices ∙ many))

  as_many_told : Every (λ (room : DayRoom).
      IsToldOnce notices room.at (close_due number room)) rooms
      → Every (IsOfEnded rooms number) notices
      → length notices ≡ count_by (owes number) rooms
  as_many_told each none =
      sym (all_counted notices)
      ∙ no_fewer (λ (room : DayRoom) (notice : Notice). is_of room.at notice) (owes number)
      (λ (notice : Notice). true) (λ room notice is. refl) rooms notices apart (dues_once each)
      (every_weaker (IsOfEnded rooms number)
      (λ (notice : Notice). true ≡ true → IsOfEnded rooms number notice)
      (λ notice so is. so) notices none)

module _ (rooms : List DayRoom)
    (apart : AreApart (λ (room : DayRoom) (notice : Notice). is_of room.at notice) rooms) where
  told_so : (number : ℕ) (dealer : DealerLists) → is_told rooms number dealer.events ≡ true
      → WasTold rooms number dealer
  told_so number dealer e =
      let notices = notices_told dealer.events in
      let both = and_parts (length notices == count_by (owes number) rooms)
      (list_all (λ (room : DayRoom). is_settled notices room.at (close_due number room)) rooms) e in
      let each = every_passes
      (λ (room : DayRoom). is_settled notices room.at (close_due number room))
      (λ (room : DayRoom). IsToldOnce notices room.at (close_due number room))
      (λ room. told_once notices room.at (close_due number room)) rooms both.1 in
      record {
        each_once = each;
        no_other = none_more rooms apart number notices each
            (number_same (length notices) (count_by (owes number) rooms) both.0);
      }

  so_told : (number : ℕ) (dealer : DealerLists) → WasTold rooms number dealer
      → is_told rooms number dealer.events ≡ true
  so_told number dealer e =
      let notices = notices_told dealer.events in
      both_true (length notices == count_by (owes number) rooms)
      (list_all (λ (room : DayRoom). is_settled notices room.at (close_due number room)) rooms)
      (count_same (length notices) (count_by (owes number) rooms)
      (as_many_told rooms apart number notices e.each_once e.no_other))
      (passes_each (λ (room : DayRoom). is_settled notices room.at (close_due number room))
      (λ (room : DayRoom). IsToldOnce notices room.at (close_due number room))
      (λ room. settled_once notices room.at (close_due number room)) rooms e.each_once)

  told_first : (number : ℕ) (later : List DealerLists) (told : Bool)
      → (if told then untold_from rooms (number + 1) later else Some number) ≡ None
      → (told ≡ true) × (untold_from rooms (number + 1) later ≡ None)
  told_first number later true e = (refl, e)
  told_first number later false e = cc

  -- where the search finds no dealer, each was told
  pub each_told : (number : ℕ) (dealers : List DealerLists)
      → untold_from rooms number dealers ≡ None → EachNumbered (WasTold rooms) number dealers
  each_told number [] e = tt
  each_told number (dealer ∷ later) e =
      let both = told_first number later (is_told rooms number dealer.events) e in
      (told_so number dealer both.0, each_told (number + 1) later both.1)

  -- and where each was told, it finds none
  pub none_untold : (number : ℕ) (dealers : List DealerLists)
      → EachNumbered (WasTold rooms) number dealers → untold_from rooms number dealers ≡ None
  none_untold number [] e = refl
  none_untold number (dealer ∷ later) e =
      ap (λ told. if told then untold_from rooms (number + 1) later else Some number)
      (so_told number dealer e.0)
      ∙ none_untold (number + 1) later e.1

-- Requests shown.

shown_so : (room : RoomRef) (ask : Ask) (event : DealerEvent) → shows room ask event ≡ true
    → (moment : ℕ) × (event ≡ at_dealer.Shown room ask moment)
shown_so room ask (at_dealer.Shown at own moment) e =
    let both = and_parts (is_same_room room at) (same_ask ask own) e in (
      moment,
      ap (λ named. at_dealer.Shown named own moment) (room_same room at both.0)
          ∙ ap (λ asked. at_dealer.Shown room asked moment) (ask_same ask own both.1),
    )
shown_so room ask (at_dealer.Received moment message settlement) e = cc
shown_so room ask (at_dealer.Told request close moment) e = cc
shown_so room ask (at_dealer.Drop last moment settlement) e = cc

shows_of : (room : RoomRef) (ask : Ask) (event : DealerEvent) → shows room ask event ≡ true
    → shows_room room event ≡ true
shows_of room ask event e = (and_parts (shows_room room event) (is_ask ask (ask_shown event)) e).0

shows_itself : (room : RoomRef) (ask : Ask) (moment : ℕ)
    → shows room ask (at_dealer.Shown room ask moment) ≡ true
shows_itself room ask moment = both_true (is_same_room room room) (same_ask ask ask)
    (room_itself room) (ask_itself ask)

shown_once : (events : List DealerEvent) (room : RoomRef) (due : Option Ask)
    → is_shown_where events room due ≡ true → IsShownOnce events room due
shown_once events room None e = tt
shown_once events room (Some ask) e =
    let both = and_parts (count_by (shows_room room) events == 1)
    (list_any (shows room ask) events) e in
    let own = only_one (shows_room room) (shows room ask) (shows_of room ask) events
    (number_same (count_by (shows_room room) events) 1 both.0) both.1 in
    let said = shown_so room ask own.item own.said in
    record {
      moment = said.0;
      only = subst (λ event. IsOnly (shows_room room) event events) said.1 own.only;
    }

once_shown : (events : List DealerEvent) (room : RoomRef) (due : Option Ask)
    → IsShownOnce events room due → is_shown_where events room due ≡ true
once_shown events room None e = refl
once_shown events room (Some ask) e =
    let event = at_dealer.Shown room ask e.moment in
    both_true (count_by (shows_room room) events == 1) (list_any (shows room ask) events)
    (count_same (count_by (shows_room room) events) 1
    (only_is_counted (shows_room room) event events e.only))
    (only_is_said (shows_room room) (shows room ask) event events e.only
    (shows_itself room ask e.moment))

ask_once : (events : List DealerEvent) (room : RoomRef) (due : Option Ask)
    → IsShownOnce events room due → is_some due ≡ true → count_by (shows_room room) events ≡ 1
ask_once events room None e some = cc
ask_once events room (Some ask) e some =
    only_is_counted (shows_room room) (at_dealer.Shown room ask e.moment) events e.only

-- where a request names a dealer, it is to be shown it
named_some : (named : Bool) (ask : Ask) → named ≡ true
    → is_some (if named then Some ask else None) ≡ true
named_some true ask e = refl
named_some false ask e = cc

asked_some : (dealer : ℕ) (request : Option RoomRequest) → names request dealer ≡ true
    → is_some (ask_for dealer request) ≡ true
asked_some dealer None e = cc
asked_some dealer (Some request) e = named_some (names (Some request) dealer) request.ask e

-- an event that shows the request of a room shows one
showing_some : (room : RoomRef) (event : DealerEvent) → shows_room room event ≡ true
    → is_showing event ≡ true
showing_some room (at_dealer.Shown at own moment) e = refl
showing_some room (at_dealer.Received moment message settlement) e = cc
showing_some room (at_dealer.Told request close moment) e = cc
showing_some room (at_dealer.Drop last moment settlement) e = cc

module _ (rooms : List DayRoom)
    (apart : AreApart (λ (room : DayRoom) (event : DealerEvent). shows_room room.at event) rooms)
  where
    asks_once : (number : ℕ) (events : List DealerEvent)
        → Every (λ (room : DayRoom). IsShownOnce events room.at (ask_due number room)) rooms
        → Every (λ (room : DayRoom). is_asked number room ≡ true
        → count_by (shows_room room.at) events ≡ 1) rooms
    asks_once number events each = every_weaker
        (λ (room : DayRoom). IsShownOnce events room.at (ask_due number room))
        (λ (room : DayRoom). is_asked number room ≡ true
        → count_by (shows_room room.at) events ≡ 1)
        (λ room e asked. ask_once events room.at (ask_due number room) e
        (asked_some number (request_of (room_after room.day.events)) asked)) rooms each

    shown_all : (number : ℕ) (dealer : DealerLists) → is_shown rooms number dealer.events ≡ true
        → WasShown rooms number dealer
    shown_all number dealer e =
        let events = dealer.events in
        let both = and_parts (count_by is_showing events == count_by (is_asked number) rooms)
        (list_all (λ (room : DayRoom). is_shown_where events room.at (ask_due number room)) rooms) e in
        let each = every_passes
        (λ (room : DayRoom). is_shown_where events room.at (ask_due number room))
        (λ (room : DayRoom). IsShownOnce events room.at (ask_due number room))
        (λ room. shown_once events room.at (ask_due number room)) rooms both.1 in
        record {
          each_once = each;
          no_other = none_other
              (λ (room : DayRoom) (event : DealerEvent). shows_room room.at event) (is_asked number)
              is_showing (λ room event is. showing_some room.at event is) rooms events apart
              (asks_once number events each)
              (number_same (count_by is_showing events) (count_by (is_asked number) rooms) both.0);
        }

    all_shown : (number : ℕ) (dealer : DealerLists) → WasShown rooms number dealer
        → is_shown rooms number dealer.events ≡ true
    all_shown number dealer e =
        let events = dealer.events in
        both_true (count_by is_showing events == count_by (is_asked number) rooms)
        (list_all (λ (room : DayRoom). is_shown_where events room.at (ask_due number room)) rooms)
        (count_same (count_by is_showing events) (count_by (is_asked number) rooms)
        (no_fewer (λ (room : DayRoom) (event : DealerEvent). shows_room room.at event)
        (is_asked number) is_showing (λ room event is. showing_some room.at event is) rooms events
        apart (asks_once number events e.each_once) e.no_other))
        (passes_each (λ (room : DayRoom). is_shown_where events room.at (ask_due number room))
        (λ (room : DayRoom). IsShownOnce events room.at (ask_due number room))
        (λ room. once_shown events room.at (ask_due number room)) rooms e.each_once)

    shown_first : (number : ℕ) (later : List DealerLists) (shown : Bool)
        → (if shown then unshown_from rooms (number + 1) later else Some number) ≡ None
        → (shown ≡ true) × (unshown_from rooms (number + 1) later ≡ None)
    shown_first number later true e = (refl, e)
    shown_first number later false e = cc

    -- where the search finds no dealer, each was shown what names it
    pub each_shown : (number : ℕ) (dealers : List DealerLists)
        → unshown_from rooms number dealers ≡ None → EachNumbered (WasShown rooms) number dealers
    each_shown number [] e = tt
    each_shown number (dealer ∷ later) e =
        let both = shown_first number later (is_shown rooms number dealer.events) e in
        (shown_all number dealer both.0, each_shown (number + 1) later both.1)

    -- and where each was, it finds none
    pub none_unshown : (number : ℕ) (dealers : List DealerLists)
        → EachNumbered (WasShown rooms) number dealers → unshown_from rooms number dealers ≡ None
    none_unshown number [] e = refl
    none_unshown number (dealer ∷ later) e =
        ap (λ shown. if shown then unshown_from rooms (number + 1) later else Some number)
        (all_shown number dealer e.0)
        ∙ none_unshown (number + 1) later e.1
