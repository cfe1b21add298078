-- Requests that a dealer was shown, put under their rooms one after the other.
use Rattle.std.proofs.Common.{◌≡◌, refl, ◌∙◌, sym, ap, ℕ, ◌+◌, Bool, true, false, ◌&&◌, ◌||◌, ◌==◌}
use Rattle.std.proofs.Common.{cond, if◌then◌else◌, List, [], ◌∷◌, count_by, Option, Some, None}
use Rattle.std.proofs.Common.{arith}
use Rattle.std.proofs.lemmas.Bool.Decides.{nat_tests}
use Rattle.std.proofs.lemmas.List.Sums.{sum_by-cons}
use Rattle.std.specs.List.{list_any}
use Rattle.dealer_desk.specs.declared.events.DealerEvent.{DealerEvent}
use Rattle.dealer_desk.specs.declared.events.DealerEvent.TheVariants as at_dealer
use Rattle.market_terms.specs.declared.asks.Ask.{Ask}
use Rattle.market_terms.specs.declared.rooms.RoomRef.{RoomRef}
use Rattle.market_terms.specs.Rooms.{is_same_room}
use Rattle.day_checks.specs.ShownRequests.{ask_shown, is_ask, is_shown_once, same_ask, shows}
use Rattle.day_checks.specs.ShownRequests.{shows_room}
use Rattle.day_checks.specs.ShownRooms.{is_once_with, shown_after, shown_more}
use Rattle.day_checks.specs.declared.shown_rooms.Shown.{Shown}
use Rattle.day_checks.specs.declared.shown_rooms.Shown.TheVariants as shown
use Rattle.day_checks.proofs.ToldLemmas.{first_told, none_behind}

-- how many events show the request of a room, the first one apart
counted : (room : RoomRef) (event : DealerEvent) (later : List DealerEvent)
    → count_by (shows_room room) (event ∷ later)
    ≡ cond (shows_room room event) 1 0 + count_by (shows_room room) later
counted room event later = sum_by-cons (λ (e : DealerEvent). cond (shows_room room e) 1 0) event later

-- of events none of which shows the request of a room, none shows it so
none_shows : (room : RoomRef) (ask : Ask) (events : List DealerEvent)
    → count_by (shows_room room) events ≡ 0 → list_any (shows room ask) events ≡ false
none_shows room ask [] none = refl
none_shows room ask (event ∷ later) none =
    none_behind (count_by (shows_room room) later) (is_ask ask (ask_shown event))
    (list_any (shows room ask) later) (shows_room room event)
    (sym (counted room event later) ∙ none) (none_shows room ask later)

-- Events that show a request.

module _ (at : RoomRef) (own : Ask) (moment : ℕ) (later : List DealerEvent) (room : RoomRef)
    (ask : Ask) where
  -- the event
  abbrev showing : DealerEvent
  showing = at_dealer.Shown at own moment

  -- how many show the request of the room behind it, whether it is the one that is asked for, and
  -- whether one behind it shows it so
  abbrev c : ℕ
  c = count_by (shows_room room) later

  abbrev code : Bool
  code = same_ask ask own

  abbrev any : Bool
  any = list_any (shows room ask) later

  -- a request of a room of which none was shown
  first_here : (of : Bool) → is_same_room room at ≡ of
      → is_once_with (if of then Some (shown_more false own) else None) later room ask
      ≡ is_shown_once (showing ∷ later) room ask
  first_here true is =
      first_told c code any (none_shows room ask later) (c == 0) refl
      ∙ sym (ap (λ of. (cond of 1 0 + c == 1) && ((of && code) || any)) is)
      ∙ sym (ap (λ n. (n == 1) && ((is_same_room room at && code) || any)) (counted room showing later))
  first_here false is =
      let same : c ≡ 0 + c = omega arith in
      ap (λ n. (n == 1) && any) same
      ∙ sym (ap (λ of. (cond of 1 0 + c == 1) && ((of && code) || any)) is)
      ∙ sym (ap (λ n. (n == 1) && ((is_same_room room at && code) || any)) (counted room showing later))

  -- a request of a room of which one was shown
  second_here : (said : Ask) (of : Bool) → is_same_room room at ≡ of
      → is_once_with (if of then Some (shown_more true own) else Some (shown.Once said)) later room
      ask ≡ is_once_with (Some (shown.Once said)) (showing ∷ later) room ask
  second_here said true is =
      let is_said = same_ask ask said in
      let no : (1 + c == 0) ≡ false = grind (arith, nat_tests) in
      sym (ap (λ b. b && is_said) no) ∙ sym (ap (λ of. (cond of 1 0 + c == 0) && is_said) is)
      ∙ sym (ap (λ n. (n == 0) && is_said) (counted room showing later))
  second_here said false is =
      let is_said = same_ask ask said in
      let same : c ≡ 0 + c = omega arith in
      ap (λ n. (n == 0) && is_said) same
      ∙ sym (ap (λ of. (cond of 1 0 + c == 0) && is_said) is)
      ∙ sym (ap (λ n. (n == 0) && is_said) (counted room showing later))

  -- one of a room of which more were shown
  often_here : (of : Bool)
      → is_once_with (if of then Some (shown_more true own) else Some shown.Often) later room ask
      ≡ false
  often_here true = refl
  often_here false = refl

-- Other events.

-- an event that shows nothing of a room is not counted
uncounted : (event : DealerEvent) (later : List DealerEvent) (room : RoomRef)
    → shows_room room event ≡ false
    → count_by (shows_room room) later ≡ count_by (shows_room room) (event ∷ later)
uncounted event later room is =
    let c = count_by (shows_room room) later in
    let same : c ≡ 0 + c = omega arith in
    same ∙ sym (ap (λ of. cond of 1 0 + c) is) ∙ sym (counted room event later)

-- and makes no difference
other_more : (was : Option Shown) (event : DealerEvent) (later : List DealerEvent) (room : RoomRef)
    (ask : Ask) → shows_room room event ≡ false
    → is_once_with was later room ask ≡ is_once_with was (event ∷ later) room ask
other_more None event later room ask is =
    let code = is_ask ask (ask_shown event) in
    let any = list_any (shows room ask) later in
    ap (λ n. (n == 1) && any) (uncounted event later room is)
    ∙ sym (ap (λ of. (count_by (shows_room room) (event ∷ later) == 1) && ((of && code) || any)) is)
other_more (Some (shown.Once said)) event later room ask is =
    ap (λ n. (n == 0) && same_ask ask said) (uncounted event later room is)
other_more (Some shown.Often) event later room ask is = refl

-- one event is looked at
pub once_more : (was : Option Shown) (event : DealerEvent) (later : List DealerEvent)
    (room : RoomRef) (ask : Ask) → is_once_with (shown_after room event was) later room ask
    ≡ is_once_with was (event ∷ later) room ask
once_more None (at_dealer.Shown at own moment) later room ask =
    first_here at own moment later room ask (is_same_room room at) refl
once_more (Some (shown.Once said)) (at_dealer.Shown at own moment) later room ask =
    second_here at own moment later room ask said (is_same_room room at) refl
once_more (Some shown.Often) (at_dealer.Shown at own moment) later room ask =
    often_here at own moment later room ask (is_same_room room at)
once_more was (at_dealer.Received moment message settlement) later room ask =
    other_more was (at_dealer.Received moment message settlement) later room ask refl
once_more was (at_dealer.Told request close moment) later room ask =
    other_more was (at_dealer.Told request close moment) later room ask refl
once_more was (at_dealer.Drop last moment settlement) later room ask =
    other_more was (at_dealer.Drop last moment settlement) later room ask refl
