-- Sweeps that are put under their rooms one after the other.
use Rattle.std.proofs.Common.{◌≡◌, refl, ◌∙◌, sym, ap, ℕ, Bool, true, false, ◌&&◌, ◌==◌, cond, not}
use Rattle.std.proofs.Common.{List, [], ◌∷◌, ◌++◌, find, Option, Some, None, unwrap_or, arith}
use Rattle.std.proofs.Common.{if◌then◌else◌, append_assoc}
use Rattle.std.proofs.lemmas.Bool.{and_parts}
use Rattle.std.proofs.lemmas.Bool.Decides.{nat_tests}
use Rattle.std.specs.BTreeMap.{BTreeMap, get, is_at}
use Rattle.std.specs.Global.{Vec}
use Rattle.std.specs.List.{cons_option}
use Rattle.std.specs.Ordering.{is_eq, nat_cmp, ordering_then}
use Rattle.std.specs.Str.{bytes_eq}
use Rattle.std.specs.declared.cmp.Ordering.{Ordering}
use Rattle.std.specs.declared.cmp.Ordering.TheVariants.{Less, Equal, Greater}
use Rattle.market_terms.specs.declared.rooms.RoomRef.{RoomRef}
use Rattle.recorded_days.specs.declared.actions.Sweep.{Sweep}
use Rattle.day_checks.specs.DayChecks.{DayRoom, is_swept, times_for, times_swept}
use Rattle.market_terms.specs.Rooms.{is_same_room}
use Rattle.day_checks.specs.SweptRooms.{is_swept_by, times_after, list_in, list_of}
use Rattle.day_checks.specs.ToldRooms.{room_cmp}

then_is : (first second : Ordering)
    → is_eq (ordering_then first second) ≡ (is_eq first && is_eq second)
then_is Less second = refl
then_is Equal second = refl
then_is Greater second = refl

number_is : (one other : ℕ) → is_eq (nat_cmp one other) ≡ (other == one)
number_is one other = grind (arith, nat_tests)

-- the order of rooms finds a room that is the same
found_same : (one other : RoomRef) → is_at (room_cmp one) other ≡ is_same_room other one
found_same one other =
    then_is (nat_cmp one.investor other.investor) (nat_cmp one.n other.n)
    ∙ ap (λ b. b && is_eq (nat_cmp one.n other.n)) (number_is one.investor other.investor)
    ∙ ap (λ b. (other.investor == one.investor) && b) (number_is one.n other.n)

pub number_same : (one other : ℕ) → (one == other) ≡ true → one ≡ other
number_same one other is = grind (arith, nat_tests, is)

-- rooms that are the same are equal
is_same : (room other : RoomRef) → is_same_room room other ≡ true → room ≡ other
is_same room other is =
    let both = and_parts (room.investor == other.investor) (room.n == other.n) is in
    ap (λ investor. let own : RoomRef = record { investor = investor; n = room.n } in own)
    (number_same room.investor other.investor both.0)
    ∙ ap (λ n. let own : RoomRef = record { investor = other.investor; n = n } in own)
    (number_same room.n other.n both.1)

-- a list that stands, or a new one
pub list_under : {T : Type 0} (was : Option (Vec T)) (new : Vec T) → new.items ≡ []
    → (unwrap_or was new).items ≡ list_in was
list_under None new none = none
list_under (Some list) new none = refl

under : {T : Type 0} (was : Option (Vec T)) (list : Vec T) (what : T) (own : Bool)
    → (own ≡ true → list.items ≡ list_in was ++ what ∷ [])
    → list_in (cond own (Some list) was)
    ≡ (if own then list_in was ++ what ∷ [] else list_in was)
under was list what true more = more refl
under was list what false more = refl

-- one thing more stands under its room, and nothing else changes
pub put_under : {T : Type 0} (old new : BTreeMap RoomRef (Vec T)) (at : RoomRef) (what : T)
    (list : Vec T) → ((room : RoomRef) → get room_cmp new room
    ≡ cond (is_at (room_cmp at) room) (Some list) (get room_cmp old room))
    → list.items ≡ list_of old at ++ what ∷ []
    → (room : RoomRef) → list_of new room
    ≡ (if is_same_room room at then list_of old room ++ what ∷ [] else list_of old room)
put_under old new at what list put more room =
    ap list_in (put room
    ∙ ap (λ own. cond own (Some list) (get room_cmp old room)) (found_same at room))
    ∙ under (get room_cmp old room) list what (is_same_room room at)
    (λ is. more ∙ ap (λ own. list_of old own ++ what ∷ []) (sym (is_same room at is)))

put_here : (room : RoomRef) (sweep : Sweep) (later : List Sweep) (times : List ℕ) (own : Bool)
    → is_same_room room sweep.room ≡ own
    → times_after room sweep times ++ times_for room later
    ≡ times ++ times_for room (sweep ∷ later)
put_here room sweep later times true is =
    let behind = times_for room later in
    ap (λ b. (if b then times ++ sweep.moment ∷ [] else times) ++ behind) is
    ∙ append_assoc times (sweep.moment ∷ []) behind
    ∙ sym (ap (λ b. times ++ cons_option (if b then Some sweep.moment else None) behind) is)
put_here room sweep later times false is =
    let behind = times_for room later in
    ap (λ b. (if b then times ++ sweep.moment ∷ [] else times) ++ behind) is
    ∙ sym (ap (λ b. times ++ cons_option (if b then Some sweep.moment else None) behind) is)

-- one sweep is put under its room
pub sweep_more : (room : RoomRef) (sweep : Sweep) (later : List Sweep) (times : List ℕ)
    → times_after room sweep times ++ times_for room later
    ≡ times ++ times_for room (sweep ∷ later)
sweep_more room sweep later times =
    put_here room sweep later times (is_same_room room sweep.room) refl

-- the first room that was not swept as its moments are, where these are those of the sweeps
pub unswept_same : (by_room : BTreeMap RoomRef (Vec ℕ)) (sweeps : List Sweep)
    → ((room : RoomRef) → list_of by_room room ≡ times_for room sweeps) → (rooms : List DayRoom)
    → find (λ room. not (is_swept_by by_room room)) rooms
    ≡ find (λ room. not (is_swept sweeps room)) rooms
unswept_same by_room sweeps same [] = refl
unswept_same by_room sweeps same (room ∷ rooms) =
    let rest = find (λ room. not (is_swept_by by_room room)) rooms in
    ap (λ times. cond (not (bytes_eq (times_swept room.day.events) times)) (Some room) rest)
    (same room.at)
    ∙ ap (λ rest. cond (not (is_swept sweeps room)) (Some room) rest)
    (unswept_same by_room sweeps same rooms)
