-- How the code keeps the rooms that are opening or open: names for private functions alone.
use Rattle.std.specs.Prelude.{◌≡◌, ◌≤◌, ℕ, ◌==◌, Bool, true, false, ◌&&◌, ◌||◌, not, nat_le, List}
use Rattle.std.specs.Prelude.{Option, Some, None, if◌then◌else◌}
use Rattle.std.specs.List.{list_any}
use Rattle.std.specs.Ordering.{is_eq, nat_cmp, ordering_then}
use Rattle.std.specs.declared.cmp.Ordering.{Ordering}
use Rattle.std.specs.BTreeSet.{BTreeSet, IsOrdered, contains}
pub use Rattle.market_terms.specs.Rooms.{room_cmp}
use Rattle.market_terms.specs.declared.rooms.RoomRef.{RoomRef}
use Rattle.dealer_desk.specs.DealerOutput.{is_same_room}
use Rattle.venue_rows.specs.Rows.{Configuration, has_room}
use Rattle.step_replay.specs.Deadlines.{deadline_of}
use Rattle.step_replay.specs.VenueFacts.{Fact, of_room}
use Rattle.step_replay.specs.declared.open_rooms.OpenRooms.{OpenRooms}

-- a deadline, and the room that has it
abbrev pub Entry : Type 0
Entry = ℕ × RoomRef

-- entries in the order of their deadlines, and then of their rooms
abbrev pub entry_cmp : Entry → Entry → Ordering
entry_cmp one other = ordering_then (nat_cmp one.0 other.0) (room_cmp one.1 other.1)

-- whether a room is among them with this deadline
abbrev pub holds : OpenRooms → Entry → Bool
holds rooms entry = contains entry_cmp rooms.by_deadline entry

-- whether this moment is the deadline, where there is one
abbrev pub is_deadline : Option ℕ → ℕ → Bool
is_deadline None moment = false
is_deadline (Some deadline) moment = deadline == moment

-- whether an entry is that of a room with this deadline, where it has one
abbrev pub is_entry : RoomRef → Option ℕ → Entry → Bool
is_entry room deadline entry = is_deadline deadline entry.0 && is_same_room room entry.1

-- there is none
abbrev pub IsEmpty : OpenRooms → Type 0
IsEmpty rooms = (entry : Entry) → holds rooms entry ≡ false

-- an earliest deadline: a room has it, and none has an earlier one
pub record IsFirst (rooms : OpenRooms) (deadline : ℕ) : Type 0 where
  pub room : RoomRef
  pub held : holds rooms (deadline, room) ≡ true
  pub least : (entry : Entry) → holds rooms entry ≡ true → deadline ≤ entry.0

abbrev pub IsEarliest : OpenRooms → Option ℕ → Type 0
IsEarliest rooms None = IsEmpty rooms
IsEarliest rooms (Some deadline) = IsFirst rooms deadline

-- whether an entry is that of this room, with a deadline that has come
abbrev pub is_due_in : ℕ → RoomRef → Entry → Bool
is_due_in moment room entry = nat_le entry.0 moment && is_eq (room_cmp entry.1 room)

abbrev pub any_due : ℕ → RoomRef → List Entry → Bool
any_due moment room entries = list_any (is_due_in moment room) entries

-- these are the rooms with a deadline that has come, in order
pub record AreDue (rooms : OpenRooms) (moment : ℕ) (due : BTreeSet RoomRef) : Type 0 where
  pub ordered : IsOrdered room_cmp due
  pub each : (room : RoomRef)
      → contains room_cmp due room ≡ any_due moment room rooms.by_deadline.keys

-- an entry is taken out, or put in
abbrev pub TakesOut : RoomRef → Option ℕ → OpenRooms → OpenRooms → Type 0
TakesOut room deadline before after = (entry : Entry)
    → holds after entry ≡ (not (is_entry room deadline entry) && holds before entry)

abbrev pub Puts : RoomRef → Option ℕ → OpenRooms → OpenRooms → Type 0
Puts room deadline before after = (entry : Entry)
    → holds after entry ≡ (is_entry room deadline entry || holds before entry)

-- the deadline of a room, where it has one, is noted, where that which it had stood there
abbrev pub Notes : RoomRef → Option ℕ → Option ℕ → OpenRooms → OpenRooms → Type 0
Notes room had now before after =
    ((entry : Entry) → is_same_room room entry.1 ≡ true
    → holds before entry ≡ is_deadline had entry.0)
    → (entry : Entry) → holds after entry
    ≡ (if is_same_room room entry.1 then is_deadline now entry.0 else holds before entry)

-- the deadline of a room of the venue that is opening or open
abbrev pub deadline_by : Configuration → List Fact → RoomRef → Option ℕ
deadline_by config facts room =
    if has_room config room.investor room.n then deadline_of (of_room room facts) else None

-- whether a deadline, where there is one, has come
abbrev pub has_come : ℕ → Option ℕ → Bool
has_come moment None = false
has_come moment (Some deadline) = nat_le deadline moment

-- whether a room of the venue that is opening or open is past its deadline
abbrev pub is_due : Configuration → ℕ → List Fact → RoomRef → Bool
is_due config moment facts room = has_come moment (deadline_by config facts room)

-- the rooms that are opening or open are kept, each with its deadline
abbrev pub RoomsStand : Configuration → List Fact → OpenRooms → Type 0
RoomsStand config facts rooms = (entry : Entry)
    → holds rooms entry ≡ is_deadline (deadline_by config facts entry.1) entry.0
