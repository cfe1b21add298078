-- The words that were asked on a day on threads, at the desks of its dealers and in its rooms, and
-- the words of quotes that won.
use Rattle.std.specs.Prelude.{◌≡◌, ℕ, Contains, Some, slice_get}
use Rattle.request_room.specs.Book.{room_after}
use Rattle.request_room.specs.RoomFacts.{end_of}
use Rattle.request_room.specs.declared.ends.End.{End}
use Rattle.venue_rows.specs.Rows.{Configuration, dealer_numbered}
use Rattle.venue_rows.specs.declared.dealer_rows.DealerRow.{DealerRow}
use Rattle.recorded_days.specs.Records.{DealerLists, RecordedDay}
use Rattle.day_checks.specs.DayChecks.{DayRoom}
use Rattle.day_checks.specs.KeptDays.{answers_to, rooms_in}
use Rattle.day_checks.specs.AskedWords.{Answer, answers_in}

-- A word was asked at the desk of a dealer of a recorded day, by a message or a drop, or in one of
-- its rooms, by a hit; and this is what whoever asked was told that it is.
pub data WasAsked (config : Configuration) (day : RecordedDay) (asked : Answer) : Type 0 where
  AtDesk : (firm : ℕ) (dealer : DealerLists) (row : DealerRow)
      → slice_get day.dealers firm ≡ Some dealer → dealer_numbered config firm ≡ Some row
      → Contains (answers_to config firm row dealer.events) asked → WasAsked config day asked
  InRoom : (room : DayRoom) → Contains (rooms_in day) room
      → Contains (answers_in room.day.events) asked → WasAsked config day asked

-- the quote with this word won in a room of a recorded day
pub record HasWon (day : RecordedDay) (word : ℕ) : Type 0 where
  pub room : DayRoom
  pub of_day : Contains (rooms_in day) room
  pub how : End
  pub ended : end_of (room_after room.day.events) ≡ Some how
  pub dealer : ℕ
  pub won : how.winner ≡ Some (dealer, word)
