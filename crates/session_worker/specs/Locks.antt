-- What lies under the locks of a venue, and what holds of it whenever a lock is free.
use Rattle.std.specs.Prelude.{◌≡◌, ℕ, ◌-◌, nat_lt, true, List, ◌∷◌, [], ◌++◌, slice_get, Option}
use Rattle.std.specs.Prelude.{Some, None, All, if◌then◌else◌, ◌+◌, ◌<◌, ◌≤◌}
use Rattle.dealer_desk.specs.DealerDesk as dealer
use Rattle.investor_desk.specs.InvestorDesk as investor
use Rattle.investor_desk.specs.InvestorDesk.{market_for}
use Rattle.market_terms.specs.declared.rooms.RoomRef.{RoomRef}
use Rattle.quote_word.specs.Board.{BoardName, Front}
use Rattle.request_room.specs.declared.events.RoomEvent.{RoomEvent}
use Rattle.step_replay.specs.Actions.{dealer_of, first_word}
use Rattle.recorded_days.specs.DayDues.{AreAnswered}
use Rattle.recorded_days.specs.Records.{ActionRef}
use Rattle.venue_rows.specs.Rows.{Configuration, dealer_numbered, has_room}
use Rattle.day_checks.specs.LeftResponses.{responses_left}
use Rattle.day_checks.specs.declared.left_responses.LeftResponse.{LeftResponse}
use Rattle.day_checks.specs.declared.faults.DayFault.{DayFault}
use Rattle.day_checks.specs.declared.faults.DayFault.TheVariants as fault
use Rattle.day_checks.specs.AskedWords.{StandsIn, answers_at, answers_in}

-- Locks.

-- what lies under the lock of a dealer: which dealer it is, the word of its first quote, its desk,
-- what was seen of the board, and the order of the actions
pub record DealerUnderLock : Type 0 where
  pub firm : ℕ
  pub first : ℕ
  pub desk : dealer.DeskEvents
  pub seen : Front
  pub order : List ActionRef

-- what lies under the lock of an investor
pub record InvestorUnderLock : Type 0 where
  pub desk : investor.DeskEvents
  pub order : List ActionRef

-- what lies under the lock of a room: which room it is, what was tried in it, what was seen of the
-- board, and the order of the actions
pub record RoomUnderLock : Type 0 where
  pub at : RoomRef
  pub events : List RoomEvent
  pub seen : Front
  pub order : List ActionRef

-- Under the lock of a dealer lies the desk of a dealer of the configuration. Each of its events had
-- a settlement exactly where it asked a word. The token is one of the venue's board, and each word
-- that was asked at the desk is in its log as it was settled.
pub record KeepsDealer (board : BoardName) (config : Configuration) (firm first : ℕ)
    (desk : dealer.DeskEvents) (seen : Front) : Type 0 where
  pub of_board : seen.board ≡ board
  pub day_is : desk.date ≡ config.date
  pub row_is : dealer_numbered config firm ≡ Some desk.row
  pub first_is : first ≡ first_word config (dealer_of firm desk.row)
  pub answered : AreAnswered desk
  pub answers_stand : All (StandsIn seen.log) (answers_at first desk)

-- Under the lock of an investor lies the desk of an investor of the configuration, and beside it
-- the responses that the investor's messages left, of which no view tells.
pub record KeepsInvestor (config : Configuration) (desk : investor.DeskEvents)
    (left : List LeftResponse) : Type 0 where
  pub market_is : market_for config desk.market.firm ≡ Some desk.market
  pub left_is : left ≡ responses_left desk

-- Under the lock of a room lies a room of the configuration. The token is one of the venue's board,
-- and each word that was hit in the room is in its log as it was settled.
pub record KeepsRoom (board : BoardName) (config : Configuration) (at : RoomRef)
    (events : List RoomEvent) (seen : Front) : Type 0 where
  pub of_board : seen.board ≡ board
  pub room_is : has_room config at.investor at.n ≡ true
  pub answers_stand : All (StandsIn seen.log) (answers_in events)

-- Places. Which place is which is said by its number.

-- the place with this number, of places that are numbered onward from another number
abbrev pub numbered_from : {P : Type 0} → ℕ → List P → ℕ → Option P
numbered_from first places number =
    if nat_lt number first then None else slice_get places (number - first)

-- the order of the actions at a place after one more
abbrev pub with_action : List ActionRef → ActionRef → List ActionRef
with_action order action = order ++ action ∷ []

-- Faults.

-- Under a lock may lie anything that its type lets lie there, so of a fault that was found while
-- the locks were opened it is known which firms it may name: of so many that are numbered onward
-- from this number, one whose desk, or a room of its requests, is another's, or whose inbox is not
-- what came.
abbrev pub IsInboxAmong : ℕ → ℕ → DayFault → Type 0
IsInboxAmong first count (fault.Inbox firm) = (first ≤ firm) × (firm < first + count)
IsInboxAmong first count (fault.Told dealer) = ⊥
IsInboxAmong first count (fault.Sweep room) = ⊥
IsInboxAmong first count (fault.Shown dealer) = ⊥
IsInboxAmong first count (fault.Relayed room) = ⊥
IsInboxAmong first count (fault.Answered room) = ⊥
IsInboxAmong first count (fault.Acted firm) = ⊥
IsInboxAmong first count fault.Memory = Unit {0}
