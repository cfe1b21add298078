-- What the record of a day keeps, however its threads ran.
use Rattle.std.specs.Prelude.{◌≡◌, ℕ, ◌+◌, zero, suc, List, [], ◌∷◌, ◌++◌, length, map, slice_get}
use Rattle.std.specs.Prelude.{All, IfSome, Option, Some}
use Rattle.std.specs.Option.{option_map}
use Rattle.dealer_desk.specs.DealerDesk.{book_at}
use Rattle.dealer_desk.specs.DealerOutput.{dealer_output}
use Rattle.dealer_desk.specs.QuoteLines.{lines_of}
use Rattle.dealer_desk.specs.declared.events.DealerEvent.{DealerEvent}
use Rattle.investor_desk.specs.InvestorDesk as at_investor
use Rattle.investor_desk.specs.InvestorDesk.{market_for}
use Rattle.investor_desk.specs.InvestorOutput.{investor_output}
use Rattle.investor_desk.specs.InvestorRules.{InvestorMarket}
use Rattle.investor_desk.specs.RequestLines as request
use Rattle.market_terms.specs.declared.rooms.RoomRef.{RoomRef}
use Rattle.quote_word.specs.SettleLog.{IsLegal, SettleLog, entry_of}
use Rattle.quote_word.specs.declared.settled.Settled.TheVariants.{Lifted}
use Rattle.request_room.specs.Book.{room_after}
use Rattle.request_room.specs.RoomFacts.{end_of}
use Rattle.request_room.specs.declared.ends.End.{End}
use Rattle.venue_rows.specs.Rows.{Configuration, dealer_numbered}
use Rattle.venue_rows.specs.declared.dealer_rows.DealerRow.{DealerRow}
use Rattle.venue_rows.specs.declared.investor_rows.InvestorRow.{InvestorRow}
use Rattle.step_replay.specs.Actions.{dealer_of, first_word}
use Rattle.recorded_days.specs.DayDues.{day_due_list}
use Rattle.step_replay.specs.DealerView.{dealer_view}
use Rattle.step_replay.specs.Lists.{Every}
use Rattle.recorded_days.specs.Records.{DealerLists, FirmLists, InvestorLists, RecordedDay}
use Rattle.recorded_days.specs.Records.{RoomLists, dealer_in, firms_in}
use Rattle.recorded_days.specs.declared.actions.Inbound.{Inbound}
use Rattle.recorded_days.specs.declared.actions.Sweep.{Sweep}
use Rattle.day_checks.specs.DayChecks.{DayRoom, came_from_dealer, came_from_investor}
use Rattle.day_checks.specs.DayPromises.{EachNumbered, IsOfActions, WasAnswered, WasRelayed}
use Rattle.day_checks.specs.DayPromises.{WasShown, WasSwept, WasTold}
use Rattle.day_checks.specs.LeftResponses.{responses_answered, responses_left}
use Rattle.day_checks.specs.AskedWords.{Answer, StandsIn, answers_at, answers_in}

-- Rooms.

-- the rooms of an investor, whose requests are numbered onward from this number
abbrev pub rooms_from : ℕ → ℕ → List RoomLists → List DayRoom
rooms_from investor n [] = []
rooms_from investor n (room ∷ later) =
    record { at = record { investor = investor; n = n }; day = room }
    ∷ rooms_from investor (n + 1) later

-- the rooms of some investors, which are numbered onward from this number
abbrev pub rooms_of : ℕ → List InvestorLists → List DayRoom
rooms_of firm [] = []
rooms_of firm (investor ∷ later) = rooms_from firm 1 investor.rooms ++ rooms_of (firm + 1) later

-- all rooms of a day, in the order of their investors and requests
abbrev pub rooms_in : RecordedDay → List DayRoom
rooms_in day = rooms_of (length day.dealers) day.investors

-- an investor's day without its rooms
abbrev pub without_rooms : InvestorLists → InvestorLists
without_rooms investor = record investor { rooms = [] }

-- which rooms these are
abbrev pub names_of : List DayRoom → List RoomRef
names_of rooms = map (λ (room : DayRoom). room.at) rooms

-- the names of an investor's rooms: that of the request with this number, and so many behind it
abbrev pub names_from : ℕ → ℕ → ℕ → List RoomRef
names_from investor n zero = []
names_from investor n (suc more) =
    record { investor = investor; n = n } ∷ names_from investor (n + 1) more

-- the names of the rooms of some investors, which are numbered onward from this number and have so
-- many rooms each
abbrev pub names_by : ℕ → List ℕ → List RoomRef
names_by firm [] = []
names_by firm (count ∷ later) = names_from firm 1 count ++ names_by (firm + 1) later

-- how many requests each of these investors may make in its day
abbrev pub requests_of : List InvestorRow → List ℕ
requests_of rows = map (λ (row : InvestorRow). row.requests) rows

-- the rooms of a venue: one for each request that one of its investors may make in its day
abbrev pub rooms_of_venue : Configuration → List RoomRef
rooms_of_venue config = names_by (length config.dealers) (requests_of config.investors)

-- Firms.

-- What is recorded of a dealer: what it was sent and its quotes follow from its row and the events
-- at its desk, what it was sent is the dealer view of what was due by these events, and the
-- messages that came from it, by these events, are its inbox in order and each once.
pub record DealerKeeps (config : Configuration) (firm : ℕ) (dealer : DealerLists) : Type 0 where
  pub row : DealerRow
  pub row_is : dealer_numbered config firm ≡ Some row
  pub sent_is : dealer.sent ≡ dealer_output config.date row dealer.events
  pub lines_is : dealer.lines
      ≡ lines_of (book_at (record { date = config.date; row = row; events = dealer.events }))
  pub view_is : dealer.sent
      ≡ dealer_view config.date row (day_due_list config.date row dealer.events)
  pub own_is : came_from_dealer dealer.events ≡ dealer.inbox

-- what is recorded of all dealers, each at the place of its number
abbrev pub DealersKeep : Configuration → List DealerLists → Type 0
DealersKeep config dealers = (firm : ℕ) (dealer : DealerLists)
    → slice_get dealers firm ≡ Some dealer → DealerKeeps config firm dealer

-- What is recorded of an investor: what it was sent, and its blotter, follow from what the venue
-- has for it and from the events at its desk; the messages that came from it, by these events, are
-- its inbox in order and each once; and the hits and passes that they left are, in order and each
-- once, what was answered at its desk.
pub record InvestorKeeps (config : Configuration) (firm : ℕ) (investor : InvestorLists) : Type 0
  where
    pub market : InvestorMarket
    pub market_is : market_for config firm ≡ Some market
    pub sent_is : investor.sent ≡ investor_output market investor.events
    pub lines_is : investor.lines ≡ request.lines_of
        (at_investor.book_at (record { market = market; events = investor.events }))
    pub own_is : came_from_investor investor.events ≡ investor.inbox
    pub answers_are : responses_answered investor.events
        ≡ responses_left (record { market = market; events = investor.events })

-- what is recorded of all investors: their numbers as firms go on behind those of the dealers
abbrev pub InvestorsKeep : Configuration → List InvestorLists → Type 0
InvestorsKeep config investors = (k : ℕ) (investor : InvestorLists)
    → slice_get investors k ≡ Some investor
    → InvestorKeeps config (length config.dealers + k) investor

-- Answers.

-- the settlements at the desk of the dealer with this number and row, by the venue's numbers of the
-- words
abbrev pub answers_to : Configuration → ℕ → DealerRow → List DealerEvent → List Answer
answers_to config firm row events =
    answers_at (first_word config (dealer_of firm row))
    (record { date = config.date; row = row; events = events })

-- each settlement at the desk of the dealer with this number stands in a log
abbrev pub DealerStands : Configuration → SettleLog → ℕ → DealerLists → Type 0
DealerStands config log firm dealer = (row : DealerRow) → dealer_numbered config firm ≡ Some row
    → All (StandsIn log) (answers_to config firm row dealer.events)

-- the same of all dealers, each at the place of its number
abbrev pub DealersStand : Configuration → SettleLog → List DealerLists → Type 0
DealersStand config log dealers = (firm : ℕ) (dealer : DealerLists)
    → slice_get dealers firm ≡ Some dealer → DealerStands config log firm dealer

-- each settlement in a room stands in a log
abbrev pub RoomStands : SettleLog → DayRoom → Type 0
RoomStands log room = All (StandsIn log) (answers_in room.day.events)

-- the same of all rooms
abbrev pub RoomsStand : SettleLog → List DayRoom → Type 0
RoomsStand log rooms = All (RoomStands log) rooms

-- where an end has a winner, the word of its quote is lifted in a log
abbrev pub WinnerLifted : SettleLog → Option End → Type 0
WinnerLifted log end =
    IfSome end (λ how. IfSome how.winner (λ winner. entry_of winner.1 log ≡ Some Lifted))

-- where a quote won in a room, its word is lifted in a log
abbrev pub AwardStands : SettleLog → DayRoom → Type 0
AwardStands log room = WinnerLifted log (end_of (room_after room.day.events))

-- Each word has one settlement all day: there is a log of settlements in which no word stands
-- twice, and in it stands each one that a dealer's desk or a room was handed. The word of
-- each quote that won in a room is lifted there.
pub record AnswersAgree (config : Configuration) (day : RecordedDay) : Type 0 where
  pub log : SettleLog
  pub legal : IsLegal log
  pub at_desks : DealersStand config log day.dealers
  pub in_rooms : RoomsStand log (rooms_in day)
  pub awards : All (AwardStands log) (rooms_in day)

-- What the record keeps of the day of a venue to which these messages came, an inbox for each firm,
-- and whose clock had these sweeps to make. It has the firms and rooms of the venue, and their
-- inboxes are those that came; what is recorded of each firm follows from the events at its desk;
-- each dealer was told once how each room that names it ended, and nothing else; each room was
-- swept as the clock was told; each dealer was shown once the request of each room that names it,
-- as it was asked, and nothing else; the quotes that took effect in each room came to its investor,
-- each dealer's in order and as they were posted, and no others; so did, in order, the replies to
-- its hits and passes, and that it expired, where it did; all settlements of one word agree; and
-- each event is that of an action at its desk or in its room.
pub record KeepsDay (config : Configuration) (inboxes : List (List Inbound)) (sweeps : List Sweep)
    (day : RecordedDay) : Type 0 where
  pub dealers_are : length day.dealers ≡ length config.dealers
  pub investors_are : length day.investors ≡ length config.investors
  pub rooms_are : names_of (rooms_in day) ≡ rooms_of_venue config
  pub inboxes_are : map (λ (firm : FirmLists). firm.inbox) (firms_in day) ≡ inboxes
  pub dealers_keep : DealersKeep config day.dealers
  pub investors_keep : InvestorsKeep config day.investors
  pub told : EachNumbered (WasTold (rooms_in day)) 0 day.dealers
  pub swept : Every (WasSwept sweeps) (rooms_in day)
  pub shown : EachNumbered (WasShown (rooms_in day)) 0 day.dealers
  pub relayed : Every (WasRelayed config (length day.dealers) day.investors) (rooms_in day)
  pub answered : Every (WasAnswered (length day.dealers) day.investors) (rooms_in day)
  pub answers_agree : AnswersAgree config day
  pub of_actions : IsOfActions day

-- what the dealer with this number was sent on a recorded day
abbrev pub sent_on : RecordedDay → ℕ → Option (List (List ℕ))
sent_on day dealer = option_map (λ (lists : DealerLists). lists.sent) (dealer_in day dealer)
