-- How the code keeps the places of a venue: names for private functions alone.
use Rattle.std.specs.Prelude.{◌≡◌, ℕ, List, ◌++◌, length, replicate}
use Rattle.std.specs.Prelude.{Option, Some, true, false, ◌&&◌, nat_le}
use Rattle.market_terms.specs.declared.duties.Duty.{Duty}
use Rattle.quote_word.specs.PlainWords.{entry_in}
use Rattle.quote_word.specs.declared.settled.Settled.{Settled}
use Rattle.venue_rows.specs.Rows.{Configuration, dealer_numbered}
use Rattle.venue_rows.specs.declared.dealer_rows.DealerRow.{DealerRow}
use Rattle.dealer_desk.specs.DealerOutput.{desk_after, rooms_of}
use Rattle.investor_desk.specs.InvestorOutput as investor_output
use Rattle.investor_desk.specs.InvestorDesk.{market_of}
use Rattle.venue_rows.specs.declared.investor_rows.InvestorRow.{InvestorRow}
use Rattle.request_room.specs.declared.events.RoomEvent.{RoomEvent}
use Rattle.step_replay.specs.RowOfWords.{word_if}
use Rattle.request_room.specs.Book.{room_after}
use Rattle.step_replay.specs.DealerTrail.{DealerEntry, facts_of, rooms_by, sent_by}
use Rattle.step_replay.specs.DealerTrail.{was_lifted, was_withdrawn}
use Rattle.step_replay.specs.InvestorEvents.{events_of}
use Rattle.step_replay.specs.InvestorTrail as investor_trail
use Rattle.step_replay.specs.Matching.{Match}
use Rattle.step_replay.specs.NotedTrail.{NotedAs}
use Rattle.step_replay.specs.VenueFacts.{Fact, of_dealer, of_room, of_investor}
use Rattle.step_replay.specs.Actions.{Effect, dealer_of, first_word, word_for, words_of}
use Rattle.step_replay.specs.DueList.{due_list}
use Rattle.step_replay.specs.Liftings.{AreWithin, OwnersStand, dues_behind}
use Rattle.step_replay.specs.declared.floor.DealerPlace.{DealerPlace}
use Rattle.step_replay.specs.declared.floor.InvestorPlace.{InvestorPlace}
use Rattle.step_replay.specs.declared.floor.Floor.{Floor}

-- a dealer's place stands where its trail has come
pub record DealerStands (config : Configuration) (number : ℕ) (row : DealerRow)
    (trail : List DealerEntry) (place : DealerPlace) : Type 0 where
  pub date_is : place.desk.date ≡ config.date
  pub row_is : place.desk.row ≡ row
  pub state_is : desk_after config.date row place.desk.events
      ≡ record { facts = facts_of trail; sent = sent_by trail }
  pub rooms_are : rooms_of place.desk.events ≡ rooms_by trail
  pub first_is : place.first_word ≡ first_word config (dealer_of number row)
  pub dues_are : dues_behind 0 place.desk.events place.liftings.items ≡ due_list trail
  pub are_within : AreWithin (length place.desk.events) place.liftings.items

-- the same of the dealer with this number, by the facts of all places
abbrev pub DealerIs : Configuration → List Fact → ℕ → DealerRow → DealerPlace → Type 0
DealerIs config facts number row place =
    DealerStands config number row (of_dealer number facts) place

-- a room of an investor stands where its facts have come
abbrev pub RoomIs : List Fact → ℕ → ℕ → Unit {0} → List RoomEvent → Type 0
RoomIs facts investor n slot events =
    room_after events ≡ of_room (record { investor = investor; n = n }) facts

-- a slot for each room of an investor with this row
abbrev pub slots : InvestorRow → List (Unit {0})
slots row = replicate row.requests tt

-- an investor's place stands where its trail and the facts of its rooms have come
pub record InvestorStands (config : Configuration) (facts : List Fact) (number : ℕ)
    (row : InvestorRow) (place : InvestorPlace) : Type 0 where
  pub market_is : place.desk.market ≡ market_of config number row
  pub events_are : place.desk.events ≡ events_of (of_investor number facts)
  pub state_is : investor_output.desk_after (market_of config number row) place.desk.events
      ≡ record {
        facts = investor_trail.facts_of (of_investor number facts);
        sent = investor_trail.sent_by (of_investor number facts);
      }
  pub notes_are : NotedAs (market_of config number row) place.desk.events
      (of_investor number facts)
  pub rooms_are : Match (RoomIs facts number) 1 (slots row) place.rooms.items

-- what the word of a quote is: lifted, withdrawn, or open yet
abbrev pub word_is : List DealerEntry → ℕ → Option Settled
word_is trail quote = word_if (was_lifted trail quote) (was_withdrawn trail quote)

-- the words of the quotes of a day are those that the dealers' trails have
abbrev pub WordsStand : Configuration → List Fact → List (Option Settled) → Type 0
WordsStand config facts words = (number : ℕ) (row : DealerRow) (quote : ℕ)
    → dealer_numbered config number ≡ Some row
    → (nat_le 1 quote && nat_le quote row.quotes) ≡ true
    → entry_in words (word_for config (dealer_of number row) quote)
    ≡ word_is (of_dealer number facts) quote

-- the places stand where the facts have come
pub record Stands (config : Configuration) (facts : List Fact) (floor : Floor) : Type 0 where
  pub config_is : floor.config ≡ config
  pub dealers_are : Match (DealerIs config facts) 0 config.dealers floor.dealers.items
  pub investors_are : Match (InvestorStands config facts) (length config.dealers) config.investors
      floor.investors.items
  pub word_count : length floor.words ≡ words_of config
  pub words_are : WordsStand config facts floor.words
  pub owners_are : OwnersStand config floor.owners.items

-- what an action should add and leave is added and left
pub record Does (config : Configuration) (facts : List Fact) (effect : Effect) (after : Floor)
    (duties : List Duty) : Type 0 where
  pub stands : Stands config (facts ++ effect.facts) after
  pub leaves : duties ≡ effect.duties

-- an action does what it should, wherever the places stood
abbrev pub Acts : (Configuration → List Fact → Effect) → Floor → Floor → List Duty → Type 0
Acts effect before after duties = (config : Configuration) (facts : List Fact)
    → Stands config facts before → Does config facts (effect config facts) after duties

-- no quote of a dealer is both lifted and withdrawn
abbrev pub AreOneOf : Configuration → List Fact → Type 0
AreOneOf config facts = (number : ℕ) (row : DealerRow) (quote : ℕ)
    → dealer_numbered config number ≡ Some row
    → (was_lifted (of_dealer number facts) quote && was_withdrawn (of_dealer number facts) quote)
    ≡ false

-- the same where no quote is both lifted and withdrawn
abbrev pub ActsOnce : (Configuration → List Fact → Effect) → Floor → Floor → List Duty → Type 0
ActsOnce effect before after duties = (config : Configuration) (facts : List Fact)
    → Stands config facts before → AreOneOf config facts
    → Does config facts (effect config facts) after duties
