-- What was due to a dealer on a recorded day, by the events at its desk alone. A desk does not see
-- the liftings of its quotes: it learns of one where a message or a drop that asks the quote's word
-- has it settled lifted. So each lifting that it learned of is put directly before that event.
use Rattle.std.specs.Prelude.{◌≡◌, ℕ, List, [], ◌∷◌, ◌++◌, fold, Option, Some, None, is_some}
use Rattle.std.specs.Prelude.{All, option_and_then}
use Rattle.std.specs.Option.{option_map}
use Rattle.quote_word.specs.declared.settled.Settled.{Settled}
use Rattle.quote_word.specs.declared.settled.Settled.TheVariants.{Withdrawn, Lifted}
use Rattle.venue_rows.specs.Rows.{Configuration, dealer_numbered}
use Rattle.venue_rows.specs.declared.dealer_rows.DealerRow.{DealerRow}
use Rattle.dealer_desk.specs.DealerFacts.{number_to_drop}
use Rattle.dealer_desk.specs.DealerDesk.{DeskEvents, book_at, facts_at, verdict_at, with_event}
use Rattle.dealer_desk.specs.DealerDesk.{with_notice}
use Rattle.dealer_desk.specs.DealerOutput.{word_asked}
use Rattle.dealer_desk.specs.SettledWords.{settled_words}
use Rattle.dealer_desk.specs.declared.events.DealerEvent.{DealerEvent}
use Rattle.dealer_desk.specs.declared.events.DealerEvent.TheVariants as event
use Rattle.step_replay.specs.declared.dues.Due.{Due}
use Rattle.step_replay.specs.declared.dues.Due.TheVariants as due
use Rattle.recorded_days.specs.Records.{DealerLists, RecordedDay, dealer_in}

-- the own number of the quote whose word an event asks, where it comes to this desk
abbrev pub quote_asked : DeskEvents → DealerEvent → Option ℕ
quote_asked desk (event.Received moment bytes settlement) =
    word_asked (verdict_at desk moment bytes)
quote_asked desk (event.Shown room ask moment) = None
quote_asked desk (event.Told request close moment) = None
quote_asked desk (event.Drop last moment settlement) = number_to_drop (book_at desk) last

-- the settlement that it was handed
abbrev pub settlement_of : DealerEvent → Option Settled
settlement_of (event.Received moment bytes settlement) = settlement
settlement_of (event.Shown room ask moment) = None
settlement_of (event.Told request close moment) = None
settlement_of (event.Drop last moment settlement) = settlement

-- the lifting that a dealer learns of by a settlement: that of the quote that was asked
abbrev pub lifting_learned : Option ℕ → Option Settled → List Due
lifting_learned (Some quote) (Some Lifted) = due.Lifted quote ∷ []
lifting_learned (Some quote) (Some Withdrawn) = []
lifting_learned (Some quote) None = []
lifting_learned None settlement = []

-- A desk takes a settlement exactly where a word is asked. In a list of events that no desk can
-- have, a settlement that is missing counts as a withdrawal, and one that nothing asked as none.
abbrev pub settlement_taken : Option ℕ → Option Settled → Option Settled
settlement_taken (Some quote) (Some settlement) = Some settlement
settlement_taken (Some quote) None = Some Withdrawn
settlement_taken None settlement = None

-- How far the events have come: the desk, and what was due by them.
pub record DayDues : Type 0 where
  pub desk : DeskEvents
  pub dues : List Due

-- at the start of the day nothing came
abbrev pub dues_at_start : List ℕ → DealerRow → DayDues
dues_at_start date row = record {
  desk = record { date = date; row = row; events = [] };
  dues = [];
}

-- after a message of the dealer's own that asks this quote's word, if it asks one
abbrev pub after_own : DayDues → ℕ → List ℕ → Option Settled → Option ℕ → DayDues
after_own day moment bytes settlement asked = record {
  desk = with_event day.desk (event.Received moment bytes (settlement_taken asked settlement));
  dues = day.dues ++ lifting_learned asked settlement ++ due.Own moment bytes ∷ [];
}

-- after a drop, likewise
abbrev pub after_drop : DayDues → ℕ → ℕ → Option Settled → Option ℕ → DayDues
after_drop day last moment settlement asked = record {
  desk = with_event day.desk (event.Drop last moment (settlement_taken asked settlement));
  dues = day.dues ++ lifting_learned asked settlement ++ due.Drop last moment ∷ [];
}

-- after one event more
unfoldable pub after_recorded : DayDues → DealerEvent → DayDues
after_recorded day (event.Received moment bytes settlement) =
    after_own day moment bytes settlement (word_asked (verdict_at day.desk moment bytes))
after_recorded day (event.Shown room ask moment) = record {
  desk = with_event day.desk (event.Shown room ask moment);
  dues = day.dues ++ due.Shown ask moment ∷ [];
}
after_recorded day (event.Told request close moment) = record {
  desk = with_notice day.desk request close moment;
  dues = day.dues ++ due.Closed request close moment ∷ [];
}
after_recorded day (event.Drop last moment settlement) =
    after_drop day last moment settlement (number_to_drop (book_at day.desk) last)

-- after these events
abbrev pub dues_after : List ℕ → DealerRow → List DealerEvent → DayDues
dues_after date row events = fold after_recorded (dues_at_start date row) events

-- what was due to a dealer on a recorded day
abbrev pub day_due_list : List ℕ → DealerRow → List DealerEvent → List Due
day_due_list date row events = (dues_after date row events).dues

-- the same of the dealer with this number, where the configuration and the record have it
abbrev pub day_dues_of : Configuration → RecordedDay → ℕ → Option (List Due)
day_dues_of config day dealer =
    option_and_then (λ (row : DealerRow).
    option_map (λ (lists : DealerLists). day_due_list config.date row lists.events)
    (dealer_in day dealer)) (dealer_numbered config dealer)

-- When the settlements of a desk agree.

-- an event that comes to this desk has a settlement exactly where it asks a word
abbrev pub IsSettledIfAsked : DeskEvents → DealerEvent → Type 0
IsSettledIfAsked desk now = is_some (settlement_of now) ≡ is_some (quote_asked desk now)

-- so has each of the events that come to it
abbrev pub AreAnsweredFrom : DeskEvents → List DealerEvent → Type 0
AreAnsweredFrom desk [] = Unit {0}
AreAnsweredFrom desk (now ∷ later) =
    IsSettledIfAsked desk now × AreAnsweredFrom (with_event desk now) later

-- so had each of the events of a desk
abbrev pub AreAnswered : DeskEvents → Type 0
AreAnswered desk = AreAnsweredFrom (record desk { events = [] }) desk.events

-- the word of each quote is this, in all settlements of a desk
abbrev pub AnswersAre : (ℕ → Option Settled) → DeskEvents → Type 0
AnswersAre word_of desk =
    All (λ (asked : ℕ × Settled). word_of asked.0 ≡ Some asked.1) (settled_words (facts_at desk))
