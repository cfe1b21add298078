-- What each step at a dealer's desk does there, and the duties that it leaves, in their order. A
-- step whose condition does not hold changes nothing and leaves no duty.
use Rattle.std.specs.Prelude.{ℕ, Bool, List, [], ◌++◌, Option, is_some, if◌then◌else◌}
use Rattle.std.specs.Option.{option_map, option_to_list}
use Rattle.market_terms.specs.declared.asks.Ask.{Ask}
use Rattle.market_terms.specs.declared.duties.Duty.{Duty}
use Rattle.market_terms.specs.declared.rooms.RoomRef.{RoomRef}
use Rattle.quote_word.specs.declared.settled.Settled.{Settled}
use Rattle.dealer_desk.specs.DealerFacts.{number_to_drop, quote_to_drop}
use Rattle.dealer_desk.specs.DealerDesk.{DeskEvents, book_at, rooms_at, verdict_at, with_event}
use Rattle.dealer_desk.specs.DealerOutput.{word_asked, verdict_duty, number_in, unpost_dropped}
use Rattle.dealer_desk.specs.DealerOutput.{further_drop}
use Rattle.dealer_desk.specs.declared.events.DealerEvent.TheVariants as event
use Rattle.venue_steps.specs.Words.{word_of}

-- A message of the dealer's own.

-- the word that a message asks, of a dealer whose first word is this one
abbrev pub own_word : ℕ → DeskEvents → ℕ → List ℕ → Option ℕ
own_word first desk moment bytes =
    option_map (word_of first) (word_asked (verdict_at desk moment bytes))

-- the desk after a message, where the row has the word that it asks
abbrev pub desk_after_own : DeskEvents → ℕ → List ℕ → Bool → Option Settled → DeskEvents
desk_after_own desk moment bytes has settlement =
    if has then with_event desk (event.Received moment bytes settlement) else desk

-- what a message leaves: a post, an unpost, a decline, the first drop of a cancel of all, or
-- nothing
abbrev pub duties_of_own : DeskEvents → ℕ → List ℕ → Bool → Option Settled → List Duty
duties_of_own desk moment bytes has settlement =
    if has
    then option_to_list (verdict_duty (rooms_at desk) moment (verdict_at desk moment bytes)
    settlement)
    else []

-- A drop: the next quote of a cancel of all.

-- the word that a drop of the quotes up to this one asks
abbrev pub drop_word : ℕ → DeskEvents → ℕ → Option ℕ
drop_word first desk last = option_map (word_of first) (number_to_drop (book_at desk) last)

-- the desk after a drop, where the row has the word that it asks
abbrev pub desk_after_drop : DeskEvents → ℕ → ℕ → Bool → Option Settled → DeskEvents
desk_after_drop desk last moment has settlement =
    if has then with_event desk (event.Drop last moment settlement) else desk

-- what a drop leaves: the unpost of the quote where it is withdrawn, then the further drop where
-- another quote is left
abbrev pub duties_of_drop : DeskEvents → ℕ → ℕ → Bool → Option Settled → List Duty
duties_of_drop desk last moment has settlement =
    if has
    then option_to_list (unpost_dropped (rooms_at desk) moment settlement
    (quote_to_drop (book_at desk) last))
    ++ option_to_list (further_drop (book_at (with_event desk (event.Drop last moment settlement)))
    last moment)
    else []

-- A request that is shown.

-- the desk after a request is shown: once a room
abbrev pub desk_after_show : DeskEvents → RoomRef → Ask → ℕ → DeskEvents
desk_after_show desk room ask moment =
    if is_some (number_in (rooms_at desk) room) then desk
    else with_event desk (event.Shown room ask moment)
