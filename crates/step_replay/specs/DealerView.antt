-- What a dealer is sent, as a function of what is due to it.
use Rattle.std.specs.Prelude.{ℕ, ◌==◌, Bool, ◌&&◌, not, nat_le, List, [], ◌∷◌, ◌++◌, fold}
use Rattle.std.specs.Prelude.{if◌then◌else◌}
use Rattle.std.specs.List.{list_any}
use Rattle.std.specs.Option.{option_map}
use Rattle.quote_word.specs.declared.settled.Settled.{Settled}
use Rattle.quote_word.specs.declared.settled.Settled.TheVariants.{Withdrawn, Lifted}
use Rattle.market_terms.specs.declared.rooms.RoomRef.{RoomRef}
use Rattle.venue_rows.specs.declared.dealer_rows.DealerRow.{DealerRow}
use Rattle.dealer_desk.specs.DealerFacts.{number_to_drop}
use Rattle.dealer_desk.specs.DealerDesk.{DeskEvents, facts_at, book_at, verdict_at, with_event}
use Rattle.dealer_desk.specs.DealerDesk.{with_notice}
use Rattle.dealer_desk.specs.DealerOutput.{dealer_output, word_asked}
use Rattle.dealer_desk.specs.DeskLaws.{withdraws}
use Rattle.dealer_desk.specs.declared.events.DealerEvent.{DealerEvent}
use Rattle.dealer_desk.specs.declared.events.DealerEvent.TheVariants as event
use Rattle.step_replay.specs.declared.dues.Due.{Due}
use Rattle.step_replay.specs.declared.dues.Due.TheVariants as due

-- How far a list of what is due has come: the dealer's desk, and the quotes whose lifting counts,
-- by their own numbers, in the order of the list.
pub record ViewState : Type 0 where
  pub desk : DeskEvents
  pub lifted : List ℕ

-- at the start of the day nothing came, and no quote is lifted
abbrev pub view_at_start : List ℕ → DealerRow → ViewState
view_at_start date row = record {
  desk = record { date = date; row = row; events = [] };
  lifted = [];
}

-- whether a lifting of this quote that counts stands in the list so far
abbrev pub is_lifted : ViewState → ℕ → Bool
is_lifted view quote = list_any (λ lifted. lifted == quote) view.lifted

-- The settlement for what asks the word of a quote, a message or a drop: lifted where a lifting of
-- the quote that counts stands before it in the list, and else withdrawn.
abbrev pub answer_to : ViewState → ℕ → Settled
answer_to view quote = if is_lifted view quote then Lifted else Withdrawn

-- whether a quote was withdrawn at a desk
abbrev pub is_withdrawn_at : DeskEvents → ℕ → Bool
is_withdrawn_at desk quote = list_any (withdraws quote) (facts_at desk)

-- A lifting counts of a quote that the dealer can have in its day, from 1 to the quotes of its row,
-- and that was not withdrawn before.
abbrev pub lifting_counts : ViewState → ℕ → Bool
lifting_counts view quote =
    nat_le 1 quote && nat_le quote view.desk.row.quotes && not (is_withdrawn_at view.desk quote)

-- the view after one event more at the desk
abbrev pub with_event_at_desk : ViewState → DealerEvent → ViewState
with_event_at_desk view event = record view { desk = with_event view.desk event }

-- the view has no rooms: each request is shown in this one
abbrev pub no_room : RoomRef
no_room = record { investor = 0; n = 0 }

-- The view after one item more of what is due. A message of the dealer's own, and a drop, are an
-- event each, with the settlement of the word that they ask, if any. A lifting that does not
-- count changes nothing, and neither does a notice of a request that was not shown or was told.
unfoldable pub after_due : ViewState → Due → ViewState
after_due view (due.Own moment message) =
    let asked = word_asked (verdict_at view.desk moment message) in
    with_event_at_desk view (event.Received moment message (option_map (answer_to view) asked))
after_due view (due.Shown ask moment) = with_event_at_desk view (event.Shown no_room ask moment)
after_due view (due.Lifted quote) =
    if lifting_counts view quote then record view { lifted = view.lifted ++ quote ∷ [] } else view
after_due view (due.Closed request close moment) =
    record view { desk = with_notice view.desk request close moment }
after_due view (due.Drop last moment) =
    let asked = number_to_drop (book_at view.desk) last in
    with_event_at_desk view (event.Drop last moment (option_map (answer_to view) asked))

-- the view after all of it, item by item
abbrev pub view_after : List ℕ → DealerRow → List Due → ViewState
view_after date row dues = fold after_due (view_at_start date row) dues

-- what the dealer of a desk was sent
abbrev pub sent_at : DeskEvents → List (List ℕ)
sent_at desk = dealer_output desk.date desk.row desk.events

-- The dealer view: every message that a dealer is sent. It takes the date, the dealer's own row
-- and the list of what is due to it, so nothing else of the venue can matter to what the dealer
-- sees.
abbrev pub dealer_view : List ℕ → DealerRow → List Due → List (List ℕ)
dealer_view date row dues = sent_at (view_after date row dues).desk
