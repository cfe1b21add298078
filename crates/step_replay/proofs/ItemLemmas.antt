-- A desk and a row of words go on standing for a view, item by item.
use Rattle.step_replay.proofs.Common.{◌≡◌, ◌≤◌, ◌<◌, ℕ, ◌+◌, ◌-◌, nat_le, Bool, true, false, ◌&&◌}
use Rattle.step_replay.proofs.Common.{not, if◌then◌else◌, List, [], ◌∷◌, ◌++◌, length, get_or}
use Rattle.step_replay.proofs.Common.{replicate, take, Option, None, IfSome, option_map, refl, sym}
use Rattle.step_replay.proofs.Common.{ap, ◌∙◌, subst, arith, take_all, take_more, common_steps}
use Rattle.step_replay.proofs.Common.{fold-append, entry_in, Settled, DealerRow, Ask, Close}
use Rattle.step_replay.proofs.Common.{DeskEvents, with_event, desk_after, asked_word, DealerEvent}
use Rattle.step_replay.proofs.Common.{Due, ViewState, after_due, answer_to, dealer_view}
use Rattle.step_replay.proofs.Common.{is_withdrawn_at, no_room, view_after, with_event_at_desk}
use Rattle.step_replay.proofs.Common.{AreWordsOf, GrowsByEvents, IsOfRow, Row, StandsFor}
use Rattle.step_replay.proofs.Common.{with_asked, with_wish}
use Rattle.std.proofs.lemmas.List.{get_or-replicate}
use Rattle.quote_word.specs.declared.settled.Settled.TheVariants.{Lifted}
use Rattle.dealer_desk.specs.DealerDesk.{may_close, with_notice}
use Rattle.dealer_desk.specs.declared.events.DealerEvent.TheVariants as event
use Rattle.step_replay.specs.declared.dues.Due.TheVariants as due
use Rattle.step_replay.specs.DealerView.{sent_at, view_at_start}
use Rattle.step_replay.specs.RowOfWords.{Happens, settlement_in, with_lifting}
use Rattle.step_replay.proofs.RowLemmas.{asked_stands, asks_at, unasked, lifting_desk}
use Rattle.step_replay.proofs.RowLemmas.{lifting_words}
use Rattle.step_replay.specs.NoteViews.{dealer_note_view, notes_at}

-- Items.

-- an event that asks the word that the desk asks then, if it asks one
module _ (grows : GrowsByEvents) (asked : DeskEvents → Option ℕ)
    (more : Option Settled → DealerEvent)
    (asks : (desk : DeskEvents) (settlement : Option Settled)
    → asks_at desk (more settlement) ≡ asked_word (asked desk) settlement)
    (desk after : DeskEvents) (words words_after : Row) (count : length words ≡ desk.row.quotes)
    (within : IfSome (asked desk) (IsOfRow desk.row.quotes))
    (after_is : after ≡ with_event desk (more (option_map (settlement_in words) (asked desk))))
    (words_are : words_after ≡ with_asked words (asked desk)) where
  pub asking_stands : (view : ViewState) → StandsFor view desk words
      → StandsFor (with_event_at_desk view (more (option_map (answer_to view) (asked view.desk))))
      after words_after
  asking_stands view stands =
      let same = stands.desk_is in
      let now = asked_stands grows view words (asked view.desk) more (asks view.desk)
      (subst (λ (d : DeskEvents). length words ≡ d.row.quotes) same count)
      (subst (λ (d : DeskEvents). IfSome (asked d) (IsOfRow d.row.quotes)) same within)
      stands.words_are in
      let event = more (option_map (answer_to view) (asked view.desk)) in
      record {
        desk_is = after_is
            ∙ ap (λ (d : DeskEvents).
            with_event d (more (option_map (settlement_in words) (asked d)))) same
            ∙ now.desk_is;
        words_are = subst (AreWordsOf (with_event_at_desk view event))
            (sym (words_are ∙ ap (λ (d : DeskEvents). with_asked words (asked d)) same))
            now.words_are;
      }

-- a request that is shown
pub shown_happens : GrowsByEvents → (desk after : DeskEvents) (words : Row) (ask : Ask) (moment : ℕ)
    → after ≡ with_event desk (event.Shown no_room ask moment)
    → Happens (due.Shown ask moment) (record { desk = desk; words = words })
    (record { desk = after; words = words })
unfolding after_due
shown_happens grows desk after words ask moment after_is view stands = record {
  desk_is = after_is
      ∙ ap (λ (d : DeskEvents). with_event d (event.Shown no_room ask moment)) stands.desk_is;
  words_are = unasked grows view words (event.Shown no_room ask moment) refl stands.words_are;
}

-- a notice, where one is due or not
notice_words : GrowsByEvents → (view : ViewState) (words : Row) (more : DealerEvent) (may : Bool)
    → asks_at view.desk more ≡ [] → AreWordsOf view words
    → AreWordsOf (record view { desk = if may then with_event view.desk more else view.desk }) words
notice_words grows view words more true asks are = unasked grows view words more asks are
notice_words grows view words more false asks are = are

pub closed_happens : GrowsByEvents → (desk after : DeskEvents) (words : Row)
    → (request : ℕ) (close : Close) (moment : ℕ)
    → after ≡ with_notice desk request close moment
    → Happens (due.Closed request close moment) (record { desk = desk; words = words })
    (record { desk = after; words = words })
unfolding after_due
closed_happens grows desk after words request close moment after_is view stands = record {
  desk_is = after_is
      ∙ ap (λ (d : DeskEvents). with_notice d request close moment) stands.desk_is;
  words_are = notice_words grows view words (event.Told request close moment)
      (may_close view.desk request) refl stands.words_are;
}

-- a lifting
pub lifted_happens : (desk : DeskEvents) (words words_after : Row) (quote : ℕ)
    → length words ≡ desk.row.quotes → words_after ≡ with_lifting words quote
    → Happens (due.Lifted quote) (record { desk = desk; words = words })
    (record { desk = desk; words = words_after })
unfolding after_due
lifted_happens desk words words_after quote count after_are view stands =
    let as_many = subst (λ (d : DeskEvents). length words ≡ d.row.quotes) stands.desk_is count in
    let has_word = nat_le 1 quote && nat_le quote view.desk.row.quotes in
    let withdrawn = is_withdrawn_at view.desk quote in
    let lifted = with_wish words quote Lifted in
    let same = ap (λ (n : ℕ). if nat_le 1 quote && nat_le quote n then lifted else words)
    (sym as_many) in
    record {
      desk_is = stands.desk_is ∙ lifting_desk view quote (has_word && not withdrawn);
      words_are = subst (AreWordsOf (after_due view (due.Lifted quote))) (same ∙ sym after_are)
          (lifting_words view words quote has_word withdrawn refl refl as_many stands.words_are);
    }

-- A list, item by item.

-- at the start every word is open
pub start_stands : (date : List ℕ) (row : DealerRow) (desk : DeskEvents) (words : Row)
    → desk ≡ record { date = date; row = row; events = [] }
    → words ≡ replicate row.quotes None
    → StandsFor (view_at_start date row) desk words
unfolding desk_after
start_stands date row desk words desk_is words_are = record {
  desk_is = desk_is;
  words_are = λ quote within.
      let low : 1 ≤ quote = within.0 in
      let high : quote ≤ row.quotes = within.1 in
      let below : quote - 1 < row.quotes = omega arith in
      ap (λ (entries : Row). entry_in entries (quote - 1)) words_are
      ∙ get_or-replicate row.quotes (quote - 1) None None below;
}

-- one item more
pub item_stands : (date : List ℕ) (row : DealerRow) (dues : List Due) (place : ℕ) (item : Due)
    → (desk : DeskEvents) (words : Row) → place < length dues → item ≡ get_or dues place item
    → StandsFor (after_due (view_after date row (take place dues)) item) desk words
    → StandsFor (view_after date row (take (place + 1) dues)) desk words
item_stands date row dues place item desk words within is stands =
    let more : take (place + 1) dues ≡ take place dues ++ item ∷ [] = grind (arith, common_steps) in
    rw (more, fold-append) stands

-- the whole list
pub all_sent : (date : List ℕ) (row : DealerRow) (dues : List Due) (place : ℕ)
    → (desk : DeskEvents) (words : Row) → length dues ≤ place
    → StandsFor (view_after date row (take place dues)) desk words
    → sent_at desk ≡ dealer_view date row dues
all_sent date row dues place desk words done stands =
    ap sent_at stands.desk_is ∙ ap (dealer_view date row) (take_all place dues done)

-- what is noted with it
pub all_noted : (date : List ℕ) (row : DealerRow) (dues : List Due) (place : ℕ)
    → (desk : DeskEvents) (words : Row) → length dues ≤ place
    → StandsFor (view_after date row (take place dues)) desk words
    → notes_at desk ≡ dealer_note_view date row dues
all_noted date row dues place desk words done stands =
    ap notes_at stands.desk_is ∙ ap (dealer_note_view date row) (take_all place dues done)
