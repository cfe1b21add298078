-- The due list that the code keeps, from the events of a desk and the liftings, grows as that of the
-- dealer's trail does.
use Rattle.step_replay.proofs.Common.{◌≡◌, ◌≤◌, ℕ, ◌+◌, ◌-◌, List, [], ◌∷◌, ◌++◌, map, filter_map}
use Rattle.step_replay.proofs.Common.{length, take, drop, get_or, Some, refl, subst, sym, ap, ◌∙◌}
use Rattle.step_replay.proofs.Common.{arith, slice_get, with_item, get_or_from_slice_get}
use Rattle.step_replay.proofs.Common.{append_assoc, map-append, length-drop, length-append}
use Rattle.step_replay.proofs.Common.{filter_map-append, DealerRow, DeskEvents, event_facts}
use Rattle.step_replay.proofs.Common.{DealerEvent, DealerEntry, Lifted, book_by, entries_of}
use Rattle.step_replay.proofs.Common.{due_by_fact, due_by_event, dues_behind, AreWithin, Noted}
use Rattle.step_replay.proofs.Common.{NotedAt, Due, DealerPlace, Floor, Lifting}
use Rattle.std.proofs.Math.Seq.{take-length, drop-length}
use Rattle.std.proofs.lemmas.List.{drop-append-le, take-append-le}
use Rattle.step_replay.specs.DueList.{due_by, due_list}
use Rattle.step_replay.specs.Liftings.{lifting_at}
use Rattle.step_replay.specs.declared.dues.Due.TheVariants as due
use Rattle.step_replay.specs.DealerGrowth.{due_grown}
use Rattle.step_replay.specs.EachLemmas.{every_both, every_weaker}

-- One event more.

events_push : (count : ℕ) (events : List DealerEvent) (more : DealerEvent) (liftings : List Lifting)
    → count ≤ length events → AreWithin (length events) liftings
    → dues_behind count (events ++ more ∷ []) liftings
    ≡ dues_behind count events liftings ++ due_by_event more ∷ []
events_push count events more [] least within =
    ap (map due_by_event) (drop-append-le count events (more ∷ []) least)
    ∙ map-append due_by_event (drop count events) (more ∷ [])
events_push count events more (lifting ∷ later) least within =
    let here : lifting.after ≤ length events = within.0 in
    let size : length (drop count events) ≡ length events - count = length-drop count events in
    let fits : lifting.after - count ≤ length (drop count events) = omega arith in
    let behind = events_push lifting.after events more later here within.1 in
    rw (drop-append-le, take-append-le, behind, append_assoc) refl

-- One lifting more.

-- a lifting that stands behind all events is the last of what was due
liftings_push : (count : ℕ) (events : List DealerEvent) (liftings : List Lifting) (quote : ℕ)
    → dues_behind count events
    (liftings ++ record { quote = quote; after = length events } ∷ [])
    ≡ dues_behind count events liftings ++ due.Lifted quote ∷ []
liftings_push count events [] quote =
    rw (← length-drop count events, take-length (drop count events), drop-length events) refl
liftings_push count events (lifting ∷ later) quote =
    let behind = liftings_push lifting.after events later quote in
    rw (behind, append_assoc) refl

-- At a dealer's place.

-- what is due by the facts of an event is what is due by the event
abbrev pub IsDueSo : List ℕ → DealerRow → List DealerEntry → DealerEvent → Type 0
IsDueSo date row trail more =
    filter_map due_by_fact (event_facts date row (book_by trail) more) ≡ due_by_event more ∷ []

module _ (date : List ℕ) (row : DealerRow) (trail : List DealerEntry) (place : DealerPlace)
    (dues_are : dues_behind 0 place.desk.events place.liftings.items ≡ due_list trail)
    (within : AreWithin (length place.desk.events) place.liftings.items) where
  module _ (more : DealerEvent) where
    pub dues_after_event : IsDueSo date row trail more
        → dues_behind 0 (place.desk.events ++ more ∷ []) place.liftings.items
        ≡ due_list (trail ++ entries_of date row trail more)
    dues_after_event so =
        let least : 0 ≤ length place.desk.events = omega arith in
        events_push 0 place.desk.events more place.liftings.items least within
        ∙ ap (λ (l : List Due). l ++ due_by_event more ∷ []) dues_are
        ∙ sym (due_grown date row trail more (due_by_event more) so)

    pub within_after_event : AreWithin (length (place.desk.events ++ more ∷ [])) place.liftings.items
    within_after_event = every_weaker (λ (lifting : Lifting). lifting.after ≤ length place.desk.events)
        (λ (lifting : Lifting). lifting.after ≤ length (place.desk.events ++ more ∷ []))
        (λ lifting least. omega (arith, length-append place.desk.events (more ∷ [])))
        place.liftings.items within

  module _ (quote : ℕ) (now : DealerPlace) (noted : Noted quote place now) where
    pub dues_after_lifting : dues_behind 0 now.desk.events now.liftings.items
        ≡ due_list (trail ++ Lifted quote ∷ [])
    dues_after_lifting =
        let pushed = liftings_push 0 place.desk.events place.liftings.items quote in
        rw (noted.desk_is, noted.liftings_are, pushed, dues_are)
        (sym (filter_map-append due_by trail (Lifted quote ∷ [])))

    pub within_after_lifting : AreWithin (length now.desk.events) now.liftings.items
    within_after_lifting =
        let least : length place.desk.events ≤ length place.desk.events = omega arith in
        subst (λ (d : DeskEvents). AreWithin (length d.events) now.liftings.items) (sym noted.desk_is)
        (subst (AreWithin (length place.desk.events)) (sym noted.liftings_are)
        (every_both (λ (lifting : Lifting). lifting.after ≤ length place.desk.events)
        place.liftings.items (lifting_at place quote ∷ []) within (least, tt)))

-- What the code notes, by the owner and the place that it found.
pub noted_at : (floor : Floor) (word : ℕ) (owner : ℕ) (found now : DealerPlace) (before : ℕ)
    → owner ≡ get_or floor.owners.items word owner
    → found ≡ get_or floor.dealers.items owner found
    → before ≡ word - found.first_word → Noted (before + 1) found now
    → (number : ℕ) (place : DealerPlace)
    → slice_get floor.owners.items word ≡ Some number
    → slice_get floor.dealers.items number ≡ Some place
    → NotedAt number (word - place.first_word + 1) place floor
    (record floor { dealers = with_item floor.dealers owner now })
noted_at floor word owner found now before owner_is found_is before_is noted number place owned at =
    let owners : owner ≡ number =
    owner_is ∙ get_or_from_slice_get floor.owners.items word number owner owned in
    let places : found ≡ place =
    found_is
    ∙ ap (λ (n : ℕ). get_or floor.dealers.items n found) owners
    ∙ get_or_from_slice_get floor.dealers.items number place found at in
    record {
      now = now;
      is_noted = subst (λ (p : DealerPlace). Noted (word - p.first_word + 1) p now) places
          (subst (λ (n : ℕ). Noted (n + 1) found now) before_is noted);
      after_is = ap (λ (n : ℕ). record floor { dealers = with_item floor.dealers n now }) owners;
    }
