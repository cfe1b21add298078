-- A dealer's trail, event by event: its facts, what it was sent and what was due by it.
use Rattle.std.proofs.Common.{◌≡◌, ℕ, false, List, [], ◌∷◌, ◌++◌, map, filter_map, Option, refl, ap}
use Rattle.std.proofs.Common.{◌∙◌}
use Rattle.std.specs.List.{list_any}
use Rattle.std.proofs.lemmas.List.{append-nil}
use Rattle.std.proofs.lemmas.List.Elements.{filter_map-append}
use Rattle.std.proofs.lemmas.List.Folds.{list_any-append}
use Rattle.market_terms.specs.declared.rooms.RoomRef.{RoomRef}
use Rattle.dealer_desk.specs.DealerFacts.{DealerFact}
use Rattle.step_replay.specs.DealerTrail.{DealerEntry, AtDesk, ShownIn, Sent, fact_in, message_in}
use Rattle.step_replay.specs.DealerTrail.{room_in, lifts}
use Rattle.step_replay.specs.DueList.{due_by, due_by_fact}
use Rattle.step_replay.specs.PlaceLemmas.{nothing_of, everything_of}

-- what is found in each of some items
all_of : {A Y : Type 0} (h : DealerEntry → Option Y) (f : A → DealerEntry) (g : A → Option Y)
    → ((x : A) → h (f x) ≡ g x) → (xs : List A) → filter_map h (map f xs) ≡ filter_map g xs
all_of h f g each [] = refl
all_of h f g each (x ∷ xs) = rw (each x, all_of h f g each xs) refl

-- what is found in three parts
in_parts : {Y : Type 0} (h : DealerEntry → Option Y) (a b c : List DealerEntry)
    → filter_map h (a ++ b ++ c) ≡ filter_map h a ++ filter_map h b ++ filter_map h c
in_parts h a b c =
    filter_map-append h (a ++ b) c
    ∙ ap (λ l. l ++ filter_map h c) (filter_map-append h a b)

-- What an event adds.

module _ (facts : List DealerFact) (rooms : List RoomRef) (messages : List (List ℕ)) where
  -- the entries of it
  abbrev added : List DealerEntry
  added = map AtDesk facts ++ map ShownIn rooms ++ map Sent messages

  pub facts_added : filter_map fact_in added ≡ facts
  facts_added =
      in_parts fact_in (map AtDesk facts) (map ShownIn rooms) (map Sent messages)
      ∙ rw (
        everything_of fact_in AtDesk (λ fact. refl) facts,
        nothing_of fact_in ShownIn (λ room. refl) rooms,
        nothing_of fact_in Sent (λ m. refl) messages,
      )
      (append-nil (facts ++ []) ∙ append-nil facts)

  pub sent_added : filter_map message_in added ≡ messages
  sent_added =
      in_parts message_in (map AtDesk facts) (map ShownIn rooms) (map Sent messages)
      ∙ rw (
        everything_of message_in Sent (λ m. refl) messages,
        nothing_of message_in ShownIn (λ room. refl) rooms,
        nothing_of message_in AtDesk (λ fact. refl) facts,
      ) refl

  pub due_added : filter_map due_by added ≡ filter_map due_by_fact facts
  due_added =
      in_parts due_by (map AtDesk facts) (map ShownIn rooms) (map Sent messages)
      ∙ rw (
        all_of due_by AtDesk due_by_fact (λ fact. refl) facts,
        nothing_of due_by ShownIn (λ room. refl) rooms,
        nothing_of due_by Sent (λ m. refl) messages,
      )
      (append-nil (filter_map due_by_fact facts ++ []) ∙ append-nil (filter_map due_by_fact facts))

  pub lifts_none : (quote : ℕ) → list_any (lifts quote) added ≡ false
  lifts_none quote =
      list_any-append (lifts quote) (map AtDesk facts ++ map ShownIn rooms) (map Sent messages)
      ∙ rw (
        list_any-append (lifts quote) (map AtDesk facts) (map ShownIn rooms),
        no_lift AtDesk (λ fact. refl) facts,
        no_lift ShownIn (λ room. refl) rooms,
        no_lift Sent (λ m. refl) messages,
      ) refl
    where
      no_lift : {A : Type 0} (f : A → DealerEntry) → ((x : A) → lifts quote (f x) ≡ false)
          → (xs : List A) → list_any (lifts quote) (map f xs) ≡ false
      no_lift f none [] = refl
      no_lift f none (x ∷ xs) = rw (none x, no_lift f none xs) refl

  pub rooms_added : filter_map room_in added ≡ rooms
  rooms_added =
      in_parts room_in (map AtDesk facts) (map ShownIn rooms) (map Sent messages)
      ∙ rw (
        everything_of room_in ShownIn (λ room. refl) rooms,
        nothing_of room_in AtDesk (λ fact. refl) facts,
        nothing_of room_in Sent (λ m. refl) messages,
      )
      (append-nil rooms)
