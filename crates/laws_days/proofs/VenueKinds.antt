-- What each kind of effect brings for what stands in a venue: nothing, an event at a dealer's desk,
-- and what happens in a room.
use Rattle.laws_days.proofs.Common.{Bool, List, None, Some, ℕ, [], false, if◌then◌else◌, inl, inr}
use Rattle.laws_days.proofs.Common.{map, not, refl, subst, sym, true, ◌++◌, ◌==◌, ◌∙◌, ◌∷◌, ◌≡◌}
use Rattle.laws_days.proofs.Common.{and_parts, both_ways, cases_Bool, eqb-true, not-true}
use Rattle.laws_days.proofs.Common.{append-nil, filter_map-append, same_Some, list_any}
use Rattle.laws_days.proofs.Common.{are_distinct, Duty, RoomRef, dealer_numbered, DealerRow, Shown}
use Rattle.laws_days.proofs.Common.{Told, fact_if, RoomFact, Dealer, Effect, acting_dealer}
use Rattle.laws_days.proofs.Common.{dealer_of, done_by, nothing, AtDesk, DealerEntry, ShownIn}
use Rattle.laws_days.proofs.Common.{Every, every_weaker, In, investor_in_room, own_trail, AtDealer}
use Rattle.laws_days.proofs.Common.{Fact, InRoom, of_investor, of_room}
use Rattle.laws_days.specs.KeptItems.{every_in}
use Rattle.step_replay.specs.PlaceLemmas.{investor_at_dealer, other_trail}
use Rattle.laws_days.proofs.ListLemmas.{every_map, in_both, in_found, in_one, named_in}
use Rattle.laws_days.proofs.PlainFacts.{ArePlain, AreQuiet, is_plain_entry, is_quiet, plain_names}
use Rattle.laws_days.proofs.PlainFacts.{plain_rooms, quiet_trail}
use Rattle.laws_days.proofs.VenueInvariant.{ByDealer, Did, LeftOk, MarketOk}
use Rattle.laws_days.proofs.VenueKnown.{each_holds, needs}
use Rattle.laws_days.proofs.VenueParts.{InOrder, Mark, Needs, Still, WasLeft, investor_facts_grown}
use Rattle.laws_days.proofs.VenueParts.{later_same, mark_of, marks, marks_both}
use Rattle.laws_days.proofs.VenueSteps.{Brings, DeskAdds, DutyThen, FactThen, Here, LeftThen, day}
use Rattle.laws_days.proofs.VenueSteps.{queue, trail_of}

module _ (h : Here) where
  -- the facts of a room
  abbrev pub known : RoomRef → List RoomFact
  known room = of_room room h.venue.facts

  -- what a duty's actor did as its turn was had, whatever the effect
  abbrev pub DoneNow : Duty → Type 0
  DoneNow left = (effect : Effect) → Still (Did h.config left) (day h effect)

  -- a duty that may be left, and does nothing once
  abbrev pub Fine : Effect → Duty → Type 0
  Fine effect left = DutyThen h effect left × (mark_of left ≡ None)

  pub fine_left : (effect : Effect) (front duties : List Duty) → Every (Fine effect) duties
      → LeftThen h effect front duties
  fine_left effect front [] fine = tt
  fine_left effect front (left ∷ duties) fine =
      ((fine.0.0, rw (fine.0.1) tt), fine_left effect (front ++ left ∷ []) duties fine.1)

  pub same_markets : (more : List Fact) (investor : ℕ) → of_investor investor more ≡ []
      → MarketOk h.config (h.venue.facts ++ more) investor
  same_markets more investor none =
      rw (investor_facts_grown h.venue.facts more investor, none, append-nil)
      (h.stood.markets investor)

  -- entries that neither show a room nor tell anything
  plain_adds : (dealer : ℕ) (row : DealerRow) (entries : List DealerEntry)
      → dealer_numbered h.config dealer ≡ Some row → ArePlain entries
      → DeskAdds h dealer row entries
  plain_adds dealer row entries is plain = (
    rw (filter_map-append, plain_rooms entries plain, append-nil)
        (h.stood.desks dealer row is).numbered,
    plain_names h.config.date row (trail_of h dealer) entries plain,
  )

  -- an effect of which each fact of a dealer is plain
  pub quiet_brings : (effect : Effect) → AreQuiet effect.facts
      → Every (FactThen h effect) effect.facts → LeftThen h effect (queue h) effect.duties
      → ((investor : ℕ) → MarketOk h.config (day h effect).facts investor) → Brings h effect
  quiet_brings effect quiet facts left markets = record {
    facts = facts;
    left = left;
    adds = λ dealer row is.
        plain_adds dealer row _ is (quiet_trail dealer effect.facts quiet);
    markets = markets;
  }

  pub nothing_brings : Brings h nothing
  unfolding of_investor
  nothing_brings = quiet_brings nothing tt tt tt (λ investor. same_markets [] investor refl)

  -- an effect where its test holds, and where it does not
  pub when_brings : (b : Bool) (effect : Effect) → (b ≡ true → Brings h effect)
      → Brings h (if b then effect else nothing)
  when_brings true effect brings = brings refl
  when_brings false effect brings = nothing_brings

  -- At a dealer.

  pub acting_brings : (who : ByDealer h.config h.by) (action : Dealer → Effect)
      → Brings h (action (dealer_of who.dealer who.row))
      → Brings h (done_by (acting_dealer h.config h.by) action)
  acting_brings who action brings = simp (who.by_is, who.row_is) brings

  pub plain_ok : (effect : Effect) (dealer : ℕ) (entries : List DealerEntry) → ArePlain entries
      → Every (λ entry. FactThen h effect (AtDealer dealer entry)) entries
  plain_ok effect dealer entries plain =
      every_weaker (λ entry. is_plain_entry entry ≡ true)
      (λ entry. FactThen h effect (AtDealer dealer entry)) one_ok entries plain
    where
      one_ok : (entry : DealerEntry) → is_plain_entry entry ≡ true
          → FactThen h effect (AtDealer dealer entry)
      one_ok (AtDesk (Told request close moment)) is = λ now later. cc
      one_ok (AtDesk (Shown ask moment)) is = λ now later. cc
      one_ok (ShownIn room) is = λ now later. cc
      one_ok entry is = λ now later. tt

  -- what an event adds at a dealer's desk
  abbrev pub at_desk : ℕ → List DealerEntry → List Duty → Effect
  at_desk dealer entries duties =
      record { facts = map (AtDealer dealer) entries; duties = duties }

  module _ (dealer : ℕ) (row : DealerRow) (is : dealer_numbered h.config dealer ≡ Some row)
      (entries : List DealerEntry) (duties : List Duty) where
    pub desk_brings : DeskAdds h dealer row entries
        → Every (λ entry. FactThen h (at_desk dealer entries duties) (AtDealer dealer entry))
        entries
        → Every (Fine (at_desk dealer entries duties)) duties
        → Brings h (at_desk dealer entries duties)
    desk_brings adds entry_ok fine = record {
      facts = every_in _ (FactThen h _) (AtDealer dealer) (λ entry ok. ok) entries entry_ok;
      left = fine_left (at_desk dealer entries duties) (queue h) duties fine;
      adds = λ other row_too is_too. elim (cases_Bool (dealer == other)) [
        | inr differs ↦ rw (other_trail other dealer differs entries)
            (plain_adds other row_too [] is_too tt)
        | inl test ↦
            let same = eqb-true dealer other test in
            let rows : row ≡ row_too = same_Some row row_too (sym is ∙ rw same is_too) in
            rw (← same, ← rows, own_trail dealer entries) adds
      ];
      markets = λ investor.
          same_markets (map (AtDealer dealer) entries) investor
          (investor_at_dealer investor dealer entries);
    }

    -- the same, where it tells nothing and shows no room
    pub desk_plain : ArePlain entries → Every (Fine (at_desk dealer entries duties)) duties
        → Brings h (at_desk dealer entries duties)
    desk_plain plain fine =
        desk_brings (plain_adds dealer row entries is plain)
        (plain_ok (at_desk dealer entries duties) dealer entries plain) fine

  -- In a room.

  -- what happens in a room
  abbrev pub in_it : RoomRef → List RoomFact → List Duty → Effect
  in_it room added duties = record { facts = map (InRoom room) added; duties = duties }

  pub room_brings : (room : RoomRef) (added : List RoomFact) (duties : List Duty)
      → Every (λ fact. FactThen h (in_it room added duties) (InRoom room fact)) added
      → LeftThen h (in_it room added duties) (queue h) duties
      → Brings h (in_it room added duties)
  room_brings room added duties facts_ok left =
      quiet_brings (in_it room added duties)
      (every_map (λ fact. is_quiet fact ≡ true) (InRoom room) added (λ fact is. refl))
      (every_in _ (FactThen h _) (InRoom room) (λ fact ok. ok) added facts_ok) left
      (λ investor. same_markets (map (InRoom room) added) investor
      (investor_in_room investor room added))

  -- where a step takes place in it, what its test decides
  pub where_brings : (room : RoomRef) (may b : Bool) (fact : RoomFact) (left : Bool → List Duty)
      → (b ≡ true → Brings h (in_it room (fact ∷ []) (left true)))
      → Brings h (in_it room [] (left false))
      → Brings h (if may then in_it room (fact_if b fact) (left b) else nothing)
  where_brings room may true fact left so other = when_brings may _ (λ test. so refl)
  where_brings room may false fact left so other = when_brings may _ (λ test. other)

  -- Queues.

  -- what a duty in the queue that does this once needs
  pub queued : (mark : Mark) → WasLeft h.venue h.by mark → Needs h.venue.facts (Some mark)
  queued mark is =
      let found = in_found mark_of mark (queue h) is in
      let there = each_holds (LeftOk h.config h.venue h.by) found.0 [] (queue h)
      (h.stood.queues h.by).left found.2 in
      rw (found.1) at (needs h.config h.by h.venue found.0
      (there.2.0 h.venue (later_same h.venue)))

  -- one duty a dealer, none twice
  module _ (effect : Effect) (make : ℕ → Duty) (mark : ℕ → Mark)
      (is : (dealer : ℕ) → mark_of (make dealer) ≡ Some (mark dealer))
      (apart : (dealer other : ℕ) → mark dealer ≡ mark other → dealer ≡ other)
      (plain : (before : List Mark) (dealer : ℕ)
      → Still (InOrder before (mark dealer)) (day h effect)) where
    once_behind : (front : List Duty) (dealers : List ℕ) → are_distinct dealers ≡ true
        → ((dealer : ℕ) → In dealer dealers → DutyThen h effect (make dealer))
        → ((dealer : ℕ) → In dealer dealers → In (mark dealer) (marks front) → ⊥)
        → LeftThen h effect front (map make dealers)
    once_behind front [] distinct ok clear = tt
    once_behind front (dealer ∷ dealers) distinct ok clear =
        let parts = and_parts (not (list_any (λ (named : ℕ). named == dealer) dealers))
        (are_distinct dealers) distinct in (
          (ok dealer (inl refl), rw (is dealer) (clear dealer (inl refl), plain (marks front) dealer)),
          once_behind (front ++ make dealer ∷ []) dealers parts.1
              (λ other among. ok other (inr among))
              (λ other among stands. elim (in_both (mark other) (marks front) (mark dealer ∷ [])
              (rw (marks_both front (make dealer ∷ []), is dealer) at stands)) [
                | inl before ↦ clear other (inr among) before
                | inr here ↦ both_ways _ (not-true _ parts.0) (named_in dealer dealers
                    (subst (λ (d : ℕ). In d dealers)
                    (sym (apart dealer other (in_one (mark other) (mark dealer) here))) among))
              ]),
        )

    pub each_once : (front : List Duty) → marks front ≡ marks (queue h) → (dealers : List ℕ)
        → are_distinct dealers ≡ true
        → ((dealer : ℕ) → Needs h.venue.facts (Some (mark dealer)) → ⊥)
        → ((dealer : ℕ) → In dealer dealers → DutyThen h effect (make dealer))
        → LeftThen h effect front (map make dealers)
    each_once front same dealers distinct free ok =
        once_behind front dealers distinct ok
        (λ dealer among left. free dealer (queued (mark dealer) (rw same at left)))
