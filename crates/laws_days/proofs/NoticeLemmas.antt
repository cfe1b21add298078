-- A closing notice comes after its request was shown, and at most once; and as many requests as
-- rooms were shown.
use Rattle.laws_days.proofs.Common.{List, Some, ℕ, [], arith, false, filter, filter_map, inl, inr}
use Rattle.laws_days.proofs.Common.{is_some, length, refl, subst, true, ◌++◌, ◌∙◌, ◌∷◌, ◌≡◌, ◌≤◌}
use Rattle.laws_days.proofs.Common.{or-false, cases_Bool, eqb-true, or_parts, append-nil}
use Rattle.laws_days.proofs.Common.{append_assoc, length-append, filter_map-append}
use Rattle.laws_days.proofs.Common.{list_any-append, slice_get_within, list_any, RoomRef}
use Rattle.laws_days.proofs.Common.{Configuration, dealer_numbered, DealerRow, DealerFact, Shown}
use Rattle.laws_days.proofs.Common.{Told, number_to_drop, request_numbered, tells, closable}
use Rattle.laws_days.proofs.Common.{event_facts, number_in, untold, dealer_verdict, settlement_of}
use Rattle.laws_days.proofs.Common.{audit_trail, facts_grown, rooms_grown, DealerEntry, book_by}
use Rattle.laws_days.proofs.Common.{facts_of, rooms_by, Each, Every, each_append, kept_by_all}
use Rattle.laws_days.proofs.Common.{IsKept, of_dealer, Step}
use Rattle.std.proofs.Math.Bool.{and-false}
use Rattle.std.proofs.lemmas.List.Elements.{filter-append}
use Rattle.dealer_desk.specs.declared.standing.Withdrawal.TheVariants as by
use Rattle.laws_days.proofs.PlainFacts.{IsPlain, settled_plain, verdict_plain}
use Rattle.laws_days.proofs.ShownRequests.{found, has_notice, noticed_push, number_place}
use Rattle.laws_days.proofs.ShownRequests.{request_within, shown_in, told_is, untold_is}

-- a notice stands behind the request that was shown
abbrev pub IsAfterShown : List DealerFact → DealerFact → List DealerFact → Type 0
IsAfterShown before fact after =
    (request : ℕ) → tells request fact ≡ true → is_some (found request 1 before) ≡ true

-- what is kept of the facts of a desk, and of the rooms of the requests that they show
pub record Noticed (facts : List DealerFact) (rooms : List RoomRef) : Type 0 where
  pub after_shown : Each IsAfterShown [] facts
  pub told_as : (request : ℕ) → list_any (tells request) facts ≡ has_notice (found request 1 facts)
  pub once : (request : ℕ) → length (filter (tells request) facts) ≤ 1
  pub counted : length rooms ≡ length (filter_map shown_in facts)

-- and so of a trail
abbrev pub IsNoticed : List DealerEntry → Type 0
IsNoticed trail = Noticed (facts_of trail) (rooms_by trail)

-- a list in which none is
none_filtered : (request : ℕ) (facts : List DealerFact) → list_any (tells request) facts ≡ false
    → filter (tells request) facts ≡ []
none_filtered request [] none = refl
none_filtered request (fact ∷ facts) none =
    let parts = or_parts (tells request fact) (list_any (tells request) facts) none in
    rw (parts.0) (none_filtered request facts parts.1)

-- One fact more, that tells of a request of which a notice may be sent, if it tells of one.

module _ (facts : List DealerFact) (rooms : List RoomRef) (fact : DealerFact)
    (before : Noticed facts rooms)
    (may : (request : ℕ) → tells request fact ≡ true
    → is_some (untold (found request 1 facts)) ≡ true) where
  noticed_then : (more : List RoomRef) → length more ≡ length (filter_map shown_in (fact ∷ []))
      → Noticed (facts ++ fact ∷ []) (rooms ++ more)
  noticed_then more as_many = record {
    after_shown = each_append IsAfterShown (λ front one rest last holds. holds) [] facts (fact ∷ [])
        before.after_shown (λ request is. (untold_is _ (may request is)).1, tt);
    told_as = λ request.
        rw (list_any-append, or-false, noticed_push request 1 facts fact, before.told_as request)
        (elim (cases_Bool (tells request fact)) [
          | inl now ↦ rw (now, (untold_is _ (may request now)).1) refl
          | inr none ↦ rw (none, and-false) refl
        ]);
    once = λ request. elim (cases_Bool (tells request fact)) [
      | inl now ↦
          let none = before.told_as request ∙ (untold_is _ (may request now)).2 in
          rw (filter-append, none_filtered request facts none, now) (omega arith)
      | inr none ↦ rw (filter-append, none, append-nil) (before.once request)
    ];
    counted =
        rw (filter_map-append, length-append, length-append, before.counted, as_many) refl;
  }

-- more facts, none of which tells or shows anything
plain_silent : (request : ℕ) (fact : DealerFact) → IsPlain fact → tells request fact ≡ false
plain_silent request (Told told close moment) plain = cc
plain_silent request fact plain = refl

plain_unshown : (fact : DealerFact) → IsPlain fact → filter_map shown_in (fact ∷ []) ≡ []
plain_unshown (Shown ask moment) plain = cc
plain_unshown fact plain = refl

noticed_still : (facts more : List DealerFact) (rooms : List RoomRef) → Noticed facts rooms
    → Every IsPlain more → Noticed (facts ++ more) rooms
noticed_still facts [] rooms before plain = rw append-nil before
noticed_still facts (fact ∷ more) rooms before plain =
    subst (λ l. Noticed l rooms) (append_assoc facts (fact ∷ []) more)
    (noticed_still (facts ++ fact ∷ []) more rooms
    (rw append-nil at (noticed_then facts rooms fact before
    (λ request is. cc (plain_silent request fact plain.0, is)) []
    (rw (plain_unshown fact plain.0) refl))) plain.1)

pub noticed_is_kept : (date : List ℕ) (row : DealerRow) → IsKept date row IsNoticed
unfolding event_facts closable request_numbered
noticed_is_kept date row = record {
  own = λ trail moment bytes before.
      let v = dealer_verdict date row (book_by trail) moment bytes in
      rw (facts_grown, rooms_grown, append-nil (rooms_by trail))
      (noticed_still (facts_of trail) _ (rooms_by trail) before
      (refl, verdict_plain v (settlement_of trail v)));
  drop = λ trail last moment before.
      rw (facts_grown, rooms_grown, append-nil (rooms_by trail))
      (noticed_still (facts_of trail) _ (rooms_by trail) before
      (refl, settled_plain (number_to_drop (book_by trail) last) by.Cancel _));
  shown = λ trail room ask moment before.
      rw (facts_grown, rooms_grown)
      (noticed_then (facts_of trail) (rooms_by trail) (Shown ask moment) before
      (λ request is. cc) (room ∷ []) refl);
  told = λ trail request close moment may before.
      rw (facts_grown, rooms_grown, may)
      (noticed_then (facts_of trail) (rooms_by trail) (Told request close moment) before
      (λ other is. rw (eqb-true request other is) at may) [] refl);
  lifted = λ trail quote within stays before.
      rw (filter_map-append, append-nil, filter_map-append, append-nil) before;
}

-- a request that was shown in a room, and may not be closed, was told
pub told_if_closed : (trail : List DealerEntry) → IsNoticed trail → (room : RoomRef) (number : ℕ)
    → number_in (rooms_by trail) room ≡ Some number
    → is_some (closable (book_by trail) number) ≡ false
    → list_any (tells number) (facts_of trail) ≡ true
unfolding closable request_numbered
told_if_closed trail noticed room number is closed =
    let place = number_place 1 (rooms_by trail) room number is in
    let within = slice_get_within (rooms_by trail) place.0 room place.2 in
    let counted = noticed.counted in
    noticed.told_as number
    ∙ told_is _ (request_within 1 (facts_of trail) number (omega arith) (omega arith)) closed

-- at the start of the day nothing was told
pub start_noticed : Noticed [] []
start_noticed = record {
  after_shown = tt;
  told_as = λ request. refl;
  once = λ request. omega arith;
  counted = refl;
}

pub are_noticed : (config : Configuration) (steps : List Step) (dealer : ℕ) (row : DealerRow)
    → dealer_numbered config dealer ≡ Some row
    → IsNoticed (of_dealer dealer (audit_trail config steps).facts)
are_noticed config steps dealer row is =
    kept_by_all config dealer row is IsNoticed (noticed_is_kept config.date row) start_noticed steps
