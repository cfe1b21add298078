-- The duties that actors left, which of them an actor does next, and what was done then.
use Rattle.laws_days.proofs.Common.{List, ℕ, [], ap, arith, count_by, drop, false, inl, inr}
use Rattle.laws_days.proofs.Common.{length, refl, subst, suc, sym, take, true, zero, ◌++◌, ◌+◌}
use Rattle.laws_days.proofs.Common.{◌∙◌, ◌∷◌, ◌≡◌, ◌≤◌, ◌⊎◌, cases_Bool, append-nil, length-append}
use Rattle.laws_days.proofs.Common.{filter_map-append, Duty, Actor, Effect, AuditTrail, duty_of}
use Rattle.laws_days.proofs.Common.{is_same_actor, pending, nothing_of}
use Rattle.std.proofs.lemmas.List.{take-append-le}
use Rattle.laws_days.specs.DayParts.{caused_by, left_by}
use Rattle.step_replay.specs.PlaceLemmas.{everything_of}
use Rattle.step_replay.specs.QueueLemmas.{one_actor, same_actor, same_either, turn_counted}
use Rattle.laws_days.proofs.VenueParts.{did_in, duties_by}

-- the first that is left of a list is taken next
next_of : {A : Type 0} (n : ℕ) (xs : List A) (x : A) (rest : List A) → drop n xs ≡ x ∷ rest
    → (suc n ≤ length xs) × (take (suc n) xs ≡ take n xs ++ x ∷ [])
next_of zero [] x rest is = cc
next_of zero (y ∷ xs) x rest is =
    let least : 1 ≤ length (y ∷ xs) = omega arith in (least, ap (take 1) is)
next_of (suc n) [] x rest is = cc
next_of (suc n) (y ∷ xs) x rest is =
    let later = next_of n xs x rest is in
    let within : suc n ≤ length xs = later.0 in
    let more : suc (suc n) ≤ length (y ∷ xs) = omega arith in
    (more, ap (λ l. y ∷ l) later.1)

-- how many turns an actor had
abbrev pub turns_of : Actor → List Actor → ℕ
turns_of other done = count_by (is_same_actor other) done

-- What happens.

-- an actor does something: beside its queue, or the first duty of it as its turn
pub data Doing (venue : AuditTrail) (by : Actor) : Type 0 where
  beside : Doing venue by
  turn : (left : Duty) (rest : List Duty) → pending by venue ≡ left ∷ rest → Doing venue by

module _ (venue : AuditTrail) (by : Actor) where
  -- the duty that is done, and the turns then
  abbrev pub doing_now : Doing venue by → List Duty
  doing_now beside = []
  doing_now (turn left rest is) = left ∷ []

  abbrev pub turns_then : Doing venue by → List Actor
  turns_then beside = venue.done
  turns_then (turn left rest is) = venue.done ++ by ∷ []

  -- a venue after an effect
  abbrev pub venue_with : Effect → Doing venue by → AuditTrail
  venue_with effect doing = record {
    facts = venue.facts ++ effect.facts;
    caused = venue.caused ++ left_by by effect.duties;
    done = turns_then doing;
  }

  module _ (effect : Effect) where
    -- what an actor left and did then: what it had, and, if it is the one, what is left and done
    pub record Grown (doing : Doing venue by) (other : Actor) : Type 0 where
      pub added : List Duty
      pub also : List Duty
      pub left : duties_by other (venue_with effect doing).caused
          ≡ duties_by other venue.caused ++ added
      pub did : did_in (venue_with effect doing) other ≡ did_in venue other ++ also
      pub within : turns_of other (turns_then doing)
          ≤ length (duties_by other (venue_with effect doing).caused)
      pub own : ((added ≡ []) × (also ≡ []))
          ⊎ ((by ≡ other) × (added ≡ effect.duties) × (also ≡ doing_now doing))

    pub own_left : duties_by by (venue.caused ++ left_by by effect.duties)
        ≡ duties_by by venue.caused ++ effect.duties
    own_left =
        filter_map-append (duty_of by) venue.caused (left_by by effect.duties)
        ∙ ap (λ l. duties_by by venue.caused ++ l)
        (everything_of (duty_of by) (caused_by by) (λ duty. rw (same_actor by) refl) effect.duties)

    -- its turns then are no more than it was left before, and so is what they do
    turned : turns_of by venue.done ≤ length (duties_by by venue.caused) → (doing : Doing venue by)
        → (turns_of by (turns_then doing) ≤ length (duties_by by venue.caused))
        × (take (turns_of by (turns_then doing)) (duties_by by venue.caused)
        ≡ did_in venue by ++ doing_now doing)
    turned within beside = (within, sym (append-nil (did_in venue by)))
    turned within (turn one rest is) =
        let more : turns_of by (venue.done ++ by ∷ []) ≡ turns_of by venue.done + 1 =
        turn_counted by by venue.done true (same_actor by) in
        let counted : turns_of by (venue.done ++ by ∷ []) ≡ suc (turns_of by venue.done) =
        omega arith in
        rw counted (next_of (turns_of by venue.done) (duties_by by venue.caused) one rest is)

    pub own_did : turns_of by venue.done ≤ length (duties_by by venue.caused)
        → (doing : Doing venue by)
        → did_in (venue_with effect doing) by ≡ did_in venue by ++ doing_now doing
    own_did within doing =
        let turned = turned within doing in
        rw own_left (take-append-le _ (duties_by by venue.caused) effect.duties turned.0 ∙ turned.1)

    module _ (other : Actor) (differs : is_same_actor by other ≡ false) where
      other_left : duties_by other (venue.caused ++ left_by by effect.duties)
          ≡ duties_by other venue.caused ++ []
      other_left =
          filter_map-append (duty_of other) venue.caused (left_by by effect.duties)
          ∙ ap (λ l. duties_by other venue.caused ++ l)
          (nothing_of (duty_of other) (caused_by by) (λ duty. rw differs refl) effect.duties)

      same_turns : (doing : Doing venue by)
          → turns_of other (turns_then doing) ≡ turns_of other venue.done
      same_turns beside = refl
      same_turns (turn one rest is) =
          let more : turns_of other (venue.done ++ by ∷ []) ≡ turns_of other venue.done + 0 =
          turn_counted by other venue.done false (same_either by other differs) in
          omega arith

      other_then : turns_of other venue.done ≤ length (duties_by other venue.caused)
          → (doing : Doing venue by) → Grown doing other
      other_then within doing = record {
        added = [];
        also = [];
        left = other_left;
        did = rw (same_turns doing, other_left, append-nil, append-nil) refl;
        within = rw (same_turns doing, other_left, append-nil) within;
        own = inl (refl, refl);
      }

    pub grown : (doing : Doing venue by) (other : Actor)
        → ((a : Actor) → turns_of a venue.done ≤ length (duties_by a venue.caused))
        → Grown doing other
    grown doing other within = elim (cases_Bool (is_same_actor by other)) [
      | inl same ↦ subst (Grown doing) (one_actor by other same)
          (record {
            added = effect.duties;
            also = doing_now doing;
            left = own_left;
            did = own_did (within by) doing;
            within = rw (own_left, length-append) (omega (arith, (turned (within by) doing).0));
            own = inr (refl, refl, refl);
          })
      | inr differs ↦ other_then other differs (within other) doing
    ]
