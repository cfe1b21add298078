-- What the walks over a day whose steps come one by one share.
use Rattle.std.proofs.Common.{◌≡◌, ◌<◌, ◌≤◌, ℕ, true, false, List, [], ◌∷◌, ◌++◌, drop, length, Option, Some}
use Rattle.std.proofs.Common.{None, refl, sym, ap, ◌∙◌, subst, inl, inr, arith, replicate}
use Rattle.std.proofs.lemmas.Bool.{cases_Bool, false≢true}
use Rattle.std.proofs.lemmas.List.{append-nil, append_assoc}
use Rattle.std.proofs.lemmas.List.Concat.{flat_map-append}
use Rattle.std.proofs.lemmas.Option.{slice_get_within}
use Rattle.market_terms.specs.declared.duties.Duty.{Duty}
use Rattle.market_terms.specs.declared.duties.Duty.TheVariants as duty
use Rattle.market_terms.specs.declared.rooms.RoomRef.{RoomRef}
use Rattle.request_room.specs.RoomFacts.{RoomFact, is_ended}
use Rattle.venue_rows.specs.Rows.{Configuration, dealer_numbered, investor_numbered, may_request}
use Rattle.venue_rows.specs.declared.dealer_rows.DealerRow.{DealerRow}
use Rattle.venue_rows.specs.declared.investor_rows.InvestorRow.{InvestorRow}
use Rattle.venue_steps.specs.declared.actors.Actor.{Actor}
use Rattle.venue_steps.specs.declared.actors.Actor.TheVariants as actor
use Rattle.step_replay.specs.AuditTrail.{AuditTrail}
use Rattle.step_replay.specs.LiveDays.{actor_of, live_steps, with_turns}
use Rattle.step_replay.specs.PlaceLemmas.{behind_dealers, room_grown}
use Rattle.step_replay.specs.VenueFacts.{Fact, of_room}
use Rattle.step_replay.specs.declared.steps.Step.{Step}
use Rattle.step_replay.specs.declared.steps.Step.TheVariants as step
use Rattle.step_replay.specs.declared.steps.TheConstants.{MOST_TURNS_BEHIND}
use Rattle.laws_days.proofs.VenueInvariant.{DutyOk, VenueOk}
use Rattle.laws_days.proofs.VenueKnown.{known_room}
use Rattle.laws_rooms.proofs.EndLemmas.{NoEnding, ended_split}

-- Lists.

pub nil_of : {A : Type 0} (xs ys : List A) → xs ++ ys ≡ xs → ys ≡ []
nil_of [] ys is = is
nil_of (x ∷ xs) ys is = nil_of xs ys (ap (drop 1) is)

pub first_nil : {A : Type 0} (xs ys : List A) → xs ++ ys ≡ [] → xs ≡ []
first_nil [] ys is = refl
first_nil (x ∷ xs) ys is = cc

-- a step more, and the turns behind it
pub all_steps : (steps : List Step) (next : Step) → live_steps (steps ++ next ∷ [])
    ≡ (live_steps steps ++ next ∷ []) ++ replicate MOST_TURNS_BEHIND (step.Turn (actor_of next))
unfolding with_turns
all_steps steps next =
    flat_map-append with_turns steps (next ∷ [])
    ∙ ap (λ (l : List Step). live_steps steps ++ l)
    (append-nil (next ∷ replicate MOST_TURNS_BEHIND (step.Turn (actor_of next))))
    ∙ sym (append_assoc (live_steps steps) (next ∷ []) (replicate MOST_TURNS_BEHIND (step.Turn (actor_of next))))

-- Rooms that go on.

pub goes_on : (room : RoomRef) (facts added : List Fact) → is_ended (of_room room facts) ≡ false
    → is_ended (of_room room added) ≡ false → is_ended (of_room room (facts ++ added)) ≡ false
goes_on room facts added before now = elim (cases_Bool (is_ended (of_room room (facts ++ added)))) [
  | inr lives ↦ lives
  | inl ended ↦ elim (ended_split (of_room room facts) (of_room room added)
      (subst (λ (l : List RoomFact). is_ended l ≡ true) (room_grown room facts added) ended)) [
        | inl was ↦ absurd (false≢true (sym before ∙ was))
        | inr so ↦ absurd (false≢true (sym now ∙ so))
      ]
]

module _ (config : Configuration) (dealer : ℕ) (row : DealerRow)
    (is : dealer_numbered config dealer ≡ Some row) where
  -- a dealer is no investor
  no_room : (number : ℕ) → may_request (investor_numbered config dealer) number ≡ true → ⊥
  no_room number may = by_found (investor_numbered config dealer) refl may
    where
      by_found : (found : Option InvestorRow) → investor_numbered config dealer ≡ found
          → may_request found number ≡ true → ⊥
      by_found None at so = false≢true so
      by_found (Some other) at so =
          let within : dealer < length config.dealers = slice_get_within config.dealers dealer row is in
          let behind : length config.dealers ≤ dealer = behind_dealers config dealer other at in
          absurd (omega arith)

  own_firm : (number : ℕ) → actor.Firm dealer ≡ actor.Firm number → number ≡ dealer
  own_firm number same = sym (ap number_of same)
    where
      number_of : Actor → ℕ
      number_of (actor.Firm one) = one
      number_of actor.Clock = 0

  -- so no duty of a dealer ends a room
  pub ends_nothing : (venue : AuditTrail) → VenueOk config venue → (by : Actor) (d : Duty)
      → DutyOk config by d venue → by ≡ actor.Firm dealer → NoEnding d
  ends_nothing venue stood by (duty.Hit at response word moment) ok mine =
      no_room at.n (subst (λ (i : ℕ). may_request (investor_numbered config i) at.n ≡ true)
      (own_firm at.investor (sym mine ∙ ok.by_is)) (known_room stood at response.k ok.known))
  ends_nothing venue stood by (duty.Pass at response moment) ok mine =
      no_room at.n (subst (λ (i : ℕ). may_request (investor_numbered config i) at.n ≡ true)
      (own_firm at.investor (sym mine ∙ ok.by_is)) (known_room stood at response.k ok.known))
  ends_nothing venue stood by other ok mine = tt
