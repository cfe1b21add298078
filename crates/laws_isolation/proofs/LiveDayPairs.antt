-- Two live days side by side, line by line: as long as the same requests are awarded to the same
-- dealers, the same is left of both.
use Rattle.std.proofs.Common.{ap, ◌∙◌}
use Rattle.std.proofs.Common.{◌≡◌, ℕ, inl, inr, true, false, List, [], ◌∷◌, fold, take, suc, refl}
use Rattle.std.proofs.Common.{sym, subst, is_some, Some}
use Rattle.std.proofs.lemmas.Bool.{both_ways, cases_Bool}
use Rattle.std.proofs.lemmas.List.Sums.{fold-append}
use Rattle.fix_fields.specs.Frame.{Field, IsFrame, frame_of}
use Rattle.market_terms.specs.declared.rooms.RoomRef.{RoomRef}
use Rattle.venue_rows.specs.Rows.{Configuration, dealer_numbered}
use Rattle.investor_desk.specs.InvestorFacts.{InvestorBook}
use Rattle.investor_desk.specs.InvestorRules.{InvestorMarket, investor_verdict}
use Rattle.venue_steps.specs.declared.actors.Actor.{Actor}
use Rattle.venue_steps.specs.declared.actors.Actor.TheVariants as actor
use Rattle.step_replay.specs.AuditTrail.{AuditTrail, after_step, audit_trail, due_to, no_steps}
use Rattle.step_replay.specs.AuditTrail.{pending}
use Rattle.step_replay.specs.DutyEffects.{message_effect, sweep_effect}
use Rattle.step_replay.specs.Lists.{Every}
use Rattle.step_replay.specs.LiveDays.{live_steps, live_trail, with_turns}
use Rattle.step_replay.specs.declared.steps.Step.{Step}
use Rattle.step_replay.specs.declared.steps.Step.TheVariants as step
use Rattle.step_replay.specs.declared.steps.TheConstants.{MOST_TURNS_BEHIND}
use Rattle.laws_isolation.specs.Silence.{is_another, is_of_another}
use Rattle.laws_days.specs.PriceAlike.{IsOneButForCover}
use Rattle.laws_days.proofs.LiveQuotes.{LoneQuotes}
use Rattle.laws_days.proofs.VenueDay.{venue_ok}
use Rattle.laws_days.proofs.VenueDesk.{WordsOfDay}
use Rattle.laws_isolation.specs.Presence.{AreHitsOfQuotes, AreOneButForPresenceLive, Beside, Both}
use Rattle.laws_isolation.specs.Presence.{First, IsBeside, Second, awards, first_day, second_day}
use Rattle.laws_isolation.proofs.Calm.{message_calm, message_few, sweep_calm, sweep_no_hit, turns}
use Rattle.laws_isolation.proofs.Calm.{turns_idle, turn_is}
use Rattle.laws_isolation.proofs.OtherHits.{IsSaidAlike, hits_said, same_said}
use Rattle.laws_isolation.proofs.Left.{left}
use Rattle.laws_isolation.proofs.LeftDues.{due_same}
use Rattle.laws_isolation.proofs.LeftMessages.{hits_by, message_facts, message_hits}
use Rattle.laws_isolation.proofs.LivePairs.{IsOneAtRest, IsOneBehind, behind_round, behind_same}
use Rattle.laws_isolation.proofs.LivePairs.{lone_line, rests, same_line, unit, unseen_unit}
use Rattle.laws_isolation.proofs.OneLeft.{IsOneLeft, stands, turned_round}
use Rattle.laws_isolation.proofs.PairedSteps.{message_both, sweep_both}

module _ (config : Configuration) (own : ℕ) (lone : LoneQuotes) (words : WordsOfDay)
    (reads : (bytes : List ℕ) (fields : List Field) → IsFrame bytes fields
    → frame_of bytes ≡ Some fields) where
  module _ (one other : AuditTrail) (rest : IsOneAtRest config own lone words one other)
      (before : awards one ≡ awards other) where
    -- what is left of both before the line
    abbrev same : IsOneLeft config own one other
    same = rest.same

    message_line : (firm moment : ℕ) (bytes bytes_too : List ℕ)
        → is_another config own firm ≡ false
        → (is_some (dealer_numbered config firm) ≡ true → bytes ≡ bytes_too)
        → ((market : InvestorMarket) (book : InvestorBook) → IsSaidAlike market moment
        (investor_verdict market book moment bytes)
        (investor_verdict market book moment bytes_too)) → (n : ℕ)
        → awards (turns config (actor.Firm firm) n
        (after_step config one (step.In firm moment bytes)))
        ≡ awards (turns config (actor.Firm firm) n
        (after_step config other (step.In firm moment bytes_too)))
        → IsOneBehind config own lone words
        (turns config (actor.Firm firm) n (after_step config one (step.In firm moment bytes)))
        (turns config (actor.Firm firm) n (after_step config other (step.In firm moment bytes_too)))
    unfolding after_step
    message_line firm moment bytes bytes_too isnt same_bytes said n after =
        let by = actor.Firm firm in
        let does = message_effect config one.facts firm moment bytes in
        let does_too = message_effect config other.facts firm moment bytes_too in
        let calm = message_calm config one.facts firm moment bytes in
        let calm_too = message_calm config other.facts firm moment bytes_too in
        let stood = stands config own lone words one (step.In firm moment bytes) same.stood in
        let stood_too = stands config own lone words other (step.In firm moment bytes_too)
        same.stood_too in
        let aligned = λ (hit : is_some (dealer_numbered config firm) ≡ false
        → hits_by by does.duties ≡ hits_by by does_too.duties).
        same_line config own lone words by isnt one other same (rest.idle by)
        (rest.idle_too by) does
        does_too calm calm_too stood stood_too before n after
        (message_both config own lone words one other same firm moment bytes bytes_too isnt
        same_bytes
        said hit) (message_few config one.facts firm moment bytes).few in
        elim (cases_Bool (is_some (dealer_numbered config firm))) [
          | inl is ↦ aligned (λ none. absurd (both_ways (is_some
              (dealer_numbered config firm)) none is))
          | inr none ↦
              let facts = message_facts config own one.facts other.facts same.facts_are firm moment
              bytes bytes_too by none said in
              elim (message_hits config own one.facts other.facts same.facts_are firm moment bytes
              bytes_too by none said) [
                | inl hit ↦ aligned (λ no. hit)
                | inr alone ↦ elim alone [
                  | inl first ↦ lone_line config own lone words by isnt one other same
                      (rest.idle by)
                      (rest.idle_too by) does does_too calm calm_too stood stood_too before n after
                      facts first
                  | inr second ↦ behind_round config own lone words _ _
                      (lone_line config own lone words by isnt other one
                      (turned_round config own one other same) (rest.idle_too by) (rest.idle by)
                      does_too does calm_too calm stood_too stood (sym before) n (sym after)
                      (sym facts) second)
                ]
              ]
        ]

    sweep_line : (room : RoomRef) (moment n : ℕ)
        → awards (turns config actor.Clock n (after_step config one (step.Expire room moment)))
        ≡ awards (turns config actor.Clock n (after_step config other (step.Expire room moment)))
        → IsOneBehind config own lone words
        (turns config actor.Clock n (after_step config one (step.Expire room moment)))
        (turns config actor.Clock n (after_step config other (step.Expire room moment)))
    unfolding after_step
    sweep_line room moment n after =
        same_line config own lone words actor.Clock refl one other same (rest.idle actor.Clock)
        (rest.idle_too actor.Clock) (sweep_effect config one.facts room moment)
        (sweep_effect config other.facts room moment) (sweep_calm config one.facts room moment)
        (sweep_calm config other.facts room moment)
        (stands config own lone words one (step.Expire room moment) same.stood)
        (stands config own lone words other (step.Expire room moment) same.stood_too) before n after
        (sweep_both config own lone words one other same room moment)
        (inl (sweep_no_hit config one.facts room moment))

    -- another dealer's line in both
    unseen_line : (s : Step) → is_of_another config own s ≡ true
        → IsOneBehind config own lone words (unit config own lone words one s)
        (unit config own lone words other s)
    unseen_line s is =
        behind_same config own lone words _ _
        (turned_round config own _ _ (unseen_unit config own lone words other _
        (turned_round config own _ _ (unseen_unit config own lone words one other same s is)) s is))

    -- a turn that finds nothing
    idle_line : (by : Actor) (n : ℕ) → IsOneBehind config own lone words
        (turns config by n (after_step config one (step.Turn by)))
        (turns config by n (after_step config other (step.Turn by)))
    idle_line by n =
        let now = turn_is config by one [] (rest.idle by) in
        let now_too = turn_is config by other [] (rest.idle_too by) in
        rw (
          now,
          now_too,
          turns_idle config by n one (rest.idle by),
          turns_idle config by n other (rest.idle_too by),
        )
        (behind_same config own lone words one other same)

    same_line_of : (s : Step)
        → awards (unit config own lone words one s) ≡ awards (unit config own lone words other s)
        → IsOneBehind config own lone words (unit config own lone words one s)
        (unit config own lone words other s)
    unfolding with_turns
    same_line_of (step.In firm moment bytes) after = elim (cases_Bool
        (is_another config own firm)) [
          | inl is ↦ unseen_line (step.In firm moment bytes) is
          | inr isnt ↦ message_line firm moment bytes bytes isnt (λ is. refl)
              (λ market book. same_said market moment (investor_verdict market book moment bytes))
              MOST_TURNS_BEHIND after
        ]
    same_line_of (step.Turn by) after = idle_line by MOST_TURNS_BEHIND
    same_line_of (step.Expire room moment) after = sweep_line room moment MOST_TURNS_BEHIND after

    hits_line : (s s_too : Step) (hits : AreHitsOfQuotes config s s_too)
        → awards (unit config own lone words one (step.In hits.firm hits.moment hits.message))
        ≡ awards (unit config own lone words other (step.In hits.firm hits.moment hits.message_too))
        → IsOneBehind config own lone words
        (unit config own lone words one (step.In hits.firm hits.moment hits.message))
        (unit config own lone words other (step.In hits.firm hits.moment hits.message_too))
    unfolding with_turns
    hits_line s s_too hits after =
        let isnt : is_another config own hits.firm ≡ false = rw (hits.no_dealer) refl in
        message_line hits.firm hits.moment hits.message hits.message_too isnt
        (λ is. absurd (both_ways (is_some (dealer_numbered config hits.firm)) hits.no_dealer is))
        (λ market book. hits_said market hits.moment book hits.message hits.message_too hits.fields
        hits.fields_too (reads hits.message hits.fields hits.is_frame)
        (reads hits.message_too hits.fields_too hits.is_frame_too) hits.hits hits.fields_are)
        MOST_TURNS_BEHIND after

    hits_line_of : (s s_too : Step) → AreHitsOfQuotes config s s_too
        → awards (unit config own lone words one s) ≡ awards
        (unit config own lone words other s_too)
        → IsOneBehind config own lone words (unit config own lone words one s)
        (unit config own lone words other s_too)
    hits_line_of s s_too hits =
        subst (λ (x : Step).
        awards (unit config own lone words one x) ≡ awards (unit config own lone words other s_too)
        → IsOneBehind config own lone words (unit config own lone words one x)
        (unit config own lone words other s_too)) (sym hits.one_is)
        (subst (λ (y : Step).
        awards (unit config own lone words one (step.In hits.firm hits.moment hits.message))
        ≡ awards (unit config own lone words other y)
        → IsOneBehind config own lone words
        (unit config own lone words one (step.In hits.firm hits.moment hits.message))
        (unit config own lone words other y)) (sym hits.other_is) (hits_line s s_too hits))

  -- Days.

  -- a live day from here on
  abbrev day : AuditTrail → List Step → AuditTrail
  day trail steps = fold (after_step config) trail (live_steps steps)

  split : (trail : AuditTrail) (s : Step) (steps : List Step)
      → day trail (s ∷ steps) ≡ day (unit config own lone words trail s) steps
  split trail s steps = fold-append (after_step config) trail (with_turns s) (live_steps steps)

  -- what both have awarded, and that nothing waits, behind each line
  record Goes (one other : AuditTrail) (days : List Beside) : Type 0 where
    awarded : (k : ℕ) → awards (day one (first_day (take k days)))
        ≡ awards (day other (second_day (take k days)))
    idle : (k : ℕ) (by : Actor) → pending by (day one (first_day (take k days))) ≡ []
    idle_too : (k : ℕ) (by : Actor) → pending by (day other (second_day (take k days))) ≡ []

  -- what goes on behind a line of the first day, and of the second
  first_goes : (one other : AuditTrail) (s : Step) (days : List Beside)
      → Goes one other (First s ∷ days) → Goes (unit config own lone words one s) other days
  first_goes one other s days goes = record {
    awarded = λ k. sym (ap awards (split one s (first_day (take k days)))) ∙ goes.awarded (suc k);
    idle = λ k by.
        sym (ap (pending by) (split one s (first_day (take k days)))) ∙ goes.idle (suc k) by;
    idle_too = λ k by. goes.idle_too (suc k) by;
  }

  second_goes : (one other : AuditTrail) (s : Step) (days : List Beside)
      → Goes one other (Second s ∷ days) → Goes one (unit config own lone words other s) days
  second_goes one other s days goes = record {
    awarded = λ k. goes.awarded (suc k) ∙ ap awards (split other s (second_day (take k days)));
    idle = λ k by. goes.idle (suc k) by;
    idle_too = λ k by.
        sym (ap (pending by) (split other s (second_day (take k days)))) ∙ goes.idle_too (suc k) by;
  }

  both_go : (one other : AuditTrail) (s s_too : Step) (days : List Beside)
      → Goes one other (Both s s_too ∷ days)
      → Goes (unit config own lone words one s) (unit config own lone words other s_too) days
  both_go one other s s_too days goes = record {
    awarded = λ k. sym (ap awards (split one s (first_day (take k days)))) ∙ goes.awarded (suc k)
        ∙ ap awards (split other s_too (second_day (take k days)));
    idle = λ k by.
        sym (ap (pending by) (split one s (first_day (take k days)))) ∙ goes.idle (suc k) by;
    idle_too = λ k by.
        sym (ap (pending by) (split other s_too (second_day (take k days))))
        ∙ goes.idle_too (suc k) by;
  }

  -- nothing waits where it goes on
  at_rest : (one other : AuditTrail) (days : List Beside) → Goes one other days
      → IsOneBehind config own lone words one other → IsOneAtRest config own lone words one other
  at_rest one other days goes same =
      rests config own lone words one other same.facts_are same.stood same.stood_too same.fits
      same.fits_too (goes.idle 0) (goes.idle_too 0)

  days_same : (days : List Beside) → Every (IsBeside config own) days → (one other : AuditTrail)
      → IsOneAtRest config own lone words one other → Goes one other days
      → left own (day one (first_day days)).facts ≡ left own (day other (second_day days)).facts
  days_same [] beside one other rest goes = rest.same.facts_are
  days_same (First s ∷ days) beside one other rest goes =
      let next = unit config own lone words one s in
      let later = first_goes one other s days goes in
      let same = behind_same config own lone words next other
      (unseen_unit config own lone words one other rest.same s beside.0) in
      ap (λ (t : AuditTrail). left own t.facts) (split one s (first_day days))
      ∙ days_same days beside.1 next other (at_rest next other days later same) later
  days_same (Second s ∷ days) beside one other rest goes =
      let next = unit config own lone words other s in
      let later = second_goes one other s days goes in
      let same = behind_same config own lone words one next
      (turned_round config own next one (unseen_unit config own lone words other one
      (turned_round config own one other rest.same) s beside.0)) in
      days_same days beside.1 one next (at_rest one next days later same) later
      ∙ ap (λ (t : AuditTrail). left own t.facts) (sym (split other s (second_day days)))
  days_same (Both s s_too ∷ days) beside one other rest goes =
      let next = unit config own lone words one s in
      let next_too = unit config own lone words other s_too in
      let later = both_go one other s s_too days goes in
      let before = goes.awarded 0 in
      let after : awards next ≡ awards next_too = later.awarded 0 in
      let same : IsOneBehind config own lone words next next_too = elim (beside.0) [
        | inl is ↦ subst (λ (x : Step).
            awards (unit config own lone words one s) ≡ awards (unit config own lone words other x)
            → IsOneBehind config own lone words (unit config own lone words one s)
            (unit config own lone words other x)) is
            (same_line_of one other rest before s) after
        | inr hits ↦ hits_line_of one other rest before s s_too hits after
      ] in
      ap (λ (t : AuditTrail). left own t.facts) (split one s (first_day days))
      ∙ days_same days beside.1 next next_too (at_rest next next_too days later same) later
      ∙ ap (λ (t : AuditTrail). left own t.facts) (sym (split other s_too (second_day days)))

  start : IsOneAtRest config own lone words no_steps no_steps
  unfolding audit_trail
  start =
      rests config own lone words no_steps no_steps refl (venue_ok lone words config [])
      (venue_ok lone words config []) tt tt (λ by. refl) (λ by. refl)

  pub live_presence : (days : List Beside) → AreOneButForPresenceLive config own days
      → IsOneButForCover (due_to own (live_trail config (first_day days)))
      (due_to own (live_trail config (second_day days)))
  unfolding audit_trail
  live_presence days alike =
      due_same own (live_trail config (first_day days)) (live_trail config (second_day days))
      (days_same days alike.are_beside no_steps no_steps start (record {
        awarded = alike.awards_are;
        idle = alike.none_left;
        idle_too = alike.none_left_too;
      }))
