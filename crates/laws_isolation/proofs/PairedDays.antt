-- Two days side by side: as long as the same requests are awarded to the same dealers, the same is
-- left of both, step by step, and so what is due to the dealer is the same, but for the cover.
use Rattle.std.proofs.Common.{◌≡◌, ℕ, inl, inr, List, [], ◌∷◌, fold, take, Some, refl, subst, suc}
use Rattle.fix_fields.specs.Frame.{Field, IsFrame, frame_of}
use Rattle.venue_rows.specs.Rows.{Configuration}
use Rattle.step_replay.specs.AuditTrail.{AuditTrail, after_step, audit_trail, due_to, no_steps}
use Rattle.step_replay.specs.Lists.{Every}
use Rattle.step_replay.specs.declared.steps.Step.{Step}
use Rattle.laws_days.specs.PriceAlike.{IsOneButForCover}
use Rattle.laws_days.proofs.LiveQuotes.{LoneQuotes}
use Rattle.laws_days.proofs.VenueDay.{venue_ok}
use Rattle.laws_days.proofs.VenueDesk.{WordsOfDay}
use Rattle.laws_isolation.specs.Presence.{AreOneButForPresence, Beside, Both, First, IsBeside}
use Rattle.laws_isolation.specs.Presence.{Second, awards, first_day, hits_left, second_day}
use Rattle.laws_isolation.proofs.OneLeft.{IsOneLeft, turned_round, unseen_step}
use Rattle.laws_isolation.proofs.PairedSteps.{hits_step, same_step}
use Rattle.laws_isolation.proofs.LeftDues.{due_same}

module _ (config : Configuration) (own : ℕ) where
  module _ (lone : LoneQuotes) (words : WordsOfDay) where
    -- Days.

    module _ (reads : (bytes : List ℕ) (fields : List Field) → IsFrame bytes fields
        → frame_of bytes ≡ Some fields) where
      days_same : (days : List Beside) → Every (IsBeside config own) days
          → (one other : AuditTrail) → IsOneLeft config own one other
          → ((k : ℕ) → awards (fold (after_step config) one (first_day (take k days)))
          ≡ awards (fold (after_step config) other (second_day (take k days))))
          → ((k : ℕ) → hits_left (fold (after_step config) one (first_day (take k days)))
          ≡ hits_left (fold (after_step config) other (second_day (take k days))))
          → IsOneLeft config own (fold (after_step config) one (first_day days))
          (fold (after_step config) other (second_day days))
      days_same [] beside one other same awarded hit = same
      days_same (First s ∷ days) beside one other same awarded hit =
          days_same days beside.1 (after_step config one s) other
          (unseen_step config own lone words one other same s beside.0) (λ k. awarded (suc k))
          (λ k. hit (suc k))
      days_same (Second s ∷ days) beside one other same awarded hit =
          days_same days beside.1 one (after_step config other s)
          (turned_round config own (after_step config other s) one
          (unseen_step config own lone words other one
          (turned_round config own one other same) s beside.0))
          (λ k. awarded (suc k)) (λ k. hit (suc k))
      days_same (Both s s_too ∷ days) beside one other same awarded hit =
          days_same days beside.1 (after_step config one s) (after_step config other s_too)
          (elim (beside.0) [
            | inl is ↦ subst (λ (x : Step).
                awards (after_step config one s) ≡ awards (after_step config other x)
                → hits_left (after_step config one s) ≡ hits_left (after_step config other x)
                → IsOneLeft config own (after_step config one s) (after_step config other x)) is
                (same_step config own lone words one other same s (awarded 0) (hit 0)) (awarded 1)
                (hit 1)
            | inr hits ↦ hits_step config own lone words one other same s s_too hits reads (hit 0)
                (hit 1)
          ]) (λ k. awarded (suc k)) (λ k. hit (suc k))

module _ (lone : LoneQuotes) (words : WordsOfDay)
    (reads : (bytes : List ℕ) (fields : List Field) → IsFrame bytes fields
    → frame_of bytes ≡ Some fields) (config : Configuration) (own : ℕ) where
  start : IsOneLeft config own no_steps no_steps
  unfolding audit_trail
  start = record {
    facts_are = refl;
    queues_are = λ by isnt. refl;
    stood = venue_ok lone words config [];
    stood_too = venue_ok lone words config [];
    fits = tt;
    fits_too = tt;
  }

  pub presence : (days : List Beside) → AreOneButForPresence config own days
      → IsOneButForCover (due_to own (audit_trail config (first_day days)))
      (due_to own (audit_trail config (second_day days)))
  unfolding audit_trail
  presence days alike =
      due_same own (audit_trail config (first_day days)) (audit_trail config (second_day days))
      (days_same config own lone words reads days alike.are_beside no_steps no_steps start
      alike.awards_are alike.hits_are).facts_are
