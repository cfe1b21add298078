-- The moments of the messages and of the sweeps among the actions that an actor noted.
use Rattle.std.proofs.Common.{◌≡◌, ℕ, Bool, true, false, List, [], ◌∷◌, ◌++◌, refl, ap, ◌∙◌}
use Rattle.std.proofs.lemmas.List.{append-nil}
use Rattle.std.proofs.lemmas.List.Elements.{filter_map-append}
use Rattle.market_terms.specs.declared.duties.Duty.{Duty}
use Rattle.market_terms.specs.declared.duties.Duty.TheVariants as duty
use Rattle.recorded_days.specs.Kinds.{is_expire, is_in, kind_of}
use Rattle.recorded_days.specs.declared.actions.Action.{Action}
use Rattle.recorded_days.specs.declared.actions.Kind.{Kind}
use Rattle.session_worker.specs.Shifts.{IsNoted, action_of, moments_of, time_of}

-- an action more, of such a kind or not
module _ (is_such : Kind → Bool) (kind : Kind) (moment : ℕ) (before after : List Action)
    (noted : IsNoted kind moment before after) where
  pub moment_noted : is_such kind ≡ true
      → moments_of is_such after ≡ moments_of is_such before ++ moment ∷ []
  moment_noted so =
      let one = action_of kind moment noted.word in
      let alone : moments_of is_such (one ∷ []) ≡ moment ∷ [] = rw so refl in
      ap (moments_of is_such) noted.one_more
      ∙ filter_map-append (time_of is_such) before (one ∷ [])
      ∙ ap (λ (more : List ℕ). moments_of is_such before ++ more) alone

  pub nothing_noted : is_such kind ≡ false
      → moments_of is_such after ≡ moments_of is_such before
  nothing_noted other =
      let one = action_of kind moment noted.word in
      let alone : moments_of is_such (one ∷ []) ≡ [] = rw other refl in
      ap (moments_of is_such) noted.one_more
      ∙ filter_map-append (time_of is_such) before (one ∷ [])
      ∙ ap (λ (more : List ℕ). moments_of is_such before ++ more) alone
      ∙ append-nil (moments_of is_such before)

-- a duty is no message
pub duty_is_no_message : (own : Duty) → is_in (kind_of own) ≡ false
duty_is_no_message (duty.Open room ask dealers moment) = refl
duty_is_no_message other = refl

-- and no sweep
pub duty_is_no_sweep : (own : Duty) → is_expire (kind_of own) ≡ false
duty_is_no_sweep (duty.Open room ask dealers moment) = refl
duty_is_no_sweep other = refl
