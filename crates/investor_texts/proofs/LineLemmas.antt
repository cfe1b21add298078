-- A day that comes line by line, kept for an investor.
use Rattle.std.proofs.Common.{◌≡◌, ◌<◌, ℕ, ◌+◌, List, [], ◌∷◌, ◌++◌, length, take, get_or, true}
use Rattle.std.proofs.Common.{append_assoc, false, refl, sym, ap, subst, ◌∙◌, Option, Some, None}
use Rattle.std.proofs.Common.{Result, Ok, Err, IfOk}
use Rattle.std.proofs.lemmas.List.{append-nil, take_more}
use Rattle.venue_rows.specs.Rows.{Configuration, investor_numbered, values_of}
use Rattle.step_replay.specs.declared.steps.Step.{Step}
use Rattle.step_replay.specs.LiveStanding.{IsAt}
use Rattle.step_replay.specs.declared.live.LiveVenue.{LiveVenue}
use Rattle.input_lines.specs.Lines.{is_skipped}
use Rattle.input_lines.specs.StepLines.{Heard, Read}
use Rattle.input_lines.specs.declared.faults.ProgramFault.{ProgramFault}
use Rattle.venue_text.specs.LiveLines.{Taken, live_steps_of, with_any_line, with_read}
use Rattle.investor_texts.specs.LineDays.{KeepsDay, KeepsMore}
use Rattle.investor_texts.specs.declared.line_days.InvestorDay.{InvestorDay}

-- one step of a list more
pub one_more : (steps more : List Step) (at : ℕ) (s : Step) → at < length more
    → s ≡ get_or more at s
    → (steps ++ take at more) ++ s ∷ [] ≡ steps ++ take (at + 1) more
one_more steps more at s within is =
    append_assoc steps (take at more) (s ∷ [])
    ∙ ap (λ (l : List Step). steps ++ l) (ap (λ (x : Step). take at more ++ x ∷ []) is
    ∙ sym (take_more more at s within))

-- what two clauses say of a result
pub both_ok : {A E : Type 0} (r : Result A E) (P Q R : A → Type 0) → IfOk r P → IfOk r Q
    → ((x : A) → P x → Q x → R x) → IfOk r R
both_ok (Ok x) P Q R p q f = f x p q
both_ok (Err e) P Q R p q f = tt

-- A line more of a day.

module _ (name : List ℕ) (config : Configuration) (taken : Taken) (k : ℕ) (line : List ℕ)
    (before after : InvestorDay) (had : KeepsDay name config taken before)
    (same_config : after.config ≡ before.config) (same_investor : after.investor ≡ before.investor)
  where
    kept : (t : Taken) → after.heard ≡ t.heard
        → IsAt config t.steps after.venue → KeepsDay name config t after
    kept t heard venue = record {
      config_is = same_config ∙ had.config_is;
      named = had.named ∙ ap (λ (n : ℕ). Ok n) (sym same_investor);
      heard_is = heard;
      row = had.row;
      is_investor = subst (λ (n : ℕ). investor_numbered config n ≡ Some had.row)
          (sym same_investor) had.is_investor;
      venue_is = venue;
    }

    -- one that is skipped
    pub takes_nothing : is_skipped line ≡ true → after.heard ≡ before.heard
        → after.venue ≡ before.venue → KeepsMore name config taken k line after None
    takes_nothing skipped heard venue =
        let same : with_any_line (values_of config) taken (k, line) ≡ taken = rw skipped refl in
        record {
          keeps = subst (λ (t : Taken). KeepsDay name config t after) (sym same)
              (kept taken (heard ∙ had.heard_is)
              (subst (λ (v : LiveVenue). IsAt config taken.steps v) (sym venue) had.venue_is));
          told = ap (λ (t : Taken). t.faults) same ∙ sym (append-nil taken.faults);
        }

    -- one that is read
    module _ (unskipped : is_skipped line ≡ false) where
      read_is : (r : Read) → live_steps_of (values_of config) taken.heard k line ≡ r
          → with_any_line (values_of config) taken (k, line) ≡ with_read taken r
      read_is r is = rw unskipped (ap (with_read taken) is)

      -- by what the day itself has
      own_read : (r : Read) → live_steps_of (values_of before.config) before.heard k line ≡ r
          → with_any_line (values_of config) taken (k, line) ≡ with_read taken r
      own_read r is =
          read_is r
          (ap (λ (h : Heard). live_steps_of (values_of config) h k line) (sym had.heard_is)
          ∙ ap (λ (c : Configuration). live_steps_of (values_of c) before.heard k line)
          (sym had.config_is)
          ∙ is)

      -- at fault
      pub takes_fault : (fault : ProgramFault) (told : Option ProgramFault) → told ≡ Some fault
          → live_steps_of (values_of before.config) before.heard k line ≡ Err fault
          → after.heard ≡ before.heard → after.venue ≡ before.venue
          → KeepsMore name config taken k line after told
      takes_fault fault told said is heard venue =
          let same = own_read (Err fault) is in
          subst (KeepsMore name config taken k line after) (sym said) (record {
            keeps = subst (λ (t : Taken). KeepsDay name config t after) (sym same)
                (kept (with_read taken (Err fault)) (heard ∙ had.heard_is)
                (subst (λ (v : LiveVenue). IsAt config taken.steps v) (sym venue) had.venue_is));
            told = ap (λ (t : Taken). t.faults) same;
          })

      -- with its steps
      pub takes_steps : (steps : List Step)
          → live_steps_of (values_of before.config) before.heard k line ≡ Ok (steps, after.heard)
          → ((done : List Step) → IsAt before.config done before.venue
          → IsAt before.config (done ++ steps) after.venue)
          → KeepsMore name config taken k line after None
      takes_steps steps is follows =
          let same = own_read (Ok (steps, after.heard)) is in
          record {
            keeps = subst (λ (t : Taken). KeepsDay name config t after) (sym same)
                (kept (with_read taken (Ok (steps, after.heard))) refl
                (subst (λ (c : Configuration). IsAt c (taken.steps ++ steps) after.venue)
                had.config_is (follows taken.steps
                (subst (λ (c : Configuration). IsAt c taken.steps before.venue)
                (sym had.config_is) had.venue_is))));
            told = ap (λ (t : Taken). t.faults) same ∙ sym (append-nil taken.faults);
          }
