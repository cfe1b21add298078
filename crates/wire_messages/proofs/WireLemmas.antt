-- The venue's fields on the wire, field by field.
use Rattle.std.proofs.Common.{◌≡◌, ℕ, ◌||◌, Bool, true, false, List, [], ◌∷◌, ◌++◌, map, ap, sym, ◌∙◌, refl, inl, inr, append_assoc}
use Rattle.std.proofs.lemmas.Bool.{cases_Bool}
use Rattle.fix_fields.specs.Frame.{Field}
use Rattle.wire_messages.specs.ToFirm.{timed_from, time_before, time_stands_before, referred}

-- what stands at a field, with the time before it where it is due
pub timed_step : (is_timed : Bool) (kind moment : List ℕ) (reference : ℕ) (field : Field) (fields : List Field)
    → map (referred kind reference) (timed_from is_timed kind moment (field ∷ fields))
    ≡ time_before is_timed kind moment field.0
    ++ (referred kind reference field ∷ map (referred kind reference) (timed_from (is_timed || time_stands_before kind field.0) kind moment fields))
timed_step true kind moment reference field fields = refl
timed_step false kind moment reference field fields =
    elim (cases_Bool (time_stands_before kind field.0)) [
      | inl due ↦ rw due refl
      | inr early ↦ rw early refl
    ]

pub timed_end : (is_timed : Bool) (kind moment : List ℕ) (reference : ℕ)
    → map (referred kind reference) (timed_from is_timed kind moment []) ≡ timed_from is_timed kind moment []
timed_end true kind moment reference = refl
timed_end false kind moment reference = refl

-- so what is written before a field, at it and behind it is the whole
pub at_field : (before whole : List Field) (is_timed : Bool) (kind moment : List ℕ) (reference : ℕ) (field : Field) (rest fields : List Field)
    → fields ≡ field ∷ rest → before ++ map (referred kind reference) (timed_from is_timed kind moment fields) ≡ whole
    → (before ++ time_before is_timed kind moment field.0)
    ++ (referred kind reference field ∷ map (referred kind reference) (timed_from (is_timed || time_stands_before kind field.0) kind moment rest))
    ≡ whole
at_field before whole is_timed kind moment reference field rest fields first is =
    append_assoc before (time_before is_timed kind moment field.0)
    (referred kind reference field ∷ map (referred kind reference) (timed_from (is_timed || time_stands_before kind field.0) kind moment rest))
    ∙ ap (λ fs. before ++ fs) (sym (timed_step is_timed kind moment reference field rest))
    ∙ ap (λ fs. before ++ map (referred kind reference) (timed_from is_timed kind moment fs)) (sym first) ∙ is
