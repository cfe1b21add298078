-- What is made of messages that can be carried is carried, and each step of a day may be said.
use Rattle.std.proofs.Common.{◌≡◌, ℕ, ◌+◌, ◌<◌, true, List, [], ◌∷◌, drop, Option}
use Rattle.std.proofs.Common.{sym, ap, ◌∙◌, subst, false, arith, nat_lt}
use Rattle.std.specs.List.{list_all}
use Rattle.std.proofs.lemmas.Bool.{and_parts}
use Rattle.std.proofs.lemmas.Bool.Decides.{nat_tests}
use Rattle.std.proofs.lemmas.Option.{same_Some}
use Rattle.fix_fields.specs.Frame.{Field}
use Rattle.fix_fields.specs.declared.limits.TheConstants.{A_DAY}
use Rattle.step_replay.specs.Lists.{Every}
use Rattle.step_replay.specs.declared.steps.Step.{Step}
use Rattle.step_replay.specs.declared.steps.Step.TheVariants as step
use Rattle.wire_messages.specs.ToFirm.{has_added, venue_fields}
use Rattle.laws_wire.specs.Carried.{AreCarried, AreMade, IsCarried, IsMade}
use Rattle.laws_wire.specs.Carriable.{CanAllBeCarried, CanBeCarried, is_of_day}
use Rattle.laws_wire.proofs.BarLemmas.{InDay}
use Rattle.laws_wire.proofs.DayTexts.{StepGiven}

made_carried : (bytes : List ℕ) (number : ℕ) (told : Option Field) (body : List Field)
    → IsMade bytes number told body → CanBeCarried bytes number told
    → IsCarried bytes number told body
made_carried bytes number told body made can =
    let same : venue_fields can.message ≡ venue_fields made.message =
    same_Some (venue_fields can.message) (venue_fields made.message)
    (sym can.of_venue.frame ∙ made.of_venue.frame) in
    let behind : can.message.behind ≡ made.message.behind =
    ap (λ (fields : List Field). drop 5 fields) same in
    record {
      reference = made.reference;
      message = made.message;
      of_venue = made.of_venue;
      told_is = can.told_is;
      plain = subst (λ (fields : List Field). has_added told fields ≡ false) behind can.plain;
      is = made.is;
    }

pub all_made_carried : (number : ℕ) (frames : List (List ℕ)) (tolds : List (Option Field))
    (bodies : List (List Field)) → AreMade number frames tolds bodies
    → CanAllBeCarried number frames tolds → AreCarried number frames tolds bodies
all_made_carried number frames tolds [] made can = tt
all_made_carried number [] tolds (body ∷ bodies) made can = absurd made
all_made_carried number (bytes ∷ frames) [] (body ∷ bodies) made can = absurd made
all_made_carried number (bytes ∷ frames) (told ∷ tolds) (body ∷ bodies) made can = (
  made_carried bytes number told body made.0 can.0,
  all_made_carried (number + 1) frames tolds bodies made.1 can.1,
)

-- Moments.

-- of which nothing is known
abbrev pub Any : ℕ → Type 0
Any n = Unit {0}

pub any_moments : (steps : List Step) → Every (StepGiven Any) steps
any_moments [] = tt
any_moments (step.In firm moment bytes ∷ steps) = (tt, any_moments steps)
any_moments (step.Turn by ∷ steps) = (tt, any_moments steps)
any_moments (step.Expire at moment ∷ steps) = (tt, any_moments steps)

below : (moment : ℕ) → nat_lt moment A_DAY ≡ true → moment < A_DAY
below moment is = grind (arith, nat_tests)

pub day_moments : (steps : List Step) → list_all is_of_day steps ≡ true
    → Every (StepGiven InDay) steps
day_moments [] each = tt
day_moments (step.In firm moment bytes ∷ steps) each =
    let both = and_parts (nat_lt moment A_DAY) (list_all is_of_day steps) each in
    (below moment both.0, day_moments steps both.1)
day_moments (step.Turn by ∷ steps) each = (tt, day_moments steps each)
day_moments (step.Expire at moment ∷ steps) each =
    let both = and_parts (nat_lt moment A_DAY) (list_all is_of_day steps) each in
    (below moment both.0, day_moments steps both.1)
