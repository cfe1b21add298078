-- What the wire asks of a message of the venue before it carries it, and what is told beside each.
use Rattle.std.specs.Prelude.{◌≡◌, ℕ, ◌+◌, ◌≤◌, ◌==◌, Bool, true, false, not, List, [], ◌∷◌, length}
use Rattle.std.specs.Prelude.{nat_lt, Option, Some, None}
use Rattle.std.specs.List.{list_all}
use Rattle.fix_fields.specs.Frame.{Field, fields_len}
use Rattle.fix_fields.specs.declared.limits.TheConstants.{A_DAY}
use Rattle.laws_wire.specs.VenueMessages.{venue_types}
use Rattle.step_replay.specs.Lists.{In}
use Rattle.step_replay.specs.declared.steps.Step.{Step}
use Rattle.step_replay.specs.declared.steps.Step.TheVariants as step
use Rattle.wire_messages.specs.ToFirm.{IsOfVenue, IsTold, VenueMessage, has_added, to_firm}
use Rattle.wire_messages.specs.declared.limits.TheConstants.{MOST_WIRE_BODY}

-- how many bytes are told beside a message at most
abbrev pub IsBrief : Option Field → Type 0
IsBrief None = Unit {0}
IsBrief (Some field) = length field.1 ≤ 200

-- What is told beside a message with this note: nothing where nothing is noted, and else nothing, a
-- reason or a trade's name.
abbrev pub IsToldBeside : {Note : Type 0} → Option Note → Option Field → Type 0
IsToldBeside None told = told ≡ None
IsToldBeside (Some note) told = IsTold told × IsBrief told

-- the same of each message: of the first of them, or of all
abbrev pub AreToldBeside : {Note : Type 0} → List (Option Note) → List (Option Field) → Type 0
AreToldBeside notes [] = Unit {0}
AreToldBeside [] (told ∷ tolds) = ⊥
AreToldBeside (note ∷ notes) (told ∷ tolds) = IsToldBeside note told × AreToldBeside notes tolds

-- The wire carries these bytes as the venue's message with this number, with what is told beside
-- it: they are a frame of one of the venue's types that bears the number, none of its fields is one
-- that the wire adds, and it fits, whatever number of the session's a Reject refers to.
pub record CanBeCarried (bytes : List ℕ) (number : ℕ) (told : Option Field) : Type 0 where
  pub message : VenueMessage
  pub of_venue : IsOfVenue bytes number message
  pub typed : In message.kind venue_types
  pub told_is : IsTold told
  pub plain : has_added told message.behind ≡ false
  pub fits : (reference : ℕ) → fields_len (to_firm reference told message) ≤ MOST_WIRE_BODY

-- Each of these messages, from this number on, can be carried, as far as it is known what is told.
abbrev pub CanAllBeCarried : ℕ → List (List ℕ) → List (Option Field) → Type 0
CanAllBeCarried number frames [] = Unit {0}
CanAllBeCarried number [] (told ∷ tolds) = ⊥
CanAllBeCarried number (bytes ∷ frames) (told ∷ tolds) =
    CanBeCarried bytes number told × CanAllBeCarried (number + 1) frames tolds

-- whether bytes have no bar, by which lines of text write SOH
abbrev pub has_no_bar : List ℕ → Bool
has_no_bar bytes = list_all (λ byte. not (byte == 124)) bytes

-- whether the moment of a step, where it has one, is of a day: each moment of the venue's is
abbrev pub is_of_day : Step → Bool
is_of_day (step.In firm moment message) = nat_lt moment A_DAY
is_of_day (step.Turn by) = true
is_of_day (step.Expire room moment) = nat_lt moment A_DAY
