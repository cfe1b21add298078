-- Words by which the reading of the party group is proved.
use Rattle.std.specs.Prelude.{◌≡◌, ℕ, List, Some, None, false}
use Rattle.std.specs.List.{take_while}
use Rattle.fix_fields.specs.Frame.{Field}
use Rattle.quote_messages.specs.SessionLines.{occurrence_of}
use Rattle.quote_messages.specs.Slots.{joined}
use Rattle.quote_messages.specs.PartyGroup.{is_of_party, not_ignored}

-- the run of fields of entries at the front, once the ignored fields are taken out
abbrev pub run_of : List Field → List Field
run_of fields = take_while (λ field. is_of_party field.0) (not_ignored fields)

-- a tag does not stand
abbrev pub IsAbsent : ℕ → List Field → Type 0
IsAbsent tag fields = occurrence_of tag fields ≡ record { first = None; is_repeated = false }

-- a tag stands with this value, and further in the rest
abbrev pub StandsBefore : ℕ → List Field → List ℕ → List Field → Type 0
StandsBefore tag fields value rest =
    occurrence_of tag fields ≡ joined (record {
      first = Some value;
      is_repeated = false;
    }) (occurrence_of tag rest)
