-- Lines that come part by part.
use Rattle.std.proofs.Common.{◌≡◌, ◌∙◌, sym, refl, List, [], ◌∷◌, fold}
use Rattle.std.proofs.lemmas.List.Sums.{fold-append}
use Rattle.venue_rows.specs.Rows.{ConfigValues}
use Rattle.input_lines.specs.DueText.{Lines}
use Rattle.venue_text.specs.LiveInput.{lines_in, taken_by}
use Rattle.venue_text.specs.LiveLines.{Taken, with_line}

-- they bring what all of them bring at once
pub part_by_part : (config : ConfigValues) (taken : Taken) (parts : List Lines)
    → taken_by config taken parts ≡ fold (with_line config) taken (lines_in parts)
part_by_part config taken [] = refl
part_by_part config taken (part ∷ later) =
    part_by_part config (fold (with_line config) taken part) later
    ∙ sym (fold-append (with_line config) taken part (lines_in later))
