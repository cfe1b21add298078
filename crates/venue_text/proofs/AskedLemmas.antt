-- What an input spells, where its parts spell it.
use Rattle.std.proofs.Common.{◌≡◌, ℕ, List, length, ap, ◌∙◌, false, nat_lt, cond, Result, Ok, Err}
use Rattle.venue_rows.specs.Rows.{ConfigValues}
use Rattle.venue_text.specs.AskedDays.{SpelledDay, day_for, one_day, two_days}
use Rattle.input_lines.specs.ResultSteps.{◌>>=◌}
use Rattle.input_lines.specs.VenueParts.{DayParts, day_parts_of, two_days_parts_of}
use Rattle.input_lines.specs.declared.faults.ProgramFault.{ProgramFault}
use Rattle.input_lines.specs.declared.faults.ProgramFault.TheVariants.{Input}
use Rattle.input_lines.specs.declared.lines.TheConstants.{MOST_INPUT}

pub one_day_is : {A : Type 0} (names : ConfigValues → Result A ProgramFault) (input : List ℕ) (parts : DayParts) (day : A × SpelledDay)
    → nat_lt MOST_INPUT (length input) ≡ false → day_parts_of input ≡ Ok parts → day_for names parts ≡ Ok day
    → one_day names input ≡ Ok day
one_day_is names input parts day small divided read =
    ap (λ long. cond long (Err Input) (Ok input) >>= (λ text. day_parts_of text >>= (λ parts. day_for names parts))) small
    ∙ ap (λ found. found >>= (λ parts. day_for names parts)) divided
    ∙ read

pub two_days_are : {A : Type 0} (names : ConfigValues → Result A ProgramFault) (input : List ℕ) (first second : DayParts)
    (one other : A × SpelledDay) → nat_lt MOST_INPUT (length input) ≡ false
    → two_days_parts_of input ≡ Ok (first, second) → day_for names first ≡ Ok one → day_for names second ≡ Ok other
    → two_days names input ≡ Ok (one, other)
two_days_are names input first second one other small divided read read_other =
    ap (λ long. cond long (Err Input) (Ok input) >>= (λ text. two_days_parts_of text
    >>= (λ parts. day_for names parts.0 >>= (λ one. day_for names parts.1 >>= (λ other. Ok (one, other)))))) small
    ∙ ap (λ found. found >>= (λ parts. day_for names parts.0 >>= (λ one. day_for names parts.1 >>= (λ other. Ok (one, other))))) divided
    ∙ ap (λ found. found >>= (λ one. day_for names second >>= (λ other. Ok (one, other)))) read
    ∙ ap (λ found. found >>= (λ other. Ok (one, other))) read_other
