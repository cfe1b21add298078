-- How one line more is read: words of private functions alone.
use Rattle.std.specs.Prelude.{Bool, Option, Some, None, if◌then◌else◌}
use Rattle.investor_texts.specs.InvestorText.{Read}

-- what was read behind a line that is of its form; none behind another
abbrev pub if_of_form : Bool → Read → Option Read
if_of_form is_of_form read = if is_of_form then Some read else None
