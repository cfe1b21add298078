-- Tags that do not stand.
use Rattle.std.proofs.Common.{◌≡◌, ℕ, List, None}
use Rattle.fix_fields.specs.Frame.{Field, value_of}
use Rattle.quote_messages.specs.ValueForms.{ValueRule}
use Rattle.quote_messages.specs.SessionLines.{tag_fault, optional}

-- what need not stand and does not is no fault
pub absent_optional : (date : List ℕ) (fields : List Field) (tag : ℕ) (value : ValueRule) → value_of tag fields ≡ None → optional tag value date fields ≡ None
unfolding tag_fault
absent_optional date fields tag value h = rw h
