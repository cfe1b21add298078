-- What the functions return that read one tag of a message: names by which the session checks are
-- proved.
use Rattle.std.specs.Prelude.{◌≡◌, ℕ, List, Option, Some, None, Result, MatchResult}
use Rattle.fix_fields.specs.Frame.{Field, value_of}
use Rattle.quote_messages.specs.declared.session_faults.SessionFault.{SessionFault}
use Rattle.quote_messages.specs.ValueForms.{ValueRule, value_fault}
use Rattle.quote_messages.specs.SessionLines.{TagRule, required, occurrence_of, tag_fault, at_tag}

-- the fault of a line of the table, or where it has none a value of which P holds
abbrev pub Reads : {A : Type 0} → Option SessionFault → Result A SessionFault → (A → Type 0)
    → Type 0
Reads found result P =
    MatchResult result (λ value. (found ≡ None) × P value) (λ fault. found ≡ Some fault)

-- the tag stands once and has a value, so that its line of the table decides by the value alone
pub record StandsOnce (tag : ℕ) (fields : List Field) (value : List ℕ) : Type 0 where
  pub first : value_of tag fields ≡ Some value
  pub decided : (date : List ℕ) (rule : TagRule) → rule.tag ≡ tag →
      tag_fault date rule (occurrence_of tag fields)
      ≡ at_tag tag (value_fault date rule.value value)

-- the tag has this fault, whatever its line says of it
pub record HasFault (tag : ℕ) (fields : List Field) (fault : SessionFault) : Type 0 where
  pub fault_is : (date : List ℕ) (rule : TagRule) → rule.tag ≡ tag →
      tag_fault date rule (occurrence_of tag fields) ≡ Some fault

-- the tag has this fault where it has to stand
pub record HasFaultWhereRequired (tag : ℕ) (fields : List Field) (fault : SessionFault) : Type 0 where
  pub fault_is : (date : List ℕ) (value : ValueRule) → required tag value date fields ≡ Some fault
