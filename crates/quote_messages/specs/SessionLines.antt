-- The lines of the tables of session checks: what is looked at of a tag, in its order, and what a
-- tag reads as.
use Rattle.std.specs.Prelude.{ℕ, Bool, true, false, ◌==◌, nat_lt, List, [], ◌∷◌, length, Option}
use Rattle.std.specs.Prelude.{Some, None, unwrap_or, Result, Err, if◌then◌else◌, option_and_then}
use Rattle.fix_fields.specs.Frame.{Field, value_of, times_of}
use Rattle.quote_messages.specs.Texts.{number_of}
use Rattle.quote_messages.specs.ValueForms.{ValueRule, value_fault}
use Rattle.quote_messages.specs.declared.session_faults.SessionRejectReason.{SessionRejectReason}
use Rattle.quote_messages.specs.declared.session_faults.SessionRejectReason.TheVariants.{RequiredTagMissing}
use Rattle.quote_messages.specs.declared.session_faults.SessionRejectReason.TheVariants.{TagWithoutValue}
use Rattle.quote_messages.specs.declared.session_faults.SessionRejectReason.TheVariants.{TagMoreThanOnce}
use Rattle.quote_messages.specs.declared.session_faults.SessionFault.{SessionFault}

-- what a tag reads as

-- the text that a tag has
abbrev pub text_at : ℕ → List Field → List ℕ
text_at tag fields = unwrap_or (value_of tag fields) []

-- the number that a tag has
abbrev pub number_at : ℕ → List Field → Option ℕ
number_at tag fields = option_and_then number_of (value_of tag fields)

-- whether a number is there and is n
abbrev pub is_number : ℕ → Option ℕ → Bool
is_number n None = false
is_number n (Some number) = number == n

-- whether the number that a tag has is n
abbrev pub has_number : ℕ → ℕ → List Field → Bool
has_number tag n fields = is_number n (number_at tag fields)

-- how a tag stands in a message: its first value, where it stands, and whether it stands more than
-- once
pub record Occurrence : Type 0 where
  pub first : Option (List ℕ)
  pub is_repeated : Bool

abbrev pub occurrence_of : ℕ → List Field → Occurrence
occurrence_of tag fields = record {
  first = value_of tag fields;
  is_repeated = nat_lt 1 (times_of tag fields);
}

-- what is asked of a tag: whether it has to stand, and what its value has to be
pub record TagRule : Type 0 where
  pub tag : ℕ
  pub is_required : Bool
  pub value : ValueRule

-- what is wrong with a tag that stands so: missing, more than once, empty, or by its value
abbrev pub occurrence_fault : List ℕ → TagRule → Option (List ℕ) → Bool → Option SessionRejectReason
occurrence_fault date rule None is_repeated = if rule.is_required then Some RequiredTagMissing
    else None
occurrence_fault date rule (Some value) is_repeated =
    if is_repeated then Some TagMoreThanOnce
    else (if length value == 0 then Some TagWithoutValue else value_fault date rule.value value)

-- a reason as the fault of a tag
abbrev pub at_tag : ℕ → Option SessionRejectReason → Option SessionFault
at_tag tag None = None
at_tag tag (Some reason) = Some (record { tag = tag; reason = reason })

-- the fault of a tag that stands so, if it has one
unfoldable pub tag_fault : List ℕ → TagRule → Occurrence → Option SessionFault
tag_fault date rule found =
    at_tag rule.tag (occurrence_fault date rule found.first found.is_repeated)

-- A line of a table: the fault that it finds in the fields of a message, if it finds one. It may
-- look at all of them.
abbrev pub Line : Type 0
Line = List ℕ → List Field → Option SessionFault

-- a tag whose value has to be this, and that has to stand where the message says so
abbrev pub required_where : (List Field → Bool) → ℕ → ValueRule → Line
required_where is_required tag value = λ date fields.
    tag_fault date (record {
      tag = tag;
      is_required = is_required fields;
      value = value;
    }) (occurrence_of tag fields)

-- a tag that has to stand
abbrev pub required : ℕ → ValueRule → Line
required tag value = required_where (λ fields. true) tag value

-- a tag that may be absent
abbrev pub optional : ℕ → ValueRule → Line
optional tag value = required_where (λ fields. false) tag value

-- a fault, or the next one where there is none
abbrev pub or_next : Option SessionFault → Option SessionFault → Option SessionFault
or_next None next = next
or_next (Some fault) next = Some fault

-- the fault of the first line that a message does not keep
abbrev pub first_fault : List Line → List ℕ → List Field → Option SessionFault
first_fault [] date fields = None
first_fault (line ∷ lines) date fields = or_next (line date fields) (first_fault lines date fields)

-- a fault, or the verdict where there is no fault
abbrev pub unless_fault : {A : Type 0} → Option SessionFault → Result A SessionFault
    → Result A SessionFault
unless_fault None verdict = verdict
unless_fault (Some fault) verdict = Err fault
