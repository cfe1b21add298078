-- What the fields of a message say that kept the lines of its table.
use Rattle.std.proofs.Common.{◌≡◌, ℕ, ◌==◌, Bool, true, false, List, [], ◌∷◌, length}
use Rattle.std.proofs.Common.{Option, Some, None, Result, Ok, Err, refl, sym, ap}
use Rattle.std.proofs.Common.{if◌then◌else◌, inl, inr, option_map}
use Rattle.std.specs.Prelude.{unwrap_or, option_and_then}
use Rattle.std.specs.Result.{result_ok}
use Rattle.std.proofs.lemmas.Bool.{cases_Bool}
use Rattle.std.proofs.lemmas.Slice.Eq.{bytes_eq-Decides}
use Rattle.fix_fields.specs.Frame.{Field, value_of}
use Rattle.fix_fields.specs.UtcTimestamp.{moment_of}
use Rattle.fix_fields.specs.declared.fault.MomentFault.{MomentFault}
use Rattle.fix_fields.specs.declared.fault.MomentFault.TheVariants as moment_faults
use Rattle.quote_messages.specs.SessionLines.{at_tag, occurrence_fault, occurrence_of, text_at}
use Rattle.quote_messages.specs.SessionLines.{Line, first_fault, optional, required, required_where}
use Rattle.quote_messages.proofs.GroupLemmas.{or_next-none}
use Rattle.step_replay.specs.Lists.{Every}
use Rattle.quote_messages.specs.SessionLines.{tag_fault}
use Rattle.quote_messages.specs.ValueForms.{AMoment, AQuantity, OneOf, ValueRule}
use Rattle.quote_messages.specs.ValueForms.{moment_fault, quantity_fault, quantity_of, value_fault}
use Rattle.quote_messages.specs.declared.session_faults.SessionRejectReason.{SessionRejectReason}
use Rattle.quote_messages.specs.declared.session_faults.SessionRejectReason.TheVariants as reasons
use Rattle.venue_rows.specs.Texts.{is_among, same_text}

-- Texts.

pub text_same : (one other : List ℕ) → same_text one other ≡ true → one ≡ other
text_same one other is = (bytes_eq-Decides one other).0 is

pub one_among : (text value : List ℕ) → is_among (text ∷ []) value ≡ true → value ≡ text
one_among text value is = elim (cases_Bool (same_text text value)) [
  | inl same ↦ sym (text_same text value same)
  | inr differs ↦ cc (rw differs at is)
]

-- Lines.

-- how a tag stands that kept its line: it may be absent where it is not required, and its value has
-- no fault
abbrev pub Stood : List ℕ → Bool → ValueRule → Option (List ℕ) → Type 0
Stood date is_required rule None = is_required ≡ false
Stood date is_required rule (Some value) = value_fault date rule value ≡ None

absent_kept : (tag : ℕ) (b : Bool)
    → at_tag tag (if b then Some reasons.RequiredTagMissing else None) ≡ None → b ≡ false
absent_kept tag true kept = cc
absent_kept tag false kept = refl

value_kept : (tag : ℕ) (repeated empty : Bool) (fault : Option SessionRejectReason)
    → at_tag tag (if repeated then Some reasons.TagMoreThanOnce
    else (if empty then Some reasons.TagWithoutValue else fault)) ≡ None → fault ≡ None
value_kept tag true empty fault kept = cc
value_kept tag false true fault kept = cc
value_kept tag false false None kept = refl
value_kept tag false false (Some reason) kept = cc

occurrence_kept : (date : List ℕ) (b : Bool) (tag : ℕ) (rule : ValueRule)
    (first : Option (List ℕ)) (repeated : Bool)
    → at_tag tag (occurrence_fault date (record { tag = tag; is_required = b; value = rule }) first
    repeated) ≡ None → Stood date b rule first
occurrence_kept date b tag rule None repeated kept = absent_kept tag b kept
occurrence_kept date b tag rule (Some value) repeated kept =
    value_kept tag repeated (length value == 0) (value_fault date rule value) kept

line_kept : (date : List ℕ) (is_required : List Field → Bool) (tag : ℕ) (rule : ValueRule)
    (fields : List Field) → required_where is_required tag rule date fields ≡ None
    → Stood date (is_required fields) rule (value_of tag fields)
unfolding tag_fault
line_kept date is_required tag rule fields kept =
    occurrence_kept date (is_required fields) tag rule (value_of tag fields)
    (occurrence_of tag fields).is_repeated kept

-- What stands.

-- a tag that has to stand
stands : (date : List ℕ) (rule : ValueRule) (value : Option (List ℕ))
    → Stood date true rule value → value ≡ Some (unwrap_or value [])
stands date rule None stood = cc
stands date rule (Some text) stood = refl

-- a tag that is one text
stands_as : (date text : List ℕ) (reason : SessionRejectReason) (value : Option (List ℕ))
    → Stood date true (OneOf (text ∷ []) reason) value → value ≡ Some text
stands_as date text reason None stood = cc
stands_as date text reason (Some value) stood = elim (cases_Bool (is_among (text ∷ []) value)) [
  | inl is ↦ ap (λ (t : List ℕ). Some t) (one_among text value is)
  | inr isnt ↦ cc (rw isnt at stood)
]

-- what a tag that has to stand is read as
moment_kept : (read : Result ℕ MomentFault) → moment_fault read ≡ None
    → Some read ≡ Some (Ok (unwrap_or (result_ok read) 0))
moment_kept (Ok moment) kept = refl
moment_kept (Err moment_faults.Form) kept = cc
moment_kept (Err moment_faults.OtherDay) kept = cc

moment_stands : (date : List ℕ) (value : Option (List ℕ)) → Stood date true AMoment value
    → option_map (moment_of date) value
    ≡ Some (Ok (unwrap_or (result_ok (moment_of date (unwrap_or value []))) 0))
moment_stands date None stood = cc
moment_stands date (Some text) stood = moment_kept (moment_of date text) stood

quantity_kept : (read : Result ℕ SessionRejectReason) → quantity_fault read ≡ None
    → Some read ≡ Some (Ok (unwrap_or (result_ok read) 0))
quantity_kept (Ok units) kept = refl
quantity_kept (Err reason) kept = cc

quantity_stands : (date : List ℕ) (value : Option (List ℕ)) → Stood date true AQuantity value
    → option_map quantity_of value
    ≡ Some (Ok (unwrap_or (result_ok (quantity_of (unwrap_or value []))) 0))
quantity_stands date None stood = cc
quantity_stands date (Some text) stood = quantity_kept (quantity_of text) stood

-- and what one is read as that may be absent
moment_left : (read : Result ℕ MomentFault) → moment_fault read ≡ None
    → Some read ≡ option_map (λ (m : ℕ). Ok m) (result_ok read)
moment_left (Ok moment) kept = refl
moment_left (Err moment_faults.Form) kept = cc
moment_left (Err moment_faults.OtherDay) kept = cc

moment_optional : (date : List ℕ) (value : Option (List ℕ)) → Stood date false AMoment value
    → option_map (moment_of date) value
    ≡ option_map (λ (m : ℕ). Ok m)
    (option_and_then (λ (text : List ℕ). result_ok (moment_of date text)) value)
moment_optional date None stood = refl
moment_optional date (Some text) stood = moment_left (moment_of date text) stood

-- Lines that a message kept.

pub lines_kept : (date : List ℕ) (fields : List Field) (lines : List Line)
    → first_fault lines date fields ≡ None
    → Every (λ (line : Line). line date fields ≡ None) lines
lines_kept date fields [] kept = tt
lines_kept date fields (line ∷ lines) kept =
    let both = or_next-none (line date fields) (first_fault lines date fields) kept in
    (both.0, lines_kept date fields lines both.1)

module _ (date : List ℕ) (fields : List Field) (tag : ℕ) where
  pub required_stands : (rule : ValueRule) → required tag rule date fields ≡ None
      → value_of tag fields ≡ Some (text_at tag fields)
  required_stands rule kept =
      stands date rule (value_of tag fields) (line_kept date (λ f. true) tag rule fields kept)

  pub required_as : (text : List ℕ) (reason : SessionRejectReason)
      → required tag (OneOf (text ∷ []) reason) date fields ≡ None
      → value_of tag fields ≡ Some text
  required_as text reason kept =
      stands_as date text reason (value_of tag fields)
      (line_kept date (λ f. true) tag (OneOf (text ∷ []) reason) fields kept)

  pub required_moment : required tag AMoment date fields ≡ None
      → option_map (moment_of date) (value_of tag fields)
      ≡ Some (Ok (unwrap_or (result_ok (moment_of date (text_at tag fields))) 0))
  required_moment kept =
      moment_stands date (value_of tag fields) (line_kept date (λ f. true) tag AMoment fields kept)

  pub required_quantity : required tag AQuantity date fields ≡ None
      → option_map quantity_of (value_of tag fields)
      ≡ Some (Ok (unwrap_or (result_ok (quantity_of (text_at tag fields))) 0))
  required_quantity kept =
      quantity_stands date (value_of tag fields)
      (line_kept date (λ f. true) tag AQuantity fields kept)

  pub optional_moment : optional tag AMoment date fields ≡ None
      → option_map (moment_of date) (value_of tag fields)
      ≡ option_map (λ (m : ℕ). Ok m)
      (option_and_then (λ (text : List ℕ). result_ok (moment_of date text)) (value_of tag fields))
  optional_moment kept =
      moment_optional date (value_of tag fields)
      (line_kept date (λ f. false) tag AMoment fields kept)

  pub optional_kept : (rule : ValueRule) → optional tag rule date fields ≡ None
      → Stood date false rule (value_of tag fields)
  optional_kept rule kept = line_kept date (λ f. false) tag rule fields kept

  pub required_kept : (rule : ValueRule) → required tag rule date fields ≡ None
      → Stood date true rule (value_of tag fields)
  required_kept rule kept = line_kept date (λ f. true) tag rule fields kept
