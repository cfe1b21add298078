-- What is given the venue crosses.
use Rattle.std.proofs.Common.{◌≡◌, ◌≤◌, ◌<◌, ◌+◌, ◌-◌, ◌==◌, ℕ, Bool, true, not, ◌&&◌, nat_le, nat_lt, List, length, Option, Some, None, if◌then◌else◌}
use Rattle.std.proofs.Common.{refl, sym, ◌∙◌, ap, subst, arith, inl, inr}
use Rattle.std.specs.List.{list_all}
use Rattle.std.specs.Str.Parse.{digits_value}
use Rattle.std.proofs.lemmas.Bool.{cases_Bool, and_parts}
use Rattle.std.proofs.lemmas.Bool.Decides.{nat_tests}
use Rattle.std.proofs.lemmas.Str.Parse.{digits_value_short}
use Rattle.fix_fields.specs.Frame.{AreBody, fields_text, fields_of, fields_len, is_value}
use Rattle.fix_fields.specs.TextLaws.{digits_if_all}
use Rattle.fix_fields.proofs.Digits.{plain}
use Rattle.fix_fields.proofs.FieldsText.{text_of_fields}
use Rattle.fix_sessions.specs.Cuts.{body_of, is_of_version, is_version, length_text, version_of}
use Rattle.fix_sessions.specs.Flaws.{added_within, flaw_of, form_flaw, length_flaw}
use Rattle.fix_sessions.specs.Heard.{foreign_of, is_fixt, number_once}
use Rattle.fix_sessions.specs.Steps.{came}
use Rattle.fix_sessions.specs.Texts.{is_text, text_if_short}
use Rattle.fix_sessions.specs.declared.state.Clock.{Clock}
use Rattle.fix_sessions.specs.declared.state.Session.{Session}
use Rattle.fix_sessions.specs.declared.texts.Names.{Names}
use Rattle.fix_sessions.specs.declared.turns.Denial.{Denial}
use Rattle.wire_messages.specs.ToVenue.{IsMessage, IsNotForVenue, to_venue}
use Rattle.wire_messages.specs.ToVenue as wire
use Rattle.wire_messages.specs.declared.faults.Untranslated.{Untranslated}
use Rattle.wire_messages.specs.declared.faults.Untranslated.TheVariants as fault
use Rattle.laws_wire.specs.Sound.{Crosses, IsNoLonger, IsSound}
use Rattle.laws_wire.proofs.Choices.{neither_told, not_told, weaker}
use Rattle.laws_wire.proofs.Bodies.{IsBody, body_of_none}
use Rattle.laws_wire.proofs.Fronts.{HasParts, alone, parts_of}
use Rattle.laws_wire.proofs.Lengths.{given_fits, roomy_for}
use Rattle.laws_wire.proofs.Taken.{came_given}

-- A version that is not named as another is FIXT.1.1.

version_is_value : (c : ℕ) → is_of_version c ≡ true → not (c == 1) ≡ true
version_is_value c is = grind (arith, nat_tests)

version_is_text : (version : List ℕ) → is_version version ≡ true → is_text version ≡ true
version_is_text version h =
    let both = and_parts (nat_le 1 (length version) && nat_le (length version) 16) (list_all is_of_version version) h in
    let sizes = and_parts (nat_le 1 (length version)) (nat_le (length version) 16) both.0 in
    let value : is_value version ≡ true = weaker is_of_version (λ c. not (c == 1)) version_is_value version both.1 in
    let most : nat_le (length version) 1024 ≡ true = (let t = sizes.1 in grind (arith, nat_tests)) in
    rw (sizes.0, most, value) refl

fixt_of : (version : List ℕ) → is_version version ≡ true → foreign_of version ≡ None → is_fixt version ≡ true
fixt_of version is h =
    elim (cases_Bool (is_fixt version)) [
      | inl holds ↦ holds
      | inr fails ↦
          (let short : text_if_short version ≡ None = subst (λ b. (if b then None else text_if_short version) ≡ None) fails h in
          let found : Some version ≡ None = subst (λ b. (if b then Some version else None) ≡ None) (version_is_text version is) short in cc)
    ]

pub sound : (names : Names) (s : Session) (connection : ℕ) (clock : Clock) (bytes : List ℕ) (is_known : Bool) (denial : Option Denial) (number : ℕ)
    → (came names s connection clock bytes is_known denial).takes ≡ Some number → IsSound bytes number
sound names s connection clock bytes is_known denial number is =
    let taken = came_given names s connection clock bytes is_known denial number is in
    let p = alone bytes taken.whole in
    record {
      whole = taken.whole;
      version = fixt_of (version_of bytes) p.version taken.version;
      flawless = taken.flawless;
      numbered = taken.numbered;
    }

-- What a body without a fault says.
record HasNone (bytes : List ℕ) : Type 0 where
  pub body : IsBody (body_of bytes)
  pub fits : length bytes ≤ 4096 + added_within (length (body_of bytes)) (body_of bytes)

has_none : (bytes : List ℕ) → flaw_of (length bytes) (body_of bytes) ≡ None → HasNone bytes
unfolding flaw_of
has_none bytes h =
    let body = body_of bytes in
    let one = neither_told (form_flaw body) _ h in
    let two = neither_told (length_flaw (length bytes) body) _ one.1 in
    let long = not_told (nat_lt 4096 (length bytes - added_within (length body) body)) _ _ two.0 in
    record {
      body = body_of_none body one.0;
      fits = (let t = long.0 in grind (arith, nat_tests));
    }

module _ (bytes : List ℕ) (number : ℕ) (is : IsSound bytes number) where
  parts : HasParts bytes
  parts = parts_of bytes is.whole is.version

  none : HasNone bytes
  none = has_none bytes is.flawless

  -- both read the same fields
  same_fields : wire.fields_in bytes ≡ none.body.read.fields
  same_fields =
      ap fields_of parts.body
      ∙ text_of_fields (body_of bytes) none.body.read.fields none.body.read.lawful none.body.read.is

  pub message : IsMessage bytes
  message = record {
    begins = parts.begins;
    body = subst AreBody (sym same_fields) none.body.are;
    text = parts.body ∙ none.body.read.is ∙ ap fields_text (sym same_fields);
  }

  -- a BodyLength of three digits or fewer is below 1,000
  short_body : length (length_text bytes) ≤ 3 → length (body_of bytes) < 1000
  short_body few =
      let small : digits_value 10 (length_text bytes) < 1000 =
      digits_value_short plain (length_text bytes) 3 (digits_if_all (length_text bytes) parts.digits) few in
      omega (arith, small, parts.value)

  pub fits : (count : ℕ) → IsNoLonger count number → fields_len (to_venue count (wire.fields_in bytes)) ≤ 4071
  fits count shorter =
      let fields = none.body.read.fields in
      let once : number_once fields ≡ Some number = ap number_once (sym none.body.read.same) ∙ is.numbered in
      let given = given_fits count fields (roomy_for count number fields once shorter) in
      let text : length (body_of bytes) ≡ length (fields_text fields) = ap length none.body.read.is in
      let added = none.body.read.added in
      let whole = none.fits in
      let long = parts.long in
      let least : fields_len (to_venue count fields) ≤ 4071 =
      elim (cases_Bool (nat_le (length (length_text bytes)) 3)) [
        | inl holds ↦
            (let few : length (length_text bytes) ≤ 3 = grind (arith, nat_tests) in
            let small = short_body few in
            omega (arith, given, text, small))
        | inr fails ↦
            (let many : 3 < length (length_text bytes) = grind (arith, nat_tests) in
            omega (arith, given, text, added, whole, long, many))
      ] in
      subst (λ fs. fields_len (to_venue count fs) ≤ 4071) (sym same_fields) least

  pub memory_alone : (count : ℕ) → IsNoLonger count number → (why : Untranslated) → IsNotForVenue why bytes count → why ≡ fault.Memory
  memory_alone count shorter fault.Form not_for = absurd (not_for message)
  memory_alone count shorter fault.TooLong not_for = absurd (omega (arith, not_for.1, fits count shorter))
  memory_alone count shorter fault.Memory not_for = refl
  memory_alone count shorter fault.Number not_for = absurd not_for
  memory_alone count shorter fault.Added not_for = absurd not_for

pub crosses : (names : Names) (s : Session) (connection : ℕ) (clock : Clock) (bytes : List ℕ) (is_known : Bool) (denial : Option Denial) (number count : ℕ)
    → (came names s connection clock bytes is_known denial).takes ≡ Some number → IsNoLonger count number → Crosses bytes count
crosses names s connection clock bytes is_known denial number count given shorter =
    let is = sound names s connection clock bytes is_known denial number given in
    record {
      message = message bytes number is;
      fits = fits bytes number is count shorter;
      memory = memory_alone bytes number is count shorter;
    }
