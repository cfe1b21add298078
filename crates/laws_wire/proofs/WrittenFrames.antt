-- A message whose texts and moments may be said: it is a frame, the wire adds no field that it has,
-- and what the wire makes of it fits.
use Rattle.std.proofs.Common.{◌≡◌, ℕ, ◌+◌, ◌*◌, ◌≤◌, ◌==◌, ◌&&◌, ◌||◌, Bool, true, false, not, List}
use Rattle.std.proofs.Common.{[], ◌∷◌, ◌++◌, codes, decimal, length, map, Option, Some, None}
use Rattle.std.proofs.Common.{refl, sym, ◌∙◌, subst, arith, inl, inr, is_some, length-append}
use Rattle.std.specs.List.{AllByRecursion}
use Rattle.std.specs.Prelude.{nat_eq}
use Rattle.std.specs.Cmp.Lexicographic.{pointwise}
use Rattle.std.proofs.lemmas.Bool.{and_parts, cond_both}
use Rattle.std.proofs.lemmas.Bool.Decides.{nat_tests}
use Rattle.fix_fields.specs.Frame.{Field, IsField, field_text, fields_len, fields_text, frame_of}
use Rattle.fix_fields.specs.Frame.{is_tag}
use Rattle.fix_fields.specs.UtcTimestamp.{IsDate, timestamp_text}
use Rattle.fix_fields.proofs.FrameParts.{frame_of-frame}
use Rattle.fix_fields.proofs.WriterLemmas.{is_frame_text}
use Rattle.quote_messages.specs.Written.{body_fields, header_fields, msg_type_of, written}
use Rattle.quote_messages.specs.Written.{written_fields}
use Rattle.quote_messages.specs.declared.out_messages.Head.{Head}
use Rattle.quote_messages.specs.declared.out_messages.OutMessage.{OutMessage}
use Rattle.step_replay.specs.EachLemmas.{every_both, every_weaker}
use Rattle.step_replay.specs.Lists.{Every}
use Rattle.wire_messages.specs.ToFirm.{IsTold, VenueMessage, has_added, referred, timed}
use Rattle.wire_messages.specs.ToFirm.{time_stands_before, to_firm, told_fields, wire_behind}
use Rattle.laws_shown.proofs.ReadBack.{lawful_field}
use Rattle.laws_wire.specs.Carriable.{IsBrief, IsToldBeside}
use Rattle.laws_wire.proofs.FieldValues.{AreValues, IsGiven, IsShortValue, number_short}
use Rattle.laws_wire.proofs.FieldValues.{short_values}
use Rattle.laws_wire.proofs.MessageCounts.{body_few}
use Rattle.laws_wire.proofs.MessageFields.{AreSo, IsSo, MessageGiven, body_so, has_reason}
use Rattle.laws_wire.proofs.MessageFields.{header_so, is_body_tag, is_own_tag, loosened}
use Rattle.laws_wire.proofs.MessageFields.{type_given}

-- Tags.

module _ (b : Bool) (tag : ℕ) (is : is_own_tag b tag ≡ true) where
  of_body : is_body_tag tag ≡ true
  of_body = (and_parts (is_body_tag tag) (b || not (tag == 58)) is).0

  own_lawful : is_tag tag ≡ true
  own_lawful = let own : is_body_tag tag ≡ true = of_body in grind (arith, nat_tests)

  own_1181 : (tag == 1181) ≡ false
  own_1181 = let own : is_body_tag tag ≡ true = of_body in grind (arith, nat_tests)

  own_60 : (tag == 60) ≡ false
  own_60 = let own : is_body_tag tag ≡ true = of_body in grind (arith, nat_tests)

  own_1003 : (tag == 1003) ≡ false
  own_1003 = let own : is_body_tag tag ≡ true = of_body in grind (arith, nat_tests)

own_58 : (tag : ℕ) → is_own_tag false tag ≡ true → (tag == 58) ≡ false
own_58 tag is =
    let other : not (tag == 58) ≡ true = (and_parts (is_body_tag tag) (not (tag == 58)) is).1 in
    grind (arith, nat_tests)

abbrev pub OwnTags : Bool → List Field → Type 0
OwnTags b fields = Every (λ (field : Field). is_own_tag b field.0 ≡ true) fields

none_untold : (b : Bool) (fields : List Field) → OwnTags b fields → has_added None fields ≡ false
none_untold b [] tags = refl
none_untold b (field ∷ fields) tags =
    rw (own_1181 b field.0 tags.0, own_60 b field.0 tags.0) (none_untold b fields tags.1)

none_by : (tag : ℕ) (text : List ℕ) → ((own : ℕ) → is_own_tag false own ≡ true
    → (own == tag) ≡ false)
    → (fields : List Field) → OwnTags false fields → has_added (Some (tag, text)) fields ≡ false
none_by tag text apart [] tags = refl
none_by tag text apart (field ∷ fields) tags =
    rw (own_1181 false field.0 tags.0, own_60 false field.0 tags.0, apart field.0 tags.0)
    (none_by tag text apart fields tags.1)

none_told : (told : Option Field) → IsTold told → (fields : List Field) → OwnTags false fields
    → has_added told fields ≡ false
none_told None is fields tags = none_untold false fields tags
none_told (Some field) is fields tags =
    elim is.0 [
      | inl reason ↦ none_by field.0 field.1
          (λ own own_is. subst (λ (t : ℕ). (own == t) ≡ false) (sym reason) (own_58 own own_is))
          fields tags
      | inr trade ↦ none_by field.0 field.1
          (λ own own_is. subst (λ (t : ℕ). (own == t) ≡ false) (sym trade)
          (own_1003 false own own_is))
          fields tags
    ]

-- nothing that is told beside a message stands in it
pub none_added : {Note : Type 0} (note : Option Note) (told : Option Field) (b : Bool)
    → IsToldBeside note told → (is_some note ≡ true → b ≡ false) → (fields : List Field)
    → OwnTags b fields → has_added told fields ≡ false
none_added None told b beside free fields tags =
    subst (λ (o : Option Field). has_added o fields ≡ false) (sym beside)
    (none_untold b fields tags)
none_added (Some note) told b beside free fields tags =
    none_told told beside.0 fields (subst (λ (c : Bool). OwnTags c fields) (free refl) tags)

-- Lengths.

abbrev IsShort : Field → Type 0
IsShort field = length field.1 ≤ 74

-- a field, as it is written
field_long : (field : Field)
    → length (field_text field) ≡ length (decimal field.0) + length field.1 + 2
field_long field =
    let value = field.1 ++ (1 ∷ []) in
    let behind : length value ≡ length field.1 + 1 = length-append field.1 (1 ∷ []) in
    let all : length (field_text field) ≡ length (decimal field.0) + length (61 ∷ value) =
    length-append (decimal field.0) (61 ∷ value) in
    omega (arith, all, behind)

fields_short : (fields : List Field) → Every IsShort fields
    → length (fields_text fields) ≤ 140 * length fields
fields_short [] short = omega arith
fields_short (field ∷ fields) short =
    let rest = fields_short fields short.1 in
    let tag = number_short field.0 in
    let value : length field.1 ≤ 74 = short.0 in
    let first = field_long field in
    let all : length (fields_text (field ∷ fields))
    ≡ length (field_text field) + length (fields_text fields) =
    length-append (field_text field) (fields_text fields) in
    omega (arith, all, first, rest, tag, value)

both_long : (xs ys : List Field)
    → length (fields_text (xs ++ ys)) ≡ length (fields_text xs) + length (fields_text ys)
both_long [] ys = omega arith
both_long (field ∷ fields) ys =
    let rest = both_long fields ys in
    let all : length (fields_text (field ∷ fields ++ ys))
    ≡ length (field_text field) + length (fields_text (fields ++ ys)) =
    length-append (field_text field) (fields_text (fields ++ ys)) in
    let front : length (fields_text (field ∷ fields))
    ≡ length (field_text field) + length (fields_text fields) =
    length-append (field_text field) (fields_text fields) in
    omega (arith, all, front, rest)

timed_short : (kind moment : List ℕ) → length moment ≤ 74 → (fields : List Field)
    → Every IsShort fields → Every IsShort (timed kind moment fields)
timed_short kind moment most [] short = (most, tt)
timed_short kind moment most (field ∷ fields) short =
    cond_both (time_stands_before kind field.0) ((60, moment) ∷ field ∷ fields)
    (field ∷ timed kind moment fields) (Every IsShort) (λ due. (most, short))
    (λ early. (short.0, timed_short kind moment most fields short.1))

timed_count : (kind moment : List ℕ) (fields : List Field)
    → length (timed kind moment fields) ≡ 1 + length fields
timed_count kind moment [] = refl
timed_count kind moment (field ∷ fields) =
    cond_both (time_stands_before kind field.0) ((60, moment) ∷ field ∷ fields)
    (field ∷ timed kind moment fields) (λ (l : List Field). length l ≡ 1 + length (field ∷ fields))
    (λ due. omega arith) (λ early. let rest = timed_count kind moment fields in omega (arith, rest))

referred_short : (kind : List ℕ) (reference : ℕ) (fields : List Field) → Every IsShort fields
    → Every IsShort (map (referred kind reference) fields)
referred_short kind reference [] short = tt
referred_short kind reference (field ∷ fields) short = (
  cond_both ((field.0 == 45) && pointwise nat_eq kind (codes "3") && not (reference == 0))
      (45, decimal reference) field IsShort
      (λ refers. let few = number_short reference in omega (arith, few)) (λ other. short.0),
  referred_short kind reference fields short.1,
)

referred_count : (kind : List ℕ) (reference : ℕ) (fields : List Field)
    → length (map (referred kind reference) fields) ≡ length fields
referred_count kind reference [] = refl
referred_count kind reference (field ∷ fields) =
    let rest = referred_count kind reference fields in omega (arith, rest)

told_short : (told : Option Field) → IsBrief told → length (fields_text (told_fields told)) ≤ 266
told_short None brief = omega arith
told_short (Some field) brief =
    let tag = number_short field.0 in
    let first = field_long field in
    let most : length field.1 ≤ 200 = brief in
    let all : length (fields_text (told_fields (Some field))) ≡ length (field_text field) + 0 =
    length-append (field_text field) [] in
    omega (arith, all, first, tag, most)

pub wire_fits : (m : VenueMessage) (reference : ℕ) (told : Option Field) → IsBrief told
    → length m.kind ≤ 74 → length m.number ≤ 74 → length m.moment ≤ 74 → Every IsShort m.behind
    → length m.behind ≤ 14 → fields_len (to_firm reference told m) ≤ 3800
unfolding fields_len
wire_fits m reference told brief kind number moment short few =
    let inner = timed m.kind m.moment m.behind in
    let behind = wire_behind reference m in
    let own : List Field = (35, m.kind) ∷ (1181, m.number) ∷ behind in
    let shorts : Every IsShort own = (
      kind,
      (
        number,
        referred_short m.kind reference inner (timed_short m.kind m.moment moment m.behind short),
      ),
    ) in
    let count : length behind ≡ 1 + length m.behind =
    referred_count m.kind reference inner ∙ timed_count m.kind m.moment m.behind in
    let long : length own ≡ 2 + length behind = omega arith in
    let front : length (fields_text own) ≤ 140 * length own = fields_short own shorts in
    let last = told_short told brief in
    let all : fields_len (to_firm reference told m)
    ≡ length (fields_text own) + length (fields_text (told_fields told)) =
    both_long own (told_fields told) in
    omega (arith, all, front, last, count, long, few)

-- Messages.

-- the message, as the wire has it
abbrev pub venue_message : Head → OutMessage → VenueMessage
venue_message head message = record {
  kind = msg_type_of message;
  sender = codes "VENUE";
  target = head.firm;
  number = decimal head.number;
  moment = timestamp_text head.date head.moment;
  behind = body_fields head.date message;
}

module _ (D : ℕ → Type 0) (head : Head) (message : OutMessage) (dated : IsDate head.date)
    (named : IsGiven head.firm) (of_day : D head.moment) (given : MessageGiven D message) where
  values : AreValues IsShortValue D head.date
  values = short_values D head.date dated

  behind_so : AreSo IsShortValue (has_reason message) (body_fields head.date message)
  behind_so = body_so IsShortValue D head.date values message given

  all_so : AreSo IsShortValue (has_reason message) (written_fields head message)
  all_so =
      every_both (IsSo IsShortValue (has_reason message))
      (header_fields (msg_type_of message) head) (body_fields head.date message)
      (loosened IsShortValue D head.date values (has_reason message)
      (header_fields (msg_type_of message) head)
      (header_so IsShortValue D head.date values head (msg_type_of message) refl
      (type_given message) named of_day)) behind_so

  lawful : (fields : List Field) → AreSo IsShortValue (has_reason message) fields
      → AllByRecursion IsField fields
  lawful [] so = tt
  lawful (field ∷ fields) so = (
    lawful_field field.0 field.1 (own_lawful (has_reason message) field.0 so.0.0) so.0.1.0,
    lawful fields so.1,
  )

  short_fields : (fields : List Field) → AreSo IsShortValue (has_reason message) fields
      → Every IsShort fields
  short_fields fields so =
      every_weaker (IsSo IsShortValue (has_reason message)) IsShort
      (λ field is. is.1.1) fields so

  pub frame_read : frame_of (written head message) ≡ Some (written_fields head message)
  unfolding written
  frame_read =
      let fields = written_fields head message in
      let few = body_few head.date message in
      let count : length fields ≤ 19 = omega (arith, few) in
      let long = fields_short fields (short_fields fields all_so) in
      frame_of-frame _ fields (is_frame_text fields (refl, lawful fields all_so)
      (omega (arith, long, count)))

  pub own_tags : OwnTags (has_reason message) (body_fields head.date message)
  own_tags =
      every_weaker (IsSo IsShortValue (has_reason message))
      (λ (field : Field). is_own_tag (has_reason message) field.0 ≡ true) (λ field is. is.0)
      (body_fields head.date message) behind_so

  pub fits_the_wire : (reference : ℕ) (told : Option Field) → IsBrief told
      → fields_len (to_firm reference told (venue_message head message)) ≤ 3800
  fits_the_wire reference told brief =
      wire_fits (venue_message head message) reference told brief
      (values.given (msg_type_of message) (type_given message)).1
      (values.number head.number).1 (values.time head.moment of_day).1
      (short_fields (body_fields head.date message) behind_so) (body_few head.date message)
