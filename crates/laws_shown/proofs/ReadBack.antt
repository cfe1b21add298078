-- What a message that was written is read back as: its first fields are those that it was written
-- of, as far as these may stand in a frame.
use Rattle.std.proofs.Common.{◌≡◌, ◌≢◌, ℕ, ◌+◌, ◌-◌, ◌/◌, ◌%◌, ◌==◌, true, false, not}
use Rattle.std.proofs.Common.{cond, List, [], ◌∷◌, ◌++◌, length, codes, decimal, Option, Some, None}
use Rattle.std.proofs.Common.{refl, sym, ap, ◌∙◌, subst, arith, inl, inr, suc, zero, length-append}
use Rattle.std.proofs.Common.{nat_lt, sum}
use Rattle.std.specs.Fmt.{digit_glyph, digits, digits_onto}
use Rattle.std.specs.List.{AllByRecursion}
use Rattle.std.proofs.lemmas.Bool.{cases_Bool, cond_both}
use Rattle.std.proofs.lemmas.Bool.Decides.{nat_tests}
use Rattle.std.proofs.lemmas.Option.{same_Some}
use Rattle.std.proofs.Math.Seq.{take-append_seam, drop-append-add}
use Rattle.bond_prices.specs.Price.{before_nonzero, eight_decimals, fraction_digits, fraction_of}
use Rattle.bond_prices.specs.Price.{point_text, price_digits, without_last_zeros}
use Rattle.fix_fields.specs.Frame.{Field, IsField, IsTag, IsValue, body_of, builds, end_text}
use Rattle.fix_fields.specs.Frame.{fields_of, fields_text, frame_of, frame_text, front_text}
use Rattle.fix_fields.specs.Frame.{is_tag, is_value, length_digits_of, sum_digits_of, three_digits}
use Rattle.fix_fields.specs.Frame.{value_of}
use Rattle.fix_fields.specs.TextLaws.{value_if_all}
use Rattle.fix_fields.specs.UtcTimestamp.{IsDate, clock_text, date_text, timestamp_text}
use Rattle.fix_fields.proofs.CutLemmas.{rest_of_cut}
use Rattle.fix_fields.proofs.FieldsText.{fields_of-cons, fields_of-text}
use Rattle.fix_fields.proofs.PlaceLemmas.{free_append, place_behind}
use Rattle.quote_messages.specs.Written.{body_fields, header_fields, msg_type_of, written}
use Rattle.quote_messages.specs.Written.{written_fields}
use Rattle.quote_messages.specs.declared.out_messages.Head.{Head}
use Rattle.quote_messages.specs.declared.out_messages.OutMessage.{OutMessage}
use Rattle.quote_messages.specs.declared.out_messages.OutMessage.TheVariants as out

-- Values: what the venue writes by itself has no SOH.

pub both_values : (one other : List ℕ) → IsValue one → IsValue other → IsValue (one ++ other)
both_values one other = free_append 1 one other

not_soh : (byte : ℕ) → not (byte == 1) ≡ true → byte ≢ 1
not_soh byte is = λ e. grind (arith, nat_tests)

pub plain_value : (text : List ℕ) → is_value text ≡ true → IsValue text
plain_value text is = value_if_all (λ byte. not (byte == 1)) not_soh text is

digit_apart : (n : ℕ) → 48 + n ≢ 1
digit_apart n = omega arith

glyph_apart : (n : ℕ) → digit_glyph false n ≢ 1
glyph_apart n =
    cond_both (nat_lt n 10) (48 + n) (87 + n) (λ (byte : ℕ). byte ≢ 1) (λ below. omega arith)
    (λ above. omega arith)

onto_value : (k n : ℕ) (behind : List ℕ) → IsValue behind
    → IsValue (digits_onto k 10 false n behind)
onto_value zero n behind lawful = lawful
onto_value (suc k) n behind lawful =
    cond_both (n / 10 == 0) (digit_glyph false (n % 10) ∷ behind)
    (digits_onto k 10 false (n / 10) (digit_glyph false (n % 10) ∷ behind)) IsValue
    (λ last. (glyph_apart (n % 10), lawful))
    (λ more. onto_value k (n / 10) (digit_glyph false (n % 10) ∷ behind)
    (glyph_apart (n % 10), lawful))

pub number_value : (n : ℕ) → IsValue (decimal n)
unfolding digits
number_value n = onto_value 64 n [] tt

nonzero_value : (byte : ℕ) (behind : List ℕ) → byte ≢ 1 → IsValue behind
    → IsValue (before_nonzero byte behind)
nonzero_value byte [] apart lawful =
    cond_both (byte == 48) [] (byte ∷ []) IsValue (λ last. tt) (λ other. (apart, tt))
nonzero_value byte (next ∷ behind) apart lawful = (apart, lawful)

trimmed_value : (text : List ℕ) → IsValue text → IsValue (without_last_zeros text)
trimmed_value [] lawful = tt
trimmed_value (byte ∷ text) lawful =
    nonzero_value byte (without_last_zeros text) lawful.0 (trimmed_value text lawful.1)

decimals_value : (r : ℕ) → IsValue (eight_decimals r)
decimals_value r = (
  digit_apart _,
  (
    digit_apart _,
    (
      digit_apart _,
      (digit_apart _, (digit_apart _, (digit_apart _, (digit_apart _, (digit_apart _, tt))))),
    ),
  ),
)

fraction_value : (r : ℕ) → IsValue (point_text (fraction_of r))
unfolding fraction_digits
fraction_value r =
    cond_both (r == 0) None (Some (fraction_digits r))
    (λ (o : Option (List ℕ)). IsValue (point_text o)) (λ none. tt)
    (λ some. (λ e. cc, trimmed_value (eight_decimals r) (decimals_value r)))

pub price_value : (price : ℕ) → IsValue (price_digits price)
unfolding price_digits
price_value price =
    both_values (decimal (price / 256)) (point_text (fraction_of (price % 256)))
    (number_value (price / 256)) (fraction_value (price % 256))

clock_value : (moment : ℕ) → IsValue (45 ∷ clock_text moment)
clock_value moment = (
  λ e. cc,
  (
    digit_apart _,
    (
      digit_apart _,
      (
        λ e. cc,
        (
          digit_apart _,
          (
            digit_apart _,
            (λ e. cc, (digit_apart _, (digit_apart _, tt))),
          ),
        ),
      ),
    ),
  ),
)

pub date_value : (date : List ℕ) → IsDate date → IsValue date
date_value date is =
    let text : IsValue (date_text is.year is.month is.day) = (
      digit_apart _,
      (
        digit_apart _,
        (
          digit_apart _,
          (
            digit_apart _,
            (
              digit_apart _,
              (
                digit_apart _,
                (
                  digit_apart _,
                  (
                    digit_apart _,
                    tt,
                  ),
                ),
              ),
            ),
          ),
        ),
      ),
    ) in
    subst IsValue (sym is.text) text

pub timestamp_value : (date : List ℕ) (moment : ℕ) → IsValue date
    → IsValue (timestamp_text date moment)
timestamp_value date moment lawful =
    both_values (date ++ 45 ∷ clock_text moment) (46 ∷ three_digits (moment % 1000))
    (both_values date (45 ∷ clock_text moment) lawful (clock_value moment))
    (λ e. cc, (digit_apart _, (digit_apart _, (digit_apart _, tt))))

-- Fields.

tag_is : (tag : ℕ) → is_tag tag ≡ true → IsTag tag
tag_is tag is = grind (arith, nat_tests)

pub lawful_field : (tag : ℕ) (value : List ℕ) → is_tag tag ≡ true → IsValue value
    → IsField (tag, value)
lawful_field tag value is lawful = (tag_is tag is, lawful)

-- fields that may stand in a frame are read as they were written, whatever stands behind them
pub front_read : (front behind : List Field) → AllByRecursion IsField front
    → fields_of (fields_text (front ++ behind)) ≡ front ++ fields_of (fields_text behind)
front_read [] behind lawful = refl
front_read (field ∷ front) behind lawful =
    fields_of-cons field (fields_text (front ++ behind)) lawful.0
    ∙ ap (λ (fields : List Field). field ∷ fields) (front_read front behind lawful.1)

-- Bytes.

body_back : (bytes digits body end : List ℕ) → IsValue digits → length end ≡ 7
    → bytes ≡ front_text digits body ++ end → body_of bytes ≡ body
unfolding body_of
body_back bytes digits body end free seven is =
    let behind = body ++ end in
    let n : length behind - 7 ≡ length body = omega (arith, length-append body end) in
    rw (
      rest_of_cut bytes digits body end is,
      place_behind 1 digits behind free,
      drop-append-add digits (1 ∷ behind) 1,
      n,
    ) (take-append_seam body end)

-- what a frame is read as that was written of these fields
pub read_as : (wrote fields : List Field) → frame_of (frame_text wrote) ≡ Some fields
    → fields ≡ fields_of (fields_text wrote)
unfolding frame_of frame_text
read_as wrote fields is =
    let bytes = frame_text wrote in
    let cut = fields_of (body_of bytes) in
    let front = front_text (decimal (length (fields_text wrote))) (fields_text wrote) in
    let body : body_of bytes ≡ fields_text wrote =
    body_back bytes (decimal (length (fields_text wrote))) (fields_text wrote)
    (end_text (three_digits (sum front % 256))) (number_value (length (fields_text wrote))) refl refl
    in
    elim (cases_Bool (builds bytes (length_digits_of bytes) (sum_digits_of bytes) cut)) [
      | inl builds_it ↦
          let same : Some cut ≡ Some fields =
          subst (λ b. cond b (Some cut) None ≡ Some fields) builds_it is in
          sym (same_Some cut fields same) ∙ ap fields_of body
      | inr other ↦
          let none : None ≡ Some fields =
          subst (λ b. cond b (Some cut) None ≡ Some fields) other is in
          cc
    ]

-- and where all of these may stand in a frame, it is read as them
pub all_read : (wrote fields : List Field) → AllByRecursion IsField wrote
    → frame_of (frame_text wrote) ≡ Some fields → fields ≡ wrote
all_read wrote fields lawful is = read_as wrote fields is ∙ fields_of-text wrote lawful

-- Messages.

pub header_lawful : (msg_type : List ℕ) (head : Head) → IsValue msg_type → IsValue head.firm
    → IsValue head.date → AllByRecursion IsField (header_fields msg_type head)
header_lawful msg_type head typed named dated = (
  lawful_field 35 msg_type refl typed,
  (
    lawful_field 49 (codes "VENUE") refl (plain_value (codes "VENUE") refl),
    (
      lawful_field 56 head.firm refl named,
      (
        lawful_field 34 (decimal head.number) refl (number_value head.number),
        (
          lawful_field 52 (timestamp_text head.date head.moment) refl
              (timestamp_value head.date head.moment dated),
          tt,
        ),
      ),
    ),
  ),
)

type_value : (message : OutMessage) → IsValue (msg_type_of message)
type_value (out.Reject reject) = plain_value (codes "3") refl
type_value (out.Request request) = plain_value (codes "R") refl
type_value (out.ClosingNotice notice) = plain_value (codes "AJ") refl
type_value (out.RequestRefused request bond reason) = plain_value (codes "AG") refl
type_value (out.OfferedQuote quote) = plain_value (codes "S") refl
type_value other = plain_value (codes "AI") refl

module _ (head : Head) (message : OutMessage) (fields : List Field)
    (is : frame_of (written head message) ≡ Some fields) where
  -- whoever reads a message reads its type
  pub type_read : value_of 35 fields ≡ Some (msg_type_of message)
  unfolding written
  type_read =
      let wrote = written_fields head message in
      ap (value_of 35) (read_as wrote fields is
      ∙ front_read ((35, msg_type_of message) ∷ [])
      ((49, codes "VENUE") ∷ (56, head.firm) ∷ (34, decimal head.number)
      ∷ (52, timestamp_text head.date head.moment) ∷ body_fields head.date message)
      (lawful_field 35 (msg_type_of message) refl (type_value message), tt))

  -- and its header, where the names of the day and of the firm may stand in it
  pub header_read : IsValue head.firm → IsValue head.date
      → fields ≡ header_fields (msg_type_of message) head
      ++ fields_of (fields_text (body_fields head.date message))
  unfolding written
  header_read named dated =
      read_as (written_fields head message) fields is
      ∙ front_read (header_fields (msg_type_of message) head) (body_fields head.date message)
      (header_lawful (msg_type_of message) head (type_value message) named dated)

  -- and all of it, where all may stand in it
  pub fields_read : AllByRecursion IsField (written_fields head message)
      → fields ≡ written_fields head message
  unfolding written
  fields_read lawful = all_read (written_fields head message) fields lawful is
