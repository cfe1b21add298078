-- A message whose texts and moments may be said, on a day, has no bar.
use Rattle.std.proofs.Common.{◌≡◌, ◌≢◌, ◌≤◌, ℕ, ◌+◌, ◌/◌, ◌%◌, ◌<◌, ◌==◌, Bool, true, false, not}
use Rattle.std.proofs.Common.{nat_le, nat_lt, List, [], ◌∷◌, ◌++◌, codes, decimal, length, sum}
use Rattle.std.proofs.Common.{Option}
use Rattle.std.proofs.Common.{Some, None, refl, sym, subst, arith, suc, zero}
use Rattle.std.specs.Fmt.{digit_glyph, digits, digits_onto}
use Rattle.std.specs.List.{AllByRecursion, list_all}
use Rattle.std.proofs.lemmas.Bool.{and_from, and_parts, cond_both}
use Rattle.std.proofs.lemmas.Bool.Decides.{nat_tests}
use Rattle.bond_prices.specs.Price.{before_nonzero, eight_decimals, fraction_digits, fraction_of}
use Rattle.bond_prices.specs.Price.{point_text, price_digits, without_last_zeros}
use Rattle.fix_fields.specs.Frame.{Field, end_text, field_text, fields_text, frame_text, front_text}
use Rattle.fix_fields.specs.Frame.{start_text, three_digits}
use Rattle.fix_fields.specs.UtcTimestamp.{IsDate, clock_text, date_text, timestamp_text}
use Rattle.fix_fields.specs.declared.limits.TheConstants.{A_DAY}
use Rattle.quote_messages.specs.Written.{body_fields, header_fields, msg_type_of, written}
use Rattle.quote_messages.specs.Written.{written_fields}
use Rattle.step_replay.specs.EachLemmas.{every_both}
use Rattle.step_replay.specs.Lists.{Every, In}
use Rattle.laws_wire.specs.Carriable.{has_no_bar}
use Rattle.laws_wire.proofs.FieldValues.{AreValues, IsGiven, is_fit}
use Rattle.laws_wire.proofs.MessageFields.{IsSo, body_so, has_reason, header_so, loosened}
use Rattle.laws_wire.proofs.MessageFields.{type_given}
use Rattle.laws_wire.proofs.SaidMessages.{AreSaid, IsSaid}
use Rattle.std.proofs.Common.{inl, inr, is_some}

abbrev NoBar : List ℕ → Type 0
NoBar text = AllByRecursion (λ (byte : ℕ). byte ≢ 124) text

both_free : (xs ys : List ℕ) → NoBar xs → NoBar ys → NoBar (xs ++ ys)
both_free [] ys one other = other
both_free (x ∷ xs) ys one other = (one.0, both_free xs ys one.1 other)

fit_apart : (c : ℕ) → is_fit c ≡ true → c ≢ 124
fit_apart c is = λ e. grind (arith, nat_tests)

all_apart : (xs : List ℕ) → list_all is_fit xs ≡ true → NoBar xs
all_apart [] each = tt
all_apart (x ∷ xs) each =
    let parts = and_parts (is_fit x) (list_all is_fit xs) each in
    (fit_apart x parts.0, all_apart xs parts.1)

given_free : (text : List ℕ) → IsGiven text → NoBar text
given_free text is =
    all_apart text (and_parts (nat_le (length text) 40) (list_all is_fit text) is).1

digit_apart : (n : ℕ) → n < 76 → 48 + n ≢ 124
digit_apart n below = omega arith

glyph_apart : (n : ℕ) → n < 10 → digit_glyph false n ≢ 124
glyph_apart n below =
    cond_both (nat_lt n 10) (48 + n) (87 + n) (λ (byte : ℕ). byte ≢ 124) (λ is. omega arith)
    (λ isnt. grind (arith, nat_tests))

onto_free : (k n : ℕ) (behind : List ℕ) → NoBar behind
    → NoBar (digits_onto k 10 false n behind)
onto_free zero n behind free = free
onto_free (suc k) n behind free =
    let small : n % 10 < 10 = omega arith in
    cond_both (n / 10 == 0) (digit_glyph false (n % 10) ∷ behind)
    (digits_onto k 10 false (n / 10) (digit_glyph false (n % 10) ∷ behind)) NoBar
    (λ last. (glyph_apart (n % 10) small, free))
    (λ more. onto_free k (n / 10) (digit_glyph false (n % 10) ∷ behind)
    (glyph_apart (n % 10) small, free))

number_free : (n : ℕ) → NoBar (decimal n)
unfolding digits
number_free n = onto_free 64 n [] tt

nonzero_free : (byte : ℕ) (behind : List ℕ) → byte ≢ 124 → NoBar behind
    → NoBar (before_nonzero byte behind)
nonzero_free byte [] apart free =
    cond_both (byte == 48) [] (byte ∷ []) NoBar (λ last. tt) (λ other. (apart, tt))
nonzero_free byte (next ∷ behind) apart free = (apart, free)

trimmed_free : (text : List ℕ) → NoBar text → NoBar (without_last_zeros text)
trimmed_free [] free = tt
trimmed_free (byte ∷ text) free =
    nonzero_free byte (without_last_zeros text) free.0 (trimmed_free text free.1)

last_digit : (n : ℕ) → 48 + n % 10 ≢ 124
last_digit n = digit_apart (n % 10) (omega arith)

fraction_free : (r : ℕ) → NoBar (point_text (fraction_of r))
unfolding fraction_digits
fraction_free r =
    let eight : NoBar (eight_decimals r) = (
      last_digit _,
      (
        last_digit _,
        (
          last_digit _,
          (
            last_digit _,
            (
              last_digit _,
              (last_digit _, (last_digit _, (last_digit _, tt))),
            ),
          ),
        ),
      ),
    ) in
    cond_both (r == 0) None (Some (without_last_zeros (eight_decimals r)))
    (λ (o : Option (List ℕ)). NoBar (point_text o)) (λ none. tt)
    (λ some. (λ e. cc, trimmed_free (eight_decimals r) eight))

price_free : (price : ℕ) → NoBar (price_digits price)
unfolding price_digits
price_free price =
    both_free (decimal (price / 256)) (point_text (fraction_of (price % 256)))
    (number_free (price / 256))
    (fraction_free (price % 256))

three_free : (n : ℕ) → n < 1000 → NoBar (three_digits n)
three_free n below =
    (digit_apart _ (omega arith), (last_digit _, (last_digit _, tt)))

date_free : (date : List ℕ) → IsDate date → NoBar date
date_free date is =
    let year : is.year < 10000 = is.year_in in
    let month : is.month ≤ 12 = is.month_in.1 in
    let day : is.day ≤ 31 = is.day_in.1 in
    let text : NoBar (date_text is.year is.month is.day) = (
      digit_apart _ (omega (arith, year)),
      (
        last_digit _,
        (
          digit_apart _ (omega (arith, year)),
          (
            last_digit _,
            (
              digit_apart _ (omega (arith, month)),
              (last_digit _, (digit_apart _ (omega (arith, day)), (last_digit _, tt))),
            ),
          ),
        ),
      ),
    ) in
    subst NoBar (sym is.text) text

clock_free : (moment : ℕ) → moment < A_DAY → NoBar (45 ∷ clock_text moment)
clock_free moment below = (
  λ e. cc,
  (
    digit_apart _ (omega (arith, below)),
    (
      last_digit _,
      (
        λ e. cc,
        (
          digit_apart _ (omega arith),
          (
            last_digit _,
            (λ e. cc, (digit_apart _ (omega arith), (last_digit _, tt))),
          ),
        ),
      ),
    ),
  ),
)

time_free : (date : List ℕ) (moment : ℕ) → IsDate date → moment < A_DAY
    → NoBar (timestamp_text date moment)
time_free date moment is below =
    both_free (date ++ 45 ∷ clock_text moment) (46 ∷ three_digits (moment % 1000))
    (both_free date (45 ∷ clock_text moment) (date_free date is) (clock_free moment below))
    (λ e. cc, three_free (moment % 1000) (omega arith))

abbrev pub InDay : ℕ → Type 0
InDay n = n < A_DAY

free_values : (date : List ℕ) → IsDate date → AreValues NoBar InDay date
free_values date is = record {
  given = given_free;
  number = number_free;
  named = λ letter n fit. (fit_apart letter fit, number_free n);
  price = price_free;
  time = λ moment below. time_free date moment is below;
}

not_bar : (c : ℕ) → not (c == 124) ≡ true → c ≢ 124
not_bar c is = λ e. grind (arith, nat_tests)

all_not : (xs : List ℕ) → has_no_bar xs ≡ true → NoBar xs
all_not [] each = tt
all_not (x ∷ xs) each =
    let parts = and_parts (not (x == 124)) (has_no_bar xs) each in
    (not_bar x parts.0, all_not xs parts.1)

field_free : (tag : ℕ) (value : List ℕ) → NoBar value
    → NoBar (decimal tag ++ (61 ∷ (value ++ (1 ∷ []))))
field_free tag value free =
    both_free (decimal tag) (61 ∷ (value ++ (1 ∷ []))) (number_free tag)
    (not_bar 61 refl, both_free value (1 ∷ []) free (not_bar 1 refl, tt))

fields_free : (b : Bool) (fields : List Field) → Every (IsSo NoBar b) fields
    → NoBar (fields_text fields)
fields_free b [] so = tt
fields_free b (field ∷ fields) so =
    both_free (field_text field) (fields_text fields) (field_free field.0 field.1 so.0.1)
    (fields_free b fields so.1)

-- a frame of a body without a bar
front_free : (size body : List ℕ) → NoBar size → NoBar body → NoBar (front_text size body)
front_free size body one other =
    both_free start_text (size ++ (1 ∷ body)) (all_not start_text refl)
    (both_free size (1 ∷ body) one (not_bar 1 refl, other))

end_free : (digits_of_sum : List ℕ) → NoBar digits_of_sum → NoBar (end_text digits_of_sum)
end_free digits_of_sum free =
    both_free (codes "10=") (digits_of_sum ++ (1 ∷ [])) (all_not (codes "10=") refl)
    (both_free digits_of_sum (1 ∷ []) free (not_bar 1 refl, tt))

frame_free : (b : Bool) (fields : List Field) → Every (IsSo NoBar b) fields
    → NoBar (frame_text fields)
unfolding frame_text
frame_free b fields so =
    let body = fields_text fields in
    let size = decimal (length body) in
    let front = front_text size body in
    both_free front (end_text (three_digits (sum front % 256)))
    (front_free size body (number_free (length body)) (fields_free b fields so))
    (end_free (three_digits (sum front % 256)) (three_free (sum front % 256) (omega arith)))

has_none : (xs : List ℕ) → NoBar xs → has_no_bar xs ≡ true
has_none [] free = refl
has_none (x ∷ xs) free =
    let apart : x ≢ 124 = free.0 in
    and_from (not (x == 124)) (has_no_bar xs) (grind (arith, nat_tests)) (has_none xs free.1)

message_free : (date : List ℕ) (number : ℕ) (bytes : List ℕ) (noted : Bool) → IsDate date
    → IsSaid InDay date number bytes noted → has_no_bar bytes ≡ true
unfolding written
message_free date number bytes noted dated said =
    let head = said.head in
    let message = said.message in
    let values = free_values head.date (subst IsDate (sym said.date_is) dated) in
    let kind = msg_type_of message in
    let b = has_reason message in
    let front = loosened NoBar InDay head.date values b (header_fields kind head)
    (header_so NoBar InDay head.date values head kind refl (type_given message) said.named
    said.of_day) in
    let fields = every_both (IsSo NoBar b) (header_fields kind head) (body_fields head.date message)
    front
    (body_so NoBar InDay head.date values message said.given) in
    subst (λ (l : List ℕ). has_no_bar l ≡ true) (sym said.is)
    (has_none (frame_text (written_fields head message))
    (frame_free b (written_fields head message) fields))

pub all_free : {Note : Type 0} (date : List ℕ) (number : ℕ) (frames : List (List ℕ))
    (notes : List (Option Note)) → IsDate date → AreSaid InDay date number frames notes
    → (bytes : List ℕ) → In bytes frames → has_no_bar bytes ≡ true
all_free date number [] notes dated said bytes is = absurd is
all_free date number (first ∷ frames) [] dated said bytes is = absurd said
all_free date number (first ∷ frames) (its_note ∷ notes) dated said bytes (inl same) =
    subst (λ (l : List ℕ). has_no_bar l ≡ true) same
    (message_free date number first (is_some its_note) dated said.0)
all_free date number (first ∷ frames) (its_note ∷ notes) dated said bytes (inr later) =
    all_free date (number + 1) frames notes dated said.1 bytes later
