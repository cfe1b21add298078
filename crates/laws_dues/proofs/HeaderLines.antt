-- The lines of a date and of a dealer, written and read again.
use Rattle.std.proofs.Common.{◌≡◌, ◌≢◌, ◌≤◌, ℕ, ◌/◌, ◌%◌, ◌+◌, ◌&&◌, not, Bool, true, cond}
use Rattle.std.proofs.Common.{nat_le, List, [], ◌∷◌, ◌++◌, length, codes, decimal, Option, Some, None}
use Rattle.std.proofs.Common.{AllPairs, refl, sym, ap, ap₂, ◌∙◌, subst, arith}
use Rattle.std.specs.List.{join_with_byte, list_all}
use Rattle.std.proofs.lemmas.Bool.{and_parts}
use Rattle.std.proofs.lemmas.Bool.Decides.{nat_tests}
use Rattle.std.proofs.lemmas.Fmt.{length-decimal-le}
use Rattle.fix_fields.specs.UtcTimestamp.{IsDate, date_text, four_digits, is_date, two_digits}
use Rattle.venue_rows.specs.Rows.{AreTraders, DealerValues, dealer_values}
use Rattle.venue_rows.specs.Texts.{is_among, is_firm_name, is_name, reserved_names, text_if}
use Rattle.venue_rows.specs.declared.dealer_rows.DealerRow.{DealerRow}
use Rattle.input_lines.specs.DueLines.{date_of, exposure_of, quotes_of, row_values, traders_of}
use Rattle.input_lines.specs.DueLines.{within}
use Rattle.input_lines.specs.Lines.{behind_part, first_part}
use Rattle.input_lines.specs.OptionSteps.{◌>>=◌}
use Rattle.venue_text.specs.ReadBack.{AreHeader, IsOneLine, is_in_line, is_in_part}
use Rattle.venue_text.proofs.ReadBackParts.{all_append, all_more, behind_is, decimal_in_part}
use Rattle.venue_text.proofs.ReadBackParts.{first_is, glyph, in_line, name_in_part, number_back}
use Rattle.laws_dues.proofs.TraderNames.{names_back, names_in_line}

-- `date YYYYMMDD`

two_in_line : (n : ℕ) → list_all is_in_line (two_digits n) ≡ true
two_in_line n =
    in_line (two_digits n) (all_more is_in_part (48 + n / 10) ((48 + n % 10) ∷ []) (glyph (n / 10))
    (all_more is_in_part (48 + n % 10) [] (glyph (n % 10)) refl))

date_in_line : (year month day : ℕ) → list_all is_in_line (date_text year month day) ≡ true
date_in_line year month day =
    all_append is_in_line (four_digits year) (two_digits month ++ two_digits day)
    (all_append is_in_line (two_digits (year / 100)) (two_digits (year % 100))
    (two_in_line (year / 100)) (two_in_line (year % 100)))
    (all_append is_in_line (two_digits month) (two_digits day) (two_in_line month)
    (two_in_line day))

abbrev pub date_words : List ℕ → List ℕ
date_words date = join_with_byte 32 (codes "date" ∷ date ∷ [])

date_line : (date : List ℕ) → IsDate date → IsOneLine (date_words date)
date_line date is =
    let own : list_all is_in_line date ≡ true =
    subst (λ (l : List ℕ). list_all is_in_line l ≡ true) (sym is.text)
    (date_in_line is.year is.month is.day) in
    record {
      in_line = all_append is_in_line (codes "date") (32 ∷ date) refl
          (all_more is_in_line 32 date refl own);
      spoken = refl;
      undivided = refl;
    }

date_back : (date : List ℕ) → is_date date ≡ true → date_of (date_words date) ≡ Some date
date_back date is = ap (λ (b : Bool). cond b (Some date) None) is

-- `dealer NAME QUOTES EXPOSURE TRADER ..`

-- what a dealer's row has beside its limits
pub record RowNames (row : DealerRow) : Type 0 where
  pub named : is_firm_name row.name ≡ true
  pub traders : AreTraders row.traders
  pub traders_named : list_all is_name row.traders ≡ true

-- NAME QUOTES EXPOSURE and what stands behind
abbrev words_before : List ℕ → ℕ → ℕ → List ℕ → List ℕ
words_before name quotes exposure behind =
    name ++ 32 ∷ (decimal quotes ++ 32 ∷ (decimal exposure ++ 32 ∷ behind))

values_with : Option (List ℕ) → Option ℕ → Option ℕ → Option (List (List ℕ)) → Option DealerValues
values_with name quotes exposure traders = do
  name ← name
  quotes ← quotes
  exposure ← exposure
  traders ← traders
  Some (record { name = name; traders = traders; quotes = quotes; exposure = exposure })

values_by : (text name : List ℕ) (quotes exposure : ℕ) (traders : List (List ℕ))
    → text_if is_firm_name (first_part text) ≡ Some name
    → quotes_of (first_part (behind_part text)) ≡ Some quotes
    → exposure_of (first_part (behind_part (behind_part text))) ≡ Some exposure
    → traders_of (behind_part (behind_part (behind_part text))) ≡ Some traders
    → row_values text
    ≡ Some (record { name = name; traders = traders; quotes = quotes; exposure = exposure })
unfolding values_with
values_by text name quotes exposure traders one two three four =
    let behind_name = behind_part text in
    let behind_quotes = behind_part behind_name in
    ap (λ (n : Option (List ℕ)). values_with n (quotes_of (first_part behind_name))
    (exposure_of (first_part behind_quotes)) (traders_of (behind_part behind_quotes))) one
    ∙ ap (λ (q : Option ℕ). values_with (Some name) q (exposure_of (first_part behind_quotes))
    (traders_of (behind_part behind_quotes))) two
    ∙ ap (λ (e : Option ℕ). values_with (Some name) (Some quotes) e
    (traders_of (behind_part behind_quotes))) three
    ∙ ap (λ (t : Option (List (List ℕ))). values_with (Some name) (Some quotes) (Some exposure) t)
    four

within_both : (most n : ℕ) → 1 ≤ n → n ≤ most → within most n ≡ Some n
within_both most n least few =
    let one : nat_le 1 n ≡ true = grind (arith, nat_tests) in
    let other : nat_le n most ≡ true = grind (arith, nat_tests) in
    ap (λ (b : Bool). cond b (Some n) None) (ap₂ (λ (a b : Bool). a && b) one other)

quotes_back : (n : ℕ) → 1 ≤ n → n ≤ 4096 → quotes_of (decimal n) ≡ Some n
quotes_back n least most =
    let long : length (decimal n) ≤ 9 =
    length-decimal-le 9 n (omega arith) (omega arith) (omega arith) in
    ap (λ (found : Option ℕ). found >>= within 4096) (number_back 9 n (omega arith) long)
    ∙ within_both 4096 n least most

exposure_back : (n : ℕ) → 1 ≤ n → n ≤ 1000000000000000 → exposure_of (decimal n) ≡ Some n
exposure_back n least most =
    let long : length (decimal n) ≤ 16 =
    length-decimal-le 16 n (omega arith) (omega arith) (omega arith) in
    ap (λ (found : Option ℕ). found >>= within 1000000000000000)
    (number_back 16 n (omega arith) long)
    ∙ within_both 1000000000000000 n least most

-- the values of a row, with these traders
abbrev values_for : DealerRow → List (List ℕ) → DealerValues
values_for row traders = record {
  name = row.name;
  traders = traders;
  quotes = row.quotes;
  exposure = row.exposure;
}

-- the words of a row are one line, and are read as its values
record WordsAreRead (row : DealerRow) (text : List ℕ) : Type 0 where
  in_one : list_all is_in_line text ≡ true
  values : row_values text ≡ Some (dealer_values row)

words_are_read : (row : DealerRow) → RowNames row → (name : List ℕ) (names : List (List ℕ))
    → row.traders ≡ name ∷ names
    → WordsAreRead row
    (words_before row.name row.quotes row.exposure (join_with_byte 32 (name ∷ names)))
words_are_read row own name names is =
    let traders = join_with_byte 32 (name ∷ names) in
    let all_named : list_all is_name (name ∷ names) ≡ true =
    ap (list_all is_name) (sym is) ∙ own.traders_named in
    let few : length (name ∷ names) ≤ 16 =
    subst (λ (l : List (List ℕ)). length l ≤ 16) is own.traders.most in
    let distinct : AllPairs (λ (a b : List ℕ). a ≢ b) (name ∷ names) =
    subst (AllPairs (λ (a b : List ℕ). a ≢ b)) is own.traders.distinct in
    let quotes_least : 1 ≤ row.quotes = row.quotes_from in
    let quotes_most : row.quotes ≤ 4096 = row.quotes_to in
    let exposure_least : 1 ≤ row.exposure = row.exposure_from in
    let exposure_most : row.exposure ≤ 1000000000000000 = row.exposure_to in
    let firm = name_in_part row.name
    (and_parts (not (is_among reserved_names row.name)) (is_name row.name) own.named).1 in
    let quotes = decimal_in_part row.quotes (omega arith) in
    let exposure = decimal_in_part row.exposure (omega arith) in
    let behind_quotes = decimal row.exposure ++ 32 ∷ traders in
    let behind_name = decimal row.quotes ++ 32 ∷ behind_quotes in
    let text = row.name ++ 32 ∷ behind_name in
    let after_name = behind_is row.name behind_name firm in
    let after_quotes : behind_part (behind_part text) ≡ behind_quotes =
    ap behind_part after_name ∙ behind_is (decimal row.quotes) behind_quotes quotes in
    record {
      in_one = all_append is_in_line row.name (32 ∷ behind_name) (in_line row.name firm)
          (all_more is_in_line 32 behind_name refl
          (all_append is_in_line (decimal row.quotes) (32 ∷ behind_quotes)
          (in_line (decimal row.quotes) quotes)
          (all_more is_in_line 32 behind_quotes refl
          (all_append is_in_line (decimal row.exposure) (32 ∷ traders)
          (in_line (decimal row.exposure) exposure)
          (all_more is_in_line 32 traders refl (names_in_line name names all_named))))));
      values = values_by text row.name row.quotes row.exposure (name ∷ names)
          (ap (text_if is_firm_name) (first_is row.name behind_name firm)
          ∙ ap (λ (b : Bool). cond b (Some row.name) None) own.named)
          (ap (λ (l : List ℕ). quotes_of (first_part l)) after_name
          ∙ ap quotes_of (first_is (decimal row.quotes) behind_quotes quotes)
          ∙ quotes_back row.quotes quotes_least quotes_most)
          (ap (λ (l : List ℕ). exposure_of (first_part l)) after_quotes
          ∙ ap exposure_of (first_is (decimal row.exposure) traders exposure)
          ∙ exposure_back row.exposure exposure_least exposure_most)
          (ap (λ (l : List ℕ). traders_of (behind_part l)) after_quotes
          ∙ ap traders_of (behind_is (decimal row.exposure) traders exposure)
          ∙ names_back name names all_named few distinct)
          ∙ ap (λ (l : List (List ℕ)). Some (values_for row l)) (sym is);
    }

abbrev words_for : DealerRow → List (List ℕ) → List ℕ
words_for row traders = join_with_byte 32
    (codes "dealer" ∷ row.name ∷ decimal row.quotes ∷ decimal row.exposure ∷ traders)

abbrev pub row_words : DealerRow → List ℕ
row_words row = words_for row row.traders

-- both lines are a header
pub header_back : (date : List ℕ) (row : DealerRow) → IsDate date → is_date date ≡ true
    → RowNames row → AreHeader date (dealer_values row) (date_words date) (row_words row)
header_back date row is_one is own = by_traders row.traders refl
  where
    by_traders : (traders : List (List ℕ)) → row.traders ≡ traders
        → AreHeader date (dealer_values row) (date_words date) (row_words row)
    by_traders [] none =
        let least : 1 ≤ length {A = List ℕ} [] =
        subst (λ (l : List (List ℕ)). 1 ≤ length l) none row.has_trader in
        absurd (omega arith)
    by_traders (name ∷ names) some =
        let words = words_before row.name row.quotes row.exposure
        (join_with_byte 32 (name ∷ names)) in
        let read = words_are_read row own name names some in
        subst (λ (l : List (List ℕ)).
        AreHeader date (dealer_values row) (date_words date) (words_for row l)) (sym some) record {
          first_is_one = date_line date is_one;
          is_date = date_back date is;
          second_is_one = record {
            in_line = all_append is_in_line (codes "dealer") (32 ∷ words) refl
                (all_more is_in_line 32 words refl read.in_one);
            spoken = refl;
            undivided = refl;
          };
          is_row = read.values;
        }
