-- What bytes say has numbers of at most nine digits.
use Rattle.std.proofs.Common.{◌≡◌, ℕ, ◌<◌, ◌≤◌, true, ◌==◌, ◌&&◌, nat_le, List, length, Option, Some, None, arith}
use Rattle.std.proofs.Common.{codes, option_and_then, is_some, lit<}
use Rattle.std.proofs.lemmas.Bool.{and_parts}
use Rattle.std.proofs.lemmas.Bool.Decides.{nat_tests}
use Rattle.std.proofs.lemmas.Int.Digits.{digits_value-lt}
use Rattle.std.proofs.Math.Nat.{pow-le-pow_right}
use Rattle.std.specs.Char.{is_ascii_digit}
use Rattle.std.specs.List.{list_all}
use Rattle.std.specs.Str.Parse.{digits_value}
use Rattle.fix_fields.specs.Frame.{Field, times_of, value_of}
use Rattle.fix_fields.specs.TextLaws.{digits_if_all}
use Rattle.fix_sessions.specs.Cuts.{body_of, front_of}
use Rattle.fix_sessions.specs.Fields.{fields_in}
use Rattle.fix_sessions.specs.Heard.{as_taken, denied_kind, from_one, heard_by, heard_of, is_reset_mode, kind_of, logon_body, logon_of, names_desk, number_once, reset_of, stranger_of, terms_if, terms_in}
use Rattle.fix_sessions.specs.Texts.{has_text, number_of, number_reading, read_as}
use Rattle.fix_sessions.specs.declared.cuts.Front.{Front}
use Rattle.fix_sessions.specs.declared.cuts.Front.TheVariants as front
use Rattle.fix_sessions.specs.declared.messages.Heard.{Heard}
use Rattle.fix_sessions.specs.declared.messages.Kind.{Kind}
use Rattle.fix_sessions.specs.declared.messages.Kind.TheVariants as kind
use Rattle.fix_sessions.specs.declared.messages.Terms.{Terms}
use Rattle.fix_sessions.specs.declared.texts.Names.{Names}
use Rattle.fix_sessions.specs.declared.turns.Denial.{Denial}
use Rattle.laws_sessions.proofs.BoundedAsked.{HeardFits, KindFits, OptionFits, ReadingFits}
use Rattle.laws_sessions.proofs.Choices.{choice}
use Rattle.laws_sessions.specs.Bounds.{IsNumber}

-- at most nine digits
of_nine : (text : List ℕ) → length text ≤ 9 → list_all is_ascii_digit text ≡ true
    → digits_value 10 text < 1000000000
of_nine text few h =
    let below = digits_value-lt 10 text (digits_if_all text h) in
    let most_is = pow-le-pow_right {n = 10} (lit< tt) {i = length text} {j = 9} few in
    omega arith

at_most : (m n : ℕ) → nat_le m n ≡ true → m ≤ n
at_most m n h = grind (arith, nat_tests)

number_fits : (text : List ℕ) → OptionFits (number_of text)
number_fits text =
    choice OptionFits ((nat_le 1 (length text) && nat_le (length text) 9) && list_all is_ascii_digit text)
    (Some (digits_value 10 text)) None
    (λ h. let parts = and_parts (nat_le 1 (length text) && nat_le (length text) 9)
    (list_all is_ascii_digit text) h in
    let few = and_parts (nat_le 1 (length text)) (nat_le (length text) 9) parts.0 in
    not_more (digits_value 10 text) (of_nine text (at_most (length text) 9 few.1) parts.1))
    (λ h. tt)
  where
    not_more : (n : ℕ) → n < 1000000000 → n ≤ 999999999
    not_more n h = omega (arith, h)

value_fits : (value : Option (List ℕ)) → OptionFits (option_and_then number_of value)
value_fits None = tt
value_fits (Some text) = number_fits text

from_one_fits : (number : Option ℕ) → OptionFits number → OptionFits (from_one number)
from_one_fits None fits = tt
from_one_fits (Some number) fits =
    choice OptionFits (number == 0) None (Some number) (λ h. tt) (λ h. fits)

once_fits : (fields : List Field) → OptionFits (number_once fields)
once_fits fields =
    choice OptionFits (times_of 34 fields == 1) _ _
    (λ h. from_one_fits (option_and_then number_of (value_of 34 fields)) (value_fits (value_of 34 fields)))
    (λ h. tt)

read_fits : (number : Option ℕ) → OptionFits number → ReadingFits (read_as number)
read_fits None fits = tt
read_fits (Some number) fits = fits

reading_fits : (value : Option (List ℕ)) → ReadingFits (number_reading value)
reading_fits None = tt
reading_fits (Some text) = read_fits (number_of text) (number_fits text)

reset_fits : (fields : List Field) → KindFits (reset_of fields)
reset_fits fields =
    choice KindFits (is_reset_mode fields) _ _ (λ h. reading_fits (value_of 36 fields))
    (λ h. reading_fits (value_of 36 fields))

kind_fits : (fields : List Field) → KindFits (kind_of fields)
kind_fits fields =
    choice KindFits (has_text 35 (codes "A") fields) _ _ (λ h. tt)
    (λ h. choice KindFits (has_text 35 (codes "0") fields) _ _ (λ h. tt)
    (λ h. choice KindFits (has_text 35 (codes "1") fields) _ _ (λ h. tt)
    (λ h. choice KindFits (has_text 35 (codes "2") fields) _ _ (λ h. tt)
    (λ h. choice KindFits (has_text 35 (codes "3") fields) _ _ (λ h. tt)
    (λ h. choice KindFits (has_text 35 (codes "4") fields) _ _ (λ h. reset_fits fields)
    (λ h. choice KindFits (has_text 35 (codes "5") fields) _ _ (λ h. tt) (λ h. tt)))))))

taken_fits : (denial : Option Denial) (k : Kind) → KindFits k → KindFits (denied_kind denial k)
taken_fits None k fits = fits
taken_fits (Some denial) kind.Logon fits = tt
taken_fits (Some denial) (kind.Heartbeat answered) fits = tt
taken_fits (Some denial) (kind.TestRequest id) fits = tt
taken_fits (Some denial) (kind.ResendRequest first last) fits = tt
taken_fits (Some denial) kind.Reject fits = tt
taken_fits (Some denial) (kind.Fill next) fits = fits
taken_fits (Some denial) (kind.Reset next) fits = fits
taken_fits (Some denial) kind.Logout fits = tt
taken_fits (Some denial) (kind.Denied other) fits = tt
taken_fits (Some denial) kind.Other fits = tt

by_front_fits : (names : Names) (f : Front) (bytes : List ℕ) (denial : Option Denial)
    → HeardFits (as_taken denial (heard_by names f bytes))
by_front_fits names front.Begun bytes denial = tt
by_front_fits names front.Garbled bytes denial = tt
by_front_fits names (front.Wrong len) bytes denial = tt
by_front_fits names front.TooLong bytes denial = tt
by_front_fits names (front.Whole len) bytes denial =
    choice (λ (x : Heard). HeardFits (as_taken denial x)) (len == length bytes) _ _
    (λ h. record {
      number = once_fits (fields_in (body_of bytes));
      kind = taken_fits denial (kind_of (fields_in (body_of bytes))) (kind_fits (fields_in (body_of bytes)));
    })
    (λ h. tt)

pub bytes_fit : (names : Names) (bytes : List ℕ) (denial : Option Denial)
    → HeardFits (as_taken denial (heard_of names bytes))
unfolding heard_of
bytes_fit names bytes denial = by_front_fits names (front_of bytes) bytes denial

-- A Logon.

abbrev pub TermsFit : Option Terms → Type 0
TermsFit None = Unit {0}
TermsFit (Some terms) = IsNumber terms.number

if_fit : (fields : List Field) (number : Option ℕ) → OptionFits number → TermsFit (terms_if fields number)
if_fit fields None fits = tt
if_fit fields (Some number) fits = fits

in_fit : (names : Names) (body : Option (List ℕ)) → TermsFit (terms_in names body)
in_fit names None = tt
in_fit names (Some body) =
    let fields = fields_in body in
    choice TermsFit (is_some (stranger_of names fields)) _ _ (λ h. tt)
    (λ h. choice TermsFit (names_desk names.desk fields) _ _
    (λ k. if_fit fields (number_once fields) (once_fits fields)) (λ k. tt))

pub logon_fits : (names : Names) (bytes : List ℕ) → TermsFit (logon_of names bytes)
unfolding logon_of
logon_fits names bytes = in_fit names (logon_body bytes)
