-- The parts of a line that tells what was due to an investor: the number of a request, a name, a time,
-- a reply, each as it is written and read again.
use Rattle.std.proofs.Common.{◌≡◌, ℕ, ◌/◌, ◌%◌, ◌*◌, ◌+◌, ◌≤◌, ◌==◌, not, Bool, true, cond, List}
use Rattle.std.proofs.Common.{[], ◌∷◌, ◌++◌, map, decimal, Option, Some, None, Ok, refl, ap, ◌∙◌}
use Rattle.std.proofs.Common.{arith, inl, inr}
use Rattle.std.specs.List.{list_all}
use Rattle.std.specs.Option.{IfSome, option_map}
use Rattle.std.specs.Result.{result_ok}
use Rattle.std.proofs.lemmas.Bool.{and_parts, cases_Bool}
use Rattle.std.proofs.lemmas.Bool.Decides.{nat_tests}
use Rattle.std.proofs.lemmas.List.{append-nil, append_assoc}
use Rattle.fix_fields.specs.TimeOfDay.{time_text}
use Rattle.venue_rows.specs.Texts.{is_among, is_firm_name, is_name, reserved_names, text_if}
use Rattle.market_terms.specs.Texts.{is_id, is_id_character}
use Rattle.market_terms.specs.declared.closes.HitRefusal.TheVariants as refusal
use Rattle.market_terms.specs.declared.closes.Reply.{Reply}
use Rattle.market_terms.specs.declared.closes.Reply.TheVariants as reply
use Rattle.quote_messages.specs.Texts.{number_of}
use Rattle.input_lines.specs.Lines.{behind_part, first_part, time_of}
use Rattle.input_lines.specs.OptionSteps.{◌>>=◌}
use Rattle.venue_text.specs.ReadBack.{is_in_line, is_in_part}
use Rattle.venue_text.proofs.ReadBackParts.{all_append, all_more, all_weaker, behind_is}
use Rattle.venue_text.proofs.ReadBackParts.{decimal_in_part, first_is, in_line, last_is}
use Rattle.venue_text.proofs.ReadBackParts.{more_behind, name_in_part, none_behind, short_back}
use Rattle.venue_text.proofs.ReadBackParts.{time_in_part}
use Rattle.investor_texts.specs.InvestorLines.{quote_behind, reply_of, until_behind}
use Rattle.investor_texts.specs.ReadBack.{is_short_if}
use Rattle.investor_texts.specs.WrittenText.{quote_text, reply_text, until_text}
use Rattle.venue_text.proofs.ReadBackItems.{short_word}

-- Parts.

-- each part stands before the next, behind a space
pub record Cut (text part behind : List ℕ) : Type 0 where
  pub part_is : first_part text ≡ part
  pub rest_is : behind_part text ≡ behind

pub cut : (part behind : List ℕ) → list_all is_in_part part ≡ true → Cut (part ++ 32 ∷ behind) part behind
cut part behind word = record {
  part_is = first_is part behind word;
  rest_is = behind_is part behind word;
}

-- a part and what stands behind it are on one line
pub before_line : (part behind : List ℕ) → list_all is_in_part part ≡ true
    → list_all is_in_line behind ≡ true → list_all is_in_line (part ++ 32 ∷ behind) ≡ true
before_line part behind word later =
    all_append is_in_line part (32 ∷ behind) (in_line part word) (all_more is_in_line 32 behind refl later)

pub firm_word : (name : List ℕ) → is_firm_name name ≡ true → list_all is_in_part name ≡ true
firm_word name named =
    name_in_part name (and_parts (not (is_among reserved_names name)) (is_name name) named).1

pub firm_back : (name : List ℕ) → is_firm_name name ≡ true → text_if is_firm_name name ≡ Some name
firm_back name named = ap (λ (b : Bool). cond b (Some name) None) named

id_character_in_part : (c : ℕ) → is_id_character c ≡ true → is_in_part c ≡ true
id_character_in_part c is = grind (arith, nat_tests)

pub id_word : (id : List ℕ) → is_id id ≡ true → list_all is_in_part id ≡ true
id_word id is =
    all_weaker is_id_character is_in_part id_character_in_part id
    (and_parts _ (list_all is_id_character id) is).1

-- TIME, and UNTIL where it is given

pub record UntilWord (date : List ℕ) (moment : ℕ) (until : Option ℕ) : Type 0 where
  pub text : List ℕ
  pub written : time_text moment ++ until_text until ≡ text
  pub one_line : list_all is_in_line text ≡ true
  pub time_is : time_of date (first_part text) ≡ Some moment
  pub until_is : until_behind date text ≡ Some until

pub until_word : (date : List ℕ) (moment : ℕ) (until : Option ℕ)
    → time_of date (time_text moment) ≡ Some moment
    → IfSome until (λ (m : ℕ). time_of date (time_text m) ≡ Some m) → UntilWord date moment until
unfolding until_text
until_word date moment None time tt =
    let text = time_text moment in
    let word = time_in_part moment in
    record {
      text = text;
      written = append-nil text;
      one_line = in_line text word;
      time_is = ap (time_of date) (last_is text word) ∙ time;
      until_is = ap (λ (b : Bool). cond b (option_map (λ (until : ℕ). Some until) (time_of date (behind_part text)))
          (Some None)) (none_behind text word);
    }
until_word date moment (Some until) time later =
    let front = time_text moment in
    let behind = time_text until in
    let word = time_in_part moment in
    let text = front ++ 32 ∷ behind in
    record {
      text = text;
      written = refl;
      one_line = before_line front behind word (in_line behind (time_in_part until));
      time_is = ap (time_of date) (first_is front behind word) ∙ time;
      until_is = ap (λ (b : Bool). cond b (option_map (λ (until : ℕ). Some until) (time_of date (behind_part text)))
          (Some None)) (more_behind front behind)
          ∙ ap (λ (l : List ℕ). option_map (λ (until : ℕ). Some until) (time_of date l))
          (behind_is front behind word)
          ∙ ap (λ (found : Option ℕ). option_map (λ (until : ℕ). Some until) found) later;
    }

-- TIME, and K where it is given

pub record QuoteWord (date : List ℕ) (moment : ℕ) (quote : Option ℕ) : Type 0 where
  pub text : List ℕ
  pub written : time_text moment ++ quote_text quote ≡ text
  pub one_line : list_all is_in_line text ≡ true
  pub time_is : time_of date (first_part text) ≡ Some moment
  pub quote_is : quote_behind text ≡ Some quote

pub quote_word : (date : List ℕ) (moment : ℕ) (quote : Option ℕ)
    → time_of date (time_text moment) ≡ Some moment → is_short_if quote ≡ true
    → QuoteWord date moment quote
unfolding quote_text
quote_word date moment None time short =
    let text = time_text moment in
    let word = time_in_part moment in
    record {
      text = text;
      written = append-nil text;
      one_line = in_line text word;
      time_is = ap (time_of date) (last_is text word) ∙ time;
      quote_is = ap (λ (b : Bool). cond b (option_map (λ (quote : ℕ). Some quote) (number_of (behind_part text)))
          (Some None)) (none_behind text word);
    }
quote_word date moment (Some quote) time short =
    let front = time_text moment in
    let behind = decimal quote in
    let word = time_in_part moment in
    let text = front ++ 32 ∷ behind in
    record {
      text = text;
      written = refl;
      one_line = before_line front behind word (in_line behind (short_word quote short));
      time_is = ap (time_of date) (first_is front behind word) ∙ time;
      quote_is = ap (λ (b : Bool). cond b (option_map (λ (quote : ℕ). Some quote) (number_of (behind_part text)))
          (Some None)) (more_behind front behind)
          ∙ ap (λ (l : List ℕ). option_map (λ (quote : ℕ). Some quote) (number_of l))
          (behind_is front behind word)
          ∙ ap (λ (found : Option ℕ). option_map (λ (quote : ℕ). Some quote) found) (short_back quote short);
    }

-- REPLY

pub reply_word : (answer : Reply) → (list_all is_in_part (reply_text answer) ≡ true)
    × (reply_of (reply_text answer) ≡ Some answer)
unfolding reply_text
reply_word reply.Awarded = (refl, refl)
reply_word reply.Passed = (refl, refl)
reply_word (reply.Refused refusal.NotOpen) = (refl, refl)
reply_word (reply.Refused refusal.Deadline) = (refl, refl)
reply_word (reply.Refused refusal.Gone) = (refl, refl)
reply_word (reply.Refused refusal.Expired) = (refl, refl)
reply_word (reply.Refused refusal.Withdrawn) = (refl, refl)

-- Lines as they are written, part behind part.

pub three_parts : (space a b e end : List ℕ)
    → a ++ (space ++ b) ++ (space ++ e) ++ end ≡ (a ++ (space ++ (b ++ (space ++ e)))) ++ end
three_parts space a b e end = simp append_assoc

pub four_parts : (space a b c e more end : List ℕ)
    → a ++ (space ++ b) ++ (space ++ c) ++ (space ++ e) ++ more ++ end
    ≡ (a ++ (space ++ (b ++ (space ++ (c ++ (space ++ (e ++ more))))))) ++ end
four_parts space a b c e more end = simp append_assoc
