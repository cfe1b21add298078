-- What an investor is told of the dealers it asked: a quote, one that is taken back, a decline,
-- each written as a line and read again.
use Rattle.std.proofs.Common.{◌≡◌, ℕ, ◌≤◌, true, List, [], ◌∷◌, ◌++◌, codes, decimal, Option, Some}
use Rattle.std.proofs.Common.{Ok, refl, ap, ◌∙◌}
use Rattle.std.specs.Option.{IfSome}
use Rattle.std.specs.Result.{result_ok}
use Rattle.bond_prices.specs.Price.{price_digits, price_of}
use Rattle.fix_fields.specs.TimeOfDay.{time_text}
use Rattle.venue_rows.specs.Texts.{is_firm_name, text_if}
use Rattle.quote_messages.specs.Texts.{number_of}
use Rattle.input_lines.specs.Lines.{first_part, time_of}
use Rattle.input_lines.specs.OptionSteps.{◌>>=◌}
use Rattle.venue_text.specs.ReadBack.{is_in_line, is_short}
use Rattle.venue_text.proofs.ReadBackParts.{all_append, in_line, short_back, time_in_part}
use Rattle.investor_views.specs.declared.dues.InvestorDue.{InvestorDue}
use Rattle.investor_views.specs.declared.dues.InvestorDue.TheVariants as due
use Rattle.investor_texts.specs.InvestorLines.{declined_of, gone_of, quoted_of, until_behind}
use Rattle.investor_texts.specs.ReadBack.{ReadsAs}
use Rattle.investor_texts.specs.WrittenText.{declined_line, gone_line, quoted_line, until_text}
use Rattle.investor_texts.proofs.ReadBackParts.{Cut, cut, before_line, firm_word, firm_back}
use Rattle.investor_texts.proofs.ReadBackParts.{four_parts, three_parts, until_word}
use Rattle.venue_text.proofs.ReadBackItems.{short_word}
use Rattle.venue_text.proofs.ReadBackPrices.{price_back, price_word}

-- A quote.

quoted_by : (date t₁ t₂ t₃ t₄ a d p : List ℕ) (request price moment : ℕ) (until : Option ℕ)
    → Cut t₁ a t₂ → Cut t₂ d t₃ → Cut t₃ p t₄ → number_of a ≡ Some request
    → text_if is_firm_name d ≡ Some d → result_ok (price_of p) ≡ Some price
    → time_of date (first_part t₄) ≡ Some moment → until_behind date t₄ ≡ Some until
    → quoted_of date t₁ ≡ Some (due.Offered request d price until moment)
unfolding quoted_of
quoted_by date t₁ t₂ t₃ t₄ a d p request price moment until c₁ c₂ c₃ one two three time last =
    rw (
      c₁.part_is,
      c₁.rest_is,
      c₂.part_is,
      c₂.rest_is,
      c₃.part_is,
      c₃.rest_is,
      one,
      two,
      three,
      time,
      last,
    ) refl

pub quoted_back : (date : List ℕ) (request : ℕ) (dealer : List ℕ) (price : ℕ) (until : Option ℕ)
    (moment : ℕ) → is_short request ≡ true → is_firm_name dealer ≡ true → price ≤ 255999
    → price_of (price_digits price) ≡ Ok price
    → IfSome until (λ (m : ℕ). time_of date (time_text m) ≡ Some m)
    → time_of date (time_text moment) ≡ Some moment
    → ReadsAs date (due.Offered request dealer price until moment)
unfolding quoted_line
quoted_back date request dealer price until moment short named most spelled later time =
    let a = decimal request in
    let p = price_digits price in
    let a_word = short_word request short in
    let d_word = firm_word dealer named in
    let p_word = price_word price most in
    let ends = until_word date moment until time later in
    let t₄ = ends.text in
    let t₃ = p ++ 32 ∷ t₄ in
    let t₂ = dealer ++ 32 ∷ t₃ in
    let t₁ = a ++ 32 ∷ t₂ in
    record {
      line = codes "quoted " ++ t₁;
      written = ap (λ (l : List ℕ). codes "quoted " ++ l)
          (four_parts (32 ∷ []) a dealer p (time_text moment) (until_text until) (10 ∷ [])
          ∙ ap (λ (l : List ℕ). (a ++ 32 ∷ (dealer ++ 32 ∷ (p ++ 32 ∷ l))) ++ 10 ∷ []) ends.written);
      is_one = record {
        in_line = all_append is_in_line (codes "quoted ") t₁ refl
            (before_line a t₂ a_word (before_line dealer t₃ d_word (before_line p t₄ p_word ends.one_line)));
        spoken = refl;
        undivided = refl;
      };
      no_bond = refl;
      no_dealer = refl;
      read = λ firm number.
          ap (λ (item : Option InvestorDue). item >>= (λ (item : InvestorDue). Some (item, number)))
          (quoted_by date t₁ t₂ t₃ t₄ a dealer p request price moment until (cut a t₂ a_word)
          (cut dealer t₃ d_word) (cut p t₄ p_word) (short_back request short)
          (firm_back dealer named) (price_back price spelled) ends.time_is ends.until_is);
    }

-- A quote that is taken back.

gone_by : (date t₁ t₂ t₃ a k : List ℕ) (request quote moment : ℕ) → Cut t₁ a t₂ → Cut t₂ k t₃
    → number_of a ≡ Some request → number_of k ≡ Some quote → time_of date t₃ ≡ Some moment
    → gone_of date t₁ ≡ Some (due.Gone request quote moment)
unfolding gone_of
gone_by date t₁ t₂ t₃ a k request quote moment c₁ c₂ one two time =
    rw (c₁.part_is, c₁.rest_is, c₂.part_is, c₂.rest_is, one, two, time) refl

pub gone_back : (date : List ℕ) (request quote moment : ℕ) → is_short request ≡ true
    → is_short quote ≡ true → time_of date (time_text moment) ≡ Some moment
    → ReadsAs date (due.Gone request quote moment)
unfolding gone_line
gone_back date request quote moment short few time =
    let a = decimal request in
    let k = decimal quote in
    let a_word = short_word request short in
    let k_word = short_word quote few in
    let t₃ = time_text moment in
    let t₂ = k ++ 32 ∷ t₃ in
    let t₁ = a ++ 32 ∷ t₂ in
    record {
      line = codes "gone " ++ t₁;
      written = ap (λ (l : List ℕ). codes "gone " ++ l) (three_parts (32 ∷ []) a k t₃ (10 ∷ []));
      is_one = record {
        in_line = all_append is_in_line (codes "gone ") t₁ refl
            (before_line a t₂ a_word (before_line k t₃ k_word (in_line t₃ (time_in_part moment))));
        spoken = refl;
        undivided = refl;
      };
      no_bond = refl;
      no_dealer = refl;
      read = λ firm number.
          ap (λ (item : Option InvestorDue). item >>= (λ (item : InvestorDue). Some (item, number)))
          (gone_by date t₁ t₂ t₃ a k request quote moment (cut a t₂ a_word) (cut k t₃ k_word)
          (short_back request short) (short_back quote few) time);
    }

-- A decline.

declined_by : (date t₁ t₂ t₃ a d : List ℕ) (request moment : ℕ) → Cut t₁ a t₂ → Cut t₂ d t₃
    → number_of a ≡ Some request → text_if is_firm_name d ≡ Some d
    → time_of date t₃ ≡ Some moment → declined_of date t₁ ≡ Some (due.Declined request d moment)
unfolding declined_of
declined_by date t₁ t₂ t₃ a d request moment c₁ c₂ one two time =
    rw (c₁.part_is, c₁.rest_is, c₂.part_is, c₂.rest_is, one, two, time) refl

pub declined_back : (date : List ℕ) (request : ℕ) (dealer : List ℕ) (moment : ℕ)
    → is_short request ≡ true → is_firm_name dealer ≡ true
    → time_of date (time_text moment) ≡ Some moment → ReadsAs date (due.Declined request dealer moment)
unfolding declined_line
declined_back date request dealer moment short named time =
    let a = decimal request in
    let a_word = short_word request short in
    let d_word = firm_word dealer named in
    let t₃ = time_text moment in
    let t₂ = dealer ++ 32 ∷ t₃ in
    let t₁ = a ++ 32 ∷ t₂ in
    record {
      line = codes "declined " ++ t₁;
      written = ap (λ (l : List ℕ). codes "declined " ++ l) (three_parts (32 ∷ []) a dealer t₃ (10 ∷ []));
      is_one = record {
        in_line = all_append is_in_line (codes "declined ") t₁ refl
            (before_line a t₂ a_word (before_line dealer t₃ d_word (in_line t₃ (time_in_part moment))));
        spoken = refl;
        undivided = refl;
      };
      no_bond = refl;
      no_dealer = refl;
      read = λ firm number.
          ap (λ (item : Option InvestorDue). item >>= (λ (item : InvestorDue). Some (item, number)))
          (declined_by date t₁ t₂ t₃ a dealer request moment (cut a t₂ a_word) (cut dealer t₃ d_word)
          (short_back request short) (firm_back dealer named) time);
    }
