-- How an investor's request goes on: the reply to a hit or a pass, and its expiry, each written as
-- a line and read again.
use Rattle.std.proofs.Common.{◌≡◌, ℕ, Bool, true, cond, List, [], ◌∷◌, ◌++◌, codes, decimal, Option}
use Rattle.std.proofs.Common.{Some, None, refl, ap, ◌∙◌}
use Rattle.fix_fields.specs.TimeOfDay.{time_text}
use Rattle.venue_rows.specs.Texts.{text_if}
use Rattle.market_terms.specs.Texts.{is_id}
use Rattle.market_terms.specs.declared.closes.Reply.{Reply}
use Rattle.market_terms.specs.declared.rooms.ResponseRef.{ResponseRef}
use Rattle.quote_messages.specs.Texts.{number_of}
use Rattle.input_lines.specs.Lines.{first_part, time_of}
use Rattle.input_lines.specs.OptionSteps.{◌>>=◌}
use Rattle.venue_text.specs.ReadBack.{is_in_line, is_short}
use Rattle.venue_text.proofs.ReadBackParts.{all_append, in_line, short_back, time_in_part}
use Rattle.investor_views.specs.declared.dues.InvestorDue.{InvestorDue}
use Rattle.investor_views.specs.declared.dues.InvestorDue.TheVariants as due
use Rattle.investor_texts.specs.InvestorLines.{answered_of, expired_of, quote_behind, reply_of}
use Rattle.investor_texts.specs.ReadBack.{ReadsAs, is_short_if}
use Rattle.investor_texts.specs.WrittenText.{answered_line, expired_line, quote_text, reply_text}
use Rattle.investor_texts.proofs.ReadBackParts.{Cut, cut, before_line, id_word, quote_word}
use Rattle.investor_texts.proofs.ReadBackParts.{reply_word, four_parts}
use Rattle.venue_text.proofs.ReadBackItems.{short_word}

-- The reply to a hit or a pass.

answered_by : (date t₁ t₂ t₃ t₄ a w : List ℕ) (request : ℕ) (response : ResponseRef) (answer : Reply)
    (moment : ℕ) → Cut t₁ a t₂ → Cut t₂ response.id t₃ → Cut t₃ w t₄ → number_of a ≡ Some request
    → text_if is_id response.id ≡ Some response.id → reply_of w ≡ Some answer
    → time_of date (first_part t₄) ≡ Some moment → quote_behind t₄ ≡ Some response.k
    → answered_of date t₁ ≡ Some (due.Answered request response answer moment)
unfolding answered_of
answered_by date t₁ t₂ t₃ t₄ a w request response answer moment c₁ c₂ c₃ one two three time last =
    rw (
      c₁.part_is,
      c₁.rest_is,
      c₂.part_is,
      c₂.rest_is,
      c₃.part_is,
      c₃.rest_is,
      one,
      two,
      three,
      time,
      last,
    ) refl

pub answered_back : (date : List ℕ) (request : ℕ) (response : ResponseRef) (answer : Reply)
    (moment : ℕ) → is_short request ≡ true → is_short_if response.k ≡ true
    → is_id response.id ≡ true → time_of date (time_text moment) ≡ Some moment
    → ReadsAs date (due.Answered request response answer moment)
unfolding answered_line
answered_back date request response answer moment short few named time =
    let a = decimal request in
    let id = response.id in
    let w = reply_text answer in
    let a_word = short_word request short in
    let i_word = id_word id named in
    let w_word = reply_word answer in
    let ends = quote_word date moment response.k time few in
    let t₄ = ends.text in
    let t₃ = w ++ 32 ∷ t₄ in
    let t₂ = id ++ 32 ∷ t₃ in
    let t₁ = a ++ 32 ∷ t₂ in
    record {
      line = codes "answered " ++ t₁;
      written = ap (λ (l : List ℕ). codes "answered " ++ l)
          (four_parts (32 ∷ []) a id w (time_text moment) (quote_text response.k) (10 ∷ [])
          ∙ ap (λ (l : List ℕ). (a ++ 32 ∷ (id ++ 32 ∷ (w ++ 32 ∷ l))) ++ 10 ∷ []) ends.written);
      is_one = record {
        in_line = all_append is_in_line (codes "answered ") t₁ refl
            (before_line a t₂ a_word (before_line id t₃ i_word (before_line w t₄ w_word.0 ends.one_line)));
        spoken = refl;
        undivided = refl;
      };
      no_bond = refl;
      no_dealer = refl;
      read = λ firm number.
          ap (λ (item : Option InvestorDue). item >>= (λ (item : InvestorDue). Some (item, number)))
          (answered_by date t₁ t₂ t₃ t₄ a w request response answer moment (cut a t₂ a_word)
          (cut id t₃ i_word) (cut w t₄ w_word.0) (short_back request short)
          (ap (λ (b : Bool). cond b (Some id) None) named) w_word.1 ends.time_is ends.quote_is);
    }

-- An expiry.

expired_by : (date t₁ t₂ a : List ℕ) (request moment : ℕ) → Cut t₁ a t₂
    → number_of a ≡ Some request → time_of date t₂ ≡ Some moment
    → expired_of date t₁ ≡ Some (due.Expired request moment)
unfolding expired_of
expired_by date t₁ t₂ a request moment c₁ one time = rw (c₁.part_is, c₁.rest_is, one, time) refl

pub expired_back : (date : List ℕ) (request moment : ℕ) → is_short request ≡ true
    → time_of date (time_text moment) ≡ Some moment → ReadsAs date (due.Expired request moment)
unfolding expired_line
expired_back date request moment short time =
    let a = decimal request in
    let a_word = short_word request short in
    let t₂ = time_text moment in
    let t₁ = a ++ 32 ∷ t₂ in
    record {
      line = codes "expired " ++ t₁;
      written = refl;
      is_one = record {
        in_line = all_append is_in_line (codes "expired ") t₁ refl
            (before_line a t₂ a_word (in_line t₂ (time_in_part moment)));
        spoken = refl;
        undivided = refl;
      };
      no_bond = refl;
      no_dealer = refl;
      read = λ firm number.
          ap (λ (item : Option InvestorDue). item >>= (λ (item : InvestorDue). Some (item, number)))
          (expired_by date t₁ t₂ a request moment (cut a t₂ a_word) (short_back request short) time);
    }
