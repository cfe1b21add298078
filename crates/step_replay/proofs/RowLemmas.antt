-- What becomes of the row of words that stands for a view, exchange by exchange and as a quote is
-- lifted.
use Rattle.step_replay.proofs.Common.{◌≡◌, ◌≢◌, ◌≤◌, ◌<◌, ℕ, ◌-◌, ◌==◌, nat_le, Bool, true, false}
use Rattle.step_replay.proofs.Common.{◌&&◌, ◌||◌, if◌then◌else◌, List, [], ◌∷◌, length, Option}
use Rattle.step_replay.proofs.Common.{Some, None, IfSome, option_map, refl, sym, ap, ◌∙◌, arith}
use Rattle.step_replay.proofs.Common.{eq-eqb, not, ◌++◌, subst, nat_tests, list_any, or-false}
use Rattle.step_replay.proofs.Common.{list_any-append, settlement_of, entry_in, Exchanges}
use Rattle.step_replay.proofs.Common.{exchange_answers_entry, exchange_keeps_others, Settled}
use Rattle.step_replay.proofs.Common.{DeskEvents, book_at, with_event, asked_by, asked_word}
use Rattle.step_replay.proofs.Common.{says_withdrawn, DealerEvent, ViewState, answer_to}
use Rattle.step_replay.proofs.Common.{is_withdrawn_at, with_event_at_desk, AreWordsOf}
use Rattle.step_replay.proofs.Common.{GrowsByEvents, IsOfRow, Row, StandsFor, with_asked, with_wish}
use Rattle.step_replay.proofs.Common.{withdraws_by, word_if}
use Rattle.quote_word.specs.PlainWords.{after_exchange}
use Rattle.quote_word.specs.declared.settled.Settled.TheVariants.{Withdrawn, Lifted}
use Rattle.step_replay.specs.DealerView.{is_lifted}
use Rattle.step_replay.specs.RowOfWords.{settlement_in, word_of}

-- Tests.

pub or_true : (b here : Bool) → here ≡ true → (b || (here || false)) ≡ true
or_true b here is = grind (arith, nat_tests)

pub or_none : (b c here : Bool) → here ≡ false → (b || ((c && here) || false)) ≡ b
or_none b c here is = grind (arith, nat_tests)

-- a quote of the row by its test
pub in_row : (quote count : ℕ) → (nat_le 1 quote && nat_le quote count) ≡ true → IsOfRow count quote
in_row quote count is = (grind (arith, nat_tests), grind (arith, nat_tests))

-- One exchange, on the word of a quote: the words are then these, where the word that is asked is its
-- settlement and each other stays.
pub exchanged : (view : ViewState) (words : Row) (quote : ℕ) (wish : Settled)
    (word_then : ℕ → Option Settled) → length words ≡ view.desk.row.quotes
    → IsOfRow view.desk.row.quotes quote → AreWordsOf view words
    → word_then quote ≡ Some (settlement_of (word_of view quote) wish)
    → ((other : ℕ) → (quote == other) ≡ false → word_then other ≡ word_of view other)
    → (other : ℕ) → IsOfRow view.desk.row.quotes other
    → entry_in (with_wish words quote wish) (other - 1) ≡ word_then other
exchanged view words quote wish word_then count within are own others other inside =
    by_test (quote == other) refl
  where
    settlement : Settled
    settlement = settlement_of (entry_in words (quote - 1)) wish

    exchange : Exchanges words (quote - 1) wish settlement (with_wish words quote wish)
    exchange = record { answered = refl; changed = refl }

    by_test : (same : Bool) → (quote == other) ≡ same
        → entry_in (with_wish words quote wish) (other - 1) ≡ word_then other
    by_test true test =
        let equal : quote ≡ other = grind (arith, nat_tests) in
        let low : 1 ≤ quote = within.0 in
        let high : quote ≤ view.desk.row.quotes = within.1 in
        let below : quote - 1 < length words = omega arith in
        ap (λ (n : ℕ). entry_in (with_wish words quote wish) (n - 1)) (sym equal)
        ∙ exchange_answers_entry words (with_wish words quote wish) (quote - 1) wish settlement below
        exchange
        ∙ ap (λ (entry : Option Settled). Some (settlement_of entry wish)) (are quote within)
        ∙ sym own ∙ ap word_then equal
    by_test false test =
        let differs : other ≢ quote = grind (arith, nat_tests) in
        let low : 1 ≤ quote = within.0 in
        let low_too : 1 ≤ other = inside.0 in
        let apart : other - 1 ≢ quote - 1 = omega arith in
        exchange_keeps_others words (with_wish words quote wish) (quote - 1) (other - 1) wish
        settlement exchange apart
        ∙ are other inside ∙ sym (others other test)

-- A withdrawal.

-- what the word of a quote answers to whoever withdraws it
abbrev answer_if : Bool → Settled
answer_if lifted = if lifted then Lifted else Withdrawn

answer_of_word : (lifted withdrawn : Bool)
    → settlement_of (word_if lifted withdrawn) Withdrawn ≡ answer_if lifted
answer_of_word true withdrawn = refl
answer_of_word false true = refl
answer_of_word false false = refl

-- what the row answers is what the view answers
answers_agree : (view : ViewState) (words : Row) (quote : ℕ)
    → AreWordsOf view words → IsOfRow view.desk.row.quotes quote
    → settlement_in words quote ≡ answer_to view quote
answers_agree view words quote are within =
    rw (are quote within) (answer_of_word (is_lifted view quote) (is_withdrawn_at view.desk quote))

-- the words that an event asks, by a desk as it stands
abbrev pub asks_at : DeskEvents → DealerEvent → List (ℕ × Settled)
asks_at desk more = asked_by desk.date desk.row (book_at desk) more

-- an event that asks no word
pub unasked : GrowsByEvents → (view : ViewState) (words : Row) (more : DealerEvent)
    → asks_at view.desk more ≡ [] → AreWordsOf view words
    → AreWordsOf (with_event_at_desk view more) words
unasked grows view words more asks are quote within =
    rw (grows view.desk more quote, asks, or-false) (are quote within)

-- whether words that are asked withdraw a quote that was withdrawn or not
abbrev then_withdrawn : Bool → ℕ → List (ℕ × Settled) → Bool
then_withdrawn before quote asked = before || list_any (says_withdrawn quote) asked

-- the word of a quote that is asked, and answered so
word_taken : (lifted before : Bool) (quote : ℕ) → (quote == quote) ≡ true
    → word_if lifted (then_withdrawn before quote ((quote, answer_if lifted) ∷ []))
    ≡ Some (settlement_of (word_if lifted before) Withdrawn)
word_taken true before quote same = refl
word_taken false true quote same = refl
word_taken false false quote same = ap (word_if false) (or_true false (quote == quote) same)

-- the word of another quote
word_left : (lifted before : Bool) (settlement : Settled) (quote asked : ℕ) → (asked == quote) ≡ false
    → word_if lifted (then_withdrawn before quote ((asked, settlement) ∷ [])) ≡ word_if lifted before
word_left lifted before Withdrawn quote asked other =
    ap (word_if lifted) (or_none before true (asked == quote) other)
word_left lifted before Lifted quote asked other =
    ap (word_if lifted) (or_none before false (asked == quote) other)

-- an event that asks the word of a quote
asked_words : GrowsByEvents → (view : ViewState) (words : Row) (asked : ℕ) (more : DealerEvent)
    → asks_at view.desk more ≡ (asked, answer_to view asked) ∷ []
    → length words ≡ view.desk.row.quotes → IsOfRow view.desk.row.quotes asked
    → AreWordsOf view words
    → AreWordsOf (with_event_at_desk view more) (with_wish words asked Withdrawn)
asked_words grows view words asked more asks count within are =
    exchanged view words asked Withdrawn (word_of (with_event_at_desk view more)) count within are
    (rw (grows view.desk more asked, asks) (word_taken (is_lifted view asked)
    (is_withdrawn_at view.desk asked) asked (eq-eqb asked asked refl)))
    (λ quote differs. rw (grows view.desk more quote, asks) (word_left (is_lifted view quote)
    (is_withdrawn_at view.desk quote) (answer_to view asked) quote asked differs))

-- an event that asks this word, or none, with the settlement of the row
pub asked_stands : GrowsByEvents → (view : ViewState) (words : Row) (asked : Option ℕ)
    → (more : Option Settled → DealerEvent)
    → ((settlement : Option Settled) → asks_at view.desk (more settlement) ≡ asked_word asked settlement)
    → length words ≡ view.desk.row.quotes → IfSome asked (IsOfRow view.desk.row.quotes)
    → AreWordsOf view words
    → StandsFor (with_event_at_desk view (more (option_map (answer_to view) asked)))
    (with_event view.desk (more (option_map (settlement_in words) asked))) (with_asked words asked)
asked_stands grows view words None more asks count within are = record {
  desk_is = refl;
  words_are = unasked grows view words (more None) (asks None) are;
}
asked_stands grows view words (Some quote) more asks count within are =
    let settlement : Option Settled = Some (answer_to view quote) in
    record {
      desk_is = ap (λ (given : Settled). with_event view.desk (more (Some given)))
          (answers_agree view words quote are within);
      words_are = asked_words grows view words quote (more settlement) (asks settlement) count within are;
    }

-- A lifting.

-- where the word is settled, nothing changes
settled_stays : (lifted withdrawn : Bool) (words : Row) (place : ℕ) (wish : Settled)
    → withdrawn ≡ true → after_exchange (word_if lifted withdrawn) words place wish ≡ words
settled_stays true withdrawn words place wish is = refl
settled_stays false true words place wish is = refl
settled_stays false false words place wish is = cc

-- where it is not withdrawn, the word is lifted afterwards
word_lifted : (lifted withdrawn now : Bool) → withdrawn ≡ false → now ≡ true
    → word_if now withdrawn ≡ Some (settlement_of (word_if lifted withdrawn) Lifted)
word_lifted lifted withdrawn false is counts = cc
word_lifted lifted true true is counts = cc
word_lifted true false true is counts = refl
word_lifted false false true is counts = refl

-- the view with one lifting more that counts
abbrev pub with_lifted : ViewState → ℕ → ViewState
with_lifted view quote = record view { lifted = view.lifted ++ quote ∷ [] }

module _ (view : ViewState) (words : Row) (quote : ℕ)
    (count : length words ≡ view.desk.row.quotes) (within : IsOfRow view.desk.row.quotes quote)
    (are : AreWordsOf view words) where
  -- whether a quote is lifted then
  lifted_now : (other : ℕ)
      → is_lifted (with_lifted view quote) other
      ≡ (is_lifted view other || ((quote == other) || false))
  lifted_now other = list_any-append (λ lifted. lifted == other) view.lifted (quote ∷ [])

  withdrawn_before : is_withdrawn_at view.desk quote ≡ true
      → AreWordsOf view (with_wish words quote Lifted)
  withdrawn_before is =
      let exchange : Option Settled → Row = λ e. after_exchange e words (quote - 1) Lifted in
      let stays = ap exchange (are quote within) ∙ settled_stays (is_lifted view quote)
      (is_withdrawn_at view.desk quote) words (quote - 1) Lifted is in
      subst (AreWordsOf view) (sym stays) are

  lifted_words : is_withdrawn_at view.desk quote ≡ false
      → AreWordsOf (with_lifted view quote) (with_wish words quote Lifted)
  lifted_words is =
      exchanged view words quote Lifted (word_of (with_lifted view quote)) count within are
      (word_lifted (is_lifted view quote) (is_withdrawn_at view.desk quote)
      (is_lifted (with_lifted view quote) quote) is
      (lifted_now quote ∙ or_true (is_lifted view quote) (quote == quote) (eq-eqb quote quote refl)))
      (λ other differs. ap (λ (lifted : Bool). word_if lifted (is_withdrawn_at view.desk other))
      (lifted_now other ∙ or_none (is_lifted view other) true (quote == other) differs))

-- by whether the quote has a word, and whether it was withdrawn
pub lifting_words : (view : ViewState) (words : Row) (quote : ℕ) (has_word withdrawn : Bool)
    → (nat_le 1 quote && nat_le quote view.desk.row.quotes) ≡ has_word
    → is_withdrawn_at view.desk quote ≡ withdrawn
    → length words ≡ view.desk.row.quotes → AreWordsOf view words
    → AreWordsOf (if has_word && not withdrawn then with_lifted view quote else view)
    (if has_word then with_wish words quote Lifted else words)
lifting_words view words quote false withdrawn has is count are = are
lifting_words view words quote true true has is count are =
    withdrawn_before view words quote count (in_row quote view.desk.row.quotes has) are is
lifting_words view words quote true false has is count are =
    lifted_words view words quote count (in_row quote view.desk.row.quotes has) are is

-- no lifting changes the desk
pub lifting_desk : (view : ViewState) (quote : ℕ) (counts : Bool)
    → view.desk ≡ (if counts then with_lifted view quote else view).desk
lifting_desk view quote true = refl
lifting_desk view quote false = refl
