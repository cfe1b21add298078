-- The words of quotes after an event that asks one of them.
use Rattle.step_replay.proofs.Common.{◌≡◌, ◌≢◌, ◌<◌, ℕ, ◌+◌, ◌==◌, nat_lt, nat_le, Bool, true}
use Rattle.step_replay.proofs.Common.{false, ◌&&◌, ◌||◌, if◌then◌else◌, List, ◌++◌, length, Option}
use Rattle.step_replay.proofs.Common.{Some, None, refl, sym, ap, ◌∙◌, subst, arith, eq-eqb, ap₂}
use Rattle.step_replay.proofs.Common.{list_any, nat_tests, list_any-append, same_Some, entry_in}
use Rattle.step_replay.proofs.Common.{settlement_of, Exchanges, exchange_answers_entry}
use Rattle.step_replay.proofs.Common.{exchange_keeps_others, Settled, Configuration}
use Rattle.step_replay.proofs.Common.{dealer_numbered, DealerRow, event_facts, withdraws}
use Rattle.step_replay.proofs.Common.{DealerEvent, DealerEntry, facts_of, book_by, was_lifted}
use Rattle.step_replay.proofs.Common.{was_withdrawn, answer_to_dealer, entries_of, Fact, of_dealer}
use Rattle.step_replay.proofs.Common.{dealer_of, word_for, words_of, quote_among, QuoteRef}
use Rattle.step_replay.proofs.Common.{quote_with_word, word_if, WordsStand, word_is, quote_at}
use Rattle.step_replay.proofs.Common.{facts_grown}
use Rattle.std.proofs.lemmas.Bool.{ne_eqb}
use Rattle.quote_word.specs.declared.settled.Settled.TheVariants as settled
use Rattle.dealer_desk.specs.DealerFacts.{DealerFact}
use Rattle.dealer_desk.specs.DealerOutput.{is_withdrawn}
use Rattle.step_replay.specs.OwnerLemmas.{has_owner, owned_by, owner_among}
use Rattle.step_replay.specs.DealerGrowth.{lifted_grown}
use Rattle.step_replay.proofs.FloorLemmas.{with_dealers, own_dealers, other_dealers}

-- a word of the venue is that of this quote of the dealer with this number and row
pub record IsWord (config : Configuration) (word number : ℕ) (row : DealerRow) (quote : ℕ)
    : Type 0 where
  pub is : dealer_numbered config number ≡ Some row
  pub within : (nat_le 1 quote && nat_le quote row.quotes) ≡ true
  pub word_is : word ≡ word_for config (dealer_of number row) quote

-- a word of the venue is of a quote of its day
pub record WordOwner (config : Configuration) (word : ℕ) : Type 0 where
  pub number : ℕ
  pub row : DealerRow
  pub quote : ℕ
  pub of : IsWord config word number row quote
  pub found : quote_with_word config word ≡ Some (quote_at number quote)

pub word_owner : (config : Configuration) (word : ℕ) → nat_lt word (words_of config) ≡ true
    → WordOwner config word
word_owner config word inside =
    let some = has_owner 0 config.dealers word inside in
    let owned = owned_by 0 config.dealers word some.0 some.1 in
    let dealer : some.0.dealer ≡ 0 + owned.place = owned.dealer_is in
    let number : some.0.dealer ≡ owned.place = omega arith in
    record {
      number = owned.place;
      row = owned.row;
      quote = some.0.quote;
      of = record { is = owned.row_is; within = owned.within; word_is = owned.word_is };
      found = some.1 ∙ ap (λ (n : ℕ). Some (quote_at n some.0.quote)) number;
    }

-- it is of no other quote
only_of : {config : Configuration} {word number other : ℕ} {row row_too : DealerRow}
    {quote quote_too : ℕ} → IsWord config word number row quote
    → IsWord config word other row_too quote_too → (number ≡ other) × (quote ≡ quote_too)
only_of {config} {word} {number} {other} {row} {row_too} {quote} {quote_too} one two =
    let here = owner_among 0 config.dealers number row quote one.is one.within in
    let there = owner_among 0 config.dealers other row_too quote_too two.is two.within in
    let equal = same_Some (quote_at (0 + number) quote) (quote_at (0 + other) quote_too)
    (sym here ∙ ap (quote_among 0 config.dealers) (sym one.word_is ∙ two.word_is) ∙ there) in
    let dealers : 0 + number ≡ 0 + other = ap (λ (q : QuoteRef). q.dealer) equal in
    let dealer : number ≡ other = omega arith in
    (dealer, ap (λ (q : QuoteRef). q.quote) equal)

-- The words after one exchange, by what the trail of the dealer whose word is asked then says.
module _ {config : Configuration} {word number quote : ℕ} {row : DealerRow}
    {words after : List (Option Settled)} {wish settlement : Settled} (facts : List Fact)
    (of : IsWord config word number row quote) (stand : WordsStand config facts words)
    (exchange : Exchanges words word wish settlement after) (there : word < length words) where
  pub exchanged_stand : (added : List DealerEntry)
      → Some settlement ≡ word_is (of_dealer number facts ++ added) quote
      → ((q : ℕ) → (quote == q) ≡ false → word_is (of_dealer number facts ++ added) q
      ≡ word_is (of_dealer number facts) q)
      → WordsStand config (with_dealers facts number added) after
  exchanged_stand added asked others n r q is_too within_too = by_word (w == word) refl
    where
      now : List Fact
      now = with_dealers facts number added

      w : ℕ
      w = word_for config (dealer_of n r) q

      kept : w ≢ word → (same : Bool) → (number == n) ≡ same
          → word_is (of_dealer n now) q ≡ word_is (of_dealer n facts) q
      kept differs false test = ap (λ l. word_is l q) (other_dealers facts number added n test)
      kept differs true test =
          let equal : number ≡ n = grind (arith, nat_tests) in
          let unlike : (quote == q) ≡ false = ne_eqb quote q (λ same.
          differs (ap₂ (λ (m k : ℕ). word_for config (dealer_of m r) k) (sym equal) (sym same)
          ∙ sym of.word_is)) in
          subst (λ (m : ℕ). word_is (of_dealer m now) q ≡ word_is (of_dealer m facts) q) equal
          (ap (λ l. word_is l q) (own_dealers facts number added) ∙ others q unlike)

      by_word : (b : Bool) → (w == word) ≡ b → entry_in after w ≡ word_is (of_dealer n now) q
      by_word true test =
          let same : w ≡ word = grind (arith, nat_tests) in
          let theirs : IsWord config word n r q =
          record { is = is_too; within = within_too; word_is = sym same } in
          let apart = only_of of theirs in
          ap (entry_in after) same
          ∙ exchange_answers_entry words after word wish settlement there exchange ∙ asked
          ∙ ap (λ l. word_is l quote) (sym (own_dealers facts number added))
          ∙ ap₂ (λ (m k : ℕ). word_is (of_dealer m now) k) apart.0 apart.1
      by_word false test =
          let differs : w ≢ word = grind (arith, nat_tests) in
          exchange_keeps_others words after word w wish settlement exchange differs
          ∙ stand n r q is_too within_too
          ∙ sym (kept differs (number == n) refl)

-- what the word of a quote is after one event more at its dealer's desk
pub word_grown : (date : List ℕ) (row : DealerRow) (trail : List DealerEntry) (more : DealerEvent)
    (quote : ℕ) → word_is (trail ++ entries_of date row trail more) quote
    ≡ word_if (was_lifted trail quote) (was_withdrawn trail quote
    || list_any (withdraws quote) (event_facts date row (book_by trail) more))
word_grown date row trail more quote =
    ap (λ b. word_if b (was_withdrawn (trail ++ entries_of date row trail more) quote))
    (lifted_grown date row trail more quote)
    ∙ ap (λ (l : List DealerFact). word_if (was_lifted trail quote) (list_any (withdraws quote) l))
    (facts_grown date row trail more)
    ∙ ap (word_if (was_lifted trail quote))
    (list_any-append (withdraws quote) (facts_of trail) (event_facts date row (book_by trail) more))

-- whether a word that is asked is withdrawn by its settlement, and is that of this quote
abbrev pub withdraws_by : Option ℕ → Option Settled → ℕ → Bool
withdraws_by None settlement quote = false
withdraws_by (Some asked) settlement quote = is_withdrawn settlement && (asked == quote)

-- what a word is that its dealer has asked, and what it answers
word_taken : (lifted withdrawn : Bool)
    → word_if lifted (withdrawn || (is_withdrawn (Some (if lifted then settled.Lifted
    else settled.Withdrawn)) && true))
    ≡ Some (if lifted then settled.Lifted else settled.Withdrawn)
word_taken lifted withdrawn = grind arith

taken_is : (lifted withdrawn : Bool)
    → settlement_of (word_if lifted withdrawn) settled.Withdrawn
    ≡ (if lifted then settled.Lifted else settled.Withdrawn)
taken_is lifted withdrawn = grind arith

or_and_false : (b c : Bool) → (b || (c && false)) ≡ b
or_and_false b c = grind arith

-- The words after an event that asks the word of a quote.
module _ {config : Configuration} {word number asked : ℕ} {row : DealerRow}
    {words after : List (Option Settled)} {settlement : Settled} (facts : List Fact)
    (more : DealerEvent) (of : IsWord config word number row asked)
    (withdraws_so : (quote : ℕ) → list_any (withdraws quote)
    (event_facts config.date row (book_by (of_dealer number facts)) more)
    ≡ withdraws_by (Some asked) (Some (answer_to_dealer (of_dealer number facts) asked)) quote)
    (stand : WordsStand config facts words)
    (exchange : Exchanges words word settled.Withdrawn settlement after)
    (there : word < length words) where
  -- the dealer's trail, and what is added to it
  abbrev trail : List DealerEntry
  trail = of_dealer number facts

  abbrev entries : List DealerEntry
  entries = entries_of config.date row trail more

  -- what the word of a quote of the dealer is then, by whether it is the one that is asked
  word_then : (quote : ℕ) (same : Bool) → (asked == quote) ≡ same
      → word_is (trail ++ entries) quote
      ≡ word_if (was_lifted trail quote) (was_withdrawn trail quote
      || (is_withdrawn (Some (answer_to_dealer trail asked)) && same))
  word_then quote same test =
      word_grown config.date row trail more quote
      ∙ ap (λ b. word_if (was_lifted trail quote) (was_withdrawn trail quote || b))
      (withdraws_so quote
      ∙ ap (λ b. is_withdrawn (Some (answer_to_dealer trail asked)) && b) test)

  pub answer_is : settlement ≡ answer_to_dealer trail asked
  answer_is =
      exchange.answered
      ∙ ap (λ e. settlement_of e settled.Withdrawn)
      (ap (entry_in words) of.word_is ∙ stand number row asked of.is of.within)
      ∙ taken_is (was_lifted trail asked) (was_withdrawn trail asked)

  pub words_asked : WordsStand config (with_dealers facts number entries) after
  words_asked =
      exchanged_stand facts of stand exchange there entries
      (ap Some answer_is ∙ sym (word_then asked true (eq-eqb asked asked refl)
      ∙ word_taken (was_lifted trail asked) (was_withdrawn trail asked)))
      (λ quote differs. word_then quote false differs
      ∙ ap (word_if (was_lifted trail quote)) (or_and_false (was_withdrawn trail quote)
      (is_withdrawn (Some (answer_to_dealer trail asked)))))
