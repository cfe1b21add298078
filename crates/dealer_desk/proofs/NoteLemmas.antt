-- A message that came is noted behind what it led to, and stands before it: the number that it used
-- up has no part in the rest. And the quote that a drop takes is live.
use Rattle.std.proofs.Common.{◌≡◌, ℕ, ◌+◌, ◌&&◌, true, false, not, nat_le, List, ◌∷◌, Some, refl}
use Rattle.std.proofs.Common.{sym, ap, ◌∙◌}
use Rattle.std.proofs.lemmas.Bool.{and_parts}
use Rattle.dealer_desk.specs.DealerFacts.{DealerFact, Came, Quoted, Withdrawn, Late, Declined}
use Rattle.dealer_desk.specs.DealerFacts.{DealerBook, is_live, is_droppable, quote_to_drop}
use Rattle.dealer_desk.specs.BookChanges.{book_after, IsSound, IsLiveNumber}
use Rattle.dealer_desk.specs.DealerTable.{IndexView, with_fact}
use Rattle.dealer_desk.specs.RuleCuts.{note_uses, note_facts, with_facts}
use Rattle.dealer_desk.specs.declared.accepted.AcceptedQuote.{AcceptedQuote}
use Rattle.dealer_desk.specs.declared.standing.StandingQuote.{StandingQuote}
use Rattle.dealer_desk.specs.declared.standing.Withdrawal.{Withdrawal}
use Rattle.dealer_desk.specs.declared.standing.Withdrawal.TheVariants as by
use Rattle.dealer_desk.specs.declared.outcomes.Note.{Note}
use Rattle.dealer_desk.specs.declared.outcomes.Note.TheVariants as note
use Rattle.dealer_desk.proofs.BookLemmas.{came_book}
use Rattle.dealer_desk.proofs.ListLemmas.{find_stands}

-- A fact that has no part in how many messages came.
record IsApart (fact : DealerFact) : Type 0 where
  keeps : (book : DealerBook) → (book_after book fact).used ≡ book.used
  apart : (book : DealerBook) (n : ℕ) → book_after (record book { used = n }) fact ≡ record (book_after book fact) { used = n }

quoted_apart : (quote : AcceptedQuote) → IsApart (Quoted quote)
unfolding book_after
quoted_apart quote = record { keeps = λ book. refl; apart = λ book n. refl }

withdrawn_apart : (quote : ℕ) (how : Withdrawal) → IsApart (Withdrawn quote how)
unfolding book_after
withdrawn_apart quote how = record { keeps = λ book. refl; apart = λ book n. refl }

late_apart : (quote : ℕ) → IsApart (Late quote)
unfolding book_after
late_apart quote = record { keeps = λ book. refl; apart = λ book n. refl }

declined_apart : (request : ℕ) → IsApart (Declined request)
unfolding book_after
declined_apart request = record { keeps = λ book. refl; apart = λ book n. refl }

-- such a fact and a message that came
behind : (fact : DealerFact) (book : DealerBook) (moment : ℕ) (bytes : List ℕ) → IsApart fact → book_after (book_after book fact) (Came moment bytes true) ≡ book_after (book_after book (Came moment bytes true)) fact
behind fact book moment bytes is =
    came_book (book_after book fact) moment bytes true
    ∙ (ap (λ (n : ℕ). record (book_after book fact) { used = n + 1 }) (is.keeps book)
    ∙ (sym (is.apart book (book.used + 1))
    ∙ ap (λ (b : DealerBook). book_after b fact) (sym (came_book book moment bytes true))))

behind_one : (fact : DealerFact) (index : IndexView) (moment : ℕ) (bytes : List ℕ) → IsApart fact → with_fact (with_fact index fact) (Came moment bytes true) ≡ with_fact (with_fact index (Came moment bytes true)) fact
behind_one fact index moment bytes is = ap (λ (b : DealerBook). record index { book = b }) (behind fact index.book moment bytes is)

behind_two : (fact other : DealerFact) (index : IndexView) (moment : ℕ) (bytes : List ℕ) → IsApart fact → IsApart other
    → with_fact (with_fact (with_fact index fact) other) (Came moment bytes true) ≡ with_fact (with_fact (with_fact index (Came moment bytes true)) fact) other
behind_two fact other index moment bytes is is_other =
    behind_one other (with_fact index fact) moment bytes is_other
    ∙ ap (λ (i : IndexView). with_fact i other) (behind_one fact index moment bytes is)

-- no note uses up a number
pub note_keeps_used : (index : IndexView) (noted : Note) → (with_facts index (note_facts noted)).book.used ≡ index.book.used
note_keeps_used index note.Nothing = refl
note_keeps_used index note.Number = refl
note_keeps_used index (note.Accepted quote) = (quoted_apart quote).keeps index.book
note_keeps_used index (note.Replaced replaced quote) =
    (quoted_apart quote).keeps (book_after index.book (Withdrawn replaced by.Replacement)) ∙ (withdrawn_apart replaced by.Replacement).keeps index.book
note_keeps_used index (note.Cancelled quote) = (withdrawn_apart quote by.Cancel).keeps index.book
note_keeps_used index (note.Late quote) = (late_apart quote).keeps index.book
note_keeps_used index (note.Declined request) = (declined_apart request).keeps index.book

-- what is noted of a message that used up its number, and then that it came
pub came_behind : (index : IndexView) (noted : Note) (moment : ℕ) (bytes : List ℕ) → note_uses noted ≡ true
    → with_fact (with_facts index (note_facts noted)) (Came moment bytes true) ≡ with_facts index (Came moment bytes (note_uses noted) ∷ note_facts noted)
came_behind index note.Nothing moment bytes uses = cc
came_behind index note.Number moment bytes uses = refl
came_behind index (note.Accepted quote) moment bytes uses = behind_one (Quoted quote) index moment bytes (quoted_apart quote)
came_behind index (note.Replaced replaced quote) moment bytes uses =
    behind_two (Withdrawn replaced by.Replacement) (Quoted quote) index moment bytes (withdrawn_apart replaced by.Replacement) (quoted_apart quote)
came_behind index (note.Cancelled quote) moment bytes uses = behind_one (Withdrawn quote by.Cancel) index moment bytes (withdrawn_apart quote by.Cancel)
came_behind index (note.Late quote) moment bytes uses = behind_one (Late quote) index moment bytes (late_apart quote)
came_behind index (note.Declined request) moment bytes uses = behind_one (Declined request) index moment bytes (declined_apart request)

-- a message that used up none changes nothing
pub nothing_noted : (index : IndexView) (noted : Note) (moment : ℕ) (bytes : List ℕ) → note_uses noted ≡ false
    → with_facts index (note_facts noted) ≡ with_facts index (Came moment bytes (note_uses noted) ∷ note_facts noted)
nothing_noted index note.Nothing moment bytes unused = ap (λ (b : DealerBook). record index { book = b }) (sym (came_book index.book moment bytes false))
nothing_noted index note.Number moment bytes unused = cc
nothing_noted index (note.Accepted quote) moment bytes unused = cc
nothing_noted index (note.Replaced replaced quote) moment bytes unused = cc
nothing_noted index (note.Cancelled quote) moment bytes unused = cc
nothing_noted index (note.Late quote) moment bytes unused = cc
nothing_noted index (note.Declined request) moment bytes unused = cc

-- the quote that a drop takes is live
pub drop_lives : (book : DealerBook) (last : ℕ) (own : StandingQuote) → IsSound book.requests book.quotes → quote_to_drop book last ≡ Some own → IsLiveNumber book.quotes own.quote.number
unfolding quote_to_drop
drop_lives book last own sound found =
    let there = find_stands (λ (q : StandingQuote). is_droppable q && nat_le q.quote.number last) book.quotes own found in
    let droppable : is_droppable own ≡ true = (and_parts (is_droppable own) (nat_le own.quote.number last) there.2).0 in
    record {
      own = own;
      place = there.0;
      number_is = sound.quotes_numbered there.0 own there.1;
      stands = there.1;
      live = (and_parts (is_live own) (not own.is_known_lifted) droppable).0;
    }
