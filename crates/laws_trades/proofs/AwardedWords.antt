-- An award is of the quote with the word that was hit.
use Rattle.std.proofs.Common.{◌≡◌, ◌==◌, ℕ, Bool, true, false, not, List, [], ◌∷◌, find, Option, Some}
use Rattle.std.proofs.Common.{None, is_none, option_map, Result, Ok, Err, refl, sym, ap, ◌∙◌, inl, inr}
use Rattle.std.proofs.lemmas.Bool.{cases_Bool, eqb-true}
use Rattle.std.proofs.lemmas.Option.{same_Some}
use Rattle.market_terms.specs.Checks.{first_refusal}
use Rattle.market_terms.specs.declared.closes.HitRefusal.{HitRefusal}
use Rattle.market_terms.specs.declared.closes.HitRefusal.TheVariants as refusal
use Rattle.quote_word.specs.declared.settled.Settled.{Settled}
use Rattle.quote_word.specs.declared.settled.Settled.TheVariants as settled
use Rattle.request_room.specs.Book.{award_of, book_of, hit_refusal, hit_settled, is_expired}
use Rattle.request_room.specs.Book.{is_past_deadline, quote_meant}
use Rattle.request_room.specs.RoomFacts.{RoomFact, is_awarded_kind, is_open, request_of}
use Rattle.request_room.specs.declared.ends.End.{End}
use Rattle.request_room.specs.declared.quotes.PostedQuote.{PostedQuote}

pub found_passes : {A : Type 0} (test : A → Bool) (xs : List A) (x : A) → find test xs ≡ Some x
    → test x ≡ true
found_passes test [] x is = cc
found_passes test (y ∷ xs) x is = elim (cases_Bool (test y)) [
  | inl passes ↦ ap test (sym (same_Some y x (rw passes at is))) ∙ passes
  | inr fails ↦ found_passes test xs x (rw fails at is)
]

-- An award of the quote with a word.

pub record IsWon (word : ℕ) (award : End) : Type 0 where
  pub kind : is_awarded_kind award.kind ≡ true
  pub dealer : ℕ
  pub winner : award.winner ≡ Some (dealer, word)

same_end : (one other : End) → ◌≡◌ {A = Result End HitRefusal} (Ok one) (Ok other) → one ≡ other
same_end one other is = cc

pub settled_end : (refused : Option HitRefusal) (by : Option Settled) (end award : End)
    → hit_settled refused by end ≡ Ok award → (refused ≡ None) × (end ≡ award)
settled_end (Some why) by end award is = cc
settled_end None None end award is = cc
settled_end None (Some settled.Withdrawn) end award is = cc
settled_end None (Some settled.Lifted) end award is = (refl, same_end end award is)

-- where no check refuses a hit, a quote is meant
is_meant : (closed late ended : Bool) (found : Option PostedQuote)
    → first_refusal ((closed, refusal.NotOpen) ∷ (late, refusal.Deadline)
    ∷ (is_none found, refusal.Gone) ∷ (ended, refusal.Expired) ∷ []) ≡ None
    → (quote : PostedQuote) × (found ≡ Some quote)
is_meant true late ended found is = cc
is_meant false true ended found is = cc
is_meant false false ended None is = cc
is_meant false false ended (Some quote) is = (quote, refl)

pub is_won : (known : List RoomFact) (word moment : ℕ) → hit_refusal known word moment ≡ None
    → IsWon word (award_of known word)
unfolding hit_refusal
is_won known word moment none =
    let meant = is_meant (not (is_open known)) (is_past_deadline (request_of known) moment)
    (is_expired (quote_meant (book_of known) word) moment) (quote_meant (book_of known) word) none in
    let quote = meant.0 in
    let same : quote.word ≡ word = eqb-true quote.word word
    (found_passes (λ (q : PostedQuote). q.word == word) (book_of known) quote meant.1) in
    record {
      kind = refl;
      dealer = quote.dealer;
      winner = ap (option_map (λ (q : PostedQuote). (q.dealer, q.word))) meant.1
          ∙ ap (λ (n : ℕ). Some (quote.dealer, n)) same;
    }
