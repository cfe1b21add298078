-- How quotes stand, and how their words were settled, after one fact more.
use Rattle.std.proofs.Common.{◌≡◌, ◌<◌, ◌≤◌, ℕ, ◌+◌, Bool, true, false, ◌||◌, ◌==◌, cond, List, []}
use Rattle.std.proofs.Common.{◌∷◌, ◌++◌, length, map, Option, Some, None, is_none, slice_get, inl}
use Rattle.std.proofs.Common.{inr, refl, sym, ap, subst, ◌∙◌, arith}
use Rattle.std.specs.List.{list_any}
use Rattle.std.specs.Option.{option_or}
use Rattle.std.proofs.lemmas.Bool.{eqb-true, false_from_ne_true}
use Rattle.std.proofs.lemmas.Option.{same_Some}
use Rattle.std.proofs.lemmas.List.{length-append, length-map, append-nil}
use Rattle.std.proofs.Math.Bool.{or-false, or-true}
use Rattle.market_terms.specs.declared.closes.Close.{Close}
use Rattle.quote_word.specs.declared.settled.Settled.{Settled}
use Rattle.quote_word.specs.declared.settled.Settled.TheVariants as settled
use Rattle.dealer_desk.specs.DealerFacts.{is_withdrawal, standing_quote}
use Rattle.dealer_desk.specs.BookChanges.{IsSound, IsLiveNumber, ended_at, late_at, closed_on}
use Rattle.dealer_desk.specs.DeskLaws.{says_lifted, says_withdrawn}
use Rattle.dealer_desk.specs.declared.accepted.AcceptedQuote.{AcceptedQuote}
use Rattle.dealer_desk.specs.declared.standing.StandingRequest.{StandingRequest}
use Rattle.dealer_desk.specs.declared.standing.StandingQuote.{StandingQuote}
use Rattle.dealer_desk.specs.declared.standing.QuoteEnd.{QuoteEnd}
use Rattle.dealer_desk.specs.declared.standing.QuoteEnd.TheVariants as end
use Rattle.dealer_desk.specs.declared.standing.Withdrawal.{Withdrawal}
use Rattle.dealer_desk.proofs.BookPush.{any_push}
use Rattle.dealer_desk.proofs.ListLemmas.{mapped_at, pushed_at, within_from}
use Rattle.dealer_desk.proofs.QuoteChanges.{nothing}

-- a quote stands as its word was settled
pub record AsAnswered (words : List (ℕ × Settled)) (own : StandingQuote) : Type 0 where
  pub withdrawn : is_withdrawal own.end ≡ list_any (says_withdrawn own.quote.number) words
  pub lifted : own.is_known_lifted ≡ list_any (says_lifted own.quote.number) words

-- all do, and no word was asked of a quote that is not among them
pub record Answered (words : List (ℕ × Settled)) (quotes : List StandingQuote) : Type 0 where
  pub stand : (k : ℕ) (own : StandingQuote) → slice_get quotes k ≡ Some own → AsAnswered words own
  pub not_withdrawn : (number : ℕ) → length quotes < number → list_any (says_withdrawn number) words ≡ false
  pub not_lifted : (number : ℕ) → length quotes < number → list_any (says_lifted number) words ≡ false

-- One word more.

more_withdrawn : (words : List (ℕ × Settled)) (number quote : ℕ) → list_any (says_withdrawn number) (words ++ (quote, settled.Withdrawn) ∷ []) ≡ (list_any (says_withdrawn number) words || (quote == number))
more_withdrawn words number quote = any_push (says_withdrawn number) words (quote, settled.Withdrawn)

no_more_withdrawn : (words : List (ℕ × Settled)) (number quote : ℕ) → list_any (says_withdrawn number) (words ++ (quote, settled.Lifted) ∷ []) ≡ list_any (says_withdrawn number) words
no_more_withdrawn words number quote = any_push (says_withdrawn number) words (quote, settled.Lifted) ∙ or-false (list_any (says_withdrawn number) words)

more_lifted : (words : List (ℕ × Settled)) (number quote : ℕ) → list_any (says_lifted number) (words ++ (quote, settled.Lifted) ∷ []) ≡ (list_any (says_lifted number) words || (quote == number))
more_lifted words number quote = any_push (says_lifted number) words (quote, settled.Lifted)

no_more_lifted : (words : List (ℕ × Settled)) (number quote : ℕ) → list_any (says_lifted number) (words ++ (quote, settled.Withdrawn) ∷ []) ≡ list_any (says_lifted number) words
no_more_lifted words number quote = any_push (says_lifted number) words (quote, settled.Withdrawn) ∙ or-false (list_any (says_lifted number) words)

said_so : (a b : Bool) → b ≡ true → true ≡ (a || b)
said_so a b so = sym (ap (λ (c : Bool). a || c) so ∙ or-true a)

said_not : (a b : Bool) → b ≡ false → a ≡ (a || b)
said_not a b so = sym (ap (λ (c : Bool). a || c) so ∙ or-false a)

other_than : (number quote last : ℕ) → quote ≤ last → last < number → (quote == number) ≡ false
other_than number quote last within past = false_from_ne_true (quote == number) (λ so. let same : quote ≡ number = eqb-true quote number so in let never : ⊥ = omega arith in never)

pub no_word_more : (words : List (ℕ × Settled)) (quotes : List StandingQuote) → Answered words quotes → Answered (words ++ []) quotes
no_word_more words quotes said = subst (λ (ws : List (ℕ × Settled)). Answered ws quotes) (sym (append-nil words)) said

-- A quote that is withdrawn, or found lifted.

ended_one : (b : Bool) (number : ℕ) (how : Withdrawal) (words : List (ℕ × Settled)) (own : StandingQuote) → (number == own.quote.number) ≡ b → (b ≡ true → own.end ≡ None) → AsAnswered words own
    → AsAnswered (words ++ (number, settled.Withdrawn) ∷ []) (cond b (record own { end = option_or own.end (Some (end.Withdrawn how)) }) own)
ended_one true number how words own is live said = record {
  withdrawn =
      ap (λ (e : Option QuoteEnd). is_withdrawal (option_or e (Some (end.Withdrawn how)))) (live refl)
      ∙ said_so (list_any (says_withdrawn own.quote.number) words) (number == own.quote.number) is
      ∙ sym (more_withdrawn words own.quote.number number);
  lifted = said.lifted ∙ sym (no_more_lifted words own.quote.number number);
}
ended_one false number how words own is live said = record {
  withdrawn =
      said.withdrawn
      ∙ said_not (list_any (says_withdrawn own.quote.number) words) (number == own.quote.number) is
      ∙ sym (more_withdrawn words own.quote.number number);
  lifted = said.lifted ∙ sym (no_more_lifted words own.quote.number number);
}

-- the live quote of a number, and any other of that number, are one
one_live : (requests : List StandingRequest) (quotes : List StandingQuote) (number k : ℕ) (own : StandingQuote) → IsSound requests quotes → IsLiveNumber quotes number → slice_get quotes k ≡ Some own
    → own.quote.number ≡ number → own.end ≡ None
one_live requests quotes number k own sound live at same =
    let here : own.quote.number ≡ k + 1 = sound.quotes_numbered k own at in
    let there : number ≡ live.place + 1 = live.number_is in
    let place : k ≡ live.place = omega arith in
    let one : own ≡ live.own = same_Some own live.own (sym at ∙ ap (slice_get quotes) place ∙ live.stands) in
    nothing own.end (ap (λ (q : StandingQuote). is_none q.end) one ∙ live.live)

live_inside : (quotes : List StandingQuote) (number : ℕ) → IsLiveNumber quotes number → number ≤ length quotes
live_inside quotes number live =
    let inside : live.place < length quotes = within_from quotes live.place live.own live.stands in
    let there : number ≡ live.place + 1 = live.number_is in
    omega arith

pub withdrawn_answered : (requests : List StandingRequest) (quotes : List StandingQuote) (number : ℕ) (how : Withdrawal) (words : List (ℕ × Settled)) → IsSound requests quotes → IsLiveNumber quotes number
    → Answered words quotes → Answered (words ++ (number, settled.Withdrawn) ∷ []) (map (ended_at number (end.Withdrawn how)) quotes)
withdrawn_answered requests quotes number how words sound live said = record {
  stand = λ k own at.
      let was = mapped_at (ended_at number (end.Withdrawn how)) quotes k own at in
      subst (λ (q : StandingQuote). AsAnswered (words ++ (number, settled.Withdrawn) ∷ []) q) was.2
      (ended_one (number == was.0.quote.number) number how words was.0 refl
      (λ so. one_live requests quotes number k was.0 sound live was.1 (sym (eqb-true number was.0.quote.number so))) (said.stand k was.0 was.1));
  not_withdrawn = λ other past.
      let many : length (map (ended_at number (end.Withdrawn how)) quotes) ≡ length quotes = length-map quotes (ended_at number (end.Withdrawn how)) in
      let beyond : length quotes < other = omega arith in
      more_withdrawn words other number
      ∙ sym (said_not (list_any (says_withdrawn other) words) (number == other) (other_than other number (length quotes) (live_inside quotes number live) beyond))
      ∙ said.not_withdrawn other beyond;
  not_lifted = λ other past.
      let many : length (map (ended_at number (end.Withdrawn how)) quotes) ≡ length quotes = length-map quotes (ended_at number (end.Withdrawn how)) in
      let beyond : length quotes < other = omega arith in
      no_more_lifted words other number ∙ said.not_lifted other beyond;
}

late_one : (b : Bool) (number : ℕ) (words : List (ℕ × Settled)) (own : StandingQuote) → (number == own.quote.number) ≡ b → AsAnswered words own
    → AsAnswered (words ++ (number, settled.Lifted) ∷ []) (cond b (record own { is_known_lifted = true }) own)
late_one true number words own is said = record {
  withdrawn = said.withdrawn ∙ sym (no_more_withdrawn words own.quote.number number);
  lifted = said_so (list_any (says_lifted own.quote.number) words) (number == own.quote.number) is ∙ sym (more_lifted words own.quote.number number);
}
late_one false number words own is said = record {
  withdrawn = said.withdrawn ∙ sym (no_more_withdrawn words own.quote.number number);
  lifted = said.lifted ∙ said_not (list_any (says_lifted own.quote.number) words) (number == own.quote.number) is ∙ sym (more_lifted words own.quote.number number);
}

pub late_answered : (quotes : List StandingQuote) (number : ℕ) (words : List (ℕ × Settled)) → IsLiveNumber quotes number
    → Answered words quotes → Answered (words ++ (number, settled.Lifted) ∷ []) (map (late_at number) quotes)
late_answered quotes number words live said = record {
  stand = λ k own at.
      let was = mapped_at (late_at number) quotes k own at in
      subst (λ (q : StandingQuote). AsAnswered (words ++ (number, settled.Lifted) ∷ []) q) was.2
      (late_one (number == was.0.quote.number) number words was.0 refl (said.stand k was.0 was.1));
  not_withdrawn = λ other past.
      let many : length (map (late_at number) quotes) ≡ length quotes = length-map quotes (late_at number) in
      let beyond : length quotes < other = omega arith in
      no_more_withdrawn words other number ∙ said.not_withdrawn other beyond;
  not_lifted = λ other past.
      let many : length (map (late_at number) quotes) ≡ length quotes = length-map quotes (late_at number) in
      let beyond : length quotes < other = omega arith in
      more_lifted words other number
      ∙ sym (said_not (list_any (says_lifted other) words) (number == other) (other_than other number (length quotes) (live_inside quotes number live) beyond))
      ∙ said.not_lifted other beyond;
}

-- The closing of a request, and a quote behind the others.

closed_so : (e : Option QuoteEnd) (close : Close) → is_withdrawal (option_or e (Some (end.Closed close))) ≡ is_withdrawal e
closed_so None close = refl
closed_so (Some how) close = refl

closed_one : (b : Bool) (close : Close) (words : List (ℕ × Settled)) (own : StandingQuote) → AsAnswered words own
    → AsAnswered words (cond b (record own { end = option_or own.end (Some (end.Closed close)) }) own)
closed_one true close words own said = record { withdrawn = closed_so own.end close ∙ said.withdrawn; lifted = said.lifted }
closed_one false close words own said = said

pub closed_answered : (quotes : List StandingQuote) (number : ℕ) (close : Close) (words : List (ℕ × Settled)) → Answered words quotes → Answered words (map (closed_on number close) quotes)
closed_answered quotes number close words said = record {
  stand = λ k own at.
      let was = mapped_at (closed_on number close) quotes k own at in
      subst (λ (q : StandingQuote). AsAnswered words q) was.2 (closed_one (number == was.0.quote.request) close words was.0 (said.stand k was.0 was.1));
  not_withdrawn = λ other past.
      let many : length (map (closed_on number close) quotes) ≡ length quotes = length-map quotes (closed_on number close) in
      let beyond : length quotes < other = omega arith in said.not_withdrawn other beyond;
  not_lifted = λ other past.
      let many : length (map (closed_on number close) quotes) ≡ length quotes = length-map quotes (closed_on number close) in
      let beyond : length quotes < other = omega arith in said.not_lifted other beyond;
}

pub quoted_answered : (quotes : List StandingQuote) (quote : AcceptedQuote) (words : List (ℕ × Settled)) → quote.number ≡ length quotes + 1 → Answered words quotes → Answered words (quotes ++ standing_quote quote [] ∷ [])
quoted_answered quotes quote words number said =
    let many : length (quotes ++ standing_quote quote [] ∷ []) ≡ length quotes + 1 = length-append quotes (standing_quote quote [] ∷ []) in
    let new : length quotes < quote.number = omega arith in
    record {
      stand = λ k own at. elim (pushed_at quotes (standing_quote quote []) k own at) [
        | inl was ↦ said.stand k own was
        | inr here ↦ subst (λ (q : StandingQuote). AsAnswered words q) here.1
            (record { withdrawn = sym (said.not_withdrawn quote.number new); lifted = sym (said.not_lifted quote.number new) })
      ];
      not_withdrawn = λ other past. let beyond : length quotes < other = omega arith in said.not_withdrawn other beyond;
      not_lifted = λ other past. let beyond : length quotes < other = omega arith in said.not_lifted other beyond;
    }
