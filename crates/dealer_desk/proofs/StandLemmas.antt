-- What every fact and every event at a desk keeps: a sound book, the exposure and the number of
-- quotes within the limits of the dealer's row.
use Rattle.std.proofs.Common.{◌≡◌, ◌<◌, ◌≤◌, ℕ, ◌+◌, Bool, true, false, ◌==◌, cond, List, [], ◌∷◌}
use Rattle.std.proofs.Common.{◌++◌, length, map, find, Option, Some, None, refl, sym, ap, subst}
use Rattle.std.proofs.Common.{◌∙◌, arith}
use Rattle.std.specs.List.{sum_by}
use Rattle.std.proofs.lemmas.List.{length-append, length-map}
use Rattle.std.proofs.lemmas.List.Sums.{sum_by-append, sum_by-cons}
use Rattle.venue_rows.specs.Texts.{same_text}
use Rattle.venue_rows.specs.declared.dealer_rows.DealerRow.{DealerRow}
use Rattle.market_terms.specs.declared.asks.Ask.{Ask}
use Rattle.market_terms.specs.declared.closes.Close.{Close}
use Rattle.dealer_desk.specs.DealerFacts.{Shown, Quoted, Withdrawn, Late, Dropped, Declined, Told}
use Rattle.dealer_desk.specs.DealerFacts.{DealerBook, is_live, live_quantity, quantity_beside}
use Rattle.dealer_desk.specs.DealerFacts.{standing_quote, quote_with_id, live_quote_on}
use Rattle.dealer_desk.specs.DealerFacts.{exposure_beside}
use Rattle.dealer_desk.specs.BookChanges.{IsSound, FitsBook, book_after, ended_at, late_at}
use Rattle.dealer_desk.specs.BookChanges.{closed_on, declined_at, told_at}
use Rattle.dealer_desk.specs.DealerTable.{live_number_among}
use Rattle.dealer_desk.specs.declared.accepted.AcceptedQuote.{AcceptedQuote}
use Rattle.dealer_desk.specs.declared.standing.StandingRequest.{StandingRequest}
use Rattle.dealer_desk.specs.declared.standing.StandingQuote.{StandingQuote}
use Rattle.dealer_desk.specs.declared.standing.Withdrawal.{Withdrawal}
use Rattle.dealer_desk.specs.declared.standing.QuoteEnd.TheVariants as end
use Rattle.dealer_desk.proofs.BookLemmas.{dropped_book, shown_book, quoted_book, withdrawn_book}
use Rattle.dealer_desk.proofs.BookLemmas.{late_book, declined_book, told_book}
use Rattle.dealer_desk.proofs.SoundLemmas.{sound_empty, sound_mapped, sound_requests, sound_shown}
use Rattle.dealer_desk.proofs.SoundLemmas.{sound_quoted}
use Rattle.dealer_desk.proofs.QuoteChanges.{ended_keeps, ended_lives, late_keeps, late_lives}
use Rattle.dealer_desk.proofs.QuoteChanges.{ended_by}
use Rattle.dealer_desk.proofs.TableReads.{declined_keeps, told_keeps}
use Rattle.dealer_desk.proofs.TableGrowth.{replaced_none, sum_beside}
use Rattle.dealer_desk.proofs.IndexLemmas.{closed_keeps}

-- what stands at a desk

pub record Stands (row : DealerRow) (requests : List StandingRequest) (quotes : List StandingQuote) : Type 0 where
  pub sound : IsSound requests quotes
  pub within : sum_by live_quantity quotes ≤ row.exposure
  pub few : length quotes ≤ row.quotes

abbrev pub StandsIn : DealerRow → DealerBook → Type 0
StandsIn row book = Stands row book.requests book.quotes

-- a quote that can be accepted, in the place of a live one on its request where there is one
pub record Fits (row : DealerRow) (requests : List StandingRequest) (quotes : List StandingQuote) (quote : AcceptedQuote) (replaced : Option ℕ) : Type 0 where
  pub number_is : quote.number ≡ length quotes + 1
  pub id_is_new : find (λ own. same_text own.quote.id quote.id) quotes ≡ None
  pub from_first : 1 ≤ quote.request
  pub to_last : quote.request ≤ length requests
  pub replaced_is : live_number_among quotes quote.request ≡ replaced
  pub room : length quotes < row.quotes
  pub exposure : quote.quantity + sum_by (quantity_beside replaced) quotes ≤ row.exposure

-- so the index takes it
pub fits_book : (row : DealerRow) (book : DealerBook) (quote : AcceptedQuote) (replaced : Option ℕ) → Fits row book.requests book.quotes quote replaced → FitsBook book quote replaced
unfolding quote_with_id live_quote_on exposure_beside
fits_book row book quote replaced fits = record {
  number_is = fits.number_is;
  id_is_new = fits.id_is_new;
  few = let room = fits.room in let most = row.quotes_to in omega arith;
  from_first = fits.from_first;
  to_last = fits.to_last;
  replaced_is = fits.replaced_is;
  exposure_fits = let within = fits.exposure in let most = row.exposure_to in omega arith;
}

-- a book without facts
pub stands_empty : (row : DealerRow) → Stands row [] []
stands_empty row = record { sound = sound_empty; within = omega arith; few = omega arith }

-- Changes of quotes by which none begins to live.

sum_less : (f : StandingQuote → StandingQuote) (quotes : List StandingQuote) → ((own : StandingQuote) → live_quantity (f own) ≤ live_quantity own) → sum_by live_quantity (map f quotes) ≤ sum_by live_quantity quotes
sum_less f [] less = omega arith
sum_less f (own ∷ quotes) less =
    let here = less own in
    let rest = sum_less f quotes less in
    rw (sum_by-cons live_quantity (f own) (map f quotes), sum_by-cons live_quantity own quotes) (omega arith)

quantity_less : (a b : Bool) (m n : ℕ) → (a ≡ true → b ≡ true) → m ≡ n → cond a m 0 ≤ cond b n 0
quantity_less true true m n only same = omega arith
quantity_less true false m n only same = let never : false ≡ true = only refl in cc
quantity_less false true m n only same = omega arith
quantity_less false false m n only same = omega arith

pub stands_changed : (row : DealerRow) (requests : List StandingRequest) (quotes : List StandingQuote) (f : StandingQuote → StandingQuote)
    → ((own : StandingQuote) → (f own).quote ≡ own.quote) → ((own : StandingQuote) → is_live (f own) ≡ true → is_live own ≡ true)
    → Stands row requests quotes → Stands row requests (map f quotes)
stands_changed row requests quotes f keeps lives stands = record {
  sound = sound_mapped requests quotes f keeps lives stands.sound;
  within =
      let less = sum_less f quotes (λ own. quantity_less (is_live (f own)) (is_live own) (f own).quote.quantity own.quote.quantity (lives own) (ap (λ (q : AcceptedQuote). q.quantity) (keeps own))) in
      let was = stands.within in omega arith;
  few = let was = stands.few in omega (arith, length-map quotes f);
}

pub stands_requests : (row : DealerRow) (requests : List StandingRequest) (quotes : List StandingQuote) (f : StandingRequest → StandingRequest)
    → ((request : StandingRequest) → (f request).number ≡ request.number)
    → Stands row requests quotes → Stands row (map f requests) quotes
stands_requests row requests quotes f keeps stands = record {
  sound = sound_requests requests quotes f keeps stands.sound;
  within = stands.within;
  few = stands.few;
}

-- Facts one by one.

pub dropped_stands : (row : DealerRow) (book : DealerBook) (last moment : ℕ) → StandsIn row book → StandsIn row (book_after book (Dropped last moment))
dropped_stands row book last moment stands = subst (λ (b : DealerBook). StandsIn row b) (sym (dropped_book book last moment)) stands

pub shown_stands : (row : DealerRow) (book : DealerBook) (ask : Ask) (moment : ℕ) → StandsIn row book → StandsIn row (book_after book (Shown ask moment))
shown_stands row book ask moment stands = subst (λ (b : DealerBook). StandsIn row b) (sym (shown_book book ask moment))
    (record { sound = sound_shown book.requests book.quotes ask stands.sound; within = stands.within; few = stands.few })

pub withdrawn_stands : (row : DealerRow) (book : DealerBook) (number : ℕ) (how : Withdrawal) → StandsIn row book → StandsIn row (book_after book (Withdrawn number how))
withdrawn_stands row book number how stands = subst (λ (b : DealerBook). StandsIn row b) (sym (withdrawn_book book number how))
    (stands_changed row book.requests book.quotes (ended_at number (end.Withdrawn how)) (ended_keeps number (end.Withdrawn how)) (ended_lives number (end.Withdrawn how)) stands)

pub late_stands : (row : DealerRow) (book : DealerBook) (number : ℕ) → StandsIn row book → StandsIn row (book_after book (Late number))
late_stands row book number stands = subst (λ (b : DealerBook). StandsIn row b) (sym (late_book book number))
    (stands_changed row book.requests book.quotes (late_at number) (late_keeps number) (λ own live. sym (late_lives number own) ∙ live) stands)

pub declined_stands : (row : DealerRow) (book : DealerBook) (number : ℕ) → StandsIn row book → StandsIn row (book_after book (Declined number))
declined_stands row book number stands = subst (λ (b : DealerBook). StandsIn row b) (sym (declined_book book number))
    (stands_requests row book.requests book.quotes (declined_at number) (declined_keeps number) stands)

pub told_stands : (row : DealerRow) (book : DealerBook) (number : ℕ) (close : Close) (moment : ℕ) → StandsIn row book → StandsIn row (book_after book (Told number close moment))
told_stands row book number close moment stands = subst (λ (b : DealerBook). StandsIn row b) (sym (told_book book number close moment))
    (stands_requests row book.requests (map (closed_on number close) book.quotes) (told_at number) (told_keeps number)
    (stands_changed row book.requests book.quotes (closed_on number close) (closed_keeps number close) (λ own live. ended_by (number == own.quote.request) (end.Closed close) own live) stands))

-- A quote behind the others.

pub stands_quoted : (row : DealerRow) (requests : List StandingRequest) (quotes : List StandingQuote) (quote : AcceptedQuote)
    → quote.number ≡ length quotes + 1 → 1 ≤ quote.request → quote.request ≤ length requests → live_number_among quotes quote.request ≡ None
    → length quotes < row.quotes → quote.quantity + sum_by live_quantity quotes ≤ row.exposure
    → Stands row requests quotes → Stands row requests (quotes ++ standing_quote quote [] ∷ [])
stands_quoted row requests quotes quote number first last alone room exposure stands = record {
  sound = sound_quoted requests quotes quote number first last alone stands.sound;
  within = rw (sum_by-append live_quantity quotes (standing_quote quote [] ∷ [])) (omega arith);
  few = omega (arith, length-append quotes (standing_quote quote [] ∷ []));
}

pub accepted_stands : (row : DealerRow) (book : DealerBook) (quote : AcceptedQuote) → Fits row book.requests book.quotes quote None → StandsIn row book → StandsIn row (book_after book (Quoted quote))
accepted_stands row book quote fits stands = subst (λ (b : DealerBook). StandsIn row b) (sym (quoted_book book quote))
    (stands_quoted row book.requests book.quotes quote fits.number_is fits.from_first fits.to_last fits.replaced_is fits.room fits.exposure stands)

-- A quote in the place of another.

pub replaced_stands : (row : DealerRow) (book : DealerBook) (quote : AcceptedQuote) (replaced : ℕ) (how : Withdrawal) → Fits row book.requests book.quotes quote (Some replaced) → StandsIn row book
    → StandsIn row (book_after (book_after book (Withdrawn replaced how)) (Quoted quote))
replaced_stands row book quote replaced how fits stands =
    let after : List StandingQuote = map (ended_at replaced (end.Withdrawn how)) book.quotes in
    let many : length after ≡ length book.quotes = length-map book.quotes (ended_at replaced (end.Withdrawn how)) in
    let number : quote.number ≡ length after + 1 = fits.number_is ∙ ap (λ (n : ℕ). n + 1) (sym many) in
    let room : length after < row.quotes = subst (λ (n : ℕ). n < row.quotes) (sym many) fits.room in
    let exposure : quote.quantity + sum_by live_quantity after ≤ row.exposure = subst (λ (n : ℕ). quote.quantity + n ≤ row.exposure) (sym (sum_beside book.quotes replaced (end.Withdrawn how))) fits.exposure in
    let kept : Stands row book.requests after = stands_changed row book.requests book.quotes (ended_at replaced (end.Withdrawn how)) (ended_keeps replaced (end.Withdrawn how)) (ended_lives replaced (end.Withdrawn how)) stands in
    subst (λ (b : DealerBook). StandsIn row (book_after b (Quoted quote))) (sym (withdrawn_book book replaced how))
    (subst (λ (b : DealerBook). StandsIn row b) (sym (quoted_book (record book { quotes = after }) quote))
    (stands_quoted row book.requests after quote number fits.from_first fits.to_last
    (replaced_none book.requests book.quotes quote.request replaced (end.Withdrawn how) stands.sound fits.replaced_is) room exposure kept))
