-- How one fact more changes a book, each fact in its own words.
use Rattle.std.proofs.Common.{◌≡◌, ℕ, ◌+◌, Bool, true, false, ◌||◌, ◌==◌, cond, List, [], ◌∷◌, ◌++◌}
use Rattle.std.proofs.Common.{length, map, Option, Some, None, refl, ap, ◌∙◌}
use Rattle.std.specs.Option.{option_or}
use Rattle.std.proofs.lemmas.List.{append-nil}
use Rattle.std.proofs.Math.Bool.{or-false, or-true}
use Rattle.market_terms.specs.declared.asks.Ask.{Ask}
use Rattle.market_terms.specs.declared.closes.Close.{Close}
use Rattle.dealer_desk.specs.DealerFacts.{DealerFact, Came, Shown, Quoted, Withdrawn, Late, Dropped}
use Rattle.dealer_desk.specs.DealerFacts.{Declined, Told, DealerBook, standing_request}
use Rattle.dealer_desk.specs.DealerFacts.{standing_quote}
use Rattle.dealer_desk.specs.BookChanges.{book_after, quote_after, request_after, ended_at, late_at}
use Rattle.dealer_desk.specs.BookChanges.{closed_on, declined_at, told_at}
use Rattle.dealer_desk.specs.declared.accepted.AcceptedQuote.{AcceptedQuote}
use Rattle.dealer_desk.specs.declared.standing.StandingRequest.{StandingRequest}
use Rattle.dealer_desk.specs.declared.standing.StandingQuote.{StandingQuote}
use Rattle.dealer_desk.specs.declared.standing.Withdrawal.{Withdrawal}
use Rattle.dealer_desk.specs.declared.standing.QuoteEnd.{QuoteEnd}
use Rattle.dealer_desk.specs.declared.standing.QuoteEnd.TheVariants as end
use Rattle.dealer_desk.proofs.ListLemmas.{same_map, all_fixed}

pub or_none : (o : Option QuoteEnd) → option_or o None ≡ o
or_none None = refl
or_none (Some how) = refl

-- A quote that a fact leaves as it is, finds lifted, or ends.

same_quote : (own : StandingQuote) → record { quote = own.quote; is_known_lifted = own.is_known_lifted || false; end = option_or own.end None } ≡ own
same_quote own =
    ap (λ (b : Bool). record own { is_known_lifted = b; end = option_or own.end None }) (or-false own.is_known_lifted)
    ∙ ap (λ (e : Option QuoteEnd). record own { end = e }) (or_none own.end)

late_quote : (b : Bool) (own : StandingQuote) → record { quote = own.quote; is_known_lifted = own.is_known_lifted || b; end = option_or own.end None } ≡ cond b (record own { is_known_lifted = true }) own
late_quote true own =
    ap (λ (b : Bool). record own { is_known_lifted = b; end = option_or own.end None }) (or-true own.is_known_lifted)
    ∙ ap (λ (e : Option QuoteEnd). record own { is_known_lifted = true; end = e }) (or_none own.end)
late_quote false own = same_quote own

ended_quote : (b : Bool) (how : QuoteEnd) (own : StandingQuote) → record { quote = own.quote; is_known_lifted = own.is_known_lifted || false; end = option_or own.end (cond b (Some how) None) } ≡ cond b (record own { end = option_or own.end (Some how) }) own
ended_quote true how own = ap (λ (b : Bool). record own { is_known_lifted = b; end = option_or own.end (Some how) }) (or-false own.is_known_lifted)
ended_quote false how own = same_quote own

same_request : (request : StandingRequest) → record { number = request.number; ask = request.ask; is_declined = request.is_declined || false; is_told = request.is_told || false } ≡ request
same_request request =
    ap (λ (b : Bool). record request { is_declined = b; is_told = request.is_told || false }) (or-false request.is_declined)
    ∙ ap (λ (b : Bool). record request { is_told = b }) (or-false request.is_told)

declined_request : (b : Bool) (request : StandingRequest) → record { number = request.number; ask = request.ask; is_declined = request.is_declined || b; is_told = request.is_told || false } ≡ cond b (record request { is_declined = true }) request
declined_request true request =
    ap (λ (b : Bool). record request { is_declined = b; is_told = request.is_told || false }) (or-true request.is_declined)
    ∙ ap (λ (b : Bool). record request { is_declined = true; is_told = b }) (or-false request.is_told)
declined_request false request = same_request request

told_request : (b : Bool) (request : StandingRequest) → record { number = request.number; ask = request.ask; is_declined = request.is_declined || false; is_told = request.is_told || b } ≡ cond b (record request { is_told = true }) request
told_request true request =
    ap (λ (b : Bool). record request { is_declined = b; is_told = request.is_told || true }) (or-false request.is_declined)
    ∙ ap (λ (b : Bool). record request { is_told = b }) (or-true request.is_told)
told_request false request = same_request request

-- All quotes, all requests.

kept_quotes : (f : StandingQuote → StandingQuote) (quotes : List StandingQuote) → ((own : StandingQuote) → f own ≡ own) → map f quotes ≡ quotes
kept_quotes f quotes same = all_fixed f quotes (λ k y at. same y)

kept_requests : (f : StandingRequest → StandingRequest) (requests : List StandingRequest) → ((request : StandingRequest) → f request ≡ request) → map f requests ≡ requests
kept_requests f requests same = all_fixed f requests (λ k y at. same y)

-- Each fact.

-- a book of changed requests and quotes
both_changed : (book : DealerBook) (requests requests2 : List StandingRequest) (quotes quotes2 : List StandingQuote) (used notices : ℕ) → requests ≡ requests2 → quotes ≡ quotes2
    → record { used = used; notices = notices; requests = requests; quotes = quotes } ≡ record book { used = used; notices = notices; requests = requests2; quotes = quotes2 }
both_changed book requests requests2 quotes quotes2 used notices r q =
    ap (λ (rs : List StandingRequest). record book { used = used; notices = notices; requests = rs; quotes = quotes }) r
    ∙ ap (λ (qs : List StandingQuote). record book { used = used; notices = notices; requests = requests2; quotes = qs }) q

same_requests : (fact : DealerFact) (requests : List StandingRequest) → ((request : StandingRequest) → request_after fact request ≡ request) → map (request_after fact) requests ++ [] ≡ requests
same_requests fact requests same = append-nil (map (request_after fact) requests) ∙ kept_requests (request_after fact) requests same

same_quotes : (fact : DealerFact) (quotes : List StandingQuote) → ((own : StandingQuote) → quote_after fact own ≡ own) → map (quote_after fact) quotes ++ [] ≡ quotes
same_quotes fact quotes same = append-nil (map (quote_after fact) quotes) ∙ kept_quotes (quote_after fact) quotes same

pub came_book : (book : DealerBook) (moment : ℕ) (bytes : List ℕ) (used : Bool) → book_after book (Came moment bytes used) ≡ record book { used = cond used (book.used + 1) book.used }
unfolding book_after
came_book book moment bytes used = both_changed book (map (request_after (Came moment bytes used)) book.requests ++ []) book.requests (map (quote_after (Came moment bytes used)) book.quotes ++ []) book.quotes (cond used (book.used + 1) book.used) book.notices
    (same_requests (Came moment bytes used) book.requests same_request) (same_quotes (Came moment bytes used) book.quotes same_quote)

pub dropped_book : (book : DealerBook) (last moment : ℕ) → book_after book (Dropped last moment) ≡ book
unfolding book_after
dropped_book book last moment = both_changed book (map (request_after (Dropped last moment)) book.requests ++ []) book.requests (map (quote_after (Dropped last moment)) book.quotes ++ []) book.quotes book.used book.notices
    (same_requests (Dropped last moment) book.requests same_request) (same_quotes (Dropped last moment) book.quotes same_quote)

pub shown_book : (book : DealerBook) (ask : Ask) (moment : ℕ) → book_after book (Shown ask moment) ≡ record book { requests = book.requests ++ standing_request (length book.requests + 1) ask [] ∷ [] }
unfolding book_after
shown_book book ask moment = both_changed book (map (request_after (Shown ask moment)) book.requests ++ standing_request (length book.requests + 1) ask [] ∷ []) (book.requests ++ standing_request (length book.requests + 1) ask [] ∷ [])
    (map (quote_after (Shown ask moment)) book.quotes ++ []) book.quotes book.used book.notices
    (ap (λ (rs : List StandingRequest). rs ++ standing_request (length book.requests + 1) ask [] ∷ []) (kept_requests (request_after (Shown ask moment)) book.requests same_request))
    (same_quotes (Shown ask moment) book.quotes same_quote)

pub quoted_book : (book : DealerBook) (quote : AcceptedQuote) → book_after book (Quoted quote) ≡ record book { quotes = book.quotes ++ standing_quote quote [] ∷ [] }
unfolding book_after
quoted_book book quote = both_changed book (map (request_after (Quoted quote)) book.requests ++ []) book.requests (map (quote_after (Quoted quote)) book.quotes ++ standing_quote quote [] ∷ []) (book.quotes ++ standing_quote quote [] ∷ []) book.used book.notices
    (same_requests (Quoted quote) book.requests same_request)
    (ap (λ (qs : List StandingQuote). qs ++ standing_quote quote [] ∷ []) (kept_quotes (quote_after (Quoted quote)) book.quotes same_quote))

pub withdrawn_book : (book : DealerBook) (number : ℕ) (how : Withdrawal) → book_after book (Withdrawn number how) ≡ record book { quotes = map (ended_at number (end.Withdrawn how)) book.quotes }
unfolding book_after
withdrawn_book book number how = both_changed book (map (request_after (Withdrawn number how)) book.requests ++ []) book.requests (map (quote_after (Withdrawn number how)) book.quotes ++ []) (map (ended_at number (end.Withdrawn how)) book.quotes) book.used book.notices
    (same_requests (Withdrawn number how) book.requests same_request)
    (append-nil (map (quote_after (Withdrawn number how)) book.quotes) ∙ same_map (quote_after (Withdrawn number how)) (ended_at number (end.Withdrawn how)) book.quotes (λ own. ended_quote (number == own.quote.number) (end.Withdrawn how) own))

pub late_book : (book : DealerBook) (number : ℕ) → book_after book (Late number) ≡ record book { quotes = map (late_at number) book.quotes }
unfolding book_after
late_book book number = both_changed book (map (request_after (Late number)) book.requests ++ []) book.requests (map (quote_after (Late number)) book.quotes ++ []) (map (late_at number) book.quotes) book.used book.notices
    (same_requests (Late number) book.requests same_request)
    (append-nil (map (quote_after (Late number)) book.quotes) ∙ same_map (quote_after (Late number)) (late_at number) book.quotes (λ own. late_quote (number == own.quote.number) own))

pub declined_book : (book : DealerBook) (number : ℕ) → book_after book (Declined number) ≡ record book { requests = map (declined_at number) book.requests }
unfolding book_after
declined_book book number = both_changed book (map (request_after (Declined number)) book.requests ++ []) (map (declined_at number) book.requests) (map (quote_after (Declined number)) book.quotes ++ []) book.quotes book.used book.notices
    (append-nil (map (request_after (Declined number)) book.requests) ∙ same_map (request_after (Declined number)) (declined_at number) book.requests (λ request. declined_request (number == request.number) request))
    (same_quotes (Declined number) book.quotes same_quote)

pub told_book : (book : DealerBook) (number : ℕ) (close : Close) (moment : ℕ) → book_after book (Told number close moment)
    ≡ record book { notices = book.notices + 1; requests = map (told_at number) book.requests; quotes = map (closed_on number close) book.quotes }
unfolding book_after
told_book book number close moment = both_changed book (map (request_after (Told number close moment)) book.requests ++ []) (map (told_at number) book.requests) (map (quote_after (Told number close moment)) book.quotes ++ []) (map (closed_on number close) book.quotes) book.used (book.notices + 1)
    (append-nil (map (request_after (Told number close moment)) book.requests) ∙ same_map (request_after (Told number close moment)) (told_at number) book.requests (λ request. told_request (number == request.number) request))
    (append-nil (map (quote_after (Told number close moment)) book.quotes) ∙ same_map (quote_after (Told number close moment)) (closed_on number close) book.quotes (λ own. ended_quote (number == own.quote.request) (end.Closed close) own))
