-- What holds of every verdict on a book that stands: an accepted quote fits, a cancel names a live
-- quote, and a decline a request that was shown.
use Rattle.std.proofs.Common.{◌≡◌, ◌<◌, ◌≤◌, ℕ, ◌+◌, Bool, true, false, ◌||◌, nat_le, nat_lt, cond}
use Rattle.std.proofs.Common.{List, [], ◌∷◌, length, Option, Some, None, is_none, is_some, IfSome}
use Rattle.std.proofs.Common.{slice_get, refl, arith}
use Rattle.std.proofs.lemmas.Bool.Decides.{nat_tests}
use Rattle.venue_rows.specs.Texts.{same_text}
use Rattle.venue_rows.specs.declared.dealer_rows.DealerRow.{DealerRow}
use Rattle.market_terms.specs.Checks.{first_refusal}
use Rattle.quote_messages.specs.Written.{request_name}
use Rattle.quote_messages.specs.Arrivals.{dealer_arrival}
use Rattle.quote_messages.specs.declared.arrivals.Arrival.{Arrival}
use Rattle.quote_messages.specs.declared.arrivals.Arrival.TheVariants as arrival
use Rattle.quote_messages.specs.declared.quotes.Quote.{Quote}
use Rattle.quote_messages.specs.declared.quotes.CancelScope.{CancelScope}
use Rattle.quote_messages.specs.declared.quotes.CancelScope.TheVariants as cancels
use Rattle.quote_messages.specs.declared.quotes.DealerMessage.{DealerMessage}
use Rattle.quote_messages.specs.declared.quotes.DealerMessage.TheVariants as message
use Rattle.quote_word.specs.declared.settled.Settled.{Settled}
use Rattle.quote_word.specs.declared.settled.Settled.TheVariants as settled
use Rattle.dealer_desk.specs.DealerFacts.{DealerBook, expected_number, request_named}
use Rattle.dealer_desk.specs.DealerFacts.{quotes_accepted, quote_with_id, live_quote_on}
use Rattle.dealer_desk.specs.DealerFacts.{exposure_beside, is_withdrawal, is_closing, quote_to_drop}
use Rattle.dealer_desk.specs.DealerRules.{quote_checks, quote_refusal, quote_answer, quote_verdict}
use Rattle.dealer_desk.specs.DealerRules.{cancel_checks, cancel_answer, cancel_of, cancel_verdict}
use Rattle.dealer_desk.specs.DealerRules.{decline_checks, decline_answer, decline_verdict}
use Rattle.dealer_desk.specs.DealerRules.{message_verdict, arrival_verdict, dealer_verdict}
use Rattle.dealer_desk.specs.DealerOutput.{word_asked}
use Rattle.dealer_desk.specs.BookChanges.{IsLiveNumber}
use Rattle.dealer_desk.specs.RuleCuts.{IsLawfulNote, note_of}
use Rattle.dealer_desk.specs.declared.refusals.QuoteRefusal.{QuoteRefusal}
use Rattle.dealer_desk.specs.declared.refusals.CancelRefusal.{CancelRefusal}
use Rattle.dealer_desk.specs.declared.refusals.CancelRefusal.TheVariants as no_cancel
use Rattle.dealer_desk.specs.declared.refusals.DeclineRefusal.{DeclineRefusal}
use Rattle.dealer_desk.specs.declared.standing.StandingRequest.{StandingRequest}
use Rattle.dealer_desk.specs.declared.standing.StandingQuote.{StandingQuote}
use Rattle.dealer_desk.specs.declared.standing.QuoteEnd.{QuoteEnd}
use Rattle.dealer_desk.specs.declared.standing.QuoteEnd.TheVariants as end
use Rattle.dealer_desk.specs.declared.verdicts.DealerVerdict.{DealerVerdict}
use Rattle.dealer_desk.specs.declared.verdicts.DealerVerdict.TheVariants as verdict
use Rattle.dealer_desk.proofs.ListLemmas.{find_stands, within_from}
use Rattle.dealer_desk.proofs.TableClosing.{live_stands}
use Rattle.dealer_desk.proofs.StandLemmas.{Stands, StandsIn, Fits, fits_book}

-- a number of a request that was shown

abbrev pub IsShown : DealerBook → ℕ → Type 0
IsShown book number = (1 ≤ number) × (number ≤ length book.requests)

-- what holds of a verdict
abbrev pub Holds : DealerRow → DealerBook → DealerVerdict → Type 0
Holds row book (verdict.QuoteAccepted request id quote replaced) = Fits row book.requests book.quotes quote replaced
Holds row book (verdict.CancelAccepted id quote request) = IsLiveNumber book.quotes quote × IsShown book request
Holds row book (verdict.DeclineAccepted request number) = IsShown book number
Holds row book other = Unit {0}

-- Checks that refuse nothing.

abbrev pub NoneHolds : {Reason : Type 0} → List (Bool × Reason) → Type 0
NoneHolds [] = Unit {0}
NoneHolds (check ∷ checks) = (check.0 ≡ false) × NoneHolds checks

not_chosen : {Reason : Type 0} (b : Bool) (reason : Reason) (rest : Option Reason) → cond b (Some reason) rest ≡ None → (b ≡ false) × (rest ≡ None)
not_chosen true reason rest h = cc
not_chosen false reason rest h = (refl, h)

pub none_holds : {Reason : Type 0} (checks : List (Bool × Reason)) → first_refusal checks ≡ None → NoneHolds checks
none_holds [] h = tt
none_holds (check ∷ checks) h =
    let parts = not_chosen check.0 check.1 (first_refusal checks) h in
    (parts.0, none_holds checks parts.1)

no_some : {A : Type 0} (o : Option A) → is_some o ≡ false → o ≡ None
no_some None h = refl
no_some (Some x) h = cc

-- What is found stands in the book.

request_shown : (row : DealerRow) (book : DealerBook) (name : List ℕ) (shown : StandingRequest) → StandsIn row book → request_named book name ≡ Some shown → IsShown book shown.number
unfolding request_named
request_shown row book name shown stands is =
    let here = find_stands (λ (request : StandingRequest). same_text (request_name request.number) name) book.requests shown is in
    let number : shown.number ≡ here.0 + 1 = stands.sound.requests_numbered here.0 shown here.1 in
    let inside : here.0 < length book.requests = within_from book.requests here.0 shown here.1 in
    let first : 1 ≤ shown.number = omega arith in
    let last : shown.number ≤ length book.requests = omega arith in
    (first, last)

quote_stands : (book : DealerBook) (id : List ℕ) (own : StandingQuote) → quote_with_id book id ≡ Some own → (k : ℕ) × (slice_get book.quotes k ≡ Some own)
unfolding quote_with_id
quote_stands book id own is =
    let here = find_stands (λ (other : StandingQuote). same_text other.quote.id id) book.quotes own is in
    (here.0, here.1)

-- Quotes.

not_many : (m n : ℕ) → nat_le m n ≡ false → n < m
not_many m n h = grind (arith, nat_tests)

not_more : (m n : ℕ) → nat_lt m n ≡ false → n ≤ m
not_more m n h = grind (arith, nat_tests)

quote_fits : (row : DealerRow) (book : DealerBook) (moment : ℕ) (quote : Quote) (shown : StandingRequest) → IsShown book shown.number → quote_refusal row book moment quote (Some shown) ≡ None
    → Holds row book (quote_answer book moment quote (Some shown) None)
unfolding quote_refusal quote_with_id live_quote_on exposure_beside
quote_fits row book moment quote shown range passed =
    let h = none_holds (quote_checks row book moment quote (Some shown)) passed in
    record {
      number_is = refl;
      id_is_new = no_some (quote_with_id book quote.id) h.1.1.1.1.1.1.1.1.1.0;
      from_first = range.0;
      to_last = range.1;
      replaced_is = refl;
      room = not_many row.quotes (length book.quotes) h.1.1.1.1.1.1.1.1.1.1.1.0;
      exposure = not_more row.exposure _ h.1.1.1.1.1.1.1.1.1.1.1.1.0;
    }

quote_holds : (row : DealerRow) (book : DealerBook) (moment : ℕ) (quote : Quote) (found : Option StandingRequest) (refusal : Option QuoteRefusal)
    → ((shown : StandingRequest) → found ≡ Some shown → IsShown book shown.number) → quote_refusal row book moment quote found ≡ refusal → Holds row book (quote_answer book moment quote found refusal)
quote_holds row book moment quote found (Some reason) range is = tt
quote_holds row book moment quote None None range is = tt
quote_holds row book moment quote (Some shown) None range is = quote_fits row book moment quote shown (range shown refl) is

-- Cancels.

live_end : (e : Option QuoteEnd) (known : Bool) → is_withdrawal e ≡ false → (is_closing e || known) ≡ false → is_none e ≡ true
live_end None known w c = refl
live_end (Some (end.Withdrawn by)) known w c = cc
live_end (Some (end.Closed close)) known w c = cc

cancel_answered : (row : DealerRow) (book : DealerBook) (id : List ℕ) (own : StandingQuote) (k : ℕ) (refusal : Option CancelRefusal) → StandsIn row book → slice_get book.quotes k ≡ Some own
    → first_refusal (cancel_checks own) ≡ refusal → Holds row book (cancel_answer id own refusal)
cancel_answered row book id own k (Some reason) stands at is = tt
cancel_answered row book id own k None stands at is =
    let h = none_holds (cancel_checks own) is in (
      record {
        own = own;
        place = k;
        number_is = stands.sound.quotes_numbered k own at;
        stands = at;
        live = live_end own.end own.is_known_lifted h.0 h.1.0;
      },
      (stands.sound.from_first k own at, stands.sound.to_last k own at),
    )

cancel_holds : (row : DealerRow) (book : DealerBook) (id : List ℕ) (found : Option StandingQuote) → StandsIn row book → ((own : StandingQuote) → found ≡ Some own → (k : ℕ) × (slice_get book.quotes k ≡ Some own))
    → Holds row book (cancel_of id found)
cancel_holds row book id None stands there = tt
cancel_holds row book id (Some own) stands there = let here = there own refl in cancel_answered row book id own here.0 (first_refusal (cancel_checks own)) stands here.1 refl

all_holds : (row : DealerRow) (book : DealerBook) (id : Option (List ℕ)) (b : Bool) (last : ℕ) → Holds row book (cond b (verdict.CancelRefused id no_cancel.NothingToCancel) (verdict.DropsFollow last))
all_holds row book id true last = tt
all_holds row book id false last = tt

scope_holds : (row : DealerRow) (book : DealerBook) (scope : CancelScope) → StandsIn row book → Holds row book (cancel_verdict book scope)
unfolding cancel_verdict
scope_holds row book (cancels.One id) stands = cancel_holds row book id (quote_with_id book id) stands (quote_stands book id)
scope_holds row book (cancels.All id) stands = all_holds row book id (is_none (quote_to_drop book (quotes_accepted book))) (quotes_accepted book)
scope_holds row book (cancels.Other cancel_type id) stands = tt

-- Declines.

decline_holds : (row : DealerRow) (book : DealerBook) (name : List ℕ) (found : Option StandingRequest) (refusal : Option DeclineRefusal)
    → ((shown : StandingRequest) → found ≡ Some shown → IsShown book shown.number) → Holds row book (decline_answer name found refusal)
decline_holds row book name found (Some reason) range = tt
decline_holds row book name None None range = tt
decline_holds row book name (Some shown) None range = range shown refl

-- All messages.

message_holds : (row : DealerRow) (book : DealerBook) (moment : ℕ) (said : DealerMessage) → StandsIn row book → Holds row book (message_verdict row book moment said)
unfolding quote_verdict decline_verdict
message_holds row book moment (message.Quote quote) stands =
    quote_holds row book moment quote (request_named book quote.request) (quote_refusal row book moment quote (request_named book quote.request)) (λ shown is. request_shown row book quote.request shown stands is) refl
message_holds row book moment (message.Cancel cancel) stands = scope_holds row book cancel.scope stands
message_holds row book moment (message.Decline decline) stands =
    decline_holds row book decline.request (request_named book decline.request) (first_refusal (decline_checks book (request_named book decline.request))) (λ shown is. request_shown row book decline.request shown stands is)

arrival_holds : (row : DealerRow) (book : DealerBook) (moment : ℕ) (came : Arrival DealerMessage) → StandsIn row book → Holds row book (arrival_verdict row book moment came)
arrival_holds row book moment arrival.Dropped stands = tt
arrival_holds row book moment (arrival.OutOfSequence reject) stands = tt
arrival_holds row book moment (arrival.Rejected reject) stands = tt
arrival_holds row book moment (arrival.Taken said) stands = message_holds row book moment said stands

-- what holds of the verdict on any bytes
pub verdict_holds : (date : List ℕ) (row : DealerRow) (book : DealerBook) (moment : ℕ) (bytes : List ℕ) → StandsIn row book → Holds row book (dealer_verdict date row book moment bytes)
unfolding dealer_verdict
verdict_holds date row book moment bytes stands = arrival_holds row book moment (dealer_arrival date row (expected_number book) bytes) stands

-- So it is lawful, and what is noted of it.

pub lawful_note : (row : DealerRow) (book : DealerBook) (given : DealerVerdict) (settlement : Option Settled) → StandsIn row book → Holds row book given → IsLawfulNote book (note_of given settlement)
lawful_note row book (verdict.QuoteAccepted request id quote None) settlement stands holds = fits_book row book quote None holds
lawful_note row book (verdict.QuoteAccepted request id quote (Some replaced)) (Some settled.Withdrawn) stands holds = fits_book row book quote (Some replaced) holds
lawful_note row book (verdict.QuoteAccepted request id quote (Some replaced)) (Some settled.Lifted) stands holds = live_stands book.requests book.quotes quote.request replaced stands.sound holds.replaced_is
lawful_note row book (verdict.QuoteAccepted request id quote (Some replaced)) None stands holds = tt
lawful_note row book (verdict.CancelAccepted id quote request) (Some settled.Withdrawn) stands holds = holds.0
lawful_note row book (verdict.CancelAccepted id quote request) (Some settled.Lifted) stands holds = holds.0
lawful_note row book (verdict.CancelAccepted id quote request) None stands holds = tt
lawful_note row book (verdict.DeclineAccepted request number) settlement stands holds = holds
lawful_note row book other settlement stands holds = tt

-- The quote whose word is asked is one of the day's.

pub live_within : (row : DealerRow) (requests : List StandingRequest) (quotes : List StandingQuote) (number : ℕ) → Stands row requests quotes → IsLiveNumber quotes number → (1 ≤ number) × (number ≤ row.quotes)
live_within row requests quotes number stands live =
    let inside : live.place < length quotes = within_from quotes live.place live.own live.stands in
    let is : number ≡ live.place + 1 = live.number_is in
    let few : length quotes ≤ row.quotes = stands.few in
    let first : 1 ≤ number = omega arith in
    let last : number ≤ row.quotes = omega arith in
    (first, last)

pub asked_within : (row : DealerRow) (book : DealerBook) (given : DealerVerdict) → StandsIn row book → Holds row book given → IfSome (word_asked given) (λ quote. (1 ≤ quote) × (quote ≤ row.quotes))
asked_within row book (verdict.QuoteAccepted request id quote None) stands holds = tt
asked_within row book (verdict.QuoteAccepted request id quote (Some replaced)) stands holds = live_within row book.requests book.quotes replaced stands (live_stands book.requests book.quotes quote.request replaced stands.sound holds.replaced_is)
asked_within row book (verdict.CancelAccepted id quote request) stands holds = live_within row book.requests book.quotes quote stands holds.0
asked_within row book other stands holds = tt
