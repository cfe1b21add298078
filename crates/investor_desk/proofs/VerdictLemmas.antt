-- What holds of every verdict on a book that stands: an accepted request fits, a hit and a pass
-- mean a request that was accepted.
use Rattle.std.proofs.Common.{◌≡◌, ◌<◌, ◌≤◌, ℕ, ◌+◌, Bool, true, false, ◌==◌, ◌&&◌, nat_le, nat_lt}
use Rattle.std.proofs.Common.{cond, List, [], ◌∷◌, length, Option, Some, None, is_some, IfSome, All}
use Rattle.std.proofs.Common.{refl, ap, ◌∙◌, arith}
use Rattle.std.specs.List.{count_by}
use Rattle.std.proofs.lemmas.Bool.Decides.{nat_tests}
use Rattle.std.proofs.lemmas.Bool.{not-false}
use Rattle.venue_rows.specs.Texts.{same_text}
use Rattle.venue_rows.specs.declared.bond_rows.BondRow.{BondRow}
use Rattle.market_terms.specs.Checks.{first_refusal}
use Rattle.market_terms.specs.Dealers.{are_distinct, are_askable}
use Rattle.quote_messages.specs.Written.{quote_name}
use Rattle.quote_messages.specs.Arrivals.{investor_arrival}
use Rattle.quote_messages.specs.declared.arrivals.Arrival.{Arrival}
use Rattle.quote_messages.specs.declared.arrivals.Arrival.TheVariants as arrival
use Rattle.quote_messages.specs.declared.requests.QuoteRequest.{QuoteRequest}
use Rattle.quote_messages.specs.declared.requests.QuoteHit.{QuoteHit}
use Rattle.quote_messages.specs.declared.requests.RequestPass.{RequestPass}
use Rattle.quote_messages.specs.declared.requests.InvestorMessage.{InvestorMessage}
use Rattle.quote_messages.specs.declared.requests.InvestorMessage.TheVariants as message
use Rattle.market_terms.specs.declared.rooms.TheConstants.AskedDealers.{MOST}
use Rattle.investor_desk.specs.InvestorFacts.{InvestorBook, StandingRequest, is_open}
use Rattle.investor_desk.specs.InvestorFacts.{expected_number, request_with_id, offer_named}
use Rattle.investor_desk.specs.InvestorRules.{InvestorMarket, request_checks, request_refusal}
use Rattle.investor_desk.specs.InvestorRules.{request_answer, request_verdict, bond_with_id}
use Rattle.investor_desk.specs.InvestorRules.{dealer_numbers, hit_of, hit_verdict, pass_of}
use Rattle.investor_desk.specs.InvestorRules.{pass_verdict, message_verdict, arrival_verdict}
use Rattle.investor_desk.specs.InvestorRules.{investor_verdict}
use Rattle.investor_desk.specs.InvestorOutput.{room_of, verdict_duty}
use Rattle.investor_desk.specs.BookChanges.{IsAccepted}
use Rattle.investor_desk.specs.DeskLaws.{IsOwnRoom, IsOfDay}
use Rattle.investor_desk.specs.declared.refusals.RequestRefusal.{RequestRefusal}
use Rattle.investor_desk.specs.declared.standing.ShownOffer.{ShownOffer}
use Rattle.investor_desk.specs.declared.verdicts.InvestorVerdict.{InvestorVerdict}
use Rattle.investor_desk.specs.declared.verdicts.InvestorVerdict.TheVariants as verdict
use Rattle.investor_desk.proofs.DealerLemmas.{numbers_many, numbers_within}
use Rattle.investor_desk.proofs.ListLemmas.{find_stands, within_from}
use Rattle.investor_desk.proofs.StandLemmas.{StandsIn, Fits}

-- what a request names
pub record NamesDealers (market : InvestorMarket) (dealers : List ℕ) : Type 0 where
  pub askable : are_askable dealers ≡ true
  pub within : All (λ (dealer : ℕ). dealer < length market.dealers) dealers

-- what holds of a verdict
abbrev pub Holds : InvestorMarket → InvestorBook → InvestorVerdict → Type 0
Holds market book (verdict.RequestAccepted id request) = Fits market book.requests request × NamesDealers market request.dealers
Holds market book (verdict.Hits request response word) = IsAccepted (length book.requests) request
Holds market book (verdict.Passes request response) = IsAccepted (length book.requests) request
Holds market book other = Unit {0}

-- Checks that refuse nothing.

abbrev pub NoneHolds : List (Bool × RequestRefusal) → Type 0
NoneHolds [] = Unit {0}
NoneHolds (check ∷ checks) = (check.0 ≡ false) × NoneHolds checks

not_chosen : (b : Bool) (reason : RequestRefusal) (rest : Option RequestRefusal) → cond b (Some reason) rest ≡ None → (b ≡ false) × (rest ≡ None)
not_chosen true reason rest h = cc
not_chosen false reason rest h = (refl, h)

pub none_holds : (checks : List (Bool × RequestRefusal)) → first_refusal checks ≡ None → NoneHolds checks
none_holds [] h = tt
none_holds (check ∷ checks) h =
    let parts = not_chosen check.0 check.1 (first_refusal checks) h in
    (parts.0, none_holds checks parts.1)

no_some : {A : Type 0} (o : Option A) → is_some o ≡ false → o ≡ None
no_some None h = refl
no_some (Some x) h = cc

not_many : (m n : ℕ) → nat_le m n ≡ false → n < m
not_many m n h = grind (arith, nat_tests)

some_named : (n : ℕ) → (n == 0) ≡ false → nat_le 1 n ≡ true
some_named n h = grind (arith, nat_tests)

few_named : (m n : ℕ) → nat_lt m n ≡ false → nat_le n m ≡ true
few_named m n h = grind (arith, nat_tests)

all_three : (a b c : Bool) → a ≡ true → b ≡ true → c ≡ true → ((a && b) && c) ≡ true
all_three a b c x y z = rw (x, y) z

-- what was named may be asked
askable_named : (dealers : List ℕ) (many : ℕ) → length dealers ≡ many → (many == 0) ≡ false → nat_lt MOST many ≡ false → are_distinct dealers ≡ true → are_askable dealers ≡ true
askable_named dealers many same some few distinct =
    all_three (nat_le 1 (length dealers)) (nat_le (length dealers) MOST) (are_distinct dealers)
    (ap (λ (n : ℕ). nat_le 1 n) same ∙ some_named many some) (ap (λ (n : ℕ). nat_le n MOST) same ∙ few_named MOST many few) distinct

-- Requests.

request_fits : (market : InvestorMarket) (book : InvestorBook) (moment : ℕ) (request : QuoteRequest) (bond : BondRow) → request_refusal market book moment request ≡ None
    → Holds market book (request_answer market book moment request (Some bond) None)
unfolding request_refusal request_with_id
request_fits market book moment request bond passed =
    let h = none_holds (request_checks market book moment request) passed in (
      record {
        number_is = refl;
        id_is_new = no_some (request_with_id book request.id) h.0;
        room = not_many market.row.requests (length book.requests) h.1.1.1.1.1.1.1.1.0;
        room_open = not_many market.row.open_limit (count_by is_open book.requests) h.1.1.1.1.1.1.1.1.1.0;
      },
      record {
        askable = askable_named (dealer_numbers market request.dealers) (length request.dealers) (numbers_many market request.dealers h.1.1.1.1.0) h.1.1.1.0 h.1.1.1.1.1.1.0
            (not-false (are_distinct (dealer_numbers market request.dealers)) h.1.1.1.1.1.0);
        within = numbers_within market request.dealers;
      },
    )

request_holds : (market : InvestorMarket) (book : InvestorBook) (moment : ℕ) (request : QuoteRequest) (bond : Option BondRow) (refusal : Option RequestRefusal) → request_refusal market book moment request ≡ refusal
    → Holds market book (request_answer market book moment request bond refusal)
request_holds market book moment request bond (Some reason) is = tt
request_holds market book moment request None None is = tt
request_holds market book moment request (Some bond) None is = request_fits market book moment request bond is

-- Hits and passes.

offer_stands : (market : InvestorMarket) (book : InvestorBook) (name : List ℕ) (shown : ShownOffer) → StandsIn market book → offer_named book name ≡ Some shown → IsAccepted (length book.requests) shown.request
unfolding offer_named
offer_stands market book name shown stands is =
    let here = find_stands (λ (other : ShownOffer). same_text (quote_name other.number) name) book.offers shown is in
    stands.sound.offers_answer here.0 shown here.1

request_stands : (market : InvestorMarket) (book : InvestorBook) (id : List ℕ) (own : StandingRequest) → StandsIn market book → request_with_id book id ≡ Some own → IsAccepted (length book.requests) own.request.number
unfolding request_with_id
request_stands market book id own stands is =
    let here = find_stands (λ (other : StandingRequest). same_text other.request.id id) book.requests own is in
    let number : own.request.number ≡ here.0 + 1 = stands.sound.requests_numbered here.0 own here.1 in
    let inside : here.0 < length book.requests = within_from book.requests here.0 own here.1 in
    record { from_first = omega arith; to_last = omega arith }

hit_holds : (market : InvestorMarket) (book : InvestorBook) (hit : QuoteHit) (found : Option ShownOffer) → ((shown : ShownOffer) → found ≡ Some shown → IsAccepted (length book.requests) shown.request) → Holds market book (hit_of hit found)
hit_holds market book hit None accepted = tt
hit_holds market book hit (Some shown) accepted = accepted shown refl

pass_holds : (market : InvestorMarket) (book : InvestorBook) (pass : RequestPass) (found : Option StandingRequest) → ((own : StandingRequest) → found ≡ Some own → IsAccepted (length book.requests) own.request.number) → Holds market book (pass_of pass found)
pass_holds market book pass None accepted = tt
pass_holds market book pass (Some own) accepted = accepted own refl

-- All messages.

message_holds : (market : InvestorMarket) (book : InvestorBook) (moment : ℕ) (said : InvestorMessage) → StandsIn market book → Holds market book (message_verdict market book moment said)
unfolding request_verdict hit_verdict pass_verdict
message_holds market book moment (message.Request request) stands =
    request_holds market book moment request (bond_with_id market request.bond) (request_refusal market book moment request) refl
message_holds market book moment (message.Hit hit) stands = hit_holds market book hit (offer_named book hit.quote) (λ shown is. offer_stands market book hit.quote shown stands is)
message_holds market book moment (message.Pass pass) stands = pass_holds market book pass (request_with_id book pass.request) (λ own is. request_stands market book pass.request own stands is)

arrival_holds : (market : InvestorMarket) (book : InvestorBook) (moment : ℕ) (came : Arrival InvestorMessage) → StandsIn market book → Holds market book (arrival_verdict market book moment came)
arrival_holds market book moment (arrival.Taken said) stands = message_holds market book moment said stands
arrival_holds market book moment other stands = tt

-- what holds of the verdict on any bytes
pub verdict_holds : (market : InvestorMarket) (book : InvestorBook) (moment : ℕ) (bytes : List ℕ) → StandsIn market book → Holds market book (investor_verdict market book moment bytes)
unfolding investor_verdict
verdict_holds market book moment bytes stands = arrival_holds market book moment (investor_arrival market.date market.row (expected_number book) bytes) stands

-- What is left to be done is of the day.

own_room : (market : InvestorMarket) (number accepted : ℕ) → IsAccepted accepted number → accepted ≤ market.row.requests → IsOwnRoom market (room_of market number)
own_room market number accepted is few = record {
  investor_is = refl;
  from_first = is.from_first;
  to_last = let last = is.to_last in omega arith;
}

pub duty_holds : (market : InvestorMarket) (book : InvestorBook) (moment : ℕ) (given : InvestorVerdict) → StandsIn market book → Holds market book given → IfSome (verdict_duty market moment given) (IsOfDay market)
duty_holds market book moment (verdict.RequestAccepted id request) stands holds = (
  record {
    investor_is = refl;
    from_first = let number = holds.0.number_is in omega arith;
    to_last = let number = holds.0.number_is in let room = holds.0.room in omega arith;
  },
  holds.1.askable,
  holds.1.within,
)
duty_holds market book moment (verdict.Hits request response word) stands holds = own_room market request (length book.requests) holds stands.few
duty_holds market book moment (verdict.Passes request response) stands holds = own_room market request (length book.requests) holds stands.few
duty_holds market book moment other stands holds = tt
