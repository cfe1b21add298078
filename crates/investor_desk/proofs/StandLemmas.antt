-- What every fact keeps at a desk: a sound book, and the requests and the open ones within the
-- limits of the investor's row.
use Rattle.std.proofs.Common.{◌≡◌, ◌<◌, ◌≤◌, ℕ, ◌+◌, Bool, true, false, ◌==◌, cond, List, [], ◌∷◌}
use Rattle.std.proofs.Common.{◌++◌, length, map, find, Option, Some, None, is_none, inl, inr, refl}
use Rattle.std.proofs.Common.{sym, ap, subst, ◌∙◌, arith}
use Rattle.std.specs.List.{count_by}
use Rattle.std.proofs.lemmas.Option.{none-some}
use Rattle.std.proofs.lemmas.List.{length-append, length-map}
use Rattle.std.proofs.lemmas.List.Sums.{sum_by-append, sum_by-cons}
use Rattle.venue_rows.specs.Texts.{same_text}
use Rattle.investor_desk.specs.InvestorFacts.{Asked, Offered, Gone, Closed, InvestorBook}
use Rattle.investor_desk.specs.InvestorFacts.{StandingRequest, standing_request, is_open}
use Rattle.investor_desk.specs.InvestorFacts.{request_with_id}
use Rattle.investor_desk.specs.InvestorRules.{InvestorMarket}
use Rattle.investor_desk.specs.BookChanges.{IsAccepted, IsSound, FitsBook, FitsOffer, book_after}
use Rattle.investor_desk.specs.BookChanges.{at_number, closed_by, without_some, with_offer}
use Rattle.investor_desk.specs.declared.standing.AcceptedRequest.{AcceptedRequest}
use Rattle.investor_desk.specs.declared.standing.RequestClose.{RequestClose}
use Rattle.investor_desk.specs.declared.standing.ShownOffer.{ShownOffer}
use Rattle.investor_desk.proofs.BookLemmas.{asked_book, offered_book, gone_book, closed_book}
use Rattle.investor_desk.proofs.ListLemmas.{mapped_at, pushed_at}

-- what stands at a desk
pub record Stands (market : InvestorMarket) (requests : List StandingRequest) (offers : List ShownOffer) : Type 0 where
  pub sound : IsSound requests offers
  pub few : length requests ≤ market.row.requests
  pub few_open : count_by is_open requests ≤ market.row.open_limit

abbrev pub StandsIn : InvestorMarket → InvestorBook → Type 0
StandsIn market book = Stands market book.requests book.offers

-- a request that can be accepted
pub record Fits (market : InvestorMarket) (requests : List StandingRequest) (request : AcceptedRequest) : Type 0 where
  pub number_is : request.number ≡ length requests + 1
  pub id_is_new : find (λ own. same_text own.request.id request.id) requests ≡ None
  pub room : length requests < market.row.requests
  pub room_open : count_by is_open requests < market.row.open_limit

-- so the index takes it
pub fits_book : (market : InvestorMarket) (book : InvestorBook) (request : AcceptedRequest) → Fits market book.requests request → FitsBook book request
unfolding request_with_id
fits_book market book request fits = record {
  number_is = fits.number_is;
  id_is_new = fits.id_is_new;
  few = let room = fits.room in let most = market.row.requests_to in omega arith;
}

-- a book without facts
pub stands_empty : (market : InvestorMarket) → Stands market [] []
stands_empty market = record {
  sound = record {
    requests_numbered = λ k own at. absurd (none-some own at);
    offers_numbered = λ k shown at. absurd (none-some shown at);
    offers_answer = λ k shown at. absurd (none-some shown at);
  };
  few = omega arith;
  few_open = omega arith;
}

-- Changes of requests that keep what was accepted.

pub request_kept : (b : Bool) (x y : StandingRequest) → x.request ≡ y.request → (cond b x y).request ≡ y.request
request_kept true x y e = e
request_kept false x y e = refl

pub closed_keeps : (number : ℕ) (close : RequestClose) (own : StandingRequest) → (at_number number (closed_by close) own).request ≡ own.request
closed_keeps number close own = request_kept (number == own.request.number) (closed_by close own) own refl

pub without_keeps : (number : ℕ) (quote : Option ℕ) (own : StandingRequest) → (at_number number (without_some quote) own).request ≡ own.request
without_keeps number quote own = request_kept (number == own.request.number) (without_some quote own) own refl

pub offer_keeps : (number : ℕ) (shown : ShownOffer) (own : StandingRequest) → (at_number number (with_offer shown) own).request ≡ own.request
offer_keeps number shown own = request_kept (number == own.request.number) (with_offer shown own) own refl

pub open_kept : (b : Bool) (x y : StandingRequest) → x.close ≡ y.close → is_open (cond b x y) ≡ is_open y
open_kept true x y e = ap (λ (c : Option RequestClose). is_none c) e
open_kept false x y e = refl

pub without_opens : (number : ℕ) (quote : Option ℕ) (own : StandingRequest) → is_open (at_number number (without_some quote) own) ≡ is_open own
without_opens number quote own = open_kept (number == own.request.number) (without_some quote own) own refl

pub offer_opens : (number : ℕ) (shown : ShownOffer) (own : StandingRequest) → is_open (at_number number (with_offer shown) own) ≡ is_open own
offer_opens number shown own = open_kept (number == own.request.number) (with_offer shown own) own refl

-- a request that is closed is not open
closed_counts : (b : Bool) (close : RequestClose) (was : Option RequestClose) (own : StandingRequest) → own.close ≡ was → cond (is_open (cond b (closed_by close own) own)) 1 0 ≤ cond (is_open own) 1 0
closed_counts true close None own e = rw e (omega arith)
closed_counts true close (Some how) own e = rw e (omega arith)
closed_counts false close was own e = omega arith

-- how many are open, where none begins to be
pub count_mapped : (f : StandingRequest → StandingRequest) → ((own : StandingRequest) → cond (is_open (f own)) 1 0 ≤ cond (is_open own) 1 0) → (requests : List StandingRequest)
    → count_by is_open (map f requests) ≤ count_by is_open requests
count_mapped f less [] = omega arith
count_mapped f less (own ∷ requests) =
    let first = less own in
    let rest = count_mapped f less requests in
    rw (sum_by-cons (λ (r : StandingRequest). cond (is_open r) 1 0) (f own) (map f requests), sum_by-cons (λ (r : StandingRequest). cond (is_open r) 1 0) own requests) (omega arith)

-- what stands after such a change
pub sound_mapped : (f : StandingRequest → StandingRequest) (requests : List StandingRequest) (offers : List ShownOffer) → ((own : StandingRequest) → (f own).request ≡ own.request) → IsSound requests offers → IsSound (map f requests) offers
sound_mapped f requests offers keeps sound = record {
  requests_numbered = λ k own at.
      let was = mapped_at f requests k own at in
      ap (λ (r : StandingRequest). r.request.number) (sym was.2) ∙ ap (λ (r : AcceptedRequest). r.number) (keeps was.0) ∙ sound.requests_numbered k was.0 was.1;
  offers_numbered = sound.offers_numbered;
  offers_answer = λ k shown at. subst (λ (n : ℕ). IsAccepted n shown.request) (sym (length-map requests f)) (sound.offers_answer k shown at);
}

stands_mapped : (market : InvestorMarket) (f : StandingRequest → StandingRequest) (requests : List StandingRequest) (offers : List ShownOffer) → ((own : StandingRequest) → (f own).request ≡ own.request)
    → ((own : StandingRequest) → cond (is_open (f own)) 1 0 ≤ cond (is_open own) 1 0) → Stands market requests offers → Stands market (map f requests) offers
stands_mapped market f requests offers keeps less stands = record {
  sound = sound_mapped f requests offers keeps stands.sound;
  few = subst (λ (n : ℕ). n ≤ market.row.requests) (sym (length-map requests f)) stands.few;
  few_open = let fewer = count_mapped f less requests in let few = stands.few_open in omega arith;
}

-- a quote more
sound_offered : (requests : List StandingRequest) (offers : List ShownOffer) (shown : ShownOffer) → shown.number ≡ length offers + 1 → IsAccepted (length requests) shown.request → IsSound requests offers → IsSound requests (offers ++ shown ∷ [])
sound_offered requests offers shown number accepted sound = record {
  requests_numbered = sound.requests_numbered;
  offers_numbered = λ k other at. elim (pushed_at offers shown k other at) [
    | inl there ↦ sound.offers_numbered k other there
    | inr p ↦ ap (λ (s : ShownOffer). s.number) (sym p.1) ∙ number ∙ ap (λ (n : ℕ). n + 1) (sym p.0)
  ];
  offers_answer = λ k other at. elim (pushed_at offers shown k other at) [
    | inl there ↦ sound.offers_answer k other there
    | inr p ↦ subst (λ (s : ShownOffer). IsAccepted (length requests) s.request) p.1 accepted
  ];
}

-- a request more
sound_asked : (requests : List StandingRequest) (offers : List ShownOffer) (own : StandingRequest) → own.request.number ≡ length requests + 1 → IsSound requests offers → IsSound (requests ++ own ∷ []) offers
sound_asked requests offers own number sound = record {
  requests_numbered = λ k other at. elim (pushed_at requests own k other at) [
    | inl there ↦ sound.requests_numbered k other there
    | inr p ↦ ap (λ (s : StandingRequest). s.request.number) (sym p.1) ∙ number ∙ ap (λ (n : ℕ). n + 1) (sym p.0)
  ];
  offers_numbered = sound.offers_numbered;
  offers_answer = λ k shown at.
      let was = sound.offers_answer k shown at in
      let more = length-append requests (own ∷ []) in
      record { from_first = was.from_first; to_last = let last = was.to_last in omega arith };
}

count_asked : (requests : List StandingRequest) (request : AcceptedRequest) → count_by is_open (requests ++ standing_request request [] ∷ []) ≡ count_by is_open requests + 1
count_asked requests request = sum_by-append (λ (r : StandingRequest). cond (is_open r) 1 0) requests (standing_request request [] ∷ []) ∙ omega arith

-- Facts.

pub asked_stands : (market : InvestorMarket) (book : InvestorBook) (request : AcceptedRequest) → Fits market book.requests request → StandsIn market book → StandsIn market (book_after book (Asked request))
asked_stands market book request fits stands = subst (StandsIn market) (sym (asked_book book request)) (record {
  sound = sound_asked book.requests book.offers (standing_request request []) fits.number_is stands.sound;
  few = let more = length-append book.requests (standing_request request [] ∷ []) in let room = fits.room in omega arith;
  few_open = let more = count_asked book.requests request in let room = fits.room_open in omega arith;
})

same_counts : (f : StandingRequest → StandingRequest) → ((own : StandingRequest) → is_open (f own) ≡ is_open own) → (own : StandingRequest) → cond (is_open (f own)) 1 0 ≤ cond (is_open own) 1 0
same_counts f same own = let e : is_open (f own) ≡ is_open own = same own in rw e (omega arith)

pub offered_stands : (market : InvestorMarket) (book : InvestorBook) (shown : ShownOffer) → FitsOffer book shown → StandsIn market book → StandsIn market (book_after book (Offered shown))
offered_stands market book shown fits stands = subst (StandsIn market) (sym (offered_book book shown))
    (let f = at_number shown.request (with_offer shown) in
    let s = stands_mapped market f book.requests book.offers (offer_keeps shown.request shown) (same_counts f (offer_opens shown.request shown)) stands in
    record {
      sound = sound_offered (map f book.requests) book.offers shown fits.number_is (subst (λ (n : ℕ). IsAccepted n shown.request) (sym (length-map book.requests f)) fits.accepted) s.sound;
      few = s.few;
      few_open = s.few_open;
    })

pub gone_stands : (market : InvestorMarket) (book : InvestorBook) (number quote : ℕ) → StandsIn market book → StandsIn market (book_after book (Gone number quote))
gone_stands market book number quote stands = subst (StandsIn market) (sym (gone_book book number quote))
    (stands_mapped market (at_number number (without_some (Some quote))) book.requests book.offers (without_keeps number (Some quote))
    (same_counts (at_number number (without_some (Some quote))) (without_opens number (Some quote))) stands)

pub closed_stands : (market : InvestorMarket) (book : InvestorBook) (number : ℕ) (close : RequestClose) → StandsIn market book → StandsIn market (book_after book (Closed number close))
closed_stands market book number close stands = subst (StandsIn market) (sym (closed_book book number close))
    (stands_mapped market (at_number number (closed_by close)) book.requests book.offers (closed_keeps number close) (λ own. closed_counts (number == own.request.number) close own.close own refl) stands)
