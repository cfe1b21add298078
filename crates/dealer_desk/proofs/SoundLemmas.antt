-- What keeps a book sound: requests and quotes numbered from 1, each quote on a request of the
-- book, at most one live quote on a request.
use Rattle.std.proofs.Common.{◌≡◌, ◌≤◌, ℕ, ◌+◌, Bool, true, false, ◌&&◌, ◌==◌, List, [], ◌∷◌, ◌++◌}
use Rattle.std.proofs.Common.{length, map, filter, find, Option, Some, None, option_map, inl, inr}
use Rattle.std.proofs.Common.{refl, sym, ap, subst, ◌∙◌, arith}
use Rattle.std.proofs.lemmas.Bool.{eqb-true}
use Rattle.std.proofs.lemmas.Option.{none-some}
use Rattle.std.proofs.lemmas.List.Elements.{filter-append}
use Rattle.std.proofs.lemmas.List.{length-append, length-map}
use Rattle.market_terms.specs.declared.asks.Ask.{Ask}
use Rattle.dealer_desk.specs.DealerFacts.{is_live, is_live_on, standing_request, standing_quote}
use Rattle.dealer_desk.specs.BookChanges.{IsSound}
use Rattle.dealer_desk.specs.DealerTable.{live_number_among}
use Rattle.dealer_desk.specs.declared.accepted.AcceptedQuote.{AcceptedQuote}
use Rattle.dealer_desk.specs.declared.standing.StandingRequest.{StandingRequest}
use Rattle.dealer_desk.specs.declared.standing.StandingQuote.{StandingQuote}
use Rattle.dealer_desk.proofs.ListLemmas.{pushed_at, mapped_at, fewer_pass, filter_none}

-- an empty book is sound
pub sound_empty : IsSound [] []
sound_empty = record {
  requests_numbered = λ k request at. absurd (none-some request at);
  quotes_numbered = λ k own at. absurd (none-some own at);
  from_first = λ k own at. absurd (none-some own at);
  to_last = λ k own at. absurd (none-some own at);
  lone = λ request. omega arith;
}

-- two tests that hold together
both_hold : (a b c d : Bool) → (a ≡ true → c ≡ true) → b ≡ d → (a && b) ≡ true → (c && d) ≡ true
both_hold true b true d only same h = sym same ∙ h
both_hold true b false d only same h = let never : false ≡ true = only refl in cc
both_hold false b c d only same h = cc

-- a quote that is live on a request after a change was so before
live_still : (before after : StandingQuote) (request : ℕ) → after.quote ≡ before.quote → (is_live after ≡ true → is_live before ≡ true)
    → is_live_on request after ≡ true → is_live_on request before ≡ true
live_still before after request same only h = both_hold (is_live after) (after.quote.request == request) (is_live before) (before.quote.request == request) only (ap (λ q. q.request == request) same) h

-- a change of quotes by which none begins to live
pub sound_mapped : (requests : List StandingRequest) (quotes : List StandingQuote) (f : StandingQuote → StandingQuote)
    → ((own : StandingQuote) → (f own).quote ≡ own.quote) → ((own : StandingQuote) → is_live (f own) ≡ true → is_live own ≡ true)
    → IsSound requests quotes → IsSound requests (map f quotes)
sound_mapped requests quotes f same only sound = record {
  requests_numbered = sound.requests_numbered;
  quotes_numbered = λ k own at. let was = mapped_at f quotes k own at in
      ap (λ (q : StandingQuote). q.quote.number) (sym was.2) ∙ ap (λ (q : AcceptedQuote). q.number) (same was.0) ∙ sound.quotes_numbered k was.0 was.1;
  from_first = λ k own at. let was = mapped_at f quotes k own at in
      subst (λ (n : ℕ). 1 ≤ n) (ap (λ (q : AcceptedQuote). q.request) (sym (same was.0)) ∙ ap (λ (q : StandingQuote). q.quote.request) was.2) (sound.from_first k was.0 was.1);
  to_last = λ k own at. let was = mapped_at f quotes k own at in
      subst (λ (n : ℕ). n ≤ length requests) (ap (λ (q : AcceptedQuote). q.request) (sym (same was.0)) ∙ ap (λ (q : StandingQuote). q.quote.request) was.2) (sound.to_last k was.0 was.1);
  lone = λ request. let fewer = fewer_pass (is_live_on request) f (λ own. live_still own (f own) request (same own) (only own)) quotes in
      let few = sound.lone request in omega arith;
}

-- a change of requests that keeps their numbers
pub sound_requests : (requests : List StandingRequest) (quotes : List StandingQuote) (f : StandingRequest → StandingRequest)
    → ((request : StandingRequest) → (f request).number ≡ request.number)
    → IsSound requests quotes → IsSound (map f requests) quotes
sound_requests requests quotes f same sound = record {
  requests_numbered = λ k request at. let was = mapped_at f requests k request at in
      ap (λ (r : StandingRequest). r.number) (sym was.2) ∙ same was.0 ∙ sound.requests_numbered k was.0 was.1;
  quotes_numbered = sound.quotes_numbered;
  from_first = sound.from_first;
  to_last = λ k own at. let most = sound.to_last k own at in omega (arith, length-map requests f);
  lone = sound.lone;
}

-- a request behind the others
pub sound_shown : (requests : List StandingRequest) (quotes : List StandingQuote) (ask : Ask)
    → IsSound requests quotes → IsSound (requests ++ standing_request (length requests + 1) ask [] ∷ []) quotes
sound_shown requests quotes ask sound = record {
  requests_numbered = λ k request at. elim (pushed_at requests (standing_request (length requests + 1) ask []) k request at) [
    | inl was ↦ sound.requests_numbered k request was
    | inr new ↦ ap (λ (r : StandingRequest). r.number) (sym new.1) ∙ ap (λ (n : ℕ). n + 1) (sym new.0)
  ];
  quotes_numbered = sound.quotes_numbered;
  from_first = sound.from_first;
  to_last = λ k own at. let most = sound.to_last k own at in omega (arith, length-append requests (standing_request (length requests + 1) ask [] ∷ []));
  lone = sound.lone;
}

no_number : (o : Option StandingQuote) → option_map (λ own. own.quote.number) o ≡ None → o ≡ None
no_number None h = refl
no_number (Some own) h = absurd (none-some own.quote.number (sym h))

-- none is found among these
pub none_live : (quotes : List StandingQuote) (request : ℕ) → live_number_among quotes request ≡ None → find (is_live_on request) quotes ≡ None
none_live quotes request h = no_number (find (is_live_on request) quotes) h

-- a quote behind the others, on a request without a live one
lone_pushed : (quotes : List StandingQuote) (quote : AcceptedQuote) (request : ℕ) (b : Bool) → (quote.request == request) ≡ b
    → length (filter (is_live_on request) quotes) ≤ 1 → (b ≡ true → filter (is_live_on request) quotes ≡ [])
    → length (filter (is_live_on request) (quotes ++ standing_quote quote [] ∷ [])) ≤ 1
lone_pushed quotes quote request true is few none =
    rw (filter-append (is_live_on request) quotes (standing_quote quote [] ∷ []), is, none refl) (omega arith)
lone_pushed quotes quote request false is few none =
    rw (filter-append (is_live_on request) quotes (standing_quote quote [] ∷ []), is)
    (omega (arith, length-append (filter (is_live_on request) quotes) []))

pub sound_quoted : (requests : List StandingRequest) (quotes : List StandingQuote) (quote : AcceptedQuote)
    → quote.number ≡ length quotes + 1 → 1 ≤ quote.request → quote.request ≤ length requests → live_number_among quotes quote.request ≡ None
    → IsSound requests quotes → IsSound requests (quotes ++ standing_quote quote [] ∷ [])
sound_quoted requests quotes quote number first last alone sound = record {
  requests_numbered = sound.requests_numbered;
  quotes_numbered = λ k own at. elim (pushed_at quotes (standing_quote quote []) k own at) [
    | inl was ↦ sound.quotes_numbered k own was
    | inr new ↦ ap (λ (q : StandingQuote). q.quote.number) (sym new.1) ∙ number ∙ ap (λ (n : ℕ). n + 1) (sym new.0)
  ];
  from_first = λ k own at. elim (pushed_at quotes (standing_quote quote []) k own at) [
    | inl was ↦ sound.from_first k own was
    | inr new ↦ subst (λ (q : StandingQuote). 1 ≤ q.quote.request) new.1 first
  ];
  to_last = λ k own at. elim (pushed_at quotes (standing_quote quote []) k own at) [
    | inl was ↦ sound.to_last k own was
    | inr new ↦ subst (λ (q : StandingQuote). q.quote.request ≤ length requests) new.1 last
  ];
  lone = λ request. lone_pushed quotes quote request (quote.request == request) refl (sound.lone request)
      (λ so. let here : quote.request ≡ request = eqb-true quote.request request so in
      filter_none (is_live_on request) quotes (none_live quotes request (subst (λ (r : ℕ). live_number_among quotes r ≡ None) here alone)));
}
