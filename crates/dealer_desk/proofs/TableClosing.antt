-- What a table keeps when a request is closed.
use Rattle.std.proofs.Common.{◌≡◌, ℕ, ◌+◌, Bool, true, false, ◌&&◌, ◌==◌, cond, not, List, map, set}
use Rattle.std.proofs.Common.{find, Option, Some, None, is_none, option_map, refl, sym, ap, ◌∙◌}
use Rattle.std.specs.Option.{option_or}
use Rattle.std.proofs.lemmas.Bool.{eqb-true, eq-eqb, cond-false, cond-true}
use Rattle.std.proofs.lemmas.Option.{none-some, same_Some}
use Rattle.dealer_desk.specs.DealerFacts.{is_live, is_live_on}
use Rattle.dealer_desk.specs.BookChanges.{IsSound, IsLiveNumber, ended_at, closed_on}
use Rattle.dealer_desk.specs.DealerTable.{live_number_among}
use Rattle.dealer_desk.specs.declared.standing.StandingRequest.{StandingRequest}
use Rattle.dealer_desk.specs.declared.standing.StandingQuote.{StandingQuote}
use Rattle.dealer_desk.specs.declared.standing.QuoteEnd.{QuoteEnd}
use Rattle.dealer_desk.specs.declared.standing.QuoteEnd.TheVariants as end
use Rattle.market_terms.specs.declared.closes.Close.{Close}
use Rattle.dealer_desk.proofs.ListLemmas.{set_map, all_fixed, find_stands, fails_where_none}
use Rattle.dealer_desk.proofs.ListLemmas.{lone_others}
use Rattle.dealer_desk.proofs.SoundLemmas.{none_live}
use Rattle.dealer_desk.proofs.QuoteChanges.{ended_own, nothing, other_number}

-- The closing of a request.

-- what ended already stays
stays : (was how : Option QuoteEnd) → is_none was ≡ false → option_or was how ≡ was
stays None how live = cc
stays (Some by) how live = refl

absurd_test : (c : Bool) → c ≡ true → c ≡ false → true ≡ false
absurd_test c e h = sym e ∙ h

not_left : (b c : Bool) → c ≡ true → (b && c) ≡ false → b ≡ false
not_left true c e h = absurd_test c e h
not_left false c e h = refl

closed_fixed : (b : Bool) (close : Close) (own : StandingQuote) → (b ≡ true → is_live own ≡ false) → cond b (record own { end = option_or own.end (Some (end.Closed close)) }) own ≡ own
closed_fixed true close own dead = ap (λ (e : Option QuoteEnd). record own { end = e }) (stays own.end (Some (end.Closed close)) (dead refl))
closed_fixed false close own dead = refl

-- a quote that is not live on a request sees nothing of its closing
pub closed_others : (number : ℕ) (close : Close) (own : StandingQuote) → is_live_on number own ≡ false → closed_on number close own ≡ own
closed_others number close own apart = closed_fixed (number == own.quote.request) close own (λ so.
    let same : number ≡ own.quote.request = eqb-true number own.quote.request so in
    not_left (is_live own) (own.quote.request == number) (eq-eqb own.quote.request number (sym same)) apart)

pub closed_own : (number : ℕ) (close : Close) (own : StandingQuote) → own.quote.request ≡ number → is_live own ≡ true → closed_on number close own ≡ record own { end = Some (end.Closed close) }
closed_own number close own same live =
    cond-true (number == own.quote.request) (record own { end = option_or own.end (Some (end.Closed close)) }) own (eq-eqb number own.quote.request (sym same))
    ∙ ap (λ (e : Option QuoteEnd). record own { end = option_or e (Some (end.Closed close)) }) (nothing own.end live)

-- where no quote on it is live
pub closed_none : (quotes : List StandingQuote) (number : ℕ) (close : Close) → live_number_among quotes number ≡ None → quotes ≡ map (closed_on number close) quotes
closed_none quotes number close none = sym (all_fixed (closed_on number close) quotes (λ k y at.
    closed_others number close y (fails_where_none (is_live_on number) quotes (none_live quotes number none) k y at)))

pub first_holds : (b c : Bool) → (b && c) ≡ true → b ≡ true
first_holds true c h = refl
first_holds false c h = h

second_holds : (b c : Bool) → (b && c) ≡ true → c ≡ true
second_holds true c h = h
second_holds false c h = cc

-- the live quote on a request, found
live_found : (requests : List StandingRequest) (quotes : List StandingQuote) (request number : ℕ) → IsSound requests quotes → (found : Option StandingQuote) → find (is_live_on request) quotes ≡ found
    → option_map (λ (q : StandingQuote). q.quote.number) found ≡ Some number → IsLiveNumber quotes number
live_found requests quotes request number sound None at is = absurd (none-some number is)
live_found requests quotes request number sound (Some own) at is =
    let stands = find_stands (is_live_on request) quotes own at in
    record {
      own = own;
      place = stands.0;
      number_is = sym (same_Some own.quote.number number is) ∙ sound.quotes_numbered stands.0 own stands.1;
      stands = stands.1;
      live = first_holds (is_live own) (own.quote.request == request) stands.2;
    }

closed_found : (requests : List StandingRequest) (quotes : List StandingQuote) (request number : ℕ) (close : Close) → IsSound requests quotes → (found : Option StandingQuote) → find (is_live_on request) quotes ≡ found
    → option_map (λ (q : StandingQuote). q.quote.number) found ≡ Some number → map (ended_at number (end.Closed close)) quotes ≡ map (closed_on request close) quotes
closed_found requests quotes request number close sound None at is = absurd (none-some number is)
closed_found requests quotes request number close sound (Some own) at is =
    let stands = find_stands (is_live_on request) quotes own at in
    let live = first_holds (is_live own) (own.quote.request == request) stands.2 in
    let on_it : own.quote.request ≡ request = eqb-true own.quote.request request (second_holds (is_live own) (own.quote.request == request) stands.2) in
    let number_is : number ≡ own.quote.number = sym (same_Some own.quote.number number is) in
    let place_is : number ≡ stands.0 + 1 = number_is ∙ sound.quotes_numbered stands.0 own stands.1 in
    sym (ap (set quotes stands.0) (sym (ended_own number (end.Closed close) own number_is live))
    ∙ set_map (ended_at number (end.Closed close)) quotes stands.0 own stands.1
    (λ k y there other. cond-false (number == y.quote.number) (record y { end = option_or y.end (Some (end.Closed close)) }) y (other_number requests quotes number stands.0 k y sound place_is there other)))
    ∙ (ap (set quotes stands.0) (sym (closed_own request close own on_it live))
    ∙ set_map (closed_on request close) quotes stands.0 own stands.1
    (λ k y there other. closed_others request close y (lone_others (is_live_on request) quotes stands.0 own (sound.lone request) stands.1 stands.2 k y there other)))

-- where one is
pub live_stands : (requests : List StandingRequest) (quotes : List StandingQuote) (request number : ℕ) → IsSound requests quotes → live_number_among quotes request ≡ Some number → IsLiveNumber quotes number
live_stands requests quotes request number sound is = live_found requests quotes request number sound (find (is_live_on request) quotes) refl is

pub closed_live : (requests : List StandingRequest) (quotes : List StandingQuote) (request number : ℕ) (close : Close) → IsSound requests quotes → live_number_among quotes request ≡ Some number
    → map (ended_at number (end.Closed close)) quotes ≡ map (closed_on request close) quotes
closed_live requests quotes request number close sound is = closed_found requests quotes request number close sound (find (is_live_on request) quotes) refl is

-- a quote that is known to be lifted is not droppable
pub lifted_stays : (live : Bool) → (live && not true) ≡ false
lifted_stays true = refl
lifted_stays false = refl
