-- A change of one quote of a table, and the row of its request.
use Rattle.std.proofs.Common.{◌≡◌, ◌<◌, ℕ, ◌+◌, Bool, true, false, ◌&&◌, ◌==◌, cond, List, length}
use Rattle.std.proofs.Common.{map, set, Option, Some, None, is_none, option_map, slice_get, get_or}
use Rattle.std.proofs.Common.{inl, inr, refl, sym, ap, subst, ◌∙◌, arith}
use Rattle.std.specs.Option.{option_or}
use Rattle.std.proofs.lemmas.Bool.{eqb-true, eq-eqb, false_from_ne_true, cond-true, and_right}
use Rattle.std.proofs.lemmas.Bool.{and_left, and_from}
use Rattle.std.proofs.lemmas.Bool.Decides.{eqb_tells}
use Rattle.std.proofs.lemmas.Option.{same_Some, get_or_from_slice_get}
use Rattle.std.proofs.lemmas.List.{length-map, get_or-map}
use Rattle.std.proofs.lemmas.List.Folds.{list_any_at}
use Rattle.dealer_desk.specs.DealerFacts.{is_live, is_live_on, is_lifted_on}
use Rattle.dealer_desk.specs.BookChanges.{IsSound, ended_at, late_at}
use Rattle.dealer_desk.specs.DealerTable.{IsRow}
use Rattle.dealer_desk.specs.declared.accepted.AcceptedQuote.{AcceptedQuote}
use Rattle.dealer_desk.specs.declared.standing.StandingRequest.{StandingRequest}
use Rattle.dealer_desk.specs.declared.standing.StandingQuote.{StandingQuote}
use Rattle.dealer_desk.specs.declared.standing.QuoteEnd.{QuoteEnd}
use Rattle.dealer_desk.specs.declared.table.RequestRow.{RequestRow}
use Rattle.dealer_desk.proofs.ListLemmas.{set_at, mapped_at, find_none, find_mapped, any_mapped}
use Rattle.dealer_desk.proofs.ListLemmas.{lone_others, within_from}

-- Changes of one quote.

-- what a choice of two quotes with one content keeps
cond_quote : (b : Bool) (x y : StandingQuote) → x.quote ≡ y.quote → (cond b x y).quote ≡ y.quote
cond_quote true x y e = e
cond_quote false x y e = refl

pub ended_keeps : (number : ℕ) (how : QuoteEnd) (own : StandingQuote) → (ended_at number how own).quote ≡ own.quote
ended_keeps number how own = cond_quote (number == own.quote.number) (record own { end = option_or own.end (Some how) }) own refl

pub late_keeps : (number : ℕ) (own : StandingQuote) → (late_at number own).quote ≡ own.quote
late_keeps number own = cond_quote (number == own.quote.number) (record own { is_known_lifted = true }) own refl

pub or_some : (end : Option QuoteEnd) (how : QuoteEnd) → is_none (option_or end (Some how)) ≡ false
or_some None how = refl
or_some (Some was) how = refl

pub ended_by : (b : Bool) (how : QuoteEnd) (own : StandingQuote) → is_live (cond b (record own { end = option_or own.end (Some how) }) own) ≡ true → is_live own ≡ true
ended_by true how own h = let never = or_some own.end how in cc
ended_by false how own h = h

pub ended_lives : (number : ℕ) (how : QuoteEnd) (own : StandingQuote) → is_live (ended_at number how own) ≡ true → is_live own ≡ true
ended_lives number how own h = ended_by (number == own.quote.number) how own h

late_by : (b : Bool) (own : StandingQuote) → is_live (cond b (record own { is_known_lifted = true }) own) ≡ is_live own
late_by true own = refl
late_by false own = refl

pub late_lives : (number : ℕ) (own : StandingQuote) → is_live (late_at number own) ≡ is_live own
late_lives number own = late_by (number == own.quote.number) own

known_by : (b : Bool) (how : QuoteEnd) (own : StandingQuote) → (cond b (record own { end = option_or own.end (Some how) }) own).is_known_lifted ≡ own.is_known_lifted
known_by true how own = refl
known_by false how own = refl

pub ended_known : (number : ℕ) (how : QuoteEnd) (own : StandingQuote) → (ended_at number how own).is_known_lifted ≡ own.is_known_lifted
ended_known number how own = known_by (number == own.quote.number) how own

-- a number is that of one place only
pub other_number : (requests : List StandingRequest) (quotes : List StandingQuote) (number place k : ℕ) (own : StandingQuote) → IsSound requests quotes
    → number ≡ place + 1 → slice_get quotes k ≡ Some own → (k ≡ place → ⊥) → (number == own.quote.number) ≡ false
other_number requests quotes number place k own sound here at other =
    false_from_ne_true (number == own.quote.number) (λ so.
    let same : number ≡ own.quote.number = eqb-true number own.quote.number so in
    let there : own.quote.number ≡ k + 1 = sound.quotes_numbered k own at in
    let equal : k ≡ place = omega arith in
    other equal)

pub nothing : (end : Option QuoteEnd) → is_none end ≡ true → end ≡ None
nothing None h = refl
nothing (Some how) h = cc

-- the live quote with a number, once it ended
pub ended_own : (number : ℕ) (how : QuoteEnd) (own : StandingQuote) → number ≡ own.quote.number → is_live own ≡ true → ended_at number how own ≡ record own { end = Some how }
ended_own number how own same live =
    cond-true (number == own.quote.number) (record own { end = option_or own.end (Some how) }) own (eq-eqb number own.quote.number same)
    ∙ ap (λ (e : Option QuoteEnd). record own { end = option_or e (Some how) }) (nothing own.end live)

pub late_own : (number : ℕ) (own : StandingQuote) → number ≡ own.quote.number → late_at number own ≡ record own { is_known_lifted = true }
late_own number own same = cond-true (number == own.quote.number) (record own { is_known_lifted = true }) own (eq-eqb number own.quote.number same)

-- A change f of the one quote at a place, whose request has the row at i.
pub record Changes (quotes : List StandingQuote) (f : StandingQuote → StandingQuote) (place i : ℕ) (own : StandingQuote) : Type 0 where
  pub keeps : (y : StandingQuote) → (f y).quote ≡ y.quote
  pub lives : (y : StandingQuote) → is_live (f y) ≡ true → is_live y ≡ true
  pub others : (k : ℕ) (y : StandingQuote) → slice_get quotes k ≡ Some y → (k ≡ place → ⊥) → f y ≡ y
  pub stands : slice_get quotes place ≡ Some own
  pub request_is : own.quote.request ≡ i + 1

-- a test of quotes on another request sees no change
pub elsewhere : (test : StandingQuote → Bool) (quotes : List StandingQuote) (f : StandingQuote → StandingQuote) (place i k : ℕ) (own : StandingQuote) → Changes quotes f place i own → (k ≡ i → ⊥)
    → (j : ℕ) (y : StandingQuote) → slice_get quotes j ≡ Some y → (test (f y) && ((f y).quote.request == (k + 1))) ≡ (test y && (y.quote.request == (k + 1)))
elsewhere test quotes f place i k own change other j y at = elim (eqb_tells j place) [
  | inl here ↦
      let same : own ≡ y = same_Some own y (sym change.stands ∙ ap (slice_get quotes) (sym here.1) ∙ at) in
      let there : y.quote.request ≡ i + 1 = ap (λ (q : StandingQuote). q.quote.request) (sym same) ∙ change.request_is in
      let not_it : (y.quote.request == (k + 1)) ≡ false = false_from_ne_true (y.quote.request == (k + 1)) (λ so.
      let equal : y.quote.request ≡ k + 1 = eqb-true y.quote.request (k + 1) so in let f2 : k ≡ i = omega arith in other f2) in
      and_right (test (f y)) ((f y).quote.request == (k + 1)) (ap (λ (q : AcceptedQuote). q.request == (k + 1)) (change.keeps y) ∙ not_it)
      ∙ sym (and_right (test y) (y.quote.request == (k + 1)) not_it)
  | inr there ↦ ap (λ (q : StandingQuote). test q && (q.quote.request == (k + 1))) (change.others j y at there.1)
]

-- the rows after a change of one quote and of the row of its request
pub rows_changed : (rows : List RequestRow) (quotes : List StandingQuote) (f : StandingQuote → StandingQuote) (place i : ℕ) (own : StandingQuote) (row : RequestRow)
    → Changes quotes f place i own → i < length rows
    → ((k : ℕ) (r : RequestRow) → slice_get rows k ≡ Some r → IsRow quotes (k + 1) r)
    → IsRow (map f quotes) (i + 1) row
    → (k : ℕ) (r : RequestRow) → slice_get (set rows i row) k ≡ Some r → IsRow (map f quotes) (k + 1) r
rows_changed rows quotes f place i own row change within rows_are here k r at = elim (set_at rows i row k r within at) [
  | inl same ↦ subst (λ (n : ℕ). IsRow (map f quotes) (n + 1) r) (sym same.0) (subst (λ (w : RequestRow). IsRow (map f quotes) (i + 1) w) same.1 here)
  | inr there ↦ let was = rows_are k r there.1 in record {
    live_is = was.live_is ∙ sym (find_mapped (λ (q : StandingQuote). q.quote.number) (is_live_on (k + 1)) f quotes
        (λ y. ap (λ (q : AcceptedQuote). q.number) (change.keeps y))
        (elsewhere is_live quotes f place i k own change there.0));
    lifted_is = was.lifted_is ∙ sym (any_mapped (is_lifted_on (k + 1)) f quotes (elsewhere (λ (q : StandingQuote). q.is_known_lifted) quotes f place i k own change there.0));
  }
]

-- the row of a request whose live quote ended
pub row_ended : (requests : List StandingRequest) (quotes : List StandingQuote) (f : StandingQuote → StandingQuote) (place i : ℕ) (own : StandingQuote) (row : RequestRow)
    → IsSound requests quotes → Changes quotes f place i own → is_live own ≡ true → is_live (f own) ≡ false
    → ((y : StandingQuote) → (f y).is_known_lifted ≡ y.is_known_lifted)
    → IsRow quotes (i + 1) row → IsRow (map f quotes) (i + 1) (record row { live = None })
row_ended requests quotes f place i own row sound change live dead known was = record {
  live_is = sym (ap (option_map (λ (q : StandingQuote). q.quote.number)) (find_none (is_live_on (i + 1)) (map f quotes) (λ k y at.
      let from = mapped_at f quotes k y at in
      elim (eqb_tells k place) [
        | inl here ↦
            let same : own ≡ from.0 = same_Some own from.0 (sym change.stands ∙ ap (slice_get quotes) (sym here.1) ∙ from.1) in
            let ended : is_live y ≡ false = ap is_live (sym from.2) ∙ ap (λ (q : StandingQuote). is_live (f q)) (sym same) ∙ dead in
            and_left (is_live y) (y.quote.request == (i + 1)) ended
        | inr there ↦
            let on_it : is_live_on (i + 1) own ≡ true = and_from (is_live own) (own.quote.request == (i + 1)) live (eq-eqb own.quote.request (i + 1) change.request_is) in
            ap (is_live_on (i + 1)) (sym from.2 ∙ change.others k from.0 from.1 there.1)
            ∙ lone_others (is_live_on (i + 1)) quotes place own (sound.lone (i + 1)) change.stands on_it k from.0 from.1 there.1
      ])));
  lifted_is = was.lifted_is ∙ sym (any_mapped (is_lifted_on (i + 1)) f quotes (λ k y at.
      ap (λ (b : Bool). b && ((f y).quote.request == (i + 1))) (known y) ∙ ap (λ (q : AcceptedQuote). y.is_known_lifted && (q.request == (i + 1))) (change.keeps y)));
}

-- the row of a request whose live quote was found lifted
pub row_late : (quotes : List StandingQuote) (f : StandingQuote → StandingQuote) (place i : ℕ) (own : StandingQuote) (row : RequestRow)
    → Changes quotes f place i own → ((y : StandingQuote) → is_live (f y) ≡ is_live y) → (f own).is_known_lifted ≡ true
    → IsRow quotes (i + 1) row → IsRow (map f quotes) (i + 1) (record row { has_lifted = true })
row_late quotes f place i own row change lives known was = record {
  live_is = was.live_is ∙ sym (find_mapped (λ (q : StandingQuote). q.quote.number) (is_live_on (i + 1)) f quotes
      (λ y. ap (λ (q : AcceptedQuote). q.number) (change.keeps y))
      (λ k y at. ap (λ (b : Bool). b && ((f y).quote.request == (i + 1))) (lives y) ∙ ap (λ (q : AcceptedQuote). is_live y && (q.request == (i + 1))) (change.keeps y)));
  lifted_is =
      let within : place < length quotes = within_from quotes place own change.stands in
      let inside : place < length (map f quotes) = omega (arith, length-map quotes f) in
      let there : get_or (map f quotes) place (f own) ≡ f own = get_or-map f quotes place own (f own) within ∙ ap f (get_or_from_slice_get quotes place own own change.stands) in
      let on_it : is_lifted_on (i + 1) (f own) ≡ true = and_from (f own).is_known_lifted ((f own).quote.request == (i + 1)) known
      (ap (λ (q : AcceptedQuote). q.request == (i + 1)) (change.keeps own) ∙ eq-eqb own.quote.request (i + 1) change.request_is) in
      sym (list_any_at (is_lifted_on (i + 1)) (map f quotes) place (f own) inside (ap (is_lifted_on (i + 1)) there ∙ on_it));
}
