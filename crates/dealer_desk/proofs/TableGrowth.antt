-- What a table keeps when a request or a quote more comes, and when another quote replaces one.
use Rattle.std.proofs.Common.{◌≡◌, ◌<◌, ◌≤◌, ℕ, zero, suc, ◌+◌, ◌-◌, Bool, true, false, ◌==◌, cond}
use Rattle.std.proofs.Common.{List, [], ◌∷◌, ◌++◌, length, map, set, find, Option, Some, None}
use Rattle.std.proofs.Common.{option_map, slice_get, get_or, inl, inr, refl, sym, ap, subst, ◌∙◌}
use Rattle.std.proofs.Common.{arith}
use Rattle.std.specs.List.{list_any, sum_by, position_or_len}
use Rattle.std.specs.Option.{option_or}
use Rattle.std.proofs.Math.Dec.{eqb}
use Rattle.std.proofs.lemmas.Bool.{eqb-true, eq-eqb, false_from_ne_true, cond-false, and_right}
use Rattle.std.proofs.lemmas.Bool.{and_left}
use Rattle.std.proofs.lemmas.Bool.Decides.{eqb_tells}
use Rattle.std.proofs.lemmas.Option.{none-some, same_Some}
use Rattle.std.proofs.lemmas.List.{map-append, length-map, length-append}
use Rattle.std.proofs.lemmas.List.Sums.{sum_by-cons, sum_by_push}
use Rattle.std.proofs.lemmas.List.Folds.{list_any-append, find-append, position_or_len_push}
use Rattle.std.proofs.Math.Bool.{or-false}
use Rattle.venue_rows.specs.declared.dealer_rows.TheConstants.DealerRow.{MOST_QUOTES, MOST_EXPOSURE}
use Rattle.market_terms.specs.declared.lines.QuoteLine.{QuoteLine}
use Rattle.dealer_desk.specs.DealerFacts.{standing_request, standing_quote, is_live, is_live_on}
use Rattle.dealer_desk.specs.DealerFacts.{is_lifted_on, is_droppable, live_quantity}
use Rattle.dealer_desk.specs.DealerFacts.{quantity_beside}
use Rattle.dealer_desk.specs.QuoteLines.{line_of}
use Rattle.dealer_desk.specs.BookChanges.{IsSound, ended_at}
use Rattle.dealer_desk.specs.DealerTable.{IsTable, IsRow, live_number_among}
use Rattle.dealer_desk.specs.declared.accepted.AcceptedQuote.{AcceptedQuote}
use Rattle.dealer_desk.specs.declared.standing.StandingRequest.{StandingRequest}
use Rattle.dealer_desk.specs.declared.standing.StandingQuote.{StandingQuote}
use Rattle.dealer_desk.specs.declared.standing.QuoteEnd.{QuoteEnd}
use Rattle.dealer_desk.specs.declared.standing.QuoteEnd.TheVariants as end
use Rattle.market_terms.specs.declared.asks.Ask.{Ask}
use Rattle.market_terms.specs.declared.closes.Close.TheVariants as closes
use Rattle.dealer_desk.specs.declared.table.RequestRow.{RequestRow}
use Rattle.dealer_desk.proofs.ListLemmas.{set_at, set_map, pushed_at, any_none, find_stands}
use Rattle.dealer_desk.proofs.ListLemmas.{mapped_at, find_none, lone_others}
use Rattle.dealer_desk.proofs.SoundLemmas.{sound_shown, sound_quoted, none_live}
use Rattle.dealer_desk.proofs.QuoteChanges.{ended_own, or_some, other_number}
use Rattle.dealer_desk.proofs.TableLemmas.{quantity_live, requests_kept, sum_changed}
use Rattle.dealer_desk.proofs.TableReads.{read_at}
use Rattle.dealer_desk.proofs.TableClosing.{first_holds}
use Rattle.dealer_desk.proofs.MapLemmas.{or_none}

-- a row that is read by the number of its request
pub row_read : (rows : List RequestRow) (quotes : List StandingQuote) (lines : List QuoteLine) (exposure first number : ℕ) (row : RequestRow)
    → IsTable rows quotes lines exposure first → 1 ≤ number → number ≤ length rows → row ≡ get_or rows (number - 1) row → IsRow quotes number row
row_read rows quotes lines exposure first number row table least last is =
    let within : number - 1 < length rows = omega arith in
    let place : (number - 1) + 1 ≡ number = omega arith in
    subst (λ (n : ℕ). IsRow quotes n row) place (table.rows_are (number - 1) row (read_at rows (number - 1) row within is))

-- rows of the same requests are as many
pub as_many_rows : (rows others : List RequestRow) → map (λ (r : RequestRow). r.request) rows ≡ map (λ (r : RequestRow). r.request) others → length rows ≡ length others
as_many_rows rows others same =
    sym (length-map rows (λ (r : RequestRow). r.request)) ∙ ap (λ (rs : List StandingRequest). length rs) same ∙ length-map others (λ (r : RequestRow). r.request)

-- A request behind the others.
pub push_request_table : (rows : List RequestRow) (quotes : List StandingQuote) (lines : List QuoteLine) (exposure first : ℕ) (ask : Ask)
    → IsTable rows quotes lines exposure first
    → IsTable (rows ++ record { request = standing_request (length rows + 1) ask []; live = None; has_lifted = false } ∷ []) quotes lines exposure first
push_request_table rows quotes lines exposure first ask table =
    let many : length (map (λ (r : RequestRow). r.request) rows) ≡ length rows = length-map rows (λ (r : RequestRow). r.request) in
    let after : (k : ℕ) (y : StandingQuote) → slice_get quotes k ≡ Some y → (y.quote.request == (length rows + 1)) ≡ false = λ k y at.
    false_from_ne_true (y.quote.request == (length rows + 1)) (λ so.
    let same : y.quote.request ≡ length rows + 1 = eqb-true y.quote.request (length rows + 1) so in
    let last = table.sound.to_last k y at in
    let never : ⊥ = omega arith in never) in
    record {
      sound = subst (λ (rs : List StandingRequest). IsSound rs quotes)
          (ap (λ (n : ℕ). map (λ (r : RequestRow). r.request) rows ++ standing_request (n + 1) ask [] ∷ []) many
          ∙ sym (map-append (λ (r : RequestRow). r.request) rows (record { request = standing_request (length rows + 1) ask []; live = None; has_lifted = false } ∷ [])))
          (sound_shown (map (λ (r : RequestRow). r.request) rows) quotes ask table.sound);
      rows_are = λ k row at. elim (pushed_at rows (record { request = standing_request (length rows + 1) ask []; live = None; has_lifted = false }) k row at) [
        | inl was ↦ table.rows_are k row was
        | inr new ↦ subst (λ (w : RequestRow). IsRow quotes (k + 1) w) new.1 (subst (λ (n : ℕ). IsRow quotes (n + 1) (record { request = standing_request (length rows + 1) ask []; live = None; has_lifted = false })) (sym new.0)
            (record {
              live_is = sym (ap (option_map (λ (q : StandingQuote). q.quote.number)) (find_none (is_live_on (length rows + 1)) quotes (λ j y there. and_right (is_live y) (y.quote.request == (length rows + 1)) (after j y there))));
              lifted_is = sym (any_none (is_lifted_on (length rows + 1)) quotes (λ j y there. and_right y.is_known_lifted (y.quote.request == (length rows + 1)) (after j y there)));
            }))
      ];
      lines_are = table.lines_are;
      exposure_is = table.exposure_is;
      exposure_fits = table.exposure_fits;
      first_is = table.first_is;
      few = table.few;
    }

-- A quote behind the others.

-- the row of the request of a quote that was put behind the others
row_pushed : (quotes : List StandingQuote) (quote : AcceptedQuote) (row : RequestRow) → find (is_live_on quote.request) quotes ≡ None
    → IsRow quotes quote.request row → IsRow (quotes ++ standing_quote quote [] ∷ []) quote.request (record row { live = Some quote.number })
row_pushed quotes quote row none was =
    let here : (quote.request == quote.request) ≡ true = eq-eqb quote.request quote.request refl in
    record {
      live_is = sym (ap (option_map (λ (q : StandingQuote). q.quote.number)) (find-append (is_live_on quote.request) quotes (standing_quote quote [] ∷ []) ∙ ap (λ (o : Option StandingQuote). option_or o (find (is_live_on quote.request) (standing_quote quote [] ∷ []))) none
          ∙ ap (λ (b : Bool). cond b (Some (standing_quote quote [])) None) here));
      lifted_is = was.lifted_is ∙ sym (list_any-append (is_lifted_on quote.request) quotes (standing_quote quote [] ∷ []) ∙ or-false (list_any (is_lifted_on quote.request) quotes));
    }

-- the row of another request
row_beside : (quotes : List StandingQuote) (quote : AcceptedQuote) (number : ℕ) (row : RequestRow) → (quote.request == number) ≡ false
    → IsRow quotes number row → IsRow (quotes ++ standing_quote quote [] ∷ []) number row
row_beside quotes quote number row other was = record {
  live_is = was.live_is ∙ sym (ap (option_map (λ (q : StandingQuote). q.quote.number)) (find-append (is_live_on number) quotes (standing_quote quote [] ∷ [])
      ∙ ap (λ (b : Bool). option_or (find (is_live_on number) quotes) (cond b (Some (standing_quote quote [])) None)) other ∙ or_none (find (is_live_on number) quotes)));
  lifted_is = was.lifted_is ∙ sym (list_any-append (is_lifted_on number) quotes (standing_quote quote [] ∷ []) ∙ or-false (list_any (is_lifted_on number) quotes));
}

first_stays : (b : Bool) (at len : ℕ) → eqb at len ≡ b → cond b (len + 0) at ≡ at
first_stays true at len e = let same : at ≡ len = eqb-true at len e in omega arith
first_stays false at len e = refl

pub push_quote_table : (rows : List RequestRow) (quotes : List StandingQuote) (lines : List QuoteLine) (exposure first : ℕ) (quote : AcceptedQuote) (row : RequestRow) (line : QuoteLine)
    → IsTable rows quotes lines exposure first → quote.number ≡ length quotes + 1 → length quotes < MOST_QUOTES
    → 1 ≤ quote.request → quote.request ≤ length rows → live_number_among quotes quote.request ≡ None → exposure + quote.quantity ≤ MOST_EXPOSURE
    → row ≡ get_or rows (quote.request - 1) row → line ≡ line_of (standing_quote quote [])
    → IsTable (set rows (quote.request - 1) (record row { live = Some quote.number })) (quotes ++ standing_quote quote [] ∷ []) (lines ++ line ∷ []) (exposure + quote.quantity) first
push_quote_table rows quotes lines exposure first quote row line table number few least last alone fits row_is line_is =
    let within : quote.request - 1 < length rows = omega arith in
    let place : (quote.request - 1) + 1 ≡ quote.request = omega arith in
    let at_row : slice_get rows (quote.request - 1) ≡ Some row = read_at rows (quote.request - 1) row within row_is in
    let requests = requests_kept rows (quote.request - 1) row (record row { live = Some quote.number }) at_row refl in
    let most : quote.request ≤ length (map (λ (r : RequestRow). r.request) rows) = subst (λ (n : ℕ). quote.request ≤ n) (sym (length-map rows (λ (r : RequestRow). r.request))) last in
    let was : IsRow quotes quote.request row = subst (λ (n : ℕ). IsRow quotes n row) place (table.rows_are (quote.request - 1) row at_row) in
    record {
      sound = subst (λ (rs : List StandingRequest). IsSound rs (quotes ++ standing_quote quote [] ∷ [])) (sym requests)
          (sound_quoted (map (λ (r : RequestRow). r.request) rows) quotes quote number least most alone table.sound);
      rows_are = λ k r at. elim (set_at rows (quote.request - 1) (record row { live = Some quote.number }) k r within at) [
        | inl here ↦ subst (λ (n : ℕ). IsRow (quotes ++ standing_quote quote [] ∷ []) n r) (sym place ∙ ap (λ (n : ℕ). n + 1) (sym here.0))
            (subst (λ (w : RequestRow). IsRow (quotes ++ standing_quote quote [] ∷ []) quote.request w) here.1 (row_pushed quotes quote row (none_live quotes quote.request alone) was))
        | inr there ↦ row_beside quotes quote (k + 1) r (false_from_ne_true (quote.request == (k + 1)) (λ so.
            let same : quote.request ≡ k + 1 = eqb-true quote.request (k + 1) so in let e : k ≡ quote.request - 1 = omega arith in there.0 e)) (table.rows_are k r there.1)
      ];
      lines_are = ap (λ (l : List QuoteLine). l ++ line ∷ []) table.lines_are ∙ ap (λ (l : QuoteLine). map line_of quotes ++ l ∷ []) line_is ∙ sym (map-append line_of quotes (standing_quote quote [] ∷ []));
      exposure_is = ap (λ (n : ℕ). n + quote.quantity) table.exposure_is ∙ sym (sum_by_push live_quantity quotes (standing_quote quote []));
      exposure_fits = fits;
      first_is = table.first_is ∙ sym (position_or_len_push is_droppable quotes (standing_quote quote []) ∙ first_stays (eqb (position_or_len is_droppable quotes) (length quotes)) (position_or_len is_droppable quotes) (length quotes) refl);
      few = omega (arith, length-append quotes (standing_quote quote [] ∷ []));
    }

-- the requests, after a write of the row of a number that leaves its request as it is
pub request_row_kept : (rows : List RequestRow) (number : ℕ) (row other : RequestRow) → 1 ≤ number → number ≤ length rows → row ≡ get_or rows (number - 1) row → other.request ≡ row.request
    → map (λ (r : RequestRow). r.request) (set rows (number - 1) other) ≡ map (λ (r : RequestRow). r.request) rows
request_row_kept rows number row other least last is same =
    let within : number - 1 < length rows = omega arith in
    requests_kept rows (number - 1) row other (read_at rows (number - 1) row within is) same

-- A live quote that another replaces.

replaced_found : (requests : List StandingRequest) (quotes : List StandingQuote) (request number : ℕ) (how : QuoteEnd) → IsSound requests quotes → (found : Option StandingQuote) → find (is_live_on request) quotes ≡ found
    → option_map (λ (q : StandingQuote). q.quote.number) found ≡ Some number → live_number_among (map (ended_at number how) quotes) request ≡ None
replaced_found requests quotes request number how sound None at is = absurd (none-some number is)
replaced_found requests quotes request number how sound (Some own) at is =
    let stands = find_stands (is_live_on request) quotes own at in
    let live = first_holds (is_live own) (own.quote.request == request) stands.2 in
    let number_is : number ≡ own.quote.number = sym (same_Some own.quote.number number is) in
    let place_is : number ≡ stands.0 + 1 = number_is ∙ sound.quotes_numbered stands.0 own stands.1 in
    ap (option_map (λ (q : StandingQuote). q.quote.number)) (find_none (is_live_on request) (map (ended_at number how) quotes) (λ k y there.
    let from = mapped_at (ended_at number how) quotes k y there in
    elim (eqb_tells k stands.0) [
      | inl here ↦
          let same : own ≡ from.0 = same_Some own from.0 (sym stands.1 ∙ ap (slice_get quotes) (sym here.1) ∙ from.1) in
          let ended : ended_at number how from.0 ≡ record own { end = Some how } = ap (ended_at number how) (sym same) ∙ ended_own number how own number_is live in
          and_left (is_live y) (y.quote.request == request) (ap is_live (sym from.2 ∙ ended))
      | inr apart ↦
          ap (is_live_on request) (sym from.2 ∙ cond-false (number == from.0.quote.number) (record from.0 { end = option_or from.0.end (Some how) }) from.0 (other_number requests quotes number stands.0 k from.0 sound place_is from.1 apart.1))
          ∙ lone_others (is_live_on request) quotes stands.0 own (sound.lone request) stands.1 stands.2 k from.0 from.1 apart.1
    ]))

-- no quote on its request is live any more
pub replaced_none : (requests : List StandingRequest) (quotes : List StandingQuote) (request number : ℕ) (how : QuoteEnd) → IsSound requests quotes → live_number_among quotes request ≡ Some number
    → live_number_among (map (ended_at number how) quotes) request ≡ None
replaced_none requests quotes request number how sound is = replaced_found requests quotes request number how sound (find (is_live_on request) quotes) refl is

sum_mapped : (f g : StandingQuote → ℕ) (change : StandingQuote → StandingQuote) → ((own : StandingQuote) → f (change own) ≡ g own) → (quotes : List StandingQuote) → sum_by f (map change quotes) ≡ sum_by g quotes
sum_mapped f g change same [] = refl
sum_mapped f g change same (own ∷ quotes) =
    let rest : sum_by f (map change quotes) ≡ sum_by g quotes = sum_mapped f g change same quotes in
    let first : f (change own) ≡ g own = same own in
    sum_by-cons f (change own) (map change quotes) ∙ ap (λ (n : ℕ). n + sum_by f (map change quotes)) first ∙ ap (λ (n : ℕ). g own + n) rest ∙ sym (sum_by-cons g own quotes)

turned : (a b : ℕ) → (a == b) ≡ (b == a)
turned a b = elim (eqb_tells a b) [
  | inl same ↦ same.0 ∙ sym (eq-eqb b a (sym same.1))
  | inr apart ↦ apart.0 ∙ sym (false_from_ne_true (b == a) (λ so. apart.1 (sym (eqb-true b a so))))
]

dead_or_live : (b : Bool) (how : QuoteEnd) (own : StandingQuote) → live_quantity (cond b (record own { end = option_or own.end (Some how) }) own) ≡ cond b 0 (live_quantity own)
dead_or_live true how own = ap (λ (live : Bool). cond live own.quote.quantity 0) (or_some own.end how)
dead_or_live false how own = refl

-- what the quotes add once it ended is what they add beside it
pub sum_beside : (quotes : List StandingQuote) (number : ℕ) (how : QuoteEnd) → sum_by live_quantity (map (ended_at number how) quotes) ≡ sum_by (quantity_beside (Some number)) quotes
sum_beside quotes number how = sum_mapped live_quantity (quantity_beside (Some number)) (ended_at number how)
    (λ own. dead_or_live (number == own.quote.number) how own ∙ ap (λ (b : Bool). cond b 0 (live_quantity own)) (turned number own.quote.number)) quotes

same_quantity : (b : Bool) (own : StandingQuote) → (b ≡ true → is_live own ≡ false) → cond b 0 (live_quantity own) ≡ live_quantity own
same_quantity true own dead = sym (ap (λ (live : Bool). cond live own.quote.quantity 0) (dead refl))
same_quantity false own dead = refl

sum_same : (f g : StandingQuote → ℕ) (quotes : List StandingQuote) → ((k : ℕ) (own : StandingQuote) → slice_get quotes k ≡ Some own → f own ≡ g own) → sum_by f quotes ≡ sum_by g quotes
sum_same f g [] same = refl
sum_same f g (own ∷ quotes) same =
    let rest : sum_by f quotes ≡ sum_by g quotes = sum_same f g quotes (λ k y at. same (suc k) y at) in
    sum_by-cons f own quotes ∙ ap (λ (n : ℕ). n + sum_by f quotes) (same zero own refl) ∙ ap (λ (n : ℕ). g own + n) rest ∙ sym (sum_by-cons g own quotes)

-- beside a quote that is not live all count
pub beside_dead : (quotes : List StandingQuote) (number : ℕ) → ((k : ℕ) (own : StandingQuote) → slice_get quotes k ≡ Some own → own.quote.number ≡ number → is_live own ≡ false)
    → sum_by (quantity_beside (Some number)) quotes ≡ sum_by live_quantity quotes
beside_dead quotes number dead = sum_same (quantity_beside (Some number)) live_quantity quotes (λ k own at.
    same_quantity (own.quote.number == number) own (λ so. dead k own at (eqb-true own.quote.number number so)))

-- beside a live quote all but it count
pub beside_live : (requests : List StandingRequest) (quotes : List StandingQuote) (number place : ℕ) (own : StandingQuote) → IsSound requests quotes → number ≡ place + 1
    → slice_get quotes place ≡ Some own → is_live own ≡ true → sum_by (quantity_beside (Some number)) quotes + own.quote.quantity ≡ sum_by live_quantity quotes
beside_live requests quotes number place own sound number_is stands live =
    let same : number ≡ own.quote.number = number_is ∙ sym (sound.quotes_numbered place own stands) in
    let after : set quotes place (record own { end = Some (end.Closed closes.Pass) }) ≡ map (ended_at number (end.Closed closes.Pass)) quotes =
    ap (set quotes place) (sym (ended_own number (end.Closed closes.Pass) own same live))
    ∙ set_map (ended_at number (end.Closed closes.Pass)) quotes place own stands
    (λ k y there other. cond-false (number == y.quote.number) (record y { end = option_or y.end (Some (end.Closed closes.Pass)) }) y (other_number requests quotes number place k y sound number_is there other)) in
    let sum = sum_changed quotes place own (record own { end = Some (end.Closed closes.Pass) }) stands in
    let beside : sum_by live_quantity (set quotes place (record own { end = Some (end.Closed closes.Pass) })) ≡ sum_by (quantity_beside (Some number)) quotes =
    ap (sum_by live_quantity) after ∙ sum_beside quotes number (end.Closed closes.Pass) in
    let adds = quantity_live own live in
    omega arith
