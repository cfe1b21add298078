-- What the code reads and writes of a table, and what a table keeps when a request of its own
-- changes.
use Rattle.std.proofs.Common.{◌≡◌, ◌<◌, ◌≤◌, ℕ, ◌+◌, ◌-◌, Bool, true, false, ◌==◌, cond, not, List}
use Rattle.std.proofs.Common.{length, map, set, Some, None, option_map, slice_get, get_or, inl, inr}
use Rattle.std.proofs.Common.{refl, sym, ap, subst, ◌∙◌, arith, length-set, get_or-set_same}
use Rattle.std.specs.List.{position_or_len}
use Rattle.std.proofs.lemmas.Bool.{eqb-true, eq-eqb, false_from_ne_true, cond-false, cond-true}
use Rattle.std.proofs.lemmas.Option.{same_Some, slice_get-get_or, slice_get-map}
use Rattle.std.proofs.lemmas.List.{map-set, length-map}
use Rattle.std.proofs.lemmas.List.Sums.{prefix_len-le-length}
use Rattle.market_terms.specs.declared.lines.QuoteLine.{QuoteLine}
use Rattle.market_terms.specs.declared.lines.QuoteState.{QuoteState}
use Rattle.dealer_desk.specs.DealerFacts.{is_live, is_droppable}
use Rattle.dealer_desk.specs.QuoteLines.{state_of, line_of}
use Rattle.dealer_desk.specs.BookChanges.{IsSound, IsLiveNumber, ended_at, late_at, declined_at}
use Rattle.dealer_desk.specs.BookChanges.{told_at}
use Rattle.dealer_desk.specs.DealerTable.{IsTable, IsRow}
use Rattle.dealer_desk.specs.declared.standing.StandingRequest.{StandingRequest}
use Rattle.dealer_desk.specs.declared.standing.StandingQuote.{StandingQuote}
use Rattle.dealer_desk.specs.declared.standing.QuoteEnd.{QuoteEnd}
use Rattle.dealer_desk.specs.declared.table.RequestRow.{RequestRow}
use Rattle.dealer_desk.proofs.ListLemmas.{set_at, set_map, within_from, before_place}
use Rattle.dealer_desk.proofs.SoundLemmas.{sound_requests}
use Rattle.dealer_desk.proofs.TableLemmas.{ended_quotes, ended_table, late_quotes, late_table}
use Rattle.dealer_desk.proofs.TableLemmas.{requests_kept}

-- What the code reads and writes.

-- what is read within a list stands there
pub read_at : {A : Type 0} (xs : List A) (i : ℕ) (x : A) → i < length xs → x ≡ get_or xs i x → slice_get xs i ≡ Some x
read_at xs i x within is = slice_get-get_or xs i x within ∙ ap Some (sym is)

-- a live quote that is read by its number
pub record IsRead (rows : List RequestRow) (quotes : List StandingQuote) (lines : List QuoteLine) (number : ℕ) (own : StandingQuote) : Type 0 where
  pub stands : slice_get quotes (number - 1) ≡ Some own
  pub live : is_live own ≡ true
  pub number_is : number ≡ (number - 1) + 1
  pub within : number - 1 < length quotes
  pub line_within : number - 1 < length lines
  pub request_is : own.quote.request ≡ (own.quote.request - 1) + 1
  pub row_within : own.quote.request - 1 < length rows

pub is_read : (rows : List RequestRow) (quotes : List StandingQuote) (lines : List QuoteLine) (exposure first number : ℕ) (own : StandingQuote)
    → IsTable rows quotes lines exposure first → IsLiveNumber quotes number → own ≡ get_or quotes (number - 1) own → IsRead rows quotes lines number own
is_read rows quotes lines exposure first number own table lives is =
    let here : number ≡ lives.place + 1 = lives.number_is in
    let place : number - 1 ≡ lives.place = omega arith in
    let inside = within_from quotes lives.place lives.own lives.stands in
    let within : number - 1 < length quotes = omega arith in
    let stands : slice_get quotes (number - 1) ≡ Some own = read_at quotes (number - 1) own within is in
    let same : lives.own ≡ own = same_Some lives.own own (sym lives.stands ∙ ap (slice_get quotes) (sym place) ∙ stands) in
    let first_request = table.sound.from_first (number - 1) own stands in
    let last_request = table.sound.to_last (number - 1) own stands in
    let many : length lines ≡ length quotes = ap (λ (l : List QuoteLine). length l) table.lines_are ∙ length-map quotes line_of in
    record {
      stands = stands;
      live = ap is_live (sym same) ∙ lives.live;
      number_is = omega arith;
      within = within;
      line_within = omega arith;
      request_is = omega arith;
      row_within = omega (arith, length-map rows (λ (r : RequestRow). r.request));
    }

-- a quote that is read again behind its write
read_again : (quotes : List StandingQuote) (place : ℕ) (after read : StandingQuote) → place < length quotes → read ≡ get_or (set quotes place after) place read → read ≡ after
read_again quotes place after read within is = is ∙ get_or-set_same quotes place after read within

pub end_live_table : (rows : List RequestRow) (quotes : List StandingQuote) (lines : List QuoteLine) (exposure first number : ℕ) (how : QuoteEnd)
    (own : StandingQuote) (row : RequestRow) (line : QuoteLine) (read : StandingQuote) (state : QuoteState) (quantity : ℕ) (seen : List StandingQuote) (next : ℕ)
    → IsTable rows quotes lines exposure first → IsLiveNumber quotes number → own ≡ get_or quotes (number - 1) own
    → row ≡ get_or rows (own.quote.request - 1) row → line ≡ get_or lines (number - 1) line
    → read ≡ get_or (set quotes (number - 1) (record own { end = Some how })) (number - 1) read → state ≡ state_of read
    → quantity ≡ own.quote.quantity → seen ≡ set quotes (number - 1) (record own { end = Some how }) → next ≡ position_or_len is_droppable seen
    → IsTable (set rows (own.quote.request - 1) (record row { live = None })) (set quotes (number - 1) (record own { end = Some how }))
    (set lines (number - 1) (record line { state = state })) (exposure - quantity) next
end_live_table rows quotes lines exposure first number how own row line read state quantity seen next table lives is row_is line_is read_is state_is quantity_is seen_is next_is =
    let r = is_read rows quotes lines exposure first number own table lives is in
    let after = ended_table rows quotes lines exposure first (number - 1) (own.quote.request - 1) how own row line table r.stands r.live r.request_is
    (read_at rows (own.quote.request - 1) row r.row_within row_is) (read_at lines (number - 1) line r.line_within line_is) in
    let state_same : state ≡ state_of (record own { end = Some how }) = state_is ∙ ap state_of (read_again quotes (number - 1) (record own { end = Some how }) read r.within read_is) in
    subst (λ (s : QuoteState). IsTable (set rows (own.quote.request - 1) (record row { live = None })) (set quotes (number - 1) (record own { end = Some how })) (set lines (number - 1) (record line { state = s })) (exposure - quantity) next) (sym state_same)
    (subst (λ (q : ℕ). IsTable (set rows (own.quote.request - 1) (record row { live = None })) (set quotes (number - 1) (record own { end = Some how })) (set lines (number - 1) (record line { state = state_of (record own { end = Some how }) })) (exposure - q) next) (sym quantity_is)
    (subst (λ (n : ℕ). IsTable (set rows (own.quote.request - 1) (record row { live = None })) (set quotes (number - 1) (record own { end = Some how })) (set lines (number - 1) (record line { state = state_of (record own { end = Some how }) })) (exposure - own.quote.quantity) n)
    (sym (next_is ∙ ap (position_or_len is_droppable) seen_is)) after))

pub end_live_quotes : (rows : List RequestRow) (quotes : List StandingQuote) (lines : List QuoteLine) (exposure first number : ℕ) (how : QuoteEnd) (own : StandingQuote)
    → IsTable rows quotes lines exposure first → IsLiveNumber quotes number → own ≡ get_or quotes (number - 1) own
    → set quotes (number - 1) (record own { end = Some how }) ≡ map (ended_at number how) quotes
end_live_quotes rows quotes lines exposure first number how own table lives is =
    let r = is_read rows quotes lines exposure first number own table lives is in
    ended_quotes rows quotes lines exposure first (number - 1) how own table r.stands r.live ∙ ap (λ (n : ℕ). map (ended_at n how) quotes) (sym r.number_is)

-- the row of a quote's request, written without a change of the request
pub row_kept : (rows : List RequestRow) (quotes : List StandingQuote) (lines : List QuoteLine) (exposure first number : ℕ) (own : StandingQuote) (row other : RequestRow)
    → IsTable rows quotes lines exposure first → IsLiveNumber quotes number → own ≡ get_or quotes (number - 1) own
    → row ≡ get_or rows (own.quote.request - 1) row → other.request ≡ row.request
    → map (λ (r : RequestRow). r.request) (set rows (own.quote.request - 1) other) ≡ map (λ (r : RequestRow). r.request) rows
row_kept rows quotes lines exposure first number own row other table lives is row_is same =
    let r = is_read rows quotes lines exposure first number own table lives is in
    requests_kept rows (own.quote.request - 1) row other (read_at rows (own.quote.request - 1) row r.row_within row_is) same

-- none before the first droppable place begins to be droppable where one quote ends
pub none_before : (quotes : List StandingQuote) (place first : ℕ) (after : StandingQuote) → place < length quotes → first ≡ position_or_len is_droppable quotes → is_droppable after ≡ false
    → (k : ℕ) (y : StandingQuote) → k < first → slice_get (set quotes place after) k ≡ Some y → is_droppable y ≡ false
none_before quotes place first after within is gone k y below at = elim (set_at quotes place after k y within at) [
  | inl here ↦ ap is_droppable (sym here.1) ∙ gone
  | inr there ↦ before_place is_droppable quotes k y (subst (λ (n : ℕ). k < n) is below) there.1
]

pub first_within : (rows : List RequestRow) (quotes : List StandingQuote) (lines : List QuoteLine) (exposure first place : ℕ) (after : StandingQuote)
    → IsTable rows quotes lines exposure first → first ≤ length (set quotes place after)
first_within rows quotes lines exposure first place after table =
    let most = prefix_len-le-length (λ (q : StandingQuote). not (is_droppable q)) quotes in
    let is = table.first_is in
    omega (arith, length-set quotes place after)

pub find_lifted_table : (rows : List RequestRow) (quotes : List StandingQuote) (lines : List QuoteLine) (exposure first number : ℕ)
    (own : StandingQuote) (row : RequestRow) (line : QuoteLine) (read : StandingQuote) (state : QuoteState) (seen : List StandingQuote) (next : ℕ)
    → IsTable rows quotes lines exposure first → IsLiveNumber quotes number → own ≡ get_or quotes (number - 1) own
    → row ≡ get_or rows (own.quote.request - 1) row → line ≡ get_or lines (number - 1) line
    → read ≡ get_or (set quotes (number - 1) (record own { is_known_lifted = true })) (number - 1) read → state ≡ state_of read
    → seen ≡ set quotes (number - 1) (record own { is_known_lifted = true }) → next ≡ position_or_len is_droppable seen
    → IsTable (set rows (own.quote.request - 1) (record row { has_lifted = true })) (set quotes (number - 1) (record own { is_known_lifted = true }))
    (set lines (number - 1) (record line { state = state })) exposure next
find_lifted_table rows quotes lines exposure first number own row line read state seen next table lives is row_is line_is read_is state_is seen_is next_is =
    let r = is_read rows quotes lines exposure first number own table lives is in
    let after = late_table rows quotes lines exposure first (number - 1) (own.quote.request - 1) own row line table r.stands r.request_is
    (read_at rows (own.quote.request - 1) row r.row_within row_is) (read_at lines (number - 1) line r.line_within line_is) in
    let state_same : state ≡ state_of (record own { is_known_lifted = true }) = state_is ∙ ap state_of (read_again quotes (number - 1) (record own { is_known_lifted = true }) read r.within read_is) in
    subst (λ (s : QuoteState). IsTable (set rows (own.quote.request - 1) (record row { has_lifted = true })) (set quotes (number - 1) (record own { is_known_lifted = true })) (set lines (number - 1) (record line { state = s })) exposure next) (sym state_same)
    (subst (λ (n : ℕ). IsTable (set rows (own.quote.request - 1) (record row { has_lifted = true })) (set quotes (number - 1) (record own { is_known_lifted = true })) (set lines (number - 1) (record line { state = state_of (record own { is_known_lifted = true }) })) exposure n)
    (sym (next_is ∙ ap (position_or_len is_droppable) seen_is)) after)

pub find_lifted_quotes : (rows : List RequestRow) (quotes : List StandingQuote) (lines : List QuoteLine) (exposure first number : ℕ) (own : StandingQuote)
    → IsTable rows quotes lines exposure first → IsLiveNumber quotes number → own ≡ get_or quotes (number - 1) own
    → set quotes (number - 1) (record own { is_known_lifted = true }) ≡ map (late_at number) quotes
find_lifted_quotes rows quotes lines exposure first number own table lives is =
    let r = is_read rows quotes lines exposure first number own table lives is in
    late_quotes rows quotes lines exposure first (number - 1) own table r.stands ∙ ap (λ (n : ℕ). map (late_at n) quotes) (sym r.number_is)

-- Requests.

-- a row whose request alone changed
row_same : (quotes : List StandingQuote) (number : ℕ) (row other : RequestRow) → other.live ≡ row.live → other.has_lifted ≡ row.has_lifted → IsRow quotes number row → IsRow quotes number other
row_same quotes number row other live lifted is = record { live_is = live ∙ is.live_is; lifted_is = lifted ∙ is.lifted_is }

-- the requests after a change g of the one with a number
pub requests_changed : (rows : List RequestRow) (quotes : List StandingQuote) (number : ℕ) (row : RequestRow) (after : StandingRequest) (g : StandingRequest → StandingRequest)
    → IsSound (map (λ (r : RequestRow). r.request) rows) quotes → 1 ≤ number → number ≤ length rows → row ≡ get_or rows (number - 1) row
    → ((request : StandingRequest) → number ≡ request.number → request ≡ row.request → g request ≡ after)
    → ((request : StandingRequest) → (number == request.number) ≡ false → g request ≡ request)
    → map (λ (r : RequestRow). r.request) (set rows (number - 1) (record row { request = after })) ≡ map g (map (λ (r : RequestRow). r.request) rows)
requests_changed rows quotes number row after g sound first last is here others =
    let within : number - 1 < length rows = omega arith in
    let stands : slice_get rows (number - 1) ≡ Some row = read_at rows (number - 1) row within is in
    let requests = map (λ (r : RequestRow). r.request) rows in
    let request_stands : slice_get requests (number - 1) ≡ Some row.request = slice_get-map (λ (r : RequestRow). r.request) rows (number - 1) ∙ ap (option_map (λ (r : RequestRow). r.request)) stands in
    let numbered : row.request.number ≡ (number - 1) + 1 = sound.requests_numbered (number - 1) row.request request_stands in
    let same : number ≡ row.request.number = omega arith in
    map-set (λ (r : RequestRow). r.request) rows (number - 1) (record row { request = after })
    ∙ ap (set requests (number - 1)) (sym (here row.request same refl))
    ∙ set_map g requests (number - 1) row.request request_stands (λ k y at other. others y (false_from_ne_true (number == y.number) (λ so.
    let equal : number ≡ y.number = eqb-true number y.number so in
    let there : y.number ≡ k + 1 = sound.requests_numbered k y at in
    let e : k ≡ number - 1 = omega arith in other e)))

pub request_table : (rows : List RequestRow) (quotes : List StandingQuote) (lines : List QuoteLine) (exposure first number : ℕ) (row : RequestRow) (after : StandingRequest) (g : StandingRequest → StandingRequest)
    → IsTable rows quotes lines exposure first → 1 ≤ number → number ≤ length rows → row ≡ get_or rows (number - 1) row
    → ((request : StandingRequest) → (g request).number ≡ request.number)
    → map (λ (r : RequestRow). r.request) (set rows (number - 1) (record row { request = after })) ≡ map g (map (λ (r : RequestRow). r.request) rows)
    → IsTable (set rows (number - 1) (record row { request = after })) quotes lines exposure first
request_table rows quotes lines exposure first number row after g table least last is keeps changed =
    let within : number - 1 < length rows = omega arith in
    let stands : slice_get rows (number - 1) ≡ Some row = read_at rows (number - 1) row within is in
    record {
      sound = subst (λ (rs : List StandingRequest). IsSound rs quotes) (sym changed) (sound_requests (map (λ (r : RequestRow). r.request) rows) quotes g keeps table.sound);
      rows_are = λ k r at. elim (set_at rows (number - 1) (record row { request = after }) k r within at) [
        | inl here ↦ subst (λ (n : ℕ). IsRow quotes (n + 1) r) (sym here.0)
            (subst (λ (w : RequestRow). IsRow quotes ((number - 1) + 1) w) here.1 (row_same quotes ((number - 1) + 1) row (record row { request = after }) refl refl (table.rows_are (number - 1) row stands)))
        | inr there ↦ table.rows_are k r there.1
      ];
      lines_are = table.lines_are;
      exposure_is = table.exposure_is;
      exposure_fits = table.exposure_fits;
      first_is = table.first_is;
      few = table.few;
    }

number_kept : (b : Bool) (x y : StandingRequest) → x.number ≡ y.number → (cond b x y).number ≡ y.number
number_kept true x y e = e
number_kept false x y e = refl

pub declined_keeps : (number : ℕ) (request : StandingRequest) → (declined_at number request).number ≡ request.number
declined_keeps number request = number_kept (number == request.number) (record request { is_declined = true }) request refl

pub told_keeps : (number : ℕ) (request : StandingRequest) → (told_at number request).number ≡ request.number
told_keeps number request = number_kept (number == request.number) (record request { is_told = true }) request refl

pub declined_requests : (rows : List RequestRow) (quotes : List StandingQuote) (number : ℕ) (row : RequestRow)
    → IsSound (map (λ (r : RequestRow). r.request) rows) quotes → 1 ≤ number → number ≤ length rows → row ≡ get_or rows (number - 1) row
    → map (λ (r : RequestRow). r.request) (set rows (number - 1) (record row { request = record row.request { is_declined = true } })) ≡ map (declined_at number) (map (λ (r : RequestRow). r.request) rows)
declined_requests rows quotes number row sound first last is =
    requests_changed rows quotes number row (record row.request { is_declined = true }) (declined_at number) sound first last is
    (λ request same here. cond-true (number == request.number) (record request { is_declined = true }) request (eq-eqb number request.number same) ∙ ap (λ (r : StandingRequest). record r { is_declined = true }) here)
    (λ request other. cond-false (number == request.number) (record request { is_declined = true }) request other)

pub told_requests : (rows : List RequestRow) (quotes : List StandingQuote) (number : ℕ) (row : RequestRow)
    → IsSound (map (λ (r : RequestRow). r.request) rows) quotes → 1 ≤ number → number ≤ length rows → row ≡ get_or rows (number - 1) row
    → map (λ (r : RequestRow). r.request) (set rows (number - 1) (record row { request = record row.request { is_told = true } })) ≡ map (told_at number) (map (λ (r : RequestRow). r.request) rows)
told_requests rows quotes number row sound first last is =
    requests_changed rows quotes number row (record row.request { is_told = true }) (told_at number) sound first last is
    (λ request same here. cond-true (number == request.number) (record request { is_told = true }) request (eq-eqb number request.number same) ∙ ap (λ (r : StandingRequest). record r { is_told = true }) here)
    (λ request other. cond-false (number == request.number) (record request { is_told = true }) request other)
