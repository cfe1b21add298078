-- What a table keeps when one of its quotes changes.
use Rattle.std.proofs.Common.{◌≡◌, ◌<◌, ◌≤◌, ℕ, ◌+◌, ◌-◌, true, ◌==◌, List, length, map, set, Some}
use Rattle.std.proofs.Common.{None, slice_get, refl, sym, ap, subst, ◌∙◌, arith, length-set}
use Rattle.std.specs.List.{sum_by, position_or_len}
use Rattle.std.specs.Option.{option_or}
use Rattle.std.proofs.lemmas.Option.{same_Some, get_or_from_slice_get}
use Rattle.std.proofs.lemmas.List.{map-set}
use Rattle.std.proofs.lemmas.List.Sums.{sum_by-set}
use Rattle.std.proofs.lemmas.Bool.{cond-false}
use Rattle.market_terms.specs.declared.lines.QuoteLine.{QuoteLine}
use Rattle.dealer_desk.specs.DealerFacts.{is_live, is_droppable, live_quantity}
use Rattle.dealer_desk.specs.QuoteLines.{state_of, line_of}
use Rattle.dealer_desk.specs.BookChanges.{IsSound, ended_at, late_at}
use Rattle.dealer_desk.specs.DealerTable.{IsTable, IsRow}
use Rattle.dealer_desk.specs.declared.accepted.AcceptedQuote.{AcceptedQuote}
use Rattle.dealer_desk.specs.declared.standing.StandingRequest.{StandingRequest}
use Rattle.dealer_desk.specs.declared.standing.StandingQuote.{StandingQuote}
use Rattle.dealer_desk.specs.declared.standing.QuoteEnd.{QuoteEnd}
use Rattle.dealer_desk.specs.declared.standing.QuoteEnd.TheVariants as end
use Rattle.market_terms.specs.declared.closes.Close.TheVariants as closes
use Rattle.dealer_desk.specs.declared.table.RequestRow.{RequestRow}
use Rattle.dealer_desk.proofs.ListLemmas.{set_map, set_same, mapped_at, within_from}
use Rattle.dealer_desk.proofs.SoundLemmas.{sound_mapped}
use Rattle.dealer_desk.proofs.QuoteChanges.{ended_keeps, late_keeps, ended_lives, late_lives}
use Rattle.dealer_desk.proofs.QuoteChanges.{ended_known, other_number, ended_own, late_own, Changes}
use Rattle.dealer_desk.proofs.QuoteChanges.{rows_changed, row_ended, row_late}

-- the requests, after a write of a row that leaves its request as it is
pub requests_kept : (rows : List RequestRow) (i : ℕ) (row other : RequestRow) → slice_get rows i ≡ Some row → other.request ≡ row.request
    → map (λ (r : RequestRow). r.request) (set rows i other) ≡ map (λ (r : RequestRow). r.request) rows
requests_kept rows i row other at same =
    map-set (λ (r : RequestRow). r.request) rows i other
    ∙ ap (set (map (λ (r : RequestRow). r.request) rows) i) same
    ∙ sym (map-set (λ (r : RequestRow). r.request) rows i row)
    ∙ ap (map (λ (r : RequestRow). r.request)) (set_same rows i row at)

-- the lines, after a write of a quote and of the state of its line
lines_changed : (quotes : List StandingQuote) (lines : List QuoteLine) (place : ℕ) (own after : StandingQuote) (line : QuoteLine)
    → lines ≡ map line_of quotes → slice_get quotes place ≡ Some own → slice_get lines place ≡ Some line → after.quote ≡ own.quote
    → set lines place (record line { state = state_of after }) ≡ map line_of (set quotes place after)
lines_changed quotes lines place own after line are stands at same =
    let from = mapped_at line_of quotes place line (ap (λ (l : List QuoteLine). slice_get l place) (sym are) ∙ at) in
    let here : own ≡ from.0 = same_Some own from.0 (sym stands ∙ from.1) in
    let was : line_of own ≡ line = ap line_of here ∙ from.2 in
    let now : record line { state = state_of after } ≡ line_of after =
    ap (λ (l : QuoteLine). record l { state = state_of after }) (sym was)
    ∙ ap (λ (q : AcceptedQuote). line_of (record after { quote = q })) (sym same) in
    ap (λ (l : List QuoteLine). set l place (record line { state = state_of after })) are
    ∙ ap (set (map line_of quotes) place) now
    ∙ sym (map-set line_of quotes place after)

-- the sum of what the live quotes add, after a write
pub sum_changed : (quotes : List StandingQuote) (place : ℕ) (own after : StandingQuote) → slice_get quotes place ≡ Some own
    → sum_by live_quantity (set quotes place after) + live_quantity own ≡ sum_by live_quantity quotes + live_quantity after
sum_changed quotes place own after stands =
    let within : place < length quotes = within_from quotes place own stands in
    ap (λ (q : StandingQuote). sum_by live_quantity (set quotes place after) + live_quantity q) (sym (get_or_from_slice_get quotes place own own stands))
    ∙ sum_by-set live_quantity quotes place after own within

pub quantity_live : (own : StandingQuote) → is_live own ≡ true → live_quantity own ≡ own.quote.quantity
quantity_live own live = rw live refl

-- what a live quote adds is within the exposure
pub quantity_within : (rows : List RequestRow) (quotes : List StandingQuote) (lines : List QuoteLine) (exposure first place : ℕ) (own : StandingQuote)
    → IsTable rows quotes lines exposure first → slice_get quotes place ≡ Some own → is_live own ≡ true → own.quote.quantity ≤ exposure
quantity_within rows quotes lines exposure first place own table stands live =
    let sum = sum_changed quotes place own (record own { end = Some (end.Closed closes.Pass) }) stands in
    let adds = quantity_live own live in
    let is = table.exposure_is in
    omega arith

-- the table after the live quote at a place ended
pub ended_table : (rows : List RequestRow) (quotes : List StandingQuote) (lines : List QuoteLine) (exposure first place i : ℕ) (how : QuoteEnd) (own : StandingQuote) (row : RequestRow) (line : QuoteLine)
    → IsTable rows quotes lines exposure first → slice_get quotes place ≡ Some own → is_live own ≡ true → own.quote.request ≡ i + 1
    → slice_get rows i ≡ Some row → slice_get lines place ≡ Some line
    → IsTable (set rows i (record row { live = None })) (set quotes place (record own { end = Some how })) (set lines place (record line { state = state_of (record own { end = Some how }) }))
    (exposure - own.quote.quantity) (position_or_len is_droppable (set quotes place (record own { end = Some how })))
ended_table rows quotes lines exposure first place i how own row line table stands live request_is at_row at_line =
    let sound = table.sound in
    let same : place + 1 ≡ own.quote.number = sym (sound.quotes_numbered place own stands) in
    let after : ended_at (place + 1) how own ≡ record own { end = Some how } = ended_own (place + 1) how own same live in
    let others : (k : ℕ) (y : StandingQuote) → slice_get quotes k ≡ Some y → (k ≡ place → ⊥) → ended_at (place + 1) how y ≡ y =
    λ k y at other. cond-false (place + 1 == y.quote.number) (record y { end = option_or y.end (Some how) }) y (other_number (map (λ (r : RequestRow). r.request) rows) quotes (place + 1) place k y sound refl at other) in
    let as_map : set quotes place (record own { end = Some how }) ≡ map (ended_at (place + 1) how) quotes =
    ap (set quotes place) (sym after) ∙ set_map (ended_at (place + 1) how) quotes place own stands others in
    let change : Changes quotes (ended_at (place + 1) how) place i own = record {
      keeps = ended_keeps (place + 1) how;
      lives = ended_lives (place + 1) how;
      others = others;
      stands = stands;
      request_is = request_is;
    } in
    let requests = requests_kept rows i row (record row { live = None }) at_row refl in
    let sum = sum_changed quotes place own (record own { end = Some how }) stands in
    let adds = quantity_live own live in
    let is = table.exposure_is in
    let fits = table.exposure_fits in
    let few = table.few in
    record {
      sound = subst (λ (rs : List StandingRequest). IsSound rs (set quotes place (record own { end = Some how }))) (sym requests)
          (subst (IsSound (map (λ (r : RequestRow). r.request) rows)) (sym as_map)
          (sound_mapped (map (λ (r : RequestRow). r.request) rows) quotes (ended_at (place + 1) how) (ended_keeps (place + 1) how) (ended_lives (place + 1) how) sound));
      rows_are = λ k r at. subst (λ (qs : List StandingQuote). IsRow qs (k + 1) r) (sym as_map)
          (rows_changed rows quotes (ended_at (place + 1) how) place i own (record row { live = None }) change (within_from rows i row at_row) table.rows_are
          (row_ended (map (λ (r2 : RequestRow). r2.request) rows) quotes (ended_at (place + 1) how) place i own row sound change live (ap is_live after) (ended_known (place + 1) how) (table.rows_are i row at_row)) k r at);
      lines_are = lines_changed quotes lines place own (record own { end = Some how }) line table.lines_are stands at_line refl;
      exposure_is = omega arith;
      exposure_fits = omega arith;
      first_is = refl;
      few = omega (arith, length-set quotes place (record own { end = Some how }));
    }

-- the same as a change of all quotes
pub ended_quotes : (rows : List RequestRow) (quotes : List StandingQuote) (lines : List QuoteLine) (exposure first place : ℕ) (how : QuoteEnd) (own : StandingQuote)
    → IsTable rows quotes lines exposure first → slice_get quotes place ≡ Some own → is_live own ≡ true
    → set quotes place (record own { end = Some how }) ≡ map (ended_at (place + 1) how) quotes
ended_quotes rows quotes lines exposure first place how own table stands live =
    let sound = table.sound in
    let same : place + 1 ≡ own.quote.number = sym (sound.quotes_numbered place own stands) in
    ap (set quotes place) (sym (ended_own (place + 1) how own same live))
    ∙ set_map (ended_at (place + 1) how) quotes place own stands
    (λ k y at other. cond-false (place + 1 == y.quote.number) (record y { end = option_or y.end (Some how) }) y (other_number (map (λ (r : RequestRow). r.request) rows) quotes (place + 1) place k y sound refl at other))

-- the table after the live quote at a place was found lifted
pub late_table : (rows : List RequestRow) (quotes : List StandingQuote) (lines : List QuoteLine) (exposure first place i : ℕ) (own : StandingQuote) (row : RequestRow) (line : QuoteLine)
    → IsTable rows quotes lines exposure first → slice_get quotes place ≡ Some own → own.quote.request ≡ i + 1
    → slice_get rows i ≡ Some row → slice_get lines place ≡ Some line
    → IsTable (set rows i (record row { has_lifted = true })) (set quotes place (record own { is_known_lifted = true })) (set lines place (record line { state = state_of (record own { is_known_lifted = true }) }))
    exposure (position_or_len is_droppable (set quotes place (record own { is_known_lifted = true })))
late_table rows quotes lines exposure first place i own row line table stands request_is at_row at_line =
    let sound = table.sound in
    let same : place + 1 ≡ own.quote.number = sym (sound.quotes_numbered place own stands) in
    let after : late_at (place + 1) own ≡ record own { is_known_lifted = true } = late_own (place + 1) own same in
    let others : (k : ℕ) (y : StandingQuote) → slice_get quotes k ≡ Some y → (k ≡ place → ⊥) → late_at (place + 1) y ≡ y =
    λ k y at other. cond-false (place + 1 == y.quote.number) (record y { is_known_lifted = true }) y (other_number (map (λ (r : RequestRow). r.request) rows) quotes (place + 1) place k y sound refl at other) in
    let as_map : set quotes place (record own { is_known_lifted = true }) ≡ map (late_at (place + 1)) quotes =
    ap (set quotes place) (sym after) ∙ set_map (late_at (place + 1)) quotes place own stands others in
    let lives : (y : StandingQuote) → is_live (late_at (place + 1) y) ≡ true → is_live y ≡ true = λ y h. sym (late_lives (place + 1) y) ∙ h in
    let change : Changes quotes (late_at (place + 1)) place i own = record {
      keeps = late_keeps (place + 1);
      lives = lives;
      others = others;
      stands = stands;
      request_is = request_is;
    } in
    let requests = requests_kept rows i row (record row { has_lifted = true }) at_row refl in
    let sum = sum_changed quotes place own (record own { is_known_lifted = true }) stands in
    let is = table.exposure_is in
    let fits = table.exposure_fits in
    let few = table.few in
    record {
      sound = subst (λ (rs : List StandingRequest). IsSound rs (set quotes place (record own { is_known_lifted = true }))) (sym requests)
          (subst (IsSound (map (λ (r : RequestRow). r.request) rows)) (sym as_map)
          (sound_mapped (map (λ (r : RequestRow). r.request) rows) quotes (late_at (place + 1)) (late_keeps (place + 1)) lives sound));
      rows_are = λ k r at. subst (λ (qs : List StandingQuote). IsRow qs (k + 1) r) (sym as_map)
          (rows_changed rows quotes (late_at (place + 1)) place i own (record row { has_lifted = true }) change (within_from rows i row at_row) table.rows_are
          (row_late quotes (late_at (place + 1)) place i own row change (late_lives (place + 1)) (ap (λ (q : StandingQuote). q.is_known_lifted) after) (table.rows_are i row at_row)) k r at);
      lines_are = lines_changed quotes lines place own (record own { is_known_lifted = true }) line table.lines_are stands at_line refl;
      exposure_is = omega arith;
      exposure_fits = fits;
      first_is = refl;
      few = omega (arith, length-set quotes place (record own { is_known_lifted = true }));
    }

-- the same as a change of all quotes
pub late_quotes : (rows : List RequestRow) (quotes : List StandingQuote) (lines : List QuoteLine) (exposure first place : ℕ) (own : StandingQuote)
    → IsTable rows quotes lines exposure first → slice_get quotes place ≡ Some own
    → set quotes place (record own { is_known_lifted = true }) ≡ map (late_at (place + 1)) quotes
late_quotes rows quotes lines exposure first place own table stands =
    let sound = table.sound in
    let same : place + 1 ≡ own.quote.number = sym (sound.quotes_numbered place own stands) in
    ap (set quotes place) (sym (late_own (place + 1) own same))
    ∙ set_map (late_at (place + 1)) quotes place own stands
    (λ k y at other. cond-false (place + 1 == y.quote.number) (record y { is_known_lifted = true }) y (other_number (map (λ (r : RequestRow). r.request) rows) quotes (place + 1) place k y sound refl at other))
