-- What the index of a desk keeps. Only private functions and invariants say this.
use Rattle.std.specs.Prelude.{◌≡◌, ◌≤◌, ◌<◌, ℕ, ◌+◌, ◌^◌, List, map, find, count_by, length}
use Rattle.std.specs.Prelude.{slice_get, Some}
use Rattle.std.specs.Option.{option_map}
use Rattle.std.specs.BTreeMap.{BTreeMap, get}
use Rattle.std.specs.Cmp.Lexicographic.{slice_cmp}
use Rattle.std.specs.Ordering.{nat_cmp}
use Rattle.venue_rows.specs.Texts.{same_text}
use Rattle.market_terms.specs.declared.lines.RequestLine.{RequestLine}
use Rattle.investor_desk.specs.InvestorFacts.{StandingRequest, is_open}
use Rattle.investor_desk.specs.RequestLines.{line_of}
use Rattle.investor_desk.specs.declared.index.RequestRow.{RequestRow}
use Rattle.investor_desk.specs.declared.standing.ShownOffer.{ShownOffer}

-- the request that a row is of
abbrev pub request_in : RequestRow → StandingRequest
request_in row = record { request = row.request; close = row.close; standing = row.standing.items }

-- the requests that rows are of
abbrev pub requests_in : List RequestRow → List StandingRequest
requests_in rows = map request_in rows

-- what an index keeps beside its requests and quotes, and how it numbers them
pub record IsIndex (used : ℕ) (requests : List StandingRequest) (offers : List ShownOffer)
    (lines : List RequestLine) (open_now : ℕ)
    (by_id : BTreeMap (List ℕ) ℕ) : Type 0 where
  pub used_fits : used < 2 ^ 63
  pub requests_numbered : (k : ℕ) (own : StandingRequest) → slice_get requests k ≡ Some own
      → own.request.number ≡ k + 1
  pub offers_numbered : (k : ℕ) (shown : ShownOffer) → slice_get offers k ≡ Some shown
      → shown.number ≡ k + 1
  pub lines_are : lines ≡ map line_of requests
  pub open_is : open_now ≡ count_by is_open requests
  pub few : length requests ≤ 4294967295
  pub ids_are : (id : List ℕ) → get (slice_cmp nat_cmp) by_id id
      ≡ option_map (λ own. own.request.number) (find (λ own. same_text own.request.id id) requests)
