-- How many fields a message has behind its header.
use Rattle.std.proofs.Common.{ℕ, ◌+◌, ◌≤◌, List, [], ◌∷◌, ◌++◌, codes, decimal, length, Option}
use Rattle.std.proofs.Common.{Some}
use Rattle.std.proofs.Common.{None, arith, length-append}
use Rattle.fix_fields.specs.Frame.{Field}
use Rattle.market_terms.specs.Codes.{close_code, side_code}
use Rattle.market_terms.specs.declared.asks.Side.{Side}
use Rattle.market_terms.specs.declared.closes.HitRefusal.{HitRefusal}
use Rattle.quote_messages.specs.Codes.{session_reject_code}
use Rattle.quote_messages.specs.Written.{bond_fields, body_fields, cancel_status, closing_fields}
use Rattle.quote_messages.specs.Written.{hit_id, hit_price, hit_quote, hit_status, party_fields}
use Rattle.quote_messages.specs.Written.{pass_status, received_id, ref_msg_type, report_status}
use Rattle.quote_messages.specs.Written.{valid_until_field}
use Rattle.quote_messages.specs.declared.out_messages.CancelStatus.{CancelStatus}
use Rattle.quote_messages.specs.declared.out_messages.CancelStatus.TheVariants as cancel
use Rattle.quote_messages.specs.declared.out_messages.ClosingNotice.{ClosingNotice}
use Rattle.quote_messages.specs.declared.out_messages.OutMessage.{OutMessage}
use Rattle.quote_messages.specs.declared.out_messages.OutMessage.TheVariants as out
use Rattle.quote_messages.specs.declared.out_messages.PassStatus.{PassStatus}
use Rattle.quote_messages.specs.declared.out_messages.PassStatus.TheVariants as pass
use Rattle.quote_messages.specs.declared.out_messages.QuotedPrice.{QuotedPrice}
use Rattle.quote_messages.specs.declared.out_messages.OfferedQuote.{OfferedQuote}
use Rattle.quote_messages.specs.declared.reject_reasons.QuoteRejectReason.{QuoteRejectReason}

type_few : (found : Option (List ℕ)) → length (ref_msg_type found) ≤ 1
type_few None = omega arith
type_few (Some text) = omega arith

report_few : (accepted : List ℕ) (refusal : Option QuoteRejectReason)
    → length (report_status accepted refusal) ≤ 2
report_few accepted None = omega arith
report_few accepted (Some reason) = omega arith

received_few : (id : Option (List ℕ)) → length (received_id id) ≤ 1
received_few None = omega arith
received_few (Some id) = omega arith

cancel_few : (status : CancelStatus) → length (cancel_status status) ≤ 2
cancel_few cancel.Withdrawn = omega arith
cancel_few cancel.Unknown = omega arith
cancel_few (cancel.Refused reason) = omega arith

id_few : (quote : Option QuotedPrice) → length (hit_id quote) ≤ 1
id_few None = omega arith
id_few (Some quote) = omega arith

price_few : (asked : Side) (quote : Option QuotedPrice) → length (hit_price asked quote) ≤ 1
price_few asked None = omega arith
price_few asked (Some quote) = omega arith

until_few : (date : List ℕ) (until : Option ℕ) → length (valid_until_field date until) ≤ 1
until_few date None = omega arith
until_few date (Some moment) = omega arith

hit_few : (refusal : Option HitRefusal) → length (hit_status refusal) ≤ 3
hit_few None = omega arith
hit_few (Some refusal) = omega arith

pass_few : (status : PassStatus) → length (pass_status status) ≤ 3
pass_few pass.Passed = omega arith
pass_few pass.NotOpen = omega arith
pass_few pass.Unknown = omega arith

appended : (one other : List Field) (n m : ℕ) → length one ≤ n → length other ≤ m
    → length (one ++ other) ≤ n + m
appended one other n m first second = omega (arith, length-append one other)

notice_few : (notice : ClosingNotice) → length (closing_fields notice) ≤ 14
notice_few notice =
    let ask = notice.request.ask in
    let hit = hit_quote notice.close notice.quote in
    let close : List Field = (694, decimal (close_code notice.close)) ∷ [] in
    let terms : List Field = (54, decimal (side_code ask.side)) ∷ (38, decimal ask.quantity) ∷ [] in
    let id = id_few hit in
    let price = price_few ask.side hit in
    let front = appended (hit_id hit) close 1 1 id (omega arith) in
    let bond = appended (hit_id hit ++ close) (bond_fields ask.bond) 2 3 front (omega arith) in
    let more = appended (hit_id hit ++ close ++ bond_fields ask.bond) terms 5 2 bond (omega arith)
    in
    let all = appended (hit_id hit ++ close ++ bond_fields ask.bond ++ terms)
    (hit_price ask.side hit) 7 1
    more price in
    omega (arith, all)

quote_few : (date : List ℕ) (quote : OfferedQuote)
    → length (body_fields date (out.OfferedQuote quote)) ≤ 14
quote_few date quote =
    let until = valid_until_field date quote.valid_until in
    let kind : List Field = (537, codes "1") ∷ [] in
    let front = appended until kind 1 1 (until_few date quote.valid_until) (omega arith) in
    let all = appended (until ++ kind) (party_fields quote.dealer (codes "35")) 2 4 front
    (omega arith) in
    omega (arith, all)

pub body_few : (date : List ℕ) (message : OutMessage) → length (body_fields date message) ≤ 14
body_few date (out.Reject reject) =
    let all = appended (ref_msg_type reject.msg_type)
    ((373, decimal (session_reject_code reject.fault.reason)) ∷ []) 1 1 (type_few reject.msg_type)
    (omega arith) in
    omega (arith, all)
body_few date (out.Request request) = omega arith
body_few date (out.QuoteReport request id refusal) =
    let most = report_few (codes "0") refusal in omega (arith, most)
body_few date (out.CancelReport id status) =
    let all = appended (received_id id) (cancel_status status) 1 2 (received_few id)
    (cancel_few status) in
    omega (arith, all)
body_few date (out.DeclineReport request refusal) =
    let most = report_few (codes "11") refusal in omega (arith, most)
body_few date (out.ClosingNotice notice) = notice_few notice
body_few date (out.RequestAccepted request) = omega arith
body_few date (out.RequestRefused request bond reason) = omega arith
body_few date (out.OfferedQuote quote) = quote_few date quote
body_few date (out.QuoteGone request quote) = omega arith
body_few date (out.DealerDeclined request dealer) = omega arith
body_few date (out.HitReport id request quote refusal) =
    let most = hit_few refusal in omega (arith, most)
body_few date (out.HitUnknown id quote) = omega arith
body_few date (out.PassReport id request status) =
    let most = pass_few status in omega (arith, most)
body_few date (out.RequestExpired request) = omega arith
