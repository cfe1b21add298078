use Rattle.std.proofs.Common.{append_assoc, ◌∙◌, ◌≤◌, arith, length}
use Rattle.quote_messages.proofs.WritingLemmas.{decimal_len_le}
use Rattle.quote_messages.proofs.dealer_writing.put_closing_notice.Goals as goal

pub number-requires-3-clause-room : goal.number-requires-3-clause-room
number-requires-3-clause-room c =
    let name : length c.as_bytes.result.now ≤ 21 = rw (c.as_bytes.ensures.value, c.deref.ensures.0) c.notice_name.ensures.short in
    let request : length c.as_bytes-2.result.now ≤ 21 = rw (c.as_bytes-2.ensures.value, c.deref-2.ensures.0) c.request_name.ensures.short in
    omega (arith, decimal_len_le c.code.result, decimal_len_le c.code-2.result, decimal_len_le c.get.result, name, request, c.in_ok-text.ensures.left, c.in_ok-text-2.ensures.left, c.in_ok-put_hit_id.ensures.left, c.in_ok-number.ensures.left, c.in_ok-put_bond.ensures.left, c.in_ok-number-2.ensures.left)

pub put_hit_price-requires : goal.put_hit_price-requires
put_hit_price-requires c =
    let name : length c.as_bytes.result.now ≤ 21 = rw (c.as_bytes.ensures.value, c.deref.ensures.0) c.notice_name.ensures.short in
    let request : length c.as_bytes-2.result.now ≤ 21 = rw (c.as_bytes-2.ensures.value, c.deref-2.ensures.0) c.request_name.ensures.short in
    omega (arith, decimal_len_le c.code.result, decimal_len_le c.code-2.result, decimal_len_le c.get.result, name, request, c.in_ok-text.ensures.left, c.in_ok-text-2.ensures.left, c.in_ok-put_hit_id.ensures.left, c.in_ok-number.ensures.left, c.in_ok-put_bond.ensures.left, c.in_ok-number-2.ensures.left, c.in_ok-number-3.ensures.left)

pub returns : goal.returns
returns c =
    let name = c.as_bytes.ensures.value ∙ c.deref.ensures.0 ∙ c.notice_name.ensures.name in
    let request = c.as_bytes-2.ensures.value ∙ c.deref-2.ensures.0 ∙ c.request_name.ensures.name in
    rw (c.in_ok-put_hit_price.ensures, c.in_ok-number-3.ensures.ok, c.in_ok-number-2.ensures.ok, c.in_ok-put_bond.ensures.fields, c.in_ok-number.ensures.ok, c.in_ok-put_hit_id.ensures.fields, c.in_ok-text-2.ensures.ok, c.in_ok-text.ensures.ok)
    (rw (name, request, c.code.ensures.code, c.code-2.ensures.code, c.get.ensures.value) (simp append_assoc))
