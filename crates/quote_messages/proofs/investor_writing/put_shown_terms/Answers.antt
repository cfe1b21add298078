use Rattle.std.proofs.Common.{append_assoc, ◌∙◌, ◌≤◌, arith, length}
use Rattle.quote_messages.proofs.WritingLemmas.{decimal_len_le}
use Rattle.quote_messages.proofs.investor_writing.put_shown_terms.Goals as goal

pub text-requires-clause-room : goal.text-requires-clause-room
text-requires-clause-room c =
    let price : length c.as_bytes.result.now ≤ 12 = rw (c.as_bytes.ensures.value, c.deref.ensures.0) c.price_value-price.ensures.short in
    omega (arith, decimal_len_le c.code.result, decimal_len_le c.price_tag.result, price, c.in_ok-number.ensures.left)

pub number-requires-2-clause-room : goal.number-requires-2-clause-room
number-requires-2-clause-room c =
    let price : length c.as_bytes.result.now ≤ 12 = rw (c.as_bytes.ensures.value, c.deref.ensures.0) c.price_value-price.ensures.short in
    omega (arith, decimal_len_le c.code.result, decimal_len_le c.price_tag.result, decimal_len_le c.size_tag.result, decimal_len_le c.get.result, price, c.in_ok-number.ensures.left, c.in_ok-text.ensures.left)

pub returns-clause-left : goal.returns-clause-left
returns-clause-left c =
    let price : length c.as_bytes.result.now ≤ 12 = rw (c.as_bytes.ensures.value, c.deref.ensures.0) c.price_value-price.ensures.short in
    omega (arith, decimal_len_le c.code.result, decimal_len_le c.price_tag.result, decimal_len_le c.size_tag.result, decimal_len_le c.get.result, price, c.in_ok-number.ensures.left, c.in_ok-text.ensures.left, c.in_ok-number-2.ensures.left)

pub returns-clause-fields : goal.returns-clause-fields
returns-clause-fields c =
    let price = c.as_bytes.ensures.value ∙ c.deref.ensures.0 ∙ c.price_value-price.ensures.digits in
    rw (c.in_ok-number-2.ensures.ok, c.in_ok-text.ensures.ok, c.in_ok-number.ensures.ok)
    (rw (price, c.code.ensures.code, c.price_tag.ensures.tag, c.size_tag.ensures.tag, c.get.ensures.value) (simp append_assoc))
