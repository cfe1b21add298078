use Rattle.std.proofs.Common.{append_assoc, ◌∙◌}
use Rattle.quote_messages.proofs.dealer_writing.put_request.Goals as goal

pub returns : goal.returns
returns c =
    let name = c.as_bytes.ensures.value ∙ c.deref.ensures.0 ∙ c.request_name-name.ensures.name in
    let deadline = c.moment_bytes.ensures.text in
    rw (c.in_ok-put_party.ensures, c.in_ok-text-3.ensures.ok, c.in_ok-number-2.ensures.ok, c.in_ok-number.ensures.ok, c.in_ok-put_bond.ensures.fields, c.in_ok-text-2.ensures.ok, c.in_ok-text.ensures.ok)
    (rw (name, deadline, c.code.ensures.code, c.get.ensures.value) (simp append_assoc))
