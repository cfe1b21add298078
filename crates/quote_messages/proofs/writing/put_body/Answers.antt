use Rattle.quote_messages.proofs.writing.put_body.Goals as goal

pub returns-in-Request : goal.returns-in-Request
returns-in-Request c = rw c.in-Request.is c.put_request.ensures
