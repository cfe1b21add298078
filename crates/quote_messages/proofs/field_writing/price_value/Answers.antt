use Rattle.quote_messages.proofs.WritingLemmas.{price_is_value}
use Rattle.quote_messages.proofs.field_writing.price_value.Goals as goal

pub returns-clause-field : goal.returns-clause-field
returns-clause-field c = price_is_value c.price_text.result.bytes c.args.price c.price_text.ensures.shortest
