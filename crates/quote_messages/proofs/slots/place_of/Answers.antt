use Rattle.quote_messages.proofs.PlaceLemmas.{place_at, few_places}
use Rattle.quote_messages.proofs.slots.place_of.Goals as goal

pub returns-then-tag-lt150-clause-place : goal.returns-then-tag-lt150-clause-place
returns-then-tag-lt150-clause-place c = place_at c.args.tag c.if-tag-lt150.true

pub returns-then-tag-lt150-clause-within : goal.returns-then-tag-lt150-clause-within
returns-then-tag-lt150-clause-within c = rw (place_at c.args.tag c.if-tag-lt150.true) (few_places c.args.tag)
