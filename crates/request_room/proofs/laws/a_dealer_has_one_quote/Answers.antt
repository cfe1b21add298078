use Rattle.request_room.proofs.BookLemmas.{one_quote_each}
use Rattle.request_room.proofs.laws.a_dealer_has_one_quote.Goals as goal

pub returns : goal.returns
returns c = one_quote_each
