use Rattle.dealer_desk.proofs.UnpricedBooks.{book_same}
use Rattle.dealer_desk.proofs.UnpricedVerdicts.{kept_same, verdict_same}
use Rattle.dealer_desk.proofs.laws.no_dealer_verdict_asks_a_price.Goals as goal

pub returns : goal.returns
returns c = record { verdicts = verdict_same; kept = kept_same; books = book_same }
