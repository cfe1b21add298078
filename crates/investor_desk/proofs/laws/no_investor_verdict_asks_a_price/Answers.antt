use Rattle.investor_desk.proofs.UnpricedDesks.{book_same, kept_same, knows_same, verdict_same}
use Rattle.investor_desk.proofs.laws.no_investor_verdict_asks_a_price.Goals as goal

pub returns : goal.returns
returns c = record {
  verdicts = verdict_same;
  known = knows_same;
  kept = kept_same;
  books = book_same;
}
