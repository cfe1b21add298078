use Rattle.bond_prices.proofs.Quotation.{thirty_seconds-quoted}
use Rattle.bond_prices.proofs.quoting.thirty_seconds.Goals as goal

pub returns-clause-quoted : goal.returns-clause-quoted
returns-clause-quoted c = rw c.quoted_text.ensures.exact (thirty_seconds-quoted c.args.price)
