use Rattle.bond_prices.proofs.Meaning.{price_of-ok_iff, price_of-form_iff, price_of-range_iff}
use Rattle.bond_prices.proofs.Meaning.{price_of-grid_iff}
use Rattle.bond_prices.proofs.read.read_price.Goals as goal

pub returns-clause-read : goal.returns-clause-read
returns-clause-read c = λ n. rw c.read_exactly.ensures.exact (price_of-ok_iff c.args.text.now n)

pub returns-clause-form : goal.returns-clause-form
returns-clause-form c = rw c.read_exactly.ensures.exact (price_of-form_iff c.args.text.now)

pub returns-clause-range : goal.returns-clause-range
returns-clause-range c = rw c.read_exactly.ensures.exact (price_of-range_iff c.args.text.now)

pub returns-clause-grid : goal.returns-clause-grid
returns-clause-grid c = rw c.read_exactly.ensures.exact (price_of-grid_iff c.args.text.now)
