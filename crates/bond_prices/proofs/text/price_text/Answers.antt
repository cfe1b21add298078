use Rattle.std.proofs.Common.{◌∙◌}
use Rattle.bond_prices.proofs.ReadBack.{price_digits-shortest, length-price_digits}
use Rattle.bond_prices.proofs.ReadBack.{price_of-price_digits, price_digits-injective}
use Rattle.bond_prices.proofs.text.price_text.Goals as goal

pub returns-clause-shortest : goal.returns-clause-shortest
returns-clause-shortest c = rw c.points_text.ensures.exact (price_digits-shortest c.args.price c.points_text.ensures.at_least_one c.points_text.ensures.at_most)

pub returns-clause-read_back : goal.returns-clause-read_back
returns-clause-read_back c = rw c.points_text.ensures.exact (price_of-price_digits c.args.price c.points_text.ensures.at_least_one c.points_text.ensures.at_most)

pub returns-clause-distinct : goal.returns-clause-distinct
returns-clause-distinct c = λ n range same. price_digits-injective n c.args.price range.0 range.1 c.points_text.ensures.at_least_one c.points_text.ensures.at_most (same ∙ c.points_text.ensures.exact)

pub returns-clause-short : goal.returns-clause-short
returns-clause-short c = rw c.points_text.ensures.exact (length-price_digits c.args.price c.points_text.ensures.at_most)
