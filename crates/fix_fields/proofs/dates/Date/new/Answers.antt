use Rattle.fix_fields.proofs.DateLemmas.{date_exact}
use Rattle.fix_fields.proofs.dates.Date.new.Goals as goal

pub returns-clause-exact : goal.returns-clause-exact
returns-clause-exact c = date_exact c.args.digits.now c.read.result c.read.ensures
