use Rattle.std.proofs.Common.{◌∙◌}
use Rattle.laws_dues.proofs.ReadAgain.{own_tested}
use Rattle.laws_dues.proofs.read_again.date_is_tested.Goals as goal

pub returns-clause-tested : goal.returns-clause-tested
returns-clause-tested c =
    own_tested c.new.result c.as_slice.result.now c.args.date.now
    (c.as_slice.ensures ∙ c.digits.ensures.digits) c.digits.ensures.date c.new.ensures.read
    c.new.ensures.exact
