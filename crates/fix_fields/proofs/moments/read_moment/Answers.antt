use Rattle.std.proofs.Common.{sym, ◌∙◌}
use Rattle.fix_fields.proofs.MomentLemmas.{moment_of-other, moment_of-own, moment_of-other_day}
use Rattle.fix_fields.proofs.MomentLemmas.{is_own, is_form, is_other_day}
use Rattle.fix_fields.proofs.moments.read_moment.Goals as goal

pub returns-clause-read : goal.returns-clause-read
returns-clause-read c = λ n. (
  λ is. is_own c.args.date.now n c.args.text.now (sym c.read.ensures ∙ is),
  λ spelled. c.read.ensures ∙ moment_of-own c.args.date.now n c.args.text.now spelled,
)

pub returns-clause-form : goal.returns-clause-form
returns-clause-form c = (
  λ is. is_form c.args.date.now c.args.text.now (sym c.read.ensures ∙ is),
  λ none. c.read.ensures ∙ moment_of-other c.args.date.now c.args.text.now none,
)

pub returns-clause-other_day : goal.returns-clause-other_day
returns-clause-other_day c = (
  λ is. is_other_day c.args.date.now c.args.text.now (sym c.read.ensures ∙ is),
  λ other. c.read.ensures ∙ moment_of-other_day c.args.date.now other.0 other.1 c.args.text.now other.2 other.3,
)
