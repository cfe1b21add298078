use Rattle.std.proofs.Common.{ap, ◌∙◌, subst}
use Rattle.std.specs.List.{AllByRecursion}
use Rattle.fix_fields.specs.Frame.{IsField, fields_text}
use Rattle.fix_fields.proofs.frames.Fields.as_bytes.Goals as goal

pub returns-clause-text : goal.returns-clause-text
returns-clause-text c = c.self.invariant.is ∙ ap fields_text c.self.view_is

pub returns-clause-lawful : goal.returns-clause-lawful
returns-clause-lawful c = subst (λ fields. AllByRecursion IsField fields) c.self.view_is c.self.invariant.lawful
