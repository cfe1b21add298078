use Rattle.std.proofs.Common.{sym, ◌∙◌}
use Rattle.wire_messages.proofs.PlaceLemmas.{place_nowhere}
use Rattle.wire_messages.proofs.fields.value_len.Goals as goal

pub returns-in_default-clause-place : goal.returns-in_default-clause-place
returns-in_default-clause-place c = place_nowhere 1 c.args.text.now (sym c.place_of_soh.ensures ∙ c.in_default.is)
