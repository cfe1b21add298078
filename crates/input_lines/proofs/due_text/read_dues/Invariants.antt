use Rattle.std.proofs.Common.{◌≡◌, ◌+◌, ◌≤◌, vec_len}
use Rattle.input_lines.specs.DueText.{dues_from}
use Rattle.input_lines.proofs.SpellLemmas.{behind_dues}
use Rattle.input_lines.proofs.due_text.read_dues.Given as goal

abbrev pub invariant-loop-line : goal.invariant-loop-line
invariant-loop-line l =
    (goal.iterator-loop-line).can_next l.line-iterator ×
    (goal.iterator-loop-line).is_finite l.line-iterator ×
    (dues_from l.date l.firm 1 l.fn.lines ≡ behind_dues l.dues.items (dues_from l.date l.firm l.number l.line-iterator)) ×
    (l.number ≤ vec_len l.dues + 1)
