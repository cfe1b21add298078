use Rattle.std.proofs.Common.{◌∙◌}
use Rattle.investor_texts.specs.CompareCommand.{due_in, sent_of}
use Rattle.investor_texts.proofs.CompareLemmas.{first_of, sent_is}
use Rattle.investor_texts.proofs.compare_command.lines_of.Goals as goal

pub returns : goal.returns
returns c first second one_is other_is seen = record {
  is_same_seen = c.args.is_same_seen;
  due = c.due_difference-due.result;
  messages = c.messages_differ-messages.result;
  seen_is = seen;
  due_is = first_of c.as_slice.result.now c.as_slice-2.result.now (due_in first) (due_in second)
      c.due_difference-due.result (c.as_slice.ensures.value ∙ one_is.day_is.dues_are)
      (c.as_slice-2.ensures.value ∙ other_is.day_is.dues_are) c.due_difference-due.ensures;
  messages_is = first_of _ _ (sent_of first) (sent_of second) c.messages_differ-messages.result
      (sent_is c.args.one.world c.args.investor first one_is.investor_is one_is.day_is.world_is)
      (sent_is c.args.other.world c.args.other_investor second other_is.investor_is
      other_is.day_is.world_is)
      c.messages_differ-messages.ensures;
  printed = c.in_ok-text.ensures;
}
