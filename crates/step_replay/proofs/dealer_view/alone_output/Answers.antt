use Rattle.step_replay.proofs.Common.{◌∙◌, None, ap, length, rules, take, length-replicate}
use Rattle.step_replay.proofs.Common.{view_after}
use Rattle.step_replay.proofs.ItemLemmas.{all_noted, all_sent, item_stands, start_stands}
use Rattle.step_replay.proofs.dealer_view.alone_output.Goals as goal

pub loop-due-init : goal.loop-due-init
loop-due-init c = record {
  stands = start_stands c.args.date.now c.args.row.now c.in_ok-desk.desk c.in_ok-words.words
      (search rules) c.in_ok-words.ensures;
  count = ap length c.in_ok-words.ensures ∙ length-replicate c.args.row.now.quotes None;
  row = search rules;
}

pub loop-due-preserved : goal.loop-due-preserved
loop-due-preserved c =
    let place = c.loop-due.due-index in
    let before = view_after c.args.date.now c.args.row.now (take place c.args.dues.now) in
    record {
      stands = item_stands c.args.date.now c.args.row.now c.args.dues.now place c.due-item.result
          c.do_due.new.desk c.do_due.new.words c.loop-due-test.true c.due-item.is
          (c.in_ok-do_due.ensures.ok before c.loop-due.invariant.stands);
      count = c.in_ok-do_due.ensures.words ∙ c.loop-due.invariant.count;
      row = c.in_ok-do_due.ensures.row ∙ c.loop-due.invariant.row;
    }

pub returns-clause-messages : goal.returns-clause-messages
returns-clause-messages c =
    c.into_output.ensures.sent
    ∙ all_sent c.args.date.now c.args.row.now c.args.dues.now c.loop-due.due-index
    c.loop-due.desk c.loop-due.words c.loop-due-test.false c.loop-due.invariant.stands

pub returns-clause-notes : goal.returns-clause-notes
returns-clause-notes c =
    c.into_output.ensures.notes
    ∙ all_noted c.args.date.now c.args.row.now c.args.dues.now c.loop-due.due-index
    c.loop-due.desk c.loop-due.words c.loop-due-test.false c.loop-due.invariant.stands
