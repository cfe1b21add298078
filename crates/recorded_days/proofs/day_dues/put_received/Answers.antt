use Rattle.std.proofs.Common.{◌∙◌, ap}
use Rattle.dealer_desk.specs.DealerOutput.{word_asked}
use Rattle.recorded_days.proofs.DayDueLemmas.{own_is_put}
use Rattle.recorded_days.proofs.day_dues.put_received.Goals as goal

pub returns : goal.returns
returns c =
    own_is_put c.args.desk.now c.receive_judged.new.self c.args.dues.now.items c.put_lifting.new.dues.items
    c.push.new.self.items c.args.moment c.args.bytes.now c.in_ok-copy_of.field-0 c.args.settlement
    c.settlement_taken.result c.word_asked-asked.result
    (c.word_asked-asked.ensures ∙ ap word_asked c.judge-verdict.ensures.verdict)
    c.in_ok-put_lifting.ensures c.in_ok-copy_of.ensures c.in_ok-push.ensures.items
    c.settlement_taken.ensures c.in_ok-receive_judged.ensures.ok
