use Rattle.recorded_days.proofs.DayDueLemmas.{drop_is_put}
use Rattle.recorded_days.proofs.day_dues.put_drop.Goals as goal

pub returns : goal.returns
returns c =
    drop_is_put c.args.desk.now c.drop_one.new.self c.args.dues.now.items c.put_lifting.new.dues.items
    c.push.new.self.items c.args.last c.args.moment c.args.settlement c.settlement_taken.result
    c.question_drop-asked.result c.question_drop-asked.ensures.quote c.in_ok-put_lifting.ensures
    c.in_ok-push.ensures.items c.settlement_taken.ensures c.in_ok-drop_one.ensures.ok
