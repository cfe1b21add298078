use Rattle.recorded_days.proofs.DayDueLemmas.{shown_is_put, told_is_put}
use Rattle.recorded_days.proofs.day_dues.put_event.Goals as goal

pub returns-in_ok-show-in-Shown : goal.returns-in_ok-show-in-Shown
returns-in_ok-show-in-Shown c =
    shown_is_put c.args.desk.now c.show.new.self c.args.dues.now.items c.push.new.self.items
    c.in-Shown.room c.in-Shown.ask c.copy.result c.copy-in-Shown.result c.in-Shown.moment c.args.event.now c.in-Shown.is
    c.copy.ensures c.copy-in-Shown.ensures c.in_ok-push-in-Shown.ensures.items c.in_ok-show-in-Shown.ensures.ok

pub returns-in_ok-tell_request-in-Told : goal.returns-in_ok-tell_request-in-Told
returns-in_ok-tell_request-in-Told c =
    told_is_put c.args.desk.now c.tell_request.new.self c.args.dues.now.items
    c.push-in-Told.new.self.items c.in-Told.request c.in-Told.close c.in-Told.moment
    c.args.event.now c.in-Told.is c.in_ok-push-in-Told.ensures.items
    c.in_ok-tell_request-in-Told.ensures.ok
