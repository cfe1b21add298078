use Rattle.std.proofs.Common.{rules, ◌≡◌, ◌∙◌, map, subst, sym, true}
use Rattle.std.proofs.lemmas.List.{length-map}
use Rattle.day_weaving.specs.Weaving.{FaultIsTrue}
use Rattle.venue_text.specs.RecordText.{record_text}
use Rattle.venue_commands.specs.ThreadedDays.{IsDayFault, IsRecordOf}
use Rattle.venue_commands.proofs.DayTextLemmas.{day_not_woven, day_unkept, day_unwoven}
use Rattle.venue_commands.proofs.days.day_text.Goals as goal

pub returns-then-not-woven-clause-ok : goal.returns-then-not-woven-clause-ok
returns-then-not-woven-clause-ok g c =
    let config = c.in_ok-day.day.config in
    let printed : c.in_ok-text.text.items ≡ record_text c.args.with_frames config c.in-Ok.record = search rules in
    let recorded : IsRecordOf c.args.input.now config c.in-Ok.record = record {
      inboxes = map (λ inbox. inbox.items) c.in_ok-day.day.inboxes.items;
      sweeps = c.in_ok-day.day.sweeps.items;
      spelled = c.in_ok-day.ensures.ok;
      kept = c.in-Ok.ensures.day;
    } in
    day_unwoven c.args.with_frames c.args.woven c.args.input.now c.in_ok-text.text.items config c.in-Ok.record printed c.if-not-woven.true recorded

-- something does not agree
pub returns-in-Err-clause-err : goal.returns-in-Err-clause-err
returns-in-Err-clause-err g c =
    let inboxes = c.in_ok-day.day.inboxes.items in
    day_unkept c.args.woven c.args.input.now c.in_ok-day.day.config
    (map (λ inbox. inbox.items) inboxes) c.in_ok-day.day.sweeps.items c.in-Err.fault c.unkept.result
    c.in_ok-day.ensures.ok c.unkept.ensures
    (λ counted. c.in-Err.ensures.true_of (sym (length-map inboxes (λ inbox. inbox.items)) ∙ counted))

-- the day is not woven
pub returns-in_err-steps-clause-err : goal.returns-in_err-steps-clause-err
returns-in_err-steps-clause-err g c =
    let config = c.in_ok-day.day.config in
    let recorded : IsRecordOf c.args.input.now config c.in-Ok.record = record {
      inboxes = map (λ inbox. inbox.items) c.in_ok-day.day.inboxes.items;
      sweeps = c.in_ok-day.day.sweeps.items;
      spelled = c.in_ok-day.ensures.ok;
      kept = c.in-Ok.ensures.day;
    } in
    let found = c.in_err-steps.ensures.err in
    let asked : c.args.woven ≡ true = search rules in
    let copied : c.in_ok-venue.venue ≡ config = search rules in
    let is_true : FaultIsTrue config c.in-Ok.record found.0 =
    subst (λ venue. FaultIsTrue venue c.in-Ok.record found.0) copied found.2 in
    let told : IsDayFault c.args.woven c.args.input.now c.in_err-steps.field-0.0 =
    day_not_woven c.args.woven c.args.input.now config c.in-Ok.record found.0 c.in_err-steps.field-0.0 asked recorded
    found.1 is_true in
    search rules
