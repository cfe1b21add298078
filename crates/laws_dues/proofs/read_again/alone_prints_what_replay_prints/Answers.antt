use Rattle.std.proofs.Common.{List, Some, sym, ap, ◌∙◌}
use Rattle.venue_rows.specs.Rows.{dealer_numbered}
use Rattle.step_replay.specs.AuditTrail.{audit_trail}
use Rattle.step_replay.specs.DealerView.{dealer_view}
use Rattle.step_replay.specs.FirmDays.{firm_days}
use Rattle.step_replay.specs.declared.dues.Due.{Due}
use Rattle.laws_dues.proofs.ReadAgain.{day_read, none_there, printed_again}
use Rattle.laws_dues.proofs.read_again.alone_prints_what_replay_prints.Goals as goal

pub returns-in_default-clause-read : goal.returns-in_default-clause-read
returns-in_default-clause-read c row steps was =
    none_there (dealer_numbered c.args.venue.now c.args.dealer) row c.in_default.ensures was.row_is

pub returns-in_default-clause-printed : goal.returns-in_default-clause-printed
returns-in_default-clause-printed c row steps with_frames text was printed =
    none_there (dealer_numbered c.args.venue.now c.args.dealer) row c.in_default.ensures was.row_is

pub returns-clause-read : goal.returns-clause-read
returns-clause-read c row steps was =
    let limits = c.dealers.ensures.limits in
    day_read c.args.venue.now limits c.args.dealer row steps c.args.dues.now was
    c.in-Some.row.now c.in-Some.ensures c.traders_are_named.ensures c.date-date.result.now
    c.date-date.ensures c.date_is_tested.ensures.dated c.date_is_tested.ensures.tested
    (c.what_is_due_can_be_said.ensures.steps c.args.venue.now steps c.args.dealer limits was.said)
    c.what_was_due_is_read_back.ensures.text

pub returns-clause-printed : goal.returns-clause-printed
returns-clause-printed c row steps with_frames text was printed =
    let config = c.args.venue.now in
    let dealer = c.args.dealer in
    let limits = c.dealers.ensures.limits in
    let read = day_read config limits dealer row steps c.args.dues.now was
    c.in-Some.row.now c.in-Some.ensures c.traders_are_named.ensures c.date-date.result.now
    c.date-date.ensures c.date_is_tested.ensures.dated c.date_is_tested.ensures.tested
    (c.what_is_due_can_be_said.ensures.steps config steps dealer limits was.said)
    c.what_was_due_is_read_back.ensures.text in
    printed_again c.rows_are_their_values.ensures config
    (firm_days config (audit_trail config steps).facts) dealer row c.args.dues.now with_frames text
    was.row_is
    (c.dealers_are_given_their_view.ensures.days config steps dealer row was.row_is
    ∙ ap (λ (d : List Due). Some (dealer_view config.date row d)) (sym was.dues_are))
    read printed
