use Rattle.std.proofs.Common.{◌≡◌, arith, length, sym, ◌∙◌}
use Rattle.std.proofs.lemmas.Bool.{not-false}
use Rattle.day_weaving.proofs.DayFormLemmas.{desk_swept, firm_sweeps, other_inbox}
use Rattle.day_weaving.proofs.day_form.is_firms_day.Goals as goal

pub returns-then-messages_in-inbox-clause-no : goal.returns-then-messages_in-inbox-clause-no
returns-then-messages_in-inbox-clause-no c told config =
    other_inbox config c.args.day.now c.args.firm c.in-Some.actions.now c.in-Some.ensures
    c.in-Some-inbox.inbox.now c.messages_in.result c.in-Some-inbox.ensures c.messages_in.ensures
    (λ (same : c.messages_in.result ≡ length c.in-Some-inbox.inbox.now). absurd (omega arith))

pub returns-then-sweeps_any-clause-no : goal.returns-then-sweeps_any-clause-no
returns-then-sweeps_any-clause-no c told config =
    firm_sweeps config c.args.day.now c.args.firm c.in-Some.actions.now c.in-Some.ensures
    (sym c.sweeps_any.ensures ∙ c.if-sweeps_any.true)

pub returns-clause-no : goal.returns-clause-no
returns-clause-no c told config =
    desk_swept config c.args.day.now c.args.firm c.in-Some-desk_order.order.now
    c.in-Some-desk_order.ensures (sym c.is_swept.ensures ∙ not-false c.is_swept.result told)
