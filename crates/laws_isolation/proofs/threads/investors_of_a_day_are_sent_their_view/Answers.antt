use Rattle.std.proofs.Common.{◌∙◌, sym}
use Rattle.laws_isolation.proofs.DayLemmas.{is_firm, is_sent_on, views_on}
use Rattle.laws_isolation.proofs.threads.investors_of_a_day_are_sent_their_view.Goals as goal

pub returns-clause-sent : goal.returns-clause-sent
returns-clause-sent c config inboxes sweeps day investor row keeps here =
    is_sent_on config day investor row here c.desks_send_their_view.ensures.by_events
    keeps.investors_keep keeps.dealers_are

pub returns-clause-fitting : goal.returns-clause-fitting
returns-clause-fitting c config inboxes sweeps day investor row keeps here fit =
    let events = c.desks_send_their_view.ensures.by_events in
    is_sent_on config day investor row here events keeps.investors_keep keeps.dealers_are
    ∙ views_on config day investor row here events c.desks_send_their_view.ensures.fitting fit

pub returns-clause-woven : goal.returns-clause-woven
returns-clause-woven c config day steps investor row sends here =
    sym (sends investor (is_firm config investor row here))
    ∙ c.investors_are_given_their_view.ensures.days config steps investor row here
