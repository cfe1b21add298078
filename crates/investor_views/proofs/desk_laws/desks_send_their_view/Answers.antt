use Rattle.investor_views.proofs.DayLemmas.{facts_are_one, day_fits}
use Rattle.investor_views.proofs.ViewLemmas.{events_send, fitting_send, taken_send}
use Rattle.investor_views.proofs.desk_laws.desks_send_their_view.Goals as goal

pub returns-clause-by_events : goal.returns-clause-by_events
returns-clause-by_events c market events = events_send market events

pub returns-clause-taken : goal.returns-clause-taken
returns-clause-taken c market events = taken_send market events

pub returns-clause-fitting : goal.returns-clause-fitting
returns-clause-fitting c market events fit = fitting_send market events fit

pub returns-clause-fit : goal.returns-clause-fit
returns-clause-fit c config steps investor row is = day_fits config investor row is steps

pub returns-clause-by_trail : goal.returns-clause-by_trail
returns-clause-by_trail c config steps investor row is = facts_are_one config investor row is steps
