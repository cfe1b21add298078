use Rattle.std.proofs.Common.{◌∙◌, Some, ap}
use Rattle.step_replay.specs.LiveDays.{live_steps}
use Rattle.investor_views.proofs.laws.investors_are_given_their_view.Goals as goal
use Rattle.step_replay.specs.PlaceLemmas.{investor_within}

pub returns-clause-days : goal.returns-clause-days
returns-clause-days c config steps investor row is =
    c.firms_are_sent_one_list.ensures.days config steps investor
    (investor_within config investor row is)
    ∙ ap Some (c.investors_are_sent_their_view.ensures config steps investor row is)

pub returns-clause-live : goal.returns-clause-live
returns-clause-live c config steps investor row is =
    c.firms_are_sent_one_list.ensures.live config steps investor
    ∙ c.investors_are_sent_their_view.ensures config (live_steps steps) investor row is
