use Rattle.std.proofs.Common.{◌∙◌, Some, ap, sym}
use Rattle.std.specs.Option.{option_map}
use Rattle.investor_views.specs.DeskView.{desk_view}
use Rattle.investor_views.specs.InvestorDues.{due_to_investor}
use Rattle.investor_views.specs.InvestorView.{SeenMarket, seen_by}
use Rattle.laws_isolation.specs.DayViews.{investor_dues_of}
use Rattle.laws_isolation.proofs.threads.investors_are_isolated_on_threads.Goals as goal

pub returns-clause-days : goal.returns-clause-days
returns-clause-days c one other inboxes others sweeps clocked day later investor number row again keeps kept here there sees alike =
    let law = c.investors_of_a_day_are_sent_their_view.ensures.sent in
    law one inboxes sweeps day investor row keeps here
    ∙ ap (λ (seen : SeenMarket). option_map (desk_view seen) (investor_dues_of one day investor)) sees
    ∙ ap (option_map (desk_view (seen_by other again))) alike
    ∙ sym (law other others clocked later number again kept there)

pub returns-clause-replayed : goal.returns-clause-replayed
returns-clause-replayed c one other steps inboxes sweeps day investor number row again kept here there sees alike =
    let due = due_to_investor one investor steps in
    ap Some (c.investors_are_sent_their_view.ensures one steps investor row here
    ∙ sym (c.lists_of_a_replay_fit.ensures one steps investor row here))
    ∙ ap (λ (seen : SeenMarket). Some (desk_view seen due)) sees
    ∙ ap (option_map (desk_view (seen_by other again))) alike
    ∙ sym (c.investors_of_a_day_are_sent_their_view.ensures.sent other inboxes sweeps day number
    again kept there)
