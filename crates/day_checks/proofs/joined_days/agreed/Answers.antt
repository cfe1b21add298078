use Rattle.std.proofs.Common.{rules, ◌≡◌, ◌∙◌, sym, ap, subst, length, None}
use Rattle.std.specs.Option.{option_map}
use Rattle.day_checks.specs.AnsweredResponses.{first_unanswered}
use Rattle.day_checks.specs.DayActions.{EventsAreOfActions, first_unleft, number_at}
use Rattle.day_checks.specs.DayChecks.{first_unswept, first_untold}
use Rattle.day_checks.specs.RelayedQuotes.{first_unrelayed}
use Rattle.day_checks.specs.ShownRequests.{first_unshown}
use Rattle.day_checks.proofs.ActionLemmas.{events_are_left}
use Rattle.day_checks.proofs.JoinedLemmas.{day_read}
use Rattle.day_checks.proofs.joined_days.agreed.Goals as goal

-- the first firm with an event that is not that of an action
pub returns-in-Some-action_fault-clause-first : goal.returns-in-Some-action_fault-clause-first
returns-in-Some-action_fault-clause-first c =
    let dealers = c.args.dealers.items in
    let whole = c.in_ok-investors.investors.items in
    let clock = c.args.clock.items in
    let told : first_untold c.args.rooms.items dealers ≡ None = search rules in
    let swept : first_unswept c.args.sweeps.now c.args.rooms.items ≡ None = search rules in
    let shown : first_unshown c.args.rooms.items dealers ≡ None = search rules in
    let relayed : first_unrelayed c.args.config.now (length c.args.config.now.dealers)
    c.args.investors.items c.args.rooms.items ≡ None = search rules in
    let answered : first_unanswered (length c.args.config.now.dealers) c.args.investors.items
    c.args.rooms.items ≡ None = search rules in
    let dealers_read : c.deref.result.now ≡ dealers = search rules in
    let whole_read : c.deref-2.result.now ≡ whole = search rules in
    let clock_read : c.deref-3.result.now ≡ clock = search rules in
    let read = day_read dealers c.deref.result.now whole c.deref-2.result.now clock
    c.deref-3.result.now dealers_read whole_read clock_read in (
      told,
      swept,
      shown,
      relayed,
      answered,
      record {
        whole = whole;
        have_rooms = record {
          alike = c.in_ok-investors.ensures.days;
          rooms_are = c.in_ok-investors.ensures.rooms;
        };
        firm_is = ap (λ day. option_map number_at (first_unleft day)) (sym read)
            ∙ sym c.action_fault.ensures ∙ c.in-Some-action_fault.is;
      },
    )

-- nothing disagrees
pub returns-clause-agrees : goal.returns-clause-agrees
returns-clause-agrees c =
    let dealers = c.args.dealers.items in
    let whole = c.in_ok-investors.investors.items in
    let clock = c.args.clock.items in
    let told : first_untold c.args.rooms.items dealers ≡ None = search rules in
    let swept : first_unswept c.args.sweeps.now c.args.rooms.items ≡ None = search rules in
    let shown : first_unshown c.args.rooms.items dealers ≡ None = search rules in
    let relayed : first_unrelayed c.args.config.now (length c.args.config.now.dealers)
    c.args.investors.items c.args.rooms.items ≡ None = search rules in
    let answered : first_unanswered (length c.args.config.now.dealers) c.args.investors.items
    c.args.rooms.items ≡ None = search rules in
    let none : c.action_fault.result ≡ None = search rules in
    let dealers_read : c.deref.result.now ≡ dealers = search rules in
    let whole_read : c.deref-2.result.now ≡ whole = search rules in
    let clock_read : c.deref-3.result.now ≡ clock = search rules in
    let read = day_read dealers c.deref.result.now whole c.deref-2.result.now clock
    c.deref-3.result.now dealers_read whole_read clock_read in
    record {
      whole = whole;
      have_rooms = record {
        alike = c.in_ok-investors.ensures.days;
        rooms_are = c.in_ok-investors.ensures.rooms;
      };
      day_is = c.new.ensures;
      told = told;
      swept = swept;
      shown = shown;
      relayed = relayed;
      answered = answered;
      of_actions = subst EventsAreOfActions (read ∙ sym c.new.ensures)
          (events_are_left (record {
            dealers = c.deref.result.now;
            investors = c.deref-2.result.now;
            clock = c.deref-3.result.now;
          }) (sym c.action_fault.ensures ∙ none));
    }
