use Rattle.std.proofs.Common.{rules, ◌≡◌, ◌∙◌, ◌-◌, sym, ap, subst, length, map, None, arith}
use Rattle.std.proofs.Common.{length-drop}
use Rattle.std.proofs.lemmas.List.{length-map}
use Rattle.venue_rows.specs.Rows.{Configuration}
use Rattle.venue_rows.specs.declared.investor_rows.InvestorRow.{InvestorRow}
use Rattle.recorded_days.specs.Records.{InvestorLists}
use Rattle.day_checks.specs.DayActions.{EventsAreOfActions}
use Rattle.day_checks.specs.DayFaults.{IsFirstOf, IsJoinedOf, JoinedDay, unanswered_of}
use Rattle.day_checks.specs.DayFaults.{unrelayed_of}
use Rattle.day_checks.specs.KeptDays.{KeepsDay, rooms_of}
use Rattle.day_checks.proofs.DayLemmas.{Joined, day_is_kept}
use Rattle.session_worker.proofs.FaultLemmas.{dealer_is_of, first_is_of, investor_is_of}
use Rattle.session_worker.proofs.FaultLemmas.{same_fault}
use Rattle.day_checks.proofs.JoinedLemmas.{joined_is_of}
use Rattle.session_worker.proofs.days.recorded.Goals as goal

-- a session for each investor
pub investor_days-requires-clause-sessions : goal.investor_days-requires-clause-sessions
investor_days-requires-clause-sessions g c =
    let config = g.J.Naming.config in
    let places : length c.args.venue.investors.items ≡ length config.investors =
    sym (length-map c.args.venue.investors.items (λ place. length place.rooms.items))
    ∙ ap length c.args.venue.rooms_are
    ∙ length-map config.investors (λ (row : InvestorRow). row.requests) in
    let first : c.dealer_count-first.result ≡ length config.dealers =
    c.dealer_count-first.ensures.value
    ∙ ap (λ (own : Configuration). length own.dealers) c.args.venue.config_is in
    let from : c.from.result ≡ c.dealer_count-first.result = search rules in
    let left : length c.in_ok-behind.behind.items ≡ length c.args.sessions.items - c.from.result =
    ap length c.in_ok-behind.ensures.tail ∙ length-drop c.from.result c.args.sessions.items in
    omega (arith, places, first, from, left, c.requires.sessions)

-- a day for each investor
pub agreed-requires-clause-investors : goal.agreed-requires-clause-investors
agreed-requires-clause-investors g c =
    let config = g.J.Naming.config in
    let first : c.dealer_count-first.result ≡ length config.dealers =
    c.dealer_count-first.ensures.value
    ∙ ap (λ (own : Configuration). length own.dealers) c.args.venue.config_is in
    let from : c.from.result ≡ c.dealer_count-first.result = search rules in
    let left : length c.in_ok-behind.behind.items ≡ length c.args.sessions.items - c.from.result =
    ap length c.in_ok-behind.ensures.tail ∙ length-drop c.from.result c.args.sessions.items in
    let days : length c.in_ok-investors.investors.items ≡ length c.in_ok-behind.behind.items =
    sym (length-map c.in_ok-investors.investors.items (λ (day : InvestorLists). day.inbox))
    ∙ ap length c.in_ok-investors.ensures.inboxes
    ∙ length-map c.in_ok-behind.behind.items (λ session. session.inbox.items) in
    let same : length c.args.venue.config.investors ≡ length config.investors =
    ap (λ (own : Configuration). length own.investors) c.args.venue.config_is in
    omega (arith, first, from, left, days, same, c.requires.sessions)

-- the fault is a dealer's
pub returns-in_err-dealers-clause-true_of : goal.returns-in_err-dealers-clause-true_of
returns-in_err-dealers-clause-true_of g c =
    let config = g.J.Naming.config in
    let why = c.in_err-dealers.field-0.0 in
    same_fault _ c.from_residual-in_err-dealers.result why c.from_residual-in_err-dealers.ensures.1
    (dealer_is_of config (map (λ session. session.inbox.items) c.args.sessions.items)
    c.args.sweeps.now (length c.args.venue.dealers.items) c.args.venue.dealers_are why
    c.in_err-dealers.ensures.among)

-- the fault is an investor's
pub returns-in_err-investors-clause-true_of : goal.returns-in_err-investors-clause-true_of
returns-in_err-investors-clause-true_of g c =
    let config = g.J.Naming.config in
    let why = c.in_err-investors.field-0.0 in
    let places : length c.args.venue.investors.items ≡ length config.investors =
    sym (length-map c.args.venue.investors.items (λ place. length place.rooms.items))
    ∙ ap length c.args.venue.rooms_are
    ∙ length-map config.investors (λ (row : InvestorRow). row.requests) in
    let first : c.dealer_count-first.result ≡ length config.dealers =
    c.dealer_count-first.ensures.value
    ∙ ap (λ (own : Configuration). length own.dealers) c.args.venue.config_is in
    same_fault _ c.from_residual-in_err-investors.result why
    c.from_residual-in_err-investors.ensures.1
    (investor_is_of config (map (λ session. session.inbox.items) c.args.sessions.items)
    c.args.sweeps.now c.dealer_count-first.result (length c.args.venue.investors.items) first places
    why c.in_err-investors.ensures.among)

-- the first fault of what was joined
pub returns-in_err-day-clause-true_of : goal.returns-in_err-day-clause-true_of
returns-in_err-day-clause-true_of g c =
    let config = g.J.Naming.config in
    let sessions = c.args.sessions.items in
    let inboxes = map (λ session. session.inbox.items) sessions in
    let sweeps = c.args.sweeps.now in
    let why = c.in_err-day.field-0.0 in
    let joined : JoinedDay = record {
      dealers = c.in_ok-dealers.dealers.items;
      investors = c.in_ok-investors.investors.items;
      rooms = c.investor_days.new.all.items;
      clock = c.args.clock.items;
    } in
    let first : c.dealer_count-first.result ≡ length config.dealers =
    c.dealer_count-first.ensures.value
    ∙ ap (λ (own : Configuration). length own.dealers) c.args.venue.config_is in
    let from : c.from.result ≡ c.dealer_count-first.result = search rules in
    let of_day : IsJoinedOf config inboxes joined =
    joined_is_of (λ session. session.inbox.items) config c.dealer_count-first.result c.from.result
    sessions c.split_off.new.self.items c.in_ok-behind.behind.items
    (map (λ place. length place.rooms.items) c.args.venue.investors.items) joined first from
    c.requires.sessions c.in_ok-behind.ensures.items c.in_ok-behind.ensures.tail
    c.in_ok-dealers.ensures.inboxes c.in_ok-investors.ensures.inboxes
    c.in_ok-investors.ensures.rooms c.args.venue.rooms_are c.in_ok-dealers.ensures.keep
    c.in_ok-investors.ensures.keep in
    let is_first : IsFirstOf config sweeps joined why =
    subst (λ own. IsFirstOf own sweeps joined why) c.args.venue.config_is
    c.in_err-day.ensures.first in
    same_fault _ c.from_residual-in_err-day.result why c.from_residual-in_err-day.ensures.1
    (first_is_of config inboxes sweeps joined of_day why is_first)

-- what was joined and agrees is the record
pub returns-clause-keeps : goal.returns-clause-keeps
returns-clause-keeps g c =
    let config = g.J.Naming.config in
    let dealers = c.in_ok-dealers.dealers.items in
    let bare = c.in_ok-investors.investors.items in
    let rooms = c.investor_days.new.all.items in
    let clock = c.args.clock.items in
    let sessions = c.args.sessions.items in
    let inboxes = map (λ session. session.inbox.items) sessions in
    let sweeps = c.args.sweeps.now in
    let agrees = c.in_ok-day.ensures.agrees in
    let joined_day : JoinedDay =
    record { dealers = dealers; investors = bare; rooms = rooms; clock = clock } in
    let first : c.dealer_count-first.result ≡ length config.dealers =
    c.dealer_count-first.ensures.value
    ∙ ap (λ (own : Configuration). length own.dealers) c.args.venue.config_is in
    let from : c.from.result ≡ c.dealer_count-first.result = search rules in
    let of_day : IsJoinedOf config inboxes joined_day =
    joined_is_of (λ session. session.inbox.items) config c.dealer_count-first.result c.from.result
    sessions c.split_off.new.self.items c.in_ok-behind.behind.items
    (map (λ place. length place.rooms.items) c.args.venue.investors.items) joined_day first from
    c.requires.sessions c.in_ok-behind.ensures.items c.in_ok-behind.ensures.tail
    c.in_ok-dealers.ensures.inboxes c.in_ok-investors.ensures.inboxes
    c.in_ok-investors.ensures.rooms c.args.venue.rooms_are c.in_ok-dealers.ensures.keep
    c.in_ok-investors.ensures.keep in
    let joined : Joined config inboxes sweeps dealers bare agrees.whole clock rooms
    c.in_ok-dealers.seen.log c.in_ok-investors.seen.log = record {
      dealers_are = of_day.dealers_are;
      investors_are = of_day.investors_are;
      rooms_are = of_day.rooms_are;
      alike = agrees.have_rooms.alike;
      rooms_in_whole = ap (λ (own : Configuration). rooms_of (length own.dealers) agrees.whole)
          (sym c.args.venue.config_is) ∙ agrees.have_rooms.rooms_are;
      inboxes_are = of_day.inboxes_are;
      dealers_keep = of_day.dealers_keep;
      investors_keep = of_day.investors_keep;
      told = agrees.told;
      swept = agrees.swept;
      shown = agrees.shown;
      relayed = subst (λ (own : Configuration). unrelayed_of own joined_day ≡ None)
          c.args.venue.config_is agrees.relayed;
      answered = subst (λ (own : Configuration). unanswered_of own joined_day ≡ None)
          c.args.venue.config_is agrees.answered;
      dealers_stand = c.in_ok-dealers.ensures.stand;
      rooms_stand = c.in_ok-investors.ensures.stand;
      goes_on = c.in_ok-investors.ensures.later;
      legal = c.in_ok-investors.ensures.legal;
      of_actions = subst EventsAreOfActions agrees.day_is agrees.of_actions;
    } in
    subst (KeepsDay config inboxes sweeps) (sym agrees.day_is)
    (day_is_kept config inboxes sweeps dealers bare agrees.whole clock rooms
    c.in_ok-dealers.seen.log c.in_ok-investors.seen.log joined)
