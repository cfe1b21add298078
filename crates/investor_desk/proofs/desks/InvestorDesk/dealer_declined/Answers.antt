use Rattle.std.proofs.Common.{◌++◌, refl}
use Rattle.std.specs.Option.{option_to_list}
use Rattle.investor_desk.specs.InvestorOutput.{event_facts, event_messages, event_note}
use Rattle.investor_desk.specs.RuleCuts.{messages_of}
use Rattle.investor_desk.specs.declared.events.InvestorEvent.TheVariants as event
use Rattle.investor_desk.proofs.KeptLemmas.{owed_facts, owed_sent}
use Rattle.investor_desk.proofs.desks.InvestorDesk.dealer_declined.Goals as goal

pub keep-requires-clause-facts : goal.keep-requires-clause-facts
unfolding event_facts
keep-requires-clause-facts c =
    let desk = c.self.inside in
    let outcome = c.decline_outcome-outcome in
    owed_facts desk.market desk.events.items desk.sent.items desk.notes.items desk.index c.args.self.now outcome.result.note (event.DealerDeclined c.args.n c.args.dealer c.args.moment)
    c.self.invariant c.self.view_is (outcome.ensures.facts)

pub keep-requires-clause-sent : goal.keep-requires-clause-sent
unfolding event_messages
keep-requires-clause-sent c =
    let desk = c.self.inside in
    let outcome = c.decline_outcome-outcome in
    let sent = c.in_ok-sent.sent in
    owed_sent desk.market desk.events.items desk.sent.items desk.notes.items desk.index c.args.self.now (messages_of outcome.result)
    (option_to_list sent.first ++ option_to_list sent.second) (event.DealerDeclined c.args.n c.args.dealer c.args.moment)
    c.self.invariant c.self.view_is (outcome.ensures.messages) c.in_ok-sent.ensures

pub keep-requires-clause-beside : goal.keep-requires-clause-beside
unfolding event_note
keep-requires-clause-beside c = refl
