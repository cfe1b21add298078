use Rattle.std.proofs.Common.{◌++◌, ap, ◌∙◌}
use Rattle.std.specs.Option.{option_to_list}
use Rattle.investor_desk.specs.RuleCuts.{received_outcome}
use Rattle.investor_desk.proofs.KeptLemmas.{verdict_seen, own_lawful, own_facts_owed, own_sent_owed}
use Rattle.investor_desk.proofs.KeptLemmas.{own_note_owed}
use Rattle.investor_desk.proofs.desks.InvestorDesk.take.Goals as goal

pub keep-requires-clause-lawful : goal.keep-requires-clause-lawful
keep-requires-clause-lawful c =
    let desk = c.self.inside in
    let bytes = c.args.bytes.now in
    own_lawful c.args.self.now c.args.moment bytes c.received_outcome-outcome.result
    (c.received_outcome-outcome.ensures ∙ ap received_outcome (c.investor_verdict-verdict.ensures
    ∙ verdict_seen desk.market desk.events.items desk.sent.items desk.notes.items desk.index c.args.self.now c.args.moment bytes c.self.invariant c.self.view_is))

pub keep-requires-clause-facts : goal.keep-requires-clause-facts
keep-requires-clause-facts c =
    let desk = c.self.inside in
    let bytes = c.args.bytes.now in
    own_facts_owed c.args.self.now c.args.moment bytes c.in_ok-message.message c.received_outcome-outcome.result c.in_ok-message.ensures
    (c.received_outcome-outcome.ensures ∙ ap received_outcome (c.investor_verdict-verdict.ensures
    ∙ verdict_seen desk.market desk.events.items desk.sent.items desk.notes.items desk.index c.args.self.now c.args.moment bytes c.self.invariant c.self.view_is))

pub keep-requires-clause-sent : goal.keep-requires-clause-sent
keep-requires-clause-sent c =
    let desk = c.self.inside in
    let sent = c.in_ok-sent.sent in
    own_sent_owed desk.market desk.events.items desk.sent.items desk.notes.items desk.index c.args.self.now c.args.moment c.args.bytes.now c.in_ok-message.message
    c.investor_verdict-verdict.result c.received_outcome-outcome.result (option_to_list sent.first ++ option_to_list sent.second)
    c.self.invariant c.self.view_is c.in_ok-message.ensures c.investor_verdict-verdict.ensures c.received_outcome-outcome.ensures c.in_ok-sent.ensures

pub keep-requires-clause-beside : goal.keep-requires-clause-beside
keep-requires-clause-beside c =
    let desk = c.self.inside in
    own_note_owed desk.market desk.events.items desk.sent.items desk.notes.items desk.index c.args.self.now c.args.moment c.args.bytes.now c.in_ok-message.message
    c.investor_verdict-verdict.result c.verdict_note-beside.result
    c.self.invariant c.self.view_is c.in_ok-message.ensures c.investor_verdict-verdict.ensures c.verdict_note-beside.ensures
