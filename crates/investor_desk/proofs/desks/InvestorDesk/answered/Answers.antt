use Rattle.std.proofs.Common.{◌++◌, sym, ap, ◌∙◌}
use Rattle.std.specs.Option.{option_to_list}
use Rattle.market_terms.specs.declared.rooms.ResponseRef.{ResponseRef}
use Rattle.investor_desk.specs.InvestorFacts.{request_numbered}
use Rattle.investor_desk.specs.InvestorOutput.{event_facts, event_messages, event_note}
use Rattle.investor_desk.specs.InvestorOutput.{answer_facts, answer_messages, answer_note}
use Rattle.investor_desk.specs.BookChanges.{book_with}
use Rattle.investor_desk.specs.RuleCuts.{messages_of}
use Rattle.investor_desk.specs.declared.events.InvestorEvent.TheVariants as event
use Rattle.investor_desk.proofs.KeptLemmas.{owed_facts, owed_note, owed_sent}
use Rattle.investor_desk.proofs.desks.InvestorDesk.answered.Goals as goal

pub keep-requires-clause-facts : goal.keep-requires-clause-facts
unfolding event_facts
keep-requires-clause-facts c =
    let desk = c.self.inside in
    let outcome = c.answer_outcome-outcome in
    owed_facts desk.market desk.events.items desk.sent.items desk.notes.items desk.index c.args.self.now outcome.result.note (event.Answered c.args.n c.in_ok-kept.kept c.args.reply c.args.moment)
    c.self.invariant c.self.view_is (outcome.ensures.facts
    ∙ ap (λ (r : ResponseRef). book_with desk.index (answer_facts desk.index c.args.n r c.args.reply (request_numbered desk.index c.args.n))) (sym c.in_ok-kept.ensures))

pub keep-requires-clause-sent : goal.keep-requires-clause-sent
unfolding event_messages
keep-requires-clause-sent c =
    let desk = c.self.inside in
    let outcome = c.answer_outcome-outcome in
    let sent = c.in_ok-sent.sent in
    owed_sent desk.market desk.events.items desk.sent.items desk.notes.items desk.index c.args.self.now (messages_of outcome.result)
    (option_to_list sent.first ++ option_to_list sent.second) (event.Answered c.args.n c.in_ok-kept.kept c.args.reply c.args.moment)
    c.self.invariant c.self.view_is (outcome.ensures.messages ∙ ap (λ (r : ResponseRef). answer_messages r c.args.reply (request_numbered desk.index c.args.n)) (sym c.in_ok-kept.ensures)) c.in_ok-sent.ensures

pub keep-requires-clause-beside : goal.keep-requires-clause-beside
unfolding event_note
keep-requires-clause-beside c =
    let desk = c.self.inside in
    owed_note desk.market desk.events.items desk.sent.items desk.notes.items desk.index c.args.self.now c.answer_note-beside.result (event.Answered c.args.n c.in_ok-kept.kept c.args.reply c.args.moment)
    c.self.invariant c.self.view_is (c.answer_note-beside.ensures
    ∙ ap (λ (r : ResponseRef). answer_note desk.index r c.args.reply (request_numbered desk.index c.args.n)) (sym c.in_ok-kept.ensures))
