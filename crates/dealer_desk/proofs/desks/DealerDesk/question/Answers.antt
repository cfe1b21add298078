use Rattle.dealer_desk.proofs.KeptLemmas.{asked_own}
use Rattle.dealer_desk.proofs.desks.DealerDesk.question.Goals as goal

pub returns-clause-own : goal.returns-clause-own
returns-clause-own c =
    let desk = c.self.inside in
    rw (c.word_asked-quote.ensures, c.dealer_verdict-verdict.ensures, ← c.self.view_is)
    (asked_own desk.date desk.row desk.events.items desk.sent.items desk.notes.items desk.index c.args.moment c.args.bytes.now c.self.invariant)
