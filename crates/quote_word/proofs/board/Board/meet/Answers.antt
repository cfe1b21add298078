use Rattle.std.proofs.Common.{subst}
use mathlib.Core.List.{IsPrefix}
use Rattle.quote_word.specs.Board.{Front}
use Rattle.quote_word.specs.SettleLogLaws.{entry_stays_later, one_entry}
use Rattle.quote_word.proofs.board.Board.meet.Goals as goal

pub returns-clause-first_entry : goal.returns-clause-first_entry
returns-clause-first_entry c =
    let log = c.both-front.result.log in
    let goes_on : IsPrefix c.args.first.seen.log log =
    subst (λ (f : Front). IsPrefix f.log log) c.seen.ensures c.both-front.ensures.first in
    entry_stays_later c.args.first.seen.log log c.args.first.word c.settled-one.result goes_on
    c.settled-one.ensures.entry

pub returns-clause-second_entry : goal.returns-clause-second_entry
returns-clause-second_entry c =
    let log = c.both-front.result.log in
    let goes_on : IsPrefix c.args.second.seen.log log =
    subst (λ (f : Front). IsPrefix f.log log) c.seen-2.ensures c.both-front.ensures.second in
    entry_stays_later c.args.second.seen.log log c.args.second.word c.settled-two.result goes_on
    c.settled-two.ensures.entry

pub returns-clause-one_settlement : goal.returns-clause-one_settlement
returns-clause-one_settlement c =
    one_entry c.both-front.result.log c.args.first.word c.args.second.word c.settled-one.result
    c.settled-two.result (returns-clause-first_entry c) (returns-clause-second_entry c)
