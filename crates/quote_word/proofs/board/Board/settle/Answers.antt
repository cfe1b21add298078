use Rattle.std.proofs.Common.{ap, sym, ◌∙◌}
use Rattle.quote_word.specs.Board.{SettlesOnBoard}
use Rattle.quote_word.specs.Rule.{front_of}
use Rattle.quote_word.proofs.Steps.{Found, asks_moves, word_found, exchange_told, Told}
use Rattle.quote_word.proofs.board.Board.settle.Goals as goal

-- the word that is asked is tracked by the book of the token, under its own number
named : (c : goal.After-pen-1)
    → Found c.seen.inside.seen.book c.seen.inside.seen.log c.args.w c.index-word.result.now
named c =
    word_found c.self.inside.words.items c.self.inside.opening.board c.args.self.now
    c.seen.inside.seen.book c.seen.inside.seen.log c.args.w c.index-word.result.now
    c.self.invariant c.self.view_is (ap (λ s. s.board) c.seen.view_is ∙ c.requires.ours)
    c.requires.word c.index-word.ensures

pub compare_exchange-found-requires : goal.compare_exchange-found-requires
compare_exchange-found-requires c =
    let at = named c in
    let offer = c.plain-offer.ensures in
    let pen = c.no_pen-pen.ensures in (
      ap (λ w. w.tracked) at.is,
      sym (ap (λ w. w.book) at.is),
      pen.0 ∙ sym (ap (λ w. w.book) at.is),
      offer.0,
      rw (ap (λ w. w.key) at.is, pen.1, offer.1, offer.3, c.code.ensures)
          (asks_moves c.seen.inside.seen.log c.args.w c.args.wish c.seen.invariant.0 at.within),
    )

-- what the caller knows afterwards
told : (c : goal.After-settlement_of-settled)
    → Told c.seen.inside.seen.book c.seen.inside.seen.log c.args.w c.args.wish
    c.compare_exchange-found.result c.compare_exchange-found.new.seen.log
told c =
    exchange_told c.seen.inside.seen.book c.index-word.result.now.key 0 c.code.result
    c.plain-offer.result.ask
    (c.seen.inside.seen.log, (c.no_pen-pen.result.nib, c.plain-offer.result.state)) (
      c.compare_exchange-found.new.seen.log,
      (c.compare_exchange-found.new.pen.nib, c.compare_exchange-found.new.offer.state),
    )
    c.compare_exchange-found.result c.args.w c.args.wish c.seen.invariant.0
    (ap (λ w. w.key) (named c.before.before).is) (ap (λ s. s.settled) c.plain-offer.ensures.1)
    c.compare_exchange-found.ensures.7

settles : (c : goal.After-settlement_of-settled)
    → SettlesOnBoard c.args.seen c.args.w c.args.wish c.settlement_of-settled.result
    (front_of c.compare_exchange-found.new.seen.book c.compare_exchange-found.new.seen.log)
settles c =
    rw (c.compare_exchange-found.ensures.0, c.settlement_of-settled.ensures, ← c.seen.view_is)
    (told c).settles

pub invariant_of-result : goal.invariant_of-result
invariant_of-result c = let t = told c in (t.begun, t.legal)

pub invariant_of-result-2 : goal.invariant_of-result-2
invariant_of-result-2 c = (settles c.before.before).answered

pub returns-clause-settles : goal.returns-clause-settles
returns-clause-settles c = settles c.before.before

pub returns-clause-legal : goal.returns-clause-legal
returns-clause-legal c = (told c.before.before).legal
