use Rattle.std.proofs.Common.{sym}
use Rattle.dealer_desk.proofs.NoteLemmas.{drop_lives}
use Rattle.dealer_desk.proofs.drops.number_to_drop.Goals as goal

pub returns-clause-live : goal.returns-clause-live
returns-clause-live c = drop_lives c.args.index.now.book c.args.last c.in-Some.own.now c.requires (sym c.in-Some.ensures)
