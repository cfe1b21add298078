use Rattle.std.proofs.Common.{◌≡◌, sym, ◌∙◌, rules}
use Rattle.venue_rows.proofs.SameRows.{apart_by_traders, same_by_exposure}
use Rattle.venue_rows.proofs.dealer_rows.DealerRow.is_same.Goals as goal

pub returns-then-not-is_same : goal.returns-then-not-is_same
returns-then-not-is_same c =
    apart_by_traders c.args.self.now c.args.other.now (sym c.is_same.ensures ∙ c.if-not-is_same.true)

pub returns-then-self-other : goal.returns-then-self-other
returns-then-self-other c =
    let named : c.args.self.now.name ≡ c.args.other.now.name = search rules in
    same_by_exposure c.args.self.now c.args.other.now named (sym c.is_same.ensures ∙ c.if-not-is_same.false) c.if-self-other.true
