use Rattle.std.proofs.Common.{◌≤◌, ℕ, IsTrue, subst}
use Rattle.bond_prices.specs.Grid.{is_grid}
use Rattle.market_terms.specs.declared.quantities.TheConstants.Quantity.{MOST}
use Rattle.venue_text.proofs.ReadBackShown.{shown_back}
use Rattle.venue_text.proofs.read_back.shown_is_read_back.Goals as goal

pub returns : goal.returns
returns c named =
    let units = c.get.ensures.value in
    shown_back c.args.date.now c.args.ask.now c.args.moment named c.as_bytes.ensures.named
    (subst (λ (n : ℕ). 1 ≤ n) units c.get.ensures.least)
    (subst (λ (n : ℕ). n ≤ MOST) units c.get.ensures.most)
    (subst (λ (n : ℕ). IsTrue (is_grid n)) c.get-2.ensures.value c.get-2.ensures.is_grid)
    (record {
      low_most = c.price_is_read_back.ensures.most;
      low_back = c.price_is_read_back.ensures.back;
      high_most = c.price_is_read_back-2.ensures.most;
      high_back = c.price_is_read_back-2.ensures.back;
    })
    c.time_is_read_back.ensures c.time_is_read_back-2.ensures
