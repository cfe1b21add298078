use Rattle.std.proofs.Common.{sym, ◌∙◌}
use Rattle.venue_config.proofs.RowLemmas.{is_among_dealers, named_twice, named_first}
use Rattle.venue_config.proofs.rows.read_dealer_name.Goals as goal

pub returns-then-has_dealer : goal.returns-then-has_dealer
returns-then-has_dealer c =
    named_twice _ _ c.in_ok-name.name c.in_ok-name.ensures
    (sym (is_among_dealers c.args.dealers.now c.in_ok-name.name) ∙ sym c.has_dealer.ensures ∙ c.if-has_dealer.true)

pub returns : goal.returns
returns c =
    named_first _ _ c.in_ok-name.name c.in_ok-name.ensures
    (sym (is_among_dealers c.args.dealers.now c.in_ok-name.name) ∙ sym c.has_dealer.ensures ∙ c.if-has_dealer.false)
