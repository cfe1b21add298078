use Rattle.std.proofs.Common.{◌∷◌}
use Rattle.venue_text.proofs.DayLemmas.{flat_more}
use Rattle.venue_text.proofs.due_command.push_traders.Goals as goal

pub loop-place-preserved : goal.loop-place-preserved
loop-place-preserved c =
    flat_more (λ word. 32 ∷ word) c.args.traders.now c.loop-place.place
    c.args.text.now.items c.loop-place.text.items c.push_trader.new.text.items c.loop-place.invariant c.in_ok-push_trader.ensures
