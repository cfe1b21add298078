use Rattle.std.proofs.Common.{subst}
use Rattle.session_worker.specs.Comings.{MayCome}
use Rattle.session_worker.proofs.actors.Shift.bring.Goals as goal

-- what comes is what was brought, of whichever kind it is
pub to_dealer-requires-after_bounds : goal.to_dealer-requires-after_bounds
to_dealer-requires-after_bounds g c κs within =
    subst (MayCome g.J.Naming.config c.args.self.now.by) c.in-Dealer.is c.requires

pub to_drop-requires-after_bounds : goal.to_drop-requires-after_bounds
to_drop-requires-after_bounds g c κs within =
    subst (MayCome g.J.Naming.config c.args.self.now.by) c.in-Drop.is c.requires

pub to_investor-requires-after_bounds : goal.to_investor-requires-after_bounds
to_investor-requires-after_bounds g c κs within =
    subst (MayCome g.J.Naming.config c.args.self.now.by) c.in-Investor.is c.requires

pub to_room-requires-after_bounds : goal.to_room-requires-after_bounds
to_room-requires-after_bounds g c κs within =
    subst (MayCome g.J.Naming.config c.args.self.now.by) c.in-Room.is c.requires

pub to_hit-requires-after_bounds : goal.to_hit-requires-after_bounds
to_hit-requires-after_bounds g c κs within =
    subst (MayCome g.J.Naming.config c.args.self.now.by) c.in-Hit.is c.requires
