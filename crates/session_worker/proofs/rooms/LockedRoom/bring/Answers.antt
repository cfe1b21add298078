use Rattle.session_worker.proofs.BroughtLemmas.{room_brought}
use Rattle.session_worker.proofs.rooms.LockedRoom.bring.Goals as goal

-- no word is asked
pub invariant_of-self-2 : goal.invariant_of-self-2
invariant_of-self-2 g c = room_brought g.J.Naming.board g.J.Naming.config c.self.inside.at
    c.self.inside.room c.bring_to_room.new.room c.self.inside.seen c.args.what c.self.invariant
    c.in_ok-duties.ensures.ok
