use Rattle.market_terms.specs.declared.asks.Side.TheVariants.{Buy}
use Rattle.request_room.proofs.KeptRoomLemmas.{room_vacant}
use Rattle.request_room.proofs.rooms.Room.vacant.Goals as goal

pub invariant_of-result : goal.invariant_of-result
invariant_of-result c =
    rw (c.new.ensures.items, c.empty.ensures.side, c.empty.ensures.quotes) (room_vacant Buy)
