use Rattle.std.proofs.Common.{◌∙◌, ap}
use Rattle.request_room.specs.Book.{book_of, quote_meant, room_after}
use Rattle.request_room.proofs.KeptBookLemmas.{meant_is}
use Rattle.request_room.proofs.rooms.Room.quote_meant.Goals as goal

pub returns : goal.returns
returns c =
    c.hit.ensures
    ∙ meant_is c.self.invariant c.args.w
    ∙ ap (λ events. quote_meant (book_of (room_after events)) c.args.w) c.self.view_is
