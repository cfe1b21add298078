use Rattle.std.proofs.Common.{◌∙◌, ap, Some}
use Rattle.std.specs.Option.{option_map}
use Rattle.request_room.specs.RoomFacts.{request_of}
use Rattle.request_room.specs.Book.{book_of, cover_for, room_after}
use Rattle.request_room.proofs.KeptBookLemmas.{cover_is}
use Rattle.request_room.proofs.rooms.Room.cover_for.Goals as goal

pub returns : goal.returns
returns c =
    let winner = Some c.args.winner.now in
    c.cover.ensures
    ∙ cover_is c.self.invariant c.args.winner.now
    ∙ ap (λ events. option_map (λ quote. quote.dealer)
    (cover_for (request_of (room_after events)) winner (book_of (room_after events))))
    c.self.view_is
