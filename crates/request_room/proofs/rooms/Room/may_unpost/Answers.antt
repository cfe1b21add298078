use Rattle.std.proofs.Common.{◌&&◌, ◌∙◌, ap}
use Rattle.request_room.specs.Book.{book_of, stands, room_after}
use Rattle.request_room.proofs.KeptBookLemmas.{stands_is}
use Rattle.request_room.proofs.rooms.Room.may_unpost.Goals as goal

pub returns-then-takes_quotes : goal.returns-then-takes_quotes
returns-then-takes_quotes c =
    let standing = stands (book_of (room_after c.args.self.now)) c.args.dealer c.args.w in
    c.stands.ensures
    ∙ stands_is c.self.invariant c.args.dealer c.args.w
    ∙ ap (λ events. stands (book_of (room_after events)) c.args.dealer c.args.w) c.self.view_is
    ∙ ap (λ takes. takes && standing) c.if-takes_quotes.ensures
