use Rattle.std.proofs.Common.{◌==◌, ◌∙◌, not, filter}
use Rattle.request_room.proofs.RankLemmas.{insert_at_rank}
use Rattle.request_room.proofs.book.RoomBook.post.Goals as goal

pub returns-clause-quotes : goal.returns-clause-quotes
returns-clause-quotes c =
    c.in_ok-insert.ensures.items
    ∙ rw (
      c.rank_of-place.ensures.place,
      c.deref.ensures.value,
      c.leave_others.ensures.items,
    )
    (insert_at_rank c.args.self.now.side
    (filter (λ one. not (one.quote.dealer == c.args.quote.dealer)) c.args.self.now.quotes.items)
    (record { posting = c.args.posting; quote = c.args.quote }))
