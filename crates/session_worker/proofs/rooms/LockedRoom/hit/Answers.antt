use Rattle.std.proofs.Common.{◌≡◌, ◌∙◌, ap, sym, subst}
use Rattle.quote_word.specs.declared.settled.Settled.TheVariants.{Lifted}
use Rattle.request_room.specs.Book.{room_after}
use Rattle.venue_steps.specs.RoomSteps.{hit_word}
use Rattle.venue_steps.specs.Words.{has_word, word_to_ask}
use Rattle.session_worker.specs.Watched.{Watched, asked_of}
use Rattle.session_worker.specs.Locks.{KeepsRoom, RoomUnderLock}
use Rattle.session_worker.proofs.LockLemmas.{entry_seen, hit_kept, hit_refused_kept}
use Rattle.session_worker.proofs.WatchedLemmas.{asked_is_noted, asks_on_board}
use Rattle.session_worker.proofs.WatchedLemmas.{counted_by, noted_by}
use Rattle.session_worker.proofs.rooms.LockedRoom.hit.Goals as goal

-- the room is as before, and the token later
pub invariant_of-self-in_err-duties : goal.invariant_of-self-in_err-duties
invariant_of-self-in_err-duties g c =
    let i = c.self.inside in
    let word = hit_word (room_after i.room) c.args.word c.args.moment in
    let before = c.new-words.result in
    let after = c.do_hit-done.new.words in
    let count = before.front.board.words in
    let same : before.front ≡ i.seen =
    ap (λ (w : Watched). w.front) c.new-words.ensures ∙ c.again.ensures.same in
    subst (KeepsRoom g.J.Naming.board g.J.Naming.config i.at c.do_hit-done.new.room)
    (sym c.into_parts-seen.ensures.seen)
    (hit_refused_kept g.J.Naming.board g.J.Naming.config i.at i.room c.do_hit-done.new.room
    i.seen before.front after.front (word_to_ask count word) c.self.invariant same
    (asks_on_board before after (word_to_ask count word) Lifted
    c.do_hit-done.ensures.words)
    c.in_err-duties.ensures.err)

-- the settlement of the word that is asked is its entry in the log of the later token
pub invariant_of-self-2 : goal.invariant_of-self-2
invariant_of-self-2 g c =
    let i = c.self.inside in
    let word = hit_word (room_after i.room) c.args.word c.args.moment in
    let before = c.new-words.result in
    let after = c.do_hit-done.new.words in
    let count = before.front.board.words in
    let same : before.front ≡ i.seen =
    ap (λ (w : Watched). w.front) c.new-words.ensures ∙ c.again.ensures.same in
    subst (KeepsRoom g.J.Naming.board g.J.Naming.config i.at c.do_hit-done.new.room)
    (sym c.into_parts-seen.ensures.seen)
    (hit_kept g.J.Naming.board g.J.Naming.config i.at i.room c.do_hit-done.new.room i.seen
    before.front after.front c.args.word c.args.moment (word_to_ask count word) (has_word count word)
    c.self.invariant same (asks_on_board before after (word_to_ask count word) Lifted
    c.do_hit-done.ensures.words)
    c.in_ok-duties.ensures.ok)

-- what was asked is noted with its settlement
pub returns-clause-word : goal.returns-clause-word
returns-clause-word g c =
    let i = c.self.inside in
    let word = hit_word (room_after i.room) c.args.word c.args.moment in
    let before = c.new-words.result in
    let after = c.do_hit-done.new.words in
    let count = before.front.board.words in
    noted_by count g.J.Naming.board.words after c.into_parts-seen.result.0
    c.into_parts-seen.result.1 word
    (counted_by g.J.Naming.board i.seen c.again.result before c.new-words.ensures
    c.again.ensures.same c.self.invariant.of_board)
    c.into_parts-seen.ensures.seen c.into_parts-seen.ensures.asked
    (asked_is_noted before after (word_to_ask count word) Lifted
    (ap (λ (w : Watched). w.asked) c.new-words.ensures) c.do_hit-done.ensures.words)
    ∙ ap (λ (under : RoomUnderLock). asked_of (entry_seen c.into_parts-seen.result.0)
    (word_to_ask g.J.Naming.board.words
    (hit_word (room_after under.events) c.args.word c.args.moment)))
    c.self.view_is
