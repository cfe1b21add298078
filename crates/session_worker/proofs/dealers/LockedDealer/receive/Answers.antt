use Rattle.std.proofs.Common.{◌≡◌, ◌∙◌, ap, sym, subst}
use Rattle.quote_word.specs.declared.settled.Settled.TheVariants.{Withdrawn}
use Rattle.venue_steps.specs.DealerSteps.{own_word}
use Rattle.venue_steps.specs.Words.{word_to_ask}
use Rattle.session_worker.specs.Watched.{Watched, asked_of}
use Rattle.session_worker.specs.Locks.{DealerUnderLock, KeepsDealer}
use Rattle.session_worker.proofs.DealerAnswers.{DeskLaws}
use Rattle.session_worker.proofs.DealerLockLemmas.{own_kept, refused_kept}
use Rattle.session_worker.proofs.LockLemmas.{entry_seen}
use Rattle.session_worker.proofs.WatchedLemmas.{asked_is_noted, asks_on_board}
use Rattle.session_worker.proofs.WatchedLemmas.{counted_by, noted_by}
use Rattle.session_worker.proofs.dealers.LockedDealer.receive.Goals as goal

-- the desk is as before, and the token later
pub invariant_of-self-in_err-duties : goal.invariant_of-self-in_err-duties
invariant_of-self-in_err-duties g c =
    let i = c.self.inside in
    let word = own_word i.first_word i.desk c.args.moment c.args.bytes.now in
    let before = c.new-words.result in
    let after = c.own_dealer-done.new.words in
    let count = before.front.board.words in
    let same : before.front ≡ i.seen =
    ap (λ (w : Watched). w.front) c.new-words.ensures ∙ c.again.ensures.same in
    subst (λ seen. KeepsDealer g.J.Naming.board g.J.Naming.config i.firm i.first_word
    c.own_dealer-done.new.desk seen) (sym c.into_parts-seen.ensures.seen)
    (refused_kept g.J.Naming.board g.J.Naming.config i.firm i.first_word i.desk
    c.own_dealer-done.new.desk i.seen before.front after.front (word_to_ask count word) Withdrawn
    c.self.invariant same (asks_on_board before after (word_to_ask count word) Withdrawn
    c.own_dealer-done.ensures.words)
    c.in_err-duties.ensures.err)

-- the settlement of the word that is asked is its entry in the log of the later token
pub invariant_of-self-2 : goal.invariant_of-self-2
invariant_of-self-2 g c =
    let laws : DeskLaws = record {
      asks = c.words_are_asked_event_by_event.ensures;
      answered = c.events_are_settled_one_by_one.ensures.more;
    } in
    let i = c.self.inside in
    let word = own_word i.first_word i.desk c.args.moment c.args.bytes.now in
    let before = c.new-words.result in
    let after = c.own_dealer-done.new.words in
    let count = before.front.board.words in
    let same : before.front ≡ i.seen =
    ap (λ (w : Watched). w.front) c.new-words.ensures ∙ c.again.ensures.same in
    subst (λ seen. KeepsDealer g.J.Naming.board g.J.Naming.config i.firm i.first_word
    c.own_dealer-done.new.desk seen) (sym c.into_parts-seen.ensures.seen)
    (own_kept laws g.J.Naming.board g.J.Naming.config i.firm
    i.first_word i.desk c.own_dealer-done.new.desk i.seen before.front after.front
    c.args.moment c.args.bytes.now count c.self.invariant
    same (asks_on_board before after (word_to_ask count word) Withdrawn
    c.own_dealer-done.ensures.words) c.in_ok-duties.ensures.ok)

-- what was asked is noted with its settlement
pub returns-clause-word : goal.returns-clause-word
returns-clause-word g c =
    let i = c.self.inside in
    let word = own_word i.first_word i.desk c.args.moment c.args.bytes.now in
    let before = c.new-words.result in
    let after = c.own_dealer-done.new.words in
    let count = before.front.board.words in
    noted_by count g.J.Naming.board.words after c.into_parts-seen.result.0
    c.into_parts-seen.result.1 word
    (counted_by g.J.Naming.board i.seen c.again.result before c.new-words.ensures
    c.again.ensures.same c.self.invariant.of_board)
    c.into_parts-seen.ensures.seen c.into_parts-seen.ensures.asked
    (asked_is_noted before after (word_to_ask count word) Withdrawn
    (ap (λ (w : Watched). w.asked) c.new-words.ensures) c.own_dealer-done.ensures.words)
    ∙ ap (λ (under : DealerUnderLock). asked_of (entry_seen c.into_parts-seen.result.0)
    (word_to_ask g.J.Naming.board.words
    (own_word under.first under.desk c.args.moment c.args.bytes.now)))
    c.self.view_is
