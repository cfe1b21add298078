use Rattle.session_worker.proofs.BroughtLemmas.{dealer_brought}
use Rattle.session_worker.proofs.DealerAnswers.{DeskLaws}
use Rattle.session_worker.proofs.dealers.LockedDealer.bring.Goals as goal

-- no word is asked
pub invariant_of-self-2 : goal.invariant_of-self-2
invariant_of-self-2 g c =
    let laws : DeskLaws = record {
      asks = c.words_are_asked_event_by_event.ensures;
      answered = c.events_are_settled_one_by_one.ensures.more;
    } in
    dealer_brought laws g.J.Naming.board g.J.Naming.config c.self.inside.firm
    c.self.inside.first_word c.self.inside.desk c.bring_to_dealer.new.desk c.self.inside.seen
    c.args.what c.self.invariant c.in_ok-duties.ensures.ok
