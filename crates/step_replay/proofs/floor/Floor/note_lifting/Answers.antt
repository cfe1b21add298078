use Rattle.step_replay.proofs.Common.{◌∙◌, ap, get_or}
use Rattle.step_replay.proofs.LiftingLemmas.{noted_at}
use Rattle.step_replay.proofs.floor.Floor.note_lifting.Goals as goal

pub returns : goal.returns
returns c number place inside owned at =
    noted_at c.args.self.now c.args.word c.from.result c.in-Some-get_mut.place.now c.note.new.self
    c.saturating_sub-quote.result
    (c.from.ensures ∙ c.in-Some.ensures.lookup.3.1 c.from.result
    ∙ ap (λ l. get_or l c.args.word c.from.result) c.deref.ensures.value)
    c.in-Some-get_mut.ensures.value c.saturating_sub-quote.ensures c.in_ok-note.ensures number
    place owned at
