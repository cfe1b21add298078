use Rattle.std.proofs.Common.{ap, ◌∙◌}
use Rattle.dealer_desk.specs.DealerTable.{IndexView}
use Rattle.dealer_desk.specs.declared.outcomes.Note.TheVariants as note
use Rattle.dealer_desk.proofs.NoteLemmas.{note_keeps_used}
use Rattle.dealer_desk.proofs.answers.note_changes.Goals as goal

pub returns-in_ok-accept-in-Accepted-clause-used : goal.returns-in_ok-accept-in-Accepted-clause-used
returns-in_ok-accept-in-Accepted-clause-used c =
    ap (λ (i : IndexView). i.book.used) c.in_ok-accept-in-Accepted.ensures.ok
    ∙ note_keeps_used c.args.index.now (note.Accepted c.in-Accepted.quote)

pub returns-in_ok-replace-in-Replaced-clause-used : goal.returns-in_ok-replace-in-Replaced-clause-used
returns-in_ok-replace-in-Replaced-clause-used c =
    ap (λ (i : IndexView). i.book.used) c.in_ok-replace-in-Replaced.ensures.ok
    ∙ note_keeps_used c.args.index.now (note.Replaced c.in-Replaced.replaced c.in-Replaced.quote)

pub returns-in-Cancelled-clause-used : goal.returns-in-Cancelled-clause-used
returns-in-Cancelled-clause-used c =
    ap (λ (i : IndexView). i.book.used) c.cancel.ensures
    ∙ note_keeps_used c.args.index.now (note.Cancelled c.in-Cancelled.quote)

pub returns-in-Late-clause-used : goal.returns-in-Late-clause-used
returns-in-Late-clause-used c =
    ap (λ (i : IndexView). i.book.used) c.find_lifted.ensures
    ∙ note_keeps_used c.args.index.now (note.Late c.in-Late.quote)

pub returns-in-Declined-clause-used : goal.returns-in-Declined-clause-used
returns-in-Declined-clause-used c =
    ap (λ (i : IndexView). i.book.used) c.decline.ensures
    ∙ note_keeps_used c.args.index.now (note.Declined c.in-Declined.request)
