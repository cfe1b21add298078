use Rattle.std.proofs.Common.{◌≡◌, true, ap, ◌∙◌}
use Rattle.dealer_desk.specs.DealerFacts.{Came}
use Rattle.dealer_desk.specs.DealerTable.{IndexView, with_fact}
use Rattle.dealer_desk.specs.RuleCuts.{note_uses}
use Rattle.dealer_desk.proofs.NoteLemmas.{came_behind}
use Rattle.dealer_desk.proofs.answers.take_note.Goals as goal

pub returns-clause-ok : goal.returns-clause-ok
returns-clause-ok c = λ moment bytes.
    let uses : note_uses c.args.note ≡ true = cc in
    c.came.ensures moment bytes
    ∙ ap (λ (i : IndexView). with_fact i (Came moment bytes true)) c.in_ok-note_changes.ensures.ok
    ∙ came_behind c.args.index.now c.args.note moment bytes uses
