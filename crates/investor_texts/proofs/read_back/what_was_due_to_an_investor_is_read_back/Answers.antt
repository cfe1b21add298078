use Rattle.std.proofs.Common.{◌++◌, ◌∷◌, [], take, sym, ap, subst, ◌∙◌}
use Rattle.std.proofs.lemmas.List.{take_all, take_more}
use Rattle.investor_views.specs.declared.dues.InvestorDue.{InvestorDue}
use Rattle.investor_texts.proofs.ReadBackLists.{EachReadsAs, all_back, one_reads_more}
use Rattle.investor_texts.proofs.read_back.what_was_due_to_an_investor_is_read_back.Goals as goal

pub loop-due-init : goal.loop-due-init
loop-due-init c = tt

pub loop-due-preserved : goal.loop-due-preserved
loop-due-preserved c =
    let date = c.args.date.now in
    let dues = c.args.dues.now in
    let index = c.loop-due.due-index in
    let item = c.due-item.result in
    subst (EachReadsAs date)
    (sym (take_more dues index item c.loop-due-test.true
    ∙ ap (λ (found : InvestorDue). take index dues ++ found ∷ []) (sym c.due-item.is)))
    (one_reads_more date (take index dues) item c.loop-due.invariant c.is_read_back.ensures)

pub returns : goal.returns
returns c sayable =
    let date = c.args.date.now in
    let dues = c.args.dues.now in
    let all = take_all c.loop-due.due-index dues c.loop-due-test.false in
    all_back date dues (subst (EachReadsAs date) all c.loop-due.invariant) sayable
