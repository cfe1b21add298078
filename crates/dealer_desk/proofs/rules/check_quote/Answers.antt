use Rattle.std.proofs.Common.{◌++◌, ◌∙◌, sym}
use Rattle.dealer_desk.specs.DealerRules.{quote_refusal}
use Rattle.dealer_desk.specs.RuleCuts.{standing_checks, terms_checks, day_checks}
use Rattle.dealer_desk.proofs.RefusalLemmas.{refused_first, passed_first, standing_by_row}
use Rattle.dealer_desk.proofs.rules.check_quote.Goals as goal

pub returns-in-Err : goal.returns-in-Err
unfolding quote_refusal
returns-in-Err c =
    let book = c.args.index.now.book in
    let request = c.args.shown.now.request in
    let terms = terms_checks c.args.moment c.args.quote.now request.ask in
    let day = day_checks c.args.row.now book c.args.moment c.args.quote.now request in
    passed_first (standing_checks book request) (terms ++ day)
    (sym (standing_by_row book c.args.shown.now c.requires.lifted) ∙ sym c.in_default.ensures)
    ∙ refused_first terms day c.in-Err.reason c.in-Err.ensures
