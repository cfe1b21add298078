use Rattle.std.proofs.Common.{ℕ, List, Option, ◌∙◌, ap}
use Rattle.dealer_desk.specs.DealerFacts.{request_named}
use Rattle.dealer_desk.specs.DealerRules.{quote_verdict, quote_refusal, quote_on}
use Rattle.dealer_desk.specs.declared.standing.StandingRequest.{StandingRequest}
use Rattle.dealer_desk.proofs.rules.quote_verdict.Goals as goal

pub returns-in_default : goal.returns-in_default
unfolding quote_verdict quote_refusal
returns-in_default c =
    let book = c.args.index.now.book in
    c.refused.ensures
    ∙ ap (λ (found : Option StandingRequest). quote_on c.args.row.now book c.args.moment c.args.quote found)
    (c.in_default.ensures.request ∙ ap (λ (name : List ℕ). request_named book name) c.as_bytes.ensures.value)
