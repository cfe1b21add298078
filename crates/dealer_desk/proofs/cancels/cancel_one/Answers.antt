use Rattle.std.proofs.Common.{◌∙◌, Option, ap}
use Rattle.dealer_desk.specs.DealerRules.{cancel_verdict, cancel_of, cancel_answer}
use Rattle.dealer_desk.specs.declared.refusals.CancelRefusal.{CancelRefusal}
use Rattle.dealer_desk.specs.declared.standing.StandingQuote.{StandingQuote}
use Rattle.dealer_desk.proofs.cancels.cancel_one.Goals as goal

pub returns-in_default : goal.returns-in_default
unfolding cancel_verdict
returns-in_default c = c.refused.ensures ∙ ap (λ (found : Option StandingQuote). cancel_of c.args.id found) c.in_default.ensures

pub returns-in-Some-cancel_refusal : goal.returns-in-Some-cancel_refusal
unfolding cancel_verdict
returns-in-Some-cancel_refusal c =
    c.refused-in-Some-cancel_refusal.ensures
    ∙ ap (λ (reason : Option CancelRefusal). cancel_answer c.args.id c.in-Some.own.now reason) c.in-Some-cancel_refusal.ensures
    ∙ ap (λ (found : Option StandingQuote). cancel_of c.args.id found) c.in-Some.ensures

pub returns : goal.returns
unfolding cancel_verdict
returns c =
    ap (λ (reason : Option CancelRefusal). cancel_answer c.args.id c.in-Some.own.now reason) c.in_default-cancel_refusal.ensures
    ∙ ap (λ (found : Option StandingQuote). cancel_of c.args.id found) c.in-Some.ensures
