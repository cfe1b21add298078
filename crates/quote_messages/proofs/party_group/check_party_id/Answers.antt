use Rattle.std.proofs.Common.{◌∙◌, ap, sym, Some, None, cond, is_some}
use Rattle.market_terms.specs.Texts.{is_id}
use Rattle.quote_messages.specs.declared.session_faults.SessionRejectReason.TheVariants.{TagWithoutValue}
use Rattle.quote_messages.specs.declared.session_faults.SessionRejectReason.TheVariants.{IncorrectDataFormat}
use Rattle.quote_messages.specs.ValueForms.{AnId, value_fault}
use Rattle.quote_messages.specs.SessionLines.{at_tag}
use Rattle.quote_messages.proofs.GroupLemmas.{party_id_fault, text_if-none, text_if-some}
use Rattle.quote_messages.proofs.party_group.check_party_id.Goals as goal

pub returns-then-is_empty : goal.returns-then-is_empty
returns-then-is_empty c = λ date.
    party_id_fault date c.args.id.now c.args.behind.now
    ∙ ap (λ empty. at_tag 448 (cond empty (Some TagWithoutValue) (value_fault date AnId c.args.id.now))) (sym c.if-is_empty.ensures)
    ∙ ap Some (sym c.fault.ensures)

pub returns-then-is_none : goal.returns-then-is_none
returns-then-is_none c = λ date.
    let lawful = text_if-none (is_id c.args.id.now) c.args.id.now (ap is_some (sym c.new.ensures) ∙ c.if-is_none.ensures) in
    party_id_fault date c.args.id.now c.args.behind.now
    ∙ ap (λ empty. at_tag 448 (cond empty (Some TagWithoutValue) (value_fault date AnId c.args.id.now))) (sym c.if-is_empty.ensures)
    ∙ ap (λ b. at_tag 448 (cond b None (Some IncorrectDataFormat))) lawful
    ∙ ap Some (sym c.fault-then-is_none.ensures)

pub returns : goal.returns
returns c = λ date.
    let lawful = text_if-some (is_id c.args.id.now) c.args.id.now (ap is_some (sym c.new.ensures) ∙ c.if-is_none.ensures) in (
      party_id_fault date c.args.id.now c.args.behind.now
          ∙ ap (λ empty. at_tag 448 (cond empty (Some TagWithoutValue) (value_fault date AnId c.args.id.now))) (sym c.if-is_empty.ensures)
          ∙ ap (λ b. at_tag 448 (cond b None (Some IncorrectDataFormat))) lawful,
      tt,
    )
