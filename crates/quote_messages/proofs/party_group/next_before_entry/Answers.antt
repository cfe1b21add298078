use Rattle.std.proofs.Common.{◌∙◌, ap, sym}
use Rattle.quote_messages.specs.SessionLines.{occurrence_of}
use Rattle.quote_messages.specs.PartyGroup.{before_entry}
use Rattle.fix_fields.specs.Frame.{Field}
use Rattle.quote_messages.proofs.GroupLemmas.{differs, is_same, stands_before, passed_before}
use Rattle.quote_messages.proofs.party_group.next_before_entry.Goals as goal

pub returns-then-tag-wanted : goal.returns-then-tag-wanted
returns-then-tag-wanted c =
    let rest = c.next.new.self in
    let field : Field = (c.in-Some.tag, c.in-Some.value.now) in
    sym c.loop-tag.invariant.1
    ∙ ap (λ all. occurrence_of c.args.wanted (before_entry all)) c.in-Some.ensures.steps
    ∙ stands_before c.args.wanted field rest (differs c.in-Some.tag 448 c.if-tag-eq448.false) (is_same c.in-Some.tag c.args.wanted c.if-tag-wanted.true)

pub loop-tag-preserved : goal.loop-tag-preserved
loop-tag-preserved c =
    let rest = c.next.new.self in
    let field : Field = (c.in-Some.tag, c.in-Some.value.now) in (
      (tt, tt),
      sym (passed_before c.args.wanted field rest (differs c.in-Some.tag 448 c.if-tag-eq448.false) (differs c.in-Some.tag c.args.wanted c.if-tag-wanted.false))
          ∙ sym (ap (λ all. occurrence_of c.args.wanted (before_entry all)) c.in-Some.ensures.steps)
          ∙ c.loop-tag.invariant.1,
    )
