use Rattle.std.proofs.Common.{◌∙◌, ap, sym}
use Rattle.quote_messages.specs.PartyGroup.{group_of}
use Rattle.fix_fields.specs.Frame.{Field}
use Rattle.quote_messages.proofs.GroupLemmas.{differs, group_of-other, length_behind}
use Rattle.quote_messages.proofs.party_group.behind_count.Goals as goal

pub loop-tag-preserved : goal.loop-tag-preserved
loop-tag-preserved c =
    let rest = c.next.new.self in
    let field : Field = (c.in-Some.tag, c.in-Some.field-0-1.now) in (
      (tt, tt),
      (
        sym (group_of-other field rest (differs c.in-Some.tag 453 c.if-tag-eq453.false)) ∙ sym (ap group_of c.in-Some.ensures.steps) ∙ c.loop-tag.invariant.1.0,
        length_behind c.loop-tag.rest field rest _ c.in-Some.ensures.steps c.loop-tag.invariant.1.1,
      ),
    )
