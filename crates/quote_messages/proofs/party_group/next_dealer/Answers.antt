use Rattle.std.proofs.Common.{◌≡◌, ◌∙◌, ap, sym, ◌∷◌, []}
use Rattle.quote_messages.specs.PartyGroup.{named_dealers, entries_of, entries_fault}
use Rattle.fix_fields.specs.Frame.{Field}
use Rattle.quote_messages.proofs.GroupLemmas.{differs, is_same, dealers_skip, dealers_named}
use Rattle.quote_messages.proofs.GroupLemmas.{dealers_other, dealers_none, whole_behind}
use Rattle.quote_messages.proofs.GroupLemmas.{id_of_whole}
use Rattle.quote_messages.proofs.party_group.next_dealer.Goals as goal

pub loop-tag-preserved-then-tag-ne448 : goal.loop-tag-preserved-then-tag-ne448
loop-tag-preserved-then-tag-ne448 c =
    let rest = c.next.new.self in
    let field : Field = (c.in-Some.tag, c.in-Some.value.now) in
    let other = differs c.in-Some.tag 448 c.if-tag-ne448.true in (
      (tt, tt),
      (
        sym (dealers_skip field rest other) ∙ sym (ap named_dealers c.in-Some.ensures.steps) ∙ c.loop-tag.invariant.1.0,
        λ date. whole_behind _ date field rest other (sym (ap (λ all. entries_fault date (entries_of all)) c.in-Some.ensures.steps) ∙ c.loop-tag.invariant.1.1 date),
      ),
    )

pub returns-then-names_dealer-clause-next : goal.returns-then-names_dealer-clause-next
returns-then-names_dealer-clause-next c =
    let rest = c.next.new.self in
    let id = c.in-Some.value.now in
    let steps : c.loop-tag.fields ≡ (448, id) ∷ rest = c.in-Some.ensures.steps ∙ ap (λ tag. (tag, id) ∷ rest) c.if-tag-ne448.false in (
      sym c.loop-tag.invariant.1.0 ∙ ap named_dealers steps ∙ dealers_named id rest (c.if-names_dealer.ensures id),
      id_of_whole [] id rest (sym (ap (λ all. entries_fault [] (entries_of all)) steps) ∙ c.loop-tag.invariant.1.1 []),
    )

pub returns-then-names_dealer-clause-whole : goal.returns-then-names_dealer-clause-whole
returns-then-names_dealer-clause-whole c = λ date.
    let rest = c.next.new.self in
    let field : Field = (c.in-Some.tag, c.in-Some.value.now) in
    whole_behind _ date field rest (is_same c.in-Some.tag 448 c.if-tag-ne448.false) (sym (ap (λ all. entries_fault date (entries_of all)) c.in-Some.ensures.steps) ∙ c.loop-tag.invariant.1.1 date)

pub loop-tag-preserved : goal.loop-tag-preserved
loop-tag-preserved c =
    let rest = c.next.new.self in
    let id = c.in-Some.value.now in
    let field : Field = (c.in-Some.tag, id) in
    let steps : c.loop-tag.fields ≡ (448, id) ∷ rest = c.in-Some.ensures.steps ∙ ap (λ tag. (tag, id) ∷ rest) c.if-tag-ne448.false in (
      (tt, tt),
      (
        sym (dealers_other id rest (c.if-names_dealer.ensures id)) ∙ sym (ap named_dealers steps) ∙ c.loop-tag.invariant.1.0,
        λ date. whole_behind _ date field rest (is_same c.in-Some.tag 448 c.if-tag-ne448.false) (sym (ap (λ all. entries_fault date (entries_of all)) c.in-Some.ensures.steps) ∙ c.loop-tag.invariant.1.1 date),
      ),
    )

pub returns-clause-next : goal.returns-clause-next
returns-clause-next c = sym c.loop-tag.invariant.1.0 ∙ dealers_none c.loop-tag.fields c.in_default.ensures.steps.0

pub returns-clause-none : goal.returns-clause-none
returns-clause-none c = dealers_none c.next.new.self c.in_default.ensures.steps.1
