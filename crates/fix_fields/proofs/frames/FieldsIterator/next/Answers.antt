use Rattle.std.proofs.Common.{◌≡◌, ◌∷◌, length, sym, ap, ◌∙◌, rules}
use Rattle.fix_fields.specs.Frame.{fields_of}
use Rattle.fix_fields.proofs.FieldsText.{one_first, rest_is_fields}
use Rattle.fix_fields.proofs.LawfulLemmas.{begins_with, none_in}
use Rattle.fix_fields.proofs.frames.FieldsIterator.next.Goals as goal

pub returns-then-is_empty-clause-steps : goal.returns-then-is_empty-clause-steps
returns-then-is_empty-clause-steps c =
    let none = sym c.self.view_is ∙ none_in c.self.inside.rest.now (search rules) in (none, none)

pub first_field-tag-requires : goal.first_field-tag-requires
first_field-tag-requires c = begins_with c.self.inside.rest.now c.self.invariant (search rules)

pub invariant_of-self : goal.invariant_of-self
invariant_of-self c =
    let r = c.first_field-tag.result in
    rest_is_fields c.self.inside.rest.now (r.0, r.1.now) r.2.now c.first_field-tag.ensures.lawful c.first_field-tag.ensures.text c.self.invariant

first : (c : goal.After-behind-2-1) → c.args.self.now ≡ (c.first_field-tag.result.0, c.first_field-tag.result.1.now) ∷ fields_of c.first_field-tag.result.2.now
first c =
    let r = c.first_field-tag.result in
    sym c.self.view_is ∙ one_first c.self.inside.rest.now (r.0, r.1.now) r.2.now c.first_field-tag.ensures.lawful c.first_field-tag.ensures.text

pub returns-clause-steps : goal.returns-clause-steps
returns-clause-steps c = first c

pub returns-clause-goes : goal.returns-clause-goes
returns-clause-goes c =
    let shorter = ap length (first c) in
    search rules
