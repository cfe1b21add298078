use Rattle.std.proofs.Common.{◌≡◌, ◌<◌, ◌≤◌, ◌++◌, [], ◌∷◌, length, ap, sym, ◌∙◌, subst, append_assoc, rules}
use Rattle.fix_fields.specs.Frame.{Field, fields_of}
use Rattle.fix_fields.proofs.FieldLemmas.{holds_before, holds_behind, none_left}
use Rattle.fix_fields.proofs.FieldsText.{one_first}
use Rattle.wire_messages.specs.ToVenue.{to_venue}
use Rattle.wire_messages.specs.Unwritten.{IsUnread}
use Rattle.wire_messages.proofs.GivenLemmas.{given_step, given_end, holds_nothing}
use Rattle.wire_messages.proofs.UnwrittenLemmas.{failed, unread_of, unwritten_more}
use Rattle.wire_messages.proofs.for_venue.put_fields.Goals as goal

pub loop-rest-preserved : goal.loop-rest-preserved
loop-rest-preserved c =
    let rest = c.loop-rest.rest.now in
    let behind = c.in-Some.behind.now in
    let field : Field = (c.in-Some.tag, c.in-Some.value.now) in
    let e = c.in-Some.ensures in
    let n = c.args.number in
    let before = c.loop-rest.writer in
    let first : fields_of rest ≡ field ∷ fields_of behind = one_first rest field behind e.0 e.1 in
    record {
      held = λ holds. c.loop-rest.invariant.held (holds_before rest field behind e.0 e.1 holds);
      holds = λ holds. holds_behind rest field behind e.0 e.1 (c.loop-rest.invariant.holds holds);
      fields = ap (λ w. w ++ to_venue n (fields_of behind)) c.in_ok-put_given.ensures
          ∙ append_assoc before (to_venue n (field ∷ [])) (to_venue n (fields_of behind))
          ∙ ap (λ fs. before ++ fs) (sym (ap (to_venue n) first ∙ given_step n field (fields_of behind)))
          ∙ c.loop-rest.invariant.fields;
    }

pub returns-clause-held : goal.returns-clause-held
returns-clause-held c =
    let none : length c.loop-rest.rest.now ≤ 0 = search rules in
    c.loop-rest.invariant.held (holds_nothing c.loop-rest.rest.now none)

pub returns-clause-fields : goal.returns-clause-fields
returns-clause-fields c =
    let none : length c.loop-rest.rest.now ≤ 0 = search rules in
    sym (given_end c.args.number c.loop-rest.rest.now c.loop-rest.writer none) ∙ c.loop-rest.invariant.fields

pub returns-in_default-clause-err : goal.returns-in_default-clause-err
returns-in_default-clause-err c =
    let some : 0 < length c.loop-rest.rest.now = search rules in
    λ holds. none_left c.loop-rest.rest.now some c.in_default.ensures (c.loop-rest.invariant.holds holds)

pub returns-in_err-put_given-clause-err : goal.returns-in_err-put_given-clause-err
returns-in_err-put_given-clause-err c =
    let why = c.in_err-put_given.field-0.0 in
    let rest = c.loop-rest.rest.now in
    let behind = c.in-Some.behind.now in
    let field : Field = (c.in-Some.tag, c.in-Some.value.now) in
    let e = c.in-Some.ensures in
    let n = c.args.number in
    let before = c.loop-rest.writer in
    let given = to_venue n (field ∷ []) in
    let more = to_venue n (fields_of behind) in
    let first : fields_of rest ≡ field ∷ fields_of behind = one_first rest field behind e.0 e.1 in
    let same : (before ++ given) ++ more ≡ c.args.writer.now ++ to_venue n (fields_of c.args.text.now) =
    append_assoc before given more
    ∙ ap (λ fs. before ++ fs) (sym (ap (to_venue n) first ∙ given_step n field (fields_of behind)))
    ∙ c.loop-rest.invariant.fields in
    failed _ _ c.from_residual.result why c.from_residual.ensures.1
    (subst (λ fs. IsUnread why c.args.text.now fs) same
    (unread_of why c.args.text.now ((before ++ given) ++ more) (unwritten_more 4071 why (before ++ given) more c.in_err-put_given.ensures)))
