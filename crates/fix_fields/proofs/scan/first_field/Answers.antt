use Rattle.std.proofs.Common.{◌+◌, drop, ap, ◌∙◌}
use Rattle.std.proofs.lemmas.List.{take_rest}
use Rattle.fix_fields.proofs.FieldLemmas.{IsFieldAt}
use Rattle.fix_fields.proofs.PlaceLemmas.{place_of}
use Rattle.fix_fields.proofs.LawfulLemmas.{lawful_parts, lawful_field_at}
use Rattle.fix_fields.proofs.scan.first_field.Goals as goal

pub len_before_soh-len-requires : goal.len_before_soh-len-requires
len_before_soh-len-requires c =
    let text = c.args.text.now in
    let n = c.lawful_tag-tag.result.1 in
    rw (take_rest text (n + 1), c.lawful_tag-tag.ensures.count) (lawful_parts text c.requires).ended

at : (c : goal.After-result-1) → IsFieldAt c.args.text.now c.lawful_tag-tag.result.1 c.len_before_soh-len.result
at c =
    let text = c.args.text.now in
    let n = c.lawful_tag-tag.result.1 in
    lawful_field_at text n c.len_before_soh-len.result c.requires c.lawful_tag-tag.ensures.count
    (c.len_before_soh-len.ensures.place ∙ ap (λ xs. place_of 1 xs) (take_rest text (n + 1)))

pub returns-clause-lawful : goal.returns-clause-lawful
returns-clause-lawful c = rw (take_rest c.args.text.now (c.lawful_tag-tag.result.1 + 1), c.lawful_tag-tag.ensures.value) (at c).lawful

pub returns-clause-text : goal.returns-clause-text
returns-clause-text c =
    let text = c.args.text.now in
    let n = c.lawful_tag-tag.result.1 in
    rw (take_rest text (n + 1), take_rest (drop (n + 1) text) (c.len_before_soh-len.result + 1), c.lawful_tag-tag.ensures.value) (at c).is
