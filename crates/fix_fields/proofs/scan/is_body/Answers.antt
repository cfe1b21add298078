use Rattle.std.proofs.Common.{◌≡◌, true, false, drop, sym, ◌∙◌, rules}
use Rattle.std.proofs.lemmas.Bool.{false≢true}
use Rattle.std.proofs.lemmas.Bool.Decides.{Decides-eqb}
use Rattle.std.proofs.lemmas.Slice.Eq.{starts_is}
use Rattle.fix_fields.proofs.FieldsText.{msg_type_text, fields_of_body, body_begins}
use Rattle.fix_fields.proofs.FieldsText.{body_from_fields}
use Rattle.fix_fields.proofs.scan.is_body.Goals as goal

pub returns-then-not-starts_with : goal.returns-then-not-starts_with
returns-then-not-starts_with c =
    let text = c.args.text.now in
    let starts = starts_is Decides-eqb text msg_type_text c.starts_with.result c.starts_with.ensures.value in
    let no : c.starts_with.result ≡ false = search rules in (
      λ never. absurd (false≢true never),
      λ holds. (let b = body_begins text holds in absurd (false≢true (sym no ∙ starts.1 b.0 b.1))),
    )

pub returns : goal.returns
returns c =
    let text = c.args.text.now in
    let starts = starts_is Decides-eqb text msg_type_text c.starts_with.result c.starts_with.ensures.value in
    let yes-starts : c.starts_with.result ≡ true = search rules in (
      λ true-is. body_from_fields text (drop 3 text) (starts.0 yes-starts) (c.are_fields.ensures.0 true-is),
      λ holds. c.are_fields.ensures.1 (fields_of_body text holds),
    )
