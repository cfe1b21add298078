use Rattle.std.proofs.Common.{◌≡◌, ◌≤◌, ◌<◌, ◌+◌, ◌-◌, ◌==◌, false, Some, length, drop, get_or, ap, sym, ◌∙◌, arith, rules, length-drop}
use Rattle.std.proofs.lemmas.List.{take_all}
use Rattle.fix_sessions.proofs.TagLemmas.{tag_there}
use Rattle.fix_sessions.proofs.fields.piece_field.Goals as goal

pub returns : goal.returns
returns c =
    let piece = c.args.piece.now in
    let tag = c.leading_number-tag.result.0 in
    let count = c.leading_number-tag.result.1 in
    let found = c.leading_number-tag.ensures in
    let some : 1 ≤ count = omega (arith, c.if-count-eq0.false) in
    let inside : count < length piece = omega (arith, found.within, c.if-count-piece.false) in
    let equals : get_or piece count 0 ≡ 61 = search rules in
    let other : (get_or piece 0 0 == 48) ≡ false = search rules in
    tag_there piece count tag some found.few inside found.digits found.value equals other
    ∙ ap (λ v. Some (tag, v)) (sym (take_all (length piece - (count + 1)) (drop (count + 1) piece) (omega (arith, length-drop (count + 1) piece))))
