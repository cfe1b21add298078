use Rattle.std.proofs.Common.{◌≡◌, ◌-◌, ◌<◌, ◌++◌, ◌∷◌, [], length, map, take, sym, ap, ◌∙◌, append_assoc, arith}
use Rattle.std.proofs.lemmas.Bool.Decides.{nat_tests}
use Rattle.std.proofs.lemmas.List.{append-nil}
use Rattle.input_lines.specs.SayLine.{with_bar}
use Rattle.venue_text.proofs.BarLemmas.{shown, shown_none}
use Rattle.venue_text.proofs.message_lines.push_fields.Goals as goal

pub returns-then-is_empty : goal.returns-then-is_empty
returns-then-is_empty c =
    let bytes = c.as_bytes-bytes.result.now in
    let none : length bytes ≡ 0 = grind (arith, nat_tests, c.if-is_empty.ensures) in
    let nothing = shown_none c.args.fields.now bytes c.as_bytes-bytes.ensures.text none in
    sym (ap (λ t. c.args.text.now.items ++ t) nothing ∙ append-nil _)

pub returns : goal.returns
returns c =
    let bytes = c.as_bytes-bytes.result.now in
    let some : 0 < length bytes = grind (arith, nat_tests, c.if-is_empty.ensures) in
    let barred = map with_bar (take (length bytes - 1) bytes) in
    c.in_ok-push_barred.ensures
    ∙ ap (λ t. t ++ barred) c.in_ok-push.ensures.items
    ∙ append_assoc c.args.text.now.items (32 ∷ []) barred
    ∙ ap (λ t. c.args.text.now.items ++ t)
    (shown c.args.fields.now bytes c.as_bytes-bytes.ensures.lawful c.as_bytes-bytes.ensures.text some)
