use Rattle.std.proofs.Common.{◌≡◌, ◌≤◌, ◌++◌, [], ◌∷◌, Some, ap, ◌∙◌, subst, arith}
use Rattle.fix_fields.specs.Frame.{frame_text, fields_len, left_of}
use Rattle.wire_messages.specs.ToFirm.{to_firm, told_fields, wire_behind}
use Rattle.wire_messages.proofs.UnwrittenLemmas.{failed, stopped, unwritten_below}
use Rattle.wire_messages.proofs.WritingLemmas.{no_room_says, room_says}
use Rattle.wire_messages.proofs.for_firms.write.Goals as goal

pub returns : goal.returns
returns c =
    let m = c.args.message.now in
    let r = c.args.reference in
    let told = c.args.told.now in
    let one : c.in_ok-writer.writer ≡ (35, m.kind) ∷ [] = c.in_ok-writer.ensures ∙ ap (λ k. (35, k) ∷ []) c.kind.ensures.value in
    let two : c.put.new.writer ≡ (35, m.kind) ∷ (1181, m.number) ∷ [] =
    c.in_ok-put.ensures ∙ ap (λ w. w ++ (1181, c.number.result.now) ∷ []) one
    ∙ ap (λ n. (35, m.kind) ∷ (1181, n) ∷ []) c.number.ensures.value in
    let three : c.put_behind.new.writer ≡ (35, m.kind) ∷ (1181, m.number) ∷ wire_behind r m =
    c.in_ok-put_behind.ensures ∙ ap (λ w. w ++ wire_behind r m) two in
    let all : c.put_told.new.writer ≡ to_firm r told m = c.in_ok-put_told.ensures ∙ ap (λ w. w ++ told_fields told) three in
    let left = c.left.ensures in (
      c.in_ok-wire.ensures.0 ∙ ap frame_text all,
      c.in_ok-wire.ensures.1 ∙ ap (λ fs. Some fs) all,
      subst (λ fs. fields_len fs ≤ 3800) all (room_says c.put_told.new.writer (omega (arith, left))),
    )

pub returns-in_err-writer : goal.returns-in_err-writer
returns-in_err-writer c =
    let why = c.in_err-writer.field-0.0 in
    let m = c.args.message.now in
    let kind = c.kind.result.now in
    let told = c.args.told.now in
    let more = (1181, m.number) ∷ wire_behind c.args.reference m ++ told_fields told in
    failed _ _ c.from_residual.result why c.from_residual.ensures.1
    (stopped 3800 why ((35, kind) ∷ []) more (to_firm c.args.reference told m) (ap (λ k. (35, k) ∷ more) c.kind.ensures.value)
    (unwritten_below why ((35, kind) ∷ []) c.in_err-writer.ensures))

pub returns-in_err-put : goal.returns-in_err-put
returns-in_err-put c =
    let why = c.in_err-put.field-0.0 in
    let m = c.args.message.now in
    let told = c.args.told.now in
    let number = c.number.result.now in
    let writer = c.in_ok-writer.writer in
    let more = wire_behind c.args.reference m ++ told_fields told in
    let one : writer ≡ (35, m.kind) ∷ [] = c.in_ok-writer.ensures ∙ ap (λ k. (35, k) ∷ []) c.kind.ensures.value in
    let same : (writer ++ (1181, number) ∷ []) ++ more ≡ to_firm c.args.reference told m =
    ap (λ w. (w ++ (1181, number) ∷ []) ++ more) one ∙ ap (λ n. (35, m.kind) ∷ (1181, n) ∷ more) c.number.ensures.value in
    failed _ _ c.from_residual-in_err-put.result why c.from_residual-in_err-put.ensures.1
    (stopped 3800 why (writer ++ (1181, number) ∷ []) more (to_firm c.args.reference told m) same
    (unwritten_below why (writer ++ (1181, number) ∷ []) c.in_err-put.ensures))

pub returns-in_err-put_behind : goal.returns-in_err-put_behind
returns-in_err-put_behind c =
    let why = c.in_err-put_behind.field-0.0 in
    let m = c.args.message.now in
    let r = c.args.reference in
    let told = c.args.told.now in
    let writer = c.put.new.writer in
    let one : c.in_ok-writer.writer ≡ (35, m.kind) ∷ [] = c.in_ok-writer.ensures ∙ ap (λ k. (35, k) ∷ []) c.kind.ensures.value in
    let two : writer ≡ (35, m.kind) ∷ (1181, m.number) ∷ [] =
    c.in_ok-put.ensures ∙ ap (λ w. w ++ (1181, c.number.result.now) ∷ []) one
    ∙ ap (λ n. (35, m.kind) ∷ (1181, n) ∷ []) c.number.ensures.value in
    failed _ _ c.from_residual-in_err-put_behind.result why c.from_residual-in_err-put_behind.ensures.1
    (stopped 3800 why (writer ++ wire_behind r m) (told_fields told) (to_firm r told m)
    (ap (λ w. (w ++ wire_behind r m) ++ told_fields told) two)
    (unwritten_below why (writer ++ wire_behind r m) c.in_err-put_behind.ensures))

pub returns-then-left : goal.returns-then-left
returns-then-left c =
    let m = c.args.message.now in
    let r = c.args.reference in
    let told = c.args.told.now in
    let one : c.in_ok-writer.writer ≡ (35, m.kind) ∷ [] = c.in_ok-writer.ensures ∙ ap (λ k. (35, k) ∷ []) c.kind.ensures.value in
    let two : c.put.new.writer ≡ (35, m.kind) ∷ (1181, m.number) ∷ [] =
    c.in_ok-put.ensures ∙ ap (λ w. w ++ (1181, c.number.result.now) ∷ []) one
    ∙ ap (λ n. (35, m.kind) ∷ (1181, n) ∷ []) c.number.ensures.value in
    let three : c.put_behind.new.writer ≡ (35, m.kind) ∷ (1181, m.number) ∷ wire_behind r m =
    c.in_ok-put_behind.ensures ∙ ap (λ w. w ++ wire_behind r m) two in
    let all : c.put_told.new.writer ≡ to_firm r told m = c.in_ok-put_told.ensures ∙ ap (λ w. w ++ told_fields told) three in
    let left : c.left.result ≡ left_of (to_firm r told m) = c.left.ensures ∙ ap left_of all in
    no_room_says (to_firm r told m) c.left.result left (omega arith)
