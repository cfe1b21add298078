use Rattle.std.proofs.Common.{◌≡◌, ◌+◌, length, take, drop, Some, None, ap, sym, ◌∙◌, arith, length-drop}
use Rattle.fix_sessions.specs.Fields.{front_piece}
use Rattle.fix_sessions.specs.Flaws.{piece_flaw, flaw_from}
use Rattle.fix_sessions.proofs.FlawLemmas.{passes, is_told, front_is_short, flaw_at}
use Rattle.fix_sessions.proofs.flaws.pieces_flaw.Goals as goal

pub returns-in-Some : goal.returns-in-Some
returns-in-Some c =
    let body = c.args.body.now in
    let at = c.loop-at.at in
    let same = flaw_at body c.past.result.now c.near-before.result.now c.front_piece-piece.result.now at c.past.ensures.value c.near-before.ensures.value c.front_piece-piece.ensures in
    let told : piece_flaw (take at body) (front_piece (drop at body)) ≡ Some c.in-Some.fault = sym same ∙ sym c.piece_flaw.ensures ∙ c.in-Some.is in
    sym (c.loop-at.invariant.0 ∙ is_told body at c.in-Some.fault c.loop-at-test.true told)

pub loop-at-preserved : goal.loop-at-preserved
loop-at-preserved c =
    let body = c.args.body.now in
    let at = c.loop-at.at in
    let same = flaw_at body c.past.result.now c.near-before.result.now c.front_piece-piece.result.now at c.past.ensures.value c.near-before.ensures.value c.front_piece-piece.ensures in
    let none : piece_flaw (take at body) (front_piece (drop at body)) ≡ None = sym same ∙ sym c.piece_flaw.ensures ∙ c.in_default.is in
    let len : length c.front_piece-piece.result.now ≡ length (front_piece (drop at body)) =
    ap length c.front_piece-piece.ensures ∙ ap (λ b. length (front_piece b)) c.past.ensures.value in
    let next = c.loop-at.invariant.0 ∙ passes body at c.loop-at-test.true none in
    let short = front_is_short (drop at body) in
    (next ∙ ap (λ n. flaw_from (length body) body (at + (n + 1))) (sym len), omega (arith, len, short, length-drop at body, c.loop-at-test.true))
