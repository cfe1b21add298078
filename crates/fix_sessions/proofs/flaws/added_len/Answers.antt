use Rattle.std.proofs.Common.{◌≡◌, ◌≤◌, ◌<◌, ◌-◌, length, ap, arith, rules}
use Rattle.fix_sessions.specs.Fields.{front_piece, behind_piece, piece_field}
use Rattle.fix_sessions.specs.Flaws.{added_len, added_within}
use Rattle.fix_sessions.proofs.FlawLemmas.{added_step, behind_shorter}
use Rattle.fix_sessions.proofs.flaws.added_len.Goals as goal

pub loop-rest-preserved : goal.loop-rest-preserved
loop-rest-preserved c =
    let rest = c.loop-rest.rest.now in
    let some : 0 < length rest = search rules in
    let step = added_step rest some in
    let shorter = behind_shorter rest some in
    let behind = c.split_piece.ensures.behind in
    let here : added_len (length rest - length (behind_piece rest)) (piece_field (front_piece rest)) ≡ c.added_by-len.result = search rules in
    let few : c.added_by-len.result ≤ length rest - length (behind_piece rest) = search rules in
    let after = ap (λ b. added_within (length b) b) behind in
    (omega (arith, c.loop-rest.invariant.0, step, here, after), omega (arith, c.loop-rest.invariant.1, few, shorter, ap length behind))
