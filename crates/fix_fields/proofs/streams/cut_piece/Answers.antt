use Rattle.std.proofs.Common.{◌≡◌, ◌-◌, ◌++◌, ◌∷◌, [], length, take, drop, sym, ap, ◌∙◌, subst}
use Rattle.std.proofs.Common.{arith, rules, Ok, min}
use Rattle.std.proofs.lemmas.List.{take_rest}
use Rattle.std.proofs.lemmas.Result.{IfOk-weaker}
use Rattle.fix_fields.specs.declared.limits.TheConstants.{MOST_FRAME}
use Rattle.fix_fields.specs.Envelope.{front_of}
use Rattle.fix_fields.specs.Envelope.Front.{Faulty}
use Rattle.fix_fields.specs.Scan.{cut_on, WaitsFor}
use Rattle.fix_fields.proofs.StreamLemmas.{joins_begun, joins_fault, message_joins}
use Rattle.fix_fields.proofs.streams.cut_piece.Goals as goal

pub returns-in-Begun-clause-ok : goal.returns-in-Begun-clause-ok
returns-in-Begun-clause-ok c =
    let kept = c.args.kept.now.items in
    let piece = c.args.piece.now in
    let old : c.len-old.result ≡ length kept = search rules in
    let joined = c.in_ok-extend_from_slice.ensures.items ∙ ap (λ k. k ++ take c.min-joined.result piece) c.reserve.ensures.items in
    let most : c.min-joined.result ≡ min (MOST_FRAME - length kept) (length piece) = omega (arith, c.min-joined.ensures) in
    let waits = subst (λ t. WaitsFor c.in-Begun.wait t) c.deref.ensures.value c.in-Begun.ensures in
    (rw c.new.ensures.items (joins_begun kept piece c.extend_from_slice.new.self.items c.min-joined.result c.in-Begun.wait joined most waits), waits)

pub returns-in-Faulty-clause-ok : goal.returns-in-Faulty-clause-ok
returns-in-Faulty-clause-ok c =
    let kept = c.args.kept.now.items in
    let piece = c.args.piece.now in
    let joined = c.in_ok-extend_from_slice.ensures.items ∙ ap (λ k. k ++ take c.min-joined.result piece) c.reserve.ensures.items in
    let faulty = subst (λ t. front_of t ≡ Faulty c.in-Faulty.fault) c.deref.ensures.value c.in-Faulty.ensures in
    (rw c.new-in-Faulty.ensures.items (joins_fault kept piece c.extend_from_slice.new.self.items c.min-joined.result c.in-Faulty.fault joined c.requires.begun faulty), tt)

pub overflow_sub-len : goal.overflow_sub-len
overflow_sub-len c =
    let kept = c.args.kept.now.items in
    let old : c.len-old.result ≡ length kept = search rules in
    let joins = message_joins kept c.args.piece.now c.min-joined.result c.in-Message.len c.reserve.ensures.items c.in_ok-extend_from_slice.ensures.items
    c.requires.begun c.deref.ensures.value c.in-Message.ensures in
    let longer = joins.longer in
    omega arith

pub returns-in-Message-clause-ok : goal.returns-in-Message-clause-ok
returns-in-Message-clause-ok c =
    let kept = c.args.kept.now.items in
    let piece = c.args.piece.now in
    let n = c.in-Message.len in
    let old : c.len-old.result ≡ length kept = search rules in
    let joins = message_joins kept piece c.min-joined.result n c.reserve.ensures.items c.in_ok-extend_from_slice.ensures.items
    c.requires.begun c.deref.ensures.value c.in-Message.ensures in
    let behind : take (length piece - (n - c.len-old.result)) (drop (n - c.len-old.result) piece) ≡ drop (n - length kept) piece =
    take_rest piece (n - c.len-old.result) ∙ ap (λ k. drop (n - k) piece) old in
    IfOk-weaker c.put_messages.result _ _
    (λ cut is. (joins.cut ∙ (ap (λ t. cut_on (take n c.extend_from_slice.new.self.items ∷ []) (Ok []) t) (sym behind) ∙ is.0), is.1))
    c.put_messages.ensures.ok
