use Rattle.std.proofs.Common.{◌≡◌, ◌++◌, ◌<◌, [], length, length-append, map, sym, ap, ◌∙◌, arith}
use Rattle.std.proofs.Common.{rules, Ok}
use Rattle.fix_fields.specs.Scan.{cutting, rest_of}
use Rattle.fix_fields.specs.Envelope.{cut_behind}
use Rattle.fix_fields.proofs.StreamLemmas.{waits_on, none_stands, cut_waiting, cut_behind_is}
use Rattle.fix_fields.proofs.streams.Splitter.feed.Goals as goal

pub returns-then-len-piece-clause-ok : goal.returns-then-len-piece-clause-ok
returns-then-len-piece-clause-ok c =
    let kept = c.self.inside.kept.items in
    let piece = c.args.piece.now in
    let stands = none_stands c.self.inside.fault c.self.inside.wait kept c.args.self.now c.in_default.is c.self.view_is c.self.invariant in
    let long : c.len.result ≡ length kept = search rules in
    let less : length (kept ++ piece) < c.self.inside.wait = omega (arith, length-append kept piece, c.if-len-piece.true) in
    let cut : cut_behind c.args.self.now piece ≡ cutting [] (Ok (kept ++ piece)) =
    ap (λ r. cut_behind r piece) stands.0 ∙ cut_waiting c.self.inside.wait kept piece stands.1 less in
    let none : c.new-then-len-piece.result ≡ [] = c.new-then-len-piece.ensures ∙ ap (λ t. map (λ message. message.items) t) c.new.ensures.items in (
      none ∙ sym (ap (λ d. d.messages) cut),
      ap (λ f. rest_of f c.extend_from_slice.new.self.items) c.in_default.is ∙ (ap (λ t. Ok t) c.in_ok-extend_from_slice.ensures.items ∙ sym (ap (λ d. d.rest) cut)),
    )

pub invariant_of-self-then-len-piece : goal.invariant_of-self-then-len-piece
invariant_of-self-then-len-piece c =
    let kept = c.self.inside.kept.items in
    let piece = c.args.piece.now in
    let stands = none_stands c.self.inside.fault c.self.inside.wait kept c.args.self.now c.in_default.is c.self.view_is c.self.invariant in
    let long : c.len.result ≡ length kept = search rules in
    let less : length (kept ++ piece) < c.self.inside.wait = omega (arith, length-append kept piece, c.if-len-piece.true) in
    rw (c.in_default.is, c.in_ok-extend_from_slice.ensures.items) (waits_on c.self.inside.wait kept piece stands.1 less)

pub returns-clause-ok : goal.returns-clause-ok
returns-clause-ok c =
    let kept = c.self.inside.kept.items in
    let piece = c.args.piece.now in
    let stands = none_stands c.self.inside.fault c.self.inside.wait kept c.args.self.now c.in_default.is c.self.view_is c.self.invariant in
    let cut = ap (λ r. cut_behind r piece) stands.0 ∙ (cut_behind_is kept piece ∙ c.in_ok-cut.ensures.ok.0) in
    (c.new-2.ensures ∙ sym (ap (λ d. d.messages) cut), sym (ap (λ d. d.rest) cut))
