use Rattle.std.proofs.Common.{◌≡◌, ℕ, List, [], ◌∷◌, ◌++◌, length, map, drop, ◌+◌, Bor, ap, sym, subst, ◌∙◌}
use Rattle.std.proofs.lemmas.List.{map-append}
use Rattle.fix_fields.specs.Frame.{Field}
use Rattle.fix_sessions.specs.Fields.{fields_in, front_piece}
use Rattle.fix_sessions.proofs.ScanLemmas.{next_some, next_none, next_flaw, next_within}
use Rattle.fix_sessions.proofs.SeamLemmas.{IsSeam, before_seam, seam_begins, seam_none, seam_some}
use Rattle.fix_sessions.proofs.scanned.Scanned.of.Goals as goal

pub loop-at-preserved-in-Some : goal.loop-at-preserved-in-Some
loop-at-preserved-in-Some c =
    let bytes = c.args.bytes.now in
    let piece = c.front_piece-piece.result.now in
    let at = c.loop-at.at in
    let view : ℕ × Bor (List ℕ) → Field = λ f. (f.0, f.1.now) in
    let listed = map view c.loop-at.listed.items in
    let within = c.loop-at-test.true in
    let cut : piece ≡ front_piece (drop at bytes) = c.front_piece-piece.ensures ∙ ap front_piece c.past.ensures.value in
    let pushed : map view c.push.new.self.items ≡ listed ++ view c.in-Some.field ∷ [] =
    ap (map view) c.push.ensures.items ∙ map-append view c.loop-at.listed.items (c.in-Some.field ∷ []) in (
      next_some bytes piece at (view c.in-Some.field) listed within c.loop-at.invariant.0 cut c.in-Some.ensures
          ∙ ap (λ fields. fields ++ fields_in (drop (at + length piece + 1) bytes)) (sym pushed),
      next_flaw bytes c.near.result.now piece at c.loop-at.flaw c.flaw_with-flaw.result within c.loop-at.invariant.1 c.near.ensures.value cut c.flaw_with-flaw.ensures,
      next_within bytes piece at within cut,
      subst (IsSeam bytes (at + length piece + 1)) (sym pushed)
          (seam_some bytes piece at (view c.in-Some.field) listed within c.loop-at.invariant.3 cut c.in-Some.ensures),
    )

pub loop-at-preserved : goal.loop-at-preserved
loop-at-preserved c =
    let bytes = c.args.bytes.now in
    let piece = c.front_piece-piece.result.now in
    let at = c.loop-at.at in
    let view : ℕ × Bor (List ℕ) → Field = λ f. (f.0, f.1.now) in
    let within = c.loop-at-test.true in
    let cut : piece ≡ front_piece (drop at bytes) = c.front_piece-piece.ensures ∙ ap front_piece c.past.ensures.value in (
      next_none bytes piece at (map view c.loop-at.listed.items) within c.loop-at.invariant.0 cut c.in_default.ensures,
      next_flaw bytes c.near.result.now piece at c.loop-at.flaw c.flaw_with-flaw.result within c.loop-at.invariant.1 c.near.ensures.value cut c.flaw_with-flaw.ensures,
      next_within bytes piece at within cut,
      seam_none bytes piece at (map view c.loop-at.listed.items) within c.loop-at.invariant.3 cut c.in_default.ensures,
    )

pub flaw_with-flaw-requires-clause-listed : goal.flaw_with-flaw-requires-clause-listed
flaw_with-flaw-requires-clause-listed c =
    let view : ℕ × Bor (List ℕ) → Field = λ f. (f.0, f.1.now) in
    before_seam c.args.bytes.now c.near.result.now c.loop-at.at (map view c.loop-at.listed.items) c.loop-at-test.true c.loop-at.invariant.3 c.near.ensures.value
    ∙ ap (map view) (sym c.as_slice.ensures.value)
