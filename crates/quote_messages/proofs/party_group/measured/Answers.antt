use Rattle.std.proofs.Common.{◌≡◌, ◌∙◌, ap, sym, ◌∷◌, arith}
use Rattle.quote_messages.specs.GroupReading.{run_of}
use Rattle.fix_fields.specs.Frame.{Field}
use Rattle.quote_messages.proofs.GroupLemmas.{run_of-party, length_more, length_same, times_same}
use Rattle.quote_messages.proofs.party_group.measured.Goals as goal

pub loop-tag-preserved-then-is_of_party : goal.loop-tag-preserved-then-is_of_party
loop-tag-preserved-then-is_of_party c =
    let rest = c.next.new.self in
    let field : Field = (c.in-Some.tag, c.in-Some.field-0-1.now) in
    let run : run_of c.loop-tag.tag-iterator ≡ field ∷ run_of rest = ap run_of c.in-Some.ensures.steps ∙ run_of-party field rest (sym c.if-is_of_party.ensures) in (
      length_same c.loop-tag.len _ (run_of c.loop-tag.tag-iterator) field (run_of rest) run c.loop-tag.invariant.0,
      times_same c.loop-tag.entries c.counted-entries.result _ (run_of c.loop-tag.tag-iterator) field (run_of rest) c.counted-entries.ensures.one run c.loop-tag.invariant.1,
      length_more c.loop-tag.len _ c.loop-tag.tag-iterator field rest c.in-Some.ensures.steps c.loop-tag.invariant.2,
      (omega (arith, c.loop-tag.invariant.3, c.counted-entries.ensures.most)),
    )
