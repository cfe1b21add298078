use Rattle.step_replay.proofs.Common.{◌≡◌, ◌<◌, ◌≤◌, ◌+◌, refl, ap, subst, ◌∙◌, ◌++◌, replicate}
use Rattle.step_replay.proofs.Common.{length, get_or, owners_from}
use Rattle.step_replay.proofs.OpeningLemmas.{owners_next, owners_whole}
use Rattle.step_replay.proofs.opening.owners_of_words.Goals as goal

pub loop-row-init : goal.loop-row-init
loop-row-init c = record {
  items = ap (λ l. l ++ owners_from 0 c.args.config.now.dealers) c.new-owners.ensures.items;
  number = refl;
}

pub loop-row-preserved : goal.loop-row-preserved
loop-row-preserved c =
    let at = c.loop-row.row-index in
    let row = c.row-item.result in
    let rows_are = c.dealers-row-items.ensures.value in
    record {
      items = owners_next c.args.config.now.dealers at row _ _ _
          (subst (λ l. at < length l) rows_are c.loop-row-test.true)
          (subst (λ l. row ≡ get_or l at row) rows_are c.row-item.is) c.loop-row.invariant.items
          (c.in_ok-put_owner.ensures
          ∙ ap (λ n. c.loop-row.owners.items ++ replicate row.quotes n) c.loop-row.invariant.number);
      number = ap (λ n. n + 1) c.loop-row.invariant.number;
    }

pub returns-clause-owners : goal.returns-clause-owners
returns-clause-owners c =
    owners_whole c.args.config.now.dealers c.loop-row.row-index _ _
    (subst (λ l. length l ≤ c.loop-row.row-index) c.dealers-row-items.ensures.value c.loop-row-test.false)
    c.loop-row.invariant.items
