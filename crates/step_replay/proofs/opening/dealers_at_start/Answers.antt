use Rattle.step_replay.proofs.Common.{◌≡◌, ◌<◌, ℕ, List, ap, sym, subst, ◌∙◌, ◌+◌, [], length}
use Rattle.step_replay.proofs.Common.{get_or, DealerRow, DeskEvents, DealersOpen}
use Rattle.step_replay.proofs.OpeningLemmas.{dealers_grow, words_grow}
use Rattle.step_replay.proofs.opening.dealers_at_start.Goals as goal

abbrev no_events : List ℕ → DealerRow → DeskEvents
no_events date row = record { date = date; row = row; events = [] }

pub loop-row-preserved : goal.loop-row-preserved
loop-row-preserved c =
    let config = c.args.config.now in
    let at = c.loop-row.row-index in
    let row = c.row-item.result in
    let rows_are = c.dealers-row-items.ensures.value in
    let within = subst (λ l. at < length l) rows_are c.loop-row-test.true in
    let is = subst (λ l. row ≡ get_or l at row) rows_are c.row-item.is in
    record {
      opened = subst (λ l. DealersOpen config (at + 1) l) (sym (c.in_ok-push.ensures.items))
          (dealers_grow config at row c.loop-row.places.items _ within is
          c.loop-row.invariant.opened (record {
            desk_is = c.in_ok-desk.ensures
                ∙ ap (λ d. no_events d c.copy.result) c.date.ensures
                ∙ ap (no_events config.date) c.copy.ensures;
            first_is = c.loop-row.invariant.first;
            liftings_are = c.new-in-loop-row.ensures.items;
          }));
      first = ap (λ n. n + row.quotes) c.loop-row.invariant.first
          ∙ words_grow config.dealers at row within is;
    }
