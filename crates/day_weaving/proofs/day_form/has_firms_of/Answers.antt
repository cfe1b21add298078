use Rattle.std.proofs.Common.{◌≡◌, ◌<◌, ◌≤◌, ap, arith, get_or, length, refl, subst}
use Rattle.std.proofs.lemmas.Option.{slice_get_read, slice_get_within}
use Rattle.day_weaving.proofs.RecordRoomLemmas.{few_more, rooms_known, too_many_rooms}
use Rattle.day_weaving.proofs.day_form.has_firms_of.Goals as goal

pub returns-then-has_more_rooms-clause-no : goal.returns-then-has_more_rooms-clause-no
returns-then-has_more_rooms-clause-no c told =
    let config = c.args.config.now in
    let at = c.loop-at.at in
    let row = c.row-item.result in
    let rows_are = c.investors-row-items.ensures.value in
    let within = subst (λ l. at < length l) rows_are c.loop-at-test.true in
    let is = subst (λ l. row ≡ get_or l at row) rows_are c.row-item.is in
    let more = c.has_more_rooms.ensures.yes c.if-has_more_rooms.true in
    too_many_rooms config c.args.day.now c.loop-at.invariant.dealers at more.0 row more.1
    (slice_get_read config.investors (length config.investors) at row refl within is) more.2

pub loop-at-preserved : goal.loop-at-preserved
loop-at-preserved c =
    let config = c.args.config.now in
    let at = c.loop-at.at in
    let row = c.row-item.result in
    let rows_are = c.investors-row-items.ensures.value in
    let within = subst (λ l. at < length l) rows_are c.loop-at-test.true in
    let is = subst (λ l. row ≡ get_or l at row) rows_are c.row-item.is in
    record {
      dealers = c.loop-at.invariant.dealers;
      investors = c.loop-at.invariant.investors;
      few = few_more config c.args.day.now at row
          (slice_get_read config.investors (length config.investors) at row refl within is)
          (c.has_more_rooms.ensures.no c.if-has_more_rooms.false) c.loop-at.invariant.few;
    }

pub returns-clause-yes : goal.returns-clause-yes
returns-clause-yes c told =
    let config = c.args.config.now in
    let same : length c.investors-row-items.result.now ≡ length config.investors =
    ap length c.investors-row-items.ensures.value in
    let ended : length config.investors ≤ c.loop-at.at = omega arith in
    record {
      dealers = c.loop-at.invariant.dealers;
      investors = c.loop-at.invariant.investors;
      rooms = rooms_known config c.args.day.now c.loop-at.invariant.dealers
          c.loop-at.invariant.investors (λ at investor row there row_there.
          let inside : at < length config.investors =
          slice_get_within config.investors at row row_there in
          let below : at < c.loop-at.at = omega arith in
          c.loop-at.invariant.few at investor row below there row_there);
    }
