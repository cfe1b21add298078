use Rattle.std.proofs.Common.{◌≡◌, ◌<◌, ◌+◌, ℕ, true, subst, length, get_or, Some, arith, rules}
use Rattle.std.specs.Prelude.{slice_get}
use Rattle.venue_rows.specs.Rows.{Configuration, has_room}
use Rattle.day_checks.proofs.RoomLemmas.{counts_more, rooms_of_row}
use Rattle.session_worker.proofs.venue.investors_at_start.Goals as goal
use Rattle.step_replay.specs.PlaceLemmas.{lent}

-- the rooms of the investor in this row
pub vacant_rooms-requires-clause-rooms : goal.vacant_rooms-requires-clause-rooms
vacant_rooms-requires-clause-rooms g c =
    let config = c.args.config.now in
    let row = c.row-item.result in
    let firm : c.loop-row.firm ≡ length config.dealers + c.loop-row.row-index =
    c.loop-row.invariant.firm in
    let at : row ≡ get_or config.investors c.loop-row.row-index row = search rules in
    let below : c.loop-row.row-index < length config.investors = search rules in
    let found : slice_get config.investors c.loop-row.row-index ≡ Some row =
    lent config.investors c.loop-row.row-index row below at in
    subst (λ (own : Configuration). (index : ℕ) → index < row.requests
    → has_room own c.loop-row.firm (index + 1) ≡ true) c.requires.config
    (rooms_of_row config c.loop-row.firm c.loop-row.row-index row firm found)

-- one investor more, with a room for each of its requests
pub loop-row-preserved : goal.loop-row-preserved
loop-row-preserved g c =
    let rows = c.args.config.now.investors in
    let row = c.row-item.result in
    let at : row ≡ get_or rows c.loop-row.row-index row = search rules in
    let below : c.loop-row.row-index < length rows = search rules in
    record {
      rooms = counts_more (λ place. length place.rooms.items) c.loop-row.places.items
          c.push.new.self.items _ rows c.loop-row.row-index row c.in_ok-push.ensures.items
          c.loop-row.invariant.rooms below at c.in_ok-rooms.ensures;
      firm = omega (arith, c.loop-row.invariant.firm);
    }
