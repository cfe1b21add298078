use Rattle.step_replay.proofs.Common.{◌≤◌, length, ap, sym, ◌∙◌, arith, option_map, Some}
use Rattle.step_replay.proofs.Common.{DealerRow, live_trail}
use Rattle.step_replay.specs.AuditTrail.{due_to}
use Rattle.step_replay.specs.LiveDays.{live_steps}
use Rattle.step_replay.specs.NoteViews.{dealer_note_view}
use Rattle.step_replay.proofs.FoundDealers.{found_read, no_dealer}
use Rattle.step_replay.proofs.NotedLemmas.{noted_as_viewed}
use Rattle.step_replay.proofs.live.LiveVenue.dealer_notes.Goals as goal

pub returns-in_default : goal.returns-in_default
returns-in_default c config steps at =
    let floor = c.args.self.now.replay.floor in
    let past : length floor.dealers.items ≤ c.args.firm =
    omega (arith, c.from.ensures, c.in_default.ensures.lookup.3, ap length c.deref.ensures.value) in
    ap (option_map (λ (row : DealerRow). dealer_note_view config.date row
    (due_to c.args.firm (live_trail config steps))))
    (sym (no_dealer config (live_trail config steps).facts floor c.args.firm
    at.stands.replay_stands.floor_stands past))

pub returns : goal.returns
returns c config steps at =
    let found = found_read config (live_trail config steps).facts c.args.self.now.replay.floor
    c.args.firm c.from.result c.deref.result.now c.in-Some.place.now
    at.stands.replay_stands.floor_stands c.from.ensures c.deref.ensures.value
    c.in-Some.ensures.lookup.3.0 c.in-Some.ensures.lookup.1 in
    ap Some (c.notes.ensures
    ∙ noted_as_viewed c.the_same_facts_have_the_same_notes.ensures config (live_steps steps)
    c.args.firm found.row c.in-Some.place.now found.row_is found.stands)
    ∙ ap (option_map (λ (row : DealerRow). dealer_note_view config.date row
    (due_to c.args.firm (live_trail config steps))))
    (sym found.row_is)
