use Rattle.step_replay.proofs.Common.{refl, sym, hit_in}
use Rattle.step_replay.proofs.FoundDealers.{idle_does}
use Rattle.step_replay.proofs.RoomPlaceLemmas.{no_room, room_at}
use Rattle.step_replay.proofs.HitLemmas.{hit_does}
use Rattle.step_replay.proofs.floor.Floor.hit.Goals as goal

pub returns-in_default : goal.returns-in_default
returns-in_default c config facts stands one =
    idle_does config facts c.args.self.now
    (hit_in config facts c.args.room c.args.response c.args.word c.args.moment) _ stands
    c.nothing.ensures
    (rw (no_room config facts c.args.self.now c.args.room stands (sym c.in_default.ensures)) refl)

pub returns : goal.returns
returns c config facts stands one =
    let place = room_at config facts c.args.self.now c.args.room c.in-Some.investor
    c.in-Some.index c.index_mut.result.now c.index_mut-place.result.now stands c.in-Some.ensures
    c.index_mut.ensures.value c.index_mut-place.ensures.value in
    hit_does stands one place c.args.response c.args.word c.args.moment c.do_hit.new.words
    c.do_hit.new.room _ c.in_ok-duties.duties.items (record {
      exchange = c.do_hit.ensures.words;
      grown = c.in_ok-duties.ensures.ok;
      leaves = c.in_ok-duties.ensures.duties;
      notes = c.in_ok-note_award.ensures;
    })
