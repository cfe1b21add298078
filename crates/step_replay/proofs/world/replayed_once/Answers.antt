use Rattle.step_replay.proofs.Common.{◌≡◌, length, rules}
use Rattle.std.proofs.lemmas.List.{nil_from_length}
use Rattle.step_replay.proofs.StartLemmas.{all_done, all_left, part_done}
use Rattle.step_replay.proofs.world.replayed_once.Goals as goal

pub loop-left-init : goal.loop-left-init
loop-left-init c =
    all_left c.args.config.now c.args.day.items c.in_ok-replay.replay c.requires
    c.in_ok-replay.ensures

pub loop-left-preserved : goal.loop-left-preserved
loop-left-preserved c =
    part_done c.args.config.now c.args.day.items c.loop-left.left.items
    c.split_off.new.self.items c.in_ok-later.later.items _ c.loop-left.replay c.run.new.self
    c.loop-left.invariant c.in_ok-later.ensures.items c.in_ok-later.ensures.tail
    c.in_ok-run.ensures

pub returns : goal.returns
returns c =
    let none : length c.loop-left.left.items ≡ 0 = search rules in
    (all_done c.args.config.now c.args.day.items c.loop-left.left.items c.loop-left.replay
    c.loop-left.invariant
    (nil_from_length c.loop-left.left.items none)).floor_stands
