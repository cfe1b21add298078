use Rattle.std.proofs.Common.{◌≡◌, ◌++◌, take}
use Rattle.std.specs.List.{flat_map}
use Rattle.venue_text.specs.ReplayText.{firm_text, named_days}
use Rattle.venue_text.proofs.replay_command.push_firms.Given as goal

abbrev pub invariant-loop-firm : goal.invariant-loop-firm
invariant-loop-firm l =
    l.text.items ≡ l.fn.text.items
    ++ flat_map (firm_text l.with_frames) (take l.firm (named_days l.venue l.world))
