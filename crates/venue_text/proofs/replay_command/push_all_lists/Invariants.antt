use Rattle.std.proofs.Common.{◌≡◌, ◌++◌, map, take}
use Rattle.std.specs.List.{flat_map, zip}
use Rattle.venue_rows.specs.Rows.{firm_names}
use Rattle.venue_text.specs.ReplayText.{list_text}
use Rattle.venue_text.proofs.replay_command.push_all_lists.Given as goal

abbrev pub invariant-loop-number : goal.invariant-loop-number
invariant-loop-number l =
    l.text ≡ l.fn.text ++ flat_map (list_text l.with_frames)
    (take l.number (zip (firm_names l.venue) (map (λ list. list.items) l.sent)))
