use Rattle.std.proofs.Common.{◌≡◌, ◌++◌, List, take}
use Rattle.std.specs.List.{flat_map}
use Rattle.step_replay.specs.LiveDays.{live_trail}
use Rattle.step_replay.specs.LiveStanding.{IsAt}
use Rattle.step_replay.specs.declared.steps.Step.{Step}
use Rattle.venue_text.specs.DueCommand.{dealer_text, numbered_dealers}
use Rattle.venue_text.proofs.kept_days.push_dealers.Given as goal

abbrev pub invariant-loop-dealer : goal.invariant-loop-dealer
invariant-loop-dealer l = (steps : List Step) → IsAt l.day.config steps l.day.venue
    → l.text.items ≡ l.fn.text.items
    ++ flat_map (dealer_text l.day.config (live_trail l.day.config steps))
    (take l.dealer (numbered_dealers l.day.config))
