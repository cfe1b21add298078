use Rattle.std.proofs.Common.{◌≡◌, ◌++◌, take}
use Rattle.std.specs.List.{flat_map}
use Rattle.step_replay.specs.AuditTrail.{audit_trail}
use Rattle.venue_text.specs.DueCommand.{dealer_text, numbered_dealers}
use Rattle.venue_text.proofs.due_command.push_dealers.Given as goal

abbrev pub invariant-loop-dealer : goal.invariant-loop-dealer
invariant-loop-dealer l =
    l.text.items ≡ l.fn.text.items
    ++ flat_map (dealer_text l.venue (audit_trail l.venue l.steps)) (take l.dealer (numbered_dealers l.venue))
