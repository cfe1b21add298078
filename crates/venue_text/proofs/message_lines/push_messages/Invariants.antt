use Rattle.std.proofs.Common.{◌≡◌, ◌++◌, take}
use Rattle.std.specs.List.{flat_map}
use Rattle.venue_text.specs.MessageLines.{line_of}
use Rattle.venue_text.proofs.message_lines.push_messages.Given as goal

abbrev pub invariant-loop-message : goal.invariant-loop-message
invariant-loop-message l =
    l.text.items ≡ l.fn.text.items ++ flat_map (line_of l.with_frames l.firm) (take l.message-index l.messages)
