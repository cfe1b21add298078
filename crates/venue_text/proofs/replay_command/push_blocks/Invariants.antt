use Rattle.std.proofs.Common.{◌≡◌, ◌++◌, length}
use Rattle.venue_text.specs.MessageLines.{messages_text}
use Rattle.venue_text.proofs.replay_command.push_blocks.Given as goal

abbrev pub invariant-loop-rest : goal.invariant-loop-rest
invariant-loop-rest l =
    l.text ++ messages_text l.with_frames l.firm l.rest
    ≡ l.fn.text ++ messages_text l.with_frames l.firm l.messages

abbrev pub decreases-loop-rest : goal.decreases-loop-rest
decreases-loop-rest l = length l.rest
