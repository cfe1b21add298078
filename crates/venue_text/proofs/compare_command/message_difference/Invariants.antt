use Rattle.std.proofs.Common.{◌≡◌, take}
use Rattle.venue_text.proofs.compare_command.message_difference.Given as goal

abbrev pub invariant-loop-place : goal.invariant-loop-place
invariant-loop-place l = take l.place l.one ≡ take l.place l.other
