use Rattle.std.proofs.Common.{◌≡◌, ◌%◌, sum, take}
use Rattle.fix_sessions.proofs.cuts.checksum.Given as goal

abbrev pub invariant-loop-byte : goal.invariant-loop-byte
invariant-loop-byte l = l.sum ≡ sum (take l.byte-index l.bytes) % 256
