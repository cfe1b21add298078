use Rattle.std.proofs.Common.{◌≡◌, ◌≤◌, ◌+◌, ◌-◌, ◌++◌, length, map, drop}
use Rattle.fix_sessions.specs.Fields.{fields_in}
use Rattle.fix_sessions.specs.Flaws.{flaw_from, or_else}
use Rattle.fix_sessions.proofs.SeamLemmas.{IsSeam}
use Rattle.fix_sessions.proofs.scanned.Scanned.of.Given as goal

abbrev pub invariant-loop-at : goal.invariant-loop-at
invariant-loop-at l =
    (fields_in l.bytes ≡ map (λ f. (f.0, f.1.now)) l.listed.items ++ fields_in (drop l.at l.bytes))
    × (flaw_from (length l.bytes) l.bytes 0 ≡ or_else l.flaw (flaw_from (length l.bytes) l.bytes l.at))
    × (l.at ≤ length l.bytes + 1)
    × IsSeam l.bytes l.at (map (λ f. (f.0, f.1.now)) l.listed.items)

abbrev pub decreases-loop-at : goal.decreases-loop-at
decreases-loop-at l = length l.bytes + 1 - l.at
