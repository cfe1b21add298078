use Rattle.std.proofs.Common.{◌≡◌, drop, fold}
use Rattle.request_room.specs.Kept.{earlier_of, earliest_of}
use Rattle.request_room.proofs.book.earliest_of.Given as goal

abbrev pub invariant-loop-one : goal.invariant-loop-one
invariant-loop-one l =
    earliest_of l.w l.quotes ≡ fold (earlier_of l.w) l.found (drop l.one-index l.quotes)
