use Rattle.std.proofs.Common.{◌≡◌, length}
use Rattle.day_weaving.proofs.RecordRoomLemmas.{FewRooms}
use Rattle.day_weaving.proofs.day_form.has_firms_of.Given as goal

abbrev pub invariant-loop-at : goal.invariant-loop-at
invariant-loop-at l = record {
  dealers : length l.day.dealers ≡ length l.config.dealers;
  investors : length l.day.investors ≡ length l.config.investors;
  few : FewRooms l.config l.day l.at;
}
