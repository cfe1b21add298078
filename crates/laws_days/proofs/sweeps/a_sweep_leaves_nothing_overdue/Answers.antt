use Rattle.step_replay.specs.VenueRooms.{rooms_of}
use Rattle.laws_days.proofs.SweepLemmas.{in_rooms, room_swept, rooms_swept}
use Rattle.laws_days.proofs.sweeps.a_sweep_leaves_nothing_overdue.Goals as goal

pub returns-clause-room : goal.returns-clause-room
returns-clause-room c config steps room moment here = room_swept config moment room steps here

pub returns-clause-clock : goal.returns-clause-clock
returns-clause-clock c config steps room moment here =
    rooms_swept config moment room steps (rooms_of config) (in_rooms config room here) here
