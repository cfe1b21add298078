use Rattle.step_replay.specs.VenueRooms.{rooms_of}
use Rattle.laws_days.proofs.LiveLemmas.{none_left_behind, none_left_first, none_left_swept}
use Rattle.laws_days.proofs.live_laws.no_duty_is_left_on_a_live_day.Goals as goal

pub returns-clause-start : goal.returns-clause-start
returns-clause-start c config = none_left_first config

pub returns-clause-step : goal.returns-clause-step
returns-clause-step c config steps next after told idle answers =
    none_left_behind config steps next idle answers.none_left

pub returns-clause-sweep : goal.returns-clause-sweep
returns-clause-sweep c config steps moment after told idle answers =
    none_left_swept config steps moment (rooms_of config) idle answers.none_left
