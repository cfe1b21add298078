use Rattle.laws_days.proofs.Common.{audit_trail}
use Rattle.laws_days.proofs.ConditionMet.{message_met, met}
use Rattle.laws_days.proofs.VenueDay.{venue_ok}
use Rattle.laws_days.proofs.VenueDesk.{WordsOfDay}
use Rattle.laws_days.proofs.VenueKnown.{pending_ok}
use Rattle.laws_days.proofs.VenueParts.{later_same}
use Rattle.laws_days.proofs.condition_laws.steps_meet_their_tests.Goals as goal

pub returns-clause-duties : goal.returns-clause-duties
returns-clause-duties c config steps actor duty rest is =
    let words : WordsOfDay = record {
      asks = c.what_is_asked_is_of_the_day.ensures.message;
      drops = c.what_is_asked_is_of_the_day.ensures.drop;
    } in
    let day = audit_trail config steps in
    let stood = venue_ok c.limits_are_kept.ensures.lone words config steps in
    let fits = pending_ok stood actor duty rest is in
    met stood actor words duty (fits.0 day (later_same day)) fits.1

pub returns-clause-messages : goal.returns-clause-messages
returns-clause-messages c config steps dealer row moment bytes is =
    let words : WordsOfDay = record {
      asks = c.what_is_asked_is_of_the_day.ensures.message;
      drops = c.what_is_asked_is_of_the_day.ensures.drop;
    } in
    message_met (venue_ok c.limits_are_kept.ensures.lone words config steps) words dealer row moment
    bytes is
