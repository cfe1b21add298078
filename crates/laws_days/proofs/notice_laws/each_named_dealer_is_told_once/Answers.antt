use Rattle.laws_days.proofs.Common.{audit_trail}
use Rattle.laws_days.proofs.ToldLemmas.{is_told_once}
use Rattle.laws_days.proofs.VenueDay.{venue_ok}
use Rattle.laws_days.proofs.notice_laws.each_named_dealer_is_told_once.Goals as goal

pub returns : goal.returns
returns c config steps room end dealer idle ended named =
    let words = c.what_is_asked_is_of_the_day.ensures in
    is_told_once config (audit_trail config steps)
    (venue_ok c.limits_are_kept.ensures.lone record { asks = words.message; drops = words.drop }
    config steps) idle room end dealer ended named
