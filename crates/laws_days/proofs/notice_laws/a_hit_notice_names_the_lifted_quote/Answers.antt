use Rattle.laws_days.proofs.Common.{Told, audit_trail, AtDesk, of_dealer, each_of}
use Rattle.market_terms.specs.declared.closes.Close.TheVariants as closes
use Rattle.laws_days.proofs.VenueDay.{venue_ok}
use Rattle.laws_days.proofs.VenueParts.{NamesLifted}
use Rattle.laws_days.proofs.notice_laws.a_hit_notice_names_the_lifted_quote.Goals as goal

pub returns : goal.returns
returns c config steps dealer row before after request moment is splits =
    let words = c.what_is_asked_is_of_the_day.ensures in
    let stands = venue_ok c.limits_are_kept.ensures.lone
    record { asks = words.message; drops = words.drop } config steps in
    each_of (NamesLifted config.date row) (of_dealer dealer (audit_trail config steps).facts) before
    (AtDesk (Told request closes.Hit moment)) after (stands.desks dealer row is).names splits
