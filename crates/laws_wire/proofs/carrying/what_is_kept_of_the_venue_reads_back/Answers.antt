use Rattle.laws_sessions.specs.Given.{given_bodies}
use Rattle.step_replay.specs.AuditTrail.{audit_trail, sent_to}
use Rattle.laws_wire.proofs.CarriedBack.{all_made_carried}
use Rattle.laws_wire.proofs.carrying.what_is_kept_of_the_venue_reads_back.Goals as goal

pub returns-clause-dealers : goal.returns-clause-dealers
returns-clause-dealers c config steps number row tolds names s events limits dated is beside
    no_reset made =
    let frames = sent_to config number (audit_trail config steps) in
    c.what_is_kept_reads_back.ensures.read names s events frames tolds no_reset
    (all_made_carried 1 frames tolds (given_bodies names s events) made
    (c.each_message_can_be_carried.ensures.dealers config steps number row tolds limits dated is
    beside))

pub returns-clause-investors : goal.returns-clause-investors
returns-clause-investors c config steps number row tolds names s events limits dated is beside
    no_reset made =
    let frames = sent_to config number (audit_trail config steps) in
    c.what_is_kept_reads_back.ensures.read names s events frames tolds no_reset
    (all_made_carried 1 frames tolds (given_bodies names s events) made
    (c.each_message_can_be_carried.ensures.investors config steps number row tolds limits dated is
    beside))
