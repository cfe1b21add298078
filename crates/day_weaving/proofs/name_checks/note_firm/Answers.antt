use Rattle.day_weaving.proofs.PlaceNotes.{desk_alone, with_rooms}
use Rattle.day_weaving.proofs.name_checks.note_firm.Goals as goal

pub returns-then-not-at_desk-clause-no : goal.returns-then-not-at_desk-clause-no
returns-then-not-at_desk-clause-no c told = c.in_ok-at_desk.ensures.no c.if-not-at_desk.true

pub returns-in_default-clause-all : goal.returns-in_default-clause-all
returns-in_default-clause-all c told =
    desk_alone c.args.config.now c.args.day.now c.note_site.new.places c.args.firm
    (c.in_ok-at_desk.ensures.all c.if-not-at_desk.false) c.in_default.ensures

pub returns-clause-all : goal.returns-clause-all
returns-clause-all c told =
    with_rooms c.args.config.now c.args.day.now c.note_site.new.places c.note_rooms.new.places
    c.args.firm c.in-Some.row.now (c.in_ok-at_desk.ensures.all c.if-not-at_desk.false)
    (c.in_ok-in_rooms.ensures.grow told) c.in-Some.ensures (c.in_ok-in_rooms.ensures.all told)
