use Rattle.std.proofs.Common.{◌≡◌, sym, subst}
use Rattle.std.specs.Prelude.{IfOk, OnOk}
use Rattle.venue_steps.specs.Brought.{room_with, duties_in_room}
use Rattle.venue_steps.specs.declared.arrivals.ForRoom.{ForRoom}
use Rattle.venue_steps.proofs.bringing.bring_to_room.Goals as goal

pub returns-in-Open-clause-ok : goal.returns-in-Open-clause-ok
unfolding room_with
returns-in-Open-clause-ok c =
    subst (λ (what : ForRoom). OnOk c.do_open.result (c.do_open.new.room ≡ room_with c.args.room.now what))
    (sym c.in-Open.is) c.do_open.ensures.ok

pub returns-in-Open-clause-duties : goal.returns-in-Open-clause-duties
unfolding duties_in_room
returns-in-Open-clause-duties c =
    subst (λ (what : ForRoom). IfOk c.do_open.result (λ duties. duties.items ≡ duties_in_room c.args.at c.args.room.now what))
    (sym c.in-Open.is) c.do_open.ensures.duties

pub returns-in-Ready-clause-ok : goal.returns-in-Ready-clause-ok
unfolding room_with
returns-in-Ready-clause-ok c =
    subst (λ (what : ForRoom). OnOk c.do_ready.result (c.do_ready.new.room ≡ room_with c.args.room.now what))
    (sym c.in-Ready.is) c.do_ready.ensures.ok

pub returns-in-Ready-clause-duties : goal.returns-in-Ready-clause-duties
unfolding duties_in_room
returns-in-Ready-clause-duties c =
    subst (λ (what : ForRoom). IfOk c.do_ready.result (λ duties. duties.items ≡ duties_in_room c.args.at c.args.room.now what))
    (sym c.in-Ready.is) c.do_ready.ensures.duties

pub returns-in-Post-clause-ok : goal.returns-in-Post-clause-ok
unfolding room_with
returns-in-Post-clause-ok c =
    subst (λ (what : ForRoom). OnOk c.do_post.result (c.do_post.new.room ≡ room_with c.args.room.now what))
    (sym c.in-Post.is) c.do_post.ensures.ok

pub returns-in-Post-clause-duties : goal.returns-in-Post-clause-duties
unfolding duties_in_room
returns-in-Post-clause-duties c =
    subst (λ (what : ForRoom). IfOk c.do_post.result (λ duties. duties.items ≡ duties_in_room c.args.at c.args.room.now what))
    (sym c.in-Post.is) c.do_post.ensures.duties

pub returns-in-Unpost-clause-ok : goal.returns-in-Unpost-clause-ok
unfolding room_with
returns-in-Unpost-clause-ok c =
    subst (λ (what : ForRoom). OnOk c.do_unpost.result (c.do_unpost.new.room ≡ room_with c.args.room.now what))
    (sym c.in-Unpost.is) c.do_unpost.ensures.ok

pub returns-in-Unpost-clause-duties : goal.returns-in-Unpost-clause-duties
unfolding duties_in_room
returns-in-Unpost-clause-duties c =
    subst (λ (what : ForRoom). IfOk c.do_unpost.result (λ duties. duties.items ≡ duties_in_room c.args.at c.args.room.now what))
    (sym c.in-Unpost.is) c.do_unpost.ensures.duties

pub returns-in-Decline-clause-ok : goal.returns-in-Decline-clause-ok
unfolding room_with
returns-in-Decline-clause-ok c =
    subst (λ (what : ForRoom). OnOk c.do_decline.result (c.do_decline.new.room ≡ room_with c.args.room.now what))
    (sym c.in-Decline.is) c.do_decline.ensures.ok

pub returns-in-Decline-clause-duties : goal.returns-in-Decline-clause-duties
unfolding duties_in_room
returns-in-Decline-clause-duties c =
    subst (λ (what : ForRoom). IfOk c.do_decline.result (λ duties. duties.items ≡ duties_in_room c.args.at c.args.room.now what))
    (sym c.in-Decline.is) c.do_decline.ensures.duties

pub returns-in-Pass-clause-ok : goal.returns-in-Pass-clause-ok
unfolding room_with
returns-in-Pass-clause-ok c =
    subst (λ (what : ForRoom). OnOk c.do_pass.result (c.do_pass.new.room ≡ room_with c.args.room.now what))
    (sym c.in-Pass.is) c.do_pass.ensures.ok

pub returns-in-Pass-clause-duties : goal.returns-in-Pass-clause-duties
unfolding duties_in_room
returns-in-Pass-clause-duties c =
    subst (λ (what : ForRoom). IfOk c.do_pass.result (λ duties. duties.items ≡ duties_in_room c.args.at c.args.room.now what))
    (sym c.in-Pass.is) c.do_pass.ensures.duties

pub returns-in-Expire-clause-ok : goal.returns-in-Expire-clause-ok
unfolding room_with
returns-in-Expire-clause-ok c =
    subst (λ (what : ForRoom). OnOk c.do_expire.result (c.do_expire.new.room ≡ room_with c.args.room.now what))
    (sym c.in-Expire.is) c.do_expire.ensures.ok

pub returns-in-Expire-clause-duties : goal.returns-in-Expire-clause-duties
unfolding duties_in_room
returns-in-Expire-clause-duties c =
    subst (λ (what : ForRoom). IfOk c.do_expire.result (λ duties. duties.items ≡ duties_in_room c.args.at c.args.room.now what))
    (sym c.in-Expire.is) c.do_expire.ensures.duties
