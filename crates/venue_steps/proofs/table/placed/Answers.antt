use Rattle.std.proofs.Common.{◌∙◌, sym, ap}
use Rattle.venue_steps.specs.Placed.{placed}
use Rattle.venue_steps.proofs.table.placed.Goals as goal

pub returns-in-Open : goal.returns-in-Open
unfolding placed
returns-in-Open c =
    c.in_room.ensures ∙ sym (ap (placed c.args.config.now c.args.by) c.in-Open.is)

pub returns-in-Show : goal.returns-in-Show
unfolding placed
returns-in-Show c =
    c.at_dealer.ensures ∙ sym (ap (placed c.args.config.now c.args.by) c.in-Show.is)

pub returns-in-Ready : goal.returns-in-Ready
unfolding placed
returns-in-Ready c =
    c.in_room-in-Ready.ensures ∙ sym (ap (placed c.args.config.now c.args.by) c.in-Ready.is)

pub returns-in-Post : goal.returns-in-Post
unfolding placed
returns-in-Post c =
    c.posted.ensures ∙ sym (ap (placed c.args.config.now c.args.by) c.in-Post.is)

pub returns-in-Relay : goal.returns-in-Relay
unfolding placed
returns-in-Relay c =
    c.at_investor.ensures ∙ sym (ap (placed c.args.config.now c.args.by) c.in-Relay.is)

pub returns-in-Unpost : goal.returns-in-Unpost
unfolding placed
returns-in-Unpost c =
    c.unposted.ensures ∙ sym (ap (placed c.args.config.now c.args.by) c.in-Unpost.is)

pub returns-in-Gone : goal.returns-in-Gone
unfolding placed
returns-in-Gone c =
    c.at_investor-in-Gone.ensures ∙ sym (ap (placed c.args.config.now c.args.by) c.in-Gone.is)

pub returns-in-Decline : goal.returns-in-Decline
unfolding placed
returns-in-Decline c =
    c.declines.ensures ∙ sym (ap (placed c.args.config.now c.args.by) c.in-Decline.is)

pub returns-in-Declined : goal.returns-in-Declined
unfolding placed
returns-in-Declined c =
    c.declined.ensures ∙ sym (ap (placed c.args.config.now c.args.by) c.in-Declined.is)

pub returns-in-Hit : goal.returns-in-Hit
unfolding placed
returns-in-Hit c =
    c.hit_in.ensures ∙ sym (ap (placed c.args.config.now c.args.by) c.in-Hit.is)

pub returns-in-Pass : goal.returns-in-Pass
unfolding placed
returns-in-Pass c =
    c.in_room-in-Pass.ensures ∙ sym (ap (placed c.args.config.now c.args.by) c.in-Pass.is)

pub returns-in-Answer : goal.returns-in-Answer
unfolding placed
returns-in-Answer c =
    c.at_investor-in-Answer.ensures ∙ sym (ap (placed c.args.config.now c.args.by) c.in-Answer.is)

pub returns-in-Close : goal.returns-in-Close
unfolding placed
returns-in-Close c =
    c.at_investor-in-Close.ensures ∙ sym (ap (placed c.args.config.now c.args.by) c.in-Close.is)

pub returns-in-Tell : goal.returns-in-Tell
unfolding placed
returns-in-Tell c =
    c.at_dealer-in-Tell.ensures ∙ sym (ap (placed c.args.config.now c.args.by) c.in-Tell.is)

pub returns-in-Drop : goal.returns-in-Drop
unfolding placed
returns-in-Drop c =
    c.drops.ensures ∙ sym (ap (placed c.args.config.now c.args.by) c.in-Drop.is)
