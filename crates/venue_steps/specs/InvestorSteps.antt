-- What each step at an investor's desk does there, and the duties that it leaves. A step about a
-- request that was not accepted, or a quote that was not shown on it, changes nothing.
use Rattle.std.specs.Prelude.{ℕ, Bool, ◌&&◌, List, None, if◌then◌else◌}
use Rattle.std.specs.Option.{option_to_list}
use Rattle.market_terms.specs.declared.closes.Reply.{Reply}
use Rattle.market_terms.specs.declared.duties.Duty.{Duty}
use Rattle.market_terms.specs.declared.rooms.Offer.{Offer}
use Rattle.market_terms.specs.declared.rooms.ResponseRef.{ResponseRef}
use Rattle.investor_desk.specs.InvestorFacts.{knows}
use Rattle.investor_desk.specs.InvestorDesk.{DeskEvents, book_at, verdict_at, with_event}
use Rattle.investor_desk.specs.InvestorOutput.{verdict_duty}
use Rattle.investor_desk.specs.declared.events.InvestorEvent.{InvestorEvent}
use Rattle.investor_desk.specs.declared.events.InvestorEvent.TheVariants as event
pub use Rattle.venue_steps.specs.Replies.{is_not_open, replies_to, replies_to_hit, replies_to_pass}

-- A message of the investor's own.

-- the desk after a message
abbrev pub desk_after_own : DeskEvents → ℕ → List ℕ → DeskEvents
desk_after_own desk moment bytes = with_event desk (event.Received moment bytes)

-- what a message leaves: the opening of an accepted request's room, a hit, a pass, or nothing
abbrev pub duties_of_own : DeskEvents → ℕ → List ℕ → List Duty
duties_of_own desk moment bytes =
    option_to_list (verdict_duty desk.market moment (verdict_at desk moment bytes))

-- What comes from a room. It leaves no duty.

-- the desk after an event, where it may come
abbrev pub with_event_if : Bool → DeskEvents → InvestorEvent → DeskEvents
with_event_if may desk event = if may then with_event desk event else desk

-- whether the desk knows a request
abbrev pub knows_request : DeskEvents → ℕ → Bool
knows_request desk request = knows (book_at desk) request None

-- the desk after it is shown a quote
abbrev pub desk_after_relay : DeskEvents → ℕ → Offer → ℕ → DeskEvents
desk_after_relay desk request offer moment =
    with_event_if (knows_request desk request) desk (event.QuoteCame request offer moment)

-- the desk after it is told that a quote is gone
abbrev pub desk_after_gone : DeskEvents → ℕ → ℕ → ℕ → DeskEvents
desk_after_gone desk request word moment =
    with_event_if (knows_request desk request) desk (event.QuoteGone request word moment)

-- the desk after it is told that a dealer declined
abbrev pub desk_after_declined : DeskEvents → ℕ → List ℕ → ℕ → DeskEvents
desk_after_declined desk request dealer moment =
    with_event_if (knows_request desk request) desk (event.DealerDeclined request dealer moment)

-- the desk after a hit or a pass is answered
abbrev pub desk_after_answer : DeskEvents → ℕ → ResponseRef → Reply → ℕ → DeskEvents
desk_after_answer desk request response reply moment =
    with_event_if (knows (book_at desk) request response.k && replies_to response.k reply) desk
    (event.Answered request response reply moment)

-- the desk after a request expired
abbrev pub desk_after_close : DeskEvents → ℕ → ℕ → DeskEvents
desk_after_close desk request moment =
    with_event_if (knows_request desk request) desk (event.Closed request moment)
