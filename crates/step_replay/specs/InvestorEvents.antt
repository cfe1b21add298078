-- The events at the desk of one investor, as its trail has them.
use Rattle.std.specs.Prelude.{ℕ, List, filter_map, Option, Some, None}
use Rattle.investor_desk.specs.declared.events.InvestorEvent.{InvestorEvent}
use Rattle.step_replay.specs.AuditTrail.{AuditTrail}
use Rattle.step_replay.specs.InvestorTrail.{InvestorEntry, Happened}
use Rattle.step_replay.specs.VenueFacts.{of_investor}

-- the event that an entry tells
abbrev pub event_in : InvestorEntry → Option InvestorEvent
event_in (Happened event) = Some event
event_in entry = None

-- the events of a trail
abbrev pub events_of : List InvestorEntry → List InvestorEvent
events_of trail = filter_map event_in trail

-- the events at the desk of the investor with this number
abbrev pub happened_to : ℕ → AuditTrail → List InvestorEvent
happened_to investor trail = events_of (of_investor investor trail.facts)
