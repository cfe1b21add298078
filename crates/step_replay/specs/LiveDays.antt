-- A day whose steps come one by one, each answered before the next: behind a step its actor does
-- the duties that it has, in turn, until none is left. So it is a day as any other, and what the
-- firms are sent in it stands in its audit trail.
use Rattle.std.specs.Prelude.{ℕ, Bool, ◌==◌, List, ◌∷◌, replicate, filter_map, Option, Some, None}
use Rattle.std.specs.Prelude.{is_some, if◌then◌else◌}
use Rattle.std.specs.List.{flat_map}
use Rattle.std.specs.Option.{option_map}
use Rattle.venue_rows.specs.Rows.{Configuration, dealer_numbered}
use Rattle.step_replay.specs.AuditTrail.{AuditTrail, audit_trail}
use Rattle.step_replay.specs.DealerTrail as dealer_trail
use Rattle.step_replay.specs.InvestorTrail as investor_trail
use Rattle.step_replay.specs.VenueFacts.{Fact, AtDealer, InRoom, AtInvestor, of_dealer, of_investor}
use Rattle.venue_steps.specs.declared.actors.Actor.{Actor}
use Rattle.venue_steps.specs.declared.actors.Actor.TheVariants as actor
use Rattle.step_replay.specs.declared.steps.Step.{Step}
use Rattle.step_replay.specs.declared.steps.Step.TheVariants as step
use Rattle.step_replay.specs.declared.steps.TheConstants.{MOST_TURNS_BEHIND}

-- the actor whose duties are done behind a step
abbrev pub actor_of : Step → Actor
actor_of (step.In firm moment message) = actor.Firm firm
actor_of (step.Turn by) = by
actor_of (step.Expire room moment) = actor.Clock

-- a step, and behind it more turns of its actor than it has duties: turns that find none do nothing
unfoldable pub with_turns : Step → List Step
with_turns s = s ∷ replicate MOST_TURNS_BEHIND (step.Turn (actor_of s))

-- the steps of a day whose steps come one by one
abbrev pub live_steps : List Step → List Step
live_steps steps = flat_map with_turns steps

-- the day after them
abbrev pub live_trail : Configuration → List Step → AuditTrail
live_trail config steps = audit_trail config (live_steps steps)

-- Messages, in the order in which they were sent, whoever was sent them.

-- a message, and the number of the firm that it was sent to
abbrev pub Sent : Type 0
Sent = ℕ × List ℕ

-- whether a firm is a dealer
abbrev pub is_dealer : Configuration → ℕ → Bool
is_dealer config firm = is_some (dealer_numbered config firm)

-- the message in a fact
abbrev pub sent_in : Configuration → Fact → Option Sent
sent_in config (AtDealer firm entry) =
    if is_dealer config firm
    then option_map (λ message. (firm, message)) (dealer_trail.message_in entry)
    else None
sent_in config (InRoom room fact) = None
sent_in config (AtInvestor firm entry) =
    if is_dealer config firm
    then None
    else option_map (λ message. (firm, message)) (investor_trail.message_in entry)

-- the messages in facts, in their order
unfoldable pub messages_in : Configuration → List Fact → List Sent
messages_in config facts = filter_map (sent_in config) facts

-- the messages that the firm with this number was sent by these facts
abbrev pub sent_by_facts : Configuration → ℕ → List Fact → List (List ℕ)
sent_by_facts config firm facts =
    if is_dealer config firm
    then dealer_trail.sent_by (of_dealer firm facts)
    else investor_trail.sent_by (of_investor firm facts)

-- all messages of a day whose steps come one by one
abbrev pub live_messages : Configuration → List Step → List Sent
live_messages config steps = messages_in config (live_trail config steps).facts

-- the messages of one firm among those of all
abbrev pub message_for : ℕ → Sent → Option (List ℕ)
message_for firm sent = if sent.0 == firm then Some sent.1 else None

abbrev pub messages_for : ℕ → List Sent → List (List ℕ)
messages_for firm messages = filter_map (message_for firm) messages
