-- The requests of an investor that sweeps ended, and what it is told of them.
use Rattle.std.specs.Prelude.{◌≡◌, ℕ, ◌==◌, List, [], ◌∷◌, ◌++◌, filter_map, map, Option, Some, None}
use Rattle.std.specs.Prelude.{if◌then◌else◌}
use Rattle.quote_messages.specs.declared.out_messages.OutMessage.{OutMessage}
use Rattle.quote_messages.specs.declared.out_messages.OutMessage.TheVariants as out
use Rattle.venue_rows.specs.Rows.{Configuration}
use Rattle.investor_desk.specs.InvestorFacts.{Asked, InvestorFact}
use Rattle.investor_desk.specs.InvestorRules.{InvestorMarket}
use Rattle.investor_desk.specs.declared.standing.AcceptedRequest.{AcceptedRequest}
use Rattle.request_room.specs.RoomFacts.{Ended}
use Rattle.step_replay.specs.AuditTrail.{AuditTrail, after_step, no_steps}
use Rattle.step_replay.specs.DutyEffects.{sweep_effect}
use Rattle.step_replay.specs.Lists.{Every, In}
use Rattle.step_replay.specs.VenueFacts.{Fact, InRoom}
use Rattle.step_replay.specs.declared.steps.Step.{Step}
use Rattle.step_replay.specs.declared.steps.Step.TheVariants as step
use Rattle.laws_rooms.specs.Responses.{Said, said_to}

-- What sweeps ended.

-- the number of the request of this investor whose room ends by a fact
abbrev pub ends_in : ℕ → Fact → Option ℕ
ends_in investor (InRoom room (Ended end moment)) =
    if room.investor == investor then Some room.n else None
ends_in investor fact = None

-- its requests whose rooms a step of a day ends as a sweep
abbrev pub swept_at : Configuration → ℕ → AuditTrail → Step → List ℕ
swept_at config investor venue (step.Expire room moment) =
    filter_map (ends_in investor) (sweep_effect config venue.facts room moment).facts
swept_at config investor venue other = []

-- those that steps end so from a day on, in their order
abbrev pub swept_from : Configuration → ℕ → AuditTrail → List Step → List ℕ
swept_from config investor venue [] = []
swept_from config investor venue (more ∷ steps) =
    swept_at config investor venue more
    ++ swept_from config investor (after_step config venue more) steps

-- all requests of an investor whose rooms sweeps ended, by their numbers, in the order of the sweeps
abbrev pub requests_swept : Configuration → ℕ → List Step → List ℕ
requests_swept config investor steps = swept_from config investor no_steps steps

-- What was told.

-- the QuoteReqID (131) of the request that a message says has expired: a 35=AI with 297=7
abbrev pub expires : ℕ → OutMessage → Option (List ℕ)
expires moment (out.RequestExpired request) = Some request
expires moment other = None

-- the same of a message that was sent
abbrev pub expired_by : Said → Option (List ℕ)
expired_by said = expires said.moment said.message

-- An investor with these facts was sent these messages. Those with 297=7 name, in order, these
-- requests that were accepted, which are those with these numbers.
pub record AreExpired (market : InvestorMarket) (facts : List InvestorFact) (sent : List (List ℕ))
    (swept : List ℕ) : Type 0 where
  pub says : List Said
  pub sent_are : sent ≡ map (said_to market) says
  pub requests : List AcceptedRequest
  pub accepted : Every (λ (request : AcceptedRequest). In (Asked request) facts) requests
  pub expiries_are : filter_map expired_by says
      ≡ map (λ (request : AcceptedRequest). request.id) requests
  pub swept_are : map (λ (request : AcceptedRequest). request.number) requests ≡ swept
