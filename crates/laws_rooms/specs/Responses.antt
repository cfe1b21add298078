-- The hits and passes of an investor, and what it is answered to them.
use Rattle.std.specs.Prelude.{◌≡◌, ℕ, ◌==◌, List, [], ◌∷◌, ◌++◌, filter_map, map, Option, Some, None}
use Rattle.std.specs.Prelude.{if◌then◌else◌}
use Rattle.market_terms.specs.declared.duties.Duty.{Duty}
use Rattle.market_terms.specs.declared.duties.Duty.TheVariants as duty
use Rattle.quote_messages.specs.Written.{written}
use Rattle.quote_messages.specs.declared.out_messages.OutMessage.{OutMessage}
use Rattle.quote_messages.specs.declared.out_messages.OutMessage.TheVariants as out
use Rattle.quote_messages.specs.declared.out_messages.PassStatus.TheVariants as status
use Rattle.venue_rows.specs.Rows.{Configuration}
use Rattle.investor_desk.specs.InvestorOutput.{head_of}
use Rattle.investor_desk.specs.InvestorRules.{InvestorMarket}
use Rattle.step_replay.specs.AuditTrail.{AuditTrail, after_step, no_steps}
use Rattle.step_replay.specs.DutyEffects.{message_effect}
use Rattle.step_replay.specs.declared.steps.Step.{Step}
use Rattle.step_replay.specs.declared.steps.Step.TheVariants as step

-- A response: its QuoteRespID (693), the moment of its message (52), and k of the QuoteID (117) Qk
-- that a hit names; a pass names none.
pub record Response : Type 0 where
  pub id : List ℕ
  pub moment : ℕ
  pub quote : Option ℕ

-- What was left.

-- the response that a duty brings to a room: a hit or a pass
abbrev pub response_of : Duty → Option Response
response_of (duty.Hit room response word moment) =
    Some (record { id = response.id; moment = moment; quote = response.k })
response_of (duty.Pass room response moment) =
    Some (record { id = response.id; moment = moment; quote = response.k })
response_of other = None

-- the responses that a step of a day leaves: those of a message of the investor
abbrev pub left_at : Configuration → ℕ → AuditTrail → Step → List Response
left_at config investor venue (step.In firm moment bytes) =
    if firm == investor
    then filter_map response_of (message_effect config venue.facts firm moment bytes).duties
    else []
left_at config investor venue other = []

-- the responses that steps leave from a day on, in their order
abbrev pub left_from : Configuration → ℕ → AuditTrail → List Step → List Response
left_from config investor venue [] = []
left_from config investor venue (more ∷ steps) =
    left_at config investor venue more
    ++ left_from config investor (after_step config venue more) steps

-- all hits and passes that the messages of an investor left, in their order
abbrev pub responses_left : Configuration → ℕ → List Step → List Response
responses_left config investor steps = left_from config investor no_steps steps

-- What was answered.

-- a message to an investor: its number (34), its moment (52), and what it says
pub record Said : Type 0 where
  pub number : ℕ
  pub moment : ℕ
  pub message : OutMessage

-- its bytes
abbrev pub said_to : InvestorMarket → Said → List ℕ
said_to market said = written (head_of market said.number said.moment) said.message

-- the response that a message answers: a 35=AI with a QuoteRespID (693) that is not 297=9
abbrev pub answers : ℕ → OutMessage → Option Response
answers moment (out.HitReport id request quote refusal) =
    Some (record { id = id; moment = moment; quote = Some quote })
answers moment (out.PassReport id request status.Unknown) = None
answers moment (out.PassReport id request other) =
    Some (record { id = id; moment = moment; quote = None })
answers moment other = None

-- the same of a message that was sent
abbrev pub answered_by : Said → Option Response
answered_by said = answers said.moment said.message

-- An investor was sent these messages, and what they answer are, in order, these responses.
pub record AreAnswered (market : InvestorMarket) (sent : List (List ℕ)) (left : List Response)
    : Type 0 where
  pub says : List Said
  pub sent_are : sent ≡ map (said_to market) says
  pub answers_are : filter_map answered_by says ≡ left
