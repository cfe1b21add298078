-- What a dealer's steps leave leads to no more than its quotes and declines, and what any step but
-- a hit leaves is no hit and no award.
use Rattle.std.proofs.Common.{◌≡◌, ℕ, Bool, true, false, List, IfSome, is_some, refl, sym, ◌∙◌}
use Rattle.std.specs.List.{list_any}
use Rattle.std.specs.Option.{option_to_list}
use Rattle.market_terms.specs.declared.closes.Close.{Close}
use Rattle.market_terms.specs.declared.duties.Duty.{Duty}
use Rattle.market_terms.specs.declared.duties.Duty.TheVariants as duty
use Rattle.market_terms.specs.declared.rooms.RoomRef.{RoomRef}
use Rattle.venue_rows.specs.Rows.{Configuration, dealer_numbered}
use Rattle.investor_desk.specs.InvestorDesk.{market_of}
use Rattle.investor_desk.specs.InvestorOutput as investor_output
use Rattle.investor_desk.specs.InvestorRules.{InvestorMarket, investor_verdict}
use Rattle.investor_desk.specs.declared.verdicts.InvestorVerdict.{InvestorVerdict}
use Rattle.investor_desk.specs.declared.verdicts.InvestorVerdict.TheVariants as on_investor
use Rattle.request_room.specs.RoomFacts.{request_of}
use Rattle.venue_steps.specs.RoomSteps.{dealers_of, reply_to_pass}
use Rattle.venue_steps.specs.declared.actors.Actor.{Actor}
use Rattle.step_replay.specs.Actions.{dealer_of, verdict_on}
use Rattle.step_replay.specs.DutyEffects.{duty_effect, message_effect, sweep_effect}
use Rattle.step_replay.specs.InvestorTrail as investor_trail
use Rattle.step_replay.specs.VenueFacts.{Fact, of_investor, of_room}
use Rattle.laws_days.specs.DealerDuties.{IsQuoting, quoting_may, said_may}
use Rattle.laws_days.specs.KeptItems.{every_all, every_met}
use Rattle.laws_days.specs.LeftBehind.{LeftBy, may_leave}
use Rattle.laws_days.specs.LeftDuties.{Leaves, duty_leaves, message_leaves, sweep_leaves}
use Rattle.laws_days.specs.MayLeave.{AreTold, MayLeave}
use Rattle.laws_isolation.specs.Silence.{is_hit}
use Rattle.laws_isolation.proofs.QuietVerdicts.{hits}
use Rattle.laws_isolation.proofs.Quiet.{is_no_award, IsPlain, SuitsIf}

-- what a dealer's steps lead to is no hit and no award
pub quoting_plain : (more : Duty) → IsQuoting more → IsPlain more
quoting_plain (duty.Hit room response word moment) is = cc
quoting_plain (duty.Answer room response reply moment) is = cc
quoting_plain more is = refl

pub plain_none : (more : Duty) → IsPlain more → is_hit more ≡ false
plain_none (duty.Hit room response word moment) is = cc
plain_none more is = refl

pub quoting_suits : (b : Bool) (more : Duty) → IsQuoting more → SuitsIf b more
quoting_suits true more is = is
quoting_suits false more is = quoting_plain more is

pub suits_plain : (b : Bool) (more : Duty) → SuitsIf b more → IsPlain more
suits_plain true more is = quoting_plain more is
suits_plain false more is = is

-- a verdict of no hit leaves none, and one that leaves none is of no hit
pub hits_none : (market : InvestorMarket) (moment : ℕ) (v : InvestorVerdict) → hits v ≡ false
    → IfSome (investor_output.verdict_duty market moment v) (λ (more : Duty). is_hit more ≡ false)
hits_none market moment (on_investor.RequestAccepted id request) isnt = refl
hits_none market moment (on_investor.Hits request response word) isnt = cc
hits_none market moment (on_investor.Passes request response) isnt = refl
hits_none market moment other isnt = tt

pub none_hits : (market : InvestorMarket) (moment : ℕ) (v : InvestorVerdict)
    → list_any is_hit (option_to_list (investor_output.verdict_duty market moment v)) ≡ false
    → hits v ≡ false
none_hits market moment (on_investor.Hits request response word) isnt = cc
none_hits market moment other isnt = refl

-- what an investor's message leaves is plain, unless it is a hit
abbrev PlainUnlessHit : Duty → Type 0
PlainUnlessHit more = is_hit more ≡ false → IsPlain more

asked_plain : (market : InvestorMarket) (moment : ℕ) (v : InvestorVerdict)
    → IfSome (investor_output.verdict_duty market moment v) PlainUnlessHit
asked_plain market moment (on_investor.RequestAccepted id request) = λ isnt. refl
asked_plain market moment (on_investor.Hits request response word) = λ isnt. cc
asked_plain market moment (on_investor.Passes request response) = λ isnt. refl
asked_plain market moment other = tt

-- What a plain duty leaves is plain; how a pass is answered stands with it.

-- no pass
abbrev IsNoPass : Duty → Type 0
IsNoPass (duty.Pass room response moment) = ⊥
IsNoPass other = Unit {0}

plain_left : (more d : Duty) → IsNoPass d → LeftBy more d → IsPlain d → IsPlain more
plain_left (duty.Hit room response word moment) d no_pass left is = absurd left
plain_left (duty.Answer at to reply when) (duty.Hit room response word moment) no_pass left is = cc
plain_left (duty.Answer at to reply when) (duty.Pass room response moment) no_pass left is =
    absurd no_pass
plain_left (duty.Answer at to reply when) other no_pass left is = absurd left
plain_left more d no_pass left is = refl

module _ (config : Configuration) (facts : List Fact) where
  told : (room : RoomRef) (moment : ℕ) → AreTold IsPlain config facts room moment
  told room moment =
      every_all (λ (dealer : ℕ). (close : Close) → IsPlain (duty.Tell dealer room close moment))
      (λ dealer close. refl) (dealers_of (request_of (of_room room facts)))

  no_award : (b : Bool) → is_no_award (reply_to_pass b) ≡ true
  no_award true = refl
  no_award false = refl

  suits_may : (b : Bool) (by : Actor) (more : Duty) → SuitsIf b more
      → MayLeave (SuitsIf b) config facts by more
  suits_may true by more is =
      quoting_may (SuitsIf true) (quoting_suits true) config facts by more is
  suits_may false by (duty.Pass room response moment) is = (no_award, told room moment)
  suits_may false by other is =
      may_leave (SuitsIf false) config facts by other
      (λ later left. plain_left later other tt left is)

  -- So all that is left suits the queue of who leaves it.

  pub duty_suits : (b : Bool) (by : Actor) (more : Duty) → SuitsIf b more
      → Leaves (SuitsIf b) (duty_effect config facts by more)
  duty_suits b by more is = duty_leaves (SuitsIf b) config facts by more (suits_may b by more is)

  pub sweep_plain : (room : RoomRef) (moment : ℕ)
      → Leaves IsPlain (sweep_effect config facts room moment)
  sweep_plain room moment = sweep_leaves IsPlain config facts room moment refl (told room moment)

  module _ (firm moment : ℕ) (bytes : List ℕ) where
    pub message_quoting : is_some (dealer_numbered config firm) ≡ true
        → Leaves IsQuoting (message_effect config facts firm moment bytes)
    message_quoting is =
        message_leaves IsQuoting config facts firm moment bytes
        (λ row found. said_may IsQuoting (λ d quoting. quoting) config facts firm moment
        (verdict_on config facts moment bytes (dealer_of firm row)))
        (λ row isnt. let clash : true ≡ false = sym is ∙ isnt in cc)

    pub message_plain : list_any is_hit (message_effect config facts firm moment bytes).duties
        ≡ false
        → Leaves IsPlain (message_effect config facts firm moment bytes)
    message_plain none = record {
      each = every_met is_hit IsPlain (message_effect config facts firm moment bytes).duties
          (message_leaves PlainUnlessHit config facts firm moment bytes
          (λ row found. said_may PlainUnlessHit (λ d quoting isnt. quoting_plain d quoting) config
          facts firm moment (verdict_on config facts moment bytes (dealer_of firm row)))
          (λ row isnt. asked_plain (market_of config firm row) moment
          (investor_verdict (market_of config firm row)
          (investor_trail.book_by (of_investor firm facts)) moment bytes))).each none;
    }
