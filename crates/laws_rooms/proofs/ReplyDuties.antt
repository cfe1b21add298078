-- Which answers a duty leaves: a hit and a pass each leave theirs, and nothing else leaves one.
use Rattle.std.proofs.Common.{◌≡◌, ℕ, Bool, true, false, List, [], ◌∷◌, filter_map}
use Rattle.std.proofs.Common.{Option, None, IfSome, option_map, refl, sym, ap, ◌∙◌}
use Rattle.std.proofs.Common.{if◌then◌else◌}
use Rattle.std.proofs.Common.{Result}
use Rattle.std.specs.List.{cons_option}
use Rattle.market_terms.specs.declared.closes.HitRefusal.{HitRefusal}
use Rattle.market_terms.specs.declared.duties.Duty.{Duty}
use Rattle.market_terms.specs.declared.duties.Duty.TheVariants as duty
use Rattle.market_terms.specs.declared.rooms.ResponseRef.{ResponseRef}
use Rattle.market_terms.specs.declared.rooms.RoomRef.{RoomRef}
use Rattle.venue_rows.specs.Rows.{Configuration}
use Rattle.venue_steps.specs.declared.actors.Actor.{Actor}
use Rattle.venue_steps.specs.declared.actors.Actor.TheVariants as actor
use Rattle.venue_steps.specs.RoomSteps.{hit_word, told_in, told_of_hit}
use Rattle.dealer_desk.specs.declared.verdicts.DealerVerdict.{DealerVerdict}
use Rattle.dealer_desk.specs.declared.verdicts.DealerVerdict.TheVariants as said
use Rattle.investor_desk.specs.InvestorDesk.{market_of}
use Rattle.investor_desk.specs.InvestorOutput as investor_output
use Rattle.investor_desk.specs.InvestorRules.{InvestorMarket, investor_verdict}
use Rattle.investor_desk.specs.declared.verdicts.InvestorVerdict.{InvestorVerdict}
use Rattle.investor_desk.specs.declared.verdicts.InvestorVerdict.TheVariants as asks
use Rattle.request_room.specs.Book.{hit_outcome, passed}
use Rattle.request_room.specs.RoomFacts.{is_open}
use Rattle.request_room.specs.declared.ends.End.{End}
use Rattle.step_replay.specs.Actions.{Effect, answer_to_hit, quote_asked, verdict_on}
use Rattle.step_replay.specs.AuditTrail.{AuditTrail}
use Rattle.step_replay.specs.DutyEffects.{duty_effect, message_effect, sweep_effect}
use Rattle.step_replay.specs.Lists.{Every}
use Rattle.step_replay.specs.VenueFacts.{Fact, of_room}
use Rattle.laws_days.specs.KeptItems.{every_all}
use Rattle.laws_days.specs.LeftBehind.{LeftBy, duty_each, sweep_each}
use Rattle.laws_days.specs.LeftDuties.{message_leaves}
use Rattle.laws_days.specs.MayLeave.{MaySay, outcome_each, told_each}
use Rattle.laws_days.specs.Conditions.{is_met}
use Rattle.laws_days.proofs.VenueInvariant.{DutyOk}
use Rattle.laws_rooms.specs.Responses.{Response, response_of}
use Rattle.laws_rooms.proofs.ReplyLemmas.{named, reply_in}

-- Duties that are no answer, or no response.

abbrev pub NoReply : Duty → Type 0
NoReply d = reply_in d ≡ None

abbrev pub NoResponse : Duty → Type 0
NoResponse d = response_of d ≡ None

pub none_of : {A B : Type 0} (f : A → Option B) (xs : List A) → Every (λ (x : A). f x ≡ None) xs
    → filter_map f xs ≡ []
none_of f [] every = refl
none_of f (x ∷ xs) every = rw (every.0) (none_of f xs every.1)

-- an answer is left by the investor of its room
abbrev pub OwnReply : Actor → Duty → Type 0
OwnReply by (duty.Answer room response reply moment) = by ≡ actor.Firm room.investor
OwnReply by d = Unit {0}

pub own_of : (by : Actor) (duties : List Duty) → Every NoReply duties → Every (OwnReply by) duties
own_of by [] every = tt
own_of by (d ∷ duties) every = (each d every.0, own_of by duties every.1)
  where
    each : (one : Duty) → NoReply one → OwnReply by one
    each (duty.Answer room response reply moment) is = cc
    each other is = tt

module _ (config : Configuration) (facts : List Fact) where
  -- What a duty leaves.

  -- no hit and no pass
  pub leaves_none : (by : Actor) (d : Duty) → Every NoResponse (duty_effect config facts by d).duties
  leaves_none by d = duty_each NoResponse config facts by d each
    where
      each : (more : Duty) → LeftBy more d → NoResponse more
      each (duty.Hit room response word moment) left = absurd left
      each (duty.Pass room response moment) left = absurd left
      each other left = refl

  told_none : (room : RoomRef) (moment : ℕ) (outcome : Result End HitRefusal)
      → Every NoReply (told_of_hit (of_room room facts) room moment outcome)
  told_none room moment outcome =
      outcome_each NoReply config facts room moment (every_all _ (λ dealer close. refl) _) outcome

  -- what a duty leaves of answers: a hit and a pass leave theirs
  pub record Follows (by : Actor) (d : Duty) (effect : Effect) : Type 0 where
    pub replies : filter_map reply_in effect.duties ≡ filter_map response_of (d ∷ [])
    pub own : Every (OwnReply by) effect.duties

  no_replies : (by : Actor) (d : Duty) (effect : Effect) → response_of d ≡ None
      → Every NoReply effect.duties → Follows by d effect
  no_replies by d effect none each = record {
    replies = none_of reply_in effect.duties each
        ∙ sym (ap (λ (o : Option Response). cons_option o []) none);
    own = own_of by effect.duties each;
  }

  hit_follows : (by : Actor) (room : RoomRef) (response : ResponseRef) (word moment : ℕ)
      → by ≡ actor.Firm room.investor
      → is_met config facts by (duty.Hit room response word moment) ≡ true
      → Follows by (duty.Hit room response word moment)
      (duty_effect config facts by (duty.Hit room response word moment))
  unfolding is_met duty_effect
  hit_follows by room response word moment is fit =
      let known = of_room room facts in
      let outcome = hit_outcome known word moment
      (option_map (answer_to_hit facts) (quote_asked config (hit_word known word moment))) in
      let told = told_of_hit known room moment outcome in
      rw fit (record {
        replies = ap (λ (l : List Response). named response moment ∷ l)
            (none_of reply_in told (told_none room moment outcome));
        own = (is, own_of by told (told_none room moment outcome));
      })

  pass_follows : (by : Actor) (room : RoomRef) (response : ResponseRef) (moment : ℕ)
      → by ≡ actor.Firm room.investor
      → is_met config facts by (duty.Pass room response moment) ≡ true
      → Follows by (duty.Pass room response moment)
      (duty_effect config facts by (duty.Pass room response moment))
  unfolding is_met duty_effect
  pass_follows by room response moment is fit =
      let known = of_room room facts in
      let told = if is_open known then told_in known room passed moment else [] in
      rw fit (record {
        replies = ap (λ (l : List Response). named response moment ∷ l)
            (none_of reply_in told (if_open (is_open known)));
        own = (is, own_of by told (if_open (is_open known)));
      })
    where
      if_open : (b : Bool)
          → Every NoReply (if b then told_in (of_room room facts) room passed moment else [])
      if_open true = told_each NoReply config facts room passed moment (every_all _ (λ dealer close. refl) _)
      if_open false = tt

  -- nothing but a hit and a pass leaves one
  no_answer : (more d : Duty) → response_of d ≡ None → LeftBy more d → NoReply more
  no_answer (duty.Answer at to reply when) (duty.Hit room response word moment) none left = cc
  no_answer (duty.Answer at to reply when) (duty.Pass room response moment) none left = cc
  no_answer (duty.Answer at to reply when) d none left = absurd left
  no_answer more d none left = refl

  pub duty_follows : (venue : AuditTrail) (by : Actor) (d : Duty) → DutyOk config by d venue
      → is_met config facts by d ≡ true → Follows by d (duty_effect config facts by d)
  duty_follows venue by (duty.Hit room response word moment) ok fit =
      hit_follows by room response word moment ok.by_is fit
  duty_follows venue by (duty.Pass room response moment) ok fit =
      pass_follows by room response moment ok.by_is fit
  duty_follows venue by other ok fit =
      no_replies by other (duty_effect config facts by other) refl
      (duty_each NoReply config facts by other (λ more left. no_answer more other refl left))

  -- What a message and a sweep leave: no answer.

  pub message_none : (firm moment : ℕ) (bytes : List ℕ)
      → Every NoReply (message_effect config facts firm moment bytes).duties
  message_none firm moment bytes =
      (message_leaves NoReply config facts firm moment bytes
      (λ row found. says (verdict_on config facts moment bytes _))
      (λ row found. asks_none (market_of config firm row) (investor_verdict _ _ moment bytes))).each
    where
      says : (v : DealerVerdict) → MaySay NoReply config facts firm moment v
      says (said.QuoteAccepted request id quote replaced) = every_all _ (λ room. refl) _
      says (said.CancelAccepted id quote request) = every_all _ (λ room. refl) _
      says (said.DropsFollow last) = refl
      says (said.DeclineAccepted request number) = every_all _ (λ room. refl) _
      says other = tt

      asks_none : (market : InvestorMarket) (v : InvestorVerdict)
          → IfSome (investor_output.verdict_duty market moment v) NoReply
      asks_none market (asks.RequestAccepted id request) = refl
      asks_none market (asks.Hits request response word) = refl
      asks_none market (asks.Passes request response) = refl
      asks_none market other = tt

  pub sweep_none : (room : RoomRef) (moment : ℕ) → Every NoReply (sweep_effect config facts room moment).duties
  sweep_none room moment =
      sweep_each NoReply config facts room moment refl (λ dealer close. refl)
