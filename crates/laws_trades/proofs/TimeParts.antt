-- What is said of a trade's moment at each fact and at each duty that is left, and that it stands
-- whatever comes behind.
use Rattle.std.proofs.Common.{◌≡◌, ℕ, true, List, [], ◌∷◌, ◌++◌, map, refl, ap, ◌∙◌, subst}
use Rattle.std.proofs.lemmas.List.{append_assoc}
use Rattle.std.proofs.lemmas.List.Elements.{filter_map-append}
use Rattle.market_terms.specs.declared.closes.Close.{Close}
use Rattle.market_terms.specs.declared.closes.Close.TheVariants as closes
use Rattle.market_terms.specs.declared.closes.Reply.TheVariants as reply
use Rattle.market_terms.specs.declared.duties.Duty.{Duty}
use Rattle.market_terms.specs.declared.duties.Duty.TheVariants as duty
use Rattle.market_terms.specs.declared.rooms.RoomRef.{RoomRef}
use Rattle.venue_rows.specs.Rows.{Configuration}
use Rattle.venue_rows.specs.declared.investor_rows.InvestorRow.{InvestorRow}
use Rattle.dealer_desk.specs.DealerFacts.{Told}
use Rattle.investor_desk.specs.InvestorDesk.{market_of}
use Rattle.investor_desk.specs.InvestorFacts as investor_facts
use Rattle.investor_desk.specs.declared.events.InvestorEvent.{InvestorEvent}
use Rattle.investor_desk.specs.declared.events.InvestorEvent.TheVariants as at_investor
use Rattle.request_room.specs.RoomFacts.{Ended, is_awarded_kind}
use Rattle.request_room.specs.declared.ends.End.{End}
use Rattle.step_replay.specs.Actions.{Effect, nothing}
use Rattle.step_replay.specs.DealerTrail as dealer_trail
use Rattle.step_replay.specs.GrowthLemmas.{in_left, number_grown}
use Rattle.step_replay.specs.InvestorTrail as investor_trail
use Rattle.step_replay.specs.InvestorTrail.{InvestorEntry}
use Rattle.step_replay.specs.Lists.{Every}
use Rattle.step_replay.specs.PlaceLemmas.{dealer_grown, investor_grown, room_grown}
use Rattle.step_replay.specs.VenueFacts.{AtDealer, AtInvestor, Fact, InRoom, of_dealer, of_investor}
use Rattle.step_replay.specs.VenueFacts.{of_room}
use Rattle.laws_trades.specs.TradeTimes.{IsAwarded, IsHitAt, IsHitOf, IsSaidTo, IsToldAt, room_at}

-- Lists.

pub mapped : {A B : Type 0} (P : B → Type 0) (f : A → B) (xs : List A)
    → Every (λ (x : A). P (f x)) xs → Every P (map f xs)
mapped P f [] every = tt
mapped P f (x ∷ xs) every = (every.0, mapped P f xs every.1)

-- What is said of a trade's moment, at each fact and at each duty that is left.
module _ (config : Configuration) where
  abbrev pub FactTimed : List Fact → Fact → Type 0
  FactTimed facts (AtDealer dealer (dealer_trail.AtDesk (Told request closes.Hit moment))) =
      IsToldAt facts dealer request moment
  FactTimed facts (AtDealer dealer entry) = Unit {0}
  FactTimed facts (InRoom room (Ended end moment)) =
      is_awarded_kind end.kind ≡ true → IsHitOf config facts room end moment
  FactTimed facts (InRoom room fact) = Unit {0}
  FactTimed facts (AtInvestor investor (investor_trail.Sent bytes)) =
      IsSaidTo config facts investor bytes
  FactTimed facts (AtInvestor investor entry) = Unit {0}

  abbrev pub DutyTimed : List Fact → Duty → Type 0
  DutyTimed facts (duty.Hit room response word moment) = IsHitAt config facts room word moment
  DutyTimed facts (duty.Answer room response reply.Awarded moment) = IsAwarded facts room moment
  DutyTimed facts (duty.Tell dealer room closes.Hit moment) = IsAwarded facts room moment
  DutyTimed facts other = Unit {0}

  -- It stands whatever comes behind.

  pub award_grown : (facts more : List Fact) (room : RoomRef) (moment : ℕ) → IsAwarded facts room moment
      → IsAwarded (facts ++ more) room moment
  award_grown facts more room moment is = record {
    end = is.end;
    is_award = is.is_award;
    stands = rw (room_grown room facts more)
        (in_left (Ended is.end moment) (of_room room facts) (of_room room more) is.stands);
  }

  trail_grown : (facts more : List Fact) (investor : ℕ) (row : InvestorRow)
      (stood : List InvestorEntry) (event : InvestorEvent) (after : List InvestorEntry)
      → of_investor investor facts
      ≡ stood ++ investor_trail.entries_of (market_of config investor row) stood event ++ after
      → of_investor investor (facts ++ more)
      ≡ stood ++ investor_trail.entries_of (market_of config investor row) stood event
      ++ (after ++ of_investor investor more)
  trail_grown facts more investor row stood event after is =
      investor_grown investor facts more
      ∙ ap (λ (l : List InvestorEntry). l ++ of_investor investor more) is
      ∙ append_assoc (stood ++ investor_trail.entries_of (market_of config investor row) stood event)
      after (of_investor investor more)

  pub hit_grown : (facts more : List Fact) (room : RoomRef) (word moment : ℕ)
      → IsHitAt config facts room word moment → IsHitAt config (facts ++ more) room word moment
  hit_grown facts more room word moment is = record {
    row = is.row;
    is_investor = is.is_investor;
    stood = is.stood;
    bytes = is.bytes;
    after = is.after ++ of_investor room.investor more;
    trail_is = trail_grown facts more room.investor is.row is.stood
        (at_investor.Received moment is.bytes) is.after is.trail_is;
    came = rw (investor_grown room.investor facts more, filter_map-append)
        (in_left (investor_facts.Came moment is.bytes true)
        (investor_trail.facts_of (of_investor room.investor facts)) _ is.came);
    response = is.response;
    hits = is.hits;
  }

  award_hit_grown : (facts more : List Fact) (room : RoomRef) (award : End) (moment : ℕ)
      → IsHitOf config facts room award moment → IsHitOf config (facts ++ more) room award moment
  award_hit_grown facts more room award moment is = record {
    dealer = is.dealer;
    word = is.word;
    winner = is.winner;
    hit = hit_grown facts more room is.word moment is.hit;
  }

  pub fact_grown : (facts more : List Fact) (fact : Fact) → FactTimed facts fact
      → FactTimed (facts ++ more) fact
  fact_grown facts more (AtDealer dealer (dealer_trail.AtDesk (Told request closes.Hit moment))) is = record {
    room = is.room;
    shown = rw (dealer_grown dealer facts more, filter_map-append)
        (number_grown 1 (dealer_trail.rooms_by (of_dealer dealer facts)) _ is.room request is.shown);
    award = award_grown facts more is.room moment is.award;
  }
  fact_grown facts more (InRoom room (Ended end moment)) is =
      λ kind. award_hit_grown facts more room end moment (is kind)
  fact_grown facts more (AtInvestor investor (investor_trail.Sent bytes)) is = record {
    row = is.row;
    is_investor = is.is_investor;
    stood = is.stood;
    event = is.event;
    after = is.after ++ of_investor investor more;
    trail_is = trail_grown facts more investor is.row is.stood is.event is.after is.trail_is;
    number = is.number;
    message = is.message;
    says = is.says;
    bytes_are = is.bytes_are;
    replies = is.replies;
    award = λ request response moment at. award_grown facts more (room_at investor request) moment
        (is.award request response moment at);
  }
  fact_grown facts more other is = tt

  pub duty_grown : (facts more : List Fact) (d : Duty) → DutyTimed facts d
      → DutyTimed (facts ++ more) d
  duty_grown facts more (duty.Hit room response word moment) is =
      hit_grown facts more room word moment is
  duty_grown facts more (duty.Answer room response reply.Awarded moment) is =
      award_grown facts more room moment is
  duty_grown facts more (duty.Tell dealer room closes.Hit moment) is =
      award_grown facts more room moment is
  duty_grown facts more other is = tt

  -- Choices of a close and of a reply.

  pub told_at : (facts : List Fact) (dealer request moment : ℕ) (close : Close)
      → (close ≡ closes.Hit → IsToldAt facts dealer request moment)
      → FactTimed facts (AtDealer dealer (dealer_trail.AtDesk (Told request close moment)))
  told_at facts dealer request moment closes.Hit is = is refl
  told_at facts dealer request moment closes.Expired is = tt
  told_at facts dealer request moment closes.Cover is = tt
  told_at facts dealer request moment closes.DoneAway is = tt
  told_at facts dealer request moment closes.Pass is = tt

  pub tell_at : (facts : List Fact) (dealer : ℕ) (room : RoomRef) (close : Close) (moment : ℕ)
      → IsAwarded facts room moment → DutyTimed facts (duty.Tell dealer room close moment)
  tell_at facts dealer room closes.Hit moment is = is
  tell_at facts dealer room closes.Expired moment is = tt
  tell_at facts dealer room closes.Cover moment is = tt
  tell_at facts dealer room closes.DoneAway moment is = tt
  tell_at facts dealer room closes.Pass moment is = tt

  pub of_tell : (facts : List Fact) (dealer : ℕ) (room : RoomRef) (close : Close) (moment : ℕ)
      → DutyTimed facts (duty.Tell dealer room close moment) → close ≡ closes.Hit
      → IsAwarded facts room moment
  of_tell facts dealer room close moment is hit =
      subst (λ (c : Close). DutyTimed facts (duty.Tell dealer room c moment)) hit is

  -- Actions.

  module _ (facts : List Fact) where
    -- what an action brings
    pub record Brings (effect : Effect) : Type 0 where
      pub facts_are : Every (FactTimed (facts ++ effect.facts)) effect.facts
      pub duties_are : Every (DutyTimed (facts ++ effect.facts)) effect.duties

    pub none : Brings nothing
    none = record { facts_are = tt; duties_are = tt }
