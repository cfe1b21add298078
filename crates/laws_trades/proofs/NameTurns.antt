-- What each duty, message and sweep adds of the trades between an investor and a dealer, and leaves
-- of them, but for an award, its answer and its notices: nothing.
use Rattle.laws_days.proofs.Common.{Bool, List, ℕ, [], false}
use Rattle.laws_days.proofs.Common.{inl, inr, refl, true, ◌∷◌, ◌≡◌, Duty}
use Rattle.laws_days.proofs.Common.{ResponseRef, RoomRef, Configuration, dealer_numbered}
use Rattle.laws_days.proofs.Common.{InvestorRow, market_of, Actor, Effect}
use Rattle.laws_days.proofs.Common.{DealerRow, InvestorEvent, dealer_of, nothing}
use Rattle.laws_days.proofs.Common.{duty_effect, message_effect, sweep_effect, Every, Fact, of_room}
use Rattle.laws_days.proofs.Common.{of_investor, replies_to, investor_verdict, End, HitRefusal}
use Rattle.laws_days.proofs.Common.{IfSome}
use Rattle.market_terms.specs.declared.closes.Reply.TheVariants as reply
use Rattle.market_terms.specs.declared.duties.Duty.TheVariants as duty
use Rattle.laws_days.specs.ActionCases.{if_does, invested_does}
use Rattle.laws_days.specs.DutyWalk.{AnyRoom, DealerMay, InvestorMay, NoHitThere, RoomMay, Walks}
use Rattle.laws_days.specs.DutyWalk.{any_room, duty_walks}
use Rattle.laws_days.specs.KeptItems.{every_all, every_in}
use Rattle.laws_days.specs.LeftBehind.{LeftBy, duty_each}
use Rattle.laws_days.specs.LeftDuties.{duty_leaves, message_leaves}
use Rattle.laws_days.specs.MayLeave.{MaySay, if_each}
use Rattle.dealer_desk.specs.DealerOutput.{post_of}
use Rattle.dealer_desk.specs.declared.events.DealerEvent.{DealerEvent}
use Rattle.dealer_desk.specs.declared.verdicts.DealerVerdict.{DealerVerdict}
use Rattle.dealer_desk.specs.declared.verdicts.DealerVerdict.TheVariants as verdict
use Rattle.investor_desk.specs.InvestorOutput.{event_facts}
use Rattle.investor_desk.specs.InvestorOutput as investor_output
use Rattle.investor_desk.specs.declared.events.InvestorEvent.TheVariants as at_investor
use Rattle.investor_desk.specs.declared.verdicts.InvestorVerdict.{InvestorVerdict}
use Rattle.investor_desk.specs.declared.verdicts.InvestorVerdict.TheVariants as asks
use Rattle.request_room.specs.Book.{expired, may_expire, passed}
use Rattle.request_room.specs.RoomFacts.{is_open, request_of}
use Rattle.request_room.specs.declared.events.RoomEvent.{RoomEvent}
use Rattle.venue_steps.specs.RoomSteps.{close_for, dealers_of, reply_to_pass, told_in}
use Rattle.venue_steps.specs.declared.actors.Actor.TheVariants as actor
use Rattle.step_replay.specs.Actions.{at_dealer, at_market, left_by_drop, left_by_investor}
use Rattle.step_replay.specs.Actions.{received_by_investor}
use Rattle.step_replay.specs.Actions.{verdict_on, where_known}
use Rattle.step_replay.specs.InvestorTrail as investor_trail
use Rattle.laws_days.proofs.ListLemmas.{cases_some}
use Rattle.laws_days.proofs.NewsWalk.{any_news}
use Rattle.laws_trades.proofs.NameParts.{IsBatch, IsStill, Pair, hits, notices}
use Rattle.laws_trades.proofs.NameParts.{still_batch}
use Rattle.laws_trades.proofs.NameSilent.{SilentIn, dropped_silent, idle}
use Rattle.laws_trades.proofs.NameSilent.{known_silent, market_silent, news_none, offer_none}
use Rattle.laws_trades.proofs.NameSilent.{passed_none, refused_none, said_none, said_silent}
use Rattle.laws_trades.proofs.NameSilent.{shown_silent, silent_room}

-- what an effect adds and leaves of the trades of a pair
pub record Adds (p : Pair) (effect : Effect) (hit told : List RoomRef) : Type 0 where
  pub hit_is : hits p effect.facts ≡ hit
  pub told_is : notices p effect.facts ≡ told
  pub batch : IsBatch p effect.duties

module _ (p : Pair) where
  pub silent_adds : (effect : Effect) → SilentIn p effect → Every (IsStill p) effect.duties
      → Adds p effect [] []
  silent_adds effect silent still = record {
    hit_is = silent.hit;
    told_is = silent.told;
    batch = still_batch p effect.duties still;
  }

  -- a duty that is no hit and no pass, no answer and no notice: nothing is traded by it
  abbrev pub IsOther : Duty → Type 0
  IsOther (duty.Hit room response word moment) = ⊥
  IsOther (duty.Pass room response moment) = ⊥
  IsOther (duty.Answer room response reply moment) = ⊥
  IsOther (duty.Tell dealer room close moment) = ⊥
  IsOther other = Unit {0}

  -- what such a duty leaves
  still_left : (more d : Duty) → IsOther d → LeftBy more d → IsStill p more
  still_left (duty.Answer at to reply when) (duty.Hit room response word moment) is left = absurd is
  still_left (duty.Answer at to reply when) (duty.Pass room response moment) is left = absurd is
  still_left (duty.Answer at to reply when) other is left = absurd left
  still_left (duty.Tell dealer at close when) (duty.Hit room response word moment) is left = absurd is
  still_left (duty.Tell dealer at close when) (duty.Pass room response moment) is left = absurd is
  still_left (duty.Tell dealer at close when) other is left = absurd left
  still_left more d is left = (refl, refl)

  module _ (config : Configuration) (known : List Fact) where
    -- Such duties, by the place at which they are done.

    abbrev DealerSilent : ℕ → DealerRow → DealerEvent → List Duty → Type 0
    DealerSilent number row event left =
        SilentIn p (at_dealer config known (dealer_of number row) event left)

    abbrev InvestorSilent : ℕ → InvestorRow → InvestorEvent → Type 0
    InvestorSilent number row event =
        SilentIn p (at_market known (market_of config number row) event [])

    abbrev RoomSilent : RoomRef → RoomEvent → List Duty → Type 0
    RoomSilent room event left = NoHitThere event

    walks : Walks DealerSilent InvestorSilent RoomSilent config known (SilentIn p)
    walks = record {
      idle = idle p;
      at_a_dealer = λ number row found event left silent. silent;
      at_an_investor = λ number row found event silent. silent;
      in_a_room = λ room there event no_hit left is. silent_room p room _;
      by_a_hit = λ room there response word moment is. absurd is;
    }

    at_dealers : (by : Actor) (d : Duty) → IsOther d → DealerMay DealerSilent config known by d
    at_dealers by (duty.Show dealer room ask moment) is =
        λ row found none. shown_silent p config known room ask moment dealer row
    at_dealers by (duty.Tell dealer room close moment) is = absurd is
    at_dealers (actor.Firm number) (duty.Drop last moment) is =
        λ row found. dropped_silent p config known last moment number row
        (left_by_drop config known last moment (dealer_of number row))
    at_dealers by other is = tt

    at_investors : (d : Duty) → IsOther d → InvestorMay InvestorSilent config d
    unfolding event_facts
    at_investors (duty.Relay room offer moment) is = λ row found.
        market_silent p config known room.investor row (at_investor.QuoteCame room.n offer moment)
        [] (offer_none p config known
        (investor_trail.book_by (of_investor room.investor known)) room.n offer _)
    at_investors (duty.Answer room response reply moment) is = absurd is
    at_investors other is = any_news InvestorSilent config other tt (λ number row found event news.
        market_silent p config known number row event [] (news_none p config known
        (market_of config number row) (investor_trail.book_by (of_investor number known)) event news))

    in_rooms : (by : Actor) (d : Duty) → IsOther d → RoomMay RoomSilent config known by d
    in_rooms by (duty.Hit room response word moment) is = absurd is
    in_rooms by other is = any_room AnyRoom config known by other (λ room event left at. tt)

    pub other_adds : (by : Actor) (d : Duty) → IsOther d
        → Adds p (duty_effect config known by d) [] []
    other_adds by d is =
        silent_adds (duty_effect config known by d)
        (duty_walks DealerSilent InvestorSilent RoomSilent config known (SilentIn p) walks by d
        (at_dealers by d is) (at_investors d is) (in_rooms by d is))
        (duty_each (IsStill p) config known by d (λ more left. still_left more d is left))

    -- Replies by which nothing is traded.

    pub refused_adds : (by : Actor) (room : RoomRef) (response : ResponseRef) (why : HitRefusal)
        (moment : ℕ)
        → Adds p (duty_effect config known by
        (duty.Answer room response (reply.Refused why) moment)) [] []
    unfolding duty_effect event_facts
    refused_adds by room response why moment =
        silent_adds (duty_effect config known by
        (duty.Answer room response (reply.Refused why) moment))
        (invested_does (SilentIn p) (idle p) config room.investor _
        (λ row. if_does (SilentIn p) (idle p) (replies_to response.k (reply.Refused why))
        (where_known known room.n response.k
        (at_investor.Answered room.n response (reply.Refused why) moment)
        (market_of config room.investor row))
        (known_silent p config known room.investor row room.n response.k
        (at_investor.Answered room.n response (reply.Refused why) moment)
        (refused_none p config known (investor_trail.book_by (of_investor room.investor known)) room.n response why _))))
        (duty_leaves (IsStill p) config known by
        (duty.Answer room response (reply.Refused why) moment) tt).each

    pub passed_on_adds : (by : Actor) (room : RoomRef) (response : ResponseRef) (moment : ℕ)
        → replies_to response.k reply.Passed ≡ true
        → Adds p (duty_effect config known by
        (duty.Answer room response reply.Passed moment)) [] []
    unfolding duty_effect event_facts
    passed_on_adds by room response moment replies =
        silent_adds (duty_effect config known by
        (duty.Answer room response reply.Passed moment))
        (invested_does (SilentIn p) (idle p) config room.investor _
        (λ row. if_does (SilentIn p) (idle p) (replies_to response.k reply.Passed)
        (where_known known room.n response.k
        (at_investor.Answered room.n response reply.Passed moment)
        (market_of config room.investor row))
        (known_silent p config known room.investor row room.n response.k
        (at_investor.Answered room.n response reply.Passed moment)
        (passed_none p config known (investor_trail.book_by (of_investor room.investor known)) room.n response _ (elim (cases_some response.k) [
          | inl none ↦ none
          | inr some ↦ cc (rw (some.1) at replies)
        ])))))
        (duty_leaves (IsStill p) config known by
        (duty.Answer room response reply.Passed moment) tt).each

    -- Ends by which nothing is traded.

    untold : (room : RoomRef) (end : End) (moment : ℕ)
        → ((dealer : ℕ) → IsStill p (duty.Tell dealer room (close_for end dealer) moment))
        → Every (IsStill p) (told_in (of_room room known) room end moment)
    untold room end moment still =
        every_in (λ (dealer : ℕ). Unit {0}) (IsStill p)
        (λ dealer. duty.Tell dealer room (close_for end dealer) moment) (λ dealer is. still dealer)
        (dealers_of (request_of (of_room room known)))
        (every_all (λ (dealer : ℕ). Unit {0}) (λ dealer. tt) (dealers_of (request_of (of_room room known))))

    replied : (room : RoomRef) (response : ResponseRef) (moment : ℕ) (b : Bool)
        → IsStill p (duty.Answer room response (reply_to_pass b) moment)
    replied room response moment true = (refl, refl)
    replied room response moment false = (refl, refl)

    pub passed_adds : (by : Actor) (room : RoomRef) (response : ResponseRef) (moment : ℕ)
        → Adds p (duty_effect config known by (duty.Pass room response moment)) [] []
    unfolding duty_effect
    passed_adds by room response moment =
        let is = is_open (of_room room known) in
        let effect = duty_effect config known by (duty.Pass room response moment) in
        if_does (λ (e : Effect). Adds p e [] []) (silent_adds nothing (idle p) tt) _ _
        (silent_adds _ (silent_room p room _) (
          replied room response moment is,
          if_each (IsStill p) is (told_in (of_room room known) room passed moment)
              (untold room passed moment (λ dealer. (refl, refl))),
        ))

    pub swept_adds : (room : RoomRef) (moment : ℕ)
        → Adds p (sweep_effect config known room moment) [] []
    unfolding sweep_effect
    swept_adds room moment =
        let is = may_expire (of_room room known) moment in
        if_does (λ (e : Effect). Adds p e [] []) (silent_adds nothing (idle p) tt) _ _
        (silent_adds _ (silent_room p room _) (if_each (IsStill p) is
        (duty.Close room moment ∷ told_in (of_room room known) room expired moment)
        ((refl, refl), untold room expired moment (λ dealer. (refl, refl)))))

    -- Messages.

    -- each duty of some is still
    each_still : {A : Type 0} (make : A → Duty) → ((x : A) → IsStill p (make x)) → (xs : List A)
        → Every (λ x. IsStill p (make x)) xs
    each_still make still xs = every_all (λ x. IsStill p (make x)) still xs

    says_still : (dealer moment : ℕ) (v : DealerVerdict)
        → MaySay (IsStill p) config known dealer moment v
    says_still dealer moment (verdict.QuoteAccepted request id quote replaced) =
        each_still (post_of quote) (λ room. (refl, refl)) _
    says_still dealer moment (verdict.CancelAccepted id quote request) =
        each_still (λ room. duty.Unpost room quote moment) (λ room. (refl, refl)) _
    says_still dealer moment (verdict.DropsFollow last) = (refl, refl)
    says_still dealer moment (verdict.DeclineAccepted request number) =
        each_still (λ room. duty.Decline room moment) (λ room. (refl, refl)) _
    says_still dealer moment other = tt

    asks_still : (firm moment : ℕ) (row : InvestorRow) (v : InvestorVerdict)
        → IfSome (investor_output.verdict_duty (market_of config firm row) moment v) (IsStill p)
    asks_still firm moment row (asks.RequestAccepted id request) = (refl, refl)
    asks_still firm moment row (asks.Hits request response word) = (refl, refl)
    asks_still firm moment row (asks.Passes request response) = (refl, refl)
    asks_still firm moment row other = tt

    pub message_adds : (firm moment : ℕ) (bytes : List ℕ)
        → Adds p (message_effect config known firm moment bytes) [] []
    unfolding message_effect event_facts
    message_adds firm moment bytes =
        silent_adds (message_effect config known firm moment bytes)
        (elim (cases_some (dealer_numbered config firm)) [
          | inl none ↦ rw none (invested_does (SilentIn p) (idle p) config firm
              (received_by_investor known moment bytes) (λ row.
              market_silent p config known firm row (at_investor.Received moment bytes)
              (left_by_investor known moment bytes (market_of config firm row))
              (said_none p config known moment bytes (investor_verdict (market_of config firm row)
              (investor_trail.book_by (of_investor firm known)) moment bytes))))
          | inr some ↦ rw (some.1) (said_silent p config known moment bytes firm some.0)
        ])
        (message_leaves (IsStill p) config known firm moment bytes
        (λ row is. says_still firm moment (verdict_on config known moment bytes (dealer_of firm row)))
        (λ row is. asks_still firm moment row (investor_verdict (market_of config firm row)
        (investor_trail.book_by (of_investor firm known)) moment bytes))).each
