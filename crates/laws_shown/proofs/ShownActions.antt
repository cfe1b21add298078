-- What every duty, message and sweep brings of what is shown.
use Rattle.std.proofs.Common.{◌≡◌, ℕ, ◌==◌, Bool, true, false, List, [], ◌++◌, map}
use Rattle.std.proofs.Common.{Option, Some, None, is_some}
use Rattle.std.proofs.Common.{option_map, refl, sym, ap, ◌∙◌, inl, inr, Result, Ok, Err}
use Rattle.std.proofs.lemmas.Bool.{cases_Bool}
use Rattle.std.proofs.lemmas.Option.{same_Some}
use Rattle.market_terms.specs.declared.closes.Close.{Close}
use Rattle.market_terms.specs.declared.closes.HitRefusal.{HitRefusal}
use Rattle.market_terms.specs.declared.duties.Duty.{Duty}
use Rattle.market_terms.specs.declared.duties.Duty.TheVariants as duty
use Rattle.market_terms.specs.declared.rooms.ResponseRef.{ResponseRef}
use Rattle.market_terms.specs.declared.rooms.RoomRef.{RoomRef}
use Rattle.venue_rows.specs.Rows.{Configuration, dealer_numbered, investor_numbered}
use Rattle.venue_rows.specs.declared.dealer_rows.DealerRow.{DealerRow}
use Rattle.venue_rows.specs.declared.investor_rows.InvestorRow.{InvestorRow}
use Rattle.venue_steps.specs.declared.actors.Actor.{Actor}
use Rattle.venue_steps.specs.declared.actors.Actor.TheVariants as actor
use Rattle.dealer_desk.specs.declared.events.DealerEvent.{DealerEvent}
use Rattle.investor_desk.specs.InvestorDesk.{market_for, market_of}
use Rattle.investor_desk.specs.InvestorRules.{InvestorMarket}
use Rattle.request_room.specs.Book.{event_facts, expired, hit_outcome, may_expire, passed}
use Rattle.request_room.specs.RoomFacts.{RoomFact, is_open, is_vacant, request_of}
use Rattle.request_room.specs.declared.ends.End.{End}
use Rattle.request_room.specs.declared.events.RoomEvent.{RoomEvent}
use Rattle.request_room.specs.declared.events.RoomEvent.TheVariants as at_room
use Rattle.venue_steps.specs.RoomSteps.{dealers_of}
use Rattle.venue_steps.specs.RoomSteps.{hit_word, shown_then_ready}
use Rattle.step_replay.specs.ActionKinds.{event_in, hit_here}
use Rattle.step_replay.specs.Actions.{at_dealer as at_desk}
use Rattle.step_replay.specs.Actions.{Dealer, Effect, QuoteRef, answer_to_hit}
use Rattle.step_replay.specs.Actions.{dealer_of, done_for, lifting, nothing, offer_of}
use Rattle.step_replay.specs.Actions.{at_market, quote_asked, quote_with_word}
use Rattle.investor_desk.specs.declared.events.InvestorEvent.{InvestorEvent}
use Rattle.step_replay.specs.DealerTrail.{rooms_by}
use Rattle.step_replay.specs.DutyEffects.{duty_effect, message_effect, sweep_effect}
use Rattle.step_replay.specs.EachLemmas.{every_both}
use Rattle.step_replay.specs.Lists.{Every}
use Rattle.step_replay.specs.PlaceLemmas.{investor_in_room}
use Rattle.step_replay.specs.PlaceLemmas.{trail_in_room}
use Rattle.step_replay.specs.VenueFacts.{Fact, InRoom, of_dealer, of_investor, of_room}
use Rattle.laws_days.specs.ActionCases.{message_of, numbered_does}
use Rattle.laws_days.specs.DutyWalk.{DealerMay, InvestorMay, NoHitThere, RoomMay, Walks, duty_walks}
use Rattle.laws_days.specs.DutyWalk.{sweep_walks}
use Rattle.laws_days.specs.KeptItems.{every_all, every_map}
use Rattle.laws_days.specs.MayLeave.{AreTold, follows, if_each, outcome_each, shown_each, told_each}
use Rattle.laws_days.proofs.NewsWalk.{any_news}
use Rattle.laws_shown.specs.ShownRequests.{at_dealer}
use Rattle.laws_shown.proofs.ShownComes.{answered_brings, asked_brings, news_brings}
use Rattle.laws_shown.proofs.ShownDesk.{Brings, Stood, idle, shown_brings, told_brings}
use Rattle.step_replay.specs.PlaceLemmas.{investor_grown}
use Rattle.laws_shown.proofs.ShownParts.{turn_none, DutyOk, FactOk, Posts, each_later}
use Rattle.laws_shown.proofs.ShownParts.{dealer_facts_grown}
use Rattle.laws_shown.proofs.ShownParts.{investor_facts_grown, of_later, rooms_grown}
use Rattle.laws_shown.proofs.ShownParts.{quote_later, written_later}
use Rattle.laws_shown.proofs.ShownRelays.{came_brings}
use Rattle.laws_shown.proofs.ShownSaid.{dropped_brings, said_brings}

-- the investor that comes by its number, where there is one
invested_with : (R : Effect → Type 0) → R nothing → (config : Configuration) (number : ℕ)
    (act : InvestorMarket → Effect)
    → ((row : InvestorRow) → investor_numbered config number ≡ Some row
    → R (act (market_of config number row))) → R (done_for (market_for config number) act)
invested_with R none config number act each = by_row (investor_numbered config number) refl
  where
    by_row : (found : Option InvestorRow) → investor_numbered config number ≡ found
        → R (done_for (option_map (market_of config number) found) act)
    by_row None is = none
    by_row (Some row) is = each row is

offer_same : (config : Configuration) (one other : Dealer) (q r p s : ℕ) (u v : Option ℕ)
    → one ≡ other → q ≡ r → p ≡ s → u ≡ v
    → offer_of config one q p u ≡ offer_of config other r s v
offer_same config one other q r p s u v dealers numbers prices untils =
    rw (dealers, numbers, prices, untils) refl

dealer_same : (number other : ℕ) (row its : DealerRow) → number ≡ other → row ≡ its
    → dealer_of number row ≡ dealer_of other its
dealer_same number other row its numbers rows = rw (numbers, rows) refl

-- a lifting says nothing at a desk

lifting_asks : (found : Option QuoteRef) (outcome : Result End HitRefusal) (dealer : ℕ)
    → at_dealer dealer (lifting found outcome) ≡ []
unfolding of_dealer
lifting_asks None outcome dealer = refl
lifting_asks (Some hit) (Err refused) dealer = refl
lifting_asks (Some hit) (Ok award) dealer = elim (cases_Bool (hit.dealer == dealer)) [
  | inl same ↦ rw same refl
  | inr differs ↦ rw differs refl
]

lifting_rooms : (found : Option QuoteRef) (outcome : Result End HitRefusal) (dealer : ℕ)
    → rooms_by (of_dealer dealer (lifting found outcome)) ≡ []
unfolding of_dealer
lifting_rooms None outcome dealer = refl
lifting_rooms (Some hit) (Err refused) dealer = refl
lifting_rooms (Some hit) (Ok award) dealer = elim (cases_Bool (hit.dealer == dealer)) [
  | inl same ↦ rw same refl
  | inr differs ↦ rw differs refl
]

pub lifting_asked : (found : Option QuoteRef) (outcome : Result End HitRefusal) (investor : ℕ)
    → of_investor investor (lifting found outcome) ≡ []
unfolding of_investor
lifting_asked None outcome investor = refl
lifting_asked (Some hit) (Err refused) investor = refl
lifting_asked (Some hit) (Ok award) investor = refl

lifting_ok : (config : Configuration) (now : List Fact) (found : Option QuoteRef)
    (outcome : Result End HitRefusal) → Every (FactOk config now) (lifting found outcome)
lifting_ok config now None outcome = tt
lifting_ok config now (Some hit) (Err refused) = tt
lifting_ok config now (Some hit) (Ok award) = (tt, tt)

abbrev pub firm_of : Actor → ℕ
firm_of (actor.Firm number) = number
firm_of actor.Clock = 0

module _ (config : Configuration) (facts : List Fact) (stood : Stood config facts) (by : Actor)
  where
    abbrev R : Effect → Type 0
    R effect = Brings config facts by effect

    none : R nothing
    none = idle config facts by

    -- In a room.

    happened_brings : (room : RoomRef) (happened : List RoomFact) (duties : List Duty)
        → Every (DutyOk config (facts ++ map (InRoom room) happened) by) duties
        → R (record { facts = map (InRoom room) happened; duties = duties })
    happened_brings room happened duties left = record {
      stands = every_map (FactOk config (facts ++ map (InRoom room) happened)) (InRoom room)
          (λ fact. tt) happened;
      left = left;
      asks = λ dealer. rw (trail_in_room dealer room happened) tt;
      numbered = λ investor. rw (investor_in_room investor room happened) tt;
      sent = λ investor. rw (investor_in_room investor room happened)
          (turn_none config (facts ++ map (InRoom room) happened) investor);
    }

    -- a hit, which may lift a quote
    lifted_brings : (lifted : List Fact) (room : RoomRef) (happened : List RoomFact)
        (duties : List Duty)
        → ((dealer : ℕ) → at_dealer dealer lifted ≡ [])
        → ((dealer : ℕ) → rooms_by (of_dealer dealer lifted) ≡ [])
        → ((investor : ℕ) → of_investor investor lifted ≡ [])
        → Every (FactOk config (facts ++ (lifted ++ map (InRoom room) happened))) lifted
        → Every (DutyOk config (facts ++ (lifted ++ map (InRoom room) happened)) by) duties
        → R (record { facts = lifted ++ map (InRoom room) happened; duties = duties })
    lifted_brings lifted room happened duties asks rooms asked ok left =
        let now = facts ++ (lifted ++ map (InRoom room) happened) in
        record {
          stands = every_both (FactOk config now) lifted (map (InRoom room) happened) ok
              (every_map (FactOk config now) (InRoom room) (λ fact. tt) happened);
          left = left;
          asks = λ dealer. rw (
            dealer_facts_grown dealer lifted (map (InRoom room) happened),
            rooms_grown dealer lifted (map (InRoom room) happened),
            asks dealer,
            rooms dealer,
            trail_in_room dealer room happened,
          ) tt;
          numbered = λ investor. rw (
            investor_facts_grown investor lifted (map (InRoom room) happened),
            asked investor,
            investor_in_room investor room happened,
          ) tt;
          sent = λ investor. rw (
            investor_grown investor lifted (map (InRoom room) happened),
            asked investor,
            investor_in_room investor room happened,
          ) (turn_none config now investor);
        }

    -- Duties.

    -- nothing has to stand of notices
    are_told : (P : Duty → Type 0)
        → ((dealer : ℕ) (room : RoomRef) (close : Close) (moment : ℕ)
        → P (duty.Tell dealer room close moment)) → (room : RoomRef) (moment : ℕ)
        → AreTold P config facts room moment
    are_told P is room moment =
        every_all (λ (dealer : ℕ). (close : Close) → P (duty.Tell dealer room close moment))
        (λ dealer close. is dealer room close moment) (dealers_of (request_of (of_room room facts)))

    abbrev DealerShows : ℕ → DealerRow → DealerEvent → List Duty → Type 0
    DealerShows number row more left = R (at_desk config facts (dealer_of number row) more left)

    abbrev InvestorShows : ℕ → InvestorRow → InvestorEvent → Type 0
    InvestorShows number row more = R (at_market facts (market_of config number row) more [])

    -- what a hit brings is shown apart
    abbrev RoomShows : RoomRef → RoomEvent → List Duty → Type 0
    RoomShows room (at_room.Hit word moment settlement) left = Unit {0}
    RoomShows room more left =
        Every (DutyOk config (facts ++ map (InRoom room) (event_facts (of_room room facts) more)) by)
        left

    room_brings : (room : RoomRef) (more : RoomEvent) (left : List Duty) → NoHitThere more
        → RoomShows room more left → R (event_in config facts room more left)
    room_brings room (at_room.Hit word moment settlement) left no_hit is = absurd no_hit
    room_brings room more left no_hit is =
        happened_brings room (event_facts (of_room room facts) more) left is

    -- a hit, whatever it finds
    hit_brings : (room : RoomRef) (response : ResponseRef) (word moment : ℕ)
        → R (hit_here config facts room response word moment)
    hit_brings room response word moment =
        let known = of_room room facts in
        let settlement = option_map (answer_to_hit facts)
        (quote_asked config (hit_word known word moment)) in
        let outcome = hit_outcome known word moment settlement in
        let lifted = lifting (quote_with_word config word) outcome in
        let happened = event_facts known (at_room.Hit word moment settlement) in
        let now = facts ++ (lifted ++ map (InRoom room) happened) in
        lifted_brings lifted room happened _
        (lifting_asks (quote_with_word config word) outcome)
        (lifting_rooms (quote_with_word config word) outcome)
        (lifting_asked (quote_with_word config word) outcome)
        (lifting_ok config now (quote_with_word config word) outcome) (
          tt,
          outcome_each (DutyOk config now by) config facts room moment
              (are_told (DutyOk config now by) (λ dealer at close when. tt) room moment) outcome,
        )

    walks : Walks DealerShows InvestorShows RoomShows config facts R
    walks = record {
      idle = none;
      at_a_dealer = λ number row found more left is. is;
      at_an_investor = λ number row found more is. is;
      in_a_room = λ room there more no_hit left is. room_brings room more left no_hit is;
      by_a_hit = λ room there response word moment is. hit_brings room response word moment;
    }

    drops : (actor : Actor) → by ≡ actor → (last moment : ℕ)
        → DealerMay DealerShows config facts actor (duty.Drop last moment)
    drops (actor.Firm number) is last moment =
        λ row found. dropped_brings config facts stood number row found by is last moment
    drops actor.Clock is last moment = tt

    at_dealers : (d : Duty) → DutyOk config facts by d → DealerMay DealerShows config facts by d
    at_dealers (duty.Show dealer room ask moment) ok =
        λ row found none_yet. shown_brings config facts by dealer row found room ask moment ok
    at_dealers (duty.Tell dealer room close moment) ok =
        λ row found request there may. told_brings config facts by dealer row request close moment
    at_dealers (duty.Drop last moment) ok = drops by refl last moment
    at_dealers other ok = tt

    at_investors : (d : Duty) → DutyOk config facts by d → InvestorMay InvestorShows config d
    at_investors (duty.Relay room offer moment) ok = λ row is.
        came_brings config facts by room.investor row stood is room.n offer moment ok
    at_investors (duty.Answer room response reply moment) ok =
        λ fits row is. answered_brings config facts by room.investor row room.n response reply moment
    at_investors other ok = any_news InvestorShows config other tt
        (λ number row is more news. news_brings config facts by number row more news)

    -- a post of a quote of the dealer that acts
    posts : (room : RoomRef) (quote price : ℕ) (valid_until : Option ℕ) (moment : ℕ)
        → Posts config facts by room quote price valid_until → (actor : Actor) → by ≡ actor
        → RoomMay RoomShows config facts actor (duty.Post room quote price valid_until moment)
    unfolding of_later written_later quote_later
    posts room quote price valid_until moment posted actor.Clock is = tt
    posts room quote price valid_until moment posted (actor.Firm number) is = λ row found.
        let own = posted.is_quote.is_written.is_quote in
        let numbers : number ≡ posted.dealer = ap firm_of (sym is ∙ posted.by_is) in
        let rows : row ≡ own.row = same_Some row own.row (sym found
        ∙ ap (λ (n : ℕ). dealer_numbered config n) numbers ∙ own.is_dealer) in
        follows _ _ _ (record {
          dealer = posted.dealer;
          by_is = posted.by_is;
          quote = posted.quote;
          is_quote = of_later config facts _ room posted.dealer posted.quote posted.is_quote;
          offer_is = offer_same config (dealer_of number row) (dealer_of posted.dealer own.row)
              quote posted.quote.number price posted.quote.price valid_until
              posted.quote.valid_until (dealer_same number posted.dealer row own.row numbers rows)
              (sym posted.number_is) (sym posted.price_is) (sym posted.until_is);
        })

    in_rooms : (a : Actor) → by ≡ a → (d : Duty) → DutyOk config facts by d
        → RoomMay RoomShows config facts a d
    in_rooms a is (duty.Open room ask dealers moment) ok =
        let happened = event_facts (of_room room facts)
        (at_room.Open (record { ask = ask; dealers = dealers })) in
        let now = facts ++ map (InRoom room) happened in
        if_each (DutyOk config now by) (is_vacant (of_room room facts))
        (shown_then_ready room ask dealers moment)
        (shown_each (DutyOk config now by) config facts room moment
        (λ dealer. duty.Show dealer room ask moment) dealers (
          each_later config facts (map (InRoom room) happened) room ask dealers ok,
          tt,
        ))
    in_rooms a is (duty.Post room quote price valid_until moment) ok =
        posts room quote price valid_until moment ok a is
    in_rooms (actor.Firm number) is (duty.Unpost room quote moment) ok =
        λ row found. follows _ _ _ tt
    in_rooms (actor.Firm number) is (duty.Decline room moment) ok = λ row found. follows _ _ _ tt
    in_rooms a is (duty.Pass room response moment) ok =
        let happened = event_facts (of_room room facts) (at_room.Pass moment) in
        let now = facts ++ map (InRoom room) happened in (
          tt,
          if_each (DutyOk config now by) (is_open (of_room room facts)) _
              (told_each (DutyOk config now by) config facts room passed moment
              (are_told (DutyOk config now by) (λ dealer at close when. tt) room moment)),
        )
    in_rooms a is other ok = tt

    pub duty_brings : (left : Duty) → DutyOk config facts by left
        → R (duty_effect config facts by left)
    duty_brings left ok =
        duty_walks DealerShows InvestorShows RoomShows config facts R walks by left
        (at_dealers left ok) (at_investors left ok) (in_rooms by refl left ok)

    pub sweep_brings : (room : RoomRef) (moment : ℕ) → R (sweep_effect config facts room moment)
    sweep_brings room moment =
        let happened = event_facts (of_room room facts) (at_room.Expire moment) in
        let now = facts ++ map (InRoom room) happened in
        sweep_walks DealerShows InvestorShows RoomShows config facts R walks room moment
        (if_each (DutyOk config now by) (may_expire (of_room room facts) moment) _ (
          tt,
          told_each (DutyOk config now by) config facts room expired moment
              (are_told (DutyOk config now by) (λ dealer at close when. tt) room moment),
        ))

    pub message_brings : (firm moment : ℕ) (bytes : List ℕ) → by ≡ actor.Firm firm
        → R (message_effect config facts firm moment bytes)
    unfolding message_effect
    message_brings firm moment bytes is = either (is_some (dealer_numbered config firm))
      where
        either : (b : Bool) → R (message_of config facts firm moment bytes b)
        either true =
            numbered_does R none config firm _
            (λ row found. said_brings config facts stood firm row found by is moment bytes)
        either false =
            invested_with R none config firm _
            (λ row found. asked_brings config facts by firm row found moment bytes)
