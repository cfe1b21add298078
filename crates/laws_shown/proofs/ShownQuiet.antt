-- What shows no quote, and what a relay shows; what leaves no quote to be shown.
use Rattle.std.proofs.Common.{◌≡◌, ℕ, ◌==◌, Bool, true, false, List, [], ◌∷◌, ◌++◌, map, Option, Some}
use Rattle.std.proofs.Common.{None, refl, ◌∙◌, subst, inl, inr, ◌⊎◌, is_some}
use Rattle.std.proofs.Common.{Result}
use Rattle.std.proofs.lemmas.Bool.{cases_Bool, eqb-true}
use Rattle.market_terms.specs.declared.closes.HitRefusal.{HitRefusal}
use Rattle.market_terms.specs.declared.duties.Duty.{Duty}
use Rattle.market_terms.specs.declared.duties.Duty.TheVariants as duty
use Rattle.market_terms.specs.declared.rooms.Offer.{Offer}
use Rattle.market_terms.specs.declared.rooms.RoomRef.{RoomRef}
use Rattle.venue_rows.specs.Rows.{Configuration, dealer_numbered}
use Rattle.venue_rows.specs.declared.investor_rows.InvestorRow.{InvestorRow}
use Rattle.venue_steps.specs.declared.actors.Actor.{Actor}
use Rattle.venue_steps.specs.declared.actors.Actor.TheVariants as actor
use Rattle.dealer_desk.specs.declared.events.DealerEvent.{DealerEvent}
use Rattle.investor_desk.specs.InvestorDesk.{market_of}
use Rattle.investor_desk.specs.InvestorFacts.{InvestorBook, InvestorFact, Offered, StandingRequest}
use Rattle.investor_desk.specs.InvestorFacts.{knows, offer_of_dealer, offers_of}
use Rattle.investor_desk.specs.InvestorFacts.{open_request, request_numbered}
use Rattle.investor_desk.specs.InvestorOutput.{event_facts, gone_facts, next_offer}
use Rattle.investor_desk.specs.InvestorOutput.{offer_facts, verdict_facts}
use Rattle.investor_desk.specs.InvestorRules.{investor_verdict}
use Rattle.investor_desk.specs.declared.events.InvestorEvent.{InvestorEvent}
use Rattle.investor_desk.specs.declared.events.InvestorEvent.TheVariants as event
use Rattle.investor_desk.specs.declared.standing.ShownOffer.{ShownOffer}
use Rattle.investor_desk.specs.declared.verdicts.InvestorVerdict.{InvestorVerdict}
use Rattle.investor_desk.specs.declared.verdicts.InvestorVerdict.TheVariants as verdict
use Rattle.request_room.specs.RoomFacts.{RoomFact}
use Rattle.request_room.specs.declared.ends.End.{End}
use Rattle.step_replay.specs.Actions.{Dealer, Effect, QuoteRef, at_dealer as at_desk}
use Rattle.step_replay.specs.Actions.{at_market, dealer_of, lifting, nothing}
use Rattle.step_replay.specs.DutyEffects.{duty_effect, message_effect, sweep_effect}
use Rattle.step_replay.specs.InvestorTrail.{book_by}
use Rattle.step_replay.specs.PlaceLemmas.{investor_at_dealer, investor_in_room, other_investor}
use Rattle.step_replay.specs.PlaceLemmas.{own_investor}
use Rattle.step_replay.specs.Lists.{Every}
use Rattle.step_replay.specs.VenueFacts.{Fact, InRoom, of_investor}
use Rattle.laws_days.specs.ActionCases.{if_does, invested_does, message_of, numbered_does}
use Rattle.laws_days.specs.DutyWalk.{AnyDealer, AnyRoom, InvestorMay, Walks, any_dealer, any_room}
use Rattle.laws_days.specs.DutyWalk.{duty_walks, sweep_walks}
use Rattle.laws_shown.specs.ShownQuotes.{shown_to}
use Rattle.laws_shown.proofs.ShownActions.{lifting_asked}
use Rattle.laws_shown.proofs.ShownMarket.{entries_facts}
use Rattle.laws_days.proofs.NewsWalk.{any_news, news_adds, reply_adds}
use Rattle.step_replay.specs.PlaceLemmas.{investor_grown}
use Rattle.laws_shown.proofs.ShownParts.{offers_both}

-- an effect that shows no quote to anyone
pub record IsQuiet (effect : Effect) : Type 0 where
  pub none : (investor : ℕ) → shown_to investor effect.facts ≡ []

-- Facts that show nothing.

gone_shows : (number : ℕ) (found : Option ShownOffer) → offers_of (gone_facts number found) ≡ []
gone_shows number None = refl
gone_shows number (Some shown) = refl

verdict_shows : (v : InvestorVerdict) → offers_of (verdict_facts v) ≡ []
verdict_shows (verdict.RequestAccepted id request) = refl
verdict_shows other = refl

-- facts of which none is a quote
abbrev pub NoOffer : InvestorFact → Type 0
NoOffer (Offered shown) = ⊥
NoOffer fact = Unit {0}

pub no_offers : (facts : List InvestorFact) → Every NoOffer facts → offers_of facts ≡ []
no_offers [] none = refl
no_offers (Offered shown ∷ facts) none = absurd none.0
no_offers (fact ∷ facts) none = no_offers facts none.1

-- a quote that comes is shown, or is not
came_shows : (book : InvestorBook) (number : ℕ) (offer : Offer) (found : Option StandingRequest)
    → (offers_of (offer_facts book number offer found) ≡ [])
    ⊎ (offers_of (offer_facts book number offer found) ≡ next_offer book number offer ∷ [])
came_shows book number offer None = inl refl
came_shows book number offer (Some own) =
    inr (offers_both (gone_facts number (offer_of_dealer own offer.dealer)) _
    ∙ rw (gone_shows number (offer_of_dealer own offer.dealer)) refl)

-- whether a duty is a relay
abbrev pub is_relay : Duty → Bool
is_relay (duty.Relay room offer moment) = true
is_relay other = false

-- What a relay shows an investor: nothing, or its quote, where it is the investor of its room.
pub data Relayed (room : RoomRef) (offer : Offer) (investor : ℕ) (shown : List ShownOffer)
    : Type 0 where
  nothing_shown : shown ≡ [] → Relayed room offer investor shown
  one_shown : (one : ShownOffer) → investor ≡ room.investor → shown ≡ one ∷ []
      → one.request ≡ room.n → one.offer ≡ offer → Relayed room offer investor shown

pub record RelayShows (room : RoomRef) (offer : Offer) (effect : Effect) : Type 0 where
  pub each : (investor : ℕ) → Relayed room offer investor (shown_to investor effect.facts)

module _ (config : Configuration) (facts : List Fact) where
  none : IsQuiet nothing
  unfolding of_investor
  none = record { none = λ investor. refl }

  desk_quiet : (dealer : Dealer) (more : DealerEvent) (duties : List Duty)
      → IsQuiet (at_desk config facts dealer more duties)
  desk_quiet dealer more duties =
      record { none = λ investor. rw (investor_at_dealer investor dealer.number _) refl }

  happened_quiet : (room : RoomRef) (happened : List RoomFact) (duties : List Duty)
      → IsQuiet (record { facts = map (InRoom room) happened; duties = duties })
  happened_quiet room happened duties =
      record { none = λ investor. rw (investor_in_room investor room happened) refl }

  hit_quiet : (found : Option QuoteRef) (outcome : Result End HitRefusal) (room : RoomRef)
      (happened : List RoomFact) (duties : List Duty)
      → IsQuiet (record {
        facts = lifting found outcome ++ map (InRoom room) happened;
        duties = duties;
      })
  hit_quiet found outcome room happened duties = record {
    none = λ investor. rw (
      investor_grown investor (lifting found outcome) (map (InRoom room) happened),
      lifting_asked found outcome investor,
      investor_in_room investor room happened,
    ) refl;
  }

  -- what an event shows at an investor's desk
  market_shows : (firm : ℕ) (row : InvestorRow) (more : InvestorEvent) (duties : List Duty)
      (P : ℕ → List ShownOffer → Type 0)
      → P firm (offers_of (event_facts (market_of config firm row)
      (book_by (of_investor firm facts)) more))
      → ((investor : ℕ) → P investor [])
      → (investor : ℕ)
      → P investor (shown_to investor
      (at_market facts (market_of config firm row) more duties).facts)
  market_shows firm row more duties P here elsewhere investor =
      elim (cases_Bool (firm == investor)) [
        | inl same ↦
            subst (λ i. P i (shown_to i (at_market facts (market_of config firm row) more
            duties).facts)) (eqb-true firm investor same)
            (rw (own_investor firm _, entries_facts config facts actor.Clock firm row more duties)
            here)
        | inr differs ↦ rw (other_investor investor firm differs _) (elsewhere investor)
      ]

  market_quiet : (firm : ℕ) (row : InvestorRow) (more : InvestorEvent) (duties : List Duty)
      → offers_of (event_facts (market_of config firm row) (book_by (of_investor firm facts)) more)
      ≡ []
      → IsQuiet (at_market facts (market_of config firm row) more duties)
  market_quiet firm row more duties is =
      record { none = market_shows firm row more duties (λ i xs. xs ≡ []) is (λ i. refl) }

  -- All duties but a relay.

  abbrev ShowsNone : ℕ → InvestorRow → InvestorEvent → Type 0
  ShowsNone firm row more =
      offers_of (event_facts (market_of config firm row) (book_by (of_investor firm facts)) more) ≡ []

  walks : Walks AnyDealer ShowsNone AnyRoom config facts IsQuiet
  walks = record {
    idle = none;
    at_a_dealer = λ number row found more left any. desk_quiet (dealer_of number row) more left;
    at_an_investor = λ firm row found more is. market_quiet firm row more [] is;
    in_a_room = λ room there more no_hit left any. happened_quiet room _ left;
    by_a_hit = λ room there response word moment any. hit_quiet _ _ room _ _;
  }

  at_desks : (left : Duty) → is_relay left ≡ false → InvestorMay ShowsNone config left
  unfolding event_facts
  at_desks (duty.Relay room offer moment) isnt = λ row found. cc
  at_desks (duty.Answer room response reply moment) isnt = λ fits row found.
      let book = book_by (of_investor room.investor facts) in
      no_offers _ (reply_adds NoOffer book room.n response reply (λ how. tt)
      (request_numbered book room.n))
  at_desks other isnt = any_news ShowsNone config other tt (λ number row found more news.
      let market = market_of config number row in
      let book = book_by (of_investor number facts) in
      no_offers (event_facts market book more) (news_adds NoOffer market book more news
      (λ request word moment is quote. tt) (λ request. tt)))

  pub duty_quiet : (by : Actor) (left : Duty) → is_relay left ≡ false
      → IsQuiet (duty_effect config facts by left)
  duty_quiet by left isnt =
      duty_walks AnyDealer ShowsNone AnyRoom config facts IsQuiet walks by left
      (any_dealer AnyDealer config facts by left (λ number row more later is. tt))
      (at_desks left isnt) (any_room AnyRoom config facts by left (λ room more later is. tt))

  pub sweep_quiet : (room : RoomRef) (moment : ℕ)
      → IsQuiet (sweep_effect config facts room moment)
  sweep_quiet room moment =
      sweep_walks AnyDealer ShowsNone AnyRoom config facts IsQuiet walks room moment tt

  pub message_quiet : (firm moment : ℕ) (bytes : List ℕ)
      → IsQuiet (message_effect config facts firm moment bytes)
  unfolding message_effect event_facts
  message_quiet firm moment bytes = either (is_some (dealer_numbered config firm))
    where
      either : (b : Bool) → IsQuiet (message_of config facts firm moment bytes b)
      either true =
          numbered_does IsQuiet none config firm _ (λ row found. if_does IsQuiet none _ _
          (desk_quiet (dealer_of firm row) _ _))
      either false =
          invested_does IsQuiet none config firm _
          (λ row. market_quiet firm row (event.Received moment bytes) _
          (verdict_shows (investor_verdict (market_of config firm row)
          (book_by (of_investor firm facts)) moment bytes)))

  -- A relay shows its quote to the investor of its room, or nothing to anyone.

  pub relay_shows : (by : Actor) (room : RoomRef) (offer : Offer) (moment : ℕ)
      → RelayShows room offer (duty_effect config facts by (duty.Relay room offer moment))
  unfolding duty_effect event_facts of_investor
  relay_shows by room offer moment =
      invested_does (RelayShows room offer) (record { each = λ investor. nothing_shown refl }) config
      room.investor _ (λ row. if_does (RelayShows room offer)
      (record { each = λ investor. nothing_shown refl })
      (knows (book_by (of_investor room.investor facts)) room.n None)
      (at_market facts (market_of config room.investor row)
      (event.QuoteCame room.n offer moment) []) (record {
        each = market_shows room.investor row (event.QuoteCame room.n offer moment) []
            (Relayed room offer) (here row) (λ investor. nothing_shown refl);
      }))
    where
      here : (row : InvestorRow) → Relayed room offer room.investor
          (offers_of (offer_facts (book_by (of_investor room.investor facts)) room.n offer
          (open_request (book_by (of_investor room.investor facts)) room.n)))
      here row =
          elim (came_shows (book_by (of_investor room.investor facts)) room.n offer
          (open_request (book_by (of_investor room.investor facts)) room.n)) [
            | inl is ↦ nothing_shown is
            | inr is ↦ one_shown _ refl is refl refl
          ]
