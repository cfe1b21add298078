-- What an action leaves to be told of one dealer's quotes, withdrawals and declines: just those that take
-- effect in the room by it.
use Rattle.std.proofs.Common.{◌≡◌, ◌==◌, ◌&&◌, ◌⊎◌, ℕ, Bool, true, false, not, List, [], ◌∷◌, map, filter_map}
use Rattle.std.proofs.Common.{Option, Some, None, IfSome, is_some, refl, sym, ap, ◌∙◌, subst, inl, inr}
use Rattle.std.proofs.Common.{if◌then◌else◌}
use Rattle.std.specs.List.{cons_option}
use Rattle.std.proofs.lemmas.Bool.{and_parts, cases_Bool, eq-eqb, not-true}
use Rattle.dealer_desk.specs.DealerOutput.{is_same_room}
use Rattle.dealer_desk.specs.declared.verdicts.DealerVerdict.{DealerVerdict}
use Rattle.dealer_desk.specs.declared.verdicts.DealerVerdict.TheVariants as said
use Rattle.market_terms.specs.declared.duties.Duty.{Duty}
use Rattle.market_terms.specs.declared.duties.Duty.TheVariants as duty
use Rattle.market_terms.specs.declared.rooms.RoomRef.{RoomRef}
use Rattle.venue_rows.specs.Rows.{Configuration, dealer_numbered, has_room}
use Rattle.venue_rows.specs.declared.dealer_rows.DealerRow.{DealerRow}
use Rattle.venue_steps.specs.Dealers.{dealer_of, has_word_for, word_for}
use Rattle.venue_steps.specs.declared.actors.Actor.{Actor}
use Rattle.venue_steps.specs.declared.actors.Actor.TheVariants as actor
use Rattle.venue_steps.specs.RoomSteps.{where_follows}
use Rattle.investor_desk.specs.InvestorDesk.{market_of}
use Rattle.investor_desk.specs.InvestorOutput as investor_output
use Rattle.investor_desk.specs.InvestorRules.{InvestorMarket, investor_verdict}
use Rattle.investor_desk.specs.declared.verdicts.InvestorVerdict.{InvestorVerdict}
use Rattle.investor_desk.specs.declared.verdicts.InvestorVerdict.TheVariants as asks
use Rattle.request_room.specs.Book.{book_of, event_facts, may_unpost, quote_posted, stands, fact_if}
use Rattle.request_room.specs.RoomFacts.{Noted, Posted, RoomFact, Unposted, hears, is_ended, request_of}
use Rattle.request_room.specs.RoomFacts.{takes_quotes}
use Rattle.request_room.specs.declared.events.RoomEvent.{RoomEvent}
use Rattle.request_room.specs.declared.events.RoomEvent.TheVariants as at_room
use Rattle.request_room.specs.declared.quotes.PostedQuote.{PostedQuote}
use Rattle.step_replay.specs.Actions.{Effect, nothing, verdict_on}
use Rattle.step_replay.specs.LineActions.{declined_by, unposted_by}
use Rattle.step_replay.specs.AuditTrail.{AuditTrail, is_same_actor}
use Rattle.step_replay.specs.DutyEffects.{duty_effect, message_effect, sweep_effect}
use Rattle.step_replay.specs.GrowthLemmas.{same_room}
use Rattle.step_replay.specs.Lists.{Every}
use Rattle.step_replay.specs.PlaceLemmas.{other_room, own_room}
use Rattle.step_replay.specs.VenueFacts.{Fact, InRoom, of_room}
use Rattle.laws_days.specs.ActionCases.{numbered_does}
use Rattle.laws_days.specs.DutyWalk.{RoomMay}
use Rattle.laws_days.specs.KeptItems.{every_all}
use Rattle.laws_days.specs.LeftBehind.{LeftBy, duty_each}
use Rattle.laws_days.specs.LeftDuties.{duty_leaves as all_left, message_leaves as message_left}
use Rattle.laws_days.specs.MayLeave.{MaySay}
use Rattle.laws_days.specs.Conditions.{is_met}
use Rattle.laws_days.proofs.VenueInvariant.{DutyOk}
use Rattle.laws_days.proofs.VenueKnown.{room_self}
use Rattle.laws_rooms.specs.Answered.{Answer, Declines, Quotes, Withdraws, answers_in, change_in, changes_in}
use Rattle.laws_rooms.specs.Offers.{quotes_in}
use Rattle.laws_rooms.proofs.AnswerLemmas.{Goes, late, quiet, takes, turn_mine}
use Rattle.laws_rooms.proofs.OfferLemmas.{post_same, relays}
use Rattle.laws_rooms.proofs.ReplyDuties.{none_of}
use Rattle.laws_rooms.proofs.RoomWalk.{MayHappen, OfKind, duty_adds, kind_adds, message_adds, sweep_adds}
use Rattle.laws_rooms.proofs.TurnLists.{Fit, IsNoUnpost, plain_fit, same_changes, stands_after, stands_live}

-- a fact that is no decline and takes out no quote
abbrev IsPosting : RoomFact → Type 0
IsPosting (Noted dealer) = ⊥
IsPosting (Unposted dealer word) = ⊥
IsPosting other = Unit {0}

-- where there is none of them what takes effect are quotes
quotes_alone : (dealer : ℕ) (facts : List RoomFact) → Every IsPosting facts
    → changes_in dealer facts ≡ map Quotes (quotes_in dealer facts)
quotes_alone dealer [] every = refl
quotes_alone dealer (Posted quote ∷ facts) every = elim (cases_Bool (quote.dealer == dealer)) [
  | inl same ↦ rw same (ap (λ (l : List Answer). Quotes quote ∷ l) (quotes_alone dealer facts every.1))
  | inr differs ↦ rw differs (quotes_alone dealer facts every.1)
]
quotes_alone dealer (Noted other ∷ facts) every = absurd every.0
quotes_alone dealer (Unposted other word ∷ facts) every = absurd every.0
quotes_alone dealer (fact ∷ facts) every = quotes_alone dealer facts every.1

module _ (dealer : ℕ) (config : Configuration) (row : DealerRow)
    (is : dealer_numbered config dealer ≡ Some row) (room : RoomRef) where
  -- what a duty tells, where it is of this room
  abbrev pub tells_of : Duty → Option Answer
  tells_of (duty.Relay at offer moment) =
      if is_same_room at room
      then Some (Quotes (quote_posted dealer offer.word offer.price offer.valid_until))
      else None
  tells_of (duty.Gone at word moment) = if is_same_room at room then Some (Withdraws word) else None
  tells_of (duty.Declined at moment) = if is_same_room at room then Some Declines else None
  tells_of other = None

  abbrev pub tellings : List Duty → List Answer
  tellings duties = filter_map tells_of duties

  abbrev pub IsRelaying : Duty → Type 0
  IsRelaying (duty.Gone at word moment) = ⊥
  IsRelaying (duty.Declined at moment) = ⊥
  IsRelaying other = Unit {0}

  -- where no decline and no withdrawal is told what is told are quotes
  pub relays_alone : (duties : List Duty) → Every IsRelaying duties
      → tellings duties ≡ map Quotes (relays dealer config row is room duties)
  relays_alone [] every = refl
  relays_alone (duty.Relay at offer moment ∷ duties) every = elim (cases_Bool (is_same_room at room)) [
    | inl same ↦ rw same (ap (λ (l : List Answer).
        Quotes (quote_posted dealer offer.word offer.price offer.valid_until) ∷ l) (relays_alone duties every.1))
    | inr differs ↦ rw differs (relays_alone duties every.1)
  ]
  relays_alone (duty.Gone at word moment ∷ duties) every = absurd every.0
  relays_alone (duty.Declined at moment ∷ duties) every = absurd every.0
  relays_alone (other ∷ duties) every = relays_alone duties every.1

  -- what is left to be told is what takes effect
  record Same (effect : Effect) : Type 0 where
    pub same : tellings effect.duties ≡ changes_in dealer (of_room room effect.facts)

  idle : Same nothing
  unfolding of_room
  idle = record { same = refl }

  none_idle : of_room room [] ≡ []
  unfolding of_room
  none_idle = refl

  module _ (facts : List Fact) where
    abbrev known : List RoomFact
    known = of_room room facts

    abbrev changes : List RoomFact → List Answer
    changes some = changes_in dealer some

    abbrev added : Effect → List RoomFact
    added effect = of_room room effect.facts

    -- It fits what stands: each withdrawal is of the quote that stands. And it takes effect while the room
    -- goes on.

    abbrev pub FitsOn : Effect → Type 0
    FitsOn effect = Fit None (changes known) → Fit (stands_after None (changes known)) (changes (added effect))

    abbrev pub TakesOpen : Effect → Type 0
    TakesOpen effect = (changes (added effect) ≡ []) ⊎ (is_ended known ≡ false)

    post_same_too : (at : RoomRef) (quote price : ℕ) (until : Option ℕ) (moment : ℕ)
        → Same (duty_effect config facts (actor.Firm dealer) (duty.Post at quote price until moment))
    post_same_too at quote price until moment =
        let d = duty.Post at quote price until moment in
        let effect = duty_effect config facts (actor.Firm dealer) d in
        record {
          same = relays_alone effect.duties
              (all_left IsRelaying config facts (actor.Firm dealer) d (λ offer. tt)).each
              ∙ ap (λ (l : List PostedQuote). map Quotes l)
              (post_same dealer config row is room facts at quote price until moment).same
              ∙ sym (quotes_alone dealer (of_room room effect.facts)
              (duty_adds IsPosting config facts room (actor.Firm dealer) d (λ found row_is. tt)).each);
        }

    -- A decline.

    here : (moment : ℕ) (is_room hears_it takes_it : Bool) → Same (if is_room && hears_it
        then record {
          facts = map (InRoom room) (fact_if takes_it (Noted dealer));
          duties = where_follows (hears_it && takes_it) (duty.Declined room moment);
        }
        else nothing)
    here moment true true true =
        let own : (dealer == dealer) ≡ true = eq-eqb dealer dealer refl in
        record {
          same = ap (λ (b : Bool). cons_option (if b then Some Declines else None) []) (room_self room)
              ∙ sym (ap (λ (b : Bool). cons_option (if b then Some Declines else None) []) own)
              ∙ sym (ap (λ (l : List RoomFact). changes_in dealer l) (own_room room (Noted dealer ∷ [])));
        }
    here moment true true false =
        record { same = sym (ap (λ (l : List RoomFact). changes_in dealer l) (own_room room [])) }
    here moment true false takes_it = idle
    here moment false hears_it takes_it = idle

    away : (at : RoomRef) → is_same_room at room ≡ false → (moment : ℕ) (is_room hears_it takes_it : Bool)
        → Same (if is_room && hears_it
        then record {
          facts = map (InRoom at) (fact_if takes_it (Noted dealer));
          duties = where_follows (hears_it && takes_it) (duty.Declined at moment);
        }
        else nothing)
    away at differs moment true true takes_it =
        record {
          same = none takes_it
              ∙ sym (ap (λ (l : List RoomFact). changes_in dealer l)
              (other_room room at differs (fact_if takes_it (Noted dealer))));
        }
      where
        none : (b : Bool) → tellings (where_follows b (duty.Declined at moment)) ≡ []
        none true = rw differs refl
        none false = refl
    away at differs moment true false takes_it = idle
    away at differs moment false hears_it takes_it = idle

    decline_same : (at : RoomRef) (moment : ℕ)
        → Same (duty_effect config facts (actor.Firm dealer) (duty.Decline at moment))
    unfolding duty_effect event_facts
    decline_same at moment = elim (cases_Bool (is_same_room at room)) [
      | inl same ↦ numbered_does Same idle config dealer (declined_by config facts at moment)
          (λ found row_is. subst (λ (r : RoomRef).
          Same (declined_by config facts r moment (record { number = dealer; row = found })))
          (sym (same_room at room same))
          (here moment (has_room config room.investor room.n) (hears known dealer) (takes_quotes known)))
      | inr differs ↦ numbered_does Same idle config dealer (declined_by config facts at moment)
          (λ found row_is. away at differs moment (has_room config at.investor at.n)
          (hears (of_room at facts) dealer) (takes_quotes (of_room at facts)))
    ]

    -- A quote that is taken out.

    record Unposts (effect : Effect) : Type 0 where
      pub same : tellings effect.duties ≡ changes (added effect)
      pub fit : FitsOn effect
      pub takes_open : TakesOpen effect

    none_unposts : (effect : Effect) → tellings effect.duties ≡ [] → changes (added effect) ≡ [] → Unposts effect
    none_unposts effect untold none = record {
      same = untold ∙ sym none;
      fit = λ fits. subst (Fit (stands_after None (changes known))) (sym none) tt;
      takes_open = inl none;
    }

    idle_unposts : Unposts nothing
    idle_unposts = none_unposts nothing refl (ap (λ (l : List RoomFact). changes l) none_idle)

    module _ (quote moment : ℕ) (found : DealerRow) where
      abbrev its_word : ℕ
      its_word = word_for config (dealer_of dealer found) quote

      gone_here : (is_room has_word hears_it may_it : Bool) → may_unpost known dealer its_word ≡ may_it
          → Unposts (if is_room && (has_word && hears_it)
          then record {
            facts = map (InRoom room) (fact_if may_it (Unposted dealer its_word));
            duties = where_follows (hears_it && may_it) (duty.Gone room its_word moment);
          }
          else nothing)
      gone_here true true true true may =
          let own : (dealer == dealer) ≡ true = eq-eqb dealer dealer refl in
          let parts = and_parts (takes_quotes known) (stands (book_of known) dealer its_word) may in
          let open_yet = and_parts (is_some (request_of known)) (not (is_ended known)) parts.0 in
          let one : changes (of_room room (map (InRoom room) (Unposted dealer its_word ∷ []))) ≡ Withdraws its_word ∷ [] =
          ap (λ (l : List RoomFact). changes l) (own_room room (Unposted dealer its_word ∷ []))
          ∙ ap (λ (b : Bool). cons_option (if b then Some (Withdraws its_word) else None) []) own in
          record {
            same = ap (λ (b : Bool). cons_option (if b then Some (Withdraws its_word) else None) []) (room_self room)
                ∙ sym one;
            fit = λ fits. subst (Fit (stands_after None (changes known))) (sym one)
                (stands_live dealer its_word known None fits parts.1, tt);
            takes_open = inr (not-true (is_ended known) open_yet.1);
          }
      gone_here true true true false may =
          none_unposts _ refl (ap (λ (l : List RoomFact). changes l) (own_room room []))
      gone_here true true false may_it may = idle_unposts
      gone_here true false hears_it may_it may = idle_unposts
      gone_here false has_word hears_it may_it may = idle_unposts

      gone_away : (at : RoomRef) → is_same_room at room ≡ false → (is_room has_word hears_it may_it : Bool)
          → Unposts (if is_room && (has_word && hears_it)
          then record {
            facts = map (InRoom at) (fact_if may_it (Unposted dealer its_word));
            duties = where_follows (hears_it && may_it) (duty.Gone at its_word moment);
          }
          else nothing)
      gone_away at differs true true true may_it =
          none_unposts _ (none may_it) (ap (λ (l : List RoomFact). changes l)
          (other_room room at differs (fact_if may_it (Unposted dealer its_word))))
        where
          none : (b : Bool) → tellings (where_follows b (duty.Gone at its_word moment)) ≡ []
          none true = rw differs refl
          none false = refl
      gone_away at differs true true false may_it = idle_unposts
      gone_away at differs true false hears_it may_it = idle_unposts
      gone_away at differs false has_word hears_it may_it = idle_unposts

    unpost_takes : (at : RoomRef) (quote moment : ℕ)
        → Unposts (duty_effect config facts (actor.Firm dealer) (duty.Unpost at quote moment))
    unfolding duty_effect event_facts
    unpost_takes at quote moment = elim (cases_Bool (is_same_room at room)) [
      | inl same ↦ numbered_does Unposts idle_unposts config dealer (unposted_by config facts at quote moment)
          (λ found row_is. subst (λ (r : RoomRef).
          Unposts (unposted_by config facts r quote moment (dealer_of dealer found)))
          (sym (same_room at room same))
          (gone_here quote moment found (has_room config room.investor room.n)
          (has_word_for config (dealer_of dealer found) quote) (hears known dealer)
          (may_unpost known dealer (word_for config (dealer_of dealer found) quote)) refl))
      | inr differs ↦ numbered_does Unposts idle_unposts config dealer (unposted_by config facts at quote moment)
          (λ found row_is. gone_away quote moment found at differs (has_room config at.investor at.n)
          (has_word_for config (dealer_of dealer found) quote) (hears (of_room at facts) dealer)
          (may_unpost (of_room at facts) dealer (word_for config (dealer_of dealer found) quote)))
    ]

    -- All others.

    abbrev pub IsQuiet : Duty → Type 0
    IsQuiet (duty.Post at quote price until moment) = ⊥
    IsQuiet (duty.Unpost at quote moment) = ⊥
    IsQuiet (duty.Decline at moment) = ⊥
    IsQuiet other = Unit {0}

    abbrev TellsNone : Duty → Type 0
    TellsNone d = tells_of d ≡ None

    tells_none : (by : Actor) (d : Duty) → IsQuiet d → tellings (duty_effect config facts by d).duties ≡ []
    tells_none by d isnt =
        none_of tells_of (duty_effect config facts by d).duties
        (duty_each TellsNone config facts by d (λ more left. each more d isnt left))
      where
        each : (more one : Duty) → IsQuiet one → LeftBy more one → TellsNone more
        each (duty.Relay at offer when) (duty.Post other quote price until moment) so left = absurd so
        each (duty.Relay at offer when) one so left = absurd left
        each (duty.Gone at word when) (duty.Unpost other quote moment) so left = absurd so
        each (duty.Gone at word when) one so left = absurd left
        each (duty.Declined at when) (duty.Decline other moment) so left = absurd so
        each (duty.Declined at when) one so left = absurd left
        each more one so left = refl

    pub untold : (firm moment : ℕ) (bytes : List ℕ)
        → tellings (message_effect config facts firm moment bytes).duties ≡ []
    untold firm moment bytes =
        none_of tells_of (message_effect config facts firm moment bytes).duties
        (message_left TellsNone config facts firm moment bytes
        (λ found at_row. says firm moment (verdict_on config facts moment bytes _))
        (λ found at_row. asks_none moment (market_of config firm found) (investor_verdict _ _ moment bytes))).each
      where
        says : (firm moment : ℕ) (v : DealerVerdict) → MaySay TellsNone config facts firm moment v
        says firm moment (said.QuoteAccepted request id quote replaced) = every_all _ (λ r. refl) _
        says firm moment (said.CancelAccepted id quote request) = every_all _ (λ r. refl) _
        says firm moment (said.DropsFollow last) = refl
        says firm moment (said.DeclineAccepted request number) = every_all _ (λ r. refl) _
        says firm moment other = tt

        asks_none : (moment : ℕ) (market : InvestorMarket) (v : InvestorVerdict)
            → IfSome (investor_output.verdict_duty market moment v) TellsNone
        asks_none moment market (asks.RequestAccepted id request) = refl
        asks_none moment market (asks.Hits request response word) = refl
        asks_none moment market (asks.Passes request response) = refl
        asks_none moment market other = tt

    -- a fact that says nothing of this dealer
    abbrev SaysNot : RoomFact → Type 0
    SaysNot fact = change_in dealer fact ≡ None

    changes_none : (some : List RoomFact) → Every SaysNot some → changes some ≡ []
    changes_none some every = none_of (change_in dealer) some every

    -- an event of no dealer, or of another one
    abbrev OfAnother : RoomEvent → Type 0
    OfAnother (at_room.Post number word price until) = (number == dealer) ≡ false
    OfAnother (at_room.Unpost number word) = (number == dealer) ≡ false
    OfAnother (at_room.Decline number) = (number == dealer) ≡ false
    OfAnother other = Unit {0}

    another_says : (event : RoomEvent) → OfAnother event → MayHappen SaysNot event
    another_says (at_room.Post number word price until) differs = rw differs refl
    another_says (at_room.Unpost number word) differs = rw differs refl
    another_says (at_room.Decline number) differs = rw differs refl
    another_says (at_room.Hit word moment settlement) is = λ end. refl
    another_says other is = refl

    another_none : (by : Actor) (d : Duty) → RoomMay (OfKind OfAnother) config facts by d
        → changes (added (duty_effect config facts by d)) ≡ []
    another_none by d is =
        changes_none (added (duty_effect config facts by d))
        (kind_adds SaysNot config facts room OfAnother another_says by d is).each

    quiet_may : (by : Actor) (d : Duty) → IsQuiet d → RoomMay (OfKind OfAnother) config facts by d
    quiet_may by (duty.Post at quote price until moment) so = absurd so
    quiet_may by (duty.Unpost at quote moment) so = absurd so
    quiet_may by (duty.Decline at moment) so = absurd so
    quiet_may by other so = tt

    pub quiet_none : (by : Actor) (d : Duty) → IsQuiet d → changes (added (duty_effect config facts by d)) ≡ []
    quiet_none by d isnt = another_none by d (quiet_may by d isnt)

    other_may : (by : Actor) → is_same_actor by (actor.Firm dealer) ≡ false → (d : Duty)
        → RoomMay (OfKind OfAnother) config facts by d
    other_may (actor.Firm number) differs (duty.Post at quote price until moment) = λ found row_is. differs
    other_may actor.Clock differs (duty.Post at quote price until moment) = tt
    other_may (actor.Firm number) differs (duty.Unpost at quote moment) = λ found row_is. differs
    other_may actor.Clock differs (duty.Unpost at quote moment) = tt
    other_may (actor.Firm number) differs (duty.Decline at moment) = λ found row_is. differs
    other_may actor.Clock differs (duty.Decline at moment) = tt
    other_may by differs other = tt

    pub others_none : (by : Actor) (d : Duty) → is_same_actor by (actor.Firm dealer) ≡ false
        → changes (added (duty_effect config facts by d)) ≡ []
    others_none by d differs = another_none by d (other_may by differs d)

    pub message_none : (firm moment : ℕ) (bytes : List ℕ)
        → changes (added (message_effect config facts firm moment bytes)) ≡ []
    message_none firm moment bytes =
        changes_none (added (message_effect config facts firm moment bytes))
        (message_adds SaysNot config facts room firm moment bytes).each

    pub sweep_none : (at : RoomRef) (moment : ℕ) → changes (added (sweep_effect config facts at moment)) ≡ []
    sweep_none at moment =
        changes_none (added (sweep_effect config facts at moment))
        (sweep_adds SaysNot config facts room at moment refl).each

    -- what adds none fits
    pub none_fits : (effect : Effect) → changes (added effect) ≡ [] → FitsOn effect
    none_fits effect none = λ fits. subst (Fit (stands_after None (changes known))) (sym none) tt

    -- A duty of the dealer.

    -- what an action of the dealer leaves to be told is what takes effect, and that fits
    pub record Follows (effect : Effect) : Type 0 where
      pub same : tellings effect.duties ≡ changes (added effect)
      pub fit : FitsOn effect

    pub mine_follows : (by : Actor) (d : Duty) → by ≡ actor.Firm dealer → Follows (duty_effect config facts by d)
    mine_follows by (duty.Post at quote price until moment) one =
        subst (λ (a : Actor). Follows (duty_effect config facts a (duty.Post at quote price until moment))) (sym one)
        (record {
          same = (post_same_too at quote price until moment).same;
          fit = λ fits. plain_fit dealer (stands_after None (changes known))
              (added (duty_effect config facts (actor.Firm dealer) (duty.Post at quote price until moment)))
              (duty_adds IsNoUnpost config facts room (actor.Firm dealer)
              (duty.Post at quote price until moment) (λ found row_is. tt)).each;
        })
    mine_follows by (duty.Decline at moment) one =
        subst (λ (a : Actor). Follows (duty_effect config facts a (duty.Decline at moment))) (sym one)
        (record {
          same = (decline_same at moment).same;
          fit = λ fits. plain_fit dealer (stands_after None (changes known))
              (added (duty_effect config facts (actor.Firm dealer) (duty.Decline at moment)))
              (duty_adds IsNoUnpost config facts room (actor.Firm dealer) (duty.Decline at moment)
              (λ found row_is. tt)).each;
        })
    mine_follows by (duty.Unpost at quote moment) one =
        subst (λ (a : Actor). Follows (duty_effect config facts a (duty.Unpost at quote moment))) (sym one)
        (record { same = (unpost_takes at quote moment).same; fit = (unpost_takes at quote moment).fit })
    mine_follows by other one = record {
      same = tells_none by other tt ∙ sym (quiet_none by other tt);
      fit = none_fits (duty_effect config facts by other) (quiet_none by other tt);
    }

    by_goes : (some : List RoomFact) (items : List Answer) → changes some ≡ answers_in dealer some
        → Goes dealer known some items → (changes some ≡ []) ⊎ (is_ended known ≡ false)
    by_goes some items same (quiet none no_items) = inl (same ∙ none)
    by_goes some items same (takes says lives) = inr lives
    by_goes some items same (late none ended) = inl (same ∙ none)

    pub mine_opens : (venue : AuditTrail) → venue.facts ≡ facts → (by : Actor) (d : Duty)
        → DutyOk config by d venue → is_met config facts by d ≡ true → by ≡ actor.Firm dealer
        → TakesOpen (duty_effect config facts by d)
    mine_opens venue at_facts by (duty.Unpost at quote moment) ok fit one =
        subst (λ (a : Actor). TakesOpen (duty_effect config facts a (duty.Unpost at quote moment))) (sym one)
        (unpost_takes at quote moment).takes_open
    mine_opens venue at_facts by (duty.Post at quote price until moment) ok fit one =
        by_goes (added (duty_effect config facts by (duty.Post at quote price until moment))) _
        (subst (λ (a : Actor). changes (added (duty_effect config facts a (duty.Post at quote price until moment)))
        ≡ answers_in dealer (added (duty_effect config facts a (duty.Post at quote price until moment)))) (sym one)
        (same_changes dealer _ (duty_adds IsNoUnpost config facts room (actor.Firm dealer)
        (duty.Post at quote price until moment) (λ found row_is. tt)).each))
        (turn_mine dealer config row is room facts venue at_facts by (duty.Post at quote price until moment) ok fit one)
    mine_opens venue at_facts by (duty.Decline at moment) ok fit one =
        by_goes (added (duty_effect config facts by (duty.Decline at moment))) _
        (subst (λ (a : Actor). changes (added (duty_effect config facts a (duty.Decline at moment)))
        ≡ answers_in dealer (added (duty_effect config facts a (duty.Decline at moment)))) (sym one)
        (same_changes dealer _ (duty_adds IsNoUnpost config facts room (actor.Firm dealer)
        (duty.Decline at moment) (λ found row_is. tt)).each))
        (turn_mine dealer config row is room facts venue at_facts by (duty.Decline at moment) ok fit one)
    mine_opens venue at_facts by other ok fit one = inl (quiet_none by other tt)
