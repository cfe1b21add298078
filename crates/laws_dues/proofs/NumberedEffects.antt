-- What each kind of effect adds at investors' desks, and what it leaves.
use Rattle.std.proofs.Common.{◌≡◌, ℕ, ◌+◌, ◌==◌, ◌&&◌, Bool, true, false, List, [], ◌∷◌, ◌++◌, map}
use Rattle.std.proofs.Common.{length, option_map, Option, Some, None, Result, Ok, Err}
use Rattle.std.proofs.Common.{if◌then◌else◌, refl, sym, ap, ◌∙◌, subst, arith}
use Rattle.std.proofs.lemmas.Bool.{and_parts}
use Rattle.std.proofs.lemmas.Bool.Decides.{nat_tests}
use Rattle.std.proofs.lemmas.List.{append-nil}
use Rattle.std.proofs.lemmas.List.Elements.{filter_map-append}
use Rattle.market_terms.specs.declared.closes.HitRefusal.{HitRefusal}
use Rattle.market_terms.specs.declared.duties.Duty.{Duty}
use Rattle.market_terms.specs.declared.rooms.RoomRef.{RoomRef}
use Rattle.venue_rows.specs.Rows.{Configuration, dealer_numbered, has_room}
use Rattle.venue_rows.specs.declared.dealer_rows.DealerRow.{DealerRow}
use Rattle.venue_rows.specs.declared.investor_rows.InvestorRow.{InvestorRow}
use Rattle.investor_desk.specs.InvestorDesk.{market_of}
use Rattle.investor_desk.specs.InvestorFacts.{InvestorBook, InvestorFact}
use Rattle.investor_desk.specs.InvestorOutput as investor_output
use Rattle.investor_desk.specs.InvestorOutput.{event_messages, moment_of, written_from}
use Rattle.investor_desk.specs.declared.events.InvestorEvent.{InvestorEvent}
use Rattle.request_room.specs.Book.{event_facts}
use Rattle.request_room.specs.RoomFacts.{RoomFact}
use Rattle.request_room.specs.declared.ends.End.{End}
use Rattle.request_room.specs.declared.events.RoomEvent.{RoomEvent}
use Rattle.venue_steps.specs.Dealers.{Dealer, QuoteRef, acting_dealer, dealer_at, dealer_of}
use Rattle.venue_steps.specs.declared.actors.Actor.{Actor}
use Rattle.venue_steps.specs.declared.actors.Actor.TheVariants as actor
use Rattle.step_replay.specs.Actions.{Effect, at_market, done_by, in_room, lifting, nothing}
use Rattle.step_replay.specs.DealerTrail.{DealerEntry}
use Rattle.step_replay.specs.InvestorTrail as investor_trail
use Rattle.step_replay.specs.InvestorTrail.{InvestorEntry, entries_of, fact_in}
use Rattle.step_replay.specs.PlaceLemmas.{investor_at_dealer, investor_grown, investor_in_room}
use Rattle.step_replay.specs.PlaceLemmas.{other_investor, own_investor}
use Rattle.step_replay.specs.VenueFacts.{AtDealer, AtInvestor, Fact, InRoom, of_investor, of_room}
use Rattle.laws_dues.proofs.RoomCounts.{HasRoom}
use Rattle.laws_dues.proofs.NumberedDesks.{FactsFew, plain_few}
use Rattle.laws_dues.proofs.NumberedDuties.{AreFew, none_few}

-- the facts of an investor's desk
abbrev pub desk_facts : List Fact → ℕ → List InvestorFact
desk_facts facts investor = investor_trail.facts_of (of_investor investor facts)

pub desk_grown : (facts more : List Fact) (investor : ℕ)
    → desk_facts (facts ++ more) investor ≡ desk_facts facts investor ++ desk_facts more investor
desk_grown facts more investor =
    ap investor_trail.facts_of (investor_grown investor facts more)
    ∙ filter_map-append fact_in (of_investor investor facts) (of_investor investor more)

-- what an event adds to the facts

facts_in : (facts : List InvestorFact)
    → investor_trail.facts_of (map investor_trail.AtDesk facts) ≡ facts
facts_in [] = refl
facts_in (fact ∷ facts) = ap (λ l. fact ∷ l) (facts_in facts)

none_in : (messages : List (List ℕ))
    → investor_trail.facts_of (map investor_trail.Sent messages) ≡ []
none_in [] = refl
none_in (message ∷ messages) = none_in messages

facts_added : (facts : List InvestorFact) (messages : List (List ℕ))
    → investor_trail.facts_of (map investor_trail.AtDesk facts ++ map investor_trail.Sent messages)
    ≡ facts
facts_added facts messages =
    rw (filter_map-append, facts_in facts, none_in messages, append-nil) refl

module _ (config : Configuration) (facts : List Fact) (by : Actor) where
  -- the book of an investor's desk
  abbrev pub book_at : ℕ → InvestorBook
  book_at investor = investor_trail.book_by (of_investor investor facts)

  -- what an effect adds and leaves: at most so many duties that bring quotes, and so many quotes of
  -- each dealer to any investor
  pub record EffectNumbers (most : ℕ) (shows : List ℕ → ℕ) (effect : Effect) : Type 0 where
    pub left : AreFew config by most effect.duties
    pub shown : (investor : ℕ) → FactsFew config.dealers shows (desk_facts effect.facts investor)

  -- an effect elsewhere
  elsewhere : (most : ℕ) (shows : List ℕ → ℕ) (effect : Effect)
      → ((investor : ℕ) → of_investor investor effect.facts ≡ [])
      → AreFew config by most effect.duties → EffectNumbers most shows effect
  elsewhere most shows effect none left = record {
    left = left;
    shown = λ investor.
        subst (λ (l : List InvestorEntry).
        FactsFew config.dealers shows (investor_trail.facts_of l)) (sym (none investor))
        (plain_few config.dealers shows [] tt);
  }

  pub nothing_numbers : (most : ℕ) (shows : List ℕ → ℕ) → EffectNumbers most shows nothing
  unfolding of_investor
  nothing_numbers most shows =
      elsewhere most shows nothing (λ investor. refl) (none_few config by most)

  pub when_numbers : (most : ℕ) (shows : List ℕ → ℕ) (b : Bool) (effect : Effect)
      → (b ≡ true → EffectNumbers most shows effect)
      → EffectNumbers most shows (if b then effect else nothing)
  when_numbers most shows true effect numbers = numbers refl
  when_numbers most shows false effect numbers = nothing_numbers most shows

  -- what happens in a room
  pub happened_numbers : (most : ℕ) (shows : List ℕ → ℕ) (room : RoomRef)
      (happened : List RoomFact) (duties : List Duty) → AreFew config by most duties
      → EffectNumbers most shows (record {
        facts = map (InRoom room) happened;
        duties = duties;
      })
  happened_numbers most shows room happened duties left =
      elsewhere most shows (record { facts = map (InRoom room) happened; duties = duties })
      (λ investor. investor_in_room investor room happened) left

  pub in_room_numbers : (most : ℕ) (shows : List ℕ → ℕ) (room : RoomRef) (may : Bool)
      (event : RoomEvent) (duties : List Duty) → (HasRoom config room → AreFew config by most duties)
      → EffectNumbers most shows (in_room config facts room may event duties)
  in_room_numbers most shows room may event duties left =
      when_numbers most shows (has_room config room.investor room.n && may)
      (record { facts = map (InRoom room) (event_facts (of_room room facts) event); duties = duties })
      (λ test. happened_numbers most shows room (event_facts (of_room room facts) event) duties
      (left (and_parts (has_room config room.investor room.n) may test).0))

  pub at_dealer_numbers : (most : ℕ) (shows : List ℕ → ℕ) (number : ℕ) (entries : List DealerEntry)
      (duties : List Duty) → AreFew config by most duties
      → EffectNumbers most shows (record {
        facts = map (AtDealer number) entries;
        duties = duties;
      })
  at_dealer_numbers most shows number entries duties left =
      elsewhere most shows (record { facts = map (AtDealer number) entries; duties = duties })
      (λ investor. investor_at_dealer investor number entries) left

  -- a hit
  lifted_none : (investor : ℕ) (hit : Option QuoteRef) (outcome : Result End HitRefusal)
      → of_investor investor (lifting hit outcome) ≡ []
  unfolding of_investor
  lifted_none investor None outcome = refl
  lifted_none investor (Some hit) (Err refused) = refl
  lifted_none investor (Some hit) (Ok award) = refl

  pub hit_numbers : (most : ℕ) (shows : List ℕ → ℕ) (hit : Option QuoteRef)
      (outcome : Result End HitRefusal) (room : RoomRef) (happened : List RoomFact)
      (duties : List Duty) → AreFew config by most duties
      → EffectNumbers most shows (record {
        facts = lifting hit outcome ++ map (InRoom room) happened;
        duties = duties;
      })
  hit_numbers most shows hit outcome room happened duties left =
      elsewhere most shows (record {
        facts = lifting hit outcome ++ map (InRoom room) happened;
        duties = duties;
      })
      (λ investor. investor_grown investor (lifting hit outcome) (map (InRoom room) happened)
      ∙ ap (λ (l : List InvestorEntry). l ++ of_investor investor (map (InRoom room) happened))
      (lifted_none investor hit outcome)
      ∙ investor_in_room investor room happened) left

  -- an event at an investor's desk
  pub market_numbers : (most : ℕ) (shows : List ℕ → ℕ) (firm : ℕ) (row : InvestorRow)
      (event : InvestorEvent) (duties : List Duty) → AreFew config by most duties
      → FactsFew config.dealers shows
      (investor_output.event_facts (market_of config firm row) (book_at firm) event)
      → EffectNumbers most shows (at_market facts (market_of config firm row) event duties)
  unfolding entries_of
  market_numbers most shows firm row event duties left added = record {
    left = left;
    shown = λ investor. by_test investor (firm == investor) refl;
  }
    where
      own : desk_facts (map (AtInvestor firm)
          (entries_of (market_of config firm row) (of_investor firm facts) event)) firm
          ≡ investor_output.event_facts (market_of config firm row) (book_at firm) event
      own =
          ap investor_trail.facts_of (own_investor firm
          (entries_of (market_of config firm row) (of_investor firm facts) event))
          ∙ facts_added (investor_output.event_facts (market_of config firm row) (book_at firm) event)
          (written_from (market_of config firm row)
          (length (investor_trail.sent_by (of_investor firm facts)) + 1) (moment_of event)
          (event_messages (market_of config firm row) (book_at firm) event))

      by_test : (investor : ℕ) (b : Bool) → (firm == investor) ≡ b
          → FactsFew config.dealers shows (desk_facts (map (AtInvestor firm)
          (entries_of (market_of config firm row) (of_investor firm facts) event)) investor)
      by_test investor true test =
          let same : firm ≡ investor = grind (arith, nat_tests) in
          subst (λ (i : ℕ). FactsFew config.dealers shows (desk_facts (map (AtInvestor firm)
          (entries_of (market_of config firm row) (of_investor firm facts) event)) i)) same
          (subst (FactsFew config.dealers shows) (sym own) added)
      by_test investor false test =
          subst (λ (l : List InvestorEntry).
          FactsFew config.dealers shows (investor_trail.facts_of l))
          (sym (other_investor investor firm test
          (entries_of (market_of config firm row) (of_investor firm facts) event)))
          (plain_few config.dealers shows [] tt)

  -- Who acts.

  dealer_numbers : (most : ℕ) (shows : List ℕ → ℕ) (number : ℕ) (action : Dealer → Effect)
      → ((row : DealerRow) → dealer_numbered config number ≡ Some row
      → EffectNumbers most shows (action (dealer_of number row)))
      → EffectNumbers most shows (done_by (dealer_at config number) action)
  dealer_numbers most shows number action numbers = by_found (dealer_numbered config number) refl
    where
      by_found : (found : Option DealerRow) → dealer_numbered config number ≡ found
          → EffectNumbers most shows (done_by (option_map (dealer_of number) found) action)
      by_found None found = nothing_numbers most shows
      by_found (Some row) found = numbers row found

  pub acting_numbers : (most : ℕ) (shows : List ℕ → ℕ) (action : Dealer → Effect)
      → ((number : ℕ) (row : DealerRow) → by ≡ actor.Firm number
      → dealer_numbered config number ≡ Some row
      → EffectNumbers most shows (action (dealer_of number row)))
      → EffectNumbers most shows (done_by (acting_dealer config by) action)
  acting_numbers most shows action numbers = by_actor by refl
    where
      by_actor : (one : Actor) → by ≡ one
          → EffectNumbers most shows (done_by (acting_dealer config one) action)
      by_actor (actor.Firm number) is =
          dealer_numbers most shows number action (λ row found. numbers number row is found)
      by_actor actor.Clock is = nothing_numbers most shows
