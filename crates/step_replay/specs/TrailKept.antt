-- What is kept of a dealer's trail by each of the five kinds of what can happen there is kept by an
-- event at any desk and in any room.
use Rattle.std.proofs.Common.{◌≡◌, ℕ, ◌==◌, Bool, true, false, ◌&&◌, nat_le, List, [], ◌∷◌, ◌++◌}
use Rattle.std.proofs.Common.{map, Some, is_some, refl, sym, ap, ◌∙◌, subst, arith}
use Rattle.std.proofs.lemmas.Bool.Decides.{nat_tests}
use Rattle.std.proofs.lemmas.List.{append-nil}
use Rattle.std.proofs.lemmas.List.Elements.{filter_map-append}
use Rattle.std.proofs.lemmas.Option.{same_Some}
use Rattle.market_terms.specs.declared.asks.Ask.{Ask}
use Rattle.market_terms.specs.declared.closes.Close.{Close}
use Rattle.market_terms.specs.declared.duties.Duty.{Duty}
use Rattle.market_terms.specs.declared.rooms.RoomRef.{RoomRef}
use Rattle.venue_rows.specs.Rows.{Configuration, dealer_numbered}
use Rattle.venue_rows.specs.declared.dealer_rows.DealerRow.{DealerRow}
use Rattle.dealer_desk.specs.DealerOutput.{closable}
use Rattle.dealer_desk.specs.declared.events.DealerEvent.{DealerEvent}
use Rattle.dealer_desk.specs.declared.events.DealerEvent.TheVariants as at_desk
use Rattle.investor_desk.specs.InvestorRules.{InvestorMarket}
use Rattle.investor_desk.specs.declared.events.InvestorEvent.{InvestorEvent}
use Rattle.request_room.specs.RoomFacts.{RoomFact}
use Rattle.step_replay.specs.DealerTrail.{DealerEntry, Lifted, entries_of, was_withdrawn, book_by}
use Rattle.step_replay.specs.VenueFacts.{Fact, InRoom, of_dealer}
use Rattle.step_replay.specs.VenueFacts.{entry_at_dealer}
use Rattle.step_replay.specs.PlaceLemmas.{own_trail, other_trail, trail_in_room}
use Rattle.step_replay.specs.PlaceLemmas.{trail_at_investor}
use Rattle.step_replay.specs.ActionKinds.{Comes, dropped, said, shown, told}
use Rattle.step_replay.specs.Actions.{Effect, Dealer, dealer_of, at_dealer, at_market, nothing}
use Rattle.step_replay.specs.Actions.{settlement_of, drop_at}
use Rattle.dealer_desk.specs.DealerRules.{dealer_verdict}

-- What is kept of the trails of a dealer with this row: it stands after each of the five kinds of
-- what can happen there.
pub record IsKept (date : List ℕ) (row : DealerRow) (P : List DealerEntry → Type 0) : Type 0 where
  pub own : (trail : List DealerEntry) (moment : ℕ) (bytes : List ℕ) → P trail
      → P (trail ++ entries_of date row trail (at_desk.Received moment bytes
      (settlement_of trail (dealer_verdict date row (book_by trail) moment bytes))))
  pub drop : (trail : List DealerEntry) (last moment : ℕ) → P trail
      → P (trail ++ entries_of date row trail (drop_at trail last moment))
  pub shown : (trail : List DealerEntry) (room : RoomRef) (ask : Ask) (moment : ℕ) → P trail
      → P (trail ++ entries_of date row trail (at_desk.Shown room ask moment))
  pub told : (trail : List DealerEntry) (request : ℕ) (close : Close) (moment : ℕ)
      → is_some (closable (book_by trail) request) ≡ true → P trail
      → P (trail ++ entries_of date row trail (at_desk.Told request close moment))
  pub lifted : (trail : List DealerEntry) (quote : ℕ)
      → (nat_le 1 quote && nat_le quote row.quotes) ≡ true → was_withdrawn trail quote ≡ false
      → P trail → P (trail ++ Lifted quote ∷ [])

module _ (config : Configuration) (own : ℕ) (row : DealerRow)
    (is_dealer : dealer_numbered config own ≡ Some row) (P : List DealerEntry → Type 0)
    (kept : IsKept config.date row P) where
  -- the trail of the dealer with this number
  abbrev pub trail : List Fact → List DealerEntry
  trail facts = of_dealer own facts

  -- what an action adds leaves the view at the desk of the dealer's trail
  abbrev pub Keeps : List Fact → Effect → Type 0
  Keeps facts effect =
      P (trail facts) → P (trail (facts ++ effect.facts))

  -- by what it adds for the dealer
  pub keeps_by : (facts : List Fact) (effect : Effect) (added : List DealerEntry)
      → trail effect.facts ≡ added
      → (P (trail facts) → P (trail facts ++ added))
      → Keeps facts effect
  unfolding of_dealer
  keeps_by facts effect added is step before =
      subst (P)
      (sym (filter_map-append (entry_at_dealer own) facts effect.facts
      ∙ ap (λ l. trail facts ++ l) is))
      (step before)

  -- Elsewhere.

  -- what adds nothing for the dealer
  elsewhere : (facts : List Fact) (effect : Effect) → trail effect.facts ≡ [] → Keeps facts effect
  elsewhere facts effect is =
      keeps_by facts effect [] is
      (λ before. subst (P) (sym (append-nil (trail facts))) before)

  pub nothing_keeps : (facts : List Fact) → Keeps facts nothing
  unfolding of_dealer
  nothing_keeps facts = elsewhere facts nothing refl

  pub happened_keeps : (facts : List Fact) (room : RoomRef) (happened : List RoomFact)
      (duties : List Duty)
      → Keeps facts (record { facts = map (InRoom room) happened; duties = duties })
  happened_keeps facts room happened duties =
      elsewhere facts (record { facts = map (InRoom room) happened; duties = duties })
      (trail_in_room own room happened)

  pub market_keeps : (facts : List Fact) (market : InvestorMarket) (event : InvestorEvent)
      (duties : List Duty) → Keeps facts (at_market facts market event duties)
  market_keeps facts market event duties =
      elsewhere facts (at_market facts market event duties) (trail_at_investor own market.firm _)

  -- At a dealer's desk.

  own_keeps : (facts : List Fact) (event : DealerEvent) (duties : List Duty)
      → (P (trail facts)
      → P (trail facts ++ entries_of config.date row (trail facts) event))
      → Keeps facts (at_dealer config facts (dealer_of own row) event duties)
  own_keeps facts event duties seen =
      keeps_by facts (at_dealer config facts (dealer_of own row) event duties)
      (entries_of config.date row (trail facts) event)
      (own_trail own (entries_of config.date row (trail facts) event)) seen

  other_keeps : (facts : List Fact) (dealer : Dealer) (event : DealerEvent) (duties : List Duty)
      → (dealer.number == own) ≡ false → Keeps facts (at_dealer config facts dealer event duties)
  other_keeps facts dealer event duties other =
      elsewhere facts (at_dealer config facts dealer event duties) (other_trail own dealer.number other _)

  -- an event that comes to the desk keeps what is kept
  comes_keeps : (now : List DealerEntry) (event : DealerEvent) → Comes config.date row now event
      → P now → P (now ++ entries_of config.date row now event)
  comes_keeps now event (said moment bytes is) before = rw is (kept.own now moment bytes before)
  comes_keeps now event (dropped last moment is) before = rw is (kept.drop now last moment before)
  comes_keeps now event (shown room ask moment is) before =
      rw is (kept.shown now room ask moment before)
  comes_keeps now event (told request close moment may is) before =
      rw is (kept.told now request close moment may before)

  pub desk_keeps : (facts : List Fact) (number : ℕ) (other : DealerRow) (event : DealerEvent)
      (duties : List Duty) → dealer_numbered config number ≡ Some other
      → Comes config.date other (of_dealer number facts) event
      → Keeps facts (at_dealer config facts (dealer_of number other) event duties)
  desk_keeps facts number other event duties found = by_test (number == own) refl
    where
      by_test : (same : Bool) → (number == own) ≡ same
          → Comes config.date other (of_dealer number facts) event
          → Keeps facts (at_dealer config facts (dealer_of number other) event duties)
      by_test false test comes = other_keeps facts (dealer_of number other) event duties test
      by_test true test comes =
          let equal : number ≡ own = grind (arith, nat_tests) in
          let row_is : row ≡ other = same_Some row other
          (sym is_dealer ∙ ap (dealer_numbered config) (sym equal) ∙ found) in
          subst (λ (dealer : Dealer). Comes config.date dealer.row (of_dealer dealer.number facts) event
          → Keeps facts (at_dealer config facts dealer event duties))
          (ap (λ (n : ℕ). dealer_of n row) (sym equal) ∙ ap (dealer_of number) row_is)
          (λ own_comes. own_keeps facts event duties (comes_keeps (trail facts) event own_comes))
          comes
