-- The facts of each place after some more at one, and the places of a replay that stand there.
use Rattle.step_replay.proofs.Common.{◌≡◌, ℕ, ◌==◌, Bool, true, false, List, ◌++◌, map, refl, ap}
use Rattle.step_replay.proofs.Common.{◌∙◌, subst, arith, ◌+◌, [], ◌∷◌, filter_map, length, Option}
use Rattle.step_replay.proofs.Common.{Some, sym, ap₂, nat_tests, slice_get, option_to_list}
use Rattle.step_replay.proofs.Common.{with_item, filter_map-append, DeskState, Settled}
use Rattle.step_replay.proofs.Common.{Configuration, dealer_numbered, DealerRow, InvestorRow}
use Rattle.step_replay.proofs.Common.{DeskEvents, with_event, DealerEvent, DealerEntry, book_by}
use Rattle.step_replay.proofs.Common.{rooms_by, sent_by, entries_of, Fact, AtDealer, of_dealer}
use Rattle.step_replay.proofs.Common.{of_room, of_investor, room_stays, investor_stays, own_trail}
use Rattle.step_replay.proofs.Common.{room_at_dealer, desk_with, facts_grown, desk_of, DealerIs}
use Rattle.step_replay.proofs.Common.{DealerStands, InvestorStands, RoomIs, Stands, WordsStand}
use Rattle.step_replay.proofs.Common.{slots, word_is, DealerPlace, InvestorPlace, Floor}
use Rattle.step_replay.proofs.Common.{market_of, InvestorEntry}
use Rattle.step_replay.specs.InvestorEvents.{events_of}
use Rattle.step_replay.specs.NotedTrail.{NotedAs}
use Rattle.dealer_desk.specs.DealerOutput.{after_event, event_message, moment_of, shown_room}
use Rattle.step_replay.specs.PlaceLemmas.{dealer_grown, dealer_stays, other_trail}
use Rattle.step_replay.specs.PlaceLemmas.{investor_at_dealer}
use Rattle.step_replay.specs.DealerGrowth.{desk_push, sent_is, sent_grown, rooms_grown}
use Rattle.step_replay.proofs.LiftingLemmas.{IsDueSo, dues_after_event, within_after_event}
use Rattle.step_replay.proofs.MatchLemmas.{as_many, kept, changed}

module _ (facts : List Fact) (number : ℕ) (added : List DealerEntry) where
  -- the facts with these more of a dealer
  abbrev pub with_dealers : List Fact
  with_dealers = facts ++ map (AtDealer number) added

  pub own_dealers : of_dealer number with_dealers ≡ of_dealer number facts ++ added
  own_dealers =
      dealer_grown number facts (map (AtDealer number) added)
      ∙ ap (λ l. of_dealer number facts ++ l) (own_trail number added)

  pub other_dealers : (other : ℕ) → (number == other) ≡ false
      → of_dealer other with_dealers ≡ of_dealer other facts
  other_dealers other differs =
      dealer_stays other facts (map (AtDealer number) added) (other_trail other number differs added)

  -- what is kept of the dealer's own trail is kept of each dealer's
  pub all_dealers : {V : Type 0} (f : List DealerEntry → V)
      → f (of_dealer number facts ++ added) ≡ f (of_dealer number facts)
      → (other : ℕ) → f (of_dealer other with_dealers) ≡ f (of_dealer other facts)
  all_dealers f own other = by_test (number == other) refl
    where
      by_test : (same : Bool) → (number == other) ≡ same
          → f (of_dealer other with_dealers) ≡ f (of_dealer other facts)
      by_test true test =
          let equal : number ≡ other = grind (arith, nat_tests) in
          subst (λ (n : ℕ). f (of_dealer n with_dealers) ≡ f (of_dealer n facts)) equal
          (ap f own_dealers ∙ own)
      by_test false test = ap f (other_dealers other test)

-- as many places as rows
pub dealer_count : (config : Configuration) (facts : List Fact) (floor : Floor)
    → Stands config facts floor → length floor.dealers.items ≡ length config.dealers
dealer_count config facts floor stands =
    as_many (DealerIs config facts) 0 config.dealers floor.dealers.items stands.dealers_are

-- A dealer's place after one event more.

one_shown : (more : DealerEvent)
    → filter_map shown_room (more ∷ []) ≡ option_to_list (shown_room more)
one_shown more = grind arith

pub event_stands : (config : Configuration) (number : ℕ) (row : DealerRow)
    (trail : List DealerEntry) (place : DealerPlace) (desk : DeskEvents) (more : DealerEvent)
    → DealerStands config number row trail place → desk ≡ with_event place.desk more
    → IsDueSo config.date row trail more
    → DealerStands config number row (trail ++ entries_of config.date row trail more)
    (record place { desk = desk })
event_stands config number row trail place desk more before is due_so =
    subst (λ (d : DeskEvents). DealerStands config number row
    (trail ++ entries_of config.date row trail more) (record place { desk = d })) (sym is)
    (record {
      date_is = before.date_is;
      row_is = before.row_is;
      state_is = desk_push config.date row place.desk.events more
          ∙ ap (λ (state : DeskState). after_event config.date row state more) before.state_is
          ∙ ap₂ desk_with (sym (facts_grown config.date row trail more))
          (sent_is config.date row (sent_by trail) (moment_of more)
          (event_message config.date row (book_by trail) more)
          ∙ sym (sent_grown config.date row trail more));
      rooms_are = filter_map-append shown_room place.desk.events (more ∷ [])
          ∙ ap (λ l. l ++ filter_map shown_room (more ∷ [])) before.rooms_are
          ∙ ap (λ l. rooms_by trail ++ l) (one_shown more)
          ∙ sym (rooms_grown config.date row trail more);
      first_is = before.first_is;
      dues_are = dues_after_event config.date row trail place before.dues_are before.are_within
          more due_so;
      are_within = within_after_event config.date row trail place before.dues_are
          before.are_within more;
    })

-- Where a dealer's place changes, and the words with it.

-- facts that say nothing of an investor, nor of its rooms
pub record NotOf (number : ℕ) (more : List Fact) : Type 0 where
  pub trail : of_investor number more ≡ []
  pub rooms : (n : ℕ) → of_room (record { investor = number; n = n }) more ≡ []

investor_kept : (config : Configuration) (facts more : List Fact) (number : ℕ) (row : InvestorRow)
    (place : InvestorPlace) → NotOf number more → InvestorStands config facts number row place
    → InvestorStands config (facts ++ more) number row place
investor_kept config facts more number row place none stands = record {
  market_is = stands.market_is;
  events_are = stands.events_are
      ∙ ap (λ (l : List InvestorEntry). events_of l) (sym (investor_stays number facts more none.trail));
  state_is = stands.state_is ∙ ap desk_of (sym (investor_stays number facts more none.trail));
  notes_are = subst (NotedAs (market_of config number row) place.desk.events)
      (sym (investor_stays number facts more none.trail)) stands.notes_are;
  rooms_are = kept (RoomIs facts number) (RoomIs (facts ++ more) number) 1 (slots row)
      place.rooms.items
      (λ n slot events least known. known
      ∙ sym (room_stays (record { investor = number; n = n }) facts more (none.rooms n)))
      stands.rooms_are;
}

pub at_dealer_stands : {config : Configuration} {facts : List Fact} {floor : Floor} {number : ℕ}
    {row : DealerRow} {place : DealerPlace} (added : List DealerEntry)
    (words : List (Option Settled)) → Stands config facts floor
    → dealer_numbered config number ≡ Some row
    → DealerStands config number row (of_dealer number facts ++ added) place
    → length words ≡ length floor.words → WordsStand config (with_dealers facts number added) words
    → Stands config (with_dealers facts number added)
    (record floor { dealers = with_item floor.dealers number place; words = words })
at_dealer_stands {config} {facts} {floor} {number} {row} {place} added words before is stands count
    said =
    let now = with_dealers facts number added in
    let first : number ≡ 0 + number = omega arith in
    record {
      config_is = before.config_is;
      dealers_are = changed (DealerIs config facts) (DealerIs config now) 0 config.dealers
          floor.dealers.items number number row place first is
          (subst (λ l. DealerStands config number row l place) (sym (own_dealers facts number added))
          stands)
          (λ n r p differs stood. subst (λ l. DealerStands config n r l p)
          (sym (other_dealers facts number added n differs)) stood)
          before.dealers_are;
      investors_are = kept (InvestorStands config facts) (InvestorStands config now)
          (length config.dealers) config.investors floor.investors.items
          (λ n r p least stood. investor_kept config facts (map (AtDealer number) added) n r p
          (record {
            trail = investor_at_dealer n number added;
            rooms = λ k. room_at_dealer (record { investor = n; n = k }) number added;
          }) stood)
          before.investors_are;
      word_count = count ∙ before.word_count;
      words_are = said;
      owners_are = before.owners_are;
    }

-- Where an investor's place changes, with its trail or the facts of its rooms.
pub at_investor_stands : {config : Configuration} {facts : List Fact} {floor : Floor} {number : ℕ}
    {row : InvestorRow} (more : List Fact) (index : ℕ) (place : InvestorPlace)
    → number ≡ length config.dealers + index → slice_get config.investors index ≡ Some row
    → Stands config facts floor → ((n : ℕ) → of_dealer n more ≡ [])
    → ((n : ℕ) → (number == n) ≡ false → NotOf n more)
    → InvestorStands config (facts ++ more) number row place
    → Stands config (facts ++ more)
    (record floor { investors = with_item floor.investors index place })
at_investor_stands {config} {facts} {floor} {number} {row} more index place at is before dealers
    others stands =
    let now : List Fact = facts ++ more in
    let same : (n : ℕ) → of_dealer n now ≡ of_dealer n facts =
    λ n. dealer_stays n facts more (dealers n) in
    record {
      config_is = before.config_is;
      dealers_are = kept (DealerIs config facts) (DealerIs config now) 0 config.dealers
          floor.dealers.items
          (λ n r p least stood. subst (λ l. DealerStands config n r l p) (sym (same n)) stood)
          before.dealers_are;
      investors_are = changed (InvestorStands config facts) (InvestorStands config now)
          (length config.dealers) config.investors floor.investors.items index number row place at is
          stands
          (λ n r p differs stood. investor_kept config facts more n r p (others n differs) stood)
          before.investors_are;
      word_count = before.word_count;
      words_are = λ n r q known within. before.words_are n r q known within
          ∙ sym (ap (λ l. word_is l q) (same n));
      owners_are = before.owners_are;
    }
