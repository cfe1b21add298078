-- The live quote of a dealer on a request, and what the notice of a hit names.
use Rattle.laws_days.proofs.Common.{Bool, List, None, Option, Some, ℕ, [], ap, eq-eqb, false}
use Rattle.laws_days.proofs.Common.{filter, find, inl, inr, is_none, is_some, length, map}
use Rattle.laws_days.proofs.Common.{option_map, option_to_list, refl, sym, true, ◌==◌, ◌∙◌, ◌∷◌}
use Rattle.laws_days.proofs.Common.{◌≡◌, ◌≤◌, and_from, cases_Bool, eqb-true, or_parts, same_Some}
use Rattle.laws_days.proofs.Common.{list_any, slice_get, RoomRef, Configuration, DealerRow}
use Rattle.laws_days.proofs.Common.{DealerFact, Quoted, Told, Withdrawn, request_numbered, tells}
use Rattle.laws_days.proofs.Common.{closable, desk_after, untold, AcceptedQuote, DealerEvent}
use Rattle.laws_days.proofs.Common.{StandingQuote, StandingRequest, DealerEntry, Sent, book_by}
use Rattle.laws_days.proofs.Common.{facts_of, message_by, was_lifted, In, Fact, of_dealer}
use Rattle.laws_days.proofs.Common.{NamesLiftedQuote, next_sent}
use Rattle.market_terms.specs.declared.closes.Close.TheVariants as closes
use Rattle.dealer_desk.specs.DealerFacts.{book_of, ends, first_said, is_live_on, live_quote_on}
use Rattle.dealer_desk.specs.DealerFacts.{standing_quote, standings}
use Rattle.dealer_desk.specs.DealerOutput.{event_message, next_message, notice_of, quoted_price}
use Rattle.dealer_desk.specs.DeskLaws.{withdraws}
use Rattle.dealer_desk.specs.declared.events.DealerEvent.TheVariants as event
use Rattle.step_replay.specs.DealerTrail.{sent_by}
use Rattle.laws_days.proofs.ListLemmas.{found_passes, in_filter, only_one, some_of}
use Rattle.laws_days.proofs.ShownRequests.{untold_is}
use Rattle.laws_days.proofs.VenueInvariant.{DeskOk}
use Rattle.laws_days.proofs.VenueParts.{LiftedIn, number_for}

-- The quotes of a dealer on one request: at most one is live.
abbrev pub LoneQuotes : Type 0
LoneQuotes = (date : List ℕ) (row : DealerRow) (events : List DealerEvent) (request : ℕ)
    → length (filter (is_live_on request) (book_of (desk_after date row events).facts).quotes) ≤ 1

-- The live quote on a request.

-- what stands in the quotes of a list stands with one fact before it
standings_more : (fact : DealerFact) (facts : List DealerFact) (own : StandingQuote)
    → In own (standings facts) → In own (standings (fact ∷ facts))
standings_more (Quoted quote) facts own is = inr is
standings_more fact facts own is = is

-- a quote that is neither withdrawn nor closed has not ended
not_ended : (own : AcceptedQuote) (facts : List DealerFact)
    → list_any (withdraws own.number) facts ≡ false → list_any (tells own.request) facts ≡ false
    → first_said (ends own) facts ≡ None
not_ended own [] still untold = refl
not_ended own (Withdrawn quote how ∷ facts) still untold =
    let parts = or_parts (quote == own.number) (list_any (withdraws own.number) facts) still in
    rw (parts.0) (not_ended own facts parts.1 untold)
not_ended own (Told request close moment ∷ facts) still untold =
    let parts = or_parts (request == own.request) (list_any (tells own.request) facts) untold in
    rw (parts.0) (not_ended own facts still parts.1)
not_ended own (fact ∷ facts) still untold = not_ended own facts still untold

-- and so it stands
live_stands : (own : AcceptedQuote) (facts : List DealerFact) → In (Quoted own) facts
    → list_any (withdraws own.number) facts ≡ false → list_any (tells own.request) facts ≡ false
    → (standing : StandingQuote) × In standing (standings facts) × (standing.quote ≡ own)
    × (standing.end ≡ None)
live_stands own [] is still untold = absurd is
live_stands own (fact ∷ facts) (inl is) still untold =
    let live = not_ended own facts (or_parts _ _ still).1 (or_parts _ _ untold).1 in
    rw is (standing_quote own facts, inl refl, refl, live)
live_stands own (fact ∷ facts) (inr is) still untold =
    let later = live_stands own facts is (or_parts _ _ still).1 (or_parts _ _ untold).1 in
    (later.0, standings_more fact facts later.0 later.1, later.2, later.3)

-- the one that passes a test is found

find_filtered : {A : Type 0} (test : A → Bool) (xs : List A)
    → find test xs ≡ slice_get (filter test xs) 0
find_filtered test [] = refl
find_filtered test (x ∷ xs) = elim (cases_Bool (test x)) [
  | inl passes ↦ rw passes refl
  | inr fails ↦ rw fails (find_filtered test xs)
]

lone_found : {A : Type 0} (test : A → Bool) (x : A) (xs : List A) → In x xs → test x ≡ true
    → length (filter test xs) ≤ 1 → find test xs ≡ Some x
lone_found test x xs is passes few =
    rw (find_filtered test xs, only_one x (filter test xs) (in_filter test x xs is passes) few) refl

module _ (lone : LoneQuotes) (config : Configuration) (facts : List Fact) (dealer : ℕ)
    (row : DealerRow) (desk : DeskOk config facts dealer row) where
  -- the trail of the dealer
  abbrev pub trail : List DealerEntry
  trail = of_dealer dealer facts

  -- the notice of a hit, of a request that was not closed, names the lifted quote: the live one
  pub hit_names : (room : RoomRef) (request moment : ℕ) → LiftedIn facts dealer room
      → number_for facts dealer room ≡ Some request
      → is_some (closable (book_by trail) request) ≡ true
      → NamesLiftedQuote config.date row trail request moment
      (map Sent (option_to_list (message_by config.date row trail
      (event.Told request closes.Hit moment))))
  unfolding event_message live_quote_on closable request_numbered
  hit_names room request moment hit is may =
      record {
        own = standing.0;
        notice = notice_of (book_by trail) closes.Hit found.0;
        live = live;
        lifted = ap (λ (q : AcceptedQuote). was_lifted trail q.number) standing.2 ∙ lifted;
        written = ap (option_map (notice_of (book_by trail) closes.Hit)) found.1;
        named = rw number_is (ap (option_map quoted_price) live);
        sent = ap (λ (o : Option StandingRequest). next_sent (map Sent (option_to_list
            (option_map (next_message config.date row (sent_by trail) moment)
            (option_map (notice_of (book_by trail) closes.Hit) o))))) found.1;
      }
    where
      request_is : hit.quoted.own.request ≡ request
      request_is = same_Some hit.quoted.own.request request (sym hit.quoted.request_is ∙ is)

      lifted : was_lifted trail hit.quoted.own.number ≡ true
      lifted = ap (was_lifted trail) hit.quoted.number_is ∙ hit.lifted

      standing : (standing : StandingQuote) × In standing (standings (facts_of trail))
          × (standing.quote ≡ hit.quoted.own) × (standing.end ≡ None)
      standing =
          live_stands hit.quoted.own (facts_of trail) hit.quoted.quoted
          (rw lifted at (desk.one_of hit.quoted.own.number))
          (rw request_is (desk.noticed.told_as request ∙ (untold_is _ may).2))

      live : live_quote_on (book_by trail) request ≡ Some standing.0
      live =
          let few = rw desk.seen.state_is at (lone config.date row desk.seen.events request) in
          let asked = ap (λ (q : AcceptedQuote). q.request) standing.2 ∙ request_is in
          lone_found (is_live_on request) standing.0 (standings (facts_of trail)) standing.1
          (and_from _ _ (ap is_none standing.3) (eq-eqb _ _ asked)) few

      found : (request_too : StandingRequest)
          × (closable (book_by trail) request ≡ Some request_too)
      found = some_of (closable (book_by trail) request) may

      -- the request that may be closed
      number_is : found.0.number ≡ request
      number_is =
          eqb-true found.0.number request
          (found_passes (λ (other : StandingRequest). other.number == request)
          (book_by trail).requests found.0 (sym (untold_is _ may).0 ∙ found.1))
