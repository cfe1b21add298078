-- The places of one side: their facts are the same without the other side, and what stands in them
-- names firms of that side alone.
use Rattle.std.proofs.Common.{◌≡◌, ◌≤◌, ℕ, Bool, List, length, take, Option, Some, None, ◌==◌, true}
use Rattle.std.proofs.Common.{false, [], ◌∷◌, filter, find, IfSome, is_none, refl, ap, ◌∙◌, subst}
use Rattle.std.proofs.Common.{arith}
use Rattle.std.specs.List.{list_any}
use Rattle.std.proofs.lemmas.Bool.{and_parts, both_ways, cond_both, eqb-true, false_from_ne_true}
use Rattle.std.proofs.lemmas.Bool.Decides.{nat_tests}
use Rattle.market_terms.specs.declared.duties.Duty.{Duty}
use Rattle.market_terms.specs.declared.duties.Duty.TheVariants as duty
use Rattle.market_terms.specs.declared.rooms.RoomRef.{RoomRef}
use Rattle.market_terms.specs.declared.rooms.TheConstants.AskedDealers.{MOST}
use Rattle.venue_rows.specs.Rows.{Configuration}
use Rattle.dealer_desk.specs.DealerOutput.{is_same_room}
use Rattle.request_room.specs.RoomFacts.{RoomFact, Opened, Posted, request_of}
use Rattle.request_room.specs.Book.{book_of, hit_checks, hit_refusal, quote_meant, takes_out}
use Rattle.request_room.specs.declared.quotes.PostedQuote.{PostedQuote}
use Rattle.venue_steps.specs.Words.{word_of}
use Rattle.venue_steps.specs.RoomSteps.{dealers_of}
use Rattle.venue_steps.specs.Placed.{desk_of_line, room_of_line}
use Rattle.venue_steps.specs.Table.{line_of}
use Rattle.venue_steps.specs.declared.actors.Actor.{Actor}
use Rattle.venue_steps.specs.declared.actors.Actor.TheVariants as actor
use Rattle.step_replay.specs.Actions.{QuoteRef, quote_with_word, quotes_of}
use Rattle.step_replay.specs.AuditTrail.{AuditTrail}
use Rattle.step_replay.specs.DealerTrail.{DealerEntry, ShownIn, room_in, rooms_by}
use Rattle.step_replay.specs.Lists.{Every}
use Rattle.step_replay.specs.VenueFacts.{Fact, AtDealer, InRoom, AtInvestor, of_dealer, of_room}
use Rattle.step_replay.specs.VenueFacts.{of_investor, entry_at_dealer, fact_in_room}
use Rattle.step_replay.specs.VenueFacts.{entry_at_investor}
use Rattle.step_replay.specs.DealerTrail as dealer_trail
use Rattle.laws_days.specs.AcceptedQuotes.{none_holds}
use Rattle.laws_days.specs.DayParts.{part}
use Rattle.laws_days.specs.KeptItems.{found_kept, every_found}
use Rattle.laws_isolation.specs.Apart.{acts_there}

-- What stays.

-- whether a fact stays: that of a place on this side
abbrev pub stays : (ℕ → Bool) → Fact → Bool
stays side (AtDealer dealer entry) = side dealer
stays side (InRoom room fact) = side room.investor
stays side (AtInvestor investor entry) = side investor

-- the day of one side
abbrev pub there : (ℕ → Bool) → AuditTrail → AuditTrail
there side trail = part (stays side) (acts_there side) trail

-- What is on one side: `own` says on which.

-- the dealers that a request names, which are few
abbrev pub AskedOn : (ℕ → Bool) → Bool → List ℕ → Type 0
AskedOn side own dealers =
    Every (λ (number : ℕ). side number ≡ own) dealers × (length dealers ≤ MOST)

-- the dealer whose quote has a word, where one has
abbrev pub OwnerOn : (ℕ → Bool) → Bool → Option QuoteRef → Type 0
OwnerOn side own found = IfSome found (λ (quote : QuoteRef). side quote.dealer ≡ own)

-- Duties.

-- the quote whose word is that of this one of an actor
abbrev pub quote_by : Configuration → Actor → ℕ → Option QuoteRef
quote_by config (actor.Firm number) quote =
    quote_with_word config (word_of (quotes_of (take number config.dealers)) quote)
quote_by config actor.Clock quote = None

-- what else a duty names
abbrev pub NamedOn : (ℕ → Bool) → Configuration → Bool → Actor → Duty → Type 0
NamedOn side config own by (duty.Open room ask dealers moment) = AskedOn side own dealers
NamedOn side config own by (duty.Show dealer room ask moment) = side room.investor ≡ own
NamedOn side config own by (duty.Post room quote price valid_until moment) =
    OwnerOn side own (quote_by config by quote)
NamedOn side config own by other = Unit {0}

-- a duty of an actor that is on one side, with all that it names
pub record IsOn (side : ℕ → Bool) (config : Configuration) (own : Bool) (by : Actor) (d : Duty)
    : Type 0 where
  pub desk_on : IfSome (desk_of_line by (line_of config d)) (λ (number : ℕ). side number ≡ own)
  pub room_on : IfSome (room_of_line (line_of config d))
      (λ (room : RoomRef). side room.investor ≡ own)
  pub named_on : NamedOn side config own by d

-- a duty in the queue of an actor is on its side; of the clock nothing is said
abbrev pub QueuedOn : (ℕ → Bool) → Configuration → Actor → Duty → Type 0
QueuedOn side config (actor.Firm firm) d = IsOn side config (side firm) (actor.Firm firm) d
QueuedOn side config actor.Clock d = Unit {0}

-- Facts: a request is shown to dealers of its side, a room is opened for some of its side, and the
-- quotes that are posted there are of such ones.

abbrev pub EntryOn : (ℕ → Bool) → Bool → DealerEntry → Type 0
EntryOn side own (ShownIn room) = side room.investor ≡ own
EntryOn side own other = Unit {0}

abbrev pub HappenedOn : (ℕ → Bool) → Configuration → Bool → RoomFact → Type 0
HappenedOn side config own (Opened request) = AskedOn side own request.dealers
HappenedOn side config own (Posted quote) = OwnerOn side own (quote_with_word config quote.word)
HappenedOn side config own other = Unit {0}

abbrev pub FactOn : (ℕ → Bool) → Configuration → Fact → Type 0
FactOn side config (AtDealer dealer entry) = EntryOn side (side dealer) entry
FactOn side config (InRoom room fact) = HappenedOn side config (side room.investor) fact
FactOn side config (AtInvestor investor entry) = Unit {0}

-- each fact of a day
abbrev pub FactsOn : (ℕ → Bool) → Configuration → List Fact → Type 0
FactsOn side config facts = Every (FactOn side config) facts

-- Tests.

-- what is found passes the test
abbrev Passes : {X : Type 0} → (X → Type 0) → (X → Bool) → X → Type 0
Passes P p x = P x × (p x ≡ true)

find_found : {X : Type 0} (P : X → Type 0) (p : X → Bool) (xs : List X) → Every P xs
    → IfSome (find p xs) (Passes P p)
find_found P p [] every = tt
find_found {X} P p (x ∷ xs) every =
    cond_both (p x) (Some x) (find p xs) (λ (found : Option X). IfSome found (Passes P p))
    (λ is. (every.0, is)) (λ isnt. find_found P p xs every.1)

-- a firm of this side is none of the other
pub not_one : (side : ℕ → Bool) (number other : ℕ) → side number ≡ true → side other ≡ false
    → (other == number) ≡ false
not_one side number other here isnt =
    false_from_ne_true (other == number) (λ test.
    let same : other ≡ number = grind (arith, nat_tests) in
    both_ways (side other) isnt (ap side same ∙ here))

-- The places of this side.

module _ (side : ℕ → Bool) (facts : List Fact) where
  -- the facts of this side
  abbrev pub known : List Fact
  known = filter (stays side) facts

  pub dealer_same : (number : ℕ) → side number ≡ true
      → of_dealer number known ≡ of_dealer number facts
  unfolding of_dealer
  dealer_same number here = found_kept (stays side) (entry_at_dealer number) none facts
    where
      none : (fact : Fact) → stays side fact ≡ false → entry_at_dealer number fact ≡ None
      none (AtDealer dealer entry) isnt =
          let other : (dealer == number) ≡ false = not_one side number dealer here isnt in
          rw other refl
      none fact isnt = refl

  pub room_same : (place : RoomRef) → side place.investor ≡ true
      → of_room place known ≡ of_room place facts
  unfolding of_room
  room_same place here = found_kept (stays side) (fact_in_room place) none facts
    where
      none : (fact : Fact) → stays side fact ≡ false → fact_in_room place fact ≡ None
      none (InRoom room fact) isnt =
          let other : (room.investor == place.investor) ≡ false =
          not_one side place.investor room.investor here isnt in
          rw other refl
      none fact isnt = refl

  pub investor_same : (number : ℕ) → side number ≡ true
      → of_investor number known ≡ of_investor number facts
  unfolding of_investor
  investor_same number here = found_kept (stays side) (entry_at_investor number) none facts
    where
      none : (fact : Fact) → stays side fact ≡ false → entry_at_investor number fact ≡ None
      none (AtInvestor investor entry) isnt =
          let other : (investor == number) ≡ false = not_one side number investor here isnt in
          rw other refl
      none fact isnt = refl

-- What stands in them.

module _ (side : ℕ → Bool) (config : Configuration) where
  entries_on : (number : ℕ) (facts : List Fact) → FactsOn side config facts
      → Every (EntryOn side (side number)) (of_dealer number facts)
  unfolding of_dealer
  entries_on number facts on =
      every_found (FactOn side config) (EntryOn side (side number)) (entry_at_dealer number) each
      facts on
    where
      each : (fact : Fact) → FactOn side config fact
          → IfSome (entry_at_dealer number fact) (EntryOn side (side number))
      each (AtDealer dealer entry) is =
          cond_both (dealer == number) (Some entry) None
          (λ (found : Option DealerEntry). IfSome found (EntryOn side (side number)))
          (λ test. let same : dealer ≡ number = grind (arith, nat_tests) in
          subst (λ (n : ℕ). EntryOn side (side n) entry) same is) (λ test. tt)
      each fact is = tt

  -- whether a room is on the side of a dealer
  abbrev pub RoomWith : ℕ → RoomRef → Type 0
  RoomWith number room = side room.investor ≡ side number

  -- the rooms of the requests that a dealer was shown
  pub rooms_on : (number : ℕ) (facts : List Fact) → FactsOn side config facts
      → Every (RoomWith number) (rooms_by (of_dealer number facts))
  rooms_on number facts on =
      every_found (EntryOn side (side number)) (RoomWith number) room_in each
      (of_dealer number facts) (entries_on number facts on)
    where
      each : (entry : DealerEntry) → EntryOn side (side number) entry
          → IfSome (room_in entry) (RoomWith number)
      each (dealer_trail.ShownIn room) is = is
      each entry is = tt

  -- what happened in a room
  pub room_on : (place : RoomRef) (facts : List Fact) → FactsOn side config facts
      → Every (HappenedOn side config (side place.investor)) (of_room place facts)
  unfolding of_room
  room_on place facts on =
      every_found (FactOn side config) (HappenedOn side config (side place.investor))
      (fact_in_room place) each facts on
    where
      each : (fact : Fact) → FactOn side config fact
          → IfSome (fact_in_room place fact) (HappenedOn side config (side place.investor))
      each (InRoom room fact) is =
          cond_both (is_same_room room place) (Some fact) None
          (λ (found : Option RoomFact).
          IfSome found (HappenedOn side config (side place.investor)))
          (λ test.
          let same : room.investor ≡ place.investor = eqb-true room.investor place.investor
          (and_parts (room.investor == place.investor) (room.n == place.n) test).0 in
          subst (λ (n : ℕ). HappenedOn side config (side n) fact) same is) (λ test. tt)
      each fact is = tt

  -- In a room.

  module _ (own : Bool) where
    -- the dealers that its request names
    pub asked_on : (facts : List RoomFact) → Every (HappenedOn side config own) facts
        → AskedOn side own (dealers_of (request_of facts))
    asked_on [] on = (tt, omega arith)
    asked_on (Opened request ∷ later) on = on.0
    asked_on (fact ∷ later) on = asked_on later on.1

    -- the quotes in its book
    abbrev QuoteOn : PostedQuote → Type 0
    QuoteOn quote = OwnerOn side own (quote_with_word config quote.word)

    book_on : (facts : List RoomFact) → Every (HappenedOn side config own) facts
        → Every QuoteOn (book_of facts)
    book_on [] on = tt
    book_on (Posted quote ∷ later) on =
        cond_both (list_any (takes_out quote) later) (book_of later) (quote ∷ book_of later)
        (Every QuoteOn) (λ is. book_on later on.1) (λ isnt. (on.0, book_on later on.1))
    book_on (fact ∷ later) on = book_on later on.1

    -- the word that a hit asks, where no check refuses it
    pub word_on : (facts : List RoomFact) → Every (HappenedOn side config own) facts
        → (word moment : ℕ) → hit_refusal facts word moment ≡ None
        → OwnerOn side own (quote_with_word config word)
    unfolding hit_refusal
    word_on facts on word moment none =
        by_found (quote_meant (book_of facts) word)
        (none_holds (hit_checks facts word moment) none).1.1.0
        (find_found QuoteOn (λ (quote : PostedQuote). quote.word == word) (book_of facts)
        (book_on facts on))
      where
        by_found : (found : Option PostedQuote) → is_none found ≡ false
            → IfSome found (Passes QuoteOn (λ (quote : PostedQuote). quote.word == word))
            → OwnerOn side own (quote_with_word config word)
        by_found None meant is = cc
        by_found (Some quote) meant is =
            let test : (quote.word == word) ≡ true = is.1 in
            let same : quote.word ≡ word = grind (arith, nat_tests) in
            subst (λ (w : ℕ). OwnerOn side own (quote_with_word config w)) same is.0
