-- What the end of a room says: an award has a winner, whose word a hit lifted, and whose dealer is
-- not the cover; without an award there is neither.
use Rattle.std.proofs.Common.{◌≡◌, ◌≢◌, ℕ, ◌<◌, Bool, true, false, ◌==◌, not, cond, List, []}
use Rattle.std.proofs.Common.{◌∷◌, length, Option, Some, None, IfSome, Contains, is_none, fold, refl}
use Rattle.std.proofs.Common.{subst, arith}
use Rattle.std.proofs.lemmas.List.Elements.{Contains-append_right}
use Rattle.std.specs.Option.{option_or, option_map}
use Rattle.market_terms.specs.declared.closes.HitRefusal.{HitRefusal}
use Rattle.market_terms.specs.declared.closes.HitRefusal.TheVariants as refusal
use Rattle.quote_word.specs.declared.settled.Settled.{Settled}
use Rattle.quote_word.specs.declared.settled.Settled.TheVariants.{Withdrawn, Lifted}
use Rattle.request_room.specs.declared.ends.End.{End}
use Rattle.request_room.specs.declared.ends.EndKind.TheVariants.{Awarded}
use Rattle.request_room.specs.declared.events.RoomEvent.{RoomEvent}
use Rattle.request_room.specs.declared.events.RoomEvent.TheVariants as event
use Rattle.request_room.specs.declared.quotes.PostedQuote.{PostedQuote}
use Rattle.request_room.specs.declared.requests.RoomRequest.{RoomRequest}
use Rattle.request_room.specs.RoomFacts.{RoomFact, ended_as, end_of, is_open, request_of}
use Rattle.market_terms.specs.Checks.{first_refusal}
use Rattle.request_room.specs.Book.{IsEndOf, book_of, quote_meant, cover_for, cover_of}
use Rattle.request_room.specs.Book.{is_past_deadline, is_expired, open_checks, hit_refusal}
use Rattle.request_room.specs.Book.{hit_settled, award_of, fact_if, end_by, event_facts, after_event}
use Rattle.request_room.specs.Book.{room_after}
use Rattle.request_room.proofs.FactLemmas.{or_none, said_append}
use Rattle.request_room.proofs.CoverLemmas.{cover_is_another}

-- what an end may say
abbrev IsLawful : End → Type 0
IsLawful end = IsEndOf end.kind end.winner end.cover

-- one of these events is a hit of this word that was answered lifted
abbrev WasLifted : List RoomEvent → ℕ → Type 0
WasLifted events w = (moment : ℕ) × Contains events (event.Hit w moment (Some Lifted))

-- the word of a winner, where there is one, was lifted
abbrev WonByLift : List RoomEvent → End → Type 0
WonByLift events end = IfSome end.winner (λ winner. WasLifted events winner.1)

-- a quote as a winner: its dealer and its word
abbrev as_winner : PostedQuote → ℕ × ℕ
as_winner quote = (quote.dealer, quote.word)

-- An award has a winner, and the cover is another dealer.

passed_first : (so : Bool) (refused : HitRefusal) (checks : List (Bool × HitRefusal))
    → first_refusal ((so, refused) ∷ checks) ≡ None → (so ≡ false) × (first_refusal checks ≡ None)
passed_first true refused checks h = absurd (cc)
passed_first false refused checks h = (refl, h)

-- a hit that no check refuses means a quote in the book
meant_if_not_refused : (facts : List RoomFact) (w moment : ℕ) → hit_refusal facts w moment ≡ None
    → is_none (quote_meant (book_of facts) w) ≡ false
unfolding hit_refusal
meant_if_not_refused facts w moment h =
    let meant = quote_meant (book_of facts) w in
    let last : List (Bool × HitRefusal) = (is_expired meant moment, refusal.Expired) ∷ [] in
    let at_open =
    passed_first (not (is_open facts)) refusal.NotOpen (open_checks facts w moment) h in
    let at_deadline =
    passed_first (is_past_deadline (request_of facts) moment) refusal.Deadline
    ((is_none meant, refusal.Gone) ∷ last) at_open.1 in
    (passed_first (is_none meant) refusal.Gone last at_deadline.1).0

named_apart : (dealer : ℕ) (cover : Option PostedQuote)
    → IfSome cover (λ quote. quote.dealer ≢ dealer)
    → IfSome (option_map (λ quote. quote.dealer) cover) (λ other. other ≢ dealer)
named_apart dealer None h = tt
named_apart dealer (Some quote) h = h

cover_apart : (request : Option RoomRequest) (winner : PostedQuote) (book : List PostedQuote)
    → IfSome (option_map (λ quote. quote.dealer) (cover_for request (Some winner) book))
    (λ other. other ≢ winner.dealer)
cover_apart None winner book = tt
cover_apart (Some request) winner book =
    named_apart winner.dealer (cover_of request.ask.side winner.dealer book)
    (cover_is_another request.ask.side winner.dealer book)

award_with : (request : Option RoomRequest) (meant : Option PostedQuote)
    (book : List PostedQuote) → is_none meant ≡ false
    → IsEndOf Awarded (option_map as_winner meant)
    (option_map (λ quote. quote.dealer) (cover_for request meant book))
award_with request None book h = absurd (cc)
award_with request (Some winner) book h = cover_apart request winner book

award_is_lawful : (facts : List RoomFact) (w moment : ℕ) → hit_refusal facts w moment ≡ None
    → IsLawful (award_of facts w)
award_is_lawful facts w moment h =
    award_with (request_of facts) (quote_meant (book_of facts) w) (book_of facts)
    (meant_if_not_refused facts w moment h)

module _ (events : List RoomEvent) where
  -- what an end says in a room of these events
  abbrev Says : End → Type 0
  Says end = IsLawful end × WonByLift events end

  -- The quote that a hit means bears the word of the hit.

  -- the word of a quote that won was lifted
  abbrev WonBy : Option PostedQuote → Type 0
  WonBy meant = IfSome (option_map as_winner meant) (λ winner. WasLifted events winner.1)

  meant_or_later : (w : ℕ) (quote : PostedQuote) (later : List PostedQuote) (same : Bool)
      → (quote.word == w) ≡ same → WasLifted events w → WonBy (quote_meant later w)
      → WonBy (cond same (Some quote) (quote_meant later w))
  meant_or_later w quote later true same lifted more =
      let is : w ≡ quote.word = grind (arith, same) in
      subst (WasLifted events) is lifted
  meant_or_later w quote later false same lifted more = more

  meant_was_lifted : (w : ℕ) (book : List PostedQuote) → WasLifted events w
      → WonBy (quote_meant book w)
  meant_was_lifted w [] lifted = tt
  meant_was_lifted w (quote ∷ later) lifted =
      meant_or_later w quote later (quote.word == w) refl lifted (meant_was_lifted w later lifted)

  -- Event by event: a hit awards, and of all others none has a winner.

  hit_says : (facts : List RoomFact) (w moment : ℕ) (refused : Option HitRefusal)
      (settlement : Option Settled) → hit_refusal facts w moment ≡ refused
      → Contains events (event.Hit w moment settlement)
      → IfSome (end_of (end_by (hit_settled refused settlement (award_of facts w)) moment)) Says
  hit_says facts w moment (Some refused) settlement is tried = tt
  hit_says facts w moment None (Some Lifted) is tried =
      (award_is_lawful facts w moment is, meant_was_lifted w (book_of facts) (moment, tried))
  hit_says facts w moment None (Some Withdrawn) is tried = tt
  hit_says facts w moment None None is tried = tt

  where_says : (so : Bool) (fact : RoomFact) → IfSome (ended_as fact) Says
      → IfSome (end_of (fact_if so fact)) Says
  where_says true fact says = rw (or_none (ended_as fact)) says
  where_says false fact says = tt

  event_says : (facts : List RoomFact) (tried : RoomEvent) → Contains events tried
      → IfSome (end_of (event_facts facts tried)) Says
  unfolding event_facts
  event_says facts (event.Hit w moment settlement) has =
      hit_says facts w moment (hit_refusal facts w moment) settlement refl has
  event_says facts other has = where_says _ _ (search)

  either_says : (one other : Option End) → IfSome one Says → IfSome other Says
      → IfSome (option_or one other) Says
  either_says None other says more = more
  either_says (Some end) other says more = says

  first_of_all : (tried : RoomEvent) (later : List RoomEvent) → Contains (tried ∷ later) tried
  first_of_all tried later =
      let lt : 0 < length (tried ∷ later) = omega arith in (0, lt, refl)

  -- more of the room's events, on facts that stand
  says_after : (facts : List RoomFact) (more : List RoomEvent)
      → ((tried : RoomEvent) → Contains more tried → Contains events tried)
      → IfSome (end_of facts) Says → IfSome (end_of (fold after_event facts more)) Says
  says_after facts [] among says = says
  says_after facts (tried ∷ later) among says =
      says_after (after_event facts tried) later
      (λ next has. among next (Contains-append_right (tried ∷ []) later next has))
      (rw (said_append ended_as facts (event_facts facts tried))
      (either_says (end_of facts) (end_of (event_facts facts tried)) says
      (event_says facts tried (among tried (first_of_all tried later)))))

  both : (end : Option End) → IfSome end Says → IfSome end IsLawful × IfSome end (WonByLift events)
  both None says = (tt, tt)
  both (Some end) says = says

  end_says : IfSome (end_of (room_after events)) IsLawful
      × IfSome (end_of (room_after events)) (WonByLift events)
  unfolding room_after
  end_says =
      both (end_of (room_after events)) (says_after [] events (λ tried has. has) tt)

  -- what the end of any room says
  pub ends_lawfully : IfSome (end_of (room_after events))
      (λ end. IsEndOf end.kind end.winner end.cover)
  ends_lawfully = end_says.0

  -- the winner's word of any room was lifted by a hit
  pub awards_were_lifted : IfSome (end_of (room_after events)) (λ end. IfSome end.winner
      (λ winner. (moment : ℕ) × Contains events (event.Hit winner.1 moment (Some Lifted))))
  awards_were_lifted = end_says.1
