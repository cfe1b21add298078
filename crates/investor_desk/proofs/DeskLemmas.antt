-- One event more at a desk, and what holds of a desk after any events.
use Rattle.std.proofs.Common.{◌≡◌, ◌<◌, ◌≤◌, ℕ, ◌+◌, suc, Bool, true, false, ◌==◌, cond, List}
use Rattle.std.proofs.Common.{[], ◌∷◌, ◌++◌, length, fold, Option, Some, None, IfSome, refl, sym, ap, subst}
use Rattle.std.proofs.Common.{◌∙◌, arith}
use Rattle.std.proofs.lemmas.Bool.{eqb-true}
use Rattle.std.proofs.lemmas.List.{append-nil, append_assoc, length-append, length-map}
use Rattle.std.proofs.lemmas.List.Sums.{fold-append}
use Rattle.market_terms.specs.declared.closes.Reply.{Reply}
use Rattle.market_terms.specs.declared.rooms.Offer.{Offer}
use Rattle.market_terms.specs.declared.rooms.ResponseRef.{ResponseRef}
use Rattle.quote_messages.specs.declared.out_messages.OutMessage.{OutMessage}
use Rattle.investor_desk.specs.InvestorFacts.{InvestorFact, Asked, Offered, Gone, Closed}
use Rattle.investor_desk.specs.InvestorFacts.{InvestorBook, StandingRequest, book_of, is_open}
use Rattle.investor_desk.specs.InvestorFacts.{open_request, request_numbered, used_number}
use Rattle.investor_desk.specs.InvestorFacts.{while_open, offer_of_dealer, offer_with_word}
use Rattle.investor_desk.specs.InvestorRules.{InvestorMarket, investor_verdict}
use Rattle.investor_desk.specs.InvestorDesk.{DeskEvents, book_at, verdict_at}
use Rattle.investor_desk.specs.InvestorOutput.{DeskState, no_facts, after_event, desk_after}
use Rattle.investor_desk.specs.InvestorOutput.{event_facts, event_messages, own_facts}
use Rattle.investor_desk.specs.InvestorOutput.{uses_number, gone_facts, next_offer, offer_facts}
use Rattle.investor_desk.specs.InvestorOutput.{withdrawal_facts, close_by_answer, closed_facts}
use Rattle.investor_desk.specs.InvestorOutput.{refusal_of, answer_facts, expiry_facts, sent_with}
use Rattle.investor_desk.specs.InvestorOutput.{moment_of, investor_output, verdict_duty}
use Rattle.investor_desk.specs.InvestorOutput.{answer_note, award_note, beside_each, event_note}
use Rattle.investor_desk.specs.InvestorOutput.{investor_notes, notes_from, verdict_note, written_from}
use Rattle.investor_desk.specs.DeskLaws.{fact_note, last_fact}
use Rattle.investor_desk.specs.declared.notes.InvestorNote.{InvestorNote}
use Rattle.investor_desk.specs.BookChanges.{IsAccepted, FitsOffer, book_after, book_with, counted}
use Rattle.investor_desk.specs.DeskLaws.{IsOfDay}
use Rattle.investor_desk.specs.declared.standing.RequestClose.{RequestClose}
use Rattle.investor_desk.specs.declared.standing.RequestClose.TheVariants as close
use Rattle.investor_desk.specs.declared.standing.ShownOffer.{ShownOffer}
use Rattle.investor_desk.specs.declared.events.InvestorEvent.{InvestorEvent}
use Rattle.investor_desk.specs.declared.events.InvestorEvent.TheVariants as event
use Rattle.investor_desk.specs.declared.verdicts.InvestorVerdict.{InvestorVerdict}
use Rattle.investor_desk.specs.declared.verdicts.InvestorVerdict.TheVariants as verdict
use Rattle.investor_desk.proofs.BookLemmas.{came_book, gone_book}
use Rattle.investor_desk.proofs.BookPush.{books_push}
use Rattle.investor_desk.proofs.ListLemmas.{find_stands, within_from}
use Rattle.investor_desk.proofs.StandLemmas.{StandsIn, stands_empty, asked_stands, offered_stands}
use Rattle.investor_desk.proofs.StandLemmas.{gone_stands, closed_stands}
use Rattle.investor_desk.proofs.VerdictLemmas.{Holds, verdict_holds, duty_holds}

-- a desk after one event more is that after the others, and then after this one
pub desk_after_push : (market : InvestorMarket) (events : List InvestorEvent) (event : InvestorEvent) → desk_after market (events ++ event ∷ []) ≡ after_event market (desk_after market events) event
unfolding desk_after
desk_after_push market events event = fold-append (after_event market) no_facts events (event ∷ [])

-- so are its facts
pub facts_push : (market : InvestorMarket) (events : List InvestorEvent) (event : InvestorEvent)
    → (desk_after market (events ++ event ∷ [])).facts ≡ (desk_after market events).facts ++ event_facts market (book_of (desk_after market events).facts) event
facts_push market events event = ap (λ (d : DeskState). d.facts) (desk_after_push market events event)

-- and its messages
pub sent_push : (market : InvestorMarket) (events : List InvestorEvent) (event : InvestorEvent)
    → investor_output market (events ++ event ∷ []) ≡ sent_with market (investor_output market events) (moment_of event) (event_messages market (book_of (desk_after market events).facts) event)
sent_push market events event = ap (λ (d : DeskState). d.sent) (desk_after_push market events event)

-- Notes.

notes_more : (market : InvestorMarket) (desk : DeskState) (events : List InvestorEvent) (event : InvestorEvent)
    → notes_from market desk (events ++ event ∷ [])
    ≡ notes_from market desk events ++ beside_each (event_messages market (book_of (fold (after_event market) desk events).facts) event) (event_note market (book_of (fold (after_event market) desk events).facts) event)
notes_more market desk [] event = append-nil (beside_each (event_messages market (book_of desk.facts) event) (event_note market (book_of desk.facts) event))
notes_more market desk (came ∷ events) event =
    let here : List (Option InvestorNote) = beside_each (event_messages market (book_of desk.facts) came) (event_note market (book_of desk.facts) came) in
    let after : DeskState = fold (after_event market) (after_event market desk came) events in
    ap (λ (ns : List (Option InvestorNote)). here ++ ns) (notes_more market (after_event market desk came) events event)
    ∙ sym (append_assoc here (notes_from market (after_event market desk came) events) (beside_each (event_messages market (book_of after.facts) event) (event_note market (book_of after.facts) event)))

pub notes_push : (market : InvestorMarket) (events : List InvestorEvent) (event : InvestorEvent)
    → investor_notes market (events ++ event ∷ []) ≡ investor_notes market events ++ beside_each (event_messages market (book_of (desk_after market events).facts) event) (event_note market (book_of (desk_after market events).facts) event)
unfolding desk_after
notes_push market events event = notes_more market no_facts events event

-- beside each message stands a note

written_many : (market : InvestorMarket) (number moment : ℕ) (messages : List OutMessage) → length (written_from market number moment messages) ≡ length messages
written_many market number moment [] = refl
written_many market number moment (message ∷ messages) = ap suc (written_many market (number + 1) moment messages)

notes_beside : (market : InvestorMarket) (desk : DeskState) (events : List InvestorEvent)
    → length desk.sent + length (notes_from market desk events) ≡ length (fold (after_event market) desk events).sent
notes_beside market desk [] = omega arith
notes_beside market desk (came ∷ events) =
    let messages = event_messages market (book_of desk.facts) came in
    let note = event_note market (book_of desk.facts) came in
    let wrote = written_from market (length desk.sent + 1) (moment_of came) messages in
    let rest = notes_from market (after_event market desk came) events in
    let sends : length (desk.sent ++ wrote) ≡ length desk.sent + length wrote = length-append desk.sent wrote in
    let notes : length (beside_each messages note ++ rest) ≡ length (beside_each messages note) + length rest = length-append (beside_each messages note) rest in
    let noted : length (beside_each messages note) ≡ length messages = length-map messages (λ (message : OutMessage). note) in
    let many = written_many market (length desk.sent + 1) (moment_of came) messages in
    let others = notes_beside market (after_event market desk came) events in
    omega arith

none_more : (m n : ℕ) → 0 + m ≡ n → m ≡ n
none_more m n h = omega arith

pub notes_are_beside : (market : InvestorMarket) (events : List InvestorEvent) → length (investor_notes market events) ≡ length (investor_output market events)
unfolding desk_after
notes_are_beside market events = none_more (length (notes_from market no_facts events)) (length (fold (after_event market) no_facts events).sent) (notes_beside market no_facts events)

-- What an event adds: nothing, a quote more, a quote fewer, a closed request, or a message that came
-- and the request that it asks.

-- the request with a number was accepted
pub numbered_accepted : (market : InvestorMarket) (book : InvestorBook) (number : ℕ) (own : StandingRequest) → StandsIn market book → request_numbered book number ≡ Some own → IsAccepted (length book.requests) number
unfolding request_numbered
numbered_accepted market book number own stands is =
    let here = find_stands (λ (other : StandingRequest). other.request.number == number) book.requests own is in
    let same : own.request.number ≡ number = eqb-true own.request.number number here.2 in
    let place : own.request.number ≡ here.0 + 1 = stands.sound.requests_numbered here.0 own here.1 in
    let inside : here.0 < length book.requests = within_from book.requests here.0 own here.1 in
    record { from_first = omega arith; to_last = omega arith }

kept_open : (b : Bool) (own own2 : StandingRequest) → cond b (Some own) None ≡ Some own2 → Some own ≡ Some own2
kept_open true own own2 h = h
kept_open false own own2 h = cc

-- one that is open is that with its number
pub open_found : (found : Option StandingRequest) (own : StandingRequest) → while_open found ≡ Some own → found ≡ Some own
open_found None own h = cc
open_found (Some other) own h = kept_open (is_open other) other own h

-- of what an event adds to a book, and of what is noted of it: the note follows from the last fact,
-- what stands goes on standing, and at most one number was used up
record Adds (market : InvestorMarket) (book : InvestorBook) (facts : List InvestorFact)
    (note : Option InvestorNote) : Type 0 where
  note_is : note ≡ fact_note market book (last_fact facts)
  stands : StandsIn market book → StandsIn market (book_with book facts)
  counts : (book_with book facts).used ≤ book.used + 1

-- no fact uses up a number but that a message came
used_after : (book : InvestorBook) (fact : InvestorFact) → used_number fact ≡ false
    → (book_after book fact).used ≡ book.used
unfolding book_after
used_after book fact none = ap (λ (b : Bool). counted b book.used) none

module _ (market : InvestorMarket) (book : InvestorBook) where
  adds_nothing : Adds market book [] None
  adds_nothing = record { note_is = refl; stands = λ stands. stands; counts = omega arith }

  -- a quote in the place of one or of none
  adds_shown : (number : ℕ) (offer : Offer) (replaced : Option ShownOffer)
      → (StandsIn market book → IsAccepted (length book.requests) number)
      → Adds market book
      (gone_facts number replaced ++ Offered (next_offer book number offer) ∷ []) None
  adds_shown number offer None accepted = record {
    note_is = refl;
    stands = λ stands.
        offered_stands market book (next_offer book number offer)
        (record { number_is = refl; accepted = accepted stands }) stands;
    counts = let same = used_after book (Offered (next_offer book number offer)) refl in omega arith;
  }
  adds_shown number offer (Some other) accepted =
      let next : ShownOffer = next_offer book number offer in
      let left : InvestorBook = book_after book (Gone number other.number) in
      let fits : StandsIn market book → FitsOffer left next =
      λ stands. rw (gone_book book number other.number) (record {
        number_is = refl;
        accepted = rw length-map (accepted stands);
      }) in
      record {
        note_is = refl;
        stands = λ stands. offered_stands market left next (fits stands)
            (gone_stands market book number other.number stands);
        counts = let same = used_after book (Gone number other.number) refl in
            let too = used_after left (Offered next) refl in omega arith;
      }

  adds_gone : (number : ℕ) (found : Option ShownOffer)
      → Adds market book (gone_facts number found) None
  adds_gone number None = adds_nothing
  adds_gone number (Some other) = record {
    note_is = refl;
    stands = gone_stands market book number other.number;
    counts = let same = used_after book (Gone number other.number) refl in omega arith;
  }

  adds_closed : (number : ℕ) (how : Option RequestClose)
      → Adds market book (closed_facts number how) (award_note how)
  adds_closed number None = adds_nothing
  adds_closed number (Some how) = record {
    note_is = refl;
    stands = closed_stands market book number how;
    counts = let same = used_after book (Closed number how) refl in omega arith;
  }

  adds_own : (moment : ℕ) (bytes : List ℕ) (given : InvestorVerdict)
      → investor_verdict market book moment bytes ≡ given
      → Adds market book (own_facts moment bytes given) (verdict_note given)
  adds_own moment bytes (verdict.RequestAccepted id request) is =
      let came : InvestorBook = record book { used = book.used + 1 } in
      record {
        note_is = refl;
        stands = λ stands.
            rw (came_book book moment bytes true)
            (asked_stands market came request
            (subst (Holds market book) is (verdict_holds market book moment bytes stands)).0 stands);
        counts = rw (came_book book moment bytes true)
            (let same = used_after came (Asked request) refl in omega arith);
      }
  adds_own moment bytes other is = record {
    note_is = ap verdict_note (sym is);
    stands = λ stands. rw (came_book book moment bytes (uses_number other)) stands;
    counts = rw (came_book book moment bytes (uses_number other)) (omega arith);
  }

  -- What comes for a request adds one of these where the request is found.

  offer_adds : (number : ℕ) (offer : Offer) (found : Option StandingRequest)
      → open_request book number ≡ found
      → Adds market book (offer_facts book number offer found) None
  offer_adds number offer None is = adds_nothing
  offer_adds number offer (Some own) is =
      adds_shown number offer (offer_of_dealer own offer.dealer)
      (λ stands. numbered_accepted market book number own stands
      (open_found (request_numbered book number) own is))

  withdrawal_adds : (number word : ℕ) (found : Option StandingRequest)
      → Adds market book (withdrawal_facts number word found) None
  withdrawal_adds number word None = adds_nothing
  withdrawal_adds number word (Some own) = adds_gone number (offer_with_word own word)

  answer_adds : (number : ℕ) (response : ResponseRef) (reply : Reply)
      (found : Option StandingRequest)
      → Adds market book (answer_facts book number response reply found)
      (answer_note book response reply found)
  answer_adds number response reply None = adds_nothing
  answer_adds number response reply (Some own) =
      adds_closed number (close_by_answer book response (refusal_of reply))

  expiry_adds : (number : ℕ) (found : Option StandingRequest)
      → Adds market book (expiry_facts number found) None
  expiry_adds number None = adds_nothing
  expiry_adds number (Some own) = adds_closed number (Some close.Expired)

  ruleset what_comes = (offer_adds, withdrawal_adds, answer_adds, expiry_adds, adds_nothing)

  event_adds : (more : InvestorEvent)
      → Adds market book (event_facts market book more) (event_note market book more)
  unfolding event_facts event_note
  event_adds (event.Received moment bytes) =
      adds_own moment bytes (investor_verdict market book moment bytes) refl
  event_adds other = search what_comes

  pub note_of_last : (more : InvestorEvent)
      → event_note market book more ≡ fact_note market book (last_fact (event_facts market book more))
  note_of_last more = (event_adds more).note_is

  pub event_counts : (more : InvestorEvent)
      → (book_with book (event_facts market book more)).used ≤ book.used + 1
  event_counts more = (event_adds more).counts

-- What holds of a desk.

stands_events : (market : InvestorMarket) (desk : DeskState) (events : List InvestorEvent) → StandsIn market (book_of desk.facts) → StandsIn market (book_of (fold (after_event market) desk events).facts)
stands_events market desk [] stands = stands
stands_events market desk (came ∷ events) stands =
    stands_events market (after_event market desk came) events
    (subst (StandsIn market) (sym (books_push desk.facts (event_facts market (book_of desk.facts) came))) ((event_adds market (book_of desk.facts) came).stands stands))

pub desk_stands : (market : InvestorMarket) (events : List InvestorEvent) → StandsIn market (book_of (desk_after market events).facts)
unfolding desk_after
desk_stands market events = stands_events market no_facts events (stands_empty market)

-- what a message leaves to be done is of the day
pub left_of_day : (desk : DeskEvents) (moment : ℕ) (bytes : List ℕ) → IfSome (verdict_duty desk.market moment (verdict_at desk moment bytes)) (IsOfDay desk.market)
left_of_day desk moment bytes =
    let stands = desk_stands desk.market desk.events in
    duty_holds desk.market (book_at desk) moment (verdict_at desk moment bytes) stands (verdict_holds desk.market (book_at desk) moment bytes stands)
