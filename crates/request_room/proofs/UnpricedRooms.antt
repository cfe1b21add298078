-- A room without prices, and whoever was the cover: each step does the same in it.
use Rattle.std.proofs.Common.{◌≡◌, ℕ, Bool, true, false, List, [], ◌∷◌, map, Option, Some, None}
use Rattle.std.proofs.Common.{option_map, refl, sym, ap, ◌∙◌, Result, Ok, Err, if◌then◌else◌}
use Rattle.std.specs.List.{list_any}
use Rattle.market_terms.proofs.ErasedLists.{any_map, erased, or_map, some_map}
use Rattle.market_terms.specs.declared.closes.HitRefusal.{HitRefusal}
use Rattle.market_terms.specs.declared.closes.HitRefusal.TheVariants as refusal
use Rattle.quote_word.specs.declared.settled.Settled.{Settled}
use Rattle.request_room.specs.RoomFacts.{RoomFact, Posted}
use Rattle.request_room.specs.RoomFacts.{end_of, ended_as, hears, is_ended, is_readied, is_ready}
use Rattle.request_room.specs.RoomFacts.{opened_for, request_of, takes_quotes}
use Rattle.request_room.specs.Book.{award_of, book_of, end_by, event_facts, hit_outcome}
use Rattle.request_room.specs.Book.{hit_question, hit_refusal, hit_settled, is_expired, is_lift}
use Rattle.request_room.specs.Book.{quote_posted, takes_out, fact_if, word_or}
use Rattle.request_room.specs.Unpriced.{uncovered, uncovered_end, unpriced, unpriced_event}
use Rattle.request_room.specs.Unpriced.{unpriced_quote}
use Rattle.request_room.specs.declared.ends.End.{End}
use Rattle.request_room.specs.declared.events.RoomEvent.{RoomEvent}
use Rattle.request_room.specs.declared.events.RoomEvent.TheVariants as event
use Rattle.request_room.specs.declared.quotes.PostedQuote.{PostedQuote}

-- What one fact says.

opened_same : (fact : RoomFact) → opened_for (unpriced fact) ≡ opened_for fact
opened_same (Posted quote) = refl
opened_same fact = refl

ended_same : (fact : RoomFact)
    → ended_as (unpriced fact) ≡ option_map uncovered_end (ended_as fact)
ended_same (Posted quote) = refl
ended_same fact = refl

readied_same : (fact : RoomFact) → is_readied (unpriced fact) ≡ is_readied fact
readied_same (Posted quote) = refl
readied_same fact = refl

takes_out_same : (quote : PostedQuote) (fact : RoomFact)
    → takes_out (unpriced_quote quote) (unpriced fact) ≡ takes_out quote fact
takes_out_same quote (Posted next) = refl
takes_out_same quote fact = refl

-- What the facts say.

pub request_same : (facts : List RoomFact) → request_of (map unpriced facts) ≡ request_of facts
request_same [] = refl
request_same (fact ∷ facts) = rw (opened_same fact, request_same facts)

pub ready_same : (facts : List RoomFact) → is_ready (map unpriced facts) ≡ is_ready facts
ready_same facts = simp (any_map, readied_same)

end_same : (facts : List RoomFact)
    → end_of (map unpriced facts) ≡ option_map uncovered_end (end_of facts)
end_same [] = refl
end_same (fact ∷ facts) =
    rw (ended_same fact, end_same facts) (or_map uncovered_end (ended_as fact) (end_of facts))

pub is_ended_same : (facts : List RoomFact) → is_ended (map unpriced facts) ≡ is_ended facts
is_ended_same facts = rw (end_same facts) (some_map uncovered_end (end_of facts))

replaced_same : (quote : PostedQuote) (later : List RoomFact)
    → list_any (takes_out (unpriced_quote quote)) (map unpriced later)
    ≡ list_any (takes_out quote) later
replaced_same quote later = simp (any_map, takes_out_same)

if_same : (b : Bool) (quote : PostedQuote) (rest : List PostedQuote)
    → (if b then map unpriced_quote rest else unpriced_quote quote ∷ map unpriced_quote rest)
    ≡ map unpriced_quote (if b then rest else quote ∷ rest)
if_same true quote rest = refl
if_same false quote rest = refl

pub book_same : (facts : List RoomFact)
    → book_of (map unpriced facts) ≡ map unpriced_quote (book_of facts)
book_same [] = refl
book_same (Posted quote ∷ later) =
    rw (replaced_same quote later, book_same later)
    (if_same (list_any (takes_out quote) later) quote (book_of later))
book_same (fact ∷ later) = book_same later

pub expired_same : (meant : Option PostedQuote) (moment : ℕ)
    → is_expired (option_map unpriced_quote meant) moment ≡ is_expired meant moment
expired_same None moment = refl
expired_same (Some quote) moment = refl

-- what a step asks of the facts of a room
pub ruleset asked = (request_same, ready_same, is_ended_same)

-- and of its book
pub ruleset asked_of_book = (asked, book_same, erased, expired_same)

-- What a step does.

module _ (facts : List RoomFact) where
  -- the room without prices and covers
  abbrev bare : List RoomFact
  bare = map unpriced facts

  pub hears_same : (dealer : ℕ) → hears bare dealer ≡ hears facts dealer
  hears_same dealer = simp asked

  refusal_same : (word moment : ℕ) → hit_refusal bare word moment ≡ hit_refusal facts word moment
  unfolding hit_refusal
  refusal_same word moment = simp asked_of_book

  pub question_same : (word moment : ℕ)
      → hit_question bare word moment ≡ hit_question facts word moment
  question_same word moment = ap (word_or word) (refusal_same word moment)

  pub outcome_same : (word moment : ℕ) (settlement : Option Settled)
      → uncovered (hit_outcome bare word moment settlement)
      ≡ uncovered (hit_outcome facts word moment settlement)
  outcome_same word moment settlement =
      rw (refusal_same word moment) (settled (hit_refusal facts word moment))
    where
      award : uncovered_end (award_of bare word) ≡ uncovered_end (award_of facts word)
      award = simp asked_of_book

      lifted : (b : Bool)
          → uncovered (if b then Ok (award_of bare word) else Err refusal.Withdrawn)
          ≡ uncovered (if b then Ok (award_of facts word) else Err refusal.Withdrawn)
      lifted true = ap (λ (end : End). Ok end) award
      lifted false = refl

      settled : (refused : Option HitRefusal)
          → uncovered (hit_settled refused settlement (award_of bare word))
          ≡ uncovered (hit_settled refused settlement (award_of facts word))
      settled (Some refused) = refl
      settled None = lifted (is_lift settlement)

  pub kept_same : (more : RoomEvent)
      → map unpriced (event_facts bare (unpriced_event more))
      ≡ map unpriced (event_facts facts more)
  unfolding event_facts
  kept_same (event.Post dealer word price until) = simp asked (posted (takes_quotes facts))
    where
      posted : (b : Bool)
          → map unpriced (fact_if b (Posted (quote_posted dealer word 0 until)))
          ≡ map unpriced (fact_if b (Posted (quote_posted dealer word price until)))
      posted true = refl
      posted false = refl
  kept_same (event.Hit word moment settlement) =
      sym (ended (hit_outcome bare word moment settlement))
      ∙ ap (λ (o : Result End HitRefusal). map unpriced (end_by o moment))
      (outcome_same word moment settlement) ∙ ended (hit_outcome facts word moment settlement)
    where
      ended : (o : Result End HitRefusal)
          → map unpriced (end_by (uncovered o) moment) ≡ map unpriced (end_by o moment)
      ended (Ok award) = refl
      ended (Err refused) = refl
  kept_same other = simp asked_of_book
