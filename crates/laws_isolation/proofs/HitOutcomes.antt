-- What a hit comes to: an award of a quote that stands in the room's book, or a refusal; and what
-- is left of what it adds and leaves.
use Rattle.std.proofs.Common.{◌≡◌, ℕ, ◌==◌, ◌||◌, Bool, true, false, List, [], ◌∷◌, ◌++◌, map}
use Rattle.std.proofs.Common.{filter_map, Option, Some, None, option_map, is_none, refl, sym, ap}
use Rattle.std.proofs.Common.{subst, inl, inr, Result, Ok, Err, if◌then◌else◌, eq-eqb}
use Rattle.std.proofs.lemmas.Bool.{and_from, cases_Bool}
use Rattle.std.proofs.lemmas.List.Elements.{filter_map-append}
use Rattle.std.proofs.lemmas.Option.{same_Some}
use Rattle.market_terms.specs.Unpriced.{uncovered}
use Rattle.market_terms.specs.declared.closes.Close.{Close}
use Rattle.market_terms.specs.declared.closes.Close.TheVariants as closes
use Rattle.market_terms.specs.declared.closes.HitRefusal.{HitRefusal}
use Rattle.market_terms.specs.declared.closes.HitRefusal.TheVariants as refusal
use Rattle.market_terms.specs.declared.duties.Duty.{Duty}
use Rattle.market_terms.specs.declared.duties.Duty.TheVariants as duty
use Rattle.market_terms.specs.declared.rooms.ResponseRef.{ResponseRef}
use Rattle.market_terms.specs.declared.rooms.RoomRef.{RoomRef}
use Rattle.quote_word.specs.declared.settled.Settled.{Settled}
use Rattle.venue_rows.specs.Rows.{Configuration}
use Rattle.request_room.specs.Book.{award_of, book_of, end_by, event_facts, hit_checks}
use Rattle.request_room.specs.Book.{hit_outcome, hit_refusal, hit_settled, is_lift, is_quote_of}
use Rattle.request_room.specs.Book.{quote_meant, reply_of, stands}
use Rattle.request_room.specs.RoomFacts.{RoomFact, Ended}
use Rattle.request_room.specs.declared.ends.End.{End}
use Rattle.request_room.specs.declared.quotes.PostedQuote.{PostedQuote}
use Rattle.venue_steps.specs.RoomSteps.{close_for, hit_word, told_of_hit}
use Rattle.venue_steps.specs.declared.actors.Actor.{Actor}
use Rattle.step_replay.specs.Actions.{Effect, QuoteRef, answer_to_hit, lifting, quote_asked}
use Rattle.step_replay.specs.Actions.{quote_with_word}
use Rattle.step_replay.specs.DutyEffects.{duty_effect}
use Rattle.step_replay.specs.VenueFacts.{Fact, InRoom, of_room}
use Rattle.laws_days.specs.AcceptedQuotes.{none_holds}
use Rattle.laws_days.specs.Conditions.{may_hit}
use Rattle.laws_isolation.specs.Presence.{award_in}
use Rattle.laws_isolation.proofs.Left.{left_duty}

-- What a hit comes to.

-- a hit that is awarded asked a word that no check refused, and ends as the book says
pub awarded : (facts : List RoomFact) (word moment : ℕ) (settlement : Option Settled) (award : End)
    → hit_outcome facts word moment settlement ≡ Ok award
    → (hit_refusal facts word moment ≡ None) × (award_of facts word ≡ award)
awarded facts word moment settlement award is = by_refusal (hit_refusal facts word moment) refl is
  where
    by_lift : (b : Bool)
        → (if b then Ok (award_of facts word) else Err refusal.Withdrawn) ≡ Ok award
        → award_of facts word ≡ award
    by_lift true so = cc
    by_lift false so = cc

    by_refusal : (refused : Option HitRefusal) → hit_refusal facts word moment ≡ refused
        → hit_settled refused settlement (award_of facts word) ≡ Ok award
        → (hit_refusal facts word moment ≡ None) × (award_of facts word ≡ award)
    by_refusal (Some why) refused so = cc
    by_refusal None refused so = (refused, by_lift (is_lift settlement) so)

-- and the quote that it means stands in the book
pub meant : (facts : List RoomFact) (word moment : ℕ) → hit_refusal facts word moment ≡ None
    → (quote : PostedQuote) × (quote_meant (book_of facts) word ≡ Some quote)
unfolding hit_refusal
meant facts word moment none =
    found (quote_meant (book_of facts) word) (none_holds (hit_checks facts word moment) none).1.1.0
  where
    found : (o : Option PostedQuote) → is_none o ≡ false → (quote : PostedQuote) × (o ≡ Some quote)
    found None is = cc
    found (Some quote) is = (quote, refl)

pub meant_stands : (book : List PostedQuote) (word : ℕ) (quote : PostedQuote)
    → quote_meant book word ≡ Some quote → stands book quote.dealer quote.word ≡ true
meant_stands [] word quote is = cc
meant_stands (other ∷ book) word quote is = elim (cases_Bool (other.word == word)) [
  | inl test ↦
      let same : other ≡ quote = same_Some other quote (rw test at is) in
      let here : is_quote_of quote.dealer quote.word other ≡ true =
      subst (λ (q : PostedQuote). is_quote_of quote.dealer quote.word q ≡ true) (sym same)
      (and_from (quote.dealer == quote.dealer) (quote.word == quote.word)
      (eq-eqb quote.dealer quote.dealer refl) (eq-eqb quote.word quote.word refl)) in
      rw here refl
  | inr differs ↦ or_later (is_quote_of quote.dealer quote.word other)
      (meant_stands book word quote (rw differs at is))
]
  where
    or_later : (b : Bool) {c : Bool} → c ≡ true → (b || c) ≡ true
    or_later true so = refl
    or_later false so = so

-- nothing is lifted where a hit is refused
pub lifted_none : (found : Option QuoteRef) (why : HitRefusal) → lifting found (Err why) ≡ []
lifted_none None why = refl
lifted_none (Some quote) why = refl

-- how an award ended for a dealer, whoever was the cover
covered : (won cover : Bool)
    → uncovered (if won then closes.Hit else if cover then closes.Cover else closes.DoneAway)
    ≡ (if won then closes.Hit else closes.DoneAway)
covered true cover = refl
covered false true = refl
covered false false = refl

-- what each dealer is told that a room names, where this dealer won
abbrev pub told_won : RoomRef → ℕ → ℕ → List ℕ → List Duty
told_won room winner moment dealers =
    map (λ dealer. duty.Tell dealer room
    (if winner == dealer then closes.Hit else closes.DoneAway) moment) dealers

-- the settlement of the word that a hit asks, where it asks one
abbrev pub settled_for : Configuration → RoomRef → ℕ → ℕ → List Fact → Option Settled
settled_for config room word moment facts =
    option_map (answer_to_hit facts)
    (quote_asked config (hit_word (of_room room facts) word moment))

module _ (config : Configuration) (room : RoomRef) (response : ResponseRef) (word moment : ℕ) where
  -- what a hit with this outcome adds and leaves, in a room of which this stands
  abbrev pub with_outcome : List RoomFact → Result End HitRefusal → Effect
  with_outcome known outcome = record {
    facts = lifting (quote_with_word config word) outcome
        ++ map (InRoom room) (end_by outcome moment);
    duties = duty.Answer room response (reply_of outcome) moment
        ∷ told_of_hit known room moment outcome;
  }

  module _ (facts : List Fact) where
    abbrev pub known : List RoomFact
    known = of_room room facts

    abbrev pub outcome : Result End HitRefusal
    outcome = hit_outcome known word moment (settled_for config room word moment facts)

    pub hit_is : (by : Actor) → may_hit config facts room word moment ≡ true
        → duty_effect config facts by (duty.Hit room response word moment)
        ≡ with_outcome known outcome
    unfolding duty_effect event_facts
    hit_is by may = rw may refl

  pub told_left : (known : List RoomFact) (winner : PostedQuote)
      → quote_meant (book_of known) word ≡ Some winner → (dealers : List ℕ)
      → map left_duty
      (map (λ dealer. duty.Tell dealer room (close_for
      (award_of known word) dealer) moment) dealers)
      ≡ told_won room winner.dealer moment dealers
  told_left known winner is [] = refl
  told_left known winner is (dealer ∷ dealers) =
      rw (told_left known winner is dealers)
      (ap (λ (close : Close). duty.Tell dealer room close moment
      ∷ told_won room winner.dealer moment dealers)
      (rw is (covered (winner.dealer == dealer) _)))

-- what an award adds to the awards of the day
lifts_no_award : (found : Option QuoteRef) (outcome : Result End HitRefusal)
    → filter_map award_in (lifting found outcome) ≡ []
lifts_no_award None (Ok award) = refl
lifts_no_award (Some quote) (Ok award) = refl
lifts_no_award None (Err why) = refl
lifts_no_award (Some quote) (Err why) = refl

module _ (config : Configuration) (room : RoomRef) (response : ResponseRef) (word moment : ℕ)
    (known : List RoomFact) where
  abbrev effect : Result End HitRefusal → Effect
  effect outcome = with_outcome config room response word moment known outcome

  pub refused_awards : (why : HitRefusal) → filter_map award_in (effect (Err why)).facts ≡ []
  refused_awards why = rw (lifted_none (quote_with_word config word) why) refl

  pub award_awards : (winner : PostedQuote) → quote_meant (book_of known) word ≡ Some winner
      → filter_map award_in (effect (Ok (award_of known word))).facts
      ≡ record { room = room; winner = Some winner.dealer } ∷ []
  award_awards winner is =
      rw (
        filter_map-append award_in
            (lifting (quote_with_word config word) (Ok (award_of known word)))
            (InRoom room (Ended (award_of known word) moment) ∷ []),
        lifts_no_award (quote_with_word config word) (Ok (award_of known word)),
        is,
      ) refl
