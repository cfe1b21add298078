-- What comes to a dealer's desk of a replay does what it should: a request that is shown, and a
-- closing notice. Such an event asks no word.
use Rattle.step_replay.proofs.Common.{◌≡◌, ℕ, Bool, true, false, ◌||◌, if◌then◌else◌, List, []}
use Rattle.step_replay.proofs.Common.{◌++◌, refl, sym, ap, ◌∙◌, subst, ◌∷◌, filter_map, Option}
use Rattle.step_replay.proofs.Common.{Some, None, is_some, list_any, with_item, append-nil}
use Rattle.step_replay.proofs.Common.{or-false, Configuration, DeskEvents, with_event, event_facts}
use Rattle.step_replay.proofs.Common.{withdraws, DealerEvent, Ask, Close, RoomRef, DealerBook}
use Rattle.step_replay.proofs.Common.{DealerEntry, book_by, was_lifted, was_withdrawn, entries_of}
use Rattle.step_replay.proofs.Common.{rooms_by, Fact, of_dealer, dealer_of, at_dealer, nothing}
use Rattle.step_replay.proofs.Common.{told_of, word_if, DealerStands, Does, Stands, WordsStand}
use Rattle.step_replay.proofs.Common.{word_is, DealerPlace, Floor, due_by_fact, dealer_gets}
use Rattle.dealer_desk.specs.DealerDesk.{with_notice_in}
use Rattle.dealer_desk.specs.DealerOutput.{number_in, closable}
use Rattle.dealer_desk.specs.DealerFacts.{Told}
use Rattle.dealer_desk.specs.declared.events.DealerEvent.TheVariants as event
use Rattle.venue_steps.specs.Brought.{dealer_with}
use Rattle.venue_steps.specs.declared.arrivals.ForDealer.{ForDealer}
use Rattle.venue_steps.specs.declared.arrivals.ForDealer.TheVariants as to_dealer
use Rattle.step_replay.proofs.AskedWords.{word_grown}
use Rattle.step_replay.proofs.FloorLemmas.{event_stands, at_dealer_stands, with_dealers}
use Rattle.step_replay.proofs.FloorLemmas.{all_dealers}
use Rattle.step_replay.proofs.FoundDealers.{Found, book_is}
use Rattle.step_replay.proofs.LiftingLemmas.{IsDueSo}

module _ {config : Configuration} {facts : List Fact} {floor : Floor} {number : ℕ}
    {place : DealerPlace} (before : Stands config facts floor)
    (found : Found config facts number place) where
  abbrev trail : List DealerEntry
  trail = of_dealer number facts

  -- it withdraws no quote, and what is due by its facts is due by the event
  pub record AsksNone (more : DealerEvent) : Type 0 where
    pub withdraws_none : (quote : ℕ) → list_any (withdraws quote)
        (event_facts config.date found.row (book_by trail) more) ≡ false
    pub due_so : IsDueSo config.date found.row trail more

  module _ (desk : DeskEvents) where
    -- the floor with this desk at the dealer's place
    abbrev after : Floor
    after = record floor { dealers = with_item floor.dealers number (record place { desk = desk }) }

    -- one event that asks no word
    pub unasked_stands : (more : DealerEvent) → AsksNone more → desk ≡ with_event place.desk more
        → Stands config (with_dealers facts number (entries_of config.date found.row trail more))
        after
    unasked_stands more asks is =
        let added = entries_of config.date found.row trail more in
        let same : (quote : ℕ) → word_is (trail ++ added) quote ≡ word_is trail quote = λ quote.
        word_grown config.date found.row trail more quote
        ∙ ap (λ b. word_if (was_lifted trail quote) (was_withdrawn trail quote || b))
        (asks.withdraws_none quote)
        ∙ ap (word_if (was_lifted trail quote)) (or-false (was_withdrawn trail quote)) in
        at_dealer_stands added floor.words before found.row_is
        (event_stands config number found.row trail place desk more found.stands is asks.due_so) refl
        (λ n r q known within. before.words_are n r q known within
        ∙ sym (all_dealers facts number added (λ l. word_is l q) (same q) n))

    -- where nothing happens at the desk
    pub idle_stands : desk ≡ place.desk → Stands config (facts ++ []) after
    idle_stands same =
        at_dealer_stands [] floor.words before found.row_is
        (subst (λ (d : DeskEvents). DealerStands config number found.row (trail ++ [])
        (record place { desk = d })) (sym same)
        (subst (λ l. DealerStands config number found.row l place) (sym (append-nil trail))
        found.stands))
        refl
        (subst (λ (l : List Fact). WordsStand config l floor.words) (sym (append-nil facts))
        before.words_are)

    -- A dealer is shown a request.
    shown_by : (known : Bool) (room : RoomRef) (ask : Ask) (moment : ℕ)
        → desk ≡ (if known then place.desk else with_event place.desk (event.Shown room ask moment))
        → Does config facts (if known then nothing
        else at_dealer config facts (dealer_of number found.row) (event.Shown room ask moment) [])
        after []
    unfolding event_facts
    shown_by true room ask moment is = record { stands = idle_stands is; leaves = refl }
    shown_by false room ask moment is = record {
      stands = unasked_stands (event.Shown room ask moment)
          (record { withdraws_none = λ quote. refl; due_so = refl }) is;
      leaves = refl;
    }

    -- A dealer is told of a request's end, where it may be.
    told_if : (may : Bool) (request : ℕ) (close : Close) (moment : ℕ)
        → is_some (closable (book_by trail) request) ≡ may
        → desk ≡ (if may then with_event place.desk (event.Told request close moment) else place.desk)
        → Does config facts (if may
        then at_dealer config facts (dealer_of number found.row) (event.Told request close moment) []
        else nothing) after []
    unfolding event_facts
    told_if false request close moment so is = record { stands = idle_stands is; leaves = refl }
    told_if true request close moment so is = record {
      stands = unasked_stands (event.Told request close moment) (record {
        withdraws_none = λ quote. ap (λ (b : Bool). list_any (withdraws quote)
            (if b then Told request close moment ∷ [] else [])) so;
        due_so = ap (λ (b : Bool). filter_map due_by_fact
            (if b then Told request close moment ∷ [] else [])) so;
      }) is;
      leaves = refl;
    }

    told_by : (request : Option ℕ) (close : Close) (moment : ℕ)
        → desk ≡ with_notice_in place.desk request close moment
        → Does config facts (told_of config facts (dealer_of number found.row) close moment request)
        after []
    told_by None close moment is = record { stands = idle_stands is; leaves = refl }
    told_by (Some request) close moment is =
        told_if (is_some (closable (book_by trail) request)) request close moment refl
        (is ∙ ap (λ (b : DealerBook). if is_some (closable b request)
        then with_event place.desk (event.Told request close moment) else place.desk)
        (book_is config number found.row trail place found.stands))

    -- What comes to its desk does what it should.
    pub gets : (what : ForDealer) → desk ≡ dealer_with place.desk what
        → Does config facts (dealer_gets config facts what (dealer_of number found.row)) after []
    unfolding dealer_with dealer_gets
    gets (to_dealer.Show room ask moment) is =
        shown_by (is_some (number_in (rooms_by trail) room)) room ask moment
        (is ∙ ap (λ (l : List RoomRef). if is_some (number_in l room) then place.desk
        else with_event place.desk (event.Shown room ask moment)) found.stands.rooms_are)
    gets (to_dealer.Tell room close moment) is =
        told_by (number_in (rooms_by trail) room) close moment
        (is ∙ ap (λ (l : List RoomRef). with_notice_in place.desk (number_in l room) close moment)
        found.stands.rooms_are)
