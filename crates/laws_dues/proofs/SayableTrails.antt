-- A dealer's trail by which nothing was due that due text can't say, event by event.
use Rattle.std.proofs.Common.{◌≡◌, ◌<◌, ◌≤◌, ℕ, ◌+◌, ◌==◌, Bool, true, not, List}
use Rattle.std.proofs.Common.{[], ◌∷◌, ◌++◌, length, filter_map, Option, Some, None, is_some}
use Rattle.std.proofs.Common.{if◌then◌else◌, refl, sym, ap, ◌∙◌, subst, arith}
use Rattle.std.specs.List.{list_all}
use Rattle.std.specs.Option.{option_to_list}
use Rattle.std.proofs.lemmas.Bool.{and_from}
use Rattle.std.proofs.lemmas.Bool.Decides.{nat_tests}
use Rattle.std.proofs.lemmas.List.{append-nil}
use Rattle.std.proofs.lemmas.List.Elements.{filter_map-append}
use Rattle.std.proofs.lemmas.List.Folds.{list_all-append}
use Rattle.market_terms.specs.declared.asks.Ask.{Ask}
use Rattle.market_terms.specs.declared.closes.Close.{Close}
use Rattle.market_terms.specs.declared.rooms.RoomRef.{RoomRef}
use Rattle.quote_word.specs.declared.settled.Settled.{Settled}
use Rattle.venue_rows.specs.Rows.{Configuration, KeepsLimits}
use Rattle.venue_rows.specs.Texts.{is_firm_name}
use Rattle.venue_rows.specs.declared.dealer_rows.DealerRow.{DealerRow}
use Rattle.dealer_desk.specs.DealerFacts.{Told, number_to_drop}
use Rattle.dealer_desk.specs.DealerOutput.{closable, event_facts, number_in, shown_room}
use Rattle.dealer_desk.specs.DealerRules.{dealer_verdict}
use Rattle.dealer_desk.specs.declared.events.DealerEvent.{DealerEvent}
use Rattle.dealer_desk.specs.declared.events.DealerEvent.TheVariants as event
use Rattle.dealer_desk.specs.declared.standing.Withdrawal.TheVariants as by
use Rattle.step_replay.specs.DealerGrowth.{due_grown, rooms_grown, settled_undue, verdict_undue}
use Rattle.step_replay.specs.DealerTrail.{DealerEntry, Lifted, book_by, entries_of, room_in}
use Rattle.step_replay.specs.DealerTrail.{rooms_by}
use Rattle.step_replay.specs.DueList.{due_by, due_by_fact, due_list}
use Rattle.step_replay.specs.EachLemmas.{every_both}
use Rattle.step_replay.specs.Lists.{Every}
use Rattle.step_replay.specs.declared.dues.Due.{Due}
use Rattle.step_replay.specs.declared.dues.Due.TheVariants as due
use Rattle.venue_text.specs.ReadBack.{is_sayable, is_short}
use Rattle.laws_dues.proofs.RoomCounts.{AreApart, HasRoom, apart_push, few_rooms, number_below}

-- What was due can be said, and the requests that were shown are of different rooms of the venue.
pub record TrailFits (config : Configuration) (trail : List DealerEntry) : Type 0 where
  pub sayable : list_all is_sayable (due_list trail) ≡ true
  pub apart : AreApart (rooms_by trail)
  pub rooms : Every (HasRoom config) (rooms_by trail)

-- Numbers.

pub short_below : (n : ℕ) → n < 1000000000 → is_short n ≡ true
short_below n below = grind (arith, nat_tests)

-- the number of a request that was shown
pub request_short : (config : Configuration) → KeepsLimits config → (trail : List DealerEntry)
    → TrailFits config trail → (room : RoomRef) (number : ℕ)
    → number_in (rooms_by trail) room ≡ Some number → is_short number ≡ true
request_short config limits trail fits room number is =
    let few : length (rooms_by trail) ≤ 4096 =
    few_rooms config limits (rooms_by trail) fits.apart fits.rooms in
    let within : number < 1 + length (rooms_by trail) =
    number_below 1 (rooms_by trail) room number is in
    short_below number (omega arith)

-- One item more.

push_sayable : (dues : List Due) (item : Due) → list_all is_sayable dues ≡ true
    → is_sayable item ≡ true → list_all is_sayable (dues ++ item ∷ []) ≡ true
push_sayable dues item before sayable =
    list_all-append is_sayable dues (item ∷ [])
    ∙ and_from (list_all is_sayable dues) (list_all is_sayable (item ∷ [])) before
    (and_from (is_sayable item) true sayable refl)

module _ (config : Configuration) (date : List ℕ) (row : DealerRow) (trail : List DealerEntry)
    (before : TrailFits config trail) (more : DealerEvent) (item : Due)
    (is : filter_map due_by_fact (event_facts date row (book_by trail) more) ≡ item ∷ [])
    (sayable : is_sayable item ≡ true) where
  dues_fit : list_all is_sayable (due_list (trail ++ entries_of date row trail more)) ≡ true
  dues_fit =
      ap (list_all is_sayable) (due_grown date row trail more item is)
      ∙ push_sayable (due_list trail) item before.sayable sayable

  -- an event that shows no request
  silent_fits : shown_room more ≡ None → TrailFits config (trail ++ entries_of date row trail more)
  silent_fits none =
      let same : rooms_by (trail ++ entries_of date row trail more) ≡ rooms_by trail =
      rooms_grown date row trail more
      ∙ ap (λ (shown : Option RoomRef). rooms_by trail ++ option_to_list shown) none
      ∙ append-nil (rooms_by trail) in
      record {
        sayable = dues_fit;
        apart = subst AreApart (sym same) before.apart;
        rooms = subst (Every (HasRoom config)) (sym same) before.rooms;
      }

  -- one that shows a request of a room that was not shown
  showing_fits : (room : RoomRef) → shown_room more ≡ Some room
      → number_in (rooms_by trail) room ≡ None → HasRoom config room
      → TrailFits config (trail ++ entries_of date row trail more)
  showing_fits room shows none has =
      let same : rooms_by (trail ++ entries_of date row trail more) ≡ rooms_by trail ++ room ∷ [] =
      rooms_grown date row trail more
      ∙ ap (λ (shown : Option RoomRef). rooms_by trail ++ option_to_list shown) shows in
      record {
        sayable = dues_fit;
        apart = subst AreApart (sym same) (apart_push 1 (rooms_by trail) room before.apart none);
        rooms = subst (Every (HasRoom config)) (sym same)
            (every_both (HasRoom config) (rooms_by trail) (room ∷ []) before.rooms (has, tt));
      }

-- The five kinds of what is due.

module _ (config : Configuration) (date : List ℕ) (row : DealerRow) (trail : List DealerEntry)
    (before : TrailFits config trail) where
  pub own_fits : (moment : ℕ) (bytes : List ℕ) (settlement : Option Settled)
      → not (length bytes == 0) ≡ true
      → TrailFits config (trail ++ entries_of date row trail
      (event.Received moment bytes settlement))
  unfolding event_facts
  own_fits moment bytes settlement has =
      silent_fits config date row trail before (event.Received moment bytes settlement)
      (due.Own moment bytes)
      (ap (λ l. due.Own moment bytes ∷ l)
      (verdict_undue (dealer_verdict date row (book_by trail) moment bytes) settlement))
      has refl

  pub drop_fits : (last moment : ℕ) (settlement : Option Settled) → is_short last ≡ true
      → TrailFits config (trail ++ entries_of date row trail (event.Drop last moment settlement))
  unfolding event_facts
  drop_fits last moment settlement short =
      silent_fits config date row trail before (event.Drop last moment settlement)
      (due.Drop last moment)
      (ap (λ l. due.Drop last moment ∷ l)
      (settled_undue (number_to_drop (book_by trail) last) by.Cancel settlement))
      short refl

  pub told_fits : (request : ℕ) (close : Close) (moment : ℕ)
      → is_some (closable (book_by trail) request) ≡ true → is_short request ≡ true
      → TrailFits config (trail ++ entries_of date row trail (event.Told request close moment))
  unfolding event_facts
  told_fits request close moment may short =
      silent_fits config date row trail before (event.Told request close moment)
      (due.Closed request close moment)
      (ap (λ (b : Bool). filter_map due_by_fact
      (if b then Told request close moment ∷ [] else [])) may)
      short refl

  pub shown_fits : (room : RoomRef) (ask : Ask) (moment : ℕ)
      → number_in (rooms_by trail) room ≡ None → is_firm_name ask.investor ≡ true
      → HasRoom config room
      → TrailFits config (trail ++ entries_of date row trail (event.Shown room ask moment))
  unfolding event_facts
  shown_fits room ask moment none named has =
      showing_fits config date row trail before (event.Shown room ask moment)
      (due.Shown ask moment) refl named room refl none has

  pub lifted_fits : (quote : ℕ) → is_short quote ≡ true
      → TrailFits config (trail ++ Lifted quote ∷ [])
  lifted_fits quote short =
      let same : rooms_by (trail ++ Lifted quote ∷ []) ≡ rooms_by trail =
      filter_map-append room_in trail (Lifted quote ∷ []) ∙ append-nil (rooms_by trail) in
      record {
        sayable = ap (list_all is_sayable) (filter_map-append due_by trail (Lifted quote ∷ []))
            ∙ push_sayable (due_list trail) (due.Lifted quote) before.sayable short;
        apart = subst AreApart (sym same) before.apart;
        rooms = subst (Every (HasRoom config)) (sym same) before.rooms;
      }
