-- A trade of which a dealer was told, with the line that is printed of it, in a trail and in each longer
-- one.
use Rattle.std.proofs.Common.{◌≡◌, ℕ, ◌+◌, ◌-◌, ◌≤◌, ◌<◌, true, List, [], ◌∷◌, ◌++◌, filter}
use Rattle.std.proofs.Common.{filter_map, count_by, length, Option, Some, None, refl, sym, ap, ap₂}
use Rattle.std.proofs.Common.{◌∙◌, slice_get, arith, if◌then◌else◌}
use Rattle.std.proofs.lemmas.List.{append_assoc, append-nil, length-append, take_all}
use Rattle.std.proofs.lemmas.List.{take-append-le}
use Rattle.std.proofs.lemmas.List.Elements.{filter-append, filter_map-append}
use Rattle.std.proofs.lemmas.List.Sums.{length-filter}
use Rattle.market_terms.specs.declared.asks.Ask.{Ask}
use Rattle.market_terms.specs.declared.closes.Close.TheVariants as closes
use Rattle.market_terms.specs.declared.rooms.RoomRef.{RoomRef}
use Rattle.note_lines.specs.NoteLines.{count_to, trades_with_investor}
use Rattle.dealer_desk.specs.DealerFacts.{DealerFact, Told}
use Rattle.dealer_desk.specs.DealerOutput.{room_of}
use Rattle.dealer_desk.specs.declared.notes.DealerNote.TheVariants as note
use Rattle.step_replay.specs.DealerTrail.{AtDesk, DealerEntry, Sent, facts_of, rooms_by, sent_by}
use Rattle.step_replay.specs.Lists.{Every}
use Rattle.step_replay.specs.PlaceLemmas.{get_first}
use Rattle.laws_trades.specs.TradeNames.{ask_in, is_asked_by, notice_in, notices_to, was_asked_by}
use Rattle.laws_trades.specs.PrintedTrades.{TellsDealer}
use Rattle.laws_trades.proofs.NoticedLemmas.{IsWithin, Notes, asks, get_grown, get_next}
use Rattle.laws_trades.proofs.NoticedLemmas.{some_item, text_self}

-- what is found alike in each of some items
found_alike : {A B : Type 0} (f g : A → Option B) (P : A → Type 0) → ((x : A) → P x → f x ≡ g x)
    → (xs : List A) → Every P xs → filter_map f xs ≡ filter_map g xs
found_alike f g P alike [] each = refl
found_alike f g P alike (x ∷ xs) each =
    rw (alike x each.0, found_alike f g P alike xs each.1) refl

-- A notice of a longer trail is the one that it was.

-- a trail that has what another has, and more behind it
pub record Grows (trail longer : List DealerEntry) : Type 0 where
  pub facts_more : List DealerFact
  pub rooms_more : List RoomRef
  pub facts_are : facts_of longer ≡ facts_of trail ++ facts_more
  pub rooms_are : rooms_by longer ≡ rooms_by trail ++ rooms_more

module _ (investor : List ℕ) (trail longer : List DealerEntry) (grows : Grows trail longer) where
  pub asks_grown : asks (facts_of longer) ≡ asks (facts_of trail) ++ asks grows.facts_more
  asks_grown =
      ap asks grows.facts_are ∙ filter_map-append ask_in (facts_of trail) grows.facts_more

  asked_grown : (request : ℕ) → was_asked_by investor trail request ≡ true
      → was_asked_by investor longer request ≡ true
  asked_grown request is =
      let found = some_item investor (asks (facts_of trail)) (request - 1) is in
      ap (λ (l : List Ask). is_asked_by investor (slice_get l (request - 1))) asks_grown
      ∙ ap (is_asked_by investor)
      (get_grown (asks (facts_of trail)) (asks grows.facts_more) (request - 1) found.0 found.1)
      ∙ ap (is_asked_by investor) (sym found.1) ∙ is

  pub room_grown : (request : ℕ) (room : RoomRef) → room_of (rooms_by trail) request ≡ Some room
      → room_of (rooms_by longer) request ≡ Some room
  room_grown request room is =
      ap (λ (l : List RoomRef). room_of l request) grows.rooms_are
      ∙ get_grown (rooms_by trail) grows.rooms_more (request - 1) room is

  same_notice : length (asks (facts_of trail)) ≡ length (rooms_by trail) → (fact : DealerFact)
      → IsWithin (length (asks (facts_of trail))) fact
      → notice_in investor longer fact ≡ notice_in investor trail fact
  same_notice many (Told request closes.Hit moment) within =
      let below : (request - 1) < length (rooms_by trail) = omega (arith, many, within) in
      ap₂ (λ (a : Option Ask) (r : Option RoomRef). if is_asked_by investor a then r else None)
      (ap (λ (l : List Ask). slice_get l (request - 1)) asks_grown
      ∙ get_first (asks (facts_of trail)) (asks grows.facts_more) (request - 1) within)
      (ap (λ (l : List RoomRef). room_of l request) grows.rooms_are
      ∙ get_first (rooms_by trail) grows.rooms_more (request - 1) below)
  same_notice many (Told request close moment) within = refl
  same_notice many fact within = refl

  pub same_notices : length (asks (facts_of trail)) ≡ length (rooms_by trail) → (facts : List DealerFact)
      → Every (IsWithin (length (asks (facts_of trail)))) facts
      → filter_map (notice_in investor longer) facts ≡ filter_map (notice_in investor trail) facts
  same_notices many facts within =
      found_alike (notice_in investor longer) (notice_in investor trail)
      (IsWithin (length (asks (facts_of trail)))) (same_notice many) facts within

module _ (investor : List ℕ) where
  -- A trade that was told.
  pub record IsTold (trail : List DealerEntry) (notes : Notes) (before : List RoomRef)
      (room : RoomRef) : Type 0 where
    pub number : ℕ
    pub tells : TellsDealer trail investor room number
    pub said : slice_get notes (number - 1) ≡ Some (Some (note.Trade investor))
    pub counted : count_to (trades_with_investor investor) notes number ≡ length before + 1
    pub most : number ≤ length notes

  pub told_later : (trail more : List DealerEntry) (notes added : Notes) (before : List RoomRef)
      (room : RoomRef) → Grows trail (trail ++ more) → IsTold trail notes before room
      → IsTold (trail ++ more) (notes ++ added) before room
  told_later trail more notes added before room grows is =
      let tells = is.tells in
      let pair : List DealerEntry =
      AtDesk (Told tells.request closes.Hit tells.moment) ∷ Sent tells.message ∷ [] in
      let long : length (notes ++ added) ≡ length notes + length added = length-append notes added in
      let most = is.most in
      record {
        number = is.number;
        tells = record {
          stood = tells.stood;
          request = tells.request;
          moment = tells.moment;
          message = tells.message;
          after = tells.after ++ more;
          trail_is = ap (λ (l : List DealerEntry). l ++ more) tells.trail_is
              ∙ append_assoc (tells.stood ++ pair) tells.after more;
          asked_by = asked_grown investor trail (trail ++ more) grows tells.request tells.asked_by;
          in_room = room_grown investor trail (trail ++ more) grows tells.request room tells.in_room;
          number_is = tells.number_is;
        };
        said = get_grown notes added (is.number - 1) (Some (note.Trade investor)) is.said;
        counted = ap (count_by (trades_with_investor investor))
            (take-append-le is.number notes added is.most) ∙ is.counted;
        most = omega (arith, most, long);
      }

  pub told_now : (trail : List DealerEntry) (notes : Notes) (request moment : ℕ) (message : List ℕ)
      (room : RoomRef) → length notes ≡ length (sent_by trail)
      → length (filter (trades_with_investor investor) notes) ≡ length (notices_to investor trail)
      → was_asked_by investor
      (trail ++ (AtDesk (Told request closes.Hit moment) ∷ Sent message ∷ [])) request ≡ true
      → room_of (rooms_by (trail
      ++ (AtDesk (Told request closes.Hit moment) ∷ Sent message ∷ []))) request ≡ Some room
      → IsTold (trail ++ (AtDesk (Told request closes.Hit moment) ∷ Sent message ∷ []))
      (notes ++ Some (note.Trade investor) ∷ []) (notices_to investor trail) room
  told_now trail notes request moment message room long count asked_by in_room =
      let added : Notes = Some (note.Trade investor) ∷ [] in
      let next : length (notes ++ added) ≡ length notes + 1 = length-append notes added in
      let place : length (notes ++ added) - 1 ≡ length notes = omega (arith, next) in
      let passes : length (filter (trades_with_investor investor) added) ≡ 1 =
      rw (text_self investor) refl in
      let all : length (filter (trades_with_investor investor) (notes ++ added))
      ≡ length (filter (trades_with_investor investor) notes)
      + length (filter (trades_with_investor investor) added) =
      ap length (filter-append (trades_with_investor investor) notes added)
      ∙ length-append (filter (trades_with_investor investor) notes)
      (filter (trades_with_investor investor) added) in
      record {
        number = length (notes ++ added);
        tells = record {
          stood = trail;
          request = request;
          moment = moment;
          message = message;
          after = [];
          trail_is = sym (append-nil (trail
              ++ (AtDesk (Told request closes.Hit moment) ∷ Sent message ∷ [])));
          asked_by = asked_by;
          in_room = in_room;
          number_is = next ∙ ap (λ (n : ℕ). n + 1) long;
        };
        said = ap (slice_get (notes ++ added)) place ∙ get_next notes [] (Some (note.Trade investor));
        counted = ap (count_by (trades_with_investor investor))
            (take_all (length (notes ++ added)) (notes ++ added) (omega arith))
            ∙ sym (length-filter (trades_with_investor investor) (notes ++ added))
            ∙ (omega (arith, all, passes, count));
        most = omega arith;
      }

  pub one_notice : (trail : List DealerEntry) (request moment : ℕ) (room : RoomRef)
      → was_asked_by investor trail request ≡ true → room_of (rooms_by trail) request ≡ Some room
      → filter_map (notice_in investor trail) (Told request closes.Hit moment ∷ []) ≡ room ∷ []
  one_notice trail request moment room asked_by in_room = rw (asked_by, in_room) refl

  pub one_counted : length (filter (trades_with_investor investor) (Some (note.Trade investor) ∷ [])) ≡ 1
  one_counted = rw (text_self investor) refl
