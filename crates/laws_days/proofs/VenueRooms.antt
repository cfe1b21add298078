-- What is done once brings what stands in a venue: a room is opened, its request is shown, it is
-- made ready, and a dealer is told its end. So do quotes and declines.
use Rattle.laws_days.proofs.Common.{Bool, List, None, Option, Some, ℕ, [], ap, eq-eqb, false}
use Rattle.laws_days.proofs.Common.{if◌then◌else◌, inl, inr, is_none, is_some, length, map, not}
use Rattle.laws_days.proofs.Common.{option_to_list, refl, subst, sym, true, ◌++◌, ◌+◌, ◌==◌, ◌∙◌}
use Rattle.laws_days.proofs.Common.{◌∷◌, ◌≡◌, and_parts, or_left, append-nil, filter_map-append}
use Rattle.laws_days.proofs.Common.{list_any, Ask, Close, Duty, RoomRef, dealer_numbered}
use Rattle.laws_days.proofs.Common.{DealerRow, Told, tells, closable, event_facts, number_in}
use Rattle.laws_days.proofs.Common.{fact_if, Opened, Readied, RoomFact, is_ended, is_named}
use Rattle.laws_days.proofs.Common.{is_opening, is_vacant, names, opened_for, request_of}
use Rattle.laws_days.proofs.Common.{RoomRequest, where_follows, Effect, dealer_of, in_room}
use Rattle.laws_days.proofs.Common.{nothing, told_to, AuditTrail, rooms_grown, AtDesk, DealerEntry}
use Rattle.laws_days.proofs.Common.{Sent, book_by, entries_of, facts_of, message_by, rooms_by}
use Rattle.laws_days.proofs.Common.{Every, each_append, In, all_in, any_right, in_right}
use Rattle.laws_days.proofs.Common.{said_after, dealer_grown, own_room, own_trail, room_grown}
use Rattle.laws_days.proofs.Common.{AtDealer, InRoom, of_dealer, of_room}
use Rattle.market_terms.specs.declared.closes.Close.TheVariants as closes
use Rattle.market_terms.specs.declared.duties.Duty.TheVariants as duty
use Rattle.market_terms.specs.declared.duties.Duty.TheVariants as duty
use Rattle.dealer_desk.specs.declared.events.DealerEvent.TheVariants as event
use Rattle.request_room.specs.Book.{event_facts as room_facts}
use Rattle.request_room.specs.declared.events.RoomEvent.TheVariants as at_room
use Rattle.step_replay.specs.Actions.{shown_to, told_of}
use Rattle.step_replay.specs.LineActions.{opened}
use Rattle.step_replay.specs.GrowthLemmas.{number_next, numbered_push}
use Rattle.laws_days.proofs.ListLemmas.{every_map, found_in, in_both, in_found, in_map, in_named}
use Rattle.laws_days.proofs.ListLemmas.{named_in, none_is, none_some}
use Rattle.laws_days.proofs.LiveQuotes.{LoneQuotes, hit_names}
use Rattle.laws_days.proofs.PlainFacts.{plain_names, plain_rooms, sent_plain}
use Rattle.laws_days.proofs.VenueInvariant.{DeskOk, LeftOk, OpensIn, TellsIn}
use Rattle.laws_days.proofs.VenueKinds.{DoneNow, Fine, at_desk, desk_brings, each_once, fine_left}
use Rattle.laws_days.proofs.VenueKinds.{in_it, known, plain_ok, queued, room_brings, when_brings}
use Rattle.laws_days.proofs.VenueKinds.{where_brings}
use Rattle.laws_days.proofs.VenueKnown.{room_self}
use Rattle.laws_days.proofs.VenueParts.{BearsLimits, InOrder, IsOpened, Later, Mark, MarkOk}
use Rattle.laws_days.proofs.VenueParts.{NamesLifted, Readying, Showing, Still, Telling, did_in}
use Rattle.laws_days.proofs.VenueParts.{mark_of, marks, marks_both, number_for, number_later}
use Rattle.laws_days.proofs.VenueParts.{said_later, told_later}
use Rattle.laws_days.proofs.VenueSteps.{Brings, DutyThen, FactThen, Here, day, queue, since}
use Rattle.laws_days.proofs.VenueSteps.{to_now, trail_of}

module _ (h : Here) (room : RoomRef) where
  -- An opening.

  module _ (ask : Ask) (dealers : List ℕ) (moment : ℕ) where
    abbrev request : RoomRequest
    request = record { ask = ask; dealers = dealers }

    abbrev show : ℕ → Duty
    show dealer = duty.Show dealer room ask moment

    abbrev showing : List Duty
    showing = map show dealers

    abbrev opening : Effect
    opening = in_it h room (Opened request ∷ []) (showing ++ duty.Ready room moment ∷ [])

    module _ (opens : OpensIn h.config h.by room ask dealers h.venue)
        (did : DoneNow h (duty.Open room ask dealers moment))
        (none : request_of (known h room) ≡ None) where
      request_is : (now : AuditTrail) → Later (day h opening) now
          → request_of (of_room room now.facts) ≡ Some request
      request_is now later =
          said_later later opened_for room request
          (rw (room_grown room h.venue.facts opening.facts, own_room room (Opened request ∷ []))
          (said_after opened_for (known h room) (Opened request ∷ []) none))

      named_is : (now : AuditTrail) → Later (day h opening) now → (dealer : ℕ)
          → list_any (λ (named : ℕ). named == dealer) dealers
          ≡ is_named (of_room room now.facts) dealer
      named_is now later dealer =
          ap (λ (r : Option RoomRequest). names r dealer) (sym (request_is now later))

      -- nothing of the room is left yet
      unopened : IsOpened room h.venue.facts → ⊥
      unopened is = cc (rw none at is)

      unready : In (Readying room) (marks (queue h ++ showing)) → ⊥
      unready is =
          elim (in_both (Readying room) (marks (queue h)) (marks showing)
          (rw (marks_both (queue h) showing) at is)) [
            | inl before ↦ unopened (queued h (Readying room) before)
            | inr shows ↦
                let shown = in_found mark_of (Readying room) showing shows in
                all_in (λ left. mark_of left ≡ Some (Readying room) → ⊥) shown.0 showing
                (every_map (λ left. mark_of left ≡ Some (Readying room) → ⊥) show dealers
                (λ dealer among is. cc)) shown.2 shown.1
          ]

      shows_all : (now : AuditTrail) → Later (day h opening) now
          → InOrder (marks (queue h ++ showing)) (Readying room) now
      shows_all now later dealer named =
          found_in mark_of (show dealer) (Showing dealer room) (queue h ++ showing) refl
          (in_right (show dealer) (queue h) showing (in_map show dealer dealers
          (in_named dealer dealers (named_is now later dealer ∙ named))))

      vacant_brings : Brings h opening
      vacant_brings =
          room_brings h room (Opened request ∷ []) opening.duties
          (λ now later. (moment, did opening now later), tt)
          (each_append (LeftOk h.config (day h opening) h.by) (λ before left after more ok. ok)
          (queue h) showing (duty.Ready room moment ∷ [])
          (each_once h opening show (λ dealer. Showing dealer room) (λ dealer. refl)
          (λ dealer other same. cc) (λ before dealer now later. tt) (queue h) refl dealers
          opens.distinct (λ dealer. unopened)
          (λ dealer among now later. record {
            by_is = opens.by_is;
            named = sym (named_is now later dealer) ∙ named_in dealer dealers among;
            bears = opens.bears;
          })) (
            (
              λ now later. (opens.by_is, rw (request_is now later) refl),
              (unready, shows_all),
            ),
            tt,
          ))

    pub opened_brings : OpensIn h.config h.by room ask dealers h.venue
        → DoneNow h (duty.Open room ask dealers moment)
        → Brings h (opened h.config h.venue.facts room ask dealers moment)
    unfolding room_facts
    opened_brings opens did =
        where_brings h room _ (is_vacant (known h room)) (Opened request)
        (λ (b : Bool). if b then showing ++ duty.Ready room moment ∷ [] else [])
        (λ vacant. vacant_brings opens did (none_is (request_of (known h room))
        (and_parts (is_none (request_of (known h room))) (not (is_ended (known h room))) vacant).0))
        (room_brings h room [] [] tt tt)

  pub readied_brings : (moment : ℕ)
      → Still (InOrder (marks (did_in h.venue h.by)) (Readying room)) h.venue
      → DoneNow h (duty.Ready room moment)
      → Brings h (in_room h.config h.venue.facts room true at_room.Ready [])
  unfolding room_facts
  readied_brings moment shows did =
      let effect = in_it h room (Readied ∷ []) [] in
      where_brings h room _ (is_opening (known h room)) Readied (λ b. [])
      (λ opens. room_brings h room (Readied ∷ []) [] (
        λ now later. let up = to_now h effect later in
            record {
              moment = moment;
              did = did effect now later;
              shown = λ dealer named.
                  all_in (λ mark. Still (MarkOk mark) h.venue) (Showing dealer room)
                  (marks (did_in h.venue h.by)) (h.stood.queues h.by).done
                  (shows now up dealer named) now up;
            },
        tt,
      ) tt)
      (room_brings h room [] [] tt tt)

  -- Quotes and declines.

  -- a fact that may be added, and a duty that may follow
  pub may_bring : (may b c : Bool) (fact : RoomFact) (left : Duty) → mark_of left ≡ None
      → ((effect : Effect) → FactThen h effect (InRoom room fact))
      → ((effect : Effect) → DutyThen h effect left)
      → Brings h (if may then in_it h room (fact_if b fact) (where_follows c left) else nothing)
  may_bring may b c fact left free ok leaves =
      when_brings h may _ (λ test.
      room_brings h room (fact_if b fact) (where_follows c left) (fact_ok b)
      (fine_left h effect (queue h) (where_follows c left) (follows c)))
    where
      effect : Effect
      effect = in_it h room (fact_if b fact) (where_follows c left)

      fact_ok : (d : Bool) → Every (λ f. FactThen h effect (InRoom room f)) (fact_if d fact)
      fact_ok true = (ok effect, tt)
      fact_ok false = tt

      follows : (d : Bool) → Every (Fine h effect) (where_follows d left)
      follows true = ((leaves effect, free), tt)
      follows false = tt

-- At a dealer's desk: a request that is shown, and a notice that is told.

module _ (h : Here) (dealer : ℕ) (row : DealerRow)
    (is : dealer_numbered h.config dealer ≡ Some row) (room : RoomRef) (moment : ℕ) where
  abbrev own : List DealerEntry
  own = trail_of h dealer

  desk : DeskOk h.config h.venue.facts dealer row
  desk = h.stood.desks dealer row is

  trail_with : (entries : List DealerEntry)
      → of_dealer dealer (day h (at_desk h dealer entries [])).facts ≡ own ++ entries
  trail_with entries =
      rw (
        dealer_grown dealer h.venue.facts (map (AtDealer dealer) entries),
        own_trail dealer entries,
      ) refl

  -- what happens at the desk, and what is done by it
  abbrev Does : Effect → Mark → Type 0
  Does effect mark = Brings h effect × Still (MarkOk mark) (day h effect)

  pub shown_brings : is_some (number_in (rooms_by own) room) ≡ false → (ask : Ask)
      → BearsLimits h.config ask → DoneNow h (duty.Show dealer room ask moment)
      → Does (shown_to h.config h.venue.facts room ask moment (dealer_of dealer row))
      (Showing dealer room)
  unfolding entries_of event_facts
  shown_brings yet ask bears did =
      let more = event.Shown room ask moment in
      let entries = entries_of h.config.date row own more in
      let effect = at_desk h dealer entries [] in
      rw yet (
        desk_brings h dealer row is entries [] (
          rw (rooms_grown h.config.date row own more) (numbered_push (rooms_by own) room
              desk.numbered (none_some _ yet) (room_self room)),
          (tt, (tt, plain_names h.config.date row _ (map Sent _) (sent_plain _))),
        ) (
          λ now later. bears,
          (λ now later. (ask, moment, did effect now later), plain_ok h effect dealer _ (sent_plain _)),
        ) tt,
        λ now later. rw (number_later later dealer room (1 + length (rooms_by own))
            (rw (trail_with entries, rooms_grown h.config.date row own more)
            (number_next 1 (rooms_by own) room (none_some _ yet) (room_self room)))) refl,
      )

  module _ (lone : LoneQuotes) (close : Close)
      (fits : TellsIn h.config h.by dealer room close h.venue) (request : ℕ)
      (found : number_for h.venue.facts dealer room ≡ Some request)
      (may : is_some (closable (book_by own) request) ≡ true)
      (did : DoneNow h (duty.Tell dealer room close moment)) where
    -- what is sent of a notice
    abbrev sent_of : Close → List DealerEntry
    sent_of how = map Sent (option_to_list (message_by h.config.date row own
        (event.Told request how moment)))

    told_names : (how : Close) → how ≡ close
        → NamesLifted h.config.date row own (AtDesk (Told request how moment)) (sent_of how)
    told_names closes.Hit how =
        hit_names lone h.config h.venue.facts dealer row desk room request moment
        (fits.hit (sym how)) found may
    told_names other how = tt

    pub told_brings : Does (told_to h.config h.venue.facts room close moment (dealer_of dealer row))
        (Telling dealer room)
    unfolding entries_of event_facts
    told_brings =
        let entries : List DealerEntry = AtDesk (Told request close moment) ∷ sent_of close in
        let effect = at_desk h dealer entries [] in
        let plain = sent_plain (option_to_list (message_by h.config.date row own
        (event.Told request close moment))) in
        subst (λ (o : Option ℕ). Does (told_of h.config h.venue.facts (dealer_of dealer row) close
        moment o) (Telling dealer room)) (sym found) (rw may (
          desk_brings h dealer row is entries [] (
            rw (filter_map-append, plain_rooms (sent_of close) plain, append-nil) desk.numbered,
            (told_names close refl, plain_names h.config.date row _ (sent_of close) plain),
          ) (
            λ now later. record {
              room = room;
              moment = moment;
              request_is = number_later (to_now h effect later) dealer room request found;
              did = did effect now later;
            },
            plain_ok h effect dealer (sent_of close) plain,
          ) tt,
          λ now later. told_later later dealer room (record {
            request = request;
            request_is = number_later (since h effect) dealer room request found;
            told = rw (trail_with entries, filter_map-append)
                (any_right (tells request) (facts_of own) (facts_of entries)
                (or_left _ _ (eq-eqb request request refl)));
          }),
        ))
