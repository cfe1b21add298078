-- The end of a room brings what stands in a venue: a pass, an expiry, a hit.
use Rattle.laws_days.proofs.Common.{Bool, Err, List, None, Ok, Option, Result, Some, ℕ, [], ap}
use Rattle.laws_days.proofs.Common.{false, if◌then◌else◌, inr, map, not, refl, subst, true, ◌++◌}
use Rattle.laws_days.proofs.Common.{◌∙◌, ◌∷◌, ◌≡◌, and_parts, both_ways, not-true, append-nil}
use Rattle.laws_days.proofs.Common.{are_distinct, HitRefusal, Duty, ResponseRef, RoomRef, Ended}
use Rattle.laws_days.proofs.Common.{end_of, ended_as, is_ended, is_open, is_readied, is_ready}
use Rattle.laws_days.proofs.Common.{opened_for, request_of, End, RoomRequest, replies_to}
use Rattle.laws_days.proofs.Common.{close_for, Actor, Effect, QuoteRef, in_room, lifting}
use Rattle.laws_days.proofs.Common.{AuditTrail, Lifted, sweep_effect, Every, every_both, In}
use Rattle.laws_days.proofs.Common.{any_left, in_right, said_after, investor_grown}
use Rattle.laws_days.proofs.Common.{investor_in_room, own_room, room_grown, AtDealer, Fact, InRoom}
use Rattle.laws_days.proofs.Common.{of_investor, of_room}
use Rattle.market_terms.specs.declared.closes.Close.TheVariants as closes
use Rattle.market_terms.specs.declared.closes.Reply.{Reply}
use Rattle.market_terms.specs.declared.duties.Duty.TheVariants as duty
use Rattle.request_room.specs.Book.{event_facts, expired, is_past_deadline, may_expire, passed}
use Rattle.request_room.specs.declared.events.RoomEvent.TheVariants as at_room
use Rattle.venue_steps.specs.RoomSteps.{dealers_of, duties_of_pass, reply_to_pass, told_in}
use Rattle.venue_steps.specs.declared.actors.Actor.TheVariants as actor
use Rattle.laws_days.proofs.ListLemmas.{found_in, in_map, in_named, named_in, none_some, some_of}
use Rattle.laws_days.proofs.PlainFacts.{AreQuiet, is_quiet}
use Rattle.laws_days.proofs.VenueInvariant.{RespondsIn}
use Rattle.laws_days.proofs.VenueKinds.{Fine, each_once, fine_left, in_it, known, quiet_brings}
use Rattle.laws_days.proofs.VenueKinds.{room_brings, same_markets, where_brings}
use Rattle.laws_days.proofs.VenueKnown.{opened_in, ready_opened}
use Rattle.laws_days.proofs.VenueParts.{Later, LiftedIn, Telling, closer, duties_by, known_later}
use Rattle.laws_days.proofs.VenueParts.{mark_of, marks, marks_both, named_already, named_later}
use Rattle.laws_days.proofs.VenueParts.{said_later}
use Rattle.laws_days.proofs.VenueSteps.{Brings, FactThen, Here, day, queue, to_now}
use Rattle.laws_days.proofs.VenueTurns.{own_left}

-- what is lifted, where something is, stands at no other place

lifting_is : (P : List Fact → Type 0) → P []
    → ((hit : QuoteRef) → P (AtDealer hit.dealer (Lifted hit.quote) ∷ []))
    → (found : Option QuoteRef) (outcome : Result End HitRefusal) → P (lifting found outcome)
lifting_is P none one None outcome = none
lifting_is P none one (Some hit) (Ok award) = one hit
lifting_is P none one (Some hit) (Err why) = none

pub none_lifted : (found : Option QuoteRef) (why : HitRefusal) → lifting found (Err why) ≡ []
none_lifted None why = refl
none_lifted (Some hit) why = refl

module _ (h : Here) (room : RoomRef) where
  -- who is told
  abbrev listed : List ℕ
  listed = dealers_of (request_of (known h room))

  -- A room that is open.

  module _ (is : is_open (known h room) ≡ true) where
    parts : (is_ready (known h room) ≡ true) × (not (is_ended (known h room)) ≡ true)
    parts = and_parts (is_ready (known h room)) (not (is_ended (known h room))) is

    request : (r : RoomRequest) × (request_of (known h room) ≡ Some r)
    request =
        some_of (request_of (known h room)) (ready_opened h.stood room parts.0)

    distinct : are_distinct listed ≡ true
    distinct =
        ap (λ (r : Option RoomRequest). are_distinct (dealers_of r)) request.1
        ∙ (opened_in h.stood room request.0 request.1).1.ok.distinct

  -- Its end.

  module _ (end : End) (moment : ℕ) (left : Duty) (lifted : Option QuoteRef) where
    abbrev pub ending : Effect
    ending = record {
      facts = lifting lifted (Ok end) ++ map (InRoom room) (Ended end moment ∷ []);
      duties = left ∷ told_in (known h room) room end moment;
    }

    module _ (is : is_open (known h room) ≡ true) (by_is : h.by ≡ closer end.kind room)
        (fine : Fine h ending left)
        (hits : (now : AuditTrail) → Later (day h ending) now → (dealer : ℕ)
        → close_for end dealer ≡ closes.Hit → LiftedIn now.facts dealer room) where
      abbrev tell : ℕ → Duty
      tell dealer = duty.Tell dealer room (close_for end dealer) moment

      end_now : end_of (of_room room (day h ending).facts) ≡ Some end
      unfolding of_room
      end_now =
          rw (
            room_grown room h.venue.facts ending.facts,
            room_grown room (lifting lifted (Ok end)) (map (InRoom room) (Ended end moment ∷ [])),
            lifting_is (λ l. of_room room l ≡ []) refl (λ hit. refl) lifted (Ok end),
            own_room room (Ended end moment ∷ []),
          ) (said_after ended_as (known h room) (Ended end moment ∷ [])
          (none_some (end_of (known h room)) (not-true (is_ended (known h room)) (parts is).1)))

      -- that each named dealer is told it was left
      told_left : (dealer : ℕ) → In dealer listed
          → In (tell dealer) (duties_by (closer end.kind room) (day h ending).caused)
      told_left dealer is =
          subst (λ (a : Actor). In (tell dealer) (duties_by a (day h ending).caused)) by_is
          (rw (own_left h.venue h.by ending) (in_right (tell dealer) (queue h) ending.duties
          (inr (in_map tell dealer listed is))))

      ended : FactThen h ending (InRoom room (Ended end moment))
      ended now later = record {
        ready = rw ((to_now h ending later).facts_are, room_grown)
            (any_left is_readied (known h room) _ (parts is).0);
        told = λ dealer named.
            found_in mark_of (tell dealer) (Telling dealer room) _ refl
            (later.left (closer end.kind room) (tell dealer) (told_left dealer
            (rw ((request is).1) (in_named dealer (request is).0.dealers (rw ((request is).1) at
            (named_already (to_now h ending later) room (request is).0 dealer (request is).1
            named))))));
      }

      away : (investor : ℕ) → of_investor investor ending.facts ≡ []
      unfolding of_investor
      away investor =
          rw (
            investor_grown investor (lifting lifted (Ok end))
                (map (InRoom room) (Ended end moment ∷ [])),
            lifting_is (λ l. of_investor investor l ≡ []) refl (λ hit. refl) lifted (Ok end),
          ) (investor_in_room investor room (Ended end moment ∷ []))

      pub ended_brings : Brings h ending
      ended_brings =
          quiet_brings h ending
          (every_both (λ fact. is_quiet fact ≡ true) (lifting lifted (Ok end)) _
          (lifting_is AreQuiet tt (λ hit. (refl, tt)) lifted (Ok end)) (refl, tt))
          (every_both (FactThen h ending) (lifting lifted (Ok end)) _
          (lifting_is (Every (FactThen h ending)) tt (λ hit. (λ now later. tt, tt)) lifted
          (Ok end)) (ended, tt)) (
            (fine.0, rw (fine.1) tt),
            each_once h ending tell (λ dealer. Telling dealer room) (λ dealer. refl)
                (λ dealer other same. cc) (λ before dealer now later. tt) (queue h ++ left ∷ [])
                (rw (marks_both (queue h) (left ∷ []), fine.1) (append-nil (marks (queue h)))) listed
                (distinct is) (λ dealer ends. both_ways (is_ended (known h room))
                (not-true (is_ended (known h room)) (parts is).1) ends)
                (λ dealer named now later. record {
                  end = end;
                  end_is = said_later later ended_as room end end_now;
                  by_is = by_is;
                  close_is = refl;
                  named = named_later (to_now h ending later) room dealer
                      (rw ((request is).1) (named_in dealer (request is).0.dealers
                      (rw ((request is).1) at named)));
                  hit = hits now later dealer;
                }),
          )
          (λ investor. same_markets h ending.facts investor (away investor))

  -- one duty that does nothing once, where nothing ends
  pub left_brings : (left : Duty) → Fine h (in_it h room [] (left ∷ [])) left
      → Brings h (in_it h room [] (left ∷ []))
  left_brings left fine =
      room_brings h room [] (left ∷ []) tt
      (fine_left h (in_it h room [] (left ∷ [])) (queue h) (left ∷ []) (fine, tt))

  -- the reply to a response of the investor
  pub answered : {some : Bool} (response : ResponseRef) (reply : Reply) (moment : ℕ)
      → RespondsIn h.config h.by room response some h.venue → replies_to response.k reply ≡ true
      → (effect : Effect) → Fine h effect (duty.Answer room response reply moment)
  answered response reply moment fits replies effect =
      (λ now later. (replies, known_later (to_now h effect later) room response.k fits.known), refl)

  -- A pass, and an expiry.

  pub passed_brings : (response : ResponseRef) (moment : ℕ)
      → RespondsIn h.config h.by room response false h.venue
      → Brings h (in_room h.config h.venue.facts room true (at_room.Pass moment)
      (duties_of_pass (known h room) room response moment))
  unfolding event_facts
  passed_brings response moment passes =
      let none = none_some response.k passes.some_is in
      where_brings h room _ (is_open (known h room)) (Ended passed moment)
      (λ (b : Bool). reply b ∷ (if b then told_in (known h room) room passed moment else []))
      (λ is. ended_brings passed moment (reply true) None is passes.by_is
      (answered response (reply_to_pass true) moment passes (rw none refl)
      (ending passed moment (reply true) None)) (λ now later dealer hit. cc))
      (left_brings (reply false) (answered response (reply_to_pass false) moment passes
      (rw none refl) (in_it h room [] (reply false ∷ []))))
    where
      reply : Bool → Duty
      reply b = duty.Answer room response (reply_to_pass b) moment

  pub expired_brings : (moment : ℕ) → h.by ≡ actor.Clock
      → Brings h (sweep_effect h.config h.venue.facts room moment)
  unfolding event_facts sweep_effect
  expired_brings moment by_is =
      where_brings h room _ (may_expire (known h room) moment) (Ended expired moment)
      (λ (b : Bool). if b then close ∷ told_in (known h room) room expired moment else [])
      (λ is.
      let was_open = (and_parts (is_open (known h room))
      (is_past_deadline (request_of (known h room)) moment) is).0 in
      ended_brings expired moment close None was_open by_is (
        λ now later. rw (said_later (to_now h (ending expired moment close None) later) opened_for
            room (request was_open).0 (request was_open).1) refl,
        refl,
      )
      (λ now later dealer hit. cc))
      (room_brings h room [] [] tt tt)
    where
      close : Duty
      close = duty.Close room moment
