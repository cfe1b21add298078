-- What has to be so of all that an action may leave, whatever is to be shown of what it leaves.
use Rattle.std.proofs.Common.{ℕ, zero, suc, ◌-◌, Bool, true, false, List, [], ◌∷◌, ◌++◌, map}
use Rattle.std.proofs.Common.{Option, Some, None, IfSome, option_map, is_some, if◌then◌else◌}
use Rattle.std.proofs.Common.{Result, Ok, Err}
use Rattle.std.specs.Prelude.{slice_get}
use Rattle.std.specs.Option.{option_to_list}
use Rattle.market_terms.specs.declared.closes.Close.{Close}
use Rattle.market_terms.specs.declared.closes.HitRefusal.{HitRefusal}
use Rattle.market_terms.specs.declared.closes.Reply.{Reply}
use Rattle.market_terms.specs.declared.duties.Duty.{Duty}
use Rattle.market_terms.specs.declared.duties.Duty.TheVariants as duty
use Rattle.market_terms.specs.declared.rooms.Offer.{Offer}
use Rattle.market_terms.specs.declared.rooms.RoomRef.{RoomRef}
use Rattle.quote_word.specs.declared.settled.Settled.{Settled}
use Rattle.venue_rows.specs.Rows.{Configuration}
use Rattle.venue_rows.specs.declared.dealer_rows.DealerRow.{DealerRow}
use Rattle.dealer_desk.specs.DealerFacts.{quote_to_drop}
use Rattle.dealer_desk.specs.DealerOutput.{further_drop, goes_through, is_withdrawn, post_of}
use Rattle.dealer_desk.specs.DealerOutput.{room_of, unpost_dropped, verdict_duty}
use Rattle.dealer_desk.specs.declared.standing.StandingQuote.{StandingQuote}
use Rattle.dealer_desk.specs.declared.verdicts.DealerVerdict.{DealerVerdict}
use Rattle.dealer_desk.specs.declared.verdicts.DealerVerdict.TheVariants as verdict
use Rattle.request_room.specs.RoomFacts.{request_of}
use Rattle.request_room.specs.declared.ends.End.{End}
use Rattle.venue_steps.specs.RoomDuties.{close_for, dealers_of, reply_to_pass, told_in, told_of_hit}
use Rattle.venue_steps.specs.RoomDuties.{where_follows}
use Rattle.venue_steps.specs.declared.actors.Actor.{Actor}
use Rattle.venue_steps.specs.declared.actors.Actor.TheVariants as actor
use Rattle.step_replay.specs.Actions.{answer_to_drop, dealer_of, drop_at, left_by_drop}
use Rattle.step_replay.specs.DealerTrail.{book_by, entries_of, rooms_by}
use Rattle.step_replay.specs.EachLemmas.{every_both}
use Rattle.step_replay.specs.Lists.{Every}
use Rattle.step_replay.specs.VenueFacts.{Fact, of_dealer, of_room}
use Rattle.laws_days.specs.KeptItems.{every_in}

module _ (P : Duty → Type 0) where
  pub if_each : (b : Bool) (duties : List Duty) → Every P duties
      → Every P (if b then duties else [])
  if_each true duties each = each
  if_each false duties each = tt

  pub follows : (b : Bool) (more : Duty) → P more → Every P (where_follows b more)
  follows true more is = (is, tt)
  follows false more is = tt

  pub some_each : (found : Option Duty) → IfSome found P → Every P (option_to_list found)
  some_each None is = tt
  some_each (Some more) is = (is, tt)

  -- in the room of a request that a dealer was shown
  in_a_room : (does : RoomRef → Duty) (rooms : List RoomRef)
      → Every (λ (room : RoomRef). P (does room)) rooms → (b : Bool) (request : ℕ)
      → Every P (option_to_list (if b then option_map does (room_of rooms request) else None))
  in_a_room does rooms each b request = at_place b rooms each (request - 1)
    where
      at_place : (c : Bool) (shown : List RoomRef)
          → Every (λ (room : RoomRef). P (does room)) shown → (i : ℕ)
          → Every P (option_to_list (if c then option_map does (slice_get shown i) else None))
      at_place false shown each_too i = tt
      at_place true [] each_too i = tt
      at_place true (room ∷ shown) each_too zero = (each_too.0, tt)
      at_place true (room ∷ shown) each_too (suc i) = at_place true shown each_too.1 i

module _ (P : Duty → Type 0) (config : Configuration) (facts : List Fact) where
  -- What has to be so of what may be left.

  -- each room of a request that a dealer was shown
  abbrev pub InRooms : ℕ → (RoomRef → Duty) → Type 0
  InRooms dealer does =
      Every (λ (room : RoomRef). P (does room)) (rooms_by (of_dealer dealer facts))

  -- each dealer that the request of a room names is told of its end
  abbrev pub AreTold : RoomRef → ℕ → Type 0
  AreTold room moment =
      Every (λ (dealer : ℕ). (close : Close) → P (duty.Tell dealer room close moment))
      (dealers_of (request_of (of_room room facts)))

  -- of a drop of the quotes up to this one
  abbrev pub MayDrop : Actor → ℕ → ℕ → Type 0
  MayDrop (actor.Firm dealer) last moment =
      ((quote : ℕ) → InRooms dealer (λ room. duty.Unpost room quote moment))
      × P (duty.Drop last moment)
  MayDrop actor.Clock last moment = Unit {0}

  -- of a duty
  abbrev pub MayLeave : Actor → Duty → Type 0
  MayLeave by (duty.Open room ask dealers moment) =
      Every (λ (dealer : ℕ). P (duty.Show dealer room ask moment)) dealers
      × P (duty.Ready room moment)
  MayLeave by (duty.Post room quote price valid_until moment) =
      (offer : Offer) → P (duty.Relay room offer moment)
  MayLeave by (duty.Unpost room quote moment) = (word : ℕ) → P (duty.Gone room word moment)
  MayLeave by (duty.Decline room moment) = P (duty.Declined room moment)
  MayLeave by (duty.Hit room response word moment) =
      ((reply : Reply) → P (duty.Answer room response reply moment)) × AreTold room moment
  MayLeave by (duty.Pass room response moment) =
      ((open_yet : Bool) → P (duty.Answer room response (reply_to_pass open_yet) moment))
      × AreTold room moment
  MayLeave by (duty.Drop last moment) = MayDrop by last moment
  MayLeave by other = Unit {0}

  -- of a dealer's verdict
  abbrev pub MaySay : ℕ → ℕ → DealerVerdict → Type 0
  MaySay dealer moment (verdict.QuoteAccepted request id quote replaced) =
      InRooms dealer (post_of quote)
  MaySay dealer moment (verdict.CancelAccepted id quote request) =
      InRooms dealer (λ room. duty.Unpost room quote moment)
  MaySay dealer moment (verdict.DropsFollow last) = P (duty.Drop last moment)
  MaySay dealer moment (verdict.DeclineAccepted request number) =
      InRooms dealer (λ room. duty.Decline room moment)
  MaySay dealer moment other = Unit {0}

  -- In a room.

  pub told_each : (room : RoomRef) (end : End) (moment : ℕ) → AreTold room moment
      → Every P (told_in (of_room room facts) room end moment)
  told_each room end moment told =
      every_in (λ (dealer : ℕ). (close : Close) → P (duty.Tell dealer room close moment)) P
      (λ dealer. duty.Tell dealer room (close_for end dealer) moment)
      (λ dealer each. each (close_for end dealer)) (dealers_of (request_of (of_room room facts)))
      told

  pub outcome_each : (room : RoomRef) (moment : ℕ) → AreTold room moment
      → (outcome : Result End HitRefusal)
      → Every P (told_of_hit (of_room room facts) room moment outcome)
  outcome_each room moment told (Ok award) = told_each room award moment told
  outcome_each room moment told (Err refused) = tt

  pub shown_each : (room : RoomRef) (moment : ℕ) (shows : ℕ → Duty) (dealers : List ℕ)
      → Every (λ (dealer : ℕ). P (shows dealer)) dealers × P (duty.Ready room moment)
      → Every P (map shows dealers ++ duty.Ready room moment ∷ [])
  shown_each room moment shows dealers is =
      every_both P (map shows dealers) (duty.Ready room moment ∷ [])
      (every_in (λ (dealer : ℕ). P (shows dealer)) P shows (λ dealer one. one) dealers is.0)
      (is.1, tt)

  -- At a dealer.

  pub verdict_each : (dealer moment : ℕ) (v : DealerVerdict) (settlement : Option Settled)
      → MaySay dealer moment v
      → Every P (option_to_list
      (verdict_duty (rooms_by (of_dealer dealer facts)) moment v settlement))
  verdict_each dealer moment (verdict.QuoteAccepted request id quote replaced) settlement is =
      in_a_room P (post_of quote) (rooms_by (of_dealer dealer facts)) is
      (goes_through replaced settlement) quote.request
  verdict_each dealer moment (verdict.CancelAccepted id quote request) settlement is =
      in_a_room P (λ room. duty.Unpost room quote moment) (rooms_by (of_dealer dealer facts)) is
      (is_withdrawn settlement) request
  verdict_each dealer moment (verdict.DropsFollow last) settlement is = (is, tt)
  verdict_each dealer moment (verdict.DeclineAccepted request number) settlement is =
      in_a_room P (λ room. duty.Decline room moment) (rooms_by (of_dealer dealer facts)) is true
      number
  verdict_each dealer moment other settlement is = tt

  pub drop_each : (number last moment : ℕ) (row : DealerRow)
      → MayDrop (actor.Firm number) last moment
      → Every P (left_by_drop config facts last moment (dealer_of number row))
  drop_each number last moment row is =
      let trail = of_dealer number facts in
      let after = trail ++ entries_of config.date row trail (drop_at trail last moment) in
      every_both P
      (option_to_list (unpost_dropped (rooms_by trail) moment (answer_to_drop trail last)
      (quote_to_drop (book_by trail) last)))
      (option_to_list (further_drop (book_by after) last moment))
      (unposted (answer_to_drop trail last) (quote_to_drop (book_by trail) last))
      (if_further (is_some (quote_to_drop (book_by after) last)))
    where
      unposted : (settlement : Option Settled) (found : Option StandingQuote)
          → Every P (option_to_list
          (unpost_dropped (rooms_by (of_dealer number facts)) moment settlement found))
      unposted settlement None = tt
      unposted settlement (Some own) =
          in_a_room P (λ room. duty.Unpost room own.quote.number moment)
          (rooms_by (of_dealer number facts)) (is.0 own.quote.number) (is_withdrawn settlement)
          own.quote.request

      if_further : (b : Bool)
          → Every P (option_to_list (if b then Some (duty.Drop last moment) else None))
      if_further true = (is.1, tt)
      if_further false = tt
