-- What a duty does, whatever is to be shown of it: nothing, one event at one desk or in one room, or a
-- hit. The walk of the fifteen duties stands here: whoever shows something of each event that a duty
-- may bring has shown it of each duty.
use Rattle.std.proofs.Common.{◌≡◌, ◌&&◌, ℕ, Bool, true, false, List, [], Option, Some, None}
use Rattle.std.proofs.Common.{option_map, is_some, refl, if◌then◌else◌}
use Rattle.market_terms.specs.declared.asks.Ask.{Ask}
use Rattle.market_terms.specs.declared.closes.Close.{Close}
use Rattle.market_terms.specs.declared.duties.Duty.{Duty}
use Rattle.market_terms.specs.declared.duties.Duty.TheVariants as duty
use Rattle.market_terms.specs.declared.rooms.ResponseRef.{ResponseRef}
use Rattle.market_terms.specs.declared.rooms.RoomRef.{RoomRef}
use Rattle.quote_word.specs.declared.settled.Settled.{Settled}
use Rattle.venue_rows.specs.Rows.{Configuration, dealer_numbered, has_room, investor_numbered}
use Rattle.venue_rows.specs.declared.dealer_rows.DealerRow.{DealerRow}
use Rattle.venue_rows.specs.declared.investor_rows.InvestorRow.{InvestorRow}
use Rattle.dealer_desk.specs.DealerOutput.{closable, number_in}
use Rattle.dealer_desk.specs.declared.events.DealerEvent.{DealerEvent}
use Rattle.dealer_desk.specs.declared.events.DealerEvent.TheVariants as at_desk
use Rattle.investor_desk.specs.InvestorDesk.{market_for, market_of}
use Rattle.investor_desk.specs.InvestorRules.{InvestorMarket}
use Rattle.investor_desk.specs.declared.events.InvestorEvent.{InvestorEvent}
use Rattle.investor_desk.specs.declared.events.InvestorEvent.TheVariants as at_investor
use Rattle.request_room.specs.declared.events.RoomEvent.{RoomEvent}
use Rattle.request_room.specs.declared.events.RoomEvent.TheVariants as at_room
use Rattle.venue_steps.specs.Replies.{replies_to}
use Rattle.venue_steps.specs.RoomDuties.{duties_of_decline, duties_of_expire, duties_of_hit}
use Rattle.venue_steps.specs.RoomDuties.{duties_of_open, duties_of_pass, duties_of_post}
use Rattle.venue_steps.specs.RoomDuties.{duties_of_unpost, hit_word}
use Rattle.venue_steps.specs.WordNumbers.{has_word}
use Rattle.venue_steps.specs.Placed.{desk_of_line, room_of_line}
use Rattle.venue_steps.specs.Table.{line_of}
use Rattle.venue_steps.specs.declared.actors.Actor.{Actor}
use Rattle.venue_steps.specs.declared.actors.Actor.TheVariants as actor
use Rattle.step_replay.specs.ActionKinds.{event_in, hit_here}
use Rattle.step_replay.specs.Actions.{Effect, answer_to_hit, at_dealer}
use Rattle.step_replay.specs.Actions.{at_market, dealer_at, dealer_of, done_by, done_for}
use Rattle.step_replay.specs.Actions.{Dealer, drop_at, dropped_by, in_room, left_by_drop, nothing}
use Rattle.step_replay.specs.Actions.{offer_of, quote_asked, shown_to, told_of, told_to}
use Rattle.step_replay.specs.Actions.{where_known, word_for, words_of}
use Rattle.step_replay.specs.LineActions.{answered_by, declined_by, posted_by, unposted_by}
use Rattle.step_replay.specs.DealerTrail.{book_by, rooms_by}
use Rattle.step_replay.specs.DutyEffects.{duty_effect, sweep_effect}
use Rattle.step_replay.specs.VenueFacts.{Fact, of_dealer, of_room}

-- What may come where it does not matter.

abbrev pub AnyDealer : ℕ → DealerRow → DealerEvent → List Duty → Type 0
AnyDealer number row event left = Unit {0}

abbrev pub AnyInvestor : ℕ → InvestorRow → InvestorEvent → Type 0
AnyInvestor number row event = Unit {0}

abbrev pub AnyRoom : RoomRef → RoomEvent → List Duty → Type 0
AnyRoom at event left = Unit {0}

-- an event in a room that is no hit
abbrev pub NoHitThere : RoomEvent → Type 0
NoHitThere (at_room.Hit word moment settlement) = ⊥
NoHitThere other = Unit {0}

-- where a dealer acts
abbrev pub ByDealer : Configuration → Actor → (ℕ → DealerRow → Type 0) → Type 0
ByDealer config (actor.Firm number) Each =
    (row : DealerRow) → dealer_numbered config number ≡ Some row → Each number row
ByDealer config actor.Clock Each = Unit {0}

-- the settlement that a hit finds
abbrev pub settlement_found : Configuration → List Fact → RoomRef → ℕ → ℕ → Option Settled
settlement_found config facts at word moment =
    option_map (answer_to_hit facts) (quote_asked config (hit_word (of_room at facts) word moment))

-- Of each event that a duty may bring: at a dealer's desk, with what it leaves.
module _ (Has : ℕ → DealerRow → DealerEvent → List Duty → Type 0)
    (config : Configuration) (facts : List Fact) where
  abbrev pub DealerMay : Actor → Duty → Type 0
  DealerMay by (duty.Show dealer at ask moment) =
      (row : DealerRow) → dealer_numbered config dealer ≡ Some row
      → number_in (rooms_by (of_dealer dealer facts)) at ≡ None
      → Has dealer row (at_desk.Shown at ask moment) []
  DealerMay by (duty.Tell dealer at close moment) =
      (row : DealerRow) → dealer_numbered config dealer ≡ Some row → (request : ℕ)
      → number_in (rooms_by (of_dealer dealer facts)) at ≡ Some request
      → is_some (closable (book_by (of_dealer dealer facts)) request) ≡ true
      → Has dealer row (at_desk.Told request close moment) []
  DealerMay by (duty.Drop last moment) = ByDealer config by (λ number row.
      Has number row (drop_at (of_dealer number facts) last moment)
      (left_by_drop config facts last moment (dealer_of number row)))
  DealerMay by other = Unit {0}

  -- where it is so of every event that may come to the duty's desk
  pub any_dealer : (by : Actor) (d : Duty) → ((number : ℕ) (row : DealerRow) (event : DealerEvent)
      (left : List Duty) → desk_of_line by (line_of config d) ≡ Some number
      → Has number row event left) → DealerMay by d
  unfolding line_of
  any_dealer by (duty.Show dealer at ask moment) each =
      λ row found none. each dealer row (at_desk.Shown at ask moment) [] refl
  any_dealer by (duty.Tell dealer at close moment) each =
      λ row found request is may. each dealer row (at_desk.Told request close moment) [] refl
  any_dealer (actor.Firm number) (duty.Drop last moment) each =
      λ row found. each number row _ _ refl
  any_dealer by other each = tt

-- At an investor's, where it leaves nothing.
module _ (Has : ℕ → InvestorRow → InvestorEvent → Type 0) (config : Configuration) where
  -- where there is such an investor
  abbrev pub OfInvestor : ℕ → InvestorEvent → Type 0
  OfInvestor number event =
      (row : InvestorRow) → investor_numbered config number ≡ Some row → Has number row event

  abbrev pub InvestorMay : Duty → Type 0
  InvestorMay (duty.Relay at offer moment) =
      OfInvestor at.investor (at_investor.QuoteCame at.n offer moment)
  InvestorMay (duty.Gone at word moment) =
      OfInvestor at.investor (at_investor.QuoteGone at.n word moment)
  InvestorMay (duty.Declined at moment) =
      (number : ℕ) (dealer : DealerRow) → dealer_numbered config number ≡ Some dealer
      → OfInvestor at.investor (at_investor.DealerDeclined at.n dealer.name moment)
  InvestorMay (duty.Answer at response reply moment) = replies_to response.k reply ≡ true
      → OfInvestor at.investor (at_investor.Answered at.n response reply moment)
  InvestorMay (duty.Close at moment) = OfInvestor at.investor (at_investor.Closed at.n moment)
  InvestorMay other = Unit {0}

  -- where it is so of every event that may come to the duty's desk
  pub any_investor : (by : Actor) (d : Duty) → ((number : ℕ) (row : InvestorRow)
      (event : InvestorEvent) → desk_of_line by (line_of config d) ≡ Some number
      → Has number row event) → InvestorMay d
  unfolding line_of
  any_investor by (duty.Relay at offer moment) each = λ row found. each at.investor row _ refl
  any_investor by (duty.Gone at word moment) each = λ row found. each at.investor row _ refl
  any_investor by (duty.Declined at moment) each =
      λ number dealer is row found. each at.investor row _ refl
  any_investor by (duty.Answer at response reply moment) each =
      λ fits row found. each at.investor row _ refl
  any_investor by (duty.Close at moment) each = λ row found. each at.investor row _ refl
  any_investor by other each = tt

-- In a room, with what it leaves.
module _ (Has : RoomRef → RoomEvent → List Duty → Type 0)
    (config : Configuration) (facts : List Fact) where
  abbrev pub RoomMay : Actor → Duty → Type 0
  RoomMay by (duty.Open at ask dealers moment) =
      Has at (at_room.Open (record { ask = ask; dealers = dealers }))
      (duties_of_open (of_room at facts) at ask dealers moment)
  RoomMay by (duty.Ready at moment) = Has at at_room.Ready []
  RoomMay by (duty.Post at quote price valid_until moment) = ByDealer config by (λ number row.
      Has at (at_room.Post number (word_for config (dealer_of number row) quote) price valid_until)
      (duties_of_post (of_room at facts) at number
      (offer_of config (dealer_of number row) quote price valid_until) moment))
  RoomMay by (duty.Unpost at quote moment) = ByDealer config by (λ number row.
      Has at (at_room.Unpost number (word_for config (dealer_of number row) quote))
      (duties_of_unpost (of_room at facts) at number (word_for config (dealer_of number row) quote)
      moment))
  RoomMay by (duty.Decline at moment) = ByDealer config by (λ number row.
      Has at (at_room.Decline number) (duties_of_decline (of_room at facts) at number moment))
  RoomMay by (duty.Hit at response word moment) =
      Has at (at_room.Hit word moment (settlement_found config facts at word moment))
      (duties_of_hit (of_room at facts) at response word moment true
      (settlement_found config facts at word moment))
  RoomMay by (duty.Pass at response moment) =
      Has at (at_room.Pass moment) (duties_of_pass (of_room at facts) at response moment)
  RoomMay by other = Unit {0}

  -- where it is so of every event that may come to the duty's room
  pub any_room : (by : Actor) (d : Duty) → ((at : RoomRef) (event : RoomEvent) (left : List Duty)
      → room_of_line (line_of config d) ≡ Some at → Has at event left) → RoomMay by d
  unfolding line_of
  any_room by (duty.Open at ask dealers moment) each = each at _ _ refl
  any_room by (duty.Ready at moment) each = each at _ _ refl
  any_room (actor.Firm number) (duty.Post at quote price valid_until moment) each =
      λ row found. each at _ _ refl
  any_room (actor.Firm number) (duty.Unpost at quote moment) each = λ row found. each at _ _ refl
  any_room (actor.Firm number) (duty.Decline at moment) each = λ row found. each at _ _ refl
  any_room by (duty.Hit at response word moment) each = each at _ _ refl
  any_room by (duty.Pass at response moment) each = each at _ _ refl
  any_room by other each = tt

module _ (DealerHas : ℕ → DealerRow → DealerEvent → List Duty → Type 0)
    (InvestorHas : ℕ → InvestorRow → InvestorEvent → Type 0)
    (RoomHas : RoomRef → RoomEvent → List Duty → Type 0)
    (config : Configuration) (facts : List Fact) (R : Effect → Type 0) where
  -- what is to be shown: of nothing, and of each event of which that is so
  pub record Walks : Type 0 where
    pub idle : R nothing
    pub at_a_dealer : (number : ℕ) (row : DealerRow) → dealer_numbered config number ≡ Some row
        → (event : DealerEvent) (left : List Duty) → DealerHas number row event left
        → R (at_dealer config facts (dealer_of number row) event left)
    pub at_an_investor : (number : ℕ) (row : InvestorRow)
        → investor_numbered config number ≡ Some row → (event : InvestorEvent)
        → InvestorHas number row event → R (at_market facts (market_of config number row) event [])
    pub in_a_room : (at : RoomRef) → has_room config at.investor at.n ≡ true → (event : RoomEvent)
        → NoHitThere event → (left : List Duty) → RoomHas at event left
        → R (event_in config facts at event left)
    pub by_a_hit : (at : RoomRef) → has_room config at.investor at.n ≡ true
        → (response : ResponseRef) (word moment : ℕ)
        → RoomHas at (at_room.Hit word moment (settlement_found config facts at word moment))
        (duties_of_hit (of_room at facts) at response word moment true
        (settlement_found config facts at word moment))
        → R (hit_here config facts at response word moment)

  module _ (walks : Walks) where
    -- Where a test holds, and where there is such a firm.

    where_so : (b : Bool) (effect : Effect) → (b ≡ true → R effect)
        → R (if b then effect else nothing)
    where_so true effect is = is refl
    where_so false effect is = walks.idle

    where_both : (b c : Bool) (effect : Effect) → (b ≡ true → R effect)
        → R (if b && c then effect else nothing)
    where_both true true effect is = is refl
    where_both true false effect is = walks.idle
    where_both false c effect is = walks.idle

    numbered : (number : ℕ) (act : Dealer → Effect)
        → ((row : DealerRow) → dealer_numbered config number ≡ Some row
        → R (act (dealer_of number row))) → R (done_by (dealer_at config number) act)
    numbered number act each = by_row (dealer_numbered config number) refl
      where
        by_row : (found : Option DealerRow) → dealer_numbered config number ≡ found
            → R (done_by (option_map (dealer_of number) found) act)
        by_row None is = walks.idle
        by_row (Some row) is = each row is

    invested : (number : ℕ) (act : InvestorMarket → Effect)
        → ((row : InvestorRow) → investor_numbered config number ≡ Some row
        → R (act (market_of config number row))) → R (done_for (market_for config number) act)
    invested number act each = by_row (investor_numbered config number) refl
      where
        by_row : (found : Option InvestorRow) → investor_numbered config number ≡ found
            → R (done_for (option_map (market_of config number) found) act)
        by_row None is = walks.idle
        by_row (Some row) is = each row is

    -- One event.

    happens : (at : RoomRef) (may : Bool) (event : RoomEvent) → NoHitThere event
        → (left : List Duty) → RoomHas at event left → R (in_room config facts at may event left)
    happens at may event no_hit left is =
        where_both (has_room config at.investor at.n) may (event_in config facts at event left)
        (λ there. walks.in_a_room at there event no_hit left is)

    known : (number request : ℕ) (quote : Option ℕ) (event : InvestorEvent) (row : InvestorRow)
        → investor_numbered config number ≡ Some row → InvestorHas number row event
        → R (where_known facts request quote event (market_of config number row))
    known number request quote event row found is =
        where_so _ (at_market facts (market_of config number row) event [])
        (λ knows. walks.at_an_investor number row found event is)

    comes : (number request : ℕ) (event : InvestorEvent) → OfInvestor InvestorHas config number event
        → R (done_for (market_for config number) (where_known facts request None event))
    comes number request event is =
        invested number (where_known facts request None event)
        (λ row found. known number request None event row found (is row found))

    shown : (number : ℕ) (row : DealerRow) → dealer_numbered config number ≡ Some row
        → (at : RoomRef) (ask : Ask) (moment : ℕ)
        → (number_in (rooms_by (of_dealer number facts)) at ≡ None
        → DealerHas number row (at_desk.Shown at ask moment) [])
        → R (shown_to config facts at ask moment (dealer_of number row))
    shown number row found at ask moment is =
        by_number (number_in (rooms_by (of_dealer number facts)) at) refl
      where
        by_number : (request : Option ℕ)
            → number_in (rooms_by (of_dealer number facts)) at ≡ request
            → R (if is_some request then nothing
            else at_dealer config facts (dealer_of number row) (at_desk.Shown at ask moment) [])
        by_number None none =
            walks.at_a_dealer number row found (at_desk.Shown at ask moment) [] (is none)
        by_number (Some request) there = walks.idle

    told : (number : ℕ) (row : DealerRow) → dealer_numbered config number ≡ Some row
        → (at : RoomRef) (close : Close) (moment : ℕ)
        → ((request : ℕ) → number_in (rooms_by (of_dealer number facts)) at ≡ Some request
        → is_some (closable (book_by (of_dealer number facts)) request) ≡ true
        → DealerHas number row (at_desk.Told request close moment) [])
        → R (told_to config facts at close moment (dealer_of number row))
    told number row found at close moment is =
        by_number (number_in (rooms_by (of_dealer number facts)) at) refl
      where
        by_number : (request : Option ℕ)
            → number_in (rooms_by (of_dealer number facts)) at ≡ request
            → R (told_of config facts (dealer_of number row) close moment request)
        by_number None none = walks.idle
        by_number (Some request) there =
            where_so (is_some (closable (book_by (of_dealer number facts)) request))
            (at_dealer config facts (dealer_of number row) (at_desk.Told request close moment) [])
            (λ may. walks.at_a_dealer number row found (at_desk.Told request close moment) []
            (is request there may))

    -- All duties, line by line.

    pub duty_walks : (by : Actor) (d : Duty) → DealerMay DealerHas config facts by d
        → InvestorMay InvestorHas config d → RoomMay RoomHas config facts by d
        → R (duty_effect config facts by d)
    unfolding duty_effect
    duty_walks by (duty.Open at ask dealers moment) dealer investor room =
        happens at true (at_room.Open (record { ask = ask; dealers = dealers })) tt
        (duties_of_open (of_room at facts) at ask dealers moment) room
    duty_walks by (duty.Show number at ask moment) dealer investor room =
        numbered number (shown_to config facts at ask moment)
        (λ row found. shown number row found at ask moment (dealer row found))
    duty_walks by (duty.Ready at moment) dealer investor room =
        happens at true at_room.Ready tt [] room
    duty_walks (actor.Firm number) (duty.Post at quote price valid_until moment) dealer investor
        room =
        numbered number (posted_by config facts at quote price valid_until moment)
        (λ row found. happens at _
        (at_room.Post number (word_for config (dealer_of number row) quote) price valid_until) tt
        _ (room row found))
    duty_walks actor.Clock (duty.Post at quote price valid_until moment) dealer investor room =
        walks.idle
    duty_walks by (duty.Relay at offer moment) dealer investor room =
        comes at.investor at.n (at_investor.QuoteCame at.n offer moment) investor
    duty_walks (actor.Firm number) (duty.Unpost at quote moment) dealer investor room =
        numbered number (unposted_by config facts at quote moment)
        (λ row found. happens at _
        (at_room.Unpost number (word_for config (dealer_of number row) quote)) tt _
        (room row found))
    duty_walks actor.Clock (duty.Unpost at quote moment) dealer investor room = walks.idle
    duty_walks by (duty.Gone at word moment) dealer investor room =
        comes at.investor at.n (at_investor.QuoteGone at.n word moment) investor
    duty_walks (actor.Firm number) (duty.Decline at moment) dealer investor room =
        numbered number (declined_by config facts at moment)
        (λ row found. happens at _ (at_room.Decline number) tt _ (room row found))
    duty_walks actor.Clock (duty.Decline at moment) dealer investor room = walks.idle
    duty_walks (actor.Firm number) (duty.Declined at moment) dealer investor room =
        numbered number _ (λ row found. comes at.investor at.n
        (at_investor.DealerDeclined at.n row.name moment) (investor number row found))
    duty_walks actor.Clock (duty.Declined at moment) dealer investor room = walks.idle
    duty_walks by (duty.Hit at response word moment) dealer investor room =
        where_both (has_room config at.investor at.n)
        (has_word (words_of config) (hit_word (of_room at facts) word moment))
        (hit_here config facts at response word moment)
        (λ there. walks.by_a_hit at there response word moment room)
    duty_walks by (duty.Pass at response moment) dealer investor room =
        happens at true (at_room.Pass moment) tt
        (duties_of_pass (of_room at facts) at response moment) room
    duty_walks by (duty.Answer at response reply moment) dealer investor room =
        invested at.investor (answered_by facts at response reply moment)
        (λ row found. where_so (replies_to response.k reply)
        (where_known facts at.n response.k (at_investor.Answered at.n response reply moment)
        (market_of config at.investor row))
        (λ fits. known at.investor at.n response.k
        (at_investor.Answered at.n response reply moment) row found (investor fits row found)))
    duty_walks by (duty.Close at moment) dealer investor room =
        comes at.investor at.n (at_investor.Closed at.n moment) investor
    duty_walks by (duty.Tell number at close moment) dealer investor room =
        numbered number (told_to config facts at close moment)
        (λ row found. told number row found at close moment (dealer row found))
    duty_walks (actor.Firm number) (duty.Drop last moment) dealer investor room =
        numbered number (dropped_by config facts last moment) (λ row found. where_so _
        (at_dealer config facts (dealer_of number row) (drop_at (of_dealer number facts) last moment)
        (left_by_drop config facts last moment (dealer_of number row)))
        (λ has. walks.at_a_dealer number row found (drop_at (of_dealer number facts) last moment)
        (left_by_drop config facts last moment (dealer_of number row)) (dealer row found)))
    duty_walks actor.Clock (duty.Drop last moment) dealer investor room = walks.idle

    -- A sweep.

    pub sweep_walks : (at : RoomRef) (moment : ℕ)
        → RoomHas at (at_room.Expire moment) (duties_of_expire (of_room at facts) at moment)
        → R (sweep_effect config facts at moment)
    unfolding sweep_effect
    sweep_walks at moment is =
        happens at true (at_room.Expire moment) tt (duties_of_expire (of_room at facts) at moment)
        is
