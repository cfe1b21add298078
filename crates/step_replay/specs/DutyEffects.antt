-- What each duty, each sweep and each message of a firm does: the action that it is. Of a duty and of
-- a sweep that is what the market's table brings does.
use Rattle.std.specs.Prelude.{ℕ, List, is_some, if◌then◌else◌}
use Rattle.market_terms.specs.declared.duties.Duty.{Duty}
use Rattle.market_terms.specs.declared.rooms.RoomRef.{RoomRef}
use Rattle.venue_rows.specs.Rows.{Configuration, dealer_numbered}
use Rattle.investor_desk.specs.InvestorDesk as investor_desk
use Rattle.venue_steps.specs.Dealers.{dealer_at, acting_dealer}
use Rattle.venue_steps.specs.Table.{Line, acting_in, brings, drops, line_of, telling}
use Rattle.venue_steps.specs.declared.actors.Actor.{Actor}
use Rattle.venue_steps.specs.declared.arrivals.ForRoom.TheVariants as to_room
use Rattle.venue_steps.specs.declared.arrivals.Placement.TheVariants as arrival
use Rattle.step_replay.specs.VenueFacts.{Fact}
use Rattle.step_replay.specs.Actions.{Effect, done_by, done_for, dropped_by, received_by_dealer}
use Rattle.step_replay.specs.Actions.{received_by_investor}
use Rattle.step_replay.specs.Coming.{arrival_effect, dealer_gets, investor_gets, room_gets}
use Rattle.step_replay.specs.Coming.{room_gets_where}

-- what a line of the market's table does for an actor
abbrev pub line_effect : Configuration → List Fact → Actor → Line → Effect
line_effect config facts actor (brings coming) = arrival_effect config facts coming
line_effect config facts actor (acting_in room may bring) =
    done_by (acting_dealer config actor) (λ dealer.
    room_gets_where config facts (may dealer) room (bring dealer))
line_effect config facts actor (telling firm bring) =
    done_by (acting_dealer config actor) (λ dealer.
    arrival_effect config facts (arrival.Investor firm (bring dealer)))
line_effect config facts actor (drops last moment) =
    done_by (acting_dealer config actor) (dropped_by config facts last moment)

-- What a duty does.
unfoldable pub duty_effect : Configuration → List Fact → Actor → Duty → Effect
unfolding line_of arrival_effect dealer_gets investor_gets room_gets room_gets_where
duty_effect config facts actor duty = line_effect config facts actor (line_of config duty)

-- What a sweep does: an open room ends where its deadline has come.
unfoldable pub sweep_effect : Configuration → List Fact → RoomRef → ℕ → Effect
unfolding room_gets
sweep_effect config facts room moment = room_gets config facts room (to_room.Expire moment)

-- What a message of the firm with this number does at its own desk: that of a dealer or of an
-- investor.
unfoldable pub message_effect : Configuration → List Fact → ℕ → ℕ → List ℕ → Effect
message_effect config facts firm moment bytes =
    if is_some (dealer_numbered config firm)
    then done_by (dealer_at config firm) (received_by_dealer config facts moment bytes)
    else done_for (investor_desk.market_for config firm) (received_by_investor facts moment bytes)
