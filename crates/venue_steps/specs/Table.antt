-- The market's table: of each duty, what is brought to which place. A duty stands in the queue of the
-- actor that caused it: a line on which a dealer acts is that actor's, where it is a dealer.
use Rattle.std.specs.Prelude.{ℕ, Bool, true}
use Rattle.market_terms.specs.declared.duties.Duty.{Duty}
use Rattle.market_terms.specs.declared.duties.Duty.TheVariants as duty
use Rattle.market_terms.specs.declared.rooms.RoomRef.{RoomRef}
use Rattle.venue_rows.specs.Rows.{Configuration}
use Rattle.venue_steps.specs.Dealers.{Dealer, has_word_for, offer_of, word_for}
use Rattle.venue_steps.specs.declared.arrivals.Placement.{Placement}
use Rattle.venue_steps.specs.declared.arrivals.Placement.TheVariants as arrival
use Rattle.venue_steps.specs.declared.arrivals.ForDealer.TheVariants as to_dealer
use Rattle.venue_steps.specs.declared.arrivals.ForInvestor.{ForInvestor}
use Rattle.venue_steps.specs.declared.arrivals.ForInvestor.TheVariants as to_investor
use Rattle.venue_steps.specs.declared.arrivals.ForRoom.{ForRoom}
use Rattle.venue_steps.specs.declared.arrivals.ForRoom.TheVariants as to_room

-- a line of the table: what is brought; what the dealer that acts brings to a room, where it may; what
-- it brings to an investor; or a drop of its next quote, none later than this
pub data Line : Type 0 where
  brings : Placement → Line
  acting_in : RoomRef → (Dealer → Bool) → (Dealer → ForRoom) → Line
  telling : ℕ → (Dealer → ForInvestor) → Line
  drops : ℕ → ℕ → Line

-- the table. A dealer may post or unpost a quote whose word the venue has.
unfoldable pub line_of : Configuration → Duty → Line
line_of config (duty.Open room ask dealers moment) =
    brings (arrival.Room room (to_room.Open ask dealers moment))
line_of config (duty.Show dealer room ask moment) =
    brings (arrival.Dealer dealer (to_dealer.Show room ask moment))
line_of config (duty.Ready room moment) = brings (arrival.Room room (to_room.Ready moment))
line_of config (duty.Post room quote price valid_until moment) =
    acting_in room (λ dealer. has_word_for config dealer quote) (λ dealer.
    to_room.Post dealer.number (offer_of config dealer quote price valid_until) moment)
line_of config (duty.Relay room offer moment) =
    brings (arrival.Investor room.investor (to_investor.Relay room.n offer moment))
line_of config (duty.Unpost room quote moment) =
    acting_in room (λ dealer. has_word_for config dealer quote)
    (λ dealer. to_room.Unpost dealer.number (word_for config dealer quote) moment)
line_of config (duty.Gone room word moment) =
    brings (arrival.Investor room.investor (to_investor.Gone room.n word moment))
line_of config (duty.Decline room moment) =
    acting_in room (λ dealer. true) (λ dealer. to_room.Decline dealer.number moment)
line_of config (duty.Declined room moment) =
    telling room.investor (λ dealer. to_investor.Declined room.n dealer.row.name moment)
line_of config (duty.Hit room response word moment) = brings (arrival.Hit room response word moment)
line_of config (duty.Pass room response moment) =
    brings (arrival.Room room (to_room.Pass response moment))
line_of config (duty.Answer room response reply moment) =
    brings (arrival.Investor room.investor (to_investor.Answer room.n response reply moment))
line_of config (duty.Close room moment) =
    brings (arrival.Investor room.investor (to_investor.Close room.n moment))
line_of config (duty.Tell dealer room close moment) =
    brings (arrival.Dealer dealer (to_dealer.Tell room close moment))
line_of config (duty.Drop last moment) = drops last moment
