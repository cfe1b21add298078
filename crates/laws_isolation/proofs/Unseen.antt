-- Of what another dealer does nothing is left, and what its steps leave leads to no more than its
-- quotes and declines.
use Rattle.std.proofs.Common.{◌≡◌, ℕ, ◌==◌, Bool, true, false, List, is_some, not, sym, ◌∙◌}
use Rattle.std.proofs.Common.{subst, None}
use Rattle.std.proofs.lemmas.Bool.{and_parts}
use Rattle.market_terms.specs.declared.duties.Duty.{Duty}
use Rattle.market_terms.specs.declared.duties.Duty.TheVariants as duty
use Rattle.market_terms.specs.declared.rooms.RoomRef.{RoomRef}
use Rattle.venue_rows.specs.Rows.{Configuration, dealer_numbered}
use Rattle.investor_desk.specs.InvestorDesk.{market_of}
use Rattle.investor_desk.specs.declared.events.InvestorEvent.{InvestorEvent}
use Rattle.investor_desk.specs.declared.events.InvestorEvent.TheVariants as at_investor
use Rattle.request_room.specs.declared.events.RoomEvent.TheVariants as at_room
use Rattle.venue_steps.specs.declared.actors.Actor.{Actor}
use Rattle.step_replay.specs.Actions.{acting_dealer, dealer_of, received_by_dealer}
use Rattle.step_replay.specs.Actions.{verdict_on, where_known, word_for}
use Rattle.step_replay.specs.LineActions.{at_investor_of}
use Rattle.step_replay.specs.DutyEffects.{duty_effect, message_effect}
use Rattle.step_replay.specs.VenueFacts.{Fact}
use Rattle.laws_days.specs.ActionCases.{by_does, if_does, invested_does, message_of}
use Rattle.laws_days.specs.DealerDuties.{IsQuoting, quoting_may, said_may}
use Rattle.laws_days.specs.LeftDuties.{Leaves, duty_leaves, message_leaves}
use Rattle.laws_isolation.specs.Silence.{acts_as_another, is_another}
use Rattle.laws_isolation.proofs.Left.{IsUnseen, acting_other, hushed_unseen, nothing_unseen}
use Rattle.laws_isolation.proofs.Left.{numbered_other}
use Rattle.laws_isolation.proofs.LeftActions.{desk_unseen, known_hushed, room_unseen}
use Rattle.laws_isolation.proofs.QuietInvestor.{Hushes}

module _ (config : Configuration) (facts : List Fact) where
  pub duty_quoting : (by : Actor) (more : Duty) → IsQuoting more
      → Leaves IsQuoting (duty_effect config facts by more)
  duty_quoting by more is =
      duty_leaves IsQuoting config facts by more
      (quoting_may IsQuoting (λ d quoting. quoting) config facts by more is)

  pub message_quoting : (firm moment : ℕ) (bytes : List ℕ)
      → is_some (dealer_numbered config firm) ≡ true
      → Leaves IsQuoting (message_effect config facts firm moment bytes)
  message_quoting firm moment bytes is =
      message_leaves IsQuoting config facts firm moment bytes
      (λ row found. said_may IsQuoting (λ d quoting. quoting) config facts firm moment
      (verdict_on config facts moment bytes (dealer_of firm row)))
      (λ row isnt. let clash : true ≡ false = sym is ∙ isnt in cc)

module _ (config : Configuration) (own : ℕ) (facts : List Fact) where
  came_unseen : (room : RoomRef) (more : InvestorEvent) → Hushes more
      → IsUnseen own (at_investor_of config room (where_known facts room.n None more))
  came_unseen room more is =
      invested_does (IsUnseen own) (nothing_unseen own) config room.investor
      (where_known facts room.n None more)
      (λ row. hushed_unseen own _
      (known_hushed own facts (market_of config room.investor row) room.n None more is))

  pub duty_unseen : (by : Actor) (more : Duty) → acts_as_another config own by ≡ true
      → IsQuoting more → IsUnseen own (duty_effect config facts by more)
  unfolding duty_effect
  duty_unseen by (duty.Post room quote price valid_until moment) is quoting =
      acting_other config own by is _ (λ dealer another. room_unseen own facts config room _
      (at_room.Post dealer.number (word_for config dealer quote) price valid_until) _ another)
  duty_unseen by (duty.Relay room offer moment) is quoting =
      came_unseen room (at_investor.QuoteCame room.n offer moment) tt
  duty_unseen by (duty.Unpost room quote moment) is quoting =
      acting_other config own by is _ (λ dealer another. room_unseen own facts config room _
      (at_room.Unpost dealer.number (word_for config dealer quote)) _ another)
  duty_unseen by (duty.Gone room word moment) is quoting =
      came_unseen room (at_investor.QuoteGone room.n word moment) tt
  duty_unseen by (duty.Decline room moment) is quoting =
      acting_other config own by is _ (λ dealer another. room_unseen own facts config room _
      (at_room.Decline dealer.number) _ another)
  duty_unseen by (duty.Declined room moment) is quoting =
      by_does (IsUnseen own) (nothing_unseen own) (acting_dealer config by) _
      (λ dealer. came_unseen room (at_investor.DealerDeclined room.n dealer.row.name moment) tt)
  duty_unseen by (duty.Drop last moment) is quoting =
      acting_other config own by is _ (λ dealer another. if_does (IsUnseen own)
      (nothing_unseen own) _ _ (desk_unseen own facts config dealer _ _ another))
  duty_unseen by more is quoting = cc

  -- another one is a dealer
  pub is_dealer : (firm : ℕ) → is_another config own firm ≡ true
      → is_some (dealer_numbered config firm) ≡ true
  is_dealer firm is =
      (and_parts (is_some (dealer_numbered config firm)) (not (firm == own)) is).0

  pub message_unseen : (firm moment : ℕ) (bytes : List ℕ) → is_another config own firm ≡ true
      → IsUnseen own (message_effect config facts firm moment bytes)
  unfolding message_effect
  message_unseen firm moment bytes is =
      subst (λ (b : Bool). IsUnseen own (message_of config facts firm moment bytes b))
      (sym (is_dealer firm is))
      (numbered_other config own firm is (received_by_dealer config facts moment bytes)
      (λ dealer another. if_does (IsUnseen own) (nothing_unseen own) _ _
      (desk_unseen own facts config dealer _ _ another)))
