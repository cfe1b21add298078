-- What closes no request at its desk: each action but the close of its room, and the answer to a response
-- that is not refused.
use Rattle.std.proofs.Common.{◌≡◌, ◌==◌, ◌&&◌, ℕ, Bool, true, false, List, [], ◌∷◌}
use Rattle.std.proofs.Common.{Option, Some, None, is_none, refl}
use Rattle.dealer_desk.specs.DealerOutput.{is_same_room}
use Rattle.market_terms.specs.declared.closes.HitRefusal.{HitRefusal}
use Rattle.market_terms.specs.declared.closes.Reply.{Reply}
use Rattle.market_terms.specs.declared.duties.Duty.{Duty}
use Rattle.market_terms.specs.declared.duties.Duty.TheVariants as duty
use Rattle.market_terms.specs.declared.rooms.ResponseRef.{ResponseRef}
use Rattle.market_terms.specs.declared.rooms.RoomRef.{RoomRef}
use Rattle.venue_rows.specs.Rows.{Configuration}
use Rattle.venue_steps.specs.declared.actors.Actor.{Actor}
use Rattle.investor_desk.specs.InvestorFacts.{InvestorBook, InvestorFact, StandingRequest, closes}
use Rattle.investor_desk.specs.InvestorFacts.{offer_of_dealer, offer_with_word, open_request, request_numbered}
use Rattle.investor_desk.specs.InvestorFacts.{Offered}
use Rattle.investor_desk.specs.InvestorOutput as investor_output
use Rattle.investor_desk.specs.declared.standing.RequestClose.{RequestClose}
use Rattle.investor_desk.specs.declared.standing.ShownOffer.{ShownOffer}
use Rattle.investor_desk.specs.declared.verdicts.InvestorVerdict.{InvestorVerdict}
use Rattle.investor_desk.specs.declared.verdicts.InvestorVerdict.TheVariants as asks
use Rattle.market_terms.specs.declared.rooms.Offer.{Offer}
use Rattle.step_replay.specs.Actions.{Effect}
use Rattle.step_replay.specs.DutyEffects.{duty_effect, message_effect, sweep_effect}
use Rattle.step_replay.specs.EachLemmas.{every_both}
use Rattle.step_replay.specs.InvestorTrail as investor_trail
use Rattle.step_replay.specs.Lists.{Every}
use Rattle.step_replay.specs.VenueFacts.{Fact, of_investor}
use Rattle.laws_rooms.proofs.DeskWalk as desk_walk
use Rattle.laws_rooms.proofs.EndLemmas.{closes_it}

-- Facts that close no request with this number.

module _ (n : ℕ) where
  abbrev pub Leaves : InvestorFact → Type 0
  Leaves fact = closes n fact ≡ None

  gone_leaves : (number : ℕ) (found : Option ShownOffer) → Every Leaves (investor_output.gone_facts number found)
  gone_leaves number None = tt
  gone_leaves number (Some shown) = (refl, tt)

  offer_leaves : (book : InvestorBook) (number : ℕ) (offer : Offer) (own : Option StandingRequest)
      → Every Leaves (investor_output.offer_facts book number offer own)
  offer_leaves book number offer None = tt
  offer_leaves book number offer (Some own) =
      every_both Leaves (investor_output.gone_facts number (offer_of_dealer own offer.dealer))
      (Offered (investor_output.next_offer book number offer) ∷ [])
      (gone_leaves number (offer_of_dealer own offer.dealer)) (refl, tt)

  withdrawal_leaves : (number word : ℕ) (own : Option StandingRequest)
      → Every Leaves (investor_output.withdrawal_facts number word own)
  withdrawal_leaves number word None = tt
  withdrawal_leaves number word (Some own) = gone_leaves number (offer_with_word own word)

  closed_leaves : (number : ℕ) → (number == n) ≡ false → (found : Option RequestClose)
      → Every Leaves (investor_output.closed_facts number found)
  closed_leaves number differs None = tt
  closed_leaves number differs (Some how) = (rw differs refl, tt)

  -- an answer on another request, or one that is a refusal
  answer_leaves : (book : InvestorBook) (number : ℕ) (response : ResponseRef) (reply : Reply)
      → ((number == n) && is_none (investor_output.refusal_of reply)) ≡ false → (own : Option StandingRequest)
      → Every Leaves (investor_output.answer_facts book number response reply own)
  answer_leaves book number response reply isnt None = tt
  answer_leaves book number response reply isnt (Some own) = by_refusal (investor_output.refusal_of reply) isnt
    where
      by_refusal : (found : Option HitRefusal) → ((number == n) && is_none found) ≡ false
          → Every Leaves (investor_output.closed_facts number (investor_output.close_by_answer book response found))
      by_refusal (Some why) so = tt
      by_refusal None so = closed_leaves number (and_true (number == n) so)
          (investor_output.close_by book response.k)
        where
          and_true : (b : Bool) → (b && true) ≡ false → b ≡ false
          and_true true both = both
          and_true false both = refl

  expiry_leaves : (number : ℕ) → (number == n) ≡ false → (own : Option StandingRequest)
      → Every Leaves (investor_output.expiry_facts number own)
  expiry_leaves number differs None = tt
  expiry_leaves number differs (Some own) = (rw differs refl, tt)

  verdict_leaves : (v : InvestorVerdict) → Every Leaves (investor_output.verdict_facts v)
  verdict_leaves (asks.RequestAccepted id request) = (refl, tt)
  verdict_leaves other = tt

module _ (config : Configuration) (facts : List Fact) (room : RoomRef) where
  -- an effect that closes no request of this room
  abbrev pub StaysOpen : Effect → Type 0
  StaysOpen effect = desk_walk.Brings (Leaves room.n) config facts room.investor effect

  abbrev book : ℕ → InvestorBook
  book number = investor_trail.book_by (of_investor number facts)

  other_n : (at : RoomRef) → is_same_room at room ≡ false → (at.investor == room.investor) ≡ true
      → (at.n == room.n) ≡ false
  other_n at differs same = rw same at differs

  answer_other : (at : RoomRef) (reply : Reply)
      → (is_same_room at room && is_none (investor_output.refusal_of reply)) ≡ false
      → (at.investor == room.investor) ≡ true
      → ((at.n == room.n) && is_none (investor_output.refusal_of reply)) ≡ false
  answer_other at reply isnt same = rw same at isnt

  may_bring : (d : Duty) → closes_it room d ≡ false
      → desk_walk.MayBring (Leaves room.n) config facts room.investor d
  may_bring (duty.Relay at offer moment) isnt =
      λ same. offer_leaves room.n (book at.investor) at.n offer (open_request (book at.investor) at.n)
  may_bring (duty.Gone at word moment) isnt =
      λ same. withdrawal_leaves room.n at.n word (open_request (book at.investor) at.n)
  may_bring (duty.Answer at response reply moment) isnt =
      λ same. answer_leaves room.n (book at.investor) at.n response reply (answer_other at reply isnt same)
      (request_numbered (book at.investor) at.n)
  may_bring (duty.Close at moment) isnt =
      λ same. expiry_leaves room.n at.n (other_n at isnt same) (request_numbered (book at.investor) at.n)
  may_bring other isnt = tt

  pub duty_opens : (by : Actor) (d : Duty) → closes_it room d ≡ false → StaysOpen (duty_effect config facts by d)
  duty_opens by d isnt =
      desk_walk.duty_brings (Leaves room.n) config facts room.investor by d (may_bring d isnt)

  pub sweep_opens : (at : RoomRef) (moment : ℕ) → StaysOpen (sweep_effect config facts at moment)
  sweep_opens at moment = desk_walk.sweep_brings (Leaves room.n) config facts room.investor at moment

  pub message_opens : (firm moment : ℕ) (bytes : List ℕ) → StaysOpen (message_effect config facts firm moment bytes)
  message_opens firm moment bytes =
      desk_walk.message_brings (Leaves room.n) config facts room.investor
      (λ said_at said_bytes v. (refl, verdict_leaves room.n v)) firm moment bytes
