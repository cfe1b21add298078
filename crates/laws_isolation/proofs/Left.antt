-- What is left of a day: without what other dealers did, without what investors were shown and
-- sent, and without whose quote a hit lifted. It is all of the day that a dealer's due list can
-- depend on, but for the cover, once it is known which hits are awarded.
use Rattle.std.proofs.Common.{◌≡◌, ℕ, ◌==◌, ◌&&◌, not, true, false, List, [], ◌++◌, map}
use Rattle.std.proofs.Common.{filter_map, Option, Some, None, option_map, is_some, refl, sym, ap}
use Rattle.std.proofs.Common.{◌∙◌, if◌then◌else◌}
use Rattle.std.proofs.lemmas.Bool.{and_parts, not-false, not-true}
use Rattle.std.proofs.lemmas.List.Elements.{filter_map-append}
use Rattle.market_terms.specs.Unpriced.{uncovered}
use Rattle.market_terms.specs.declared.closes.HitRefusal.TheVariants.{NotOpen}
use Rattle.market_terms.specs.declared.closes.Reply.{Reply}
use Rattle.market_terms.specs.declared.closes.Reply.TheVariants as reply
use Rattle.market_terms.specs.declared.duties.Duty.{Duty}
use Rattle.market_terms.specs.declared.duties.Duty.TheVariants as duty
use Rattle.market_terms.specs.declared.rooms.ResponseRef.{ResponseRef}
use Rattle.market_terms.specs.declared.rooms.RoomRef.{RoomRef}
use Rattle.venue_rows.specs.Rows.{Configuration, dealer_numbered}
use Rattle.venue_rows.specs.declared.dealer_rows.DealerRow.{DealerRow}
use Rattle.dealer_desk.specs.Unpriced as dealers
use Rattle.investor_desk.specs.InvestorFacts.{InvestorFact, Came, Closed, Gone, Offered}
use Rattle.investor_desk.specs.InvestorRules.{response_to}
use Rattle.investor_desk.specs.declared.standing.RequestClose.TheVariants as close
use Rattle.request_room.specs.Book.{expired}
use Rattle.request_room.specs.RoomFacts.{RoomFact, Ended, Noted, Posted, Unposted}
use Rattle.venue_steps.specs.declared.actors.Actor.{Actor}
use Rattle.venue_steps.specs.declared.actors.Actor.TheVariants as actor
use Rattle.step_replay.specs.Actions.{Dealer, Effect, acting_dealer, dealer_at, dealer_of, done_by}
use Rattle.step_replay.specs.Actions.{nothing}
use Rattle.step_replay.specs.DealerTrail.{AtDesk, DealerEntry, Sent}
use Rattle.step_replay.specs.InvestorTrail as investor_trail
use Rattle.step_replay.specs.InvestorTrail.{InvestorEntry}
use Rattle.step_replay.specs.VenueFacts.{AtDealer, AtInvestor, Fact, InRoom}
use Rattle.laws_days.specs.ActionCases.{numbered_both, numbered_does}
use Rattle.laws_isolation.specs.Silence.{acts_as_another, is_another}

-- What is left of a fact, where anything is.

-- at the dealer: no price, no cover, and nothing that it was sent
abbrev pub left_at_dealer : DealerEntry → Option DealerEntry
left_at_dealer (AtDesk fact) = Some (AtDesk (dealers.unpriced true fact))
left_at_dealer (Sent message) = None
left_at_dealer entry = Some entry

-- in a room: what the dealer itself did, and that it ended, not how
abbrev pub left_in_room : ℕ → RoomFact → Option RoomFact
left_in_room own (Posted quote) = if quote.dealer == own then Some (Posted quote) else None
left_in_room own (Unposted dealer word) =
    if dealer == own then Some (Unposted dealer word) else None
left_in_room own (Noted dealer) = if dealer == own then Some (Noted dealer) else None
left_in_room own (Ended end moment) = Some (Ended expired 0)
left_in_room own fact = Some fact

-- at an investor's desk: no quote, no bytes that came, and that a request was closed, not how
abbrev pub left_of_desk : InvestorFact → Option InvestorFact
left_of_desk (Offered shown) = None
left_of_desk (Gone request quote) = None
left_of_desk (Came moment bytes used) = Some (Came moment [] used)
left_of_desk (Closed request how) = Some (Closed request close.Passed)
left_of_desk fact = Some fact

-- at an investor's place: no event, and nothing that it was sent
abbrev pub left_at_investor : InvestorEntry → Option InvestorEntry
left_at_investor (investor_trail.AtDesk fact) =
    option_map (λ (f : InvestorFact). investor_trail.AtDesk f) (left_of_desk fact)
left_at_investor entry = None

-- in the venue
abbrev pub left_of : ℕ → Fact → Option Fact
left_of own (AtDealer dealer entry) =
    if dealer == own then option_map (AtDealer dealer) (left_at_dealer entry) else None
left_of own (InRoom room fact) = option_map (InRoom room) (left_in_room own fact)
left_of own (AtInvestor investor entry) = option_map (AtInvestor investor) (left_at_investor entry)

-- what is left of facts
unfoldable pub left : ℕ → List Fact → List Fact
left own facts = filter_map (left_of own) facts

pub left_append : (own : ℕ) (facts more : List Fact)
    → left own (facts ++ more) ≡ left own facts ++ left own more
unfolding left
left_append own facts more = filter_map-append (left_of own) facts more

-- What is left of a duty: not which quote a hit means, and not whether it was the cover that is
-- told.

-- no room, and no response
abbrev pub no_room : RoomRef
no_room = record { investor = 0; n = 0 }

abbrev pub no_response : ResponseRef
no_response = response_to [] None

abbrev pub left_answer : RoomRef → Reply → ℕ → Duty
left_answer room reply.Awarded moment = duty.Answer room no_response reply.Passed moment
left_answer room reply.Passed moment = duty.Answer room no_response reply.Passed moment
left_answer room (reply.Refused why) moment =
    duty.Answer no_room no_response (reply.Refused NotOpen) 0

abbrev pub left_duty : Duty → Duty
left_duty (duty.Hit room response word moment) = duty.Hit no_room no_response 0 moment
left_duty (duty.Answer room response reply moment) = left_answer room reply moment
left_duty (duty.Tell dealer room close moment) = duty.Tell dealer room (uncovered close) moment
left_duty other = other

-- Two actions add and leave the same, but for what is left out.
pub record AreAlike (own : ℕ) (one other : Effect) : Type 0 where
  pub facts_are : left own one.facts ≡ left own other.facts
  pub duties_are : map left_duty one.duties ≡ map left_duty other.duties

-- An action of which nothing is left.
pub record IsUnseen (own : ℕ) (effect : Effect) : Type 0 where
  pub no_facts : left own effect.facts ≡ []

-- One of which nothing is left, and which leaves nothing.
pub record IsHushed (own : ℕ) (effect : Effect) : Type 0 where
  pub no_facts : left own effect.facts ≡ []
  pub no_duties : effect.duties ≡ []

module _ (own : ℕ) where
  pub nothing_alike : AreAlike own nothing nothing
  nothing_alike = record { facts_are = refl; duties_are = refl }

  pub nothing_unseen : IsUnseen own nothing
  unfolding left
  nothing_unseen = record { no_facts = refl }

  pub nothing_hushed : IsHushed own nothing
  unfolding left
  nothing_hushed = record { no_facts = refl; no_duties = refl }

  pub hushed_unseen : (effect : Effect) → IsHushed own effect → IsUnseen own effect
  hushed_unseen effect hushed = record { no_facts = hushed.no_facts }

  pub hushed_alike : (one other : Effect) → IsHushed own one → IsHushed own other
      → AreAlike own one other
  hushed_alike one other first second = record {
    facts_are = first.no_facts ∙ sym second.no_facts;
    duties_are = ap (map left_duty) (first.no_duties ∙ sym second.no_duties);
  }

  pub same_alike : (one other : Effect) → one ≡ other → AreAlike own one other
  same_alike one other same = record {
    facts_are = ap (λ (e : Effect). left own e.facts) same;
    duties_are = ap (λ (e : Effect). map left_duty e.duties) same;
  }

  pub alike_then : (one two three : Effect) → AreAlike own one two → AreAlike own two three
      → AreAlike own one three
  alike_then one two three first second = record {
    facts_are = first.facts_are ∙ second.facts_are;
    duties_are = first.duties_are ∙ second.duties_are;
  }

  pub alike_back : (one two : Effect) → AreAlike own one two → AreAlike own two one
  alike_back one two first = record {
    facts_are = sym first.facts_are;
    duties_are = sym first.duties_are;
  }

-- The dealer that acts: where the actor is no other dealer, it is this one.

module _ (config : Configuration) (own : ℕ) where
  its_own : (number : ℕ) (row : DealerRow) → dealer_numbered config number ≡ Some row
      → is_another config own number ≡ false → (number == own) ≡ true
  its_own number row is isnt =
      not-false (number == own)
      (sym (ap (λ (o : Option DealerRow). is_some o && not (number == own)) is) ∙ isnt)

  anothers : (number : ℕ) → is_another config own number ≡ true → (number == own) ≡ false
  anothers number is =
      not-true (number == own)
      (and_parts (is_some (dealer_numbered config number)) (not (number == own)) is).1

  pub numbered_own : (number : ℕ) → is_another config own number ≡ false
      → (one other : Dealer → Effect)
      → ((dealer : Dealer) → (dealer.number == own) ≡ true
      → AreAlike own (one dealer) (other dealer))
      → AreAlike own (done_by (dealer_at config number) one)
      (done_by (dealer_at config number) other)
  numbered_own number isnt one other each =
      numbered_both (AreAlike own) (nothing_alike own) config number one other
      (λ row is. each (dealer_of number row) (its_own number row is isnt))

  pub acting_own : (by : Actor) → acts_as_another config own by ≡ false
      → (one other : Dealer → Effect)
      → ((dealer : Dealer) → (dealer.number == own) ≡ true
      → AreAlike own (one dealer) (other dealer))
      → AreAlike own (done_by (acting_dealer config by) one)
      (done_by (acting_dealer config by) other)
  acting_own (actor.Firm number) isnt one other each = numbered_own number isnt one other each
  acting_own actor.Clock isnt one other each = nothing_alike own

  -- the dealer that acts, where another one acts
  pub numbered_other : (number : ℕ) → is_another config own number ≡ true
      → (one : Dealer → Effect)
      → ((dealer : Dealer) → (dealer.number == own) ≡ false → IsUnseen own (one dealer))
      → IsUnseen own (done_by (dealer_at config number) one)
  numbered_other number is one each =
      numbered_does (IsUnseen own) (nothing_unseen own) config number one
      (λ row found. each (dealer_of number row) (anothers number is))

  pub acting_other : (by : Actor) → acts_as_another config own by ≡ true → (one : Dealer → Effect)
      → ((dealer : Dealer) → (dealer.number == own) ≡ false → IsUnseen own (one dealer))
      → IsUnseen own (done_by (acting_dealer config by) one)
  acting_other (actor.Firm number) is one each = numbered_other number is one each
  acting_other actor.Clock is one each = cc
