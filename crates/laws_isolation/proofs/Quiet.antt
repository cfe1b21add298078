-- A day without what other dealers did, and without what investors were shown and sent: all of it
-- that a dealer's own part of the day can depend on, as long as nobody hits. Actions that add and
-- leave the same, but for what is left out of it.
use Rattle.std.proofs.Common.{◌≡◌, ℕ, ◌==◌, Bool, true, false, not, ◌&&◌, [], filter, Option, Some}
use Rattle.std.proofs.Common.{is_some, refl, sym, ap, ◌∙◌}
use Rattle.std.proofs.lemmas.Bool.{and_parts, not-false, not-true}
use Rattle.market_terms.specs.declared.duties.Duty.{Duty}
use Rattle.market_terms.specs.declared.duties.Duty.TheVariants as duty
use Rattle.market_terms.specs.declared.closes.Reply.{Reply}
use Rattle.market_terms.specs.declared.closes.Reply.TheVariants as reply
use Rattle.venue_rows.specs.Rows.{Configuration, dealer_numbered}
use Rattle.venue_rows.specs.declared.dealer_rows.DealerRow.{DealerRow}
use Rattle.investor_desk.specs.InvestorFacts.{InvestorFact, Offered, Gone}
use Rattle.request_room.specs.RoomFacts.{RoomFact, Posted, Unposted, Noted}
use Rattle.venue_steps.specs.declared.actors.Actor.{Actor}
use Rattle.venue_steps.specs.declared.actors.Actor.TheVariants as actor
use Rattle.step_replay.specs.AuditTrail.{AuditTrail}
use Rattle.step_replay.specs.InvestorTrail.{InvestorEntry, AtDesk}
use Rattle.step_replay.specs.VenueFacts.{Fact, AtDealer, InRoom, AtInvestor}
use Rattle.step_replay.specs.Actions.{Effect, Dealer, nothing, done_by, dealer_of, dealer_at}
use Rattle.step_replay.specs.Actions.{acting_dealer}
use Rattle.laws_days.specs.DayParts.{part}
use Rattle.laws_days.specs.ActionCases.{numbered_both, numbered_does}
use Rattle.laws_days.specs.DealerDuties.{IsQuoting}
use Rattle.laws_isolation.specs.Silence.{acts_as_another, is_another}

-- Facts.

-- whether a fact of a room stays: posts, unposts and declines of other dealers don't
abbrev pub stays_in_room : ℕ → RoomFact → Bool
stays_in_room own (Posted quote) = quote.dealer == own
stays_in_room own (Unposted dealer word) = dealer == own
stays_in_room own (Noted dealer) = dealer == own
stays_in_room own fact = true

-- whether a fact of an investor's desk stays: no quote does
abbrev pub stays_at_desk : InvestorFact → Bool
stays_at_desk (Offered shown) = false
stays_at_desk (Gone request quote) = false
stays_at_desk fact = true

-- whether an entry at an investor's place stays: no event does, and nothing that it was sent
abbrev pub stays_there : InvestorEntry → Bool
stays_there (AtDesk fact) = stays_at_desk fact
stays_there entry = false

-- whether a fact stays
abbrev pub stays : ℕ → Fact → Bool
stays own (AtDealer dealer entry) = dealer == own
stays own (InRoom room fact) = stays_in_room own fact
stays own (AtInvestor investor entry) = stays_there entry

-- The day.

-- whether the duties and turns of an actor stay: those of other dealers don't
abbrev pub acts : Configuration → ℕ → Actor → Bool
acts config own by = not (acts_as_another config own by)

-- the day without what other dealers did
abbrev pub quiet : Configuration → ℕ → AuditTrail → AuditTrail
quiet config own trail = part (stays own) (acts config own) trail

-- Duties.

-- whether a reply is no award
abbrev pub is_no_award : Reply → Bool
is_no_award reply.Awarded = false
is_no_award other = true

-- whether a duty is neither a hit nor the answer of one that awards
abbrev pub is_plain : Duty → Bool
is_plain (duty.Hit room response word moment) = false
is_plain (duty.Answer room response reply moment) = is_no_award reply
is_plain other = true

-- the same as a fact
abbrev pub IsPlain : Duty → Type 0
IsPlain more = is_plain more ≡ true

-- what a duty in the queue of an actor is: of another dealer, one that its steps lead to
abbrev pub SuitsIf : Bool → Duty → Type 0
SuitsIf true more = IsQuoting more
SuitsIf false more = IsPlain more

abbrev pub Suits : Configuration → ℕ → Actor → Duty → Type 0
Suits config own by more = SuitsIf (acts_as_another config own by) more

-- Two actions add the same, but for what is left out, and leave the same.
pub record AreAlike (own : ℕ) (one other : Effect) : Type 0 where
  pub facts_are : filter (stays own) one.facts ≡ filter (stays own) other.facts
  pub duties_are : one.duties ≡ other.duties

-- An action of which nothing stays.
pub record IsUnseen (own : ℕ) (effect : Effect) : Type 0 where
  pub no_facts : filter (stays own) effect.facts ≡ []

-- One of which nothing stays, and which leaves nothing.
pub record IsHushed (own : ℕ) (effect : Effect) : Type 0 where
  pub no_facts : filter (stays own) effect.facts ≡ []
  pub no_duties : effect.duties ≡ []

module _ (own : ℕ) where
  pub nothing_alike : AreAlike own nothing nothing
  nothing_alike = record { facts_are = refl; duties_are = refl }

  pub nothing_unseen : IsUnseen own nothing
  nothing_unseen = record { no_facts = refl }

  pub nothing_hushed : IsHushed own nothing
  nothing_hushed = record { no_facts = refl; no_duties = refl }

  pub hushed_unseen : (effect : Effect) → IsHushed own effect → IsUnseen own effect
  hushed_unseen effect hushed = record { no_facts = hushed.no_facts }

  pub hushed_alike : (one other : Effect) → IsHushed own one → IsHushed own other
      → AreAlike own one other
  hushed_alike one other first second = record {
    facts_are = first.no_facts ∙ sym second.no_facts;
    duties_are = first.no_duties ∙ sym second.no_duties;
  }

  pub same_alike : (one other : Effect) → one ≡ other → AreAlike own one other
  same_alike one other same = record {
    facts_are = ap (λ (e : Effect). filter (stays own) e.facts) same;
    duties_are = ap (λ (e : Effect). e.duties) same;
  }

-- The dealer that acts: where the actor is no other dealer, it is this one.

module _ (config : Configuration) (own : ℕ) where
  its_own : (number : ℕ) (row : DealerRow) → dealer_numbered config number ≡ Some row
      → is_another config own number ≡ false → (number == own) ≡ true
  its_own number row is isnt =
      not-false (number == own)
      (sym (ap (λ (o : Option DealerRow). is_some o && not (number == own)) is) ∙ isnt)

  anothers : (number : ℕ) → is_another config own number ≡ true → (number == own) ≡ false
  anothers number is =
      not-true (number == own)
      (and_parts (is_some (dealer_numbered config number)) (not (number == own)) is).1

  pub numbered_own : (number : ℕ) → is_another config own number ≡ false
      → (one other : Dealer → Effect)
      → ((dealer : Dealer) → (dealer.number == own) ≡ true
      → AreAlike own (one dealer) (other dealer))
      → AreAlike own (done_by (dealer_at config number) one)
      (done_by (dealer_at config number) other)
  numbered_own number isnt one other each =
      numbered_both (AreAlike own) (nothing_alike own) config number one other
      (λ row is. each (dealer_of number row) (its_own number row is isnt))

  pub acting_own : (by : Actor) → acts_as_another config own by ≡ false
      → (one other : Dealer → Effect)
      → ((dealer : Dealer) → (dealer.number == own) ≡ true
      → AreAlike own (one dealer) (other dealer))
      → AreAlike own (done_by (acting_dealer config by) one)
      (done_by (acting_dealer config by) other)
  acting_own (actor.Firm number) isnt one other each = numbered_own number isnt one other each
  acting_own actor.Clock isnt one other each = nothing_alike own

  -- the dealer that acts, where another one acts
  pub numbered_other : (number : ℕ) → is_another config own number ≡ true
      → (one : Dealer → Effect)
      → ((dealer : Dealer) → (dealer.number == own) ≡ false → IsUnseen own (one dealer))
      → IsUnseen own (done_by (dealer_at config number) one)
  numbered_other number is one each =
      numbered_does (IsUnseen own) (nothing_unseen own) config number one
      (λ row found. each (dealer_of number row) (anothers number is))

  pub acting_other : (by : Actor) → acts_as_another config own by ≡ true → (one : Dealer → Effect)
      → ((dealer : Dealer) → (dealer.number == own) ≡ false → IsUnseen own (one dealer))
      → IsUnseen own (done_by (acting_dealer config by) one)
  acting_other (actor.Firm number) is one each = numbered_other number is one each
  acting_other actor.Clock is one each = cc
