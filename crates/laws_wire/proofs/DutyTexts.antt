-- What each action of the venue adds for a dealer, and what it leaves to be done: the texts and
-- moments may be said.
use Rattle.std.proofs.Common.{◌≡◌, ℕ, List, [], ◌∷◌, map}
use Rattle.std.proofs.Common.{Some, option_to_list}
use Rattle.market_terms.specs.declared.duties.Duty.{Duty}
use Rattle.market_terms.specs.declared.duties.Duty.TheVariants as duty
use Rattle.venue_rows.specs.Rows.{Configuration, dealer_numbered, investor_numbered}
use Rattle.venue_rows.specs.declared.dealer_rows.DealerRow.{DealerRow}
use Rattle.venue_rows.specs.declared.investor_rows.InvestorRow.{InvestorRow}
use Rattle.investor_desk.specs.InvestorOutput as investor_output
use Rattle.investor_desk.specs.InvestorRules.{InvestorMarket}
use Rattle.investor_desk.specs.declared.verdicts.InvestorVerdict.{InvestorVerdict}
use Rattle.investor_desk.specs.declared.verdicts.InvestorVerdict.TheVariants as answer
use Rattle.step_replay.specs.Actions.{Effect}
use Rattle.step_replay.specs.DealerTrail as dealer_trail
use Rattle.step_replay.specs.DealerTrail.{DealerEntry}
use Rattle.step_replay.specs.Lists.{Every}
use Rattle.step_replay.specs.InvestorTrail.{Happened}
use Rattle.step_replay.specs.VenueFacts.{AtDealer, AtInvestor, Fact, InRoom}
use Rattle.recorded_days.specs.Kinds.{moment_of}
use Rattle.laws_wire.proofs.DealerTexts as dealer
use Rattle.laws_wire.proofs.FieldValues.{IsGiven}
use Rattle.laws_wire.proofs.InvestorTexts as investor
use Rattle.laws_wire.proofs.InvestorTexts.{OfferGiven}
use Rattle.laws_wire.proofs.MessageFields.{AskGiven, IfMoment}

-- a duty: its moment, and what else it bears
abbrev pub DutyGiven : (ℕ → Type 0) → Duty → Type 0
DutyGiven D (duty.Open at ask dealers moment) = AskGiven D ask × D moment
DutyGiven D (duty.Show dealer at ask moment) = AskGiven D ask × D moment
DutyGiven D (duty.Post at quote price valid_until moment) = IfMoment D valid_until × D moment
DutyGiven D (duty.Relay at offer moment) = OfferGiven D offer × D moment
DutyGiven D (duty.Hit at response word moment) = IsGiven response.id × D moment
DutyGiven D (duty.Pass at response moment) = IsGiven response.id × D moment
DutyGiven D (duty.Answer at response reply moment) = IsGiven response.id × D moment
DutyGiven D other = D (moment_of other)

-- a fact, as far as a due list says it
abbrev pub EntryGiven : (ℕ → Type 0) → DealerEntry → Type 0
EntryGiven D (dealer_trail.AtDesk fact) = dealer.FactGiven D fact
EntryGiven D other = Unit {0}

abbrev pub FactGiven : (ℕ → Type 0) → Fact → Type 0
FactGiven D (AtDealer number entry) = EntryGiven D entry
FactGiven D (InRoom at fact) = Unit {0}
FactGiven D (AtInvestor number (Happened event)) = investor.EventGiven D event
FactGiven D (AtInvestor number entry) = Unit {0}

-- what an action adds and leaves
pub record EffectGiven (D : ℕ → Type 0) (effect : Effect) : Type 0 where
  pub facts : Every (FactGiven D) effect.facts
  pub duties : Every (DutyGiven D) effect.duties

-- each firm of a configuration has a name that may be said
pub record AreNamed (config : Configuration) : Type 0 where
  pub dealers : (number : ℕ) (row : DealerRow) → dealer_numbered config number ≡ Some row
      → IsGiven row.name
  pub investors : (number : ℕ) (row : InvestorRow) → investor_numbered config number ≡ Some row
      → IsGiven row.name

pub each_mapped : {A B : Type 0} (P : B → Type 0) (f : A → B) (xs : List A)
    → Every (λ (x : A). P (f x)) xs → Every P (map f xs)
each_mapped P f [] every = tt
each_mapped P f (x ∷ xs) every = (every.0, each_mapped P f xs every.1)

module _ (D : ℕ → Type 0) where
  -- what an investor's verdict leaves
  pub investor_leaves : (market : InvestorMarket) (moment : ℕ) (v : InvestorVerdict)
      → investor.VerdictGiven D v → D moment
      → Every (DutyGiven D) (option_to_list (investor_output.verdict_duty market moment v))
  investor_leaves market moment (answer.RequestAccepted id request) given day =
      ((given.1.1, day), tt)
  investor_leaves market moment (answer.Hits request response word) given day = ((given.1, day), tt)
  investor_leaves market moment (answer.Passes request response) given day = ((given.1, day), tt)
  investor_leaves market moment other given day = tt
