-- What the laws of a desk say of what its messages leave to be done, and of what is noted.
use Rattle.std.specs.Prelude.{◌≡◌, ◌≤◌, ◌<◌, true, List, [], ◌∷◌, length, Option, Some, None, All}
use Rattle.market_terms.specs.Dealers.{are_askable}
use Rattle.market_terms.specs.declared.rooms.RoomRef.{RoomRef}
use Rattle.market_terms.specs.declared.duties.Duty.{Duty}
use Rattle.market_terms.specs.declared.duties.Duty.TheVariants as duty
use Rattle.investor_desk.specs.InvestorFacts.{InvestorFact, Came, Closed, InvestorBook}
use Rattle.investor_desk.specs.InvestorRules.{InvestorMarket, investor_verdict}
use Rattle.investor_desk.specs.InvestorOutput.{award_note, verdict_note}
use Rattle.investor_desk.specs.declared.notes.InvestorNote.{InvestorNote}

-- a room of one of the investor's requests of the day
pub record IsOwnRoom (market : InvestorMarket) (room : RoomRef) : Type 0 where
  pub investor_is : room.investor ≡ market.firm
  pub from_first : 1 ≤ room.n
  pub to_last : room.n ≤ market.row.requests

-- what is left to be done is so in a room of the day, and a request names 1 to 8 dealers of the
-- venue, none of them twice
abbrev pub IsOfDay : InvestorMarket → Duty → Type 0
IsOfDay market (duty.Open room ask dealers moment) =
    IsOwnRoom market room × (are_askable dealers ≡ true)
    × All (λ dealer. dealer < length market.dealers) dealers
IsOfDay market (duty.Hit room response word moment) = IsOwnRoom market room
IsOfDay market (duty.Pass room response moment) = IsOwnRoom market room
IsOfDay market other = Unit {0}

-- What is noted of an event, by the facts that it adds.

-- the last of these facts
abbrev pub last_fact : List InvestorFact → Option InvestorFact
last_fact [] = None
last_fact (fact ∷ []) = Some fact
last_fact (fact ∷ facts) = last_fact facts

-- what is noted of an event whose last fact is this one, given the book as it stood
abbrev pub fact_note : InvestorMarket → InvestorBook → Option InvestorFact → Option InvestorNote
fact_note market book (Some (Came moment bytes used)) =
    verdict_note (investor_verdict market book moment bytes)
fact_note market book (Some (Closed request close)) = award_note (Some close)
fact_note market book other = None
