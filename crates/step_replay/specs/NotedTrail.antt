-- What is noted beside the messages that an investor was sent, as a function of what became so at its
-- place: a note follows from the last fact before its message.
use Rattle.std.specs.Prelude.{◌≡◌, List, [], ◌∷◌, ◌++◌, fold, Option, Some, None}
use Rattle.investor_desk.specs.DeskLaws.{fact_note}
use Rattle.investor_desk.specs.InvestorFacts.{InvestorFact, book_of}
use Rattle.investor_desk.specs.InvestorOutput.{investor_notes}
use Rattle.investor_desk.specs.InvestorRules.{InvestorMarket}
use Rattle.investor_desk.specs.declared.events.InvestorEvent.{InvestorEvent}
use Rattle.investor_desk.specs.declared.notes.InvestorNote.{InvestorNote}
use Rattle.step_replay.specs.InvestorTrail.{InvestorEntry, Happened, AtDesk, Sent, facts_of}

-- how far a trail has come: the facts so far, what is noted beside the message that comes next, and
-- the notes so far
pub record NotedSoFar : Type 0 where
  pub facts : List InvestorFact
  pub next : Option InvestorNote
  pub notes : List (Option InvestorNote)

abbrev pub noted_so : List InvestorFact → Option InvestorNote → List (Option InvestorNote)
    → NotedSoFar
noted_so facts next notes = record { facts = facts; next = next; notes = notes }

-- one entry more: a fact says what is noted beside the message that comes next, and the one that
-- comes after that has no note. An event says nothing itself.
abbrev pub noted_after : InvestorMarket → NotedSoFar → InvestorEntry → NotedSoFar
noted_after market so_far (Happened event) = so_far
noted_after market so_far (AtDesk fact) =
    noted_so (so_far.facts ++ fact ∷ []) (fact_note market (book_of so_far.facts) (Some fact))
    so_far.notes
noted_after market so_far (Sent message) =
    noted_so so_far.facts None (so_far.notes ++ so_far.next ∷ [])

-- all of a trail
unfoldable pub noted_in : InvestorMarket → List InvestorEntry → NotedSoFar
noted_in market trail = fold (noted_after market) (noted_so [] None []) trail

-- the notes beside the messages of a trail
abbrev pub notes_by : InvestorMarket → List InvestorEntry → List (Option InvestorNote)
notes_by market trail = (noted_in market trail).notes

-- these events at a desk have noted what the trail says
abbrev pub NotedAs : InvestorMarket → List InvestorEvent → List InvestorEntry → Type 0
NotedAs market events trail =
    noted_in market trail ≡ noted_so (facts_of trail) None (investor_notes market events)
