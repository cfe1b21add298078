mod AnswerLemmas
mod BlindDues
pub mod Common
mod ComputedDays
pub mod ConditionMet
mod ErasedSteps
mod Erasing
pub mod FirmNames
mod InvestorVerdicts
pub mod KnownDesks
mod LaterLemmas
pub mod ListLemmas
mod LiveLemmas
pub mod LiveQuotes
pub mod NewsWalk
pub mod NoticeLemmas
pub mod PlainFacts
mod PricedFields
mod PricedMessages
mod SettledSteps
pub mod ShownRequests
mod SweepLemmas
pub mod ToldLemmas
mod TurnLemmas
mod UnmetTests
mod UnreadDealer
mod UnreadInvestor
pub mod VenueDay
pub mod VenueDesk
pub mod VenueEnds
pub mod VenueHits
pub mod VenueInvariant
pub mod VenueKinds
pub mod VenueKnown
pub mod VenueMarkets
pub mod VenueParts
pub mod VenueRooms
pub mod VenueSteps
pub mod VenueTurns
