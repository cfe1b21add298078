mod ActionTexts
mod ArrivalTexts
mod BarLemmas
pub mod Bodies
mod CarriedBack
pub mod CarriedLemmas
pub mod Choices
mod CountedLemmas
mod Crossing
mod DayTexts
mod DealerSaid
mod DealerTexts
mod DutyTexts
mod FieldValues
pub mod Fronts
mod InvestorSaid
mod InvestorTexts
mod Lengths
mod MessageCounts
mod MessageFields
mod MessageLemmas
mod Pieces
mod SaidMessages
mod Taken
mod WrittenFrames
