mod ActionLemmas
mod ActionWalks
mod AnswerLemmas
mod ArrivalLemmas
mod AwardLemmas
mod CheckLemmas
pub mod DayLemmas
mod InboxLemmas
pub mod JoinedLemmas
pub mod KeptLemmas
pub mod LeftLemmas
pub mod MovedLists
mod OnceLemmas
mod OutputLemmas
mod PromiseLemmas
mod RelayLemmas
pub mod RoomLemmas
mod RoomNames
mod RoomPromises
mod RoomsApart
mod ShownLemmas
pub mod SweptLemmas
mod ToldLemmas
mod ViewLemmas
