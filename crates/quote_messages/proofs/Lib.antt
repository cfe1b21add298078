pub mod GroupLemmas
pub mod NumberLemmas
pub mod SessionLemmas
pub mod PlaceLemmas
pub mod SlotLemmas
pub mod TextLemmas
pub mod TurnLemmas
pub mod WritingLemmas
