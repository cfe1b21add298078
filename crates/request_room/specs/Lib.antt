pub mod Book
pub mod Kept
pub mod RoomFacts
pub mod Unpriced
