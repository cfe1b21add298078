pub mod Checks
pub mod Codes
pub mod Dealers
pub mod Rooms
pub mod Texts
pub mod DayLines
pub mod Unpriced
