pub mod ToFirm
pub mod ToVenue
pub mod Unwritten
