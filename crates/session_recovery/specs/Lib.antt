pub mod Notes
pub mod Recovered
pub mod Puts
pub mod Refusals
