pub mod Runs
pub mod ThreadedDays
