pub mod Frame
pub mod Envelope
pub mod Clock
pub mod Garbled
pub mod Scan
pub mod TextLaws
pub mod UtcTimestamp
pub mod TimeOfDay
