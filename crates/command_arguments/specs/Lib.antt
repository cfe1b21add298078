pub mod ArgumentWords
pub mod Arguments
