pub mod Carriable
pub mod Carried
pub mod Sound
pub mod VenueMessages
