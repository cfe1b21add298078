pub mod Apart
pub mod DayViews
pub mod DayWords
pub mod Presence
pub mod Silence
