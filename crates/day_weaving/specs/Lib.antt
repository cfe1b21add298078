pub mod DayForm
pub mod DayOrder
pub mod OrderCounts
pub mod OrderLaws
pub mod OrderPlaces
pub mod OrderSearch
pub mod Weaving
