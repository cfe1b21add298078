mod DealerNames
mod HeaderLines
mod NumberedActions
mod NumberedCounts
mod NumberedDays
mod NumberedDesks
mod NumberedDuties
mod NumberedEffects
mod NumberedMessages
mod OfferCounts
mod ReadAgain
pub mod RoomCounts
mod SayableActions
mod SayableDays
mod SayableDues
mod SayableDuties
pub mod SayableEffects
mod SayableItems
mod SayableTrails
mod SayableVerdicts
mod SpelledMessages
pub mod SpelledSteps
mod TraderNames
