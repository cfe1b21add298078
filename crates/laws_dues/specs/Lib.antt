pub mod ReadDays
pub mod SaidSteps
