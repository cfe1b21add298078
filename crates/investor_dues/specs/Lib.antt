pub mod DueDays
