pub mod CommandLemmas
pub mod DayTextLemmas
pub mod PrintLemmas
