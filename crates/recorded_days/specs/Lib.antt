pub mod DayDues
pub mod Kinds
pub mod Records
