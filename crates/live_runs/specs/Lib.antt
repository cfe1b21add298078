pub mod LineForms
pub mod LiveCalls
pub mod LiveRuns
pub mod LiveStages
pub mod Written
