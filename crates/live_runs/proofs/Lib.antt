pub mod PartLemmas
pub mod LimitLemmas
pub mod LineLemmas
pub mod FeedLemmas
pub mod StreamLemmas
mod GainLemmas
mod DayLineLemmas
pub mod TwoDayLemmas
mod ConfigurationLemmas
mod RefusalLemmas
mod StageLemmas
mod TurnLemmas
mod ByteLemmas
mod EndLemmas
mod RunLemmas
