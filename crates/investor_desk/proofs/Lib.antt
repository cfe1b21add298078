mod BookLemmas
mod BookPush
mod DealerLemmas
mod DeskLemmas
mod IndexLemmas
mod KeptLemmas
mod ListLemmas
mod ReaderLemmas
mod StandLemmas
pub mod UnpricedDesks
mod VerdictLemmas
mod WriteLemmas
