mod BookLemmas
mod BookPush
mod DeskLemmas
mod DutyLemmas
mod GrowthLemmas
mod IndexLemmas
mod KeptLemmas
mod ListLemmas
mod LiveReaders
mod MapLemmas
mod NoteLemmas
mod NotedFacts
mod NoticeLemmas
mod QuoteChanges
mod ReaderLemmas
mod RefusalLemmas
mod SoundLemmas
mod StandLemmas
mod StandingWords
mod TableClosing
mod TableGrowth
mod TableLemmas
mod TableReads
pub mod UnpricedBooks
pub mod UnpricedVerdicts
mod VerdictLemmas
mod WordEvents
mod WordLemmas
