mod AskingSeen
mod DayDueLemmas
mod DaySeenLemmas
mod DayViewLemmas
mod DeskLemmas
mod NoticeSeen
