pub mod BroughtLemmas
pub mod DealerAnswers
pub mod DealerLockLemmas
pub mod FaultLemmas
pub mod KeepLemmas
pub mod LockLemmas
pub mod ShiftLemmas
pub mod WatchedLemmas
