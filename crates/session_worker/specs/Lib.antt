pub mod Comings
pub mod Locks
pub mod Shifts
pub mod Watched
