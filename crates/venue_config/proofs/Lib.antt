pub mod ConfigLemmas
pub mod FaultLemmas
pub mod LimitLemmas
pub mod RowLemmas
pub mod ValueLemmas
