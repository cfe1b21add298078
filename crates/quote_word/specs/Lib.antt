pub mod Board
pub mod BoardLaws
pub mod PlainWords
pub mod PlainWordsLaws
pub mod Rule
pub mod SettleLog
pub mod SettleLogLaws
pub mod Settlements
