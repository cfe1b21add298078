pub mod ErasedLists
pub mod IdTexts
