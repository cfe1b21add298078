pub mod BlotterText
pub mod LineCuts
