pub mod DeskView
pub mod InvestorDues
pub mod InvestorView
pub mod NoteView
