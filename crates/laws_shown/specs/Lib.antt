pub mod Said
pub mod ShownQuotes
pub mod ShownRequests
