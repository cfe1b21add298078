pub mod Band
pub mod Decimal
pub mod Grid
pub mod Price
pub mod ThirtySeconds
