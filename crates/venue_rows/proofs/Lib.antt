pub mod FirmLemmas
pub mod TextLemmas
pub mod SameRows
