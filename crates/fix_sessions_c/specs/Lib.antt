pub mod States
pub mod Told
pub mod Wires
