pub mod Whole
pub mod Betweens
pub mod Compacted
