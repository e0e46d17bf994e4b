pub mod Sweep
pub mod Sums
