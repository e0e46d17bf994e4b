pub mod Histories
pub mod Filled
pub mod WholeLife
