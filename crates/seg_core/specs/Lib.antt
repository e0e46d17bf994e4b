pub mod Segment
pub mod Laws
