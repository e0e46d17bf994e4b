mod FirstMade
pub mod Leaves
pub mod Matrix
pub mod Values
