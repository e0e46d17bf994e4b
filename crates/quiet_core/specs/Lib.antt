pub mod QuietList
pub mod Resizing
pub mod Between
pub mod QuietAt
pub mod Segments
pub mod IntoVec
pub mod Errors
