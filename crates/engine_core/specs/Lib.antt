pub mod Output
pub mod Reading
pub mod RunError
pub mod Trace
