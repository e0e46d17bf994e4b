pub mod Caller
pub mod Grows
pub mod Words
