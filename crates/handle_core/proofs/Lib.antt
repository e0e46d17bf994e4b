mod AsBox
mod There
pub mod Codes
pub mod Refused
pub mod Due
pub mod Made
pub mod Chunks
pub mod Again
