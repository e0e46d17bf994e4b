pub mod Errors
pub mod calls
pub mod machine
