pub mod Owned
pub mod Lending
pub mod Held
pub mod Status
pub mod Outcomes
pub mod Calls
pub mod Lists
