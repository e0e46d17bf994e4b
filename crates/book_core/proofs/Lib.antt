pub mod Histories
pub mod Lists
pub mod Runs
pub mod EventRows
pub mod EventEffects
pub mod WrittenPlaces
