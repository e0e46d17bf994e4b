pub mod Events
pub mod Legal
pub mod History
