pub mod Cells
pub mod Commands
pub mod Errors
pub mod Events
pub mod History
pub mod Laws
