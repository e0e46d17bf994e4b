pub mod Program
pub mod ProgramError
pub mod Request
pub mod Schedule
