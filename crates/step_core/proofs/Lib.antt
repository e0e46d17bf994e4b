pub mod whole_calls
pub mod atomic_steps
