pub mod Uses
pub mod Places
pub mod CallSteps
pub mod Traces
