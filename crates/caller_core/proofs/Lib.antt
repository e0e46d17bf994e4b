mod Cases
pub mod Kept
pub mod LastTokens
