pub mod Tie
pub mod Desk
pub mod Permits
pub mod Run
pub mod Visit
pub mod Tags
