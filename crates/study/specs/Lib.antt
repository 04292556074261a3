pub mod Stretch
pub mod Loads
pub mod Acceptance
pub mod Levels
pub mod Shares
