pub mod Run
pub mod Live
pub mod Soak
pub mod Jobs
pub mod Planned
