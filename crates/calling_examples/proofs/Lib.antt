pub mod Lives
pub mod Logs
pub mod Passes
pub mod Steps
pub mod Ticks
