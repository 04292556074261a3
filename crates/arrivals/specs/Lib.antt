pub mod Notes
pub mod Arrived
