pub mod Stretch
pub mod Accept
