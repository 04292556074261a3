pub mod Parted
pub mod Partition
pub mod RunAll
pub mod Runs
pub mod Planned
pub mod Traced
