pub mod Status
pub mod EventNumbers
pub mod Row
pub mod Sets
pub mod Scheduler
pub mod Handle
pub mod Traces
