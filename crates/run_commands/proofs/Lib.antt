pub mod PlannedTrace
pub mod LiveCapacity
pub mod TraceBytes
