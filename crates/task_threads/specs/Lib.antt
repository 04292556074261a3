pub mod Passes
pub mod Workers
pub mod Starts
pub mod LiveCalls
pub mod LivePasses
pub mod LiveLeft
