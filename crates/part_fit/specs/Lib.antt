pub mod Parts
pub mod FirstFit
pub mod ProcessorLoads
pub mod Partition
pub mod PartWork
pub mod Numbering
