mod Least
mod ProcessorLoads
mod LoadSums
mod Numbers
mod OnOne
pub mod Placed
pub mod Sublists
pub mod WorkRows
