pub mod Adding
pub mod Closings
pub mod Counting
pub mod Histories
mod Newest
pub mod Once
pub mod Shows
