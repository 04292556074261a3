pub mod AsBox
pub mod Marked
