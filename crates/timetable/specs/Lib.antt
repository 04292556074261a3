pub mod Ticks
pub mod Floor
pub mod Plans
pub mod Needs
pub mod Shape
pub mod OneTrace
