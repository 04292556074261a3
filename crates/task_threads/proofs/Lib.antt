mod InOrder
mod OneTrace
pub mod LiveLaw
pub mod LivePasses
pub mod LiveRoom
pub mod LiveLeft
pub mod LiveClose
