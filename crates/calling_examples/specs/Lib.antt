pub mod Admitted
pub mod Handed
pub mod Jobs
pub mod Live
pub mod Loop
pub mod Watched
