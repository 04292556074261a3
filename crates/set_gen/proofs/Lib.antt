pub mod WordLemmas
pub mod Periods
pub mod GeneratedTasks
pub mod Utilisations
pub mod Admitted
pub mod Plans
pub mod JobRows
pub mod ReleaseCount
pub mod Scans
pub mod Gaps
pub mod Taken
pub mod Draws
pub mod Drawn
mod WorkedWorkloads
