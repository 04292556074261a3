pub mod ReportText
pub mod ReleaseTimes
pub mod PendingReleases
pub mod TaskTally
pub mod Tally
pub mod Counts
