pub mod TickLemmas
pub mod NextRun
pub mod PackLemmas
pub mod LineLemmas
pub mod WrittenLemmas
pub mod RunsOfSet
pub mod TenDigits
pub mod FirstRun
