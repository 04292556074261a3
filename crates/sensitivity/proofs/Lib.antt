pub mod Between
pub mod Budgets
pub mod Changes
pub mod Admitted
pub mod Speeds
