pub mod Budgets
pub mod Changes
pub mod Scales
pub mod Speeds
