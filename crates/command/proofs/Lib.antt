pub mod Outcomes
pub mod Written
pub mod Serving
mod RuleOf
