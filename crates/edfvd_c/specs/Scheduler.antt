-- What the clauses of `src/scheduler` cite.
pub mod Opening
pub mod Certified
pub mod Event
pub mod Look
pub mod Latest
pub mod Slots
pub mod Runs
pub mod Restarts
