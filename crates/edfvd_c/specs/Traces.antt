-- What the clauses of `src/traces` cite.
pub mod Judged
pub mod Monitor
