pub mod NameForm
pub mod Name
pub mod TaskSet
pub mod Kinds
pub mod Faults
pub mod Refusals
