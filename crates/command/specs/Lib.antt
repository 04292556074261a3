pub mod Command
pub mod Outcome
pub mod Written
pub mod Serves
pub mod Within
pub mod Admitted
pub mod Given
